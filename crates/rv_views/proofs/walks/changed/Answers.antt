use Rattle.std.proofs.Common.{◌≡◌, ℕ, ◌==◌, ◌&&◌, List, [], ◌∷◌, ◌++◌, refl, sym, ap, ◌∙◌, arith}
use Rattle.std.specs.Str.{bytes_eq}
use Rattle.rv_views.specs.Viewed.{client_of_pair}
use Rattle.rv_views.specs.Difference.{is_among}
use Rattle.rv_views.proofs.Merges.{rest_order, taken, passed}
use Rattle.rv_views.proofs.walks.changed.Goals as goal
use Rattle.rv_views.proofs.walks.changed.Goals.{then-not-begins_with_client+in_ok-copy+in_ok-push, else-not-begins_with_client}

pub loop-client-preserved : goal.loop-client-preserved
unfolding is_among
loop-client-preserved g c = record {
  ahead = elim c.if-not-begins_with_client.branch [
    | then-not-begins_with_client+in_ok-copy+in_ok-push w ↦
        let kept : c.if-not-begins_with_client.ids ≡ c.loop-client.ids ++ c.client-item.result ∷ [] = w.ids-is ∙ w.in_ok-push.ensures.ok ∙ ap (λ (id : List ℕ). c.loop-client.ids ++ (id, c.client-item.result.1) ∷ []) w.in_ok-copy.ensures in
        rw kept (taken client_of_pair (λ other pair. bytes_eq other.0 pair.0 && (other.1 == pair.1)) (λ y x apart. rw apart refl) c.args.now.now c.loop-client.rest.now c.clients_from-rest.result.now c.loop-client.client-index c.client-item.result c.loop-client.ids _ (omega arith) c.client-item.is c.requires.now c.loop-client.invariant.order c.clients_from-rest.ensures.rest (sym c.begins_with_client.ensures ∙ w.if-not-begins_with_client.true) c.loop-client.invariant.ahead)
    | else-not-begins_with_client w ↦
        rw w.ids-is (passed client_of_pair (λ other pair. bytes_eq other.0 pair.0 && (other.1 == pair.1)) (λ y x apart. rw apart refl) c.args.now.now c.loop-client.rest.now c.clients_from-rest.result.now c.loop-client.client-index c.client-item.result c.loop-client.ids _ (omega arith) c.client-item.is c.requires.now c.loop-client.invariant.order c.clients_from-rest.ensures.rest (sym c.begins_with_client.ensures ∙ w.if-not-begins_with_client.false) c.loop-client.invariant.ahead)
  ];
  order = rw (c.clients_from-rest.ensures.rest) (rest_order client_of_pair _ _ c.loop-client.invariant.order);
  read = omega arith;
}
