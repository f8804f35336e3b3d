use Rattle.std.proofs.Common.{◌≡◌, ◌==◌, ◌&&◌, [], drop, refl, arith}
use Rattle.std.specs.Str.{bytes_eq}
use Rattle.std.proofs.lemmas.List.{drop_all}
use Rattle.rv_views.specs.Viewed.{seen_key}
use Rattle.rv_views.specs.Difference.{is_absent, is_untouched}
use Rattle.rv_views.proofs.Changes.{IsStep, next_order, lost_step, touched_step, lost_all}
use Rattle.rv_views.proofs.walks.rows_changed.Goals as goal

pub loop-row-preserved : goal.loop-row-preserved
unfolding is_absent is_untouched
loop-row-preserved g c =
    let step : IsStep seen_key c.args.now.now c.loop-row.rest.now c.in_ok-from.from.now c.after_key-rest.result.now c.loop-row.row-index c.row-item.result = record {
      in_range = omega arith;
      item = c.row-item.is;
      order = c.requires.now;
      rest_order = c.loop-row.invariant.order;
      rest_is = c.in_ok-from.ensures.rest;
      next_is = rw c.in_ok-from.ensures.key at c.after_key-rest.ensures.rest;
    } in
    record {
      dels = rw (c.in_ok-from.ensures.keys) (lost_step seen_key (λ pair. pair.0) c.loop-row.dels _ step c.loop-row.invariant.dels);
      puts = rw (c.in_ok-add_touched.ensures) (touched_step seen_key (λ other pair. bytes_eq (seen_key other) (seen_key pair) && (other.1 == pair.1)) (λ y x apart. rw apart refl) (λ pair. pair.0) c.loop-row.puts _ step c.loop-row.invariant.puts);
      order = next_order seen_key step;
      read = omega (arith, c.in_ok-from.ensures.read);
    }

pub returns-clause-dels : goal.returns-clause-dels
unfolding is_absent
returns-clause-dels g c =
    let none_left : drop c.loop-row.row-index c.args.now.now ≡ [] = drop_all c.loop-row.row-index c.args.now.now (omega arith) in
    rw (c.in_ok-add_rest.ensures.keys, ← lost_all seen_key c.loop-row.rest.now) (rw none_left at c.loop-row.invariant.dels)
