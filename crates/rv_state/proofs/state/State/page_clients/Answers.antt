use Rattle.std.proofs.Common.{◌≡◌, ℕ, List, [], ◌∷◌, ◌++◌, ◌∙◌}
use Rattle.rv_book.specs.Registers.{clients_of}
use Rattle.rv_record.specs.CellReading.{ClientFits}
use Rattle.rv_state.proofs.Openings.{all_more, so_far}
use Rattle.rv_state.proofs.state.State.page_clients.Goals as goal

pub loop-index-preserved : goal.loop-index-preserved
loop-index-preserved c =
    let made : List ℕ × List ℕ × ℕ = (c.in_ok-client.client, c.in_ok-group.group, c.in-Some.told.last) in
    let told : List ℕ × List ℕ × ℕ = (c.in-Some.told.client.now, c.in-Some.told.group.now, c.in-Some.told.last) in
    let is : made ≡ told = (λ i. (c.in_ok-client.ensures i, c.in_ok-group.ensures i, c.in-Some.told.last)) in
    record {
      so_far = so_far (clients_of c.self.inside.book.book) c.loop-index.clients c.push.new.self c.loop-index.index told made c.loop-index.invariant.so_far c.in-Some.ensures.info c.in_ok-push.ensures.ok is;
      fits = all_more ClientFits c.loop-index.clients c.push.new.self told c.loop-index.invariant.fits c.client_fits.ensures (c.in_ok-push.ensures.ok ∙ (λ i. c.loop-index.clients ++ is i ∷ []));
    }
