use Rattle.std.proofs.Common.{ℕ, ◌<◌, ◌^◌, subst, sym}
use Rattle.rv_book.specs.Book.{size}
use Rattle.rv_state.specs.declared.prepared.Prepared.TheVariants.{Closing}
use Rattle.rv_state.specs.Ready.{IsPrepared}
use Rattle.rv_state.specs.Standing.{Standing}
use Rattle.rv_state.proofs.Openings.{closed_stands}
use Rattle.rv_state.proofs.state.State.close.Goals as goal

pub invariant_of-self : goal.invariant_of-self
invariant_of-self c =
    let ready = subst (λ (s : Standing). IsPrepared s (Closing c.args.closed)) (sym c.self.view_is) c.requires in
    closed_stands c.self.inside.book.book c.args.closed.book c.args.closed.limit c.self.inside.tables.rows c.new.result.records c.new-2.result.marks ready.lawful c.self.invariant.0 c.self.invariant.1 c.requires.fits (subst (λ (n : ℕ). size c.self.inside.book.book < n) (sym ready.effect) ready.below) (subst (λ (n : ℕ). n < 2 ^ 32) (sym ready.effect) c.self.invariant.6.1) c.new.ensures c.new-2.ensures
