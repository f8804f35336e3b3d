use Rattle.std.proofs.Common.{ℕ, ◌≤◌, ◌<◌, ◌^◌, subst, sym}
use Rattle.rv_state.proofs.Openings.{opening_stands}
use Rattle.rv_state.proofs.state.State.opening.Goals as goal

pub invariant_of-result : goal.invariant_of-result
invariant_of-result c =
    opening_stands c.args.page c.in_ok-book.book.book c.in_ok-book.book.limit c.args.tables.rows c.new.result.records c.new-2.result.marks c.requires.sound c.requires.from c.requires.fits (subst (λ (n : ℕ). c.args.page.at ≤ n) (sym c.in_ok-book.ensures.limit) c.requires.within) (subst (λ (n : ℕ). n < 2 ^ 32) (sym c.in_ok-book.ensures.limit) c.ranges.limit.fits) c.in_ok-book.ensures.book c.requires.rows c.new.ensures c.new-2.ensures
