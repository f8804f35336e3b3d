use Rattle.std.proofs.Common.{◌≡◌, ◌∙◌, ℕ, suc, ◌+◌, ◌-◌, Bool, false, refl, sym, arith}
use Rattle.std.specs.Prelude.{find}
use Rattle.std.specs.List.{range_with_len}
use Rattle.rv_history.specs.Bases.{names_base}
use Rattle.rv_plain.proofs.looks.named.Goals as goal
use Rattle.rv_book.specs.Book.{size}

-- the search goes on past a number that does not
goes_on : (p : ℕ → Bool) (a n m : ℕ) → n ≡ suc m → p a ≡ false → find p (range_with_len a n) ≡ find p (range_with_len (a + 1) m)
goes_on p a n m is not = rw (is, not) refl

pub loop-index-preserved : goal.loop-index-preserved
loop-index-preserved c =
    let p = names_base c.args.user.now c.args.text.now c.args.order c.args.book.now in
    let i = c.loop-index.index in
    let n = size c.args.book.now in
    sym (goes_on p (i + 1) (n - i) (n - (i + 1)) (omega arith) (sym c.names_base.ensures ∙ c.if-names_base.false)) ∙ c.loop-index.invariant
