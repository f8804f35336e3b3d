use Rattle.std.proofs.Common.{◌≡◌, List, ℕ, ◌∙◌, sym, ap}
use Rattle.std.specs.declared.cmp.Ordering.{Ordering}
use Rattle.std.specs.declared.cmp.Ordering.TheVariants.{Less, Equal, Greater}
use Rattle.std.specs.Ordering.{nat_cmp, match_ordering}
use Rattle.std.specs.Cmp.Lexicographic.{slice_cmp}
use Rattle.rv_rows.specs.Keys.{key_text}
use Rattle.rv_rows.specs.Filed.{filed, then_by, then_of, under}
use Rattle.rv_rows.proofs.FiledLaws.{filed-cmp}
use Rattle.rv_rows.proofs.positions.SoughtRow.compare_row.Goals as goal

by_filing : (a b l s t : List ℕ) (o p : Ordering) → p ≡ slice_cmp nat_cmp l b → l ≡ a → p ≡ o → match_ordering o Less (slice_cmp nat_cmp s t) Greater ≡ slice_cmp nat_cmp (filed a s) (filed b t)
by_filing a b l s t o p told same is =
    ap (λ (o : Ordering). match_ordering o Less (slice_cmp nat_cmp s t) Greater) (sym is ∙ told ∙ ap (λ (l : List ℕ). slice_cmp nat_cmp l b) same) ∙ sym (filed-cmp a b s t)

pub returns-in-Less : goal.returns-in-Less
returns-in-Less c =
    let sought = c.args.self.now in
    by_filing (under sought.by c.args.row.now) sought.under.now c.under.result.now (then_by sought.by c.args.row.now) (then_of sought.by sought.sort (key_text (record { kind = sought.kind; id = sought.id.now }))) Less c.cmp.result c.cmp.ensures c.under.ensures c.in-Less.is

pub returns-in-Equal : goal.returns-in-Equal
returns-in-Equal c =
    let sought = c.args.self.now in
    c.compare_then.ensures ∙ by_filing (under sought.by c.args.row.now) sought.under.now c.under.result.now (then_by sought.by c.args.row.now) (then_of sought.by sought.sort (key_text (record { kind = sought.kind; id = sought.id.now }))) Equal c.cmp.result c.cmp.ensures c.under.ensures c.in-Equal.is

pub returns-in-Greater : goal.returns-in-Greater
returns-in-Greater c =
    let sought = c.args.self.now in
    by_filing (under sought.by c.args.row.now) sought.under.now c.under.result.now (then_by sought.by c.args.row.now) (then_of sought.by sought.sort (key_text (record { kind = sought.kind; id = sought.id.now }))) Greater c.cmp.result c.cmp.ensures c.under.ensures c.in-Greater.is
