use Rattle.std.proofs.Common.{◌≡◌, ℕ, List, ◌++◌, ◌∙◌, sym, ap}
use Rattle.std.specs.declared.cmp.Ordering.{Ordering}
use Rattle.std.specs.declared.cmp.Ordering.TheVariants.{Less, Equal, Greater}
use Rattle.std.specs.Ordering.{nat_cmp, ordering_then}
use Rattle.std.specs.Cmp.Lexicographic.{slice_cmp}
use Rattle.rv_rows.specs.declared.filing.Filing.TheVariants as filings
use Rattle.rv_rows.specs.declared.row.Row.{Row}
use Rattle.rv_rows.specs.Keys.{key_text, row_text}
use Rattle.rv_rows.specs.Filed.{falling, sort_of, then_by}
use Rattle.rv_rows.proofs.FiledLaws.{falling-cmp}
use Rattle.rv_rows.proofs.positions.SoughtRow.compare_sorts.Goals as goal

by_sorts : (row : Row) (key : List ℕ) (s t : ℕ) (o p : Ordering) → p ≡ nat_cmp t s → s ≡ sort_of row → p ≡ o
    → ordering_then o (slice_cmp nat_cmp (row_text row) key) ≡ slice_cmp nat_cmp (then_by filings.Sort row) (falling t ++ key)
by_sorts row key s t o p told same is =
    ap (λ (o : Ordering). ordering_then o (slice_cmp nat_cmp (row_text row) key)) (sym is ∙ told ∙ ap (nat_cmp t) same)
    ∙ sym (falling-cmp (sort_of row) t (row_text row) key)

pub returns-in-Less : goal.returns-in-Less
returns-in-Less c =
    let sought = c.args.self.now in
    by_sorts c.args.row.now (key_text (record { kind = sought.kind; id = sought.id.now })) c.sort.result sought.sort Less c.cmp.result c.cmp.ensures c.sort.ensures c.in-Less.is

pub returns-in-Equal : goal.returns-in-Equal
returns-in-Equal c =
    let sought = c.args.self.now in
    c.compare_key.ensures ∙ by_sorts c.args.row.now (key_text (record { kind = sought.kind; id = sought.id.now })) c.sort.result sought.sort Equal c.cmp.result c.cmp.ensures c.sort.ensures c.in-Equal.is

pub returns-in-Greater : goal.returns-in-Greater
returns-in-Greater c =
    let sought = c.args.self.now in
    by_sorts c.args.row.now (key_text (record { kind = sought.kind; id = sought.id.now })) c.sort.result sought.sort Greater c.cmp.result c.cmp.ensures c.sort.ensures c.in-Greater.is
