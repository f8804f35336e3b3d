-- The orders of rows by a text that each is filed under, and among those of one text by the texts of their keys, or by their
-- sorts and then by those texts, as the order of single texts.
use Rattle.std.specs.Prelude.{ℕ, zero, suc, Bool, not, List, [], ◌∷◌, ◌++◌, map, unwrap_or}
use Rattle.std.specs.Str.{bytes_eq}
use Rattle.rv_rows.specs.declared.filing.Filing.{Filing}
use Rattle.rv_rows.specs.declared.filing.Filing.TheVariants as filings
use Rattle.rv_rows.specs.declared.row.Row.{Row}
use Rattle.rv_rows.specs.declared.row.Row.TheVariants as variants
use Rattle.rv_rows.specs.Keys.{row_text}
use Rattle.rv_rows.specs.Held.{Stored}
use Rattle.rv_rows.specs.Sharing.{list_of, user_of}

-- a text for what a row is filed under and for what comes then: a text's bytes, each one higher, are above the 0 that ends
-- them, so what rows are filed under comes first
abbrev pub filed : List ℕ → List ℕ → List ℕ
filed text then = map suc text ++ 0 ∷ then

-- what a row is filed under: its list, and nothing where it has none; or the user whom it names
abbrev pub under : Filing → Row → List ℕ
under filings.List row = unwrap_or (list_of row) []
under filings.User row = user_of row
under filings.Sort row = unwrap_or (list_of row) []

-- a row is filed where it is filed under something: an extent has no list, and a todo names no user
abbrev pub is_filed : Filing → Row → Bool
is_filed by row = not (bytes_eq (under by row) [])

-- the sort of a todo, and 0 of any other row
abbrev pub sort_of : Row → ℕ
sort_of (variants.Todo row) = row.sort
sort_of (variants.Extent row) = 0
sort_of (variants.List row) = 0
sort_of (variants.Share row) = 0

-- a sort, so that a greater one comes before: as many times 0, and then 1
abbrev pub falling : ℕ → List ℕ
falling zero = 1 ∷ []
falling (suc sort) = 0 ∷ falling sort

-- what comes then, of a sort and a key: the key, and before it the sort in the order by sorts
abbrev pub then_of : Filing → ℕ → List ℕ → List ℕ
then_of filings.List sort key = key
then_of filings.User sort key = key
then_of filings.Sort sort key = falling sort ++ key

abbrev pub then_by : Filing → Row → List ℕ
then_by by row = then_of by (sort_of row) (row_text row)

abbrev pub filed_text : Filing → Row → List ℕ
filed_text by row = filed (under by row) (then_by by row)

abbrev pub filed_key : Filing → Stored → List ℕ
filed_key by s = filed_text by s.0
