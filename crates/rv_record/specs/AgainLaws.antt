-- What a cell is made of is found in it: the cells of clients, of groups and of rows.
use Rattle.std.proofs.Common.{◌≡◌, ℕ, suc, Bool, List, Option, Some, None, Result, Ok, Err, codes, refl, sym, ap, ◌∙◌}
use Rattle.std.specs.Prelude.{IfOk, IfSome}
use Rattle.std.specs.Str.{IsUtf8}
use Rattle.std.proofs.lemmas.Option.{none-some}
use Rattle.json.proofs.Printed.Utf8.{IsUtf8-are_ascii}
use Rattle.serde_json.specs.Data.{Data, number, unsigned}
use Rattle.rv_rows.specs.declared.role.Role.{Role}
use Rattle.rv_rows.specs.declared.role.Role.TheVariants as roles
use Rattle.rv_rows.specs.declared.row.Row.{Row}
use Rattle.rv_rows.specs.declared.row.Row.TheVariants as variants
use Rattle.rv_rows.specs.RowTexts.{row_data, row_in, RowIsWithin}
use Rattle.rv_rows.proofs.RowLaws.{row_takes, row_again}
use Rattle.rv_record.specs.CellTexts.{row_body, client_body, group_body, row_cell_on, client_cell_on, group_cell_on, page_cell}
use Rattle.rv_record.specs.CellReading.{ClientFits, GroupFits, client_in_cell, group_in_cell, page_in_cell, PageFits}
use Rattle.rv_record.specs.RowReading.{HasTexts, RowFits, row_cell_in}
use Rattle.rv_record.specs.ReadBackLaws.{IsPlain, json_again, ids_plain}
use Rattle.rv_record.specs.ReadTextLaws.{within_again, text_again, num_again, place_again, num_plain, place_plain}

pub client_again : (shelf : ℕ) (c : List ℕ × List ℕ × ℕ) → ClientFits c → client_in_cell (client_cell_on shelf c.0 c.1 c.2) ≡ Some c
unfolding client_in_cell
client_again shelf c fits =
    rw (text_again 1 128 c.0 fits.0.0 fits.0.1, json_again (client_body c.1 c.2) (fits.1.1, (num_plain c.2 fits.2, tt)), within_again 1 128 c.1 fits.1.0, num_again c.2 fits.2) refl

pub page_again : (place : ℕ) → PageFits place → page_in_cell (page_cell place) ≡ Some place
unfolding page_in_cell
page_again place fits = rw (json_again (number (unsigned place)) (place_plain place fits), place_again place fits) refl

pub group_again : (shelf : ℕ) (g : List ℕ × List ℕ × ℕ × Bool) → GroupFits g → group_in_cell (group_cell_on shelf g.0 g.1 g.2 g.3) ≡ Some g
unfolding group_in_cell
group_again shelf g fits =
    rw (text_again 1 128 g.0 fits.0.0 fits.0.1, json_again (group_body g.1 g.2 g.3) (fits.1.1, (num_plain g.2 fits.2, (tt, tt))), within_again 1 64 g.1 fits.1.0, num_again g.2 fits.2) refl

share_plain : (id list user : List ℕ) (role : Role) (n : ℕ) → IsUtf8 id → IsUtf8 list → IsUtf8 user → IsPlain (row_data (variants.Share (record { id = id; list = list; user = user; role = role }))) (suc n)
share_plain id list user roles.View n i l u = (
  (
    IsUtf8-are_ascii (codes "id") refl,
    i,
    (IsUtf8-are_ascii (codes "listID") refl, l, (IsUtf8-are_ascii (codes "role") refl, IsUtf8-are_ascii (codes "view") refl, (IsUtf8-are_ascii (codes "userID") refl, u, tt))),
  ),
  refl,
)
share_plain id list user roles.Edit n i l u =
    ((IsUtf8-are_ascii (codes "id") refl, i, (IsUtf8-are_ascii (codes "listID") refl, l, (IsUtf8-are_ascii (codes "userID") refl, u, tt))), refl)

row_plain : (r : Row) (n : ℕ) → RowIsWithin r → HasTexts r → IsPlain (row_data r) (suc (suc n))
row_plain (variants.Extent r) n fits texts = ((IsUtf8-are_ascii (codes "lists") refl, ids_plain r.lists n texts.1, (IsUtf8-are_ascii (codes "user") refl, texts.0, tt)), refl)
row_plain (variants.List r) n fits texts =
    ((IsUtf8-are_ascii (codes "id") refl, texts.0, (IsUtf8-are_ascii (codes "name") refl, texts.1, (IsUtf8-are_ascii (codes "ownerID") refl, texts.2, tt))), refl)
row_plain (variants.Share r) n fits texts = share_plain r.id r.list r.user r.role (suc n) texts.0 texts.1 texts.2
row_plain (variants.Todo r) n fits texts = (
  (
    IsUtf8-are_ascii (codes "complete") refl,
    tt,
    (IsUtf8-are_ascii (codes "id") refl, texts.0, (IsUtf8-are_ascii (codes "listID") refl, texts.1, (IsUtf8-are_ascii (codes "sort") refl, num_plain r.sort fits.3, (IsUtf8-are_ascii (codes "text") refl, texts.2, tt)))),
  ),
  refl,
)

pub row_cell_again : (shelf : ℕ) (r : Row × ℕ) → RowFits r → row_cell_in (row_cell_on shelf r.0 r.1) ≡ Some r
unfolding row_cell_in
row_cell_again shelf r fits =
    rw (json_again (row_body r.0 r.1) (place_plain r.1 fits.2, (row_plain r.0 124 fits.0 fits.1, tt)), place_again r.1 fits.2, row_again r.0 fits.0) refl

-- what a reader of rows gives that is exact
only_none : (d : Data) (o : Option Row) → ((r : Row) → RowIsWithin r → d ≡ row_data r → None ≡ Some r) → row_in d ≡ o → None ≡ o
only_none d None only e = refl
only_none d (Some r) only e = let takes = row_takes d r e in absurd (none-some r (only r takes.1 takes.0))

pub exact_row : (d : Data) (o : Option Row) → IfSome o (λ r. (d ≡ row_data r) × RowIsWithin r) → ((r : Row) → RowIsWithin r → d ≡ row_data r → o ≡ Some r) → o ≡ row_in d
exact_row d (Some r) found only = sym (ap row_in found.0 ∙ row_again r found.1)
exact_row d None found only = only_none d (row_in d) only refl

pub exact_rows : {E : Type 0} (d : Data) (r : Result (Option Row) E) → IfOk r (λ o. IfSome o (λ r. (d ≡ row_data r) × RowIsWithin r)) → IfOk r (λ o. (r : Row) → RowIsWithin r → d ≡ row_data r → o ≡ Some r) → IfOk r (λ o. o ≡ row_in d)
exact_rows d (Ok o) found only = exact_row d o found only
exact_rows d (Err e) found only = tt
