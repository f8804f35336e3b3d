-- The text of a row is that of no other, and what a record of a row is read as.
use Rattle.std.proofs.Common.{◌≡◌, ℕ, suc, Bool, true, false, List, [], ◌∷◌, Option, Some, None, codes, IsUtf8, refl, sym, ap, ◌∙◌}
use Rattle.std.proofs.lemmas.Option.{none-some, same_Some}
use Rattle.std.proofs.lemmas.Bool.{false≢true}
use Rattle.json.proofs.Printed.Utf8.{IsUtf8-are_ascii}
use Rattle.serde_json.specs.Written.{compact_text}
use Rattle.rv_rows.specs.declared.role.Role.{Role}
use Rattle.rv_rows.specs.declared.role.Role.TheVariants as roles
use Rattle.rv_rows.specs.declared.row.Row.{Row}
use Rattle.rv_rows.specs.declared.row.Row.TheVariants as variants
use Rattle.rv_rows.specs.Keys.{row_text}
use Rattle.rv_rows.specs.RowTexts.{row_data, RowIsWithin}
use Rattle.rv_rows.proofs.RowLaws.{row_again}
use Rattle.rv_record.specs.RowReading.{HasTexts}
use Rattle.rv_record.specs.ReadBackLaws.{IsPlain, json_again, ids_plain}
use Rattle.rv_record.specs.ReadTextLaws.{num_plain}
use Rattle.rv_csv.specs.Records.{Record}
use Rattle.rv_csv.specs.Views.{IsRow, row_record}
use Rattle.rv_csv.specs.RowReading.{row_text_in}

share_plain : (id list user : List ℕ) (role : Role) (n : ℕ) → IsUtf8 id → IsUtf8 list → IsUtf8 user → IsPlain (row_data (variants.Share (record { id = id; list = list; user = user; role = role }))) (suc n)
share_plain id list user roles.View n i l u = (
  (
    IsUtf8-are_ascii (codes "id") refl,
    i,
    (IsUtf8-are_ascii (codes "listID") refl, l, (IsUtf8-are_ascii (codes "role") refl, IsUtf8-are_ascii (codes "view") refl, (IsUtf8-are_ascii (codes "userID") refl, u, tt))),
  ),
  refl,
)
share_plain id list user roles.Edit n i l u =
    ((IsUtf8-are_ascii (codes "id") refl, i, (IsUtf8-are_ascii (codes "listID") refl, l, (IsUtf8-are_ascii (codes "userID") refl, u, tt))), refl)

row_plain : (r : Row) (n : ℕ) → RowIsWithin r → HasTexts r → IsPlain (row_data r) (suc (suc n))
row_plain (variants.Extent r) n fits texts = ((IsUtf8-are_ascii (codes "lists") refl, ids_plain r.lists n texts.1, (IsUtf8-are_ascii (codes "user") refl, texts.0, tt)), refl)
row_plain (variants.List r) n fits texts =
    ((IsUtf8-are_ascii (codes "id") refl, texts.0, (IsUtf8-are_ascii (codes "name") refl, texts.1, (IsUtf8-are_ascii (codes "ownerID") refl, texts.2, tt))), refl)
row_plain (variants.Share r) n fits texts = share_plain r.id r.list r.user r.role (suc n) texts.0 texts.1 texts.2
row_plain (variants.Todo r) n fits texts = (
  (
    IsUtf8-are_ascii (codes "complete") refl,
    tt,
    (IsUtf8-are_ascii (codes "id") refl, texts.0, (IsUtf8-are_ascii (codes "listID") refl, texts.1, (IsUtf8-are_ascii (codes "sort") refl, num_plain r.sort fits.3, (IsUtf8-are_ascii (codes "text") refl, texts.2, tt)))),
  ),
  refl,
)

pub text_again : (r : Row) → IsRow r → row_text_in (compact_text (row_data r)) ≡ Some r
text_again r is = rw (json_again (row_data r) (row_plain r 125 is.0 is.1)) (row_again r is.0)

-- the second field of a record
abbrev value_in : Record → List ℕ
value_in [] = []
value_in (key ∷ []) = []
value_in (key ∷ value ∷ rest) = value

pub same_row : (a b : Row) → IsRow a → IsRow b → row_record a ≡ row_record b → a ≡ b
same_row a b is also e = same_Some a b (sym (text_again a is) ∙ ap (λ (fields : Record). row_text_in (value_in fields)) e ∙ text_again b also)

-- a text that is read as no row is that of none
pub of_none : (text : List ℕ) (o : Option Row) → o ≡ None → o ≡ row_text_in text → (row : Row) → IsRow row → ¬ (text ≡ compact_text (row_data row))
of_none text o none e row is same = none-some row (sym none ∙ e ∙ ap row_text_in same ∙ text_again row is)

-- a text that differs from that of the row that it is read as is that of none
pub of_other : (text : List ℕ) (o : Option Row) (made : Row) → o ≡ Some made → o ≡ row_text_in text → ¬ (text ≡ compact_text (row_data made)) → (row : Row) → IsRow row → ¬ (text ≡ compact_text (row_data row))
of_other text o made some e other row is same =
    let one = same_Some made row (sym some ∙ e ∙ ap row_text_in same ∙ text_again row is) in
    other (same ∙ ap (λ (r : Row). compact_text (row_data r)) (sym one))

-- the first field of a record
abbrev key_in : Record → List ℕ
key_in [] = []
key_in (key ∷ rest) = key

-- a record whose value is that of a row and whose key is another is that of none
pub other_key : (fields : Record) (key value again : List ℕ) (made : Row) (test : Bool) → fields ≡ key ∷ value ∷ [] → IsRow made → value ≡ compact_text (row_data made) → again ≡ row_text made → test ≡ false → (key ≡ again → test ≡ true)
    → (row : Row) → IsRow row → ¬ (fields ≡ row_record row)
other_key fields key value again made test pair own is remade fails tests row also same =
    let both : key ∷ value ∷ [] ≡ row_record row = sym pair ∙ same in
    let one : made ≡ row = same_Some made row (sym (text_again made own) ∙ ap row_text_in (sym is ∙ ap value_in both) ∙ text_again row also) in
    false≢true (sym fails ∙ tests (ap key_in both ∙ ap row_text (sym one) ∙ sym remade))
