-- What the cell of a kept view record is made of is found in it.
use Rattle.std.proofs.Common.{◌≡◌, ℕ, suc, Bool, true, false, List, [], ◌∷◌, ◌++◌, map, Option, Some, None, codes, IsUtf8, refl, sym, ap, ◌∙◌, subst}
use Rattle.std.specs.List.{AllByRecursion}
use Rattle.std.proofs.lemmas.Option.{none-some, same_Some}
use Rattle.std.proofs.lemmas.Str.{IsUtf8-append}
use Rattle.json.proofs.Printed.Utf8.{IsUtf8-are_ascii}
use Rattle.serde_json.specs.Data.{Data}
use Rattle.serde_json.specs.View.{items_of}
use Rattle.serde_json.specs.Written.{compact_text}
use Rattle.rv_base.specs.Sorted.{InOrder, is_in_order}
use Rattle.rv_base.specs.RisingLaws.{order_is, in_order-from_test}
use Rattle.rv_rows.specs.Members.{each_item}
use Rattle.rv_keeper.specs.declared.cell.Cell.{Cell}
use Rattle.rv_rows.specs.Keys.{prefix}
use Rattle.rv_rows.specs.declared.key.Key.{Key}
use Rattle.rv_rows.specs.declared.key.Kind.{Kind}
use Rattle.rv_rows.specs.declared.key.Kind.TheVariants as kinds
use Rattle.rv_views.specs.Viewed.{Viewed, AreSeen, AreClients, seen_key, client_of_pair}
use Rattle.rv_record.specs.CellTexts.{ten_digits, seen_data, client_data, view_body, view_cell}
use Rattle.rv_record.specs.CellReading.{IsText, IsOfNone}
use Rattle.rv_record.specs.EntryReading.{IsPlace}
use Rattle.rv_record.specs.ViewReading.{SeenFits, PairFits, ViewFits, key_in, seen_in, pair_in, viewed, view_in, body_view}
use Rattle.rv_record.specs.ReadBackLaws.{IsPlain, ArePlain, json_again}
use Rattle.rv_record.specs.ReadTextLaws.{within_again, text_again, num_again, place_again, num_plain, place_plain}

prefix_valid : (kind : Kind) → IsUtf8 (prefix kind)
prefix_valid kinds.Extent = IsUtf8-are_ascii (codes "extent/") refl
prefix_valid kinds.List = IsUtf8-are_ascii (codes "list/") refl
prefix_valid kinds.Share = IsUtf8-are_ascii (codes "share/") refl
prefix_valid kinds.Todo = IsUtf8-are_ascii (codes "todo/") refl

key_again : (kind : Kind) (id : List ℕ) → IsText 1 128 id → key_in (prefix kind ++ id) ≡ Some (record { kind = kind; id = id })
unfolding key_in
key_again kinds.Extent id fits = rw (text_again 1 128 id fits.0 fits.1) refl
key_again kinds.List id fits = rw (text_again 1 128 id fits.0 fits.1) refl
key_again kinds.Share id fits = rw (text_again 1 128 id fits.0 fits.1) refl
key_again kinds.Todo id fits = rw (text_again 1 128 id fits.0 fits.1) refl

seen_again : (pair : Key × ℕ) → SeenFits pair → seen_in (seen_data pair) ≡ Some pair
unfolding seen_in
seen_again pair fits = rw (key_again pair.0.kind pair.0.id fits.0, place_again pair.1 fits.1) refl

pair_again : (pair : List ℕ × ℕ) → PairFits pair → pair_in (client_data pair) ≡ Some pair
unfolding pair_in
pair_again pair fits = rw (within_again 1 128 pair.0 fits.0.0, num_again pair.1 fits.1) refl

seen_plain : (n : ℕ) (pair : Key × ℕ) → SeenFits pair → IsPlain (seen_data pair) (suc n)
seen_plain n pair fits = (IsUtf8-append (prefix pair.0.kind) pair.0.id (prefix_valid pair.0.kind) fits.0.1, (place_plain pair.1 fits.1, tt))

pair_plain : (n : ℕ) (pair : List ℕ × ℕ) → PairFits pair → IsPlain (client_data pair) (suc n)
pair_plain n pair fits = (fits.0.1, (num_plain pair.1 fits.1, tt))

module _ {X : Type 0} (of_item : X → Data) (Fits : X → Type 0) where
  each_again : (read : Data → Option X) → ((x : X) → Fits x → read (of_item x) ≡ Some x) → (xs : List X) → AllByRecursion Fits xs → each_item read (items_of (map of_item xs)) ≡ Some xs
  each_again read again [] all = refl
  each_again read again (x ∷ xs) all = rw (again x all.0, each_again read again xs all.1) refl

  all_plain : (n : ℕ) → ((x : X) → Fits x → IsPlain (of_item x) n) → (xs : List X) → AllByRecursion Fits xs → ArePlain (items_of (map of_item xs)) n
  all_plain n plain [] all = tt
  all_plain n plain (x ∷ xs) all = (plain x all.0, all_plain n plain xs all.1)

-- a list that was tested and moved
pub tested_order : {X : Type 0} (key : X → List ℕ) (xs ys zs : List X) (r : Bool) → ys ≡ xs → zs ≡ xs → r ≡ is_in_order key ys → r ≡ true → InOrder key zs
tested_order key xs ys zs r ys_are zs_are e holds =
    subst (InOrder key) (sym zs_are) (in_order-from_test key xs (ap (is_in_order key) (sym ys_are) ∙ sym e ∙ holds))

view_plain : (view : Viewed) (n : ℕ) → AllByRecursion SeenFits view.rows → AllByRecursion PairFits view.clients → IsPlain (view_body view) (suc (suc (suc n)))
view_plain view n rows clients =
    (all_plain seen_data SeenFits (suc n) (seen_plain n) view.rows rows, (all_plain client_data PairFits (suc n) (pair_plain n) view.clients clients, tt))

viewed_again : (view : Viewed) → AreSeen view.rows → AreClients view.clients → viewed view.rows view.clients ≡ Some view
viewed_again view rows clients = rw (order_is seen_key view.rows rows, order_is client_of_pair view.clients clients) refl

view_again : (v : ℕ × Viewed) → ViewFits v → view_in (view_body v.1) ≡ Some v.1
unfolding view_in
view_again v fits =
    rw (each_again seen_data SeenFits seen_in seen_again v.1.rows fits.1, each_again client_data PairFits pair_in pair_again v.1.clients fits.2) (viewed_again v.1 fits.3 fits.4)

body_view_again : (v : ℕ × Viewed) → ViewFits v → body_view (compact_text (view_body v.1)) ≡ Some v.1
body_view_again v fits = rw (json_again (view_body v.1) (view_plain v.1 124 fits.1 fits.2)) (view_again v fits)

-- ---- when a cell is that of no view record at a place

abbrev pub view_cells : ℕ × Viewed → Cell
view_cells v = view_cell v.0 v.1

found_view : (cell : Cell) (body : List ℕ) (o : Option Viewed) → body ≡ cell.body → o ≡ body_view body → (made : ℕ × Viewed) → ViewFits made → cell ≡ view_cells made → o ≡ Some made.1
found_view cell body o body_is e made fits is = e ∙ ap body_view (body_is ∙ ap (λ (c : Cell). c.body) is) ∙ body_view_again made fits

pub no_view : (cell : Cell) (body : List ℕ) (o : Option Viewed) → body ≡ cell.body → o ≡ None → o ≡ body_view body → IsOfNone view_cells ViewFits cell
no_view cell body o body_is none e = λ made fits is. none-some made.1 (sym none ∙ found_view cell body o body_is e made fits is)

pub only_view : (cell : Cell) (key body : List ℕ) (o : Option Viewed) (place : ℕ) (view : Viewed) → key ≡ cell.key → body ≡ cell.body → ((p : ℕ) → IsPlace p → key ≡ ten_digits p → Some place ≡ Some p) → o ≡ Some view → o ≡ body_view body
    → (made : ℕ × Viewed) → ViewFits made → cell ≡ view_cells made → ◌≡◌ {A = Option (ℕ × Viewed)} (Some (place, view)) (Some made)
only_view cell key body o place view key_is body_is written some e made fits is =
    let places : place ≡ made.0 = same_Some place made.0 (written made.0 fits.0 (key_is ∙ ap (λ (c : Cell). c.key) is)) in
    let parts : view ≡ made.1 = same_Some view made.1 (sym some ∙ found_view cell body o body_is e made fits is) in
    λ i. Some (places i, parts i)
