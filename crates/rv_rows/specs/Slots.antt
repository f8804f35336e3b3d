-- Rows with their versions in slots, and orders of slots: lists of slots' numbers.
use Rattle.std.specs.Prelude.{◌≡◌, ◌≢◌, ℕ, ◌+◌, ◌-◌, ◌≤◌, ◌<◌, ◌^◌, ◌==◌, nat_lt, Bool, true, false, List, Vec, [], map, length, slice_index_or, slice_index, slice_set, Option, Some, None, Result, Ok, Err, if◌then◌else◌, vec_len, vec_capacity}
use Rattle.std.specs.List.{AllByRecursion, filter, insert, list_any, remove}
use Rattle.std.specs.declared.cmp.Ordering.{Ordering}
use Rattle.std.specs.declared.cmp.Ordering.TheVariants.{Less}
use Rattle.std.specs.Ordering.{nat_cmp}
use Rattle.std.specs.Cmp.Lexicographic.{slice_cmp}
use Rattle.std.specs.Str.{bytes_eq}
use Rattle.rv_base.specs.Sorted.{InOrder}
use Rattle.rv_rows.specs.declared.row.Row.TheVariants.{List as ListRow}
use Rattle.rv_rows.specs.Held.{Stored, AreRows}
use Rattle.rv_chunks.specs.Chunking.{items}
use Rattle.rv_rows.specs.declared.filing.Filing.{Filing}
use Rattle.rv_rows.specs.declared.filing.Filing.TheVariants as filings
use Rattle.rv_rows.specs.Filed.{under, is_filed, filed_key}

-- what stands for the row of a slot that is not there
abbrev pub no_row : Stored
no_row = (ListRow (record { id = []; name = []; owner = [] }), 0)

-- the row in the slot
abbrev pub row_of : List Stored → ℕ → Stored
row_of slots i = slice_index_or slots i no_row

-- the rows in the slots of an order
abbrev pub standing : List Stored → List ℕ → List Stored
standing slots order = map (row_of slots) order

-- each number is below n, so it is the number of one of n slots
abbrev pub AreSlots : ℕ → List ℕ → Type 0
AreSlots n order = AllByRecursion (λ i. i < n) order

-- two orders have the same slots
abbrev pub AreSame : List ℕ → List ℕ → Type 0
AreSame order other = (test : ℕ → Bool) → list_any test order ≡ list_any test other

-- the slots of an order whose rows are filed
abbrev pub filed_slots : Filing → List Stored → List ℕ → List ℕ
filed_slots by slots order = filter (λ i. is_filed by (row_of slots i).0) order

-- an order of those slots of another order whose rows are filed, by what they are filed under and by what comes then
pub record IsFiled (by : Filing) (slots : List Stored) (by_key order : List ℕ) : Type 0 where
  pub in_slots : AreSlots (length slots) order
  pub in_order : InOrder (filed_key by) (standing slots order)
  pub same : AreSame (filed_slots by slots by_key) order

-- an order of slots by the keys of the rows, and of those that are filed by their lists, by the users whom they name, and by their lists and sorts
pub record HasOrders (slots : List Stored) (by_key by_list by_user by_sort : List ℕ) : Type 0 where
  pub key_slots : AreSlots (length slots) by_key
  pub key_order : AreRows (standing slots by_key)
  pub lists : IsFiled filings.List slots by_key by_list
  pub users : IsFiled filings.User slots by_key by_user
  pub sorts : IsFiled filings.Sort slots by_key by_sort

-- rows in slots, with the chunks of the four orders of the slots, and the space that there is beside
pub record Slotted : Type 0 where
  pub slots : List Stored
  pub by_key : List (List ℕ)
  pub by_list : List (List ℕ)
  pub by_user : List (List ℕ)
  pub by_sort : List (List ℕ)
  pub spare : ℕ

-- the rows in the order of their keys
abbrev pub rows_of : Slotted → List Stored
rows_of slotted = standing slotted.slots (items slotted.by_key)

-- the vector has space for so many more items
abbrev pub HasSpare : {X Z : Type 0} → Vec X Z → ℕ → Type 0
HasSpare items more = vec_len items + more ≤ vec_capacity items

-- the slots and each of the four orders have space for so many more, and there are numbers for as many slots
pub record HaveSpace {X Z : Type 0} (slots : Vec X Z) (by_key by_list by_user by_sort more : ℕ) : Type 0 where
  pub slot_space : HasSpare slots more
  pub key_space : more ≤ by_key
  pub list_space : more ≤ by_list
  pub user_space : more ≤ by_user
  pub sort_space : more ≤ by_sort
  pub numbers : vec_len slots + more < 2 ^ 32

-- how the row in the slot stands to the key k; a slot that is not there stands below
abbrev pub by_slot : (Stored → List ℕ) → List ℕ → List Stored → ℕ → Ordering
by_slot key k slots i = if nat_lt i (length slots) then slice_cmp nat_cmp (key (row_of slots i)) k else Less

-- the row in the slot is filed under the text
abbrev pub is_under : Filing → List ℕ → List Stored → ℕ → Bool
is_under by text slots i = bytes_eq (under by (row_of slots i).0) text

-- the slot, under the number `to` where it had the number `from`
abbrev pub relabelled : ℕ → ℕ → ℕ → ℕ
relabelled from to i = if i == from then to else i

-- the order in which the slot was looked for, with the number `to` at the position where it was found
abbrev pub renamed : Result ℕ ℕ → ℕ → ℕ → List ℕ → List ℕ
renamed (Ok at) from to order = slice_set order at (relabelled from to (slice_index order at))
renamed (Err at) from to order = order

-- where the row goes in an order of rows: nowhere where it is not filed
abbrev pub IsGapFor : Filing → Stored → List Stored → Option ℕ → Type 0
IsGapFor by x rows None = is_filed by x.0 ≡ false
IsGapFor by x rows (Some at) = (is_filed by x.0 ≡ true) × InOrder (filed_key by) (insert rows at x)

-- where the slot stands in an order: nowhere where its row is not filed
abbrev pub StandsIn : Filing → List Stored → List ℕ → ℕ → Option ℕ → Type 0
StandsIn by slots order slot None = is_filed by (row_of slots slot).0 ≡ false
StandsIn by slots order slot (Some at) = (at < length order) × (slice_index_or order at 0 ≡ slot)

-- the order with the slot at the position, where there is one
abbrev pub entered : Option ℕ → ℕ → List ℕ → List ℕ
entered None slot order = order
entered (Some at) slot order = insert order at slot

-- the order without the slot at the position, where there is one
abbrev pub left_out : Option ℕ → List ℕ → List ℕ
left_out None order = order
left_out (Some at) order = remove order at

-- the slot is given back: the row of the last slot has moved to it, and each other row is where it was
pub record Vacates (slots : List Stored) (slot : ℕ) (left : List Stored) : Type 0 where
  pub one_less : length left + 1 ≡ length slots
  pub stays : (i : ℕ) → i < length slots → i ≢ slot → row_of left (relabelled (length slots - 1) slot i) ≡ row_of slots i
