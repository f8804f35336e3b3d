-- What the body of a kept view record's cell is read as.
use Rattle.std.specs.Prelude.{ℕ, ◌<◌, ◌^◌, ◌&&◌, List, length, take, drop, Option, Some, None, option_map, option_and_then, if◌then◌else◌}
use Rattle.std.specs.List.{AllByRecursion}
use Rattle.std.specs.Str.{bytes_eq}
use Rattle.serde_json.specs.Data.{Data}
use Rattle.serde_json.specs.Find.{at, as_array}
use Rattle.rv_base.specs.Options.{◌>>=◌}
use Rattle.rv_base.specs.Sorted.{is_in_order}
use Rattle.rv_rows.specs.Keys.{prefix}
use Rattle.rv_rows.specs.Members.{each_item}
use Rattle.rv_json.specs.JsonTexts.{json_in}
use Rattle.rv_rows.specs.declared.key.Key.{Key}
use Rattle.rv_rows.specs.declared.key.Kind.{Kind}
use Rattle.rv_rows.specs.declared.key.Kind.TheVariants as kinds
use Rattle.rv_views.specs.Viewed.{Viewed, AreSeen, AreClients, seen_key, client_of_pair}
use Rattle.rv_record.specs.CellReading.{IsText}
use Rattle.rv_record.specs.EntryReading.{IsPlace}
use Rattle.rv_record.specs.ValueReading.{utf8_text_in, string_item, text_item, num_item, place_item}

abbrev pub SeenFits : Key × ℕ → Type 0
SeenFits pair = IsText 1 128 pair.0.id × (pair.1 < 2 ^ 32)

abbrev pub PairFits : List ℕ × ℕ → Type 0
PairFits pair = IsText 1 128 pair.0 × (pair.1 < 2 ^ 53)

-- a view record, whose lists are in order, at the place of its look
abbrev pub ViewFits : ℕ × Viewed → Type 0
ViewFits v = IsPlace v.0 × AllByRecursion SeenFits v.1.rows × AllByRecursion PairFits v.1.clients × AreSeen v.1.rows × AreClients v.1.clients

-- what stands after a front, where the text begins with it
abbrev pub after_front : List ℕ → List ℕ → Option (List ℕ)
after_front front text = if bytes_eq (take (length front) text) front then Some (drop (length front) text) else None

-- the key of a kind whose id is the bytes, where they are one
abbrev pub key_with : Kind → List ℕ → Option Key
key_with kind bytes = option_map (λ id. record { kind = kind; id = id }) (utf8_text_in 1 128 bytes)

-- the key of this kind, where an id was found after the kind's front, and else another
abbrev pub with_front : Option (List ℕ) → Kind → Option Key → Option Key
with_front (Some bytes) kind other = key_with kind bytes
with_front None kind other = other

-- the key of a text: `extent/USER`, `list/ID`, `share/ID` or `todo/ID`
unfoldable pub key_in : List ℕ → Option Key
key_in text =
    with_front (after_front (prefix kinds.Extent) text) kinds.Extent
    (with_front (after_front (prefix kinds.List) text) kinds.List
    (with_front (after_front (prefix kinds.Share) text) kinds.Share
    (with_front (after_front (prefix kinds.Todo) text) kinds.Todo None)))

unfoldable pub seen_in : Data → Option (Key × ℕ)
seen_in value = do
  text ← string_item 0 value
  key ← key_in text
  version ← place_item 1 value
  Some (key, version)

unfoldable pub pair_in : Data → Option (List ℕ × ℕ)
pair_in value = do
  client ← text_item 1 128 0 value
  last ← num_item 1 value
  Some (client, last)

-- what each item of the array at a place is read as, where each is read
abbrev pub each_of : {X : Type 0} → (Data → Option X) → ℕ → Data → Option (List X)
each_of read place value = option_and_then (each_item read) (option_and_then as_array (at place value))

-- the record of two lists, where they are in order
abbrev pub viewed : List (Key × ℕ) → List (List ℕ × ℕ) → Option Viewed
viewed rows clients = if is_in_order seen_key rows && is_in_order client_of_pair clients then Some (record { rows = rows; clients = clients }) else None

unfoldable pub view_in : Data → Option Viewed
view_in value = do
  rows ← each_of seen_in 0 value
  clients ← each_of pair_in 1 value
  viewed rows clients

-- the record of a body
abbrev pub body_view : List ℕ → Option Viewed
body_view body = option_and_then view_in (json_in body)
