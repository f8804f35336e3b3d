-- What has changed from one view to a later one.
use Rattle.std.specs.Prelude.{ℕ, Bool, true, false, List, [], ◌==◌, ◌&&◌, not, map, Option, Some, None}
use Rattle.std.specs.List.{filter, list_any}
use Rattle.std.specs.Str.{bytes_eq}
use Rattle.rv_base.specs.Sorted.{InOrder}
use Rattle.rv_rows.specs.declared.key.Key.{Key}
use Rattle.rv_rows.specs.Keys.{key_text}
use Rattle.rv_views.specs.Viewed.{Viewed, AreClients, seen_key}
use Rattle.rv_views.specs.declared.diff.Diff.{Diff}

-- the key is not among those of the rows
unfoldable pub is_absent : List (Key × ℕ) → Key × ℕ → Bool
is_absent rows pair = not (list_any (λ other. bytes_eq (seen_key other) (seen_key pair)) rows)

-- the key is among them, with this version
unfoldable pub is_untouched : List (Key × ℕ) → Key × ℕ → Bool
is_untouched rows pair = list_any (λ other. bytes_eq (seen_key other) (seen_key pair) && (other.1 == pair.1)) rows

-- the pair is among these
unfoldable pub is_among : List (List ℕ × ℕ) → List ℕ × ℕ → Bool
is_among pairs pair = list_any (λ other. bytes_eq other.0 pair.0 && (other.1 == pair.1)) pairs

-- the keys that were seen and are not seen now
abbrev pub lost_keys : List (Key × ℕ) → List (Key × ℕ) → List Key
lost_keys base now = map (λ pair. pair.0) (filter (is_absent now) base)

-- the keys that are seen now and were not, or have another version
abbrev pub touched_keys : List (Key × ℕ) → List (Key × ℕ) → List Key
touched_keys base now = map (λ pair. pair.0) (filter (λ pair. not (is_untouched base pair)) now)

-- the clients that are there now and were not, or have another last mutation id
abbrev pub changed_ids : List (List ℕ × ℕ) → List (List ℕ × ℕ) → List (List ℕ × ℕ)
changed_ids base now = filter (λ pair. not (is_among base pair)) now

-- the difference since a base; without one everything goes, and all is put
abbrev pub difference : Option Viewed → Viewed → Diff
difference (Some base) now = record { clear = false; dels = lost_keys base.rows now.rows; puts = touched_keys base.rows now.rows; ids = changed_ids base.clients now.clients }
difference None now = record { clear = true; dels = []; puts = map (λ pair. pair.0) now.rows; ids = now.clients }

-- keys in the order of their texts
abbrev pub AreKeys : List Key → Type 0
AreKeys = InOrder key_text

-- the lists of a difference are in order
pub record Arranged (diff : Diff) : Type 0 where
  pub dels : AreKeys diff.dels
  pub puts : AreKeys diff.puts
  pub ids : AreClients diff.ids
