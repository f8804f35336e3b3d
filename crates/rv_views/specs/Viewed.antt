-- What a client group was shown: the keys that its user saw, each with the version of its row, and the group's clients,
-- each with its last mutation id. Both lists are in order, each key and each client once.
use Rattle.std.specs.Prelude.{ℕ, ◌+◌, List, length}
use Rattle.rv_base.specs.Sorted.{InOrder}
use Rattle.rv_rows.specs.declared.key.Key.{Key}
use Rattle.rv_rows.specs.Keys.{key_text}

abbrev pub seen_key : Key × ℕ → List ℕ
seen_key pair = key_text pair.0

abbrev pub client_of_pair : List ℕ × ℕ → List ℕ
client_of_pair pair = pair.0

pub record Viewed : Type 0 where
  pub rows : List (Key × ℕ)
  pub clients : List (List ℕ × ℕ)

abbrev pub AreSeen : List (Key × ℕ) → Type 0
AreSeen = InOrder seen_key

abbrev pub AreClients : List (List ℕ × ℕ) → Type 0
AreClients = InOrder client_of_pair

-- how many rows and clients a view has
abbrev pub view_size : Viewed → ℕ
view_size viewed = length viewed.rows + length viewed.clients
