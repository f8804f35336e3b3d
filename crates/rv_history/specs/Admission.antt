-- Whether a user may use a group, and where a client of a group stands.
use Rattle.std.specs.Prelude.{ℕ, ◌≡◌, ◌≤◌, ◌<◌, ◌+◌, List, true, false}
use Rattle.rv_book.specs.Book.{Book, last, retired}
use Rattle.rv_history.specs.Groups.{is_of_other, is_elsewhere, Admits}
use Rattle.rv_history.specs.declared.groups.Admission.{Admission}
use Rattle.rv_history.specs.declared.groups.Admission.TheVariants.{OfOther, Retired, Open}
use Rattle.rv_history.specs.declared.groups.Numbering.{Numbering}
use Rattle.rv_history.specs.declared.groups.Numbering.TheVariants.{Elsewhere, Past, Next, Future}

-- the first case that holds
abbrev pub IsAdmission : List ℕ → List ℕ → Book → Admission → Type 0
IsAdmission user group book OfOther = is_of_other user group book ≡ true
IsAdmission user group book Retired = (is_of_other user group book ≡ false) × (retired group book ≡ true)
IsAdmission user group book (Open at) = Admits user group book

-- Where an id stands after a client's last one: it is not above it; or it is the next; or it is above the next.
abbrev pub FollowsAs : ℕ → ℕ → Numbering → Type 0
FollowsAs last id Elsewhere = ⊥
FollowsAs last id (Past told) = (id ≤ last) × (told ≡ last)
FollowsAs last id (Next at) = id ≡ last + 1
FollowsAs last id (Future expected) = (last + 1 < id) × (expected ≡ last + 1)

-- the client is of another group; or the id stands so after the client's last one
abbrev pub IsNumbering : List ℕ → List ℕ → ℕ → Book → Numbering → Type 0
IsNumbering client group id book Elsewhere = is_elsewhere client group book ≡ true
IsNumbering client group id book numbering = (is_elsewhere client group book ≡ false) × FollowsAs (last client book) id numbering
