-- What holds of every book that the machine makes.
use Rattle.std.specs.Prelude.{◌≡◌, ℕ, ◌+◌, ◌^◌, ◌<◌, ◌∷◌, true, false, List, Option, Some, None, IsSome}
use Rattle.rv_book.specs.declared.entry.Entry.{Entry}
use Rattle.rv_book.specs.declared.entry.Entry.TheVariants.{Act, Look, Retire}
use Rattle.rv_book.specs.Book.{Book, bound, retired, last, last_order, with_entries}
use Rattle.rv_book.specs.Kept.{look_at, kept}
use Rattle.rv_book.specs.SoundPages.{IsOpening}
use Rattle.rv_history.specs.Groups.{is_elsewhere, Admits}

-- a base is none, or the place of a kept look by the user, with an order below this one
abbrev pub IsBase : Book → List ℕ → ℕ → Option ℕ → Type 0
IsBase before user order None = Unit {0}
IsBase before user order (Some place) = (group : List ℕ) × (below : ℕ) × (kept place before ≡ true) × (look_at place before ≡ Some (user, group, below)) × (below < order)

-- The entry may stand after these. An act: its user may use the group, the client is of no other group, and the id is the
-- client's next. A look: its user may use the group, and the order is above the group's last. A retirement: some act or
-- look names the group, and it is not retired.
abbrev pub IsLawfulAfter : Book → Entry → Type 0
IsLawfulAfter before (Act user group client id call) = Admits user group before × (is_elsewhere client group before ≡ false) × (id ≡ last client before + 1)
IsLawfulAfter before (Look user group order base) = Admits user group before × (last_order group before < order) × (order < 2 ^ 53) × IsBase before user order base
IsLawfulAfter before (Retire group) = IsSome (bound group before) × (retired group before ≡ false)

-- The book opens without a page or with a sound one, and each entry may stand after what is before it.
pub record IsLawful (book : Book) : Type 0 where
  pub opens : IsOpening book.page
  pub each : (before : Book) (after : List Entry) (entry : Entry) → book ≡ with_entries before (entry ∷ after) → IsLawfulAfter before entry
