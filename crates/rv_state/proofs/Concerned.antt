-- Whom an act concerns: who sent it, and who sees a key that it touches, before or after.
use Rattle.std.proofs.Common.{◌≡◌, ℕ, ◌+◌, Bool, true, false, List, ◌||◌, refl, sym, ap, ◌∙◌, subst}
use Rattle.std.specs.Prelude.{Result, Ok, Err, IfOk}
use Rattle.std.specs.List.{list_any}
use Rattle.std.specs.Str.{bytes_eq}
use Rattle.std.proofs.lemmas.Slice.Eq.{bytes_eq-Decides}
use Rattle.rv_base.specs.PositionLaws.{in_order-sorted}
use Rattle.rv_base.specs.ArrangedLaws.{distinct-in_order}
use Rattle.rv_rows.specs.declared.row.Row.{Row}
use Rattle.rv_rows.specs.declared.call.Call.{Call}
use Rattle.rv_rows.specs.Changes.{after}
use Rattle.rv_rows.specs.Effects.{effect}
use Rattle.rv_rows.specs.EffectLaws.{distinct-effect, effect-sorted}
use Rattle.rv_rows.specs.Held.{Stored, rows_in}
use Rattle.rv_rows.specs.HeldLaws.{in_order-rows}
use Rattle.rv_rows.specs.Keys.{row_text, in_key_order}
use Rattle.rv_rows.specs.Sharing.{seen}
use Rattle.rv_sharing.specs.Affected.{sees_key}
use Rattle.rv_sharing.specs.SeenLaws.{sees_touched, seen-sorted, touched_seen, untouched_seen}
use Rattle.rv_sharing.specs.Texts.{AddsText}
use Rattle.rv_mutators.specs.declared.staged.Staged.{Staged}
use Rattle.rv_mutators.specs.Staging.{staged, with_staged}
use Rattle.rv_mutators.specs.Touched.{AreTouched, touched}
use Rattle.rv_book.specs.declared.entry.Entry.{Entry}
use Rattle.rv_book.specs.declared.entry.Entry.TheVariants.{Act}
use Rattle.rv_book.specs.Book.{Book, size, with_entry}
use Rattle.rv_history.specs.Marks.{AreConcerned, Concerns, SeesSame}
use Rattle.rv_history.specs.MarkLaws.{own_concerns, change_concerns, nothing_concerns}
use Rattle.rv_history.specs.Replay.{IsReplay, rows_of}
use Rattle.rv_history.specs.ReplayLaws.{distinct-rows_of, rows_kept, rows_of-with_entry, stored_in_order}

-- what a user sees of the stored rows, before an act and after it, is what the user sees at the book
seen_before : (user : List ℕ) (book : Book) (stored : List Stored) → IsReplay book stored → seen user (rows_in stored) ≡ seen user (rows_of book)
seen_before user book stored replay = ap (seen user) replay.rows ∙ seen-sorted user (rows_of book) (distinct-rows_of book)

seen_after : (user : List ℕ) (book : Book) (stored : List Stored) (by group client : List ℕ) (id : ℕ) (call : Call) → IsReplay book stored → seen user (effect (rows_in stored) by call) ≡ seen user (rows_of (with_entry book (Act by group client id call)))
seen_after user book stored by group client id call replay =
    let rows : List Row = rows_of book in
    let distinct = distinct-rows_of book in
    ap (λ (r : List Row). seen user (effect r by call)) replay.rows
    ∙ sym (seen-sorted user (effect (in_key_order rows) by call) (distinct-effect (in_key_order rows) by call (distinct-in_order row_text (in_key_order rows) (in_order-sorted row_text rows))))
    ∙ ap (seen user) (effect-sorted rows by call distinct)
    ∙ seen-sorted user (effect rows by call) (distinct-effect rows by call distinct)
    ∙ ap (seen user) (sym (rows_of-with_entry book (Act by group client id call)))

apart : false ≡ true → ⊥
apart same = cc

same_or : (a b c : Bool) → a ≡ (b || c) → a ≡ true → b ≡ false → c ≡ true
same_or a true c is on off = absurd (apart (sym off))
same_or a false c is on off = sym is ∙ on

neither : (a b c : Bool) → a ≡ (b || c) → a ≡ false → (b ≡ false) × (c ≡ false)
neither a true c is off = absurd (apart (sym off ∙ is))
neither a false c is off = (refl, sym is ∙ off)

bytes_eq-back : (a b : List ℕ) → bytes_eq a b ≡ bytes_eq b a
bytes_eq-back a b = elim (bytes_eq a b) as (λ x. bytes_eq a b ≡ x → x ≡ bytes_eq b a) [
  | true ↦ λ e. sym ((bytes_eq-Decides b a).1 (sym ((bytes_eq-Decides a b).0 e)))
  | false ↦ λ e. elim (bytes_eq b a) as (λ y. bytes_eq b a ≡ y → false ≡ y) [
    | true ↦ λ f. (let both : false ≡ true = sym e ∙ (bytes_eq-Decides a b).1 (sym ((bytes_eq-Decides b a).0 f)) in both)
    | false ↦ λ f. refl
  ] refl
] refl

module _ (book : Book) (stored : List Stored) (by group client : List ℕ) (id : ℕ) (call : Call) (replay : IsReplay book stored) where
  abbrev entry : Entry
  entry = Act by group client id call

  -- who sees a touched key is told by the users whom staging touches
  touches : (user : List ℕ) (users : List (List ℕ)) → ((version : ℕ) → with_staged version (staged (rows_in stored) by call) stored ≡ after stored by call version) → AreTouched stored (staged (rows_in stored) by call) users
      → list_any (bytes_eq user) users ≡ sees_touched user (rows_in stored) (effect (rows_in stored) by call)
  touches user users effects are =
      are.each user
      ∙ ap (λ (rows : List Row). list_any (sees_key (rows_in stored) user) (touched (staged (rows_in stored) by call)) || list_any (sees_key rows user) (touched (staged (rows_in stored) by call)))
      (ap rows_in (effects 0) ∙ rows_kept 0 stored (in_key_order (effect (rows_in stored) by call)))

  -- and so is who sees something else
  sees_other : (user : List ℕ) → sees_touched user (rows_in stored) (effect (rows_in stored) by call) ≡ true → ¬ SeesSame user (with_entry book entry) book
  sees_other user touches_one same =
      touched_seen user (rows_in stored) (effect (rows_in stored) by call) (in_order-rows stored (stored_in_order book stored replay)) (distinct-effect (rows_in stored) by call (distinct-in_order row_text (rows_in stored) (in_order-rows stored (stored_in_order book stored replay)))) touches_one
      (seen_after user book stored by group client id call replay ∙ same ∙ sym (seen_before user book stored replay))

  sees_same : (user : List ℕ) → sees_touched user (rows_in stored) (effect (rows_in stored) by call) ≡ false → SeesSame user (with_entry book entry) book
  sees_same user touches_none =
      sym (seen_after user book stored by group client id call replay)
      ∙ untouched_seen user (rows_in stored) (effect (rows_in stored) by call) (in_order-rows stored (stored_in_order book stored replay)) (distinct-effect (rows_in stored) by call (distinct-in_order row_text (rows_in stored) (in_order-rows stored (stored_in_order book stored replay)))) touches_none
      ∙ seen_before user book stored replay

  pub concerned : (seers users : List (List ℕ)) → ((version : ℕ) → with_staged version (staged (rows_in stored) by call) stored ≡ after stored by call version) → AreTouched stored (staged (rows_in stored) by call) seers → AddsText by seers users
      → AreConcerned book entry users
  concerned seers users effects are adds user = (told, untold)
    where
      each : list_any (bytes_eq user) users ≡ (bytes_eq user by || sees_touched user (rows_in stored) (effect (rows_in stored) by call))
      each = adds.each (bytes_eq user) ∙ ap (λ (b : Bool). bytes_eq user by || b) (touches user seers effects are)

      told : list_any (bytes_eq user) users ≡ true → Concerns user (with_entry book entry) (size book + 1)
      told among = elim (bytes_eq user by) as (λ b. bytes_eq user by ≡ b → Concerns user (with_entry book entry) (size book + 1)) [
        | true ↦ λ own. own_concerns user book entry (bytes_eq-back by user ∙ own)
        | false ↦ λ other. change_concerns user book entry (sees_other user (same_or _ (bytes_eq user by) _ each among other))
      ] refl

      untold : Concerns user (with_entry book entry) (size book + 1) → list_any (bytes_eq user) users ≡ true
      untold is = elim (list_any (bytes_eq user) users) as (λ b. list_any (bytes_eq user) users ≡ b → b ≡ true) [
        | true ↦ λ _. refl
        | false ↦ λ out. (let two = neither _ (bytes_eq user by) _ each out in absurd (nothing_concerns user book entry (bytes_eq-back by user ∙ two.0) (sees_same user two.1) is))
      ] refl

-- the same of what a call gives, where it gives something
pub if_concerned : {E : Type 0} (book : Book) (stored : List Stored) (by : List ℕ) (call : Call) (changes : Staged) → IsReplay book stored → changes ≡ staged (rows_in stored) by call
    → ((version : ℕ) → with_staged version changes stored ≡ after stored by call version) → (seers : List (List ℕ)) → AreTouched stored changes seers
    → (result : Result (List (List ℕ)) E) → IfOk result (AddsText by seers) → IfOk result (λ users. (group client : List ℕ) (id : ℕ) → AreConcerned book (Act by group client id call) users)
if_concerned book stored by call changes replay is effects seers are (Ok users) adds = λ group client id.
    concerned book stored by group client id call replay seers users (λ version. subst (λ (s : Staged). with_staged version s stored ≡ after stored by call version) is (effects version)) (subst (λ (s : Staged). AreTouched stored s seers) is are) adds
if_concerned book stored by call changes replay is effects seers are (Err e) adds = adds
