-- From what came of an input at a desk to what `import` promises.
use Rattle.std.proofs.Common.{◌≡◌, ◌≢◌, ℕ, ◌≤◌, ◌⊎◌, List, [], ◌∷◌, Contains, lit<, Result, Ok, Err, refl, sym, ap, ◌∙◌, subst, arith, inl, inr}
use Rattle.rv_base.specs.Causes.{Rose}
use Rattle.rv_base.specs.Outside.{InputState, OutputState}
use Rattle.rv_keeper.specs.declared.keeper.Keeper.{Ghosts}
use Rattle.rv_keeper.specs.declared.place.Place.{Ghosts as PlaceGhosts}
use Rattle.rv_turns.specs.Asks.{Ask, Sender}
use Rattle.rv_turns.specs.declared.mutation.Mutation.{Mutation}
use Rattle.rv_turns.specs.declared.pushing.Outcome.{Outcome}
use Rattle.rv_doubt.specs.Kept.{KeepsBook}
use Rattle.rv_desk.specs.DeskStates.{DeskTakes, DeskState, served}
use Rattle.rv_import.specs.Imports.{Asked}
use Rattle.rv_import.specs.Importing.{Imported, Imports, TakesInOrder}
use Rattle.rv_import.specs.declared.import_end.ImportEnd.{ImportEnd}
use Rattle.rv_import.specs.declared.import_end.ImportEnd.TheVariants as ends
use Rattle.rv_cli.specs.declared.ending.Ending.{Ending}
use Rattle.rv_cli.specs.declared.ending.Ending.TheVariants as endings
use Rattle.rv_cli.specs.declared.import_ending.ImportEnding.{ImportEnding}
use Rattle.rv_cli.specs.declared.import_ending.ImportEnding.TheVariants.{Done, Read, TooLarge, BadRecord, Refused, Memory, Write}
use Rattle.rv_cli.specs.declared.input_fault.InputFault.{InputFault}
use Rattle.rv_cli.specs.declared.input_fault.InputFault.TheVariants as faults
use Rattle.rv_cli.specs.Change.{StoreChange, change}
use Rattle.rv_cli.specs.Headline.{IsNotOpened, WritesOnly}
use Rattle.rv_cli.specs.ImportPromise.{import_statuses}
use Rattle.rv_cli.specs.Importing.{HasImported, ImportsInput, ImportsWith, TakesNear, WritesCame, WritesCounts}
use Rattle.rv_cli.specs.Input.{WholeIsSteady}
use Rattle.rv_cli.specs.Storing.{HasOpened}
use Rattle.rv_cli.specs.Texts.{import_ending_text, import_status, status_of}
use Rattle.rv_cli.proofs.Fed.{seat_sound}
use Rattle.rv_cli.proofs.Storing.{WentBack, begins, leaves}
use Rattle.rv_cli.proofs.Taking.{Before, turn_before}

-- ---- Turns of a desk are those of its server.

module _ {K : Type 0} (G : Ghosts K) (Told : Type 0) where
  same_before : (old new : DeskState K) → new ≡ old → Before G old new
  same_before old new same = subst (λ (s : DeskState K). Before G old s) (sym same) (record { told = λ t. t; steady = λ f. (f, refl) })

  turns_go : (from : Sender) (ms : List Mutation) (old new : DeskState K) (os : List Outcome) → TakesInOrder (DeskTakes G) from ms old os new
      → Before G old new × ((Told → G.tells new.keeper) → TakesInOrder (TakesNear Told) from ms (served G.faults old) os (served G.faults new))
  turns_go from [] old new [] same = (same_before old new same, λ told. ap (served G.faults) same)
  turns_go from [] old new (o ∷ os) never = absurd never
  turns_go from (m ∷ ms) old new [] never = absurd never
  turns_go from (m ∷ ms) old new (o ∷ os) (mid, step, rest) =
      let on = turns_go from ms mid new os rest in
      let first = turn_before G old mid (Ask.mutation from m) o step in
      let goes : Before G mid new = on.0 in (
        record {
          told = λ t. first.told (goes.told t);
          steady = λ f. let (mids, same) = first.steady f in let (news, also) = goes.steady mids in (news, also ∙ same);
        },
        λ told. (served G.faults mid, record { turn = step.turn; near = λ t. step.assured.near (goes.told (told t)) }, on.1 told),
      )

  imported_goes : (from : Sender) (asked : Asked) (old new : DeskState K) (end : ImportEnd) → Imported (DeskTakes G) from asked old end new
      → Before G old new × ((Told → G.tells new.keeper) → Imported (TakesNear Told) from asked (served G.faults old) end (served G.faults new))
  imported_goes from asked old new end i =
      let on = turns_go from i.taken old new i.outcomes i.turns in
      (on.0, λ told. record { taken = i.taken; left = i.left; outcomes = i.outcomes; all = i.all; turns = on.1 told; ends = i.ends })

  imports_go : (user name bytes : List ℕ) (old new : DeskState K) (end : ImportEnd) → Imports (DeskTakes G) user name bytes old end new
      → Before G old new × ((Told → G.tells new.keeper) → Imports (TakesNear Told) user name bytes (served G.faults old) end (served G.faults new))
  imports_go user name bytes old new ends.TooLarge (more, same) = (same_before old new same, λ told. (more, ap (served G.faults) same))
  imports_go user name bytes old new (ends.Done counts) (within, i) = let on = imported_goes _ _ old new (ends.Done counts) i in (on.0, λ told. (within, on.1 told))
  imports_go user name bytes old new (ends.BadRecord n) (within, i) = let on = imported_goes _ _ old new (ends.BadRecord n) i in (on.0, λ told. (within, on.1 told))
  imports_go user name bytes old new (ends.Refused refusal) (within, i) = let on = imported_goes _ _ old new (ends.Refused refusal) i in (on.0, λ told. (within, on.1 told))
  imports_go user name bytes old new ends.Memory (within, i) = let on = imported_goes _ _ old new ends.Memory i in (on.0, λ told. (within, on.1 told))

  pub input_goes : (user name : List ℕ) (old new : DeskState K) (before after : InputState) (came : Result ImportEnd InputFault) → ImportsInput (DeskTakes G) user name old before after came new
      → Before G old new × ((Told → G.tells new.keeper) → ImportsInput (TakesNear Told) user name (served G.faults old) before after came (served G.faults new))
  input_goes user name old new before after (Ok end) (bytes, whole, i) = let on = imports_go user name bytes old new end i in (on.0, λ told. (bytes, whole, on.1 told))
  input_goes user name old new before after (Err fault) (until, same) = (same_before old new same, λ told. (until, ap (served G.faults) same))

-- the keeper that is left of an import goes on where the desk's did
pub import_steady : {K : Type 0} (G : Ghosts K) (user name : List ℕ) (old : DeskState K) (before after : InputState) (told : Result ImportEnd InputFault × K) → ImportsWith G old user name before after told
    → G.fails_no_more old.keeper → G.fails_no_more told.1 × (G.faults told.1 ≡ G.faults old.keeper)
import_steady G user name old before after told w f =
    let (goes, same) = (input_goes G (Unit {0}) user name old w.new before after told.0 w.imports).0.steady f in
    (subst G.fails_no_more (sym w.keeper) goes, ap G.faults w.keeper ∙ same)

-- the desk was opened, the input imported, and its keeper went back
pub has_imported : {P K : Type 0} (place : PlaceGhosts P K) (G : Ghosts K) (store : List ℕ) (old mid new : P) (desk : DeskState K) (user name : List ℕ) (told : Result ImportEnd InputFault × K) (input input' : InputState) (out out' : OutputState) (ending : ImportEnding)
    → HasOpened place G store old desk mid → ImportsWith G desk user name input input' told → WentBack place G store mid new told.1 → WritesCame out out' told.0 ending
    → HasImported (change place store old new) user name input input' out out' ending
has_imported {P} {K} place G store old mid new desk user name told input input' out out' ending opened w back writes =
    let on = input_goes G (place.tells new) user name desk w.new input input' told.0 w.imports in
    record {
      first = served G.faults desk;
      now = served G.faults w.new;
      begins = begins place G store old mid new desk told.1 opened (λ t. on.0.told (subst G.tells w.keeper t)) back;
      came = told.0;
      imports = on.1 (λ t. subst G.tells w.keeper (back.told t).1);
      writes = writes;
      leaves = leaves place G store old mid new (served G.faults w.new) told.1 opened.same
          (record { kept = (let own = subst (λ (k : K). KeepsBook G k w.new.book w.new.doubt) (sym w.keeper) w.kept in record { held = own.held; left = own.left }); sound = seat_sound G w.new (served G.faults w.new) told.1 refl refl refl w.sound; later = subst (λ (k : K). G.faults w.new.keeper ≤ G.faults k) (sym w.keeper) (omega arith) }) back;
    }

-- ---- The statuses.

pub import_among : (ending : ImportEnding) → Contains import_statuses (import_status ending)
import_among Done = (0, lit< tt, refl)
import_among Read = (3, lit< tt, refl)
import_among TooLarge = (6, lit< tt, refl)
import_among (BadRecord n) = (6, lit< tt, refl)
import_among (Refused refusal) = (7, lit< tt, refl)
import_among Memory = (5, lit< tt, refl)
import_among Write = (4, lit< tt, refl)

pub import_not_four : (ending : ImportEnding) → import_status ending ≢ 4
import_not_four Done is = omega (arith, is)
import_not_four Read is = omega (arith, is)
import_not_four TooLarge is = omega (arith, is)
import_not_four (BadRecord n) is = omega (arith, is)
import_not_four (Refused refusal) is = omega (arith, is)
import_not_four Memory is = omega (arith, is)
import_not_four Write is = omega (arith, is)

pub import_not_five : (ending : ImportEnding) → import_status ending ≢ 5
import_not_five Done is = omega (arith, is)
import_not_five Read is = omega (arith, is)
import_not_five TooLarge is = omega (arith, is)
import_not_five (BadRecord n) is = omega (arith, is)
import_not_five (Refused refusal) is = omega (arith, is)
import_not_five Memory is = omega (arith, is)
import_not_five Write is = omega (arith, is)

-- an ending that is none of a write has another status
pub import_seven : (R : Type 0) (ending : ImportEnding) → (ending ≡ Write → R) → R ⊎ (import_status ending ≢ 7)
import_seven R Done is = inr (λ e. omega (arith, e))
import_seven R Read is = inr (λ e. omega (arith, e))
import_seven R TooLarge is = inr (λ e. omega (arith, e))
import_seven R (BadRecord n) is = inr (λ e. omega (arith, e))
import_seven R (Refused refusal) is = inr (λ e. omega (arith, e))
import_seven R Memory is = inr (λ e. omega (arith, e))
import_seven R Write is = inl (is refl)

-- a failed read is told by its status, and by no other
abbrev pub TellsRead : InputState → InputState → ImportEnding → Type 0
TellsRead before after ending = ((import_status ending ≡ 6) × Rose before.faults after.faults) ⊎ ((import_status ending ≢ 6) × (after.faults ≡ before.faults))

-- and a failed write of the counts by its own
abbrev pub TellsWrite : OutputState → OutputState → ImportEnding → Type 0
TellsWrite before after ending =
    ((import_status ending ≡ 7) × Rose before.faults after.faults)
    ⊎ ((import_status ending ≢ 7) × ((after.faults ≡ before.faults) ⊎ ((import_status ending ≢ 0) × Rose before.faults after.faults)))

counted_not_six : (old new : OutputState) (text : List ℕ) (ending : ImportEnding) → WritesCounts old new text ending → import_status ending ≢ 6
counted_not_six old new text Done w is = omega (arith, is)
counted_not_six old new text Read w is = w
counted_not_six old new text TooLarge w is = omega (arith, is)
counted_not_six old new text (BadRecord n) w is = omega (arith, is)
counted_not_six old new text (Refused refusal) w is = omega (arith, is)
counted_not_six old new text Memory w is = omega (arith, is)
counted_not_six old new text Write w is = omega (arith, is)

not_six : (before after : InputState) (ending other : ImportEnding) → ending ≡ other → import_status other ≢ 6 → after.faults ≡ before.faults → TellsRead before after ending
not_six before after ending other is never same = inr (λ six. never (sym (ap import_status is) ∙ six), same)

pub tells_read : {S : Type 0} (takes : S → Ask → Outcome → S → Type 0) (user name : List ℕ) (old new : S) (before after : InputState) (came : Result ImportEnd InputFault) (out out' : OutputState) (ending : ImportEnding)
    → ImportsInput takes user name old before after came new → WritesCame out out' came ending → TellsRead before after ending
tells_read takes user name old new before after (Ok (ends.Done counts)) out out' ending (bytes, whole, i) w = inr (counted_not_six out out' _ ending w, whole.faults)
tells_read takes user name old new before after (Ok ends.TooLarge) out out' ending (bytes, whole, i) (is, text) = not_six before after ending TooLarge is (λ e. omega (arith, e)) whole.faults
tells_read takes user name old new before after (Ok (ends.BadRecord n)) out out' ending (bytes, whole, i) (is, text) = not_six before after ending (BadRecord n) is (λ e. omega (arith, e)) whole.faults
tells_read takes user name old new before after (Ok (ends.Refused refusal)) out out' ending (bytes, whole, i) (is, text) = not_six before after ending (Refused refusal) is (λ e. omega (arith, e)) whole.faults
tells_read takes user name old new before after (Ok ends.Memory) out out' ending (bytes, whole, i) (is, text) = not_six before after ending Memory is (λ e. omega (arith, e)) whole.faults
tells_read takes user name old new before after (Err faults.Read) out out' ending (until, same) (is, text) = inl (ap import_status is, until.why)
tells_read takes user name old new before after (Err faults.TooLarge) out out' ending (until, same) (is, text) = not_six before after ending TooLarge is (λ e. omega (arith, e)) until.why.0
tells_read takes user name old new before after (Err faults.Memory) out out' ending (until, same) (is, text) = not_six before after ending Memory is (λ e. omega (arith, e)) until.why

-- a text that was written, or a front of it
only_faults : (old new : OutputState) (text : List ℕ) → WritesOnly old new text → (new.faults ≡ old.faults) ⊎ Rose old.faults new.faults
only_faults old new text (own, appended, inl whole) = inl whole.1
only_faults old new text (own, appended, inr cut) = inr cut.1

text_told : (old new : OutputState) (ending other : ImportEnding) → ending ≡ other → import_status other ≢ 7 → import_status other ≢ 0 → WritesOnly old new (import_ending_text ending) → TellsWrite old new ending
text_told old new ending other is seven none w =
    let same = sym (ap import_status is) in
    inr (
      λ e. seven (same ∙ e),
      elim (only_faults old new (import_ending_text ending) w) as (λ _. (new.faults ≡ old.faults) ⊎ ((import_status ending ≢ 0) × Rose old.faults new.faults)) [
        | inl still ↦ inl still
        | inr rose ↦ inr (λ e. none (same ∙ e), rose)
      ],
    )

counts_told : (old new : OutputState) (text : List ℕ) (ending : ImportEnding) → WritesCounts old new text ending → TellsWrite old new ending
counts_told old new text Done w = inr (λ e. omega (arith, e), inl w.1)
counts_told old new text Write w = inl (refl, w.1)
counts_told old new text Memory w = text_told old new Memory Memory refl (λ e. omega (arith, e)) (λ e. omega (arith, e)) w
counts_told old new text Read w = absurd w
counts_told old new text TooLarge w = absurd w
counts_told old new text (BadRecord n) w = absurd w
counts_told old new text (Refused refusal) w = absurd w

pub tells_write : (old new : OutputState) (came : Result ImportEnd InputFault) (ending : ImportEnding) → WritesCame old new came ending → TellsWrite old new ending
tells_write old new (Ok (ends.Done counts)) ending w = counts_told old new _ ending w
tells_write old new (Ok ends.TooLarge) ending (is, w) = text_told old new ending TooLarge is (λ e. omega (arith, e)) (λ e. omega (arith, e)) w
tells_write old new (Ok (ends.BadRecord n)) ending (is, w) = text_told old new ending (BadRecord n) is (λ e. omega (arith, e)) (λ e. omega (arith, e)) w
tells_write old new (Ok (ends.Refused refusal)) ending (is, w) = text_told old new ending (Refused refusal) is (λ e. omega (arith, e)) (λ e. omega (arith, e)) w
tells_write old new (Ok ends.Memory) ending (is, w) = text_told old new ending Memory is (λ e. omega (arith, e)) (λ e. omega (arith, e)) w
tells_write old new (Err faults.Read) ending (is, w) = text_told old new ending Read is (λ e. omega (arith, e)) (λ e. omega (arith, e)) w
tells_write old new (Err faults.TooLarge) ending (is, w) = text_told old new ending TooLarge is (λ e. omega (arith, e)) (λ e. omega (arith, e)) w
tells_write old new (Err faults.Memory) ending (is, w) = text_told old new ending Memory is (λ e. omega (arith, e)) (λ e. omega (arith, e)) w

-- so by the status
pub read_rose : (before after : InputState) (ending : ImportEnding) (status : ℕ) → status ≡ import_status ending → TellsRead before after ending → status ≡ 6 → Rose before.faults after.faults
read_rose before after ending status is (inl (told, rose)) six = rose
read_rose before after ending status is (inr (never, same)) six = absurd (never (sym is ∙ six))

pub read_still : (before after : InputState) (ending : ImportEnding) (status : ℕ) → status ≡ import_status ending → TellsRead before after ending → (status ≡ 6) ⊎ (after.faults ≡ before.faults)
read_still before after ending status is (inl (told, rose)) = inl (is ∙ told)
read_still before after ending status is (inr (never, same)) = inr same

pub write_rose : (before after : OutputState) (ending : ImportEnding) (status : ℕ) → status ≡ import_status ending → TellsWrite before after ending → status ≡ 7 → Rose before.faults after.faults
write_rose before after ending status is (inl (told, rose)) seven = rose
write_rose before after ending status is (inr (never, same)) seven = absurd (never (sym is ∙ seven))

pub write_still : (before after : OutputState) (ending : ImportEnding) (status : ℕ) → status ≡ import_status ending → TellsWrite before after ending → (status ≡ 7) ⊎ (after.faults ≡ before.faults) ⊎ ((status ≢ 0) × Rose before.faults after.faults)
write_still before after ending status is (inl (told, rose)) = inl (is ∙ told)
write_still before after ending status is (inr (never, inl same)) = inr (inl same)
write_still before after ending status is (inr (never, inr (some, rose))) = inr (inr (λ none. some (sym is ∙ none), rose))

pub written_seven : (R : Type 0) (ending : ImportEnding) (status : ℕ) → status ≡ import_status ending → (ending ≡ Write → R) → R ⊎ (status ≢ 7)
written_seven R ending status is only = elim (import_seven R ending only) as (λ _. R ⊎ (status ≢ 7)) [ inl holds ↦ inl holds | inr never ↦ inr (λ seven. never (sym is ∙ seven)) ]

-- a source that fails no more
pub whole_steady : (steady : Type 0) (old new : OutputState) (came : Result ImportEnd InputFault) (ending : ImportEnding) → WritesCame old new came ending → WholeIsSteady steady came → steady × (import_status ending ≢ 6)
whole_steady steady old new (Ok (ends.Done counts)) ending w s = (s, counted_not_six old new _ ending w)
whole_steady steady old new (Ok ends.TooLarge) ending (is, w) s = (s, λ e. let six = sym (ap import_status is) ∙ e in omega (arith, six))
whole_steady steady old new (Ok (ends.BadRecord n)) ending (is, w) s = (s, λ e. let six = sym (ap import_status is) ∙ e in omega (arith, six))
whole_steady steady old new (Ok (ends.Refused refusal)) ending (is, w) s = (s, λ e. let six = sym (ap import_status is) ∙ e in omega (arith, six))
whole_steady steady old new (Ok ends.Memory) ending (is, w) s = (s, λ e. let six = sym (ap import_status is) ∙ e in omega (arith, six))
whole_steady steady old new (Err faults.Read) ending (is, w) s = absurd (s.1 refl)
whole_steady steady old new (Err faults.TooLarge) ending (is, w) s = (s.0, λ e. let six = sym (ap import_status is) ∙ e in omega (arith, six))
whole_steady steady old new (Err faults.Memory) ending (is, w) s = (s.0, λ e. let six = sym (ap import_status is) ∙ e in omega (arith, six))

-- ---- A store that did not open.

-- the place or the keeper failed, or the store is damaged, or memory was refused
pub record RefusedAs (before after status : ℕ) : Type 0 where
  pub how : ((status ≡ 4) × Rose before after) ⊎ (status ≡ 5) ⊎ (status ≡ 8)

pub refused_as : (c : StoreChange) (ending : Ending) (status : ℕ) → IsNotOpened c ending → status ≡ status_of ending → RefusedAs c.before c.after status
refused_as c endings.Keeper status why is = record { how = inl (is, why) }
refused_as c (endings.Damaged damage) status why is = record { how = inr (inl is) }
refused_as c endings.Memory status why is = record { how = inr (inr is) }
refused_as c endings.Done status why is = absurd why
refused_as c endings.Read status why is = absurd why
refused_as c endings.Write status why is = absurd why
refused_as c (endings.Malformed number) status why is = absurd why

pub refused_rose : (before after status : ℕ) → RefusedAs before after status → status ≡ 4 → Rose before after
refused_rose before after status refused is = elim refused.how as (λ _. Rose before after) [
  | inl four ↦ four.1
  | inr (inl five) ↦ absurd (omega (arith, is, five))
  | inr (inr eight) ↦ absurd (omega (arith, is, eight))
]

pub refused_other : (before after status other : ℕ) → RefusedAs before after status → other ≢ 4 → other ≢ 5 → other ≢ 8 → status ≢ other
refused_other before after status other refused four five eight same = elim refused.how as (λ _. ⊥) [
  | inl is ↦ four (sym same ∙ is.0)
  | inr (inl is) ↦ five (sym same ∙ is)
  | inr (inr is) ↦ eight (sym same ∙ is)
]

pub refused_written : (before after status : ℕ) (old new : OutputState) (text : List ℕ) → RefusedAs before after status → WritesOnly old new text → (new.faults ≡ old.faults) ⊎ ((status ≢ 0) × Rose old.faults new.faults)
refused_written before after status old new text refused w = elim (only_faults old new text w) as (λ _. (new.faults ≡ old.faults) ⊎ ((status ≢ 0) × Rose old.faults new.faults)) [
  | inl still ↦ inl still
  | inr rose ↦ inr (refused_other before after status 0 refused (λ e. omega (arith, e)) (λ e. omega (arith, e)) (λ e. omega (arith, e)), rose)
]
