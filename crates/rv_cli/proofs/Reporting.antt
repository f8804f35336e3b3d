-- From the desk of a store, or a check of it, and the keeper that went back, to what a report promises.
use Rattle.std.proofs.Common.{◌≡◌, ℕ, ◌-◌, ◌^◌, ◌++◌, List, Option, None, Result, Ok, Err, IsOk, IsErr, IsErrAnd, IfOk, OnOk, refl, sym, ap, ◌∙◌, subst, arith, decimal, codes, inl, inr}
use Rattle.rv_base.specs.Outside.{OutputState, Writes}
use Rattle.rv_base.specs.declared.memory.Memory.{Memory as Refused}
use Rattle.rv_base.specs.declared.fault.Fault.{Fault}
use Rattle.rv_keeper.specs.declared.loaded.Loaded.{Loaded}
use Rattle.rv_keeper.specs.declared.keeper.Keeper.{Ghosts}
use Rattle.rv_keeper.specs.declared.place.Place.{Ghosts as PlaceGhosts}
use Rattle.rv_keeper.specs.Keeping.{HasKeepCause}
use Rattle.rv_keeper.specs.Stores.{LeavesAsGiven, OpensWith}
use Rattle.rv_book.specs.Book.{Book}
use Rattle.rv_doubt.specs.Kept.{KeepsBook}
use Rattle.rv_desk.specs.DeskStates.{IsSoundDesk, DeskState, served}
use Rattle.rv_cli.specs.declared.ending.Ending.{Ending}
use Rattle.rv_cli.specs.declared.ending.Ending.TheVariants.{Done, Keeper, Damaged, Read, Write, Memory, Malformed}
use Rattle.rv_cli.specs.Change.{change}
use Rattle.rv_cli.specs.Headline.{Reported, ReportsSound, WritesOnly, WritesReport, WritesWhole}
use Rattle.rv_cli.specs.Reporting.{WritesUntil, WritesMade, WasSound, ChecksStore, ChecksKept}
use Rattle.rv_cli.specs.Storing.{HasOpened}
use Rattle.rv_cli.specs.Texts.{keep_ending}
use Rattle.rv_cli.proofs.Storing.{WentBack, begins, leaves, not_given, store_opened}

-- what was written of a text is written of a report that tells it
pub reports_text : (Reports : List ℕ → Type 0) (text : List ℕ) (old new : OutputState) (ending : Ending) → Reports text → WritesUntil old new text ending → WritesReport Reports old new ending
reports_text Reports text old new Done is (appended, still) = (text, is, appended, still)
reports_text Reports text old new Write is (front, rose) = (text, is, front, rose)
reports_text Reports text old new Keeper is never = never
reports_text Reports text old new (Damaged damage) is never = never
reports_text Reports text old new Read is never = never
reports_text Reports text old new Memory is never = absurd never
reports_text Reports text old new (Malformed number) is never = never

-- and so of one for which there may be no memory
pub reports_made : (Reports : List ℕ → Type 0) (made : Result (List ℕ) Refused) (old new : OutputState) (ending : Ending) → ((text : List ℕ) → made ≡ Ok text → Reports text) → WritesMade old new made ending → WritesReport Reports old new ending
reports_made Reports (Ok text) old new ending is w = reports_text Reports text old new ending (is text refl) w
reports_made Reports (Err refused) old new ending is (e, w) = subst (λ (ending : Ending). WritesReport Reports old new ending) (sym e) w

-- what holds of the value at an Ok holds of it where the result is that
pub if_ok : {T E : Type 0} (P : T → Type 0) (r : Result T E) (x : T) → IfOk r P → r ≡ Ok x → P x
if_ok P r x holds is = let Q : Result _ _ → Type 0 = λ r. IfOk r P in subst Q is holds

-- and so does what holds where it is an Ok
pub on_ok : {T E : Type 0} (A : Type 0) (r : Result T E) (x : T) → OnOk r A → r ≡ Ok x → A
on_ok A r x holds is = let Q : Result _ _ → Type 0 = λ r. OnOk r A in subst Q is holds

module _ {P K : Type 0} (place : PlaceGhosts P K) (G : Ghosts K) (store : List ℕ) where
  abbrev Back : P → P → K → Type 0
  Back mid new keeper = WentBack place G store mid new keeper

  -- the desk was opened and reported of, and its keeper went back
  pub has_reported : (Writes : Book → OutputState → OutputState → Ending → Type 0) (old mid new : P) (desk : DeskState K) (keeper : K) (out out' : OutputState) (ending : Ending)
      → HasOpened place G store old desk mid → keeper ≡ desk.keeper → KeepsBook G desk.keeper desk.book desk.doubt → IsSoundDesk desk
      → Back mid new keeper → Writes desk.book out out' ending
      → Reported (change place store old new) Writes out out' ending
  has_reported Writes old mid new desk keeper out out' ending opened is kept sound back w =
      let home = subst (λ (k : K). Back mid new k) is back in
      record {
        first = served G.faults desk;
        begins = begins place G store old mid new desk desk.keeper opened (λ t. t) home;
        writes = w;
        leaves = leaves place G store old mid new (served G.faults desk) desk.keeper opened.same (record { kept = record { held = kept.held; left = kept.left }; sound = record { book = sound.book; small = sound.small; fits = sound.fits; next = sound.next }; later = omega arith }) home;
      }

  -- the store's keeper was fetched and checked
  pub store_checked : (kept : K) (old mid new : P) (result : Result ℕ Ending) → (place.tells mid → place.is_out mid store) → (place.tells mid → G.tells kept → OpensWith store (place.holds old store) (G.holds kept)) → (place.honest mid → G.honest kept → LeavesAsGiven store (place.may_leave old store) (G.may_leave kept))
      → (place.tells mid → place.honest mid) → G.faults kept ≡ 0 → place.faults mid ≡ place.faults old
      → ChecksKept place G store kept mid result new → ChecksStore place store old result new
  store_checked kept old mid new (Ok entries) out got gave honestly none still checked =
      let sound = checked none in
      record {
        loaded = sound.loaded;
        book = sound.book;
        stored = λ t held was. sound.stored t held (got (sound.told t).0 (sound.told t).1 held was);
        opens = sound.opens;
        length = sound.length;
        held = sound.held;
        left = sound.left;
        same = sound.same ∙ still;
      }
  store_checked kept old mid new (Err ending) out got gave honestly none still checked =
      store_opened place G store kept old mid new (Err ending) out got gave honestly none still checked

  -- the place gave no keeper, and so nothing was checked
  pub check_refused : {T : Type 0} (old new : P) (fault : Fault) (result : Result ℕ Ending) → HasKeepCause {T = T} (place.faults old) (place.faults new) (Err fault) → IsErr result × IsErrAnd result (λ ending. ending ≡ keep_ending fault) → (place.tells new → (held : Loaded) → place.holds old store held → place.holds new store held)
      → (place.tells new → (left : Option Loaded) → place.may_leave new store left → place.may_leave old store left) → ChecksStore place store old result new
  check_refused old new fault (Ok entries) cause is same left = absurd (let is = is.0 in cc)
  check_refused old new fault (Err ending) cause is same left = (not_given (change place store old new) fault ending cause is.1, record { held = λ t. inl (same t); left = λ t x may. inl (left t x may) })

  -- a store is found sound only where it was there
  pub checked_there : (There : Type 0) (kept : K) (mid new : P) (result : Result ℕ Ending) → (place.tells mid → There) → G.faults kept ≡ 0 → ChecksKept place G store kept mid result new → place.tells new → IsOk result → There
  checked_there There kept mid new (Ok entries) there none checked t ok = there ((checked none).told t).0
  checked_there There kept mid new (Err ending) there none checked t ok = absurd (cc)

-- the store was checked, and told to be sound
pub has_checked : {P K : Type 0} (place : PlaceGhosts P K) (store : List ℕ) (old new : P) (entries : ℕ) (out out' : OutputState) (ending : Ending)
    → WasSound place store old new entries → WritesUntil out out' (codes "ok " ++ (decimal entries ++ codes "\n")) ending
    → Reported (change place store old new) (WritesWhole ReportsSound) out out' ending
has_checked place store old new entries out out' ending was w = record {
  first = record { book = was.book; limit = 2 ^ 32 - 1; doubt = None; faults = 0 };
  begins = record { loaded = was.loaded; stored = was.stored; opens = was.opens; limit = refl; doubt = refl; faults = refl };
  writes = reports_text (ReportsSound was.book) _ out out' ending (ap (λ n. codes "ok " ++ (decimal n ++ codes "\n")) (sym was.length)) w;
  leaves = record { sound = record { book = was.opens.sound; small = omega arith; fits = tt; next = tt }; held = λ t. (was.loaded, was.held t, inl was.opens.kept); left = was.left; kept = 0; later = omega arith; taken = was.same };
}

-- a text that was written, or a front of it, and nothing else
pub told_only : {T E : Type 0} (old new : OutputState) (result : Result T E) (text : List ℕ) → Writes old new result text → WritesOnly old new text
told_only old new (Ok x) text w = (text, w.bytes, inl (refl, w.cause.still))
told_only old new (Err e) text w = let (part, front, appended) = w.bytes in (part, appended, inr (front, w.cause.failed))
