-- What each command over a store promises of it: where it did not open, and where its keeper went back.
use Rattle.std.proofs.Common.{◌≡◌, ◌≢◌, ℕ, List, Contains, codes, decimal, ◌++◌, Option, None, Some, Result, Ok, Err, refl, sym, ap, ◌∙◌, subst, lit<, arith, inl, inr}
use Rattle.rv_base.specs.Outside.{OutputState}
use Rattle.rv_base.specs.declared.memory.Memory.{Memory as Refused}
use Rattle.rv_keeper.specs.declared.place.Place.{Ghosts as PlaceGhosts}
use Rattle.rv_keeper.specs.Stores.{OpensAs, OthersStay}
use Rattle.rv_book.specs.Book.{Book}
use Rattle.rv_answering.specs.declared.answer.Answer.{Answer}
use Rattle.rv_cli.specs.declared.ending.Ending.{Ending}
use Rattle.rv_cli.specs.declared.ending.Ending.TheVariants.{Done, Keeper, Damaged, Read, Write, Memory, Malformed}
use Rattle.rv_cli.specs.Change.{StoreChange, change}
use Rattle.rv_cli.specs.FeedPromise.{feed_statuses}
use Rattle.rv_cli.specs.Headline.{AllAsk, IsNotOpened, IsOther, KeptSound, WritesLines}
use Rattle.rv_cli.specs.Replying.{WritesReply}
use Rattle.rv_cli.specs.Reporting.{WritesMade, WritesUntil}
use Rattle.rv_cli.specs.Steadiness.{PlaceIsSteady}
use Rattle.rv_cli.specs.StorePromise.{KeepsStore}
use Rattle.rv_cli.specs.Texts.{status_of}
use Rattle.rv_cli.proofs.Sound.{memory_sound, refused_sound}
use Rattle.rv_cli.proofs.Steady.{not_four}

-- ---- The status is one of the command's own.

module _ (statuses : List ℕ) where
  pub as_of : (status : ℕ) (ending : Ending) → status ≡ status_of ending → Contains statuses (status_of ending) → Contains statuses status
  as_of status ending is = subst (λ (n : ℕ). Contains statuses n) (sym is)

  refused_among : Contains statuses 4 → Contains statuses 5 → Contains statuses 8 → (c : StoreChange) (ending : Ending) → IsNotOpened c ending → Contains statuses (status_of ending)
  refused_among four five eight c Keeper why = four
  refused_among four five eight c (Damaged damage) why = five
  refused_among four five eight c Memory why = eight
  refused_among four five eight c Done why = absurd why
  refused_among four five eight c Read why = absurd why
  refused_among four five eight c Write why = absurd why
  refused_among four five eight c (Malformed number) why = absurd why

  written_among : Contains statuses 0 → Contains statuses 7 → (old new : OutputState) (text : List ℕ) (ending : Ending) → WritesUntil old new text ending → Contains statuses (status_of ending)
  written_among none seven old new text Done w = none
  written_among none seven old new text Write w = seven
  written_among none seven old new text Keeper w = absurd w
  written_among none seven old new text (Damaged damage) w = absurd w
  written_among none seven old new text Read w = absurd w
  written_among none seven old new text Memory w = absurd w
  written_among none seven old new text (Malformed number) w = absurd w

  pub sound_among : Contains statuses 0 → Contains statuses 7 → (old new : OutputState) (entries : ℕ) (ending : Ending) → WritesUntil old new (codes "ok " ++ (decimal entries ++ codes "\n")) ending → Contains statuses (status_of ending)
  sound_among none seven old new entries ending w = written_among none seven old new (codes "ok " ++ (decimal entries ++ codes "\n")) ending w

  pub made_among : Contains statuses 0 → Contains statuses 7 → Contains statuses 8 → (old new : OutputState) (made : Result (List ℕ) Refused) (ending : Ending) → WritesMade old new made ending → Contains statuses (status_of ending)
  made_among none seven eight old new (Ok text) ending w = written_among none seven old new text ending w
  made_among none seven eight old new (Err refused) ending (is, w) = subst (λ (e : Ending). Contains statuses (status_of e)) (sym is) eight

  pub lines_among : Contains statuses 0 → Contains statuses 7 → Contains statuses 8 → (book : Book) (old new : OutputState) (ending : Ending) → WritesLines book old new ending → Contains statuses (status_of ending)
  lines_among none seven eight book old new Done w = none
  lines_among none seven eight book old new Write w = seven
  lines_among none seven eight book old new Memory w = eight
  lines_among none seven eight book old new Keeper w = absurd w
  lines_among none seven eight book old new (Damaged damage) w = absurd w
  lines_among none seven eight book old new Read w = absurd w
  lines_among none seven eight book old new (Malformed number) w = absurd w

  pub reply_among : Contains statuses 0 → Contains statuses 7 → (old new : OutputState) (answer : Answer) (ending : Ending) → WritesReply old new answer ending → Contains statuses (status_of ending)
  reply_among none seven old new answer Done w = none
  reply_among none seven old new answer Write w = seven
  reply_among none seven old new answer Keeper w = absurd w
  reply_among none seven old new answer (Damaged damage) w = absurd w
  reply_among none seven old new answer Read w = absurd w
  reply_among none seven old new answer Memory w = absurd w
  reply_among none seven old new answer (Malformed number) w = absurd w

written_undamaged : (old new : OutputState) (text : List ℕ) (ending : Ending) → WritesUntil old new text ending → status_of ending ≢ 5
written_undamaged old new text Done w is = omega (arith, is)
written_undamaged old new text Write w is = omega (arith, is)
written_undamaged old new text Keeper w is = w
written_undamaged old new text (Damaged damage) w is = w
written_undamaged old new text Read w is = w
written_undamaged old new text Memory w is = w
written_undamaged old new text (Malformed number) w is = w

-- what is written of a report does not end as a damage
pub made_undamaged : (status : ℕ) (old new : OutputState) (made : Result (List ℕ) Refused) (ending : Ending) → status ≡ status_of ending → WritesMade old new made ending → status ≢ 5
made_undamaged status old new (Ok text) ending same w five = written_undamaged old new text ending w (sym same ∙ five)
made_undamaged status old new (Err refused) ending same (is, w) five = let eight : 8 ≡ 5 = sym (ap status_of is) ∙ (sym same ∙ five) in omega (arith, eight)

pub sound_undamaged : (status : ℕ) (old new : OutputState) (entries : ℕ) (ending : Ending) → status ≡ status_of ending → WritesUntil old new (codes "ok " ++ (decimal entries ++ codes "\n")) ending → status ≢ 5
sound_undamaged status old new entries ending same w five = written_undamaged old new (codes "ok " ++ (decimal entries ++ codes "\n")) ending w (sym same ∙ five)

pub lines_undamaged : (status : ℕ) (book : Book) (old new : OutputState) (ending : Ending) → status ≡ status_of ending → WritesLines book old new ending → status ≢ 5
lines_undamaged status book old new Done same w five = let zero : 0 ≡ 5 = sym same ∙ five in omega (arith, zero)
lines_undamaged status book old new Write same w five = let seven : 7 ≡ 5 = sym same ∙ five in omega (arith, seven)
lines_undamaged status book old new Memory same w five = let eight : 8 ≡ 5 = sym same ∙ five in omega (arith, eight)
lines_undamaged status book old new Keeper same w five = w
lines_undamaged status book old new (Damaged damage) same w five = w
lines_undamaged status book old new Read same w five = w
lines_undamaged status book old new (Malformed number) same w five = w

pub feed_among : (ending : Ending) → Contains feed_statuses (status_of ending)
feed_among Done = (0, lit< tt, refl)
feed_among Keeper = (1, lit< tt, refl)
feed_among (Damaged damage) = (2, lit< tt, refl)
feed_among Read = (3, lit< tt, refl)
feed_among Write = (4, lit< tt, refl)
feed_among Memory = (5, lit< tt, refl)
feed_among (Malformed number) = (6, lit< tt, refl)

-- where all lines are of the form, the status is none of a line that isn't
not_ten : (status : ℕ) → IsOther status → status ≢ 10
not_ten status (inl is) ten = omega (arith, is, ten)
not_ten status (inr (inl is)) ten = omega (arith, is, ten)
not_ten status (inr (inr (inl is))) ten = omega (arith, is, ten)
not_ten status (inr (inr (inr (inl is)))) ten = omega (arith, is, ten)
not_ten status (inr (inr (inr (inr (inl is))))) ten = omega (arith, is, ten)
not_ten status (inr (inr (inr (inr (inr is))))) ten = omega (arith, is, ten)

pub none_malformed : (left : Option (List ℕ)) (status other : ℕ) → status ≡ other → AllAsk left (IsOther other) → AllAsk left (status ≢ 10)
none_malformed None status other is all = tt
none_malformed (Some bytes) status other is all = λ lines are ten. not_ten other (all lines are) (sym is ∙ ten)

pub refused_not_ten : (c : StoreChange) (ending : Ending) (status : ℕ) → IsNotOpened c ending → status ≡ status_of ending → status ≢ 10
refused_not_ten c Keeper status why is ten = omega (arith, is, ten)
refused_not_ten c (Damaged damage) status why is ten = omega (arith, is, ten)
refused_not_ten c Memory status why is ten = omega (arith, is, ten)
refused_not_ten c Done status why is ten = why
refused_not_ten c Read status why is ten = why
refused_not_ten c Write status why is ten = why
refused_not_ten c (Malformed number) status why is ten = why

pub all_ask : (left : Option (List ℕ)) (Q : Type 0) → Q → AllAsk left Q
all_ask None Q is = tt
all_ask (Some bytes) Q is = λ lines are. is

-- ---- The store.

module _ {P K : Type 0} (place : PlaceGhosts P K) (store statuses : List ℕ) (There : Type 0) (old new : P) where
  -- the store in memory is a sound one
  pub keeps : (status : ℕ) → Contains statuses status → (place.tells new → KeptSound (OpensAs store (place.holds old store)) → status ≢ 5)
      → (place.tells new → OthersStay place.holds place.may_leave place.is_out place.has place.accounts store old new) → (place.fails_no_more old → There → PlaceIsSteady place.fails_no_more new status)
      → KeepsStore place store statuses There old new status
  keeps status among sound others steady = record {
    complete = among;
    sound = sound;
    in_memory = λ told memory. sound told (memory_sound store (place.holds old store) memory);
    others = others;
    steady = steady;
  }

  -- a store that did not open
  pub refused_keeps : Contains statuses 4 → Contains statuses 5 → Contains statuses 8 → (ending : Ending) (status : ℕ) → IsNotOpened (change place store old new) ending → status ≡ status_of ending
      → (place.tells new → OthersStay place.holds place.may_leave place.is_out place.has place.accounts store old new) → (place.fails_no_more old → There → place.fails_no_more new × (ending ≡ Keeper → ⊥))
      → KeepsStore place store statuses There old new status
  refused_keeps four five eight ending status why is others steady =
      keeps status (as_of statuses status ending is (refused_among statuses four five eight (change place store old new) ending why)) (λ told kept. refused_sound (change place store old new) told kept ending status why is) others
      (λ f there. let (on, never) = steady f there in record { goes_on = on; no_fault = λ four. not_four ending never (sym is ∙ four) })
