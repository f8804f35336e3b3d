-- What stays of a place's other stores, and what goes on where nothing fails any more.
use Rattle.std.proofs.Common.{codes, decimal, ◌≡◌, ◌≢◌, ◌⊎◌, inl, inr, ℕ, ◌-◌, ◌^◌, ◌++◌, List, Result, Ok, Err, IsErrOf, refl, sym, ap, ◌∙◌, subst, arith}
use Rattle.rv_keeper.specs.declared.keeper.Keeper.{Ghosts}
use Rattle.rv_keeper.specs.declared.place.Place.{Ghosts as PlaceGhosts}
use Rattle.rv_keeper.specs.Keeping.{HasKeepCause}
use Rattle.rv_keeper.specs.Stores.{TakesUp}
use Rattle.rv_desk.specs.DeskStates.{DeskState}
use Rattle.rv_desk.specs.Opened.{IsRefused}
use Rattle.rv_desk.specs.declared.open_fault.OpenFault.{OpenFault}
use Rattle.rv_desk.specs.declared.open_fault.OpenFault.TheVariants as faulting
use Rattle.rv_base.specs.Outside.{OutputState}
use Rattle.rv_base.specs.declared.memory.Memory.{Memory as Refused}
use Rattle.rv_base.specs.declared.fault.Fault.{Fault}
use Rattle.rv_base.specs.declared.fault.Fault.TheVariants as outside
use Rattle.rv_book.specs.Book.{Book}
use Rattle.rv_answering.specs.declared.answer.Answer.{Answer}
use Rattle.rv_cli.specs.Headline.{WritesLines}
use Rattle.rv_cli.specs.Replying.{WritesReply}
use Rattle.rv_cli.specs.Reporting.{WritesMade, WritesUntil}
use Rattle.rv_cli.specs.declared.serve_ending.ServeEnding.{ServeEnding}
use Rattle.rv_cli.specs.declared.serve_ending.ServeEnding.TheVariants as serves
use Rattle.rv_cli.specs.Serving.{HasNoAccounts}
use Rattle.rv_cli.specs.ServingSteps.{WritesCount, WritesServed}
use Rattle.rv_cli.specs.declared.ending.Ending.{Ending}
use Rattle.rv_cli.specs.declared.ending.Ending.TheVariants.{Done, Keeper, Damaged, Read, Write, Memory, Malformed}
use Rattle.rv_cli.specs.Texts.{fault_ending, keep_ending, serve_status, status_of}
use Rattle.std.specs.Prelude.{IsErr, IsErrAnd}
use Rattle.rv_cli.specs.Steadiness.{CheckIsSteady, DeskIsSteady}
use Rattle.rv_cli.proofs.Storing.{none_taken}

-- an ending that is none of a keeper has another status
pub not_four : (ending : Ending) → (ending ≡ Keeper → ⊥) → status_of ending ≢ 4
not_four Done never is = omega (arith, is)
not_four Keeper never is = never refl
not_four (Damaged damage) never is = omega (arith, is)
not_four Read never is = omega (arith, is)
not_four Write never is = omega (arith, is)
not_four Memory never is = omega (arith, is)
not_four (Malformed number) never is = omega (arith, is)

-- what is written of an answer or a report ends as none of a keeper
pub reply_is_none : (before now : OutputState) (answer : Answer) (ending : Ending) → WritesReply before now answer ending → ending ≡ Keeper → ⊥
reply_is_none before now answer ending w is = subst (λ (e : Ending). WritesReply before now answer e) is w

pub made_is_none : (before now : OutputState) (made : Result (List ℕ) Refused) (ending : Ending) → WritesMade before now made ending → ending ≡ Keeper → ⊥
made_is_none before now (Ok text) ending w is = subst (λ (e : Ending). WritesUntil before now text e) is w
made_is_none before now (Err refused) ending (e, w) is = absurd (let m = sym e ∙ is in cc)

text_is_none : (before now : OutputState) (text : List ℕ) (ending : Ending) → WritesUntil before now text ending → ending ≡ Keeper → ⊥
text_is_none before now text ending w is = subst (λ (e : Ending). WritesUntil before now text e) is w

pub sound_is_none : (before now : OutputState) (entries : ℕ) (ending : Ending) → WritesUntil before now (codes "ok " ++ (decimal entries ++ codes "\n")) ending → ending ≡ Keeper → ⊥
sound_is_none before now entries ending w is = text_is_none before now (codes "ok " ++ (decimal entries ++ codes "\n")) ending w is

pub lines_is_none : (book : Book) (before now : OutputState) (ending : Ending) → WritesLines book before now ending → ending ≡ Keeper → ⊥
lines_is_none book before now ending w is = subst (λ (e : Ending). WritesLines book before now e) is w

-- a keeper that was not given was refused for memory
pub not_given : {T : Type 0} (fault : Fault) (ending : Ending) → ¬ IsErrOf {T = T} (Err fault) outside.Failed → ending ≡ keep_ending fault → ending ≡ Keeper → ⊥
not_given outside.Failed ending never is keeper = never refl
not_given outside.Memory ending never is keeper = absurd (cc)

-- and the count stays
pub count_stays : {T : Type 0} (fault : Fault) (before now : ℕ) → ¬ IsErrOf {T = T} (Err fault) outside.Failed → HasKeepCause {T = T} before now (Err fault) → now ≡ before
count_stays outside.Failed before now never cause = absurd (never refl)
count_stays outside.Memory before now never cause = cause.memory refl

-- a desk, and a check, for which no keeper was given
pub desk_not_given : {T K : Type 0} (steady : K → Type 0) (faults : K → ℕ) (fault : Fault) (result : Result (DeskState K) Ending) → ¬ IsErrOf {T = T} (Err fault) outside.Failed → IsErr result × IsErrAnd result (λ ending. ending ≡ keep_ending fault) → DeskIsSteady steady faults result
desk_not_given steady faults fault (Ok desk) never is = absurd (let is = is.0 in cc)
desk_not_given steady faults fault (Err ending) never is = not_given fault ending never is.1

pub check_not_given : {T : Type 0} (fault : Fault) (result : Result ℕ Ending) → ¬ IsErrOf {T = T} (Err fault) outside.Failed → IsErr result × IsErrAnd result (λ ending. ending ≡ keep_ending fault) → CheckIsSteady result
check_not_given fault (Ok entries) never is = absurd (let is = is.0 in cc)
check_not_given fault (Err ending) never is = not_given fault ending never is.1

module _ {K : Type 0} (G : Ghosts K) where
  -- opening over what fails never more is not refused for a fault, and never fault is counted
  pub refused_for : (kept now : K) (fault : OpenFault) → G.fails_no_more kept → IsRefused G (2 ^ 32 - 1) kept fault now → (fault_ending fault ≡ Keeper → ⊥) × (G.faults now ≡ G.faults kept)
  refused_for kept now faulting.Keeper s (rose, unsteady) = absurd (unsteady s)
  refused_for kept now (faulting.Damaged damage) s damaged = (λ e. absurd (cc), damaged.still)
  refused_for kept now faulting.Memory s same = (λ e. absurd (cc), same)

-- a keeper that has counted no fault is taken up without one
pub taken_up : (n before after : ℕ) → n ≡ 0 → TakesUp n before after → after ≡ before
taken_up = none_taken

-- ---- Of `serve`.

pub serve_not_four : (ending : ServeEnding) → (ending ≡ serves.NotOpened Keeper → ⊥) → serve_status ending ≢ 4
serve_not_four serves.Done never is = omega (arith, is)
serve_not_four (serves.BadAccounts number) never is = omega (arith, is)
serve_not_four (serves.TwiceAccounts number) never is = omega (arith, is)
serve_not_four (serves.NotOpened other) never is = not_four other (λ e. never (ap (λ (o : Ending). serves.NotOpened o) e)) is
serve_not_four serves.Net never is = omega (arith, is)
serve_not_four serves.Memory never is = omega (arith, is)
serve_not_four serves.Write never is = omega (arith, is)

same_other : (one two : Ending) → serves.NotOpened one ≡ serves.NotOpened two → one ≡ two
same_other one two e = cc

pub no_store_not_four : (other : Ending) → (other ≡ Keeper → ⊥) → serves.NotOpened other ≡ serves.NotOpened Keeper → ⊥
no_store_not_four other never e = never (same_other other Keeper e)

counted_none : (text : List ℕ) (old new : OutputState) (ending : ServeEnding) → WritesCount text old new ending → ending ≡ serves.NotOpened Keeper → ⊥
counted_none text old new ending tells is = subst (λ (e : ServeEnding). WritesCount text old new e) is tells

pub served_not_four : (result : Result (Unit {0}) Fault) (entries : ℕ) (old new : OutputState) (ending : ServeEnding) → WritesServed result entries old new ending → ending ≡ serves.NotOpened Keeper → ⊥
served_not_four (Ok done) entries old new ending tells is = counted_none _ old new ending tells is
served_not_four (Err outside.Failed) entries old new ending (e, text) is = absurd (let m = sym e ∙ is in cc)
served_not_four (Err outside.Memory) entries old new ending (e, text) is = absurd (let m = sym e ∙ is in cc)

pub serve_not_nine : (ending : ServeEnding) → (ending ≡ serves.Net → ⊥) → serve_status ending ≢ 9
serve_not_nine serves.Done never is = omega (arith, is)
serve_not_nine (serves.BadAccounts number) never is = omega (arith, is)
serve_not_nine (serves.TwiceAccounts number) never is = omega (arith, is)
serve_not_nine (serves.NotOpened Done) never is = omega (arith, is)
serve_not_nine (serves.NotOpened Keeper) never is = omega (arith, is)
serve_not_nine (serves.NotOpened (Damaged damage)) never is = omega (arith, is)
serve_not_nine (serves.NotOpened Read) never is = omega (arith, is)
serve_not_nine (serves.NotOpened Write) never is = omega (arith, is)
serve_not_nine (serves.NotOpened Memory) never is = omega (arith, is)
serve_not_nine (serves.NotOpened (Malformed number)) never is = omega (arith, is)
serve_not_nine serves.Net never is = never refl
serve_not_nine serves.Memory never is = omega (arith, is)
serve_not_nine serves.Write never is = omega (arith, is)

counted_no_net : (text : List ℕ) (old new : OutputState) (ending : ServeEnding) → WritesCount text old new ending → ending ≡ serves.Net → ⊥
counted_no_net text old new ending tells is = subst (λ (e : ServeEnding). WritesCount text old new e) is tells

pub served_not_nine : (result : Result (Unit {0}) Fault) (entries : ℕ) (old new : OutputState) (ending : ServeEnding) → WritesServed result entries old new ending → result ≢ Err outside.Failed → ending ≡ serves.Net → ⊥
served_not_nine (Ok done) entries old new ending tells never is = counted_no_net _ old new ending tells is
served_not_nine (Err outside.Failed) entries old new ending tells never is = never refl
served_not_nine (Err outside.Memory) entries old new ending (e, text) never is = absurd (let m = sym e ∙ is in cc)

-- what is written of the book's length ends with status 7 only where the write failed
counted_seven : (text : List ℕ) (old new : OutputState) (ending : ServeEnding) (P : Type 0) → WritesCount text old new ending → (ending ≡ serves.Write → P) → P ⊎ (serve_status ending ≢ 7)
counted_seven text old new serves.Done P tells only = inr (λ seven. omega (arith, seven))
counted_seven text old new serves.Write P tells only = inl (only refl)
counted_seven text old new (serves.BadAccounts number) P never only = absurd never
counted_seven text old new (serves.TwiceAccounts number) P never only = absurd never
counted_seven text old new (serves.NotOpened ending) P never only = absurd never
counted_seven text old new serves.Net P never only = absurd never
counted_seven text old new serves.Memory P never only = absurd never

pub served_seven : (result : Result (Unit {0}) Fault) (entries : ℕ) (old new : OutputState) (ending : ServeEnding) (P : Type 0) → WritesServed result entries old new ending → (ending ≡ serves.Write → P) → P ⊎ (serve_status ending ≢ 7)
served_seven (Ok done) entries old new ending P tells only = counted_seven _ old new ending P tells only
served_seven (Err outside.Failed) entries old new ending P (is, text) only = inr (λ seven. omega (arith, seven, ap serve_status is))
served_seven (Err outside.Memory) entries old new ending P (is, text) only = inr (λ seven. omega (arith, seven, ap serve_status is))

pub no_accounts_not_nine : {P K : Type 0} (place : PlaceGhosts P K) (name : List ℕ) (old new : P) (ending : ServeEnding) → HasNoAccounts place name old new ending → ending ≡ serves.Net → ⊥
no_accounts_not_nine place name old new ending why is = subst (λ (e : ServeEnding). HasNoAccounts place name old new e) is why

pub no_store_not_nine : (other : Ending) → serves.NotOpened other ≡ serves.Net → ⊥
no_store_not_nine other e = absurd (cc)
