-- From the desk of a store, what was fed to it, and the keeper that went back, to what a run promises.
use Rattle.std.proofs.Common.{◌≡◌, ◌≢◌, ◌⊎◌, ℕ, zero, suc, ◌<◌, ◌-◌, ◌^◌, List, [], codes, Option, Some, None, IfSome, Result, Ok, Err, IsOk, IsErr, IsErrAnd, refl, sym, ap, ◌∙◌, subst, arith, inl, inr}
use Rattle.rv_base.specs.Causes.{Rose}
use Rattle.rv_base.specs.Outside.{InputState, OutputState, Writes}
use Rattle.rv_base.specs.declared.fault.Fault.{Fault}
use Rattle.rv_base.specs.declared.fault.Fault.TheVariants as outside
use Rattle.rv_history.specs.Served.{Served}
use Rattle.rv_keeper.specs.declared.loaded.Loaded.{Loaded}
use Rattle.rv_keeper.specs.declared.keeper.Keeper.{Ghosts}
use Rattle.rv_keeper.specs.declared.place.Place.{Ghosts as PlaceGhosts}
use Rattle.rv_keeper.specs.Keeping.{HasKeepCause, holding}
use Rattle.rv_keeper.specs.Stores.{LeavesAsGiven, OpensAs, OpensWith, TakesUp}
use Rattle.rv_desk.specs.DeskStates.{DeskState, served}
use Rattle.rv_desk.specs.Opened.{IsLeft, IsRefused}
use Rattle.rv_desk.specs.declared.open_fault.OpenFault.{OpenFault}
use Rattle.rv_desk.specs.declared.open_fault.OpenFault.TheVariants as faulting
use Rattle.rv_answering.specs.declared.answer.Answer.{Answer}
use Rattle.rv_answering.specs.declared.line.Line.{Line}
use Rattle.rv_cli.specs.declared.ending.Ending.{Ending}
use Rattle.rv_cli.specs.declared.ending.Ending.TheVariants.{Done, Keeper, Damaged, Read, Write, Memory, Malformed}
use Rattle.rv_cli.specs.Texts.{fault_ending, keep_ending, status_of, status_text}
use Rattle.rv_cli.specs.Change.{StoreChange, change, kept_change}
use Rattle.rv_cli.specs.Headline.{Begins, Leaves, IsNotOpened, KeepsSo, HasFed, Replied, served_lines}
use Rattle.rv_cli.specs.LineTaking.{FedAnswers, Feeds}
use Rattle.rv_cli.specs.LineRunLaws.{ends_later, reached_later}
use Rattle.rv_cli.specs.Feeding.{IsLeftWith, RoseAt, FeedsWith}
use Rattle.rv_cli.specs.Replying.{Replies, WritesReply}
use Rattle.rv_cli.specs.Storing.{HasOpened, OpensStore, OpensKept, ToldBefore}
use Rattle.rv_cli.specs.RunLaws.{takes_later}
use Rattle.rv_cli.proofs.Ended.{ended}

-- what is told later was told before
module _ (Told Now : Type 0) (then : Now → Told) where
  fed_later : (o : Option (List ℕ)) (first now : Served) (input input' : InputState) (output output' : OutputState) (ending : Ending) → IfSome o (λ bytes. FedAnswers served_lines Told first now bytes input input' output output' ending)
      → IfSome o (λ bytes. FedAnswers served_lines Now first now bytes input input' output output' ending)
  fed_later None first now input input' output output' ending f = tt
  fed_later (Some bytes) first now input input' output output' ending f =
      record { read = f.read; text = f.text; consumed = f.consumed; appended = f.appended; ends = ends_later served_lines Told Now (takes_later Told Now then) first bytes input input' f.read f.text now ending f.ends }

  pub feeds_later : (first now : Served) (input input' : InputState) (output output' : OutputState) (ending : Ending) → Feeds served_lines Told first now input input' output output' ending → Feeds served_lines Now first now input input' output output' ending
  feeds_later first now input input' output output' ending f = record {
    reads = f.reads;
    writes = f.writes;
    reached = reached_later served_lines Told Now (takes_later Told Now then) first now f.reached;
    fed = fed_later input.left first now input input' output output' ending f.fed;
  }

-- the place gave no keeper, and that is told
pub not_given : {T : Type 0} (c : StoreChange) (fault : Fault) (ending : Ending) → HasKeepCause {T = T} c.before c.after (Err fault) → ending ≡ keep_ending fault
    → IsNotOpened c ending
not_given c outside.Failed ending cause is = subst (λ (e : Ending). IsNotOpened c e) (sym is) (cause.failed refl)
not_given c outside.Memory ending cause is = subst (λ (e : Ending). IsNotOpened c e) (sym is) tt

-- a store that did not open has no status 0
pub refused_fails : (c : StoreChange) (ending : Ending) (status : ℕ) → IsNotOpened c ending → status ≡ status_of ending → status ≢ 0
refused_fails c Keeper status why is none = omega (arith, is, none)
refused_fails c (Damaged damage) status why is none = omega (arith, is, none)
refused_fails c Memory status why is none = omega (arith, is, none)
refused_fails c Done status why is none = why
refused_fails c Read status why is none = why
refused_fails c Write status why is none = why
refused_fails c (Malformed number) status why is none = why

-- a count that rose from 0 is above it, and what takes it up rises
above_none : (n : ℕ) → Rose 0 n → 0 < n
above_none n rose = omega (arith, rose)

rises : (n before after : ℕ) → 0 < n → TakesUp n before after → Rose before after
rises zero before after more taken = absurd (omega (arith, more))
rises (suc n) before after more taken = taken

pub none_taken : (n before after : ℕ) → n ≡ 0 → TakesUp n before after → after ≡ before
none_taken zero before after none taken = taken
none_taken (suc n) before after none taken = absurd (omega (arith, none))

module _ {P K : Type 0} (place : PlaceGhosts P K) (G : Ghosts K) (store : List ℕ) where
  -- a keeper that went back to the place
  pub record WentBack (before after : P) (keeper : K) : Type 0 where
    pub told : place.tells after → place.tells before × G.tells keeper
    pub honest : place.honest after → place.honest before × G.honest keeper
    pub held : place.tells after → (held : Loaded) → G.holds keeper held → place.holds after store held
    pub left : place.honest after → (left : Option Loaded) → place.may_leave after store left → G.may_leave keeper left
    pub taken : TakesUp (G.faults keeper) (place.faults before) (place.faults after)

  -- the store's keeper was fetched, and its desk opened or not
  pub store_opened : (kept : K) (old mid new : P) (result : Result (DeskState K) Ending) → (place.tells mid → place.is_out mid store) → (place.tells mid → G.tells kept → OpensWith store (place.holds old store) (G.holds kept)) → (place.honest mid → G.honest kept → LeavesAsGiven store (place.may_leave old store) (G.may_leave kept))
      → (place.tells mid → place.honest mid) → G.faults kept ≡ 0 → place.faults mid ≡ place.faults old
      → OpensKept place G store kept mid result new → OpensStore place G store old result new
  store_opened kept old mid new (Ok desk) out got gave honestly none still opened = record {
    loaded = opened.loaded;
    stored = λ t now held was. opened.stored now held (got (subst (λ (p : P). place.tells p) opened.same t) (opened.told now) held was);
    opens = opened.opens;
    limit = opened.limit;
    doubt = opened.doubt;
    none = opened.still ∙ none;
    out = λ t. subst (λ (p : P). place.is_out p store) (sym opened.same) (out (subst (λ (p : P). place.tells p) opened.same t));
    same = ap place.faults opened.same ∙ still;
  }
  store_opened kept old mid new (Err ending) out got gave honestly none still opened =
      let (told, why, back, left) = opened none in (
        again ending told why,
        record {
          held = λ t. inr (λ held was. back t held (got (told t).0 (told t).1 held was));
          left = λ t x may. elim ((left t).1 x may) [
            | inl was ↦ elim (gave (honestly (told t).0) (left t).0 x was) [
              | inl memory ↦ inr (λ held was. of_memory x memory.0 memory.1 held was)
              | inr other ↦ inl other.1
            ]
            | inr holds ↦ inr (λ held was. holds held (got (told t).0 (told t).1 held was))
          ];
        },
      )
    where
      of_memory : (x : Option Loaded) → store ≡ codes "memory" → x ≡ Some (holding [] 0) → (held : Loaded) → OpensAs store (place.holds old store) held → x ≡ Some held
      of_memory x same is held (inl was) = is ∙ ap Some (sym was.1)
      of_memory x same is held (inr was) = absurd (was.0 same)

      again : (ending : Ending) → (place.tells new → place.tells mid × G.tells kept) → IsNotOpened (kept_change place G store kept mid new) ending
          → IsNotOpened (change place store old new) ending
      again Keeper told rose = subst (λ (n : ℕ). Rose n (place.faults new)) still rose
      again (Damaged damage) told (loaded, stored, damaged, left, same) =
          (loaded, λ t held was. stored t held (got (told t).0 (told t).1 held was), damaged, λ t held was. left t held (got (told t).0 (told t).1 held was), same ∙ still)
      again Memory told free = tt
      again Done told never = never
      again Read told never = never
      again Write told never = never
      again (Malformed number) told never = never

  -- the place gave no keeper, and so there is no desk
  pub store_refused : {T : Type 0} (old new : P) (fault : Fault) (result : Result (DeskState K) Ending) → HasKeepCause {T = T} (place.faults old) (place.faults new) (Err fault) → IsErr result × IsErrAnd result (λ ending. ending ≡ keep_ending fault) → (place.tells new → (held : Loaded) → place.holds old store held → place.holds new store held)
      → (place.tells new → (left : Option Loaded) → place.may_leave new store left → place.may_leave old store left) → OpensStore place G store old result new
  store_refused old new fault (Ok desk) cause is same left = absurd (let is = is.0 in cc)
  store_refused old new fault (Err ending) cause is same left = (not_given (change place store old new) fault ending cause is.1, record { held = λ t. inl (same t); left = λ t x may. inl (left t x may) })

  -- a keeper whose desk was refused went back
  pub kept_refused : (kept keeper : K) (old new : P) (fault : OpenFault) → (place.tells new → place.honest new) → IsRefused G (2 ^ 32 - 1) kept fault keeper × IsLeft G kept keeper → WentBack old new keeper → OpensKept place G store kept old (Err (fault_ending fault)) new
  kept_refused kept keeper old new fault honestly (refused, was) back none =
      (λ t. ((back.told t).0, was.told (back.told t).1), why fault refused, λ t held h. back.held t held (was.held (back.told t).1 held h), λ t. (was.honest (back.honest (honestly t)).1, λ x may. of_left (was.crash (back.honest (honestly t)).1 x (back.left (honestly t) x may))))
    where
      of_left : {x : Option Loaded} → G.may_leave kept x ⊎ (G.tells kept × ((held : Loaded) → G.holds kept held → x ≡ Some held)) → G.may_leave kept x ⊎ ((held : Loaded) → G.holds kept held → x ≡ Some held)
      of_left (inl might) = inl might
      of_left (inr holds) = inr holds.1

      same : G.faults keeper ≡ G.faults kept → place.faults new ≡ place.faults old
      same still = none_taken (G.faults keeper) (place.faults old) (place.faults new) (still ∙ none) back.taken

      why : (fault : OpenFault) → IsRefused G (2 ^ 32 - 1) kept fault keeper → IsNotOpened (kept_change place G store kept old new) (fault_ending fault)
      why faulting.Keeper (rose, unsteady) = rises (G.faults keeper) (place.faults old) (place.faults new) (above_none (G.faults keeper) (subst (λ (n : ℕ). Rose n (G.faults keeper)) none rose)) back.taken
      why (faulting.Damaged damage) damaged =
          (damaged.loaded, λ t held h. damaged.was.told (back.told t).1 held h, damaged.damaged, λ t held h. back.held t held (was.held (back.told t).1 held h), same damaged.still)
      why faulting.Memory still = tt

  -- a keeper was given, which told only where the place did
  pub told_before : (kept : K) (old mid new : P) (result : Result (DeskState K) Ending) → (place.tells mid → G.tells kept → place.tells old) → G.faults kept ≡ 0 → OpensKept place G store kept mid result new → ToldBefore place G old result new
  told_before kept old mid new (Ok desk) got none opened = λ t now. got (subst (λ (p : P). place.tells p) opened.same t) (opened.told now)
  told_before kept old mid new (Err ending) got none opened = λ t. let (was, tells) = (opened none).0 t in got was tells

  -- no keeper was given
  pub told_refused : (old new : P) (result : Result (DeskState K) Ending) → IsErr result → (place.tells new → place.tells old) → ToldBefore place G old result new
  told_refused old new (Ok desk) is told = absurd (cc)
  told_refused old new (Err ending) is told = told

  -- a desk is opened only of a store that was there
  pub opened_there : (There : Type 0) (kept : K) (mid new : P) (result : Result (DeskState K) Ending) → (place.tells mid → There) → OpensKept place G store kept mid result new → place.tells new → IsOk result → There
  opened_there There kept mid new (Ok desk) there opened t ok = there (subst (λ (p : P). place.tells p) opened.same t)
  opened_there There kept mid new (Err ending) there opened t ok = absurd (cc)

  keeps_so : (old mid new : P) (desk : DeskState K) (keeper : K) (ending : Ending) → G.faults desk.keeper ≡ 0 → place.faults mid ≡ place.faults old → WentBack mid new keeper
      → RoseAt G ending (G.faults desk.keeper) keeper → KeepsSo (change place store old new) ending
  keeps_so old mid new desk keeper Keeper none same back rose =
      subst (λ (n : ℕ). Rose n (place.faults new)) same (rises (G.faults keeper) (place.faults mid) (place.faults new) (above_none (G.faults keeper) (subst (λ (n : ℕ). Rose n (G.faults keeper)) none rose)) back.taken)
  keeps_so old mid new desk keeper Done none same taken rose = tt
  keeps_so old mid new desk keeper (Damaged damage) none same back untold = λ t. untold (back.told t).1
  keeps_so old mid new desk keeper Read none same taken rose = tt
  keeps_so old mid new desk keeper Write none same taken rose = tt
  keeps_so old mid new desk keeper Memory none same taken rose = tt
  keeps_so old mid new desk keeper (Malformed number) none same taken rose = tt

  pub begins : (old mid new : P) (desk : DeskState K) (keeper : K) → HasOpened place G store old desk mid → (G.tells keeper → G.tells desk.keeper) → WentBack mid new keeper
      → Begins (change place store old new) (served G.faults desk)
  begins old mid new desk keeper opened before back = record {
    loaded = opened.loaded;
    stored = λ t. opened.stored (back.told t).0 (before (back.told t).1);
    opens = opened.opens;
    limit = opened.limit;
    doubt = opened.doubt;
    faults = opened.none;
  }

  pub leaves : (old mid new : P) (now : Served) (keeper : K) → place.faults mid ≡ place.faults old → IsLeftWith G now keeper → WentBack mid new keeper → Leaves (change place store old new) now
  leaves old mid new now keeper same left back = record {
    sound = record { book = left.sound.book; small = left.sound.small; fits = left.sound.fits; next = left.sound.next };
    held = λ t. let (h, was, with) = left.kept.held (back.told t).1 in (h, back.held t h was, with);
    left = λ honest x may. left.kept.left (back.honest honest).1 x (back.left honest x may);
    kept = G.faults keeper;
    later = left.later;
    taken = subst (λ (n : ℕ). TakesUp (G.faults keeper) n (place.faults new)) same back.taken;
  }

  -- the desk was opened and fed, and its keeper went back
  pub has_fed : {T E : Type 0} (old mid new : P) (desk : DeskState K) (ended' : Ending × K) (input input' : InputState) (first out out' : OutputState) (result : Result T E)
      → HasOpened place G store old desk mid → FeedsWith G desk input input' first out ended' → WentBack mid new ended'.1 → Writes out out' result (status_text ended'.0)
      → HasFed (change place store old new) input input' first out' ended'.0
  has_fed old mid new desk ended' input input' first out out' result opened fed back w =
      let later = feeds_later (G.tells ended'.1) (place.tells new) (λ t. (back.told t).1) (served G.faults desk) fed.now input input' first out ended'.0 fed.feeds in
      let (reads, writes, all) = ended served_lines (place.tells new) (served G.faults desk) fed.now input input' first out out' ended'.0 result later w in
      record {
        first = served G.faults desk;
        now = fed.now;
        begins = begins old mid new desk ended'.1 opened fed.told back;
        reads = reads;
        writes = writes;
        reached = later.reached;
        fed = all;
        keeps = keeps_so old mid new desk ended'.1 ended'.0 opened.none opened.same back fed.rose;
        leaves = leaves old mid new fed.now ended'.1 opened.same fed.left back;
      }

  -- the same of one line
  pub has_replied : (old mid new : P) (desk : DeskState K) (line : Line) (told : Answer × K) (first out : OutputState) (ending : Ending)
      → HasOpened place G store old desk mid → Replies G desk line told → WentBack mid new told.1 → WritesReply first out told.0 ending
      → Replied (change place store old new) line first out ending
  has_replied old mid new desk line told first out Done opened replies back (appended, still) = record {
    first = served G.faults desk;
    now = replies.new;
    begins = begins old mid new desk told.1 opened replies.before back;
    text = _;
    appended = appended;
    ends = (told.0, takes_later (G.tells told.1) (place.tells new) (λ t. (back.told t).1) (served G.faults desk) replies.new line (Some told.0) replies.step, refl);
    status = (refl, still);
    leaves = leaves old mid new replies.new told.1 opened.same replies.left back;
  }
  has_replied old mid new desk line told first out Write opened replies back ((part, front, appended), rose) = record {
    first = served G.faults desk;
    now = replies.new;
    begins = begins old mid new desk told.1 opened replies.before back;
    text = part;
    appended = appended;
    ends = (told.0, takes_later (G.tells told.1) (place.tells new) (λ t. (back.told t).1) (served G.faults desk) replies.new line (Some told.0) replies.step, front);
    status = (refl, rose);
    leaves = leaves old mid new replies.new told.1 opened.same replies.left back;
  }
  has_replied old mid new desk line told first out Keeper opened replies back never = absurd never
  has_replied old mid new desk line told first out (Damaged damage) opened replies back never = absurd never
  has_replied old mid new desk line told first out Read opened replies back never = absurd never
  has_replied old mid new desk line told first out Memory opened replies back never = absurd never
  has_replied old mid new desk line told first out (Malformed number) opened replies back never = absurd never
