-- What the calls of the stores of a run leave of them.
use Rattle.std.proofs.Common.{◌≡◌, ◌≢◌, ◌⊎◌, ℕ, List, [], Option, Some, Result, Ok, Err, codes, refl, sym, subst, ◌∙◌, inl, inr}
use Rattle.std.specs.Prelude.{IfOk, OnOk, OnErr, MatchResult}
use Rattle.rv_base.specs.declared.fault.Fault.{Fault}
use Rattle.rv_keeper.specs.declared.keeper.Keeper.{Ghosts}
use Rattle.rv_keeper.specs.declared.loaded.Loaded.{Loaded}
use Rattle.rv_keeper.specs.Keeping.{holding}
use Rattle.rv_keeper.specs.Stores.{LeavesAsGiven, OpensAs, OpensWith, OthersStay, PlaceStays}
use Rattle.rv_place.specs.declared.opened.Opened.{Opened}
use Rattle.rv_place.specs.declared.opened.Opened.TheVariants.{Not, Out, Back, Lost}
use Rattle.rv_place.specs.declared.run_place.RunPlace.{RunPlace}
use Rattle.rv_place.specs.Places.{IsUnopened, OpenedHolds, OpenedLeaves, OpenedOut, OpenedTells, Opens, PlaceFile, PlaceHas, PlaceHolds, PlaceLeaves, PlaceOut, TakesBack, UnopenedLeaves}

-- ---- where no store was opened yet, and where a keeper is out

module _ {S K : Type 0} where
  unopened_out : (old : Opened S K) (name : List ℕ) → IsUnopened old → OpenedOut old name → ⊥
  unopened_out (Not start) name un out = out
  unopened_out (Out own) name un out = un
  unopened_out (Back own kept) name un out = un
  unopened_out Lost name un out = un

  out_alone : (old : Opened S K) (name other : List ℕ) → OpenedOut old name → OpenedOut old other → other ≡ name
  out_alone (Not start) name other out also = absurd out
  out_alone (Out own) name other out also = also ∙ sym out
  out_alone (Back own kept) name other out also = absurd out
  out_alone Lost name other out also = absurd out

module _ {S K : Type 0} (G : Ghosts K) where
  unopened_tells : (old : Opened S K) → IsUnopened old → OpenedTells G.tells old
  unopened_tells (Not start) un = tt
  unopened_tells (Out own) un = absurd un
  unopened_tells (Back own kept) un = absurd un
  unopened_tells Lost un = absurd un

  unopened_honest : (old : Opened S K) → IsUnopened old → OpenedTells G.honest old
  unopened_honest (Not start) un = tt
  unopened_honest (Out own) un = absurd un
  unopened_honest (Back own kept) un = absurd un
  unopened_honest Lost un = absurd un

  unopened_holds : (Held : Loaded → Type 0) (old : Opened S K) (name : List ℕ) (held : Loaded) → IsUnopened old → OpenedHolds G.holds Held old name held → OpensAs name Held held
  unopened_holds Held (Not start) name held un holds = holds
  unopened_holds Held (Out own) name held un holds = absurd un
  unopened_holds Held (Back own kept) name held un holds = absurd un
  unopened_holds Held Lost name held un holds = absurd un

  unopened_leaves : (old : Opened S K) (name : List ℕ) (left : Option Loaded) → IsUnopened old → UnopenedLeaves name left → OpenedLeaves G.may_leave old name left
  unopened_leaves (Not start) name left un leaves = leaves
  unopened_leaves (Out own) name left un leaves = absurd un
  unopened_leaves (Back own kept) name left un leaves = absurd un
  unopened_leaves Lost name left un leaves = absurd un

  out_tells : (old : Opened S K) (name : List ℕ) → OpenedOut old name → OpenedTells G.tells old
  out_tells (Not start) name out = absurd out
  out_tells (Out own) name out = tt
  out_tells (Back own kept) name out = absurd out
  out_tells Lost name out = absurd out

  out_honest : (old : Opened S K) (name : List ℕ) → OpenedOut old name → OpenedTells G.honest old
  out_honest (Not start) name out = absurd out
  out_honest (Out own) name out = tt
  out_honest (Back own kept) name out = absurd out
  out_honest Lost name out = absurd out

  out_holds : (Held : Loaded → Type 0) (old : Opened S K) (name other : List ℕ) (held : Loaded) → OpenedOut old name → OpenedHolds G.holds Held old other held → (other ≢ name) × OpensAs other Held held
  out_holds Held (Not start) name other held out holds = absurd out
  out_holds Held (Out own) name other held out holds = ((λ is. holds.0 (is ∙ out)), holds.1)
  out_holds Held (Back own kept) name other held out holds = absurd out
  out_holds Held Lost name other held out holds = absurd out

  out_leaves : (old : Opened S K) (name other : List ℕ) (left : Option Loaded) → OpenedOut old name → other ≢ name → UnopenedLeaves other left → OpenedLeaves G.may_leave old other left
  out_leaves (Not start) name other left out ne leaves = absurd out
  out_leaves (Out own) name other left out ne leaves = ((λ is. ne (is ∙ sym out)), leaves)
  out_leaves (Back own kept) name other left out ne leaves = absurd out
  out_leaves Lost name other left out ne leaves = absurd out

  back_leaves : (opened : Opened S K) (name : List ℕ) (kept : K) (left : Option Loaded) → opened ≡ Back name kept → OpenedLeaves G.may_leave opened name left → G.may_leave kept left
  back_leaves opened name kept left is h = by (subst (λ (o : Opened S K). OpenedLeaves G.may_leave o name left) is h)
    where
      by : ((name ≡ name) × G.may_leave kept left) ⊎ ((name ≢ name) × UnopenedLeaves name left) → G.may_leave kept left
      by (inl own) = own.1
      by (inr other) = absurd (other.0 refl)

  other_leaves : (opened : Opened S K) (name other : List ℕ) (kept : K) (left : Option Loaded) → opened ≡ Back name kept → other ≢ name → OpenedLeaves G.may_leave opened other left → UnopenedLeaves other left
  other_leaves opened name other kept left is ne h = by (subst (λ (o : Opened S K). OpenedLeaves G.may_leave o other left) is h)
    where
      by : ((other ≡ name) × G.may_leave kept left) ⊎ ((other ≢ name) × UnopenedLeaves other left) → UnopenedLeaves other left
      by (inl own) = absurd (ne own.0)
      by (inr is) = is.1

-- ---- what stays

module _ {O S K : Type 0} (G : Ghosts K) (Held : Loaded → Type 0) where
  abbrev AllStay : RunPlace O S K → RunPlace O S K → Type 0
  AllStay old new = PlaceStays (PlaceHolds G.holds Held) (PlaceLeaves G.may_leave) PlaceOut PlaceHas PlaceFile old new

  abbrev OthersAreKept : List ℕ → RunPlace O S K → RunPlace O S K → Type 0
  OthersAreKept name old new = OthersStay (PlaceHolds G.holds Held) (PlaceLeaves G.may_leave) PlaceOut PlaceHas PlaceFile name old new

  pub all_stay : (old new : RunPlace O S K) → new.opened ≡ old.opened → AllStay old new
  all_stay old new is = record {
    held = λ name held h. subst (λ (o : Opened S K). OpenedHolds G.holds Held o name held) (sym is) h;
    left = λ name left h. subst (λ (o : Opened S K). OpenedLeaves G.may_leave o name left) is h;
    out = λ name h. subst (λ (o : Opened S K). OpenedOut o name) (sym is) h;
    stores = λ name h. h;
    no_more = λ name h. h;
    files = λ name file h. h;
  }

  others_too : (name : List ℕ) (old new : RunPlace O S K) → AllStay old new → OthersAreKept name old new
  others_too name old new stay = record {
    held = λ other held ne h. stay.held other held h;
    left = λ other left ne h. stay.left other left h;
    out = λ other ne h. stay.out other h;
    stores = λ other h. h;
    no_more = λ other ne h. h;
    files = λ other file h. h;
  }

  -- ---- an opening

  module _ (name : List ℕ) (old new : RunPlace O S K) where
    pub opened_tells : (result : Result K Fault) → Opens G Held old.opened new.opened name result → OpenedTells G.tells new.opened → MatchResult result (λ kept. G.tells kept → OpenedTells G.tells old.opened) (λ fault. OpenedTells G.tells old.opened)
    opened_tells (Ok kept) (un, is, given) told = λ tells. unopened_tells G old.opened un
    opened_tells (Err fault) (inl same) told = subst (λ (o : Opened S K). OpenedTells G.tells o) same told
    opened_tells (Err fault) (inr (why, lost)) told = absurd (subst (λ (o : Opened S K). OpenedTells G.tells o) lost told)

    pub opened_honest : (result : Result K Fault) → Opens G Held old.opened new.opened name result → OpenedTells G.honest new.opened → MatchResult result (λ kept. G.honest kept → OpenedTells G.honest old.opened) (λ fault. OpenedTells G.honest old.opened)
    opened_honest (Ok kept) (un, is, given) honest = λ tells. unopened_honest G old.opened un
    opened_honest (Err fault) (inl same) honest = subst (λ (o : Opened S K). OpenedTells G.honest o) same honest
    opened_honest (Err fault) (inr (why, lost)) honest = absurd (subst (λ (o : Opened S K). OpenedTells G.honest o) lost honest)

    opens_too : (held : Loaded) → IsUnopened old.opened → OpensAs name (OpenedHolds G.holds Held old.opened name) held → OpensAs name Held held
    opens_too held un (inl memory) = inl memory
    opens_too held un (inr other) = unopened_holds G Held old.opened name held un other.1

    pub opened_kept : (result : Result K Fault) → Opens G Held old.opened new.opened name result → IfOk result (λ kept. G.tells kept → OpensWith name (OpenedHolds G.holds Held old.opened name) (G.holds kept))
    opened_kept (Err fault) is = tt
    opened_kept (Ok kept) (un, is, given) = λ tells held opens. given.holds tells held (opens_too held un opens)

    leaves_too : (left : Option Loaded) → IsUnopened old.opened → ((name ≡ codes "memory") × (left ≡ Some (holding [] 0))) ⊎ ((name ≢ codes "memory") × Unit {0}) → ((name ≡ codes "memory") × (left ≡ Some (holding [] 0))) ⊎ ((name ≢ codes "memory") × OpenedLeaves G.may_leave old.opened name left)
    leaves_too left un (inl memory) = inl memory
    leaves_too left un (inr other) = inr (other.0, unopened_leaves G old.opened name left un (λ memory. absurd (other.0 memory)))

    pub opened_crash : (result : Result K Fault) → Opens G Held old.opened new.opened name result → IfOk result (λ kept. G.honest kept → LeavesAsGiven name (OpenedLeaves G.may_leave old.opened name) (G.may_leave kept))
    opened_crash (Err fault) is = tt
    opened_crash (Ok kept) (un, is, given) = λ honest left leaves. leaves_too left un (given.leaves left leaves)

    pub opened_out : (result : Result K Fault) → Opens G Held old.opened new.opened name result → OnOk result (OpenedOut new.opened name)
    opened_out (Err fault) is = tt
    opened_out (Ok kept) (un, is, given) = subst (λ (o : Opened S K). OpenedOut o name) (sym is) refl

    pub opened_has : (result : Result K Fault) → OnOk result (Unit {0})
    opened_has (Err fault) = tt
    opened_has (Ok kept) = tt

    pub opened_fresh : (result : Result K Fault) → Opens G Held old.opened new.opened name result → IfOk result (λ kept. G.faults kept ≡ 0)
    opened_fresh (Err fault) is = tt
    opened_fresh (Ok kept) (un, is, given) = given.fresh

    opened_first : IsUnopened old.opened → new.opened ≡ Out name → OthersAreKept name old new
    opened_first un is = record {
      held = λ other held ne h. subst (λ (o : Opened S K). OpenedHolds G.holds Held o other held) (sym is) (ne, unopened_holds G Held old.opened other held un h);
      left = λ other left ne h. unopened_leaves G old.opened other left un (subst (λ (o : Opened S K). OpenedLeaves G.may_leave o other left) is h).1;
      out = λ other ne h. absurd (unopened_out old.opened other un h);
      stores = λ other h. h;
      no_more = λ other ne h. h;
      files = λ other file h. h;
    }

    pub opened_others : (result : Result K Fault) → Opens G Held old.opened new.opened name result → OpenedTells G.tells new.opened → OthersAreKept name old new
    opened_others (Ok kept) (un, is, given) told = opened_first un is
    opened_others (Err fault) (inl same) told = others_too name old new (all_stay old new same)
    opened_others (Err fault) (inr (why, lost)) told = absurd (subst (λ (o : Opened S K). OpenedTells G.tells o) lost told)

    pub opened_refused : (result : Result K Fault) → Opens G Held old.opened new.opened name result → OpenedTells G.tells new.opened → OnErr result (AllStay old new)
    opened_refused (Ok kept) opens told = tt
    opened_refused (Err fault) (inl same) told = all_stay old new same
    opened_refused (Err fault) (inr (why, lost)) told = absurd (subst (λ (o : Opened S K). OpenedTells G.tells o) lost told)

  -- ---- a keeper that comes back

  module _ (name : List ℕ) (old new : RunPlace O S K) (kept : K) where
    pub closed_tells : TakesBack old.opened new.opened name kept → OpenedTells G.tells new.opened → OpenedTells G.tells old.opened × G.tells kept
    closed_tells (inl (out, is)) told = (out_tells G old.opened name out, subst (λ (o : Opened S K). OpenedTells G.tells o) is told)
    closed_tells (inr (why, lost)) told = absurd (subst (λ (o : Opened S K). OpenedTells G.tells o) lost told)

    pub closed_honest : TakesBack old.opened new.opened name kept → OpenedTells G.honest new.opened → OpenedTells G.honest old.opened × G.honest kept
    closed_honest (inl (out, is)) honest = (out_honest G old.opened name out, subst (λ (o : Opened S K). OpenedTells G.honest o) is honest)
    closed_honest (inr (why, lost)) honest = absurd (subst (λ (o : Opened S K). OpenedTells G.honest o) lost honest)

    pub closed_kept : TakesBack old.opened new.opened name kept → OpenedTells G.tells new.opened → (held : Loaded) → G.holds kept held → OpenedHolds G.holds Held new.opened name held
    closed_kept (inl (out, is)) told held holds = subst (λ (o : Opened S K). OpenedHolds G.holds Held o name held) (sym is) (inl (refl, holds))
    closed_kept (inr (why, lost)) told held holds = absurd (subst (λ (o : Opened S K). OpenedTells G.tells o) lost told)

    pub closed_crash : TakesBack old.opened new.opened name kept → OpenedTells G.honest new.opened → (left : Option Loaded) → OpenedLeaves G.may_leave new.opened name left → G.may_leave kept left
    closed_crash (inl (out, is)) honest left leaves = back_leaves G new.opened name kept left is leaves
    closed_crash (inr (why, lost)) honest left leaves = absurd (subst (λ (o : Opened S K). OpenedTells G.honest o) lost honest)

    closed_first : OpenedOut old.opened name → new.opened ≡ Back name kept → OthersAreKept name old new
    closed_first out is = record {
      held = λ other held ne h. subst (λ (o : Opened S K). OpenedHolds G.holds Held o other held) (sym is) (inr (out_holds G Held old.opened name other held out h));
      left = λ other left ne h. out_leaves G old.opened name other left out ne (other_leaves G new.opened name other kept left is ne h);
      out = λ other ne h. absurd (ne (out_alone old.opened name other out h));
      stores = λ other h. h;
      no_more = λ other ne h. h;
      files = λ other file h. h;
    }

    pub closed_others : TakesBack old.opened new.opened name kept → OpenedTells G.tells new.opened → OthersAreKept name old new
    closed_others (inl (out, is)) told = closed_first out is
    closed_others (inr (why, lost)) told = absurd (subst (λ (o : Opened S K). OpenedTells G.tells o) lost told)
