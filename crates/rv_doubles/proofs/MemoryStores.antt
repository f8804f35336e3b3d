-- What is found among the stores and the accounts files of a place, and what a write of one of them leaves.
use Rattle.std.proofs.Common.{◌≡◌, ◌≢◌, ◌⊎◌, ℕ, ◌<◌, ◌||◌, Bool, true, false, not, cond, List, [], ◌∷◌, ◌++◌, codes, length, get_or, set, drop, Some, None, Result, Ok, Err, IfOk, OnOk, OnErr, IsErrOf, Option, unwrap_or, refl, sym, ap, ◌∙◌, subst, arith, inl, inr}
use Rattle.std.specs.List.{AllByRecursion, position_from}
use Rattle.std.specs.Option.{is_some}
use Rattle.std.specs.Str.{bytes_eq}
use Rattle.std.proofs.lemmas.List.{get_or_push, length-append}
use Rattle.std.proofs.lemmas.Slice.Eq.{bytes_eq-Decides}
use Rattle.std.proofs.Math.Seq.{set-append_seam}
use Rattle.rv_doubles.specs.InMemory.{fails_next}
use Rattle.rv_base.specs.PositionLaws.{equals}
use Rattle.rv_doubles.specs.declared.accounts_file.AccountsFile.{AccountsFile}
use Rattle.rv_keeper.specs.declared.memory_keeper.Fails.{Fails}
use Rattle.rv_keeper.specs.declared.loaded.Loaded.{Loaded}
use Rattle.rv_keeper.specs.declared.memory_keeper.MemoryKeeper.{MemoryKeeper}
use Rattle.rv_doubles.specs.declared.store.Store.{Store}
use Rattle.rv_keeper.specs.Keeping.{holding}
use Rattle.rv_keeper.specs.Schedules.{KeeperFailsNoMore, counted_fault, has_failed, next_call}
use Rattle.rv_doubles.specs.InMemoryLaws.{fails_no_more_later, not_next}
use Rattle.rv_base.specs.declared.fault.Fault.{Fault}
use Rattle.rv_base.specs.declared.fault.Fault.TheVariants.{Failed, Memory}
use Rattle.rv_keeper.specs.Stores.{CallIsSteady, LeavesAsGiven, OpensAs, OpensWith, OthersStay, PlaceStays}
use Rattle.rv_doubles.specs.declared.memory_place.MemoryPlace.{MemoryPlace}
use Rattle.rv_doubles.specs.PlaceStates.{IsSteadyKeeper, IsSteadyPlace, place_file, place_has, place_holds, place_leaves, place_out}
use Rattle.rv_doubles.specs.MemoryStores.{store_of, has_store, with_store, empty_store, found_store, StoreHolds, StoreIsOut, kept_store, out_store, given, StandsAt, accounts_file, with_file, first_schedule}
use Rattle.rv_keeper.proofs.Named as named

-- the names of stores and of accounts files
abbrev pub store_name : Store → List ℕ
store_name store = store.name

abbrev pub file_name : AccountsFile → List ℕ
file_name file = file.name

module _ (name : List ℕ) where
  -- where a store stands that is there, and where it stands once it is added
  pub stands : (stores : List Store) (at : ℕ) → position_from (λ store. bytes_eq name store.name) 0 stores ≡ Some at → StandsAt name stores stores at
  stands stores at e =
      let f = named.found_at store_name name stores 0 at e in
      let is : f.index ≡ at = omega (arith, f.is) in
      subst (λ (i : ℕ). StandsAt name stores stores i) is (record {
        in_range = f.in_range;
        found = λ d. rw (f.found d) refl;
        written = f.written;
      })

  pub stands_added : (stores : List Store) (at : ℕ) → at ≡ length stores → store_of name stores ≡ None → StandsAt name stores (stores ++ empty_store name ∷ []) at
  stands_added stores at is none = record {
    in_range = rw length-append (omega arith);
    found = λ d. rw none (get_or_push stores (empty_store name) d at (sym is));
    written = λ new same. rw is (set-append_seam stores (empty_store name) [] new ∙ sym (named.none_written store_name name new stores same none));
  }

  pub none_there : (stores : List Store) → position_from (λ store. bytes_eq name store.name) 0 stores ≡ None → store_of name stores ≡ None
  none_there stores e = named.none_found store_name name stores 0 e

  found_named : (stores : List Store) → (found_store name stores).name ≡ name
  found_named [] = refl
  found_named (store ∷ stores) =
      elim (bytes_eq name store.name) as (λ b. bytes_eq name store.name ≡ b → (unwrap_or (cond b (Some store) (store_of name stores)) (empty_store name)).name ≡ name) [
        | true ↦ λ e. sym ((bytes_eq-Decides name store.name).0 e)
        | false ↦ λ e. found_named stores
      ] refl

  -- a write over a store that keeps its name
  pub written_over : (old stores : List Store) (at : ℕ) (now new wanted : Store) → StandsAt name old stores at → now ≡ get_or stores at now → new ≡ record wanted { name = now.name } → wanted.name ≡ name → set stores at new ≡ with_store wanted old
  written_over old stores at now new wanted s is made same =
      let own : now.name ≡ wanted.name = ap (λ (store : Store). store.name) (is ∙ s.found now) ∙ found_named old ∙ sym same in
      let all : new ≡ wanted = made ∙ ap (λ (n : List ℕ). record wanted { name = n }) own in
      subst (λ (store : Store). set stores at store ≡ with_store wanted old) (sym all) (s.written wanted same)

  -- where an accounts file stands, and what a write over it leaves, or one more at the end
  pub file_in_range : (files : List AccountsFile) (at : ℕ) → position_from (λ file. bytes_eq name file.name) 0 files ≡ Some at → at < length files
  file_in_range files at e = let f = named.found_at file_name name files 0 at e in omega (arith, f.is, f.in_range)

  pub file_written : (files : List AccountsFile) (at : ℕ) (now : AccountsFile) (bytes : List ℕ) → position_from (λ file. bytes_eq name file.name) 0 files ≡ Some at → now ≡ get_or files at now
      → set files at (record now { bytes = bytes }) ≡ with_file (accounts_file name bytes) files
  file_written files at now bytes e is =
      let f = named.found_at file_name name files 0 at e in
      let same : f.index ≡ at = omega (arith, f.is) in
      let own : now.name ≡ name = ap (λ (file : AccountsFile). file.name) is ∙ subst (λ (i : ℕ). (get_or files i now).name ≡ name) same (f.named now) in
      subst (λ (n : List ℕ). set files at (accounts_file n bytes) ≡ with_file (accounts_file name bytes) files) (sym own)
      (subst (λ (i : ℕ). set files i (accounts_file name bytes) ≡ with_file (accounts_file name bytes) files) same (f.written (accounts_file name bytes) refl))

  pub file_added : (files : List AccountsFile) (bytes : List ℕ) → position_from (λ file. bytes_eq name file.name) 0 files ≡ None → files ++ accounts_file name bytes ∷ [] ≡ with_file (accounts_file name bytes) files
  file_added files bytes e = sym (named.none_written file_name name (accounts_file name bytes) files refl (named.none_found file_name name files 0 e))

-- the other stores hold what they held
pub others_hold : (name : List ℕ) (new : Store) (stores : List Store) (held : Loaded) → name ≢ new.name → StoreHolds stores name held → StoreHolds (with_store new stores) name held
others_hold name new stores held ne h = rw (named.found_other store_name name new stores ne) h

-- which stores are there after a write of one
or_some : (is_new is_memory : Bool) (new : Store) (stores : List Store) (name : List ℕ) → (is_some (cond is_new (Some new) (store_of name stores)) || is_memory) ≡ (is_new || (is_some (store_of name stores) || is_memory))
or_some true is_memory new stores name = refl
or_some false is_memory new stores name = refl

pub has_store-with_store : (new : Store) (stores : List Store) (name : List ℕ) → has_store (with_store new stores) name ≡ (bytes_eq name new.name || has_store stores name)
has_store-with_store new stores name =
    rw (named.found_with store_name name new stores) (or_some (bytes_eq name new.name) (bytes_eq name (codes "memory")) new stores name)

-- the stores that were there are there after it, and the one that was written
pub still_there : (new : Store) (stores : List Store) (name : List ℕ) → has_store stores name ≡ true → has_store (with_store new stores) name ≡ true
still_there new stores name there =
    has_store-with_store new stores name ∙ ap (λ (b : Bool). bytes_eq name new.name || b) there ∙ or_true (bytes_eq name new.name)
  where
    or_true : (b : Bool) → (b || true) ≡ true
    or_true true = refl
    or_true false = refl

pub then_there : (new : Store) (stores : List Store) → has_store (with_store new stores) new.name ≡ true
then_there new stores = has_store-with_store new stores new.name ∙ ap (λ (b : Bool). b || has_store stores new.name) (equals new.name)

-- where the one that was written was there, there is none more
pub none_more : (new : Store) (stores : List Store) (name : List ℕ) → has_store stores new.name ≡ true → has_store (with_store new stores) name ≡ true → has_store stores name ≡ true
none_more new stores name was now =
    elim (bytes_eq name new.name) as (λ b. bytes_eq name new.name ≡ b → (b || has_store stores name) ≡ true → has_store stores name ≡ true) [
      | true ↦ λ e h. subst (λ (n : List ℕ). has_store stores n ≡ true) (sym ((bytes_eq-Decides name new.name).0 e)) was
      | false ↦ λ e h. h
    ] refl (sym (has_store-with_store new stores name) ∙ now)

-- a keeper is given what its store is opened with
pub given_opens : (name : List ℕ) (stores : List Store) (held : Loaded) → OpensAs name (StoreHolds stores name) held → held ≡ given name (found_store name stores)
given_opens name stores held (inl h) = subst (λ (b : Bool). held ≡ cond b (holding [] 0) (holding (found_store name stores).shelves (found_store name stores).generation)) (sym (ap (λ (t : List ℕ). bytes_eq t (codes "memory")) h.0 ∙ equals (codes "memory"))) h.1
given_opens name stores held (inr h) = rw (named.apart name (codes "memory") h.0) h.1.1

-- and a crash leaves of it what it might leave of the store
pub given_leaves : (name : List ℕ) (store : Store) (left : Option Loaded) → left ≡ Some (given name store) → ((name ≡ codes "memory") × (left ≡ Some (holding [] 0))) ⊎ ((name ≢ codes "memory") × (left ≡ Some (holding store.shelves store.generation)))
given_leaves name store left is =
    elim (bytes_eq name (codes "memory")) as (λ b. bytes_eq name (codes "memory") ≡ b → left ≡ Some (cond b (holding [] 0) (holding store.shelves store.generation))
    → ((name ≡ codes "memory") × (left ≡ Some (holding [] 0))) ⊎ ((name ≢ codes "memory") × (left ≡ Some (holding store.shelves store.generation)))) [
      | true ↦ λ e h. inl ((bytes_eq-Decides name (codes "memory")).0 e, h)
      | false ↦ λ e h. inr (λ same. let f : true ≡ false = sym (ap (λ (t : List ℕ). bytes_eq t (codes "memory")) same ∙ equals (codes "memory")) ∙ e in absurd (cc), h)
    ] refl is

-- a store whose keeper is out is there
pub is_there : (name : List ℕ) (stores : List Store) → StoreIsOut stores name → store_of name stores ≡ None → ⊥
is_there name stores out none = let empty : false ≡ true = rw none at out in cc

-- what is so of the stores of other names, where one of this name is written
pub record OthersAre (name : List ℕ) (old new : List Store) : Type 0 where
  pub found : (other : List ℕ) → other ≢ name → found_store other new ≡ found_store other old
  pub held : (other : List ℕ) (held : Loaded) → other ≢ name → StoreHolds old other held → StoreHolds new other held
  pub out : (other : List ℕ) → other ≢ name → StoreIsOut old other → StoreIsOut new other
  pub stores : (other : List ℕ) → has_store old other ≡ true → has_store new other ≡ true
  pub no_more : (other : List ℕ) → other ≢ name → has_store new other ≡ true → has_store old other ≡ true

others_are : (new : Store) (stores : List Store) → OthersAre new.name stores (with_store new stores)
others_are new stores = record {
  found = λ other ne. ap (λ (o : Option Store). unwrap_or o (empty_store other)) (named.found_other store_name other new stores ne);
  held = λ other held ne h. others_hold other new stores held ne h;
  out = λ other ne h. rw (named.found_other store_name other new stores ne) h;
  stores = λ other h. still_there new stores other h;
  no_more = λ other ne h. sym (ap (λ (b : Bool). b || has_store stores other) (named.apart other new.name ne)) ∙ sym (has_store-with_store new stores other) ∙ h;
}

same_others : (name : List ℕ) (stores : List Store) → OthersAre name stores stores
same_others name stores = record { found = λ other ne. refl; held = λ other held ne h. h; out = λ other ne h. h; stores = λ other h. h; no_more = λ other ne h. h }

-- and so of the place
pub others_stay : (name : List ℕ) (old new : MemoryPlace) → OthersAre name old.stores.items new.stores.items → new.files ≡ old.files → OthersStay place_holds place_leaves place_out place_has place_file name old new
others_stay name old new are same = record {
  held = are.held;
  left = λ other left ne h. h ∙ ap (λ (store : Store). Some (holding store.shelves store.generation)) (are.found other ne);
  out = are.out;
  stores = are.stores;
  no_more = are.no_more;
  files = λ other file h. rw same h;
}

-- where its stores and files are the same, nothing has changed
pub all_stays : (old new : MemoryPlace) → new.stores.items ≡ old.stores.items → new.files ≡ old.files → PlaceStays place_holds place_leaves place_out place_has place_file old new
all_stays old new stores files = record {
  held = λ name held h. rw stores h;
  left = λ name left h. rw stores at h;
  out = λ name h. rw stores h;
  stores = λ name h. rw stores h;
  no_more = λ name h. rw stores at h;
  files = λ name file h. rw files h;
}

-- the first schedule is one of those that are to come, and names no call where none is left
pub steady_first : (schedules : List (List Fails)) → AllByRecursion (KeeperFailsNoMore 0 0 0) schedules → KeeperFailsNoMore 0 0 0 (first_schedule schedules) × AllByRecursion (KeeperFailsNoMore 0 0 0) (drop 1 schedules)
steady_first [] all = (tt, tt)
steady_first (schedule ∷ schedules) all = all

no_fault : {T : Type 0} (result : Result T Fault) → has_failed result ≡ false → ¬ IsErrOf result Failed
no_fault (Ok x) e h = absurd (cc)
no_fault (Err Failed) e h = absurd (cc)
no_fault (Err Memory) e h = absurd (cc)

-- an opening of a place, as its clauses say it
pub record OpensSo (name : List ℕ) (old new : MemoryPlace) (fails : Bool) (result : Result MemoryKeeper Fault) : Type 0 where
  pub failed : has_failed result ≡ fails
  pub gives : IfOk result (λ kept. (holding kept.shelves kept.generation ≡ given name (found_store name old.stores.items)) × (kept.schedule.items ≡ first_schedule old.schedules.items))
  pub fresh : IfOk result (λ kept. (kept.loads ≡ 0) × (kept.questions ≡ 0) × (kept.commits ≡ 0) × (kept.faults ≡ 0))
  pub ok : OnOk result ((new.stores.items ≡ with_store (out_store name) old.stores.items) × (new.schedules.items ≡ drop 1 old.schedules.items))
  pub err : OnErr result ((new.stores.items ≡ old.stores.items) × (new.schedules.items ≡ old.schedules.items))
  pub after : new ≡ record old { stores = new.stores; schedules = new.schedules; calls = next_call old.calls; faults = counted_fault (has_failed result) old.faults }

module _ (name : List ℕ) (old new : MemoryPlace) (fails : Bool) where
  pub so_refused : (result : Result MemoryKeeper Fault) → OpensSo name old new fails result → OnErr result (PlaceStays place_holds place_leaves place_out place_has place_file old new)
  so_refused (Ok x) so = tt
  so_refused (Err fault) so = all_stays old new so.err.0 (ap (λ (place : MemoryPlace). place.files) so.after)

  left : (result : Result MemoryKeeper Fault) → OpensSo name old new fails result → AllByRecursion (KeeperFailsNoMore 0 0 0) old.schedules.items → AllByRecursion (KeeperFailsNoMore 0 0 0) new.schedules.items
  left (Ok x) so all = rw so.ok.1 (steady_first old.schedules.items all).1
  left (Err fault) so all = rw so.err.1 all

  is_given : (result : Result MemoryKeeper Fault) → OpensSo name old new fails result → AllByRecursion (KeeperFailsNoMore 0 0 0) old.schedules.items → IfOk result IsSteadyKeeper
  is_given (Ok x) so all = rw (so.fresh.0, so.fresh.1, so.fresh.2, so.gives.1) (steady_first old.schedules.items all).0
  is_given (Err fault) so all = tt

  pub so_steady : (There : Type 0) (result : Result MemoryKeeper Fault) → OpensSo name old new fails result → (There → fails_next old.calls old.failing.items ≡ false → fails ≡ false) → IsSteadyPlace old
      → CallIsSteady (IsSteadyPlace new) There result × IfOk result IsSteadyKeeper
  so_steady There result so lasts (openings, schedules) =
      let calls = ap (λ (place : MemoryPlace). place.calls) so.after in
      let failing = ap (λ (place : MemoryPlace). place.failing) so.after in (
        record {
          goes_on = (rw (calls, failing) (fails_no_more_later old.calls old.failing.items openings), left result so schedules);
          no_fault = λ there. no_fault result (so.failed ∙ lasts there (not_next old.calls old.failing.items openings));
        },
        is_given result so schedules,
      )

-- what is so once a store was to be opened, with this answer
module _ (name : List ℕ) (old new : List Store) where
  pub record Opened (result : Result MemoryKeeper Fault) : Type 0 where
    pub kept : IfOk result (λ kept. OpensWith name (StoreHolds old name) (λ held. held ≡ holding kept.shelves kept.generation))
    pub out : OnOk result (StoreIsOut new name)
    pub left : IfOk result (λ kept. LeavesAsGiven name (λ left. left ≡ Some (holding (found_store name old).shelves (found_store name old).generation)) (λ left. left ≡ Some (holding kept.shelves kept.generation)))
    pub others : OthersAre name old new
    pub made : OnOk result (has_store new name ≡ true)
    pub none_made : (OnOk result (has_store old name ≡ true)) → (other : List ℕ) → has_store new other ≡ true → has_store old other ≡ true
    pub refused : OnErr result (new ≡ old)

  pub opened : (result : Result MemoryKeeper Fault) (schedules schedules' : List (List Fails)) → IfOk result (λ kept. (holding kept.shelves kept.generation ≡ given name (found_store name old)) × (kept.schedule.items ≡ first_schedule schedules))
      → OnOk result ((new ≡ with_store (out_store name) old) × (schedules' ≡ drop 1 schedules)) → OnErr result ((new ≡ old) × (schedules' ≡ schedules)) → Opened result
  opened (Ok kept) schedules schedules' gives (written, rest) unchanged = record {
    kept = λ held h. given_opens name old held h ∙ sym gives.0;
    out = subst (λ (stores : List Store). StoreIsOut stores name) (sym written) (rw (named.found_same store_name (out_store name) old) refl);
    left = λ left h. given_leaves name (found_store name old) left (h ∙ ap Some gives.0);
    others = subst (λ (stores : List Store). OthersAre name old stores) (sym written) (others_are (out_store name) old);
    made = subst (λ (stores : List Store). has_store stores name ≡ true) (sym written) (then_there (out_store name) old);
    none_made = λ was other h. none_more (out_store name) old other was (subst (λ (stores : List Store). has_store stores other ≡ true) written h);
    refused = tt;
  }
  opened (Err fault) schedules schedules' gives written (unchanged, rest) = record {
    kept = tt;
    out = tt;
    left = tt;
    others = subst (λ (stores : List Store). OthersAre name old stores) (sym unchanged) (same_others name old);
    made = tt;
    none_made = λ was other h. subst (λ (stores : List Store). has_store stores other ≡ true) unchanged h;
    refused = unchanged;
  }

-- a store that was opened, where that fails of one that isn't there, was there
pub was_there : {T : Type 0} (result : Result T Fault) (there fails : Bool) → has_failed result ≡ (not there || fails) → OnOk result (there ≡ true)
was_there (Ok x) true fails e = refl
was_there (Ok x) false fails e = absurd (cc)
was_there (Err fault) there fails e = tt

-- and once it came back
pub record Closed (name : List ℕ) (old new : List Store) (keeps : Loaded) : Type 0 where
  pub kept : StoreHolds new name keeps
  pub found : found_store name new ≡ kept_store name keeps.cells keeps.generation
  pub others : OthersAre name old new

pub closed : (name : List ℕ) (old new : List Store) (keeps : Loaded) → new ≡ with_store (kept_store name keeps.cells keeps.generation) old → Closed name old new keeps
closed name old new keeps is =
    let store = kept_store name keeps.cells keeps.generation in
    subst (λ (stores : List Store). Closed name old stores keeps) (sym is) (record {
      kept = rw (named.found_same store_name store old) (refl, refl);
      found = rw (named.found_same store_name store old) refl;
      others = others_are store old;
    })
