-- Laws of what stays of a place's stores and accounts files.
use Rattle.std.specs.Prelude.{ℕ, List, Option}
use Rattle.rv_keeper.specs.declared.loaded.Loaded.{Loaded}
use Rattle.rv_keeper.specs.Stores.{OthersStay, PlaceStays}

module _ {P : Type 0} (holds : P → List ℕ → Loaded → Type 0) (may_leave : P → List ℕ → Option Loaded → Type 0) (is_out has : P → List ℕ → Type 0) (accounts : P → List ℕ → List ℕ → Type 0) where
  -- what stays stays of every store but one
  pub others_of : (name : List ℕ) (old new : P) → PlaceStays holds may_leave is_out has accounts old new → OthersStay holds may_leave is_out has accounts name old new
  others_of name old new all = record {
    held = λ other held ne h. all.held other held h;
    left = λ other left ne h. all.left other left h;
    out = λ other ne h. all.out other h;
    stores = all.stores;
    no_more = λ other ne h. all.no_more other h;
    files = all.files;
  }

  -- and stays on
  pub others_on : (name : List ℕ) (old mid new : P) → OthersStay holds may_leave is_out has accounts name old mid → OthersStay holds may_leave is_out has accounts name mid new → OthersStay holds may_leave is_out has accounts name old new
  others_on name old mid new first next = record {
    held = λ other held ne h. next.held other held ne (first.held other held ne h);
    left = λ other left ne h. first.left other left ne (next.left other left ne h);
    out = λ other ne h. next.out other ne (first.out other ne h);
    stores = λ other h. next.stores other (first.stores other h);
    no_more = λ other ne h. first.no_more other ne (next.no_more other ne h);
    files = λ other file h. next.files other file (first.files other file h);
  }

  pub others_same : (name : List ℕ) (place : P) → OthersStay holds may_leave is_out has accounts name place place
  others_same name place = record { held = λ other held ne h. h; left = λ other left ne h. h; out = λ other ne h. h; stores = λ other h. h; no_more = λ other ne h. h; files = λ other file h. h }
