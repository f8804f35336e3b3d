-- What is found among items by their names, and what a write of one of them leaves.
use Rattle.std.proofs.Common.{◌≡◌, ◌≢◌, ℕ, suc, ◌+◌, ◌<◌, true, false, cond, List, [], ◌∷◌, ◌++◌, length, get_or, set, Option, Some, None, refl, sym, ap, ◌∙◌, subst, arith}
use Rattle.std.specs.List.{position_from}
use Rattle.std.specs.Str.{bytes_eq}
use Rattle.std.proofs.lemmas.Slice.Eq.{bytes_eq-Decides}
use Rattle.rv_base.specs.PositionLaws.{equals}
use Rattle.rv_keeper.specs.Named.{first_named, with_named}

-- names that differ are told apart
pub apart : (a b : List ℕ) → a ≢ b → bytes_eq a b ≡ false
apart a b ne =
    elim (bytes_eq a b) as (λ t. bytes_eq a b ≡ t → t ≡ false) [
      | true ↦ λ e. absurd (ne ((bytes_eq-Decides a b).0 e))
      | false ↦ λ e. refl
    ] refl

module _ {X : Type 0} (name_of : X → List ℕ) where
  -- the item that is found at an index
  pub record FoundNamed (name : List ℕ) (items : List X) (start at : ℕ) : Type 0 where
    pub index : ℕ
    pub is : at ≡ start + index
    pub in_range : index < length items
    pub found : (d : X) → first_named name_of name items ≡ Some (get_or items index d)
    pub named : (d : X) → name_of (get_or items index d) ≡ name
    pub written : (new : X) → name_of new ≡ name → set items index new ≡ with_named name_of new items

  module _ (name : List ℕ) where
    pub none_found : (items : List X) (start : ℕ) → position_from (λ item. bytes_eq name (name_of item)) start items ≡ None → first_named name_of name items ≡ None
    none_found [] start e = refl
    none_found (item ∷ items) start e =
        elim (bytes_eq name (name_of item)) as (λ b. cond b (Some start) (position_from (λ item. bytes_eq name (name_of item)) (start + 1) items) ≡ None → cond b (Some item) (first_named name_of name items) ≡ None) [
          | true ↦ λ e. absurd (cc)
          | false ↦ λ e. none_found items (start + 1) e
        ] e

    found_here : (item : X) (items : List X) (start at : ℕ) → bytes_eq name (name_of item) ≡ true → Some start ≡ Some at → FoundNamed name (item ∷ items) start at
    found_here item items start at same e = record {
      index = 0;
      is = (let is : start ≡ at = cc in omega arith);
      in_range = omega arith;
      found = λ d. rw same refl;
      named = λ d. sym ((bytes_eq-Decides name (name_of item)).0 same);
      written = λ new is. (let e : bytes_eq (name_of new) (name_of item) ≡ true = ap (λ (n : List ℕ). bytes_eq n (name_of item)) is ∙ same in rw e refl);
    }

    found_later : (item : X) (items : List X) (start at : ℕ) → bytes_eq name (name_of item) ≡ false → FoundNamed name items (start + 1) at → FoundNamed name (item ∷ items) start at
    found_later item items start at other f = record {
      index = suc f.index;
      is = omega (arith, f.is);
      in_range = omega (arith, f.in_range);
      found = λ d. rw other (f.found d);
      named = f.named;
      written = λ new is. (let e : bytes_eq (name_of new) (name_of item) ≡ false = ap (λ (n : List ℕ). bytes_eq n (name_of item)) is ∙ other in rw e (ap (λ (t : List X). item ∷ t) (f.written new is)));
    }

    pub found_at : (items : List X) (start at : ℕ) → position_from (λ item. bytes_eq name (name_of item)) start items ≡ Some at → FoundNamed name items start at
    found_at [] start at e = absurd (cc)
    found_at (item ∷ items) start at e =
        elim (bytes_eq name (name_of item)) as (λ b. bytes_eq name (name_of item) ≡ b → cond b (Some start) (position_from (λ item. bytes_eq name (name_of item)) (start + 1) items) ≡ Some at → FoundNamed name (item ∷ items) start at) [
          | true ↦ λ same e. found_here item items start at same e
          | false ↦ λ other e. found_later item items start at other (found_at items (start + 1) at e)
        ] refl e

    -- an item of a name that is not found goes to the end
    pub none_written : (new : X) (items : List X) → name_of new ≡ name → first_named name_of name items ≡ None → with_named name_of new items ≡ items ++ new ∷ []
    none_written new [] is none = refl
    none_written new (item ∷ items) is none =
        elim (bytes_eq name (name_of item)) as (λ b. bytes_eq name (name_of item) ≡ b → cond b (Some item) (first_named name_of name items) ≡ None → with_named name_of new (item ∷ items) ≡ item ∷ (items ++ new ∷ [])) [
          | true ↦ λ other e. absurd (cc)
          | false ↦ λ other e. (let named : bytes_eq (name_of new) (name_of item) ≡ false = ap (λ (n : List ℕ). bytes_eq n (name_of item)) is ∙ other in rw named (ap (λ (t : List X). item ∷ t) (none_written new items is e)))
        ] refl none

  -- what is found once an item is written
  pub found_same : (new : X) (items : List X) → first_named name_of (name_of new) (with_named name_of new items) ≡ Some new
  found_same new [] = rw (equals (name_of new)) refl
  found_same new (item ∷ items) =
      elim (bytes_eq (name_of new) (name_of item)) as (λ b. bytes_eq (name_of new) (name_of item) ≡ b → first_named name_of (name_of new) (cond b (new ∷ items) (item ∷ with_named name_of new items)) ≡ Some new) [
        | true ↦ λ e. rw (equals (name_of new)) refl
        | false ↦ λ e. rw e (found_same new items)
      ] refl

  pub found_other : (name : List ℕ) (new : X) (items : List X) → name ≢ name_of new → first_named name_of name (with_named name_of new items) ≡ first_named name_of name items
  found_other name new [] ne = rw (apart name (name_of new) ne) refl
  found_other name new (item ∷ items) ne =
      elim (bytes_eq (name_of new) (name_of item)) as (λ b. bytes_eq (name_of new) (name_of item) ≡ b → first_named name_of name (cond b (new ∷ items) (item ∷ with_named name_of new items)) ≡ first_named name_of name (item ∷ items)) [
        | true ↦ λ e. (let same : name_of new ≡ name_of item = (bytes_eq-Decides (name_of new) (name_of item)).0 e in rw (apart name (name_of new) ne, ← same, apart name (name_of new) ne) refl)
        | false ↦ λ e. ap (λ (o : Option X). cond (bytes_eq name (name_of item)) (Some item) o) (found_other name new items ne)
      ] refl

  pub found_with : (name : List ℕ) (new : X) (items : List X) → first_named name_of name (with_named name_of new items) ≡ cond (bytes_eq name (name_of new)) (Some new) (first_named name_of name items)
  found_with name new items =
      elim (bytes_eq name (name_of new)) as (λ b. bytes_eq name (name_of new) ≡ b → first_named name_of name (with_named name_of new items) ≡ cond b (Some new) (first_named name_of name items)) [
        | true ↦ λ e. subst (λ (n : List ℕ). first_named name_of n (with_named name_of new items) ≡ Some new) (sym ((bytes_eq-Decides name (name_of new)).0 e)) (found_same new items)
        | false ↦ λ e. found_other name new items (λ same. let is : bytes_eq name (name_of new) ≡ true = subst (λ (n : List ℕ). bytes_eq name n ≡ true) same (equals name) in let both : true ≡ false = sym is ∙ e in cc)
      ] refl
