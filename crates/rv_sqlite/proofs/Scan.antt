-- The rows of an answer are those of the table that pass.
use Rattle.std.proofs.Common.{◌≡◌, ◌^◌, ℕ, nat_le, Bool, true, false, cond, List, [], ◌∷◌, ◌++◌, map, flat_map, subst, inl, inr, IsPermutation, refl, sym, ap, ◌∙◌}
use Rattle.std.specs.List.{list_all}
use Rattle.std.proofs.lemmas.List.Sorted.{IsPermutation-sym}
use Rattle.sqlite_value.specs.Order.{Row}
use Rattle.sqlite_value.specs.declared.keys.Key.{Key}
use Rattle.sqlite_trees.proofs.ListLemmas.{all-permutation}
use Rattle.sqlite_trees.specs.Tree.{Trees}
use Rattle.sqlite_sql.specs.Term.{Term, eval_all, holds}
use Rattle.sqlite_sql.specs.Query.{Output, output, matches, inner, end, IsAnswer}
use Rattle.sqlite_sql.specs.Program.{overlay}
use Rattle.sqlite_rules.specs.Lists.{Has}
use Rattle.sqlite_rules.proofs.ListLemmas.{all_has, all_from, has_right}
use Rattle.sqlite_rules.proofs.ProbeLemmas.{has_mapped, mapped_has}
use Rattle.rv_sqlite.proofs.Meaning.{scan}

has_matched : {X Y : Type 0} (p : X → Bool) (f : X → Y) (xs : List X) (y : Y) → Has (flat_map (λ x. cond (p x) (f x ∷ []) []) xs) y → (x : X) × Has xs x × (p x ≡ true) × (y ≡ f x)
has_matched p f [] y h = absurd h
has_matched {X} {Y} p f (x ∷ xs) y h = go (p x) refl h (has_matched p f xs y)
  where
    go : (b : Bool) → p x ≡ b → Has (cond b (f x ∷ []) [] ++ flat_map (λ z. cond (p z) (f z ∷ []) []) xs) y
        → (Has (flat_map (λ z. cond (p z) (f z ∷ []) []) xs) y → (z : X) × Has xs z × (p z ≡ true) × (y ≡ f z)) → (z : X) × Has (x ∷ xs) z × (p z ≡ true) × (y ≡ f z)
    go true is (inl same) later = (x, inl refl, is, same)
    go true is (inr there) later = let r = later there in (r.0, inr r.1, r.2, r.3)
    go false is there later = let r = later there in (r.0, inr r.1, r.2, r.3)

matched_has : {X Y : Type 0} (p : X → Bool) (f : X → Y) (xs : List X) (x : X) → Has xs x → p x ≡ true → Has (flat_map (λ z. cond (p z) (f z ∷ []) []) xs) (f x)
matched_has p f [] x h passes = absurd h
matched_has p f (z ∷ xs) x (inl same) passes = rw (← same, passes) (inl refl)
matched_has p f (z ∷ xs) x (inr later) passes = has_right (cond (p z) (f z ∷ []) []) (flat_map (λ w. cond (p w) (f w ∷ []) []) xs) (f x) (matched_has p f xs x later passes)

has_permuted : {X : Type 0} (xs ys : List X) (x : X) → IsPermutation xs ys → Has ys x → Has xs x
has_permuted xs ys x same = all_has (Has xs) ys x (all-permutation (Has xs) xs ys same (all_from (Has xs) xs (λ e h. h)))

pub record AreShown (terms shown : List Term) (rows : List Row) (params : Row) (found : List Row) : Type 0 where
  pub sound : (x : Row) → Has found x → (r : Row) × Has rows r × (list_all (holds (params ∷ r ∷ [])) terms ≡ true) × (x ≡ eval_all shown (params ∷ r ∷ []))
  pub complete : (r : Row) → Has rows r → list_all (holds (params ∷ r ∷ [])) terms ≡ true → Has found (eval_all shown (params ∷ r ∷ []))

pub are_shown : (tree : ℕ) → nat_le (2 ^ 31) tree ≡ false → (terms shown : List Term) (order : List (Term × Key)) (tables : Trees) (params : Row) (found : List Row) → IsAnswer (scan tree terms shown order) (overlay tables []) params found → AreShown terms shown (tables tree) params found
are_shown tree low terms shown order tables params found answer =
    let q = scan tree terms shown order in
    let test = λ (r : Row). list_all (holds (params ∷ r ∷ [])) terms in
    let env = λ (r : Row). params ∷ r ∷ [] in
    let all = matches (overlay tables []) terms (inner tree end) (params ∷ []) in
    let there : overlay tables [] tree ≡ tables tree = rw low refl in
    let all_is : all ≡ flat_map (λ r. cond (test r) (env r ∷ []) []) (tables tree) = ap (flat_map (λ r. cond (test r) (env r ∷ []) [])) there in
    let kept : answer.kept ≡ map (output q) all = answer.distinct ∙ ap (map (output q)) answer.grouped in
    record {
      sound = λ x h.
          let o = has_mapped (λ (k : Output). k.1) answer.ordered x (subst (λ l. Has l x) answer.shown h) in
          let e = has_mapped (output q) all o.0 (subst (λ l. Has l o.0) kept (has_permuted answer.kept answer.ordered o.0 answer.same o.1)) in
          let r = has_matched test env (tables tree) e.0 (subst (λ l. Has l e.0) all_is e.1) in
          (r.0, r.1, r.2, o.2 ∙ ap (λ (k : Output). k.1) (e.2 ∙ ap (output q) r.3));
      complete = λ r h passes.
          let o = output q (env r) in
          let there = subst (λ l. Has l o) (sym kept) (mapped_has (output q) all (env r) (subst (λ l. Has l (env r)) (sym all_is) (matched_has test env (tables tree) r h passes))) in
          subst (λ l. Has l (eval_all shown (env r))) (sym answer.shown) (mapped_has (λ (k : Output). k.1) answer.ordered o (has_permuted answer.ordered answer.kept o (IsPermutation-sym _ _ answer.same) there));
    }
