-- Which cells are left by a change, and which rows.
use Rattle.std.proofs.Common.{◌≡◌, ◌⊎◌, ℕ, ℤ, Bool, true, false, not, List, [], ◌∷◌, inl, inr, refl, sym, ap, subst, ◌∙◌}
use Rattle.std.specs.Ordering.{nat_cmp, match_ordering}
use Rattle.std.specs.Cmp.Lexicographic.{slice_cmp}
use Rattle.std.specs.Str.{bytes_eq}
use Rattle.std.specs.declared.cmp.Ordering.{Ordering}
use Rattle.std.specs.declared.cmp.Ordering.TheVariants.{Less, Equal, Greater}
use Rattle.std.proofs.lemmas.Cmp.{tied_itself, nat_list_cmp_total}
use Rattle.sqlite_value.specs.Order.{Row}
use Rattle.sqlite_trees.specs.Tree.{has_rowid, without_rowid}
use Rattle.sqlite_rules.specs.Lists.{Has}
use Rattle.sqlite_rules.specs.Edit.{without_all}
use Rattle.sqlite_rules.proofs.ListLemmas.{has_filtered, has_kept}
use Rattle.rv_base.specs.Sorted.{InOrder, put_by, without, Below}
use Rattle.rv_base.specs.PositionLaws.{same_from}
use Rattle.std.proofs.lemmas.Slice.Eq.{bytes_eq-Decides}
use Rattle.rv_keeper.specs.declared.cell.Cell.{Cell}
use Rattle.rv_keeper.specs.Cells.{cell_key}
use Rattle.rv_sqlite.specs.HeldLaws.{later_above, places_apart}

-- ---- rows

pub not_true : (b : Bool) → not b ≡ true → b ≡ false
not_true true h = absurd (cc)
not_true false h = refl

-- the row's number is none of these
abbrev pub Lacks : List ℤ → Row → Type 0
Lacks numbers x = (number : ℤ) → Has numbers number → has_rowid number x ≡ false

pub left_from : (numbers : List ℤ) (rows : List Row) (x : Row) → Has (without_all rows numbers) x → Has rows x × Lacks numbers x
left_from [] rows x h = (h, λ number none. absurd none)
left_from (number ∷ numbers) rows x h =
    let r = left_from numbers (without_rowid number rows) x h in
    let was = has_filtered (λ y. not (has_rowid number y)) rows x r.0 in
    (was.0, λ other k. elim k [ inl e ↦ rw e (not_true _ was.1) | inr more ↦ r.1 other more ])

pub left_has : (numbers : List ℤ) (rows : List Row) (x : Row) → Has rows x → Lacks numbers x → Has (without_all rows numbers) x
left_has [] rows x h lacks = h
left_has (number ∷ numbers) rows x h lacks =
    left_has numbers (without_rowid number rows) x (has_kept (λ y. not (has_rowid number y)) rows x h (ap not (lacks number (inl refl)))) (λ other k. lacks other (inr k))

-- ---- cells

-- the cell's place is this
abbrev pub IsAt : List ℕ → Cell → Type 0
IsAt place cell = cell_key cell ≡ place

not_equal : (a b : List ℕ) → bytes_eq a b ≡ false → ¬ (b ≡ a)
not_equal a b e is = let f : true ≡ false = sym ((bytes_eq-Decides a b).1 (sym is)) ∙ e in cc

equal_not : (a b : List ℕ) → ¬ (b ≡ a) → bytes_eq a b ≡ false
equal_not a b other = go (bytes_eq a b) refl
  where
    go : (e : Bool) → bytes_eq a b ≡ e → e ≡ false
    go true is = absurd (other (sym ((bytes_eq-Decides a b).0 is)))
    go false is = refl

pub without_has : (place : List ℕ) (cells : List Cell) (c : Cell) → Has (without cell_key place cells) c → Has cells c × (¬ IsAt place c)
without_has place cells c h =
    let was = has_filtered (λ x. not (bytes_eq place (cell_key x))) cells c h in
    (was.0, not_equal place (cell_key c) (not_true _ was.1))

pub has_without : (place : List ℕ) (cells : List Cell) (c : Cell) → Has cells c → (¬ IsAt place c) → Has (without cell_key place cells) c
has_without place cells c h other = has_kept (λ x. not (bytes_eq place (cell_key x))) cells c h (ap not (equal_not place (cell_key c) other))

pub apart_above : (a b : List ℕ) → slice_cmp nat_cmp a b ≡ Greater → ¬ (b ≡ a)
apart_above a b h is = let e : Greater ≡ Equal = sym h ∙ subst (λ (t : List ℕ). slice_cmp nat_cmp a t ≡ Equal) (sym is) (tied_itself nat_list_cmp_total a) in cc

pub put_has : (c : Cell) (cells : List Cell) (x : Cell) → InOrder cell_key cells → Has (put_by cell_key c cells) x → (x ≡ c) ⊎ (Has cells x × (¬ IsAt (cell_key c) x))
put_has c [] x up (inl e) = inl e
put_has c [] x up (inr none) = absurd none
put_has c (d ∷ ds) x up h = go (slice_cmp nat_cmp (cell_key c) (cell_key d)) refl h (put_has c ds x up.1)
  where
    go : (o : Ordering) → slice_cmp nat_cmp (cell_key c) (cell_key d) ≡ o → Has (match_ordering o (c ∷ d ∷ ds) (c ∷ ds) (d ∷ put_by cell_key c ds)) x
        → (Has (put_by cell_key c ds) x → (x ≡ c) ⊎ (Has ds x × (¬ IsAt (cell_key c) x))) → (x ≡ c) ⊎ (Has (d ∷ ds) x × (¬ IsAt (cell_key c) x))
    go Less is (inl e) later = inl e
    go Less is (inr (inl e)) later = inr (inl e, rw e (places_apart (cell_key c) (cell_key d) is))
    go Less is (inr (inr m)) later = inr (inr m, places_apart (cell_key c) (cell_key x) (nat_list_cmp_total.trans (cell_key c) (cell_key d) (cell_key x) is (later_above d x ds up.0 m)))
    go Equal is (inl e) later = inl e
    go Equal is (inr m) later = inr (inr m, places_apart (cell_key c) (cell_key x) (subst (λ (t : List ℕ). Below t (cell_key x)) (sym (same_from (cell_key c) (cell_key d) is)) (later_above d x ds up.0 m)))
    go Greater is (inl e) later = inr (inl e, rw e (apart_above (cell_key c) (cell_key d) is))
    go Greater is (inr m) later = elim (later m) [ inl e ↦ inl e | inr r ↦ inr (inr r.0, r.1) ]

pub has_put : (c : Cell) (cells : List Cell) → Has (put_by cell_key c cells) c
has_put c [] = inl refl
has_put c (d ∷ ds) = go (slice_cmp nat_cmp (cell_key c) (cell_key d)) (has_put c ds)
  where
    go : (o : Ordering) → Has (put_by cell_key c ds) c → Has (match_ordering o (c ∷ d ∷ ds) (c ∷ ds) (d ∷ put_by cell_key c ds)) c
    go Less later = inl refl
    go Equal later = inl refl
    go Greater later = inr later

pub put_spares : (c : Cell) (cells : List Cell) (x : Cell) → Has cells x → (¬ IsAt (cell_key c) x) → Has (put_by cell_key c cells) x
put_spares c [] x h other = absurd h
put_spares c (d ∷ ds) x h other = go (slice_cmp nat_cmp (cell_key c) (cell_key d)) refl h (λ m. put_spares c ds x m other)
  where
    go : (o : Ordering) → slice_cmp nat_cmp (cell_key c) (cell_key d) ≡ o → Has (d ∷ ds) x → (Has ds x → Has (put_by cell_key c ds) x) → Has (match_ordering o (c ∷ d ∷ ds) (c ∷ ds) (d ∷ put_by cell_key c ds)) x
    go Less is m later = inr m
    go Equal is (inl e) later = absurd (other (ap cell_key e ∙ sym (same_from (cell_key c) (cell_key d) is)))
    go Equal is (inr m) later = inr m
    go Greater is (inl e) later = inl e
    go Greater is (inr m) later = inr (later m)

-- one cell a place
pub one_place : (place : List ℕ) (cells : List Cell) (c d : Cell) → InOrder cell_key cells → Has cells c → Has cells d → IsAt place c → IsAt place d → c ≡ d
one_place place [] c d up p q at too = absurd p
one_place place (x ∷ xs) c d up (inl p) (inl q) at too = p ∙ sym q
one_place place (x ∷ xs) c d up (inl p) (inr q) at too = absurd (places_apart (cell_key x) (cell_key d) (later_above x d xs up.0 q) (too ∙ sym at ∙ ap cell_key p))
one_place place (x ∷ xs) c d up (inr p) (inl q) at too = absurd (places_apart (cell_key x) (cell_key c) (later_above x c xs up.0 p) (at ∙ sym too ∙ ap cell_key q))
one_place place (x ∷ xs) c d up (inr p) (inr q) at too = one_place place xs c d up.1 p q at too
