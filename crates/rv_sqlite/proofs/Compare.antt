-- What the comparisons of the statements say of a row.
use Rattle.std.proofs.Common.{◌≡◌, ℕ, ℤ, pos, Bool, true, false, ◌&&◌, List, [], ◌∷◌, Some, refl, sym, ap, ◌∙◌}
use Rattle.std.specs.List.{list_all}
use Rattle.std.specs.Ordering.{is_eq, int_cmp, nat_cmp}
use Rattle.std.specs.declared.cmp.Ordering.{Ordering}
use Rattle.std.specs.declared.cmp.Ordering.TheVariants.{Less, Equal, Greater}
use Rattle.std.proofs.lemmas.Map.Lookups.{exact_signed, exact_bytes}
use Rattle.std.proofs.lemmas.Cmp.{tied_itself, int_cmp_total, nat_list_cmp_total}
use Rattle.sqlite_trees.specs.Tree.{has_rowid}
use Rattle.rv_sqlite.proofs.Members.{IsAt}
use Rattle.std.specs.Cmp.Lexicographic.{slice_cmp}
use Rattle.sqlite_value.specs.declared.value.Value.TheVariants.{Int, Blob}
use Rattle.sqlite_value.specs.declared.keys.Collation.TheVariants.{Binary}
use Rattle.sqlite_value.proofs.OrderLemmas.{value_cmp-Int, value_cmp-Blob}
use Rattle.sqlite_sql.specs.declared.ops.BinaryOp.TheVariants.{Compare}
use Rattle.sqlite_sql.specs.declared.ops.CompareOp.TheVariants.{Eq}
use Rattle.sqlite_sql.specs.Ops.{binary, is_true, from_truth}
use Rattle.sqlite_sql.specs.Term.{holds}
use Rattle.rv_keeper.specs.declared.cell.Cell.{Cell}
use Rattle.rv_sqlite.specs.Stands.{cell_row}
use Rattle.rv_sqlite.proofs.Meaning.{at_place}

told : (b : Bool) → is_true (from_truth (Some b)) ≡ b
told true = refl
told false = refl

pub same_int : (m n : ℤ) → is_true (binary (Compare Eq Binary) (Int m) (Int n)) ≡ is_eq (int_cmp m n)
unfolding binary
same_int m n = told _ ∙ ap is_eq (value_cmp-Int m n)

pub same_blob : (s t : List ℕ) → is_true (binary (Compare Eq Binary) (Blob s) (Blob t)) ≡ is_eq (slice_cmp nat_cmp s t)
unfolding binary
same_blob s t = told _ ∙ ap is_eq (value_cmp-Blob s t)

passes_place : (id : ℤ) (c : Cell) (shelf : ℕ) (key : List ℕ) → list_all (holds ((Int (pos shelf) ∷ Blob key ∷ []) ∷ cell_row id c ∷ [])) at_place ≡ (is_eq (int_cmp (pos c.shelf) (pos shelf)) && (is_eq (slice_cmp nat_cmp c.key key) && true))
passes_place id c shelf key = ap (λ b. b && (is_true (binary (Compare Eq Binary) (Blob c.key) (Blob key)) && true)) (same_int (pos c.shelf) (pos shelf)) ∙ ap (λ b. is_eq (int_cmp (pos c.shelf) (pos shelf)) && (b && true)) (same_blob c.key key)

equal_is : (o : Ordering) → is_eq o ≡ true → o ≡ Equal
equal_is Less h = absurd (cc)
equal_is Equal h = refl
equal_is Greater h = absurd (cc)

both : (a b : Bool) → (a && b) ≡ true → (a ≡ true) × (b ≡ true)
both true b h = (refl, h)
both false b h = absurd (cc)

from_both : (a b : Bool) → a ≡ true → b ≡ true → (a && (b && true)) ≡ true
from_both a b p q = rw (p, q) refl

pub same_place : (shelf : ℕ) (key : List ℕ) (c : Cell) → IsAt (shelf ∷ key) c → (c.shelf ≡ shelf) × (c.key ≡ key)
same_place shelf key c at = (let s : c.shelf ≡ shelf = cc in s, let k : c.key ≡ key = cc in k)

pub at_same : (shelf : ℕ) (key : List ℕ) (c : Cell) → c.shelf ≡ shelf → c.key ≡ key → IsAt (shelf ∷ key) c
at_same shelf key c s k = ap (λ n. n ∷ c.key) s ∙ ap (λ l. shelf ∷ l) k

int_is : (m n : ℕ) → ◌≡◌ {A = ℤ} (pos m) (pos n) → m ≡ n
int_is m n e = cc

-- a row passes where its cell is at the place
pub at_if_passes : (id : ℤ) (c : Cell) (shelf : ℕ) (key : List ℕ) → list_all (holds ((Int (pos shelf) ∷ Blob key ∷ []) ∷ cell_row id c ∷ [])) at_place ≡ true → IsAt (shelf ∷ key) c
at_if_passes id c shelf key h =
    let parts = both _ _ (sym (passes_place id c shelf key) ∙ h) in
    at_same shelf key c (int_is c.shelf shelf (exact_signed (pos c.shelf) (pos shelf) (equal_is _ parts.0))) (exact_bytes c.key key (equal_is _ (both _ _ parts.1).0))

pub passes_if_at : (id : ℤ) (c : Cell) (shelf : ℕ) (key : List ℕ) → IsAt (shelf ∷ key) c → list_all (holds ((Int (pos shelf) ∷ Blob key ∷ []) ∷ cell_row id c ∷ [])) at_place ≡ true
passes_if_at id c shelf key at =
    let same = same_place shelf key c at in
    passes_place id c shelf key
    ∙ from_both _ _ (ap (λ n. is_eq (int_cmp (pos n) (pos shelf))) same.0 ∙ ap is_eq (tied_itself int_cmp_total (pos shelf))) (ap (λ k. is_eq (slice_cmp nat_cmp k key)) same.1 ∙ ap is_eq (tied_itself nat_list_cmp_total key))

-- a stored row has its rowid and no other
pub own_rowid : (id : ℤ) (c : Cell) → has_rowid id (cell_row id c) ≡ true
own_rowid id c = ap is_eq (value_cmp-Int id id) ∙ ap is_eq (tied_itself int_cmp_total id)

pub rowid_is : (id other : ℤ) (c : Cell) → has_rowid other (cell_row id c) ≡ true → id ≡ other
rowid_is id other c h = exact_signed id other (equal_is _ (sym (ap is_eq (value_cmp-Int id other)) ∙ h))

pub int_equal : (m n : ℤ) → is_true (binary (Compare Eq Binary) (Int m) (Int n)) ≡ true → m ≡ n
int_equal m n h = exact_signed m n (equal_is _ (sym (same_int m n) ∙ h))
