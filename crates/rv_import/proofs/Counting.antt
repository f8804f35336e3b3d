-- Bytes have no more records than bytes, and one.
use Rattle.std.proofs.Common.{ℕ, zero, suc, ◌+◌, ◌≤◌, Bool, true, false, cond, List, [], ◌∷◌, length, Option, Some, None, arith}
use Rattle.csv.specs.Machine.{Read, next_record}
use Rattle.csv.specs.Reading.{default_config, records_from, records_next, strip_bom, is_bom}
use Rattle.csv.specs.declared.parser.State.{State}
use Rattle.csv.specs.declared.parser.State.TheVariants as st
use Rattle.rv_csv.specs.Records.{Record, records_of}

few_next : (n : ℕ) (more : State → List ℕ → List Record) → ((s : State) (xs : List ℕ) → length (more s xs) ≤ n) → (o : Option Read) → length (records_next more o) ≤ suc n
few_next n more few None = omega arith
few_next n more few (Some p) = omega (arith, few p.1 p.2)

few_from : (n : ℕ) (s : State) (xs : List ℕ) → length (records_from default_config n s xs) ≤ n
unfolding records_from
few_from zero s xs = omega arith
few_from (suc n) s xs = few_next n (records_from default_config n) (few_from n) (next_record default_config s [] [] xs)

shorter_without : (b : Bool) (xs ys : List ℕ) → length xs ≤ length ys → length (cond b xs ys) ≤ length ys
shorter_without true xs ys h = h
shorter_without false xs ys h = omega arith

no_longer : (bytes : List ℕ) → length (strip_bom bytes) ≤ length bytes
unfolding strip_bom
no_longer [] = omega arith
no_longer (a ∷ []) = omega arith
no_longer (a ∷ b ∷ []) = omega arith
no_longer (a ∷ b ∷ c ∷ rest) = shorter_without (is_bom a b c) rest (a ∷ b ∷ c ∷ rest) (omega arith)

pub few_records : (bytes : List ℕ) → length (records_of bytes) ≤ length bytes + 1
few_records bytes = omega (arith, few_from (length (strip_bom bytes) + 1) st.StartRecord (strip_bom bytes), no_longer bytes)
