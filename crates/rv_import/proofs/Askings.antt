-- How much an import asks for.
use Rattle.std.proofs.Common.{◌≡◌, ℕ, ◌+◌, ◌≤◌, ◌<◌, ◌^◌, Bool, true, false, List, [], ◌∷◌, length, Option, Some, None, ap, arith}
use Rattle.std.proofs.lemmas.Bool.{false≢true}
use Rattle.rv_rows.specs.declared.call.Call.{Call}
use Rattle.rv_csv.specs.Records.{Record, records_of}
use Rattle.rv_import.specs.Imports.{Asked, asked_from, asked_with, call_of_record, client_id, todo_id, import_limit}
use Rattle.rv_import.specs.Steps.{HasImportHeader}
use Rattle.rv_import.proofs.Counting.{few_records}

-- a record asks for one mutation at most
few_with : (client : List ℕ) (n k : ℕ) (call : Option Call) (later : Asked) → length later.mutations ≤ k → length (asked_with client n call later).mutations ≤ k + 1
few_with client n k None later few = omega arith
few_with client n k (Some call) later few = omega (arith, few)

few_asked : (user name : List ℕ) (n : ℕ) (rs : List Record) → length (asked_from user name n rs).mutations ≤ length rs
few_asked user name n [] = omega arith
few_asked user name n (fields ∷ rest) =
    omega (arith, few_with (client_id user name) n (length rest) (call_of_record (todo_id user name n) fields) (asked_from user name (n + 1) rest) (few_asked user name (n + 1) rest))

header_fewer : (old new : List Record) → HasImportHeader true old new → length old ≡ length new + 1
header_fewer old new (first, is, has) = omega (arith, ap length is)

-- with so many bytes the numbers of records are of 32 bits
pub small_numbers : (bytes : List ℕ) (old new : List Record) (found : Bool) → length bytes ≤ import_limit → old ≡ records_of bytes → found ≡ true → HasImportHeader found old new → 1 + length new < 2 ^ 32
small_numbers bytes old new true small is there has = omega (arith, few_records bytes, ap length is, header_fewer old new has)
small_numbers bytes old new false small is there has = absurd (false≢true there)

pub small_asked : (user name : List ℕ) (rs : List Record) → 1 + length rs < 2 ^ 32 → length (asked_from user name 1 rs).mutations < 2 ^ 32
small_asked user name rs small = omega (arith, few_asked user name 1 rs)
