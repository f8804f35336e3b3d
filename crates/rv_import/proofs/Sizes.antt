-- The names that an import has are ids.
use Rattle.std.proofs.Common.{◌≡◌, ℕ, ◌<◌, ◌≤◌, ◌^◌, List, ◌++◌, codes, decimal, sym, subst, arith, length-append}
use Rattle.std.proofs.lemmas.Fmt.{length-decimal-le}
use Rattle.rv_base.specs.Texts.{IsWithin}
use Rattle.rv_import.specs.Imports.{group_id, client_id, todo_id}

pub group_size : (user : List ℕ) → IsWithin 1 64 user → IsWithin 1 68 (group_id user)
group_size user fits =
    let size = length-append (codes "csv/") user in
    (omega (arith, size), omega (arith, size, fits.1))

pub client_size : (user name : List ℕ) → IsWithin 1 68 (group_id user) → IsWithin 1 48 name → IsWithin 1 117 (client_id user name)
client_size user name group fits =
    let tail = length-append (codes "/") name in
    let size = length-append (group_id user) (codes "/" ++ name) in
    (omega (arith, size, group.0), omega (arith, size, tail, group.1, fits.1))

pub todo_size : (user name : List ℕ) (n : ℕ) → IsWithin 1 117 (client_id user name) → n < 2 ^ 32 → IsWithin 1 128 (todo_id user name n)
todo_size user name n client small =
    let digits = length-decimal-le 10 n (omega arith) (omega (arith, small)) (omega (arith, small)) in
    let tail = length-append (codes "/") (decimal n) in
    let size = length-append (client_id user name) (codes "/" ++ decimal n) in
    (omega (arith, size, client.0), omega (arith, size, tail, digits, client.1))

-- a text that is one within such bounds is an id
pub is_id : (most : ℕ) (text made : List ℕ) → most ≤ 128 → text ≡ made → IsWithin 1 most made → IsWithin 1 128 text
is_id most text made low is fits = subst (IsWithin 1 128) (sym is) (fits.0, omega (arith, low, fits.1))
