-- A head within the limit has fewer fields than there is space for.
use Rattle.std.proofs.Common.{ℕ, ◌<◌, ◌≤◌, ◌+◌, ◌*◌, List, [], ◌∷◌, ◌++◌, length, ap, arith, length-append}
use Rattle.std.specs.List.{flat_map}
use Rattle.std.specs.Prelude.{All}
use Rattle.std.proofs.lemmas.List.Elements.{All-head, All-tail}
use Rattle.httparse.specs.Grammar.{LineEnd, crlf, lf, print_end, print_blank, print_version, Field, print_field, IsField, RequestHead, print_request}
use Rattle.httparse.specs.Spans.{RequestExceeds}
use Rattle.httparse.proofs.GrammarLemmas.{print_request-append}

some_end : (end : LineEnd) → 1 ≤ length (print_end end)
some_end crlf = omega arith
some_end lf = omega arith

field_length : (name raw end : List ℕ) → 0 < length name → 1 ≤ length end → 3 ≤ length (name ++ 58 ∷ raw ++ end)
field_length name raw end some one = omega (arith, length-append (name ++ 58 ∷ raw) end, length-append name (58 ∷ raw))

long_fields : (fs : List Field) → All IsField fs → 3 * length fs ≤ length (flat_map print_field fs)
long_fields [] all = omega arith
long_fields (f ∷ fs) all =
    omega (arith, length-append (print_field f) (flat_map print_field fs), field_length f.name f.raw (print_end f.end) (All-head IsField f fs all).name.0 (some_end f.end), long_fields fs (All-tail IsField f fs all))

after : (a b : List ℕ) → length b ≤ length (a ++ b)
after a b = omega (arith, length-append a b)

long_head : (h : RequestHead) → length (flat_map print_field h.fields) ≤ length (print_request h ++ [])
long_head h =
    let section = (flat_map print_field h.fields ++ print_end h.last) ++ [] in
    let e = print_end h.line_end ++ section in
    let d = print_version h.minor ++ e in
    let c = h.target ++ 32 ∷ d in
    let b = h.method ++ 32 ∷ c in
    let whole = ap length (print_request-append h []) in
    omega (arith, whole, after (print_blank h.blank) b, after h.method (32 ∷ c), after h.target (32 ∷ d), after (print_version h.minor) e, after (print_end h.line_end) section, length-append (flat_map print_field h.fields ++ print_end h.last) [], length-append (flat_map print_field h.fields) (print_end h.last))

pub no_overflow : (bytes : List ℕ) (limit capacity : ℕ) → length bytes ≤ limit → limit + 1 < 3 * (capacity + 1) → RequestExceeds capacity bytes → ⊥
no_overflow bytes limit capacity few enough (front, rest, same, h, reads, over) =
    omega (arith, ap length same, length-append front rest, length-append front (10 ∷ []), ap length reads.1, long_fields h.fields reads.0.fields, long_head h)
