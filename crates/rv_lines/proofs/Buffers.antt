-- Steps of a buffer of lines.
use Rattle.std.proofs.Common.{◌≡◌, ℕ, suc, zero, ◌+◌, ◌-◌, ◌<◌, ◌≤◌, List, [], ◌∷◌, ◌++◌, length, take, drop, get_or, Some, None, refl, sym, ap, ◌∙◌, subst, append_assoc, Bool, true, false, ◌||◌, ◌==◌, Ok, arith}
use Rattle.std.specs.declared.option.Option.{Option}
use Rattle.std.proofs.lemmas.List.{take-take, take-append-drop, drop_more, drop_all, drop-take, drop-drop, length-take-le, take_all, length-drop, get_or-drop, take_rest}
use Rattle.std.specs.Io.KnownBytes.{Keeps, Consumes, IsAtEnd, prepend_known}
use Rattle.std.proofs.KnownBytes.{Keeps-refl}
use Rattle.std.proofs.lemmas.List.Folds.{list_any-append}
use Rattle.std.specs.Option.{MatchOption}
use Rattle.std.proofs.Math.Seq.{take-add}
use Rattle.std.proofs.lemmas.Bool.Decides.{Decides-eqb}
use Rattle.memchr.specs.Find.{Nowhere, Passes, IsFirstByte, is_byte}
use Rattle.rv_base.specs.Outside.{InputState}
use Rattle.rv_lines.specs.Lines.{HasNoLf, has_lf, longest_line}
use Rattle.rv_lines.specs.Found.{FindsLine}
use Rattle.rv_lines.specs.declared.line_reader.Found.TheVariants.{At}
use Rattle.rv_lines.specs.Reading.{ReadsAhead}

or_left : (a b : Bool) → (a || b) ≡ false → a ≡ false
or_left true b e = e
or_left false b e = refl

or_right : (a b : Bool) → (a || b) ≡ false → b ≡ false
or_right true b e = absurd (cc)
or_right false b e = e

or_both : (a b : Bool) → a ≡ false → b ≡ false → (a || b) ≡ false
or_both true b e f = e
or_both false b e f = f

-- a front of bytes without an LF has none
pub no_lf_take : (m : ℕ) (xs : List ℕ) → HasNoLf xs → HasNoLf (take m xs)
no_lf_take zero xs h = refl
no_lf_take (suc m) [] h = refl
no_lf_take (suc m) (x ∷ xs) h = or_both (x == 10) _ (or_left (x == 10) _ h) (no_lf_take m xs (or_right (x == 10) _ h))

pub no_lf_front : (m n : ℕ) (xs : List ℕ) → m ≤ n → HasNoLf (take n xs) → HasNoLf (take m xs)
no_lf_front m n xs le h = let P : List ℕ → Type 0 = λ ys. HasNoLf ys in subst P (take-take m n xs le) (no_lf_take m (take n xs) h)

split_at : (buffer : List ℕ) (at : ℕ) → at < length buffer → get_or buffer at 0 ≡ 10 → buffer ≡ (take at buffer ++ 10 ∷ []) ++ drop (at + 1) buffer
split_at buffer at lt e =
    sym (take-append-drop at buffer) ∙ ap (λ l. take at buffer ++ l) (drop_more buffer at 0 lt ∙ ap (λ b. b ∷ drop (at + 1) buffer) e) ∙ sym (append_assoc (take at buffer) (10 ∷ []) (drop (at + 1) buffer))

-- a line that ends at an LF is taken off the buffer
pub took_line : (pending buffer : List ℕ) (before now : Option (List ℕ)) (start : List ℕ) (at : ℕ) → pending ≡ start → Keeps (prepend_known start before) (prepend_known buffer now) → at < length buffer → get_or buffer at 0 ≡ 10
    → Consumes (prepend_known pending before) (prepend_known (drop (at + 1) buffer) now) (take at buffer ++ 10 ∷ [])
took_line pending buffer None now start at p k lt e = tt
took_line pending buffer (Some xs) None start at p k lt e = absurd k
took_line pending buffer (Some xs) (Some ys) start at p k lt e =
    ap (λ l. l ++ xs) p ∙ sym k ∙ ap (λ l. l ++ ys) (split_at buffer at lt e) ∙ append_assoc (take at buffer ++ 10 ∷ []) (drop (at + 1) buffer) ys

-- the rest is taken
pub took_rest : (pending buffer : List ℕ) (before now : Option (List ℕ)) (start : List ℕ) (n : ℕ) → pending ≡ start → Keeps (prepend_known start before) (prepend_known buffer now) → length buffer ≤ n
    → Consumes (prepend_known pending before) (prepend_known (drop n buffer) now) (take n buffer)
took_rest pending buffer None now start n p k le = tt
took_rest pending buffer (Some xs) None start n p k le = absurd k
took_rest pending buffer (Some xs) (Some ys) start n p k le =
    ap (λ l. l ++ xs) p ∙ sym k ∙ ap (λ l. l ++ ys) (sym (take-append-drop n buffer)) ∙ append_assoc (take n buffer) (drop n buffer) ys

pub at_end : (buffer : List ℕ) (now : Option (List ℕ)) (n : ℕ) → length buffer ≤ n → IsAtEnd now → IsAtEnd (prepend_known (drop n buffer) now)
at_end buffer None n le e = tt
at_end buffer (Some ys) n le e = ap (λ l. l ++ ys) (drop_all n buffer le) ∙ e

pub kept : (pending buffer : List ℕ) (before now : Option (List ℕ)) (start : List ℕ) → pending ≡ start → Keeps (prepend_known start before) (prepend_known buffer now) → Keeps (prepend_known pending before) (prepend_known buffer now)
kept pending buffer before now start p k = rw p k

pub kept_none : (pending buffer : List ℕ) (before now : Option (List ℕ)) (start : List ℕ) (n : ℕ) → pending ≡ start → Keeps (prepend_known start before) (prepend_known buffer now) → length buffer ≤ n → n ≡ 0 → Keeps (prepend_known pending before) (prepend_known (drop n buffer) now)
kept_none pending buffer before now start n p k le e = rw (p, e) k

-- How far a buffer is filled: it has grown by what was taken of the source, no read failed and none told the end.
pub record FillsBuffer (first : List ℕ) (start : InputState) (buffer : List ℕ) (now : InputState) : Type 0 where
  pub more : List ℕ
  pub grown : buffer ≡ first ++ more
  pub taken : Consumes start.left now.left more
  pub faults : now.faults ≡ start.faults
  pub ends : now.ends ≡ start.ends
  pub ahead : ReadsAhead first start now

-- a whole line that is held, from an index on: it is given, and what comes after its LF waits
pub held : (pending buffer : List ℕ) (left : Option (List ℕ)) (next n after : ℕ) (line : List ℕ) → pending ≡ drop next buffer → FindsLine (drop next buffer) None (Ok (At n)) → line ≡ drop next (take (next + n) buffer) → after ≡ next + n + 1
    → HasNoLf line × (length line ≤ longest_line) × Consumes (prepend_known pending left) (prepend_known (drop after buffer) left) (line ++ 10 ∷ [])
held pending buffer left next n after line waits found is goes_on =
    let begins : line ≡ take n (drop next buffer) = is ∙ drop-take next n buffer in
    let short : length (take n (drop next buffer)) ≤ n = omega (arith, length-take-le n (drop next buffer) (omega (arith, found.0))) in
    let rest : drop (n + 1) (drop next buffer) ≡ drop after buffer = drop-drop (n + 1) next buffer ∙ ap (λ k. drop k buffer) (omega (arith, goes_on)) in
    let taken = took_line pending (drop next buffer) left left (drop next buffer) n waits (Keeps-refl (prepend_known (drop next buffer) left)) found.0 found.3 in
    subst (λ l. HasNoLf l × (length l ≤ longest_line) × Consumes (prepend_known pending left) (prepend_known (drop after buffer) left) (l ++ 10 ∷ [])) (sym begins)
    (found.2, omega (arith, short, found.1), subst (λ l. Consumes (prepend_known pending left) (prepend_known l left) (take n (drop next buffer) ++ 10 ∷ [])) rest taken)

-- bytes none of which is an LF
none_is_lf : (xs : List ℕ) (n : ℕ) → Nowhere (Passes (is_byte 10) xs) 0 n → HasNoLf (take n xs)
none_is_lf xs zero none = refl
none_is_lf [] (suc n) none = refl
none_is_lf (x ∷ xs) (suc n) none = or_both (x == 10) (has_lf (take n xs)) (first (x == 10) refl) (none_is_lf xs n (λ k low high is. none (suc k) (omega arith) (omega (arith, high)) is))
  where
    first : (b : Bool) → x == 10 ≡ b → b ≡ false
    first false e = refl
    first true e = absurd (none 0 (omega arith) (omega arith) e)

-- the first LF from an index on, before which there is none
pub searched : (bytes : List ℕ) (from : ℕ) (found : Option ℕ) → from ≤ length bytes → HasNoLf (take from bytes) → IsFirstByte (is_byte 10) (drop from bytes) found
    → MatchOption found (HasNoLf bytes) (λ at. (from + at < length bytes) × HasNoLf (take (from + at) bytes) × (get_or bytes (from + at) 0 ≡ 10))
searched bytes from None within before none =
    let after : HasNoLf (drop from bytes) = subst (λ l. HasNoLf l) (take_all (length (drop from bytes)) (drop from bytes) (omega arith)) (none_is_lf (drop from bytes) (length (drop from bytes)) none) in
    subst (λ l. HasNoLf l) (take-append-drop from bytes) (list_any-append (λ byte. byte == 10) (take from bytes) (drop from bytes) ∙ or_both _ _ before after)
searched bytes from (Some at) within before (first, is) = (
  omega (arith, first.high, length-drop from bytes, within),
  subst (λ l. HasNoLf l) (sym (take-add from at bytes)) (list_any-append (λ byte. byte == 10) (take from bytes) (take at (drop from bytes)) ∙ or_both _ _ before (none_is_lf (drop from bytes) at first.before)),
  sym (get_or-drop from bytes at 0) ∙ (Decides-eqb _ _).0 is,
)

pub searched_rest : (bytes : List ℕ) (from : ℕ) (found : Option ℕ) → from ≤ length bytes → HasNoLf (take from bytes) → IsFirstByte (is_byte 10) (take (length bytes - from) (drop from bytes)) found
    → MatchOption found (HasNoLf bytes) (λ at. (from + at < length bytes) × HasNoLf (take (from + at) bytes) × (get_or bytes (from + at) 0 ≡ 10))
searched_rest bytes from found within before is = searched bytes from found within before (subst (λ l. IsFirstByte (is_byte 10) l found) (take_rest bytes from) is)
