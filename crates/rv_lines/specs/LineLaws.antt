-- Laws of the lines of bytes.
use Rattle.std.proofs.Common.{◌≡◌, ℕ, suc, zero, ◌+◌, ◌<◌, List, [], ◌∷◌, ◌++◌, length, take, refl, sym, ap, ◌∙◌, subst, arith, Bool, true, false, ◌||◌, ◌==◌, cond}
use Rattle.std.proofs.lemmas.List.{take-append-le, length-append}
use Rattle.rv_lines.specs.Lines.{onto, onto_ended, lines_of, ended_lines_of, HasNoLf, BeginsLong, longest_line}

head_no_lf : (a b : Bool) → (a || b) ≡ false → a ≡ false
head_no_lf true b e = e
head_no_lf false b e = refl

tail_no_lf : (a b : Bool) → (a || b) ≡ false → b ≡ false
tail_no_lf true b e = absurd (cc)
tail_no_lf false b e = e

-- a line that ends at an LF is the first
pub lines_of_line : (line more : List ℕ) → HasNoLf line → lines_of ((line ++ 10 ∷ []) ++ more) ≡ line ∷ lines_of more
lines_of_line [] more h = refl
lines_of_line (b ∷ line) more h =
    ap (λ t. cond t ([] ∷ lines_of ((line ++ 10 ∷ []) ++ more)) (onto b (lines_of ((line ++ 10 ∷ []) ++ more)))) (head_no_lf (b == 10) _ h)
    ∙ ap (onto b) (lines_of_line line more (tail_no_lf (b == 10) _ h))

pub ended_lines_of_line : (line more : List ℕ) → HasNoLf line → ended_lines_of ((line ++ 10 ∷ []) ++ more) ≡ line ∷ ended_lines_of more
ended_lines_of_line [] more h = refl
ended_lines_of_line (b ∷ line) more h =
    ap (λ t. cond t ([] ∷ ended_lines_of ((line ++ 10 ∷ []) ++ more)) (onto_ended b (ended_lines_of ((line ++ 10 ∷ []) ++ more)))) (head_no_lf (b == 10) _ h)
    ∙ ap (onto_ended b) (ended_lines_of_line line more (tail_no_lf (b == 10) _ h))

-- bytes without an LF have no line that ends at one
pub no_ended_line : (bytes : List ℕ) → HasNoLf bytes → ended_lines_of bytes ≡ []
no_ended_line [] h = refl
no_ended_line (b ∷ bytes) h =
    ap (λ t. cond t ([] ∷ ended_lines_of bytes) (onto_ended b (ended_lines_of bytes))) (head_no_lf (b == 10) _ h)
    ∙ ap (onto_ended b) (no_ended_line bytes (tail_no_lf (b == 10) _ h))

onto_last : (b : ℕ) (bytes : List ℕ) → HasNoLf bytes → onto b (lines_of bytes) ≡ (b ∷ bytes) ∷ []
onto_last b [] h = refl
onto_last b (c ∷ bytes) h =
    ap (λ t. onto b (cond t ([] ∷ lines_of bytes) (onto c (lines_of bytes)))) (head_no_lf (c == 10) _ h)
    ∙ ap (onto b) (onto_last c bytes (tail_no_lf (c == 10) _ h))

-- bytes without an LF are one line
pub last_line : (line : List ℕ) → HasNoLf line → 0 < length line → lines_of line ≡ line ∷ []
last_line [] h lt = absurd (omega arith)
last_line (b ∷ line) h lt =
    ap (λ t. cond t ([] ∷ lines_of line) (onto b (lines_of line))) (head_no_lf (b == 10) _ h) ∙ onto_last b line (tail_no_lf (b == 10) _ h)

-- the first of the lines has more than n bytes
abbrev pub FirstIsLonger : ℕ → List (List ℕ) → Type 0
FirstIsLonger n lines = (line : List ℕ) × (more : List (List ℕ)) × (lines ≡ line ∷ more) × (n < length line)

onto_some : (b : ℕ) (lines : List (List ℕ)) → FirstIsLonger 0 (onto b lines)
onto_some b [] = (b ∷ [], [], refl, omega arith)
onto_some b (line ∷ lines) = (b ∷ line, lines, refl, omega arith)

onto_more : (b n : ℕ) (lines : List (List ℕ)) → FirstIsLonger n lines → FirstIsLonger (suc n) (onto b lines)
onto_more b n lines (line, more, e, lt) = (b ∷ line, more, ap (onto b) e, omega arith)

pub long_line : (n : ℕ) (bytes : List ℕ) → n < length bytes → HasNoLf (take (suc n) bytes) → FirstIsLonger n (lines_of bytes)
long_line n [] lt h = absurd (omega arith)
long_line zero (b ∷ bytes) lt h =
    subst (FirstIsLonger 0) (sym (ap (λ t. cond t ([] ∷ lines_of bytes) (onto b (lines_of bytes))) (head_no_lf (b == 10) _ h))) (onto_some b (lines_of bytes))
long_line (suc n) (b ∷ bytes) lt h =
    subst (FirstIsLonger (suc n)) (sym (ap (λ t. cond t ([] ∷ lines_of bytes) (onto b (lines_of bytes))) (head_no_lf (b == 10) _ h)))
    (onto_more b n (lines_of bytes) (long_line n bytes (omega arith) (tail_no_lf (b == 10) _ h)))

-- what begins with a line that is too long has such a line first
pub begins_long : (pending left : List ℕ) → BeginsLong pending → FirstIsLonger longest_line (lines_of (pending ++ left))
begins_long pending left (lt, h) =
    long_line longest_line (pending ++ left) (omega (arith, length-append pending left)) (let P : List ℕ → Type 0 = λ l. HasNoLf l in subst P (sym (take-append-le (longest_line + 1) pending left (omega arith))) h)
