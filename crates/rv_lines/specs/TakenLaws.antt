-- Laws of lines that are taken one by one.
use Rattle.std.proofs.Common.{◌≡◌, ℕ, ◌+◌, ◌<◌, ◌≤◌, List, [], ◌∷◌, ◌++◌, length, Option, Some, None, IfSome, refl, sym, ap, ◌∙◌, subst, append_assoc, append-nil, arith, inl, inr}
use Rattle.std.specs.Io.KnownBytes.{Keeps, Consumes, IsAtEnd, prepend_known}
use Rattle.std.proofs.KnownBytes.{Consumes-trans, Consumes-kept}
use Rattle.std.proofs.lemmas.List.{length_push, append_cancel_right}
use Rattle.rv_base.specs.Outside.{InputState}
use Rattle.rv_lines.specs.Lines.{lines_of, ended_lines_of, HasNoLf, BeginsLong, longest_line}
use Rattle.rv_lines.specs.LineLaws.{lines_of_line, ended_lines_of_line, no_ended_line, last_line, begins_long}
use Rattle.rv_lines.specs.Reading.{unread, ReadsAhead}
use Rattle.rv_lines.specs.Taken.{IsNeeded, Taken, ReadOn}

none_taken : (start : Option (List ℕ)) → Consumes start (prepend_known [] start) []
none_taken None = tt
none_taken (Some xs) = refl

none_needed : (start : Option (List ℕ)) (n : ℕ) → IfSome start (λ _. IsNeeded [] n)
none_needed None n = tt
none_needed (Some xs) n = inl refl

-- nothing is taken yet
pub taken_none : (start : Option (List ℕ)) (pending : List ℕ) → pending ≡ [] → Taken start pending start []
taken_none start pending e = record {
  whole = [];
  taken = rw e (none_taken start);
  are = λ more. refl;
  ended = λ more. refl;
  needed = rw e (none_needed start 0);
}

-- what was read so far: what was taken, and what waits
read_of : (bytes whole pending : List ℕ) (left : Option (List ℕ)) → Consumes (Some bytes) (unread pending left) whole → Consumes (Some bytes) left (whole ++ pending)
read_of bytes whole pending None c = absurd c
read_of bytes whole pending (Some ys) c = c ∙ sym (append_assoc whole pending ys)

-- two ways to say how far the bytes were read
same_read : (bytes xs ys : List ℕ) (left : Option (List ℕ)) → Consumes (Some bytes) left xs → Consumes (Some bytes) left ys → xs ≡ ys
same_read bytes xs ys None c d = absurd c
same_read bytes xs ys (Some zs) c d = append_cancel_right xs ys zs (sym c ∙ d)

longer_needed : (read : List ℕ) (n : ℕ) → IsNeeded read n → IsNeeded read (n + 1)
longer_needed read n (inl e) = inl e
longer_needed read n (inr (before, piece, e, le, lt)) = inr (before, piece, e, le, omega (arith, lt))

-- before a last piece no more lines were whole than those that were taken
piece_needed : (whole pending more piece : List ℕ) (lines : List (List ℕ)) → ((more : List ℕ) → ended_lines_of (whole ++ more) ≡ lines ++ ended_lines_of more) → HasNoLf (pending ++ more) → length piece ≤ 4096
    → IsNeeded ((whole ++ pending) ++ (more ++ piece)) (length lines + 1)
piece_needed whole pending more piece lines ended h le =
    let count : ended_lines_of (whole ++ (pending ++ more)) ≡ lines = ended (pending ++ more) ∙ ap (λ l. lines ++ l) (no_ended_line (pending ++ more) h) ∙ append-nil lines in
    let e : (whole ++ pending) ++ (more ++ piece) ≡ (whole ++ (pending ++ more)) ++ piece = simp append_assoc in
    inr (whole ++ (pending ++ more), piece, e, le, omega (arith, ap length count))

-- how far was read where one more line was examined
needed_on : (bytes : List ℕ) (pending : List ℕ) (old new : InputState) (lines : List (List ℕ)) (w : Taken (Some bytes) pending old.left lines) (read : List ℕ)
    → ReadsAhead pending old new → Consumes (Some bytes) new.left read → IsNeeded read (length lines + 1)
needed_on bytes pending old new lines w read (inl k) c =
    let before = read_of bytes w.whole pending old.left w.taken in
    let P : List ℕ → Type 0 = λ l. IsNeeded l (length lines + 1) in
    subst P (same_read bytes (w.whole ++ pending) read new.left (Consumes-kept (Some bytes) old.left new.left (w.whole ++ pending) before k) c) (longer_needed (w.whole ++ pending) (length lines) w.needed)
needed_on bytes pending old new lines w read (inr (more, piece, d, le, h, short)) c =
    let before = read_of bytes w.whole pending old.left w.taken in
    let P : List ℕ → Type 0 = λ l. IsNeeded l (length lines + 1) in
    subst P (same_read bytes ((w.whole ++ pending) ++ (more ++ piece)) read new.left (Consumes-trans (Some bytes) old.left new.left (w.whole ++ pending) (more ++ piece) before d) c) (piece_needed w.whole pending more piece lines w.ended h le)

needed_after : (start : Option (List ℕ)) (pending pending' : List ℕ) (old new : InputState) (lines : List (List ℕ)) (w : Taken start pending old.left lines) (whole : List ℕ) (n : ℕ)
    → ReadsAhead pending old new → Consumes start (unread pending' new.left) whole → n ≡ length lines + 1 → IfSome start (λ _. IsNeeded (whole ++ pending') n)
needed_after None pending pending' old new lines w whole n a c e = tt
needed_after (Some bytes) pending pending' old new lines w whole n a c e = rw e (needed_on bytes pending old new lines w (whole ++ pending') a (read_of bytes whole pending' new.left c))

-- one more line is taken
pub taken_line : (start : Option (List ℕ)) (pending pending' : List ℕ) (old new : InputState) (lines : List (List ℕ)) (line : List ℕ)
    → Taken start pending old.left lines → ReadsAhead pending old new → HasNoLf line → Consumes (unread pending old.left) (unread pending' new.left) (line ++ 10 ∷ []) → Taken start pending' new.left (lines ++ line ∷ [])
taken_line start pending pending' old new lines line w a h c = record {
  whole = w.whole ++ (line ++ 10 ∷ []);
  taken = Consumes-trans start (unread pending old.left) (unread pending' new.left) w.whole (line ++ 10 ∷ []) w.taken c;
  are = λ more. ap lines_of (append_assoc w.whole (line ++ 10 ∷ []) more) ∙ w.are ((line ++ 10 ∷ []) ++ more) ∙ ap (λ l. lines ++ l) (lines_of_line line more h) ∙ sym (append_assoc lines (line ∷ []) (lines_of more));
  ended = λ more. ap ended_lines_of (append_assoc w.whole (line ++ 10 ∷ []) more) ∙ w.ended ((line ++ 10 ∷ []) ++ more) ∙ ap (λ l. lines ++ l) (ended_lines_of_line line more h) ∙ sym (append_assoc lines (line ∷ []) (ended_lines_of more));
  needed = needed_after start pending pending' old new lines w (w.whole ++ (line ++ 10 ∷ [])) (length (lines ++ line ∷ [])) a (Consumes-trans start (unread pending old.left) (unread pending' new.left) w.whole (line ++ 10 ∷ []) w.taken c) (length_push lines line);
}

told : (bytes whole pending : List ℕ) (left : Option (List ℕ)) → Consumes (Some bytes) (unread pending left) whole → (rest : List ℕ) × (bytes ≡ whole ++ (pending ++ rest))
told bytes whole pending None c = absurd c
told bytes whole pending (Some ys) c = (ys, c)

nil_parts : (xs ys : List ℕ) → xs ++ ys ≡ [] → (xs ≡ []) × (ys ≡ [])
nil_parts [] ys e = (refl, e)
nil_parts (x ∷ xs) ys e = absurd (cc)

all_read : (bytes whole pending : List ℕ) (left : Option (List ℕ)) → Consumes (Some bytes) (unread pending left) whole → IsAtEnd (unread pending left) → (whole ++ pending ≡ bytes) × (whole ≡ bytes)
all_read bytes whole pending None c e = absurd c
all_read bytes whole pending (Some ys) c e =
    let none = nil_parts pending ys e in
    let same : whole ≡ bytes = sym (c ∙ ap (λ l. whole ++ l) e ∙ append-nil whole) in
    (ap (λ l. whole ++ l) none.0 ∙ append-nil whole ∙ same, same)

-- no line was given: what was read, and that the lines are the first
pub read_on : (bytes pending pending' : List ℕ) (old new : InputState) (lines : List (List ℕ))
    → Taken (Some bytes) pending old.left lines → ReadsAhead pending old new → Keeps (unread pending old.left) (unread pending' new.left) → (read : List ℕ) × (others : List (List ℕ)) × ReadOn bytes new.left read lines others
read_on bytes pending pending' old new lines w a k =
    let c = Consumes-kept (Some bytes) (unread pending old.left) (unread pending' new.left) w.whole w.taken k in
    let (rest, e) = told bytes w.whole pending' new.left c in
    let read = read_of bytes w.whole pending' new.left c in
    (w.whole ++ pending', lines_of (pending' ++ rest), record { consumed = read; needed = needed_on bytes pending old new lines w _ a read; are = ap lines_of e ∙ w.are (pending' ++ rest) })

-- the input has ended
pub read_to_end : (bytes pending pending' : List ℕ) (old new : InputState) (lines : List (List ℕ))
    → Taken (Some bytes) pending old.left lines → ReadsAhead pending old new → Keeps (unread pending old.left) (unread pending' new.left) → IsAtEnd (unread pending' new.left)
    → ReadOn bytes new.left bytes lines []
read_to_end bytes pending pending' old new lines w a k e =
    let c = Consumes-kept (Some bytes) (unread pending old.left) (unread pending' new.left) w.whole w.taken k in
    let all = all_read bytes w.whole pending' new.left c e in
    let P : List ℕ → Type 0 = λ l. Consumes (Some bytes) new.left l in
    let read = subst P all.0 (read_of bytes w.whole pending' new.left c) in
    record { consumed = read; needed = needed_on bytes pending old new lines w bytes a read; are = ap lines_of (sym all.1 ∙ sym (append-nil w.whole)) ∙ w.are [] }

-- a read failed: all lines that were ended are taken
pub read_to_fault : (bytes pending pending' : List ℕ) (old new : InputState) (lines : List (List ℕ))
    → Taken (Some bytes) pending old.left lines → ReadsAhead pending old new → Keeps (unread pending old.left) (unread pending' new.left) → HasNoLf pending'
    → (read : List ℕ) × (others : List (List ℕ)) × ReadOn bytes new.left read lines others × (ended_lines_of read ≡ lines)
read_to_fault bytes pending pending' old new lines w a k h =
    let c = Consumes-kept (Some bytes) (unread pending old.left) (unread pending' new.left) w.whole w.taken k in
    let (rest, e) = told bytes w.whole pending' new.left c in
    let read = read_of bytes w.whole pending' new.left c in
    let count : ended_lines_of (w.whole ++ pending') ≡ lines = w.ended pending' ∙ ap (λ l. lines ++ l) (no_ended_line pending' h) ∙ append-nil lines in
    (w.whole ++ pending', lines_of (pending' ++ rest), record { consumed = read; needed = needed_on bytes pending old new lines w _ a read; are = ap lines_of e ∙ w.are (pending' ++ rest) }, count)

-- the next line is too long
pub read_too_long : (bytes pending pending' : List ℕ) (old new : InputState) (lines : List (List ℕ))
    → Taken (Some bytes) pending old.left lines → ReadsAhead pending old new → Keeps (unread pending old.left) (unread pending' new.left) → BeginsLong pending'
    → (read line : List ℕ) × (others : List (List ℕ)) × ReadOn bytes new.left read lines (line ∷ others) × (longest_line < length line)
read_too_long bytes pending pending' old new lines w a k h =
    let c = Consumes-kept (Some bytes) (unread pending old.left) (unread pending' new.left) w.whole w.taken k in
    let (rest, e) = told bytes w.whole pending' new.left c in
    let read = read_of bytes w.whole pending' new.left c in
    let (line, others, is, lt) = begins_long pending' rest h in
    (w.whole ++ pending', line, others, record { consumed = read; needed = needed_on bytes pending old new lines w _ a read; are = ap lines_of e ∙ w.are (pending' ++ rest) ∙ ap (λ l. lines ++ l) is }, lt)

-- a line that ends at an LF was given
pub read_line : (bytes pending pending' : List ℕ) (old new : InputState) (lines : List (List ℕ)) (line : List ℕ)
    → Taken (Some bytes) pending old.left lines → ReadsAhead pending old new → HasNoLf line → Consumes (unread pending old.left) (unread pending' new.left) (line ++ 10 ∷ [])
    → (read : List ℕ) × (others more : List (List ℕ)) × ReadOn bytes new.left read lines (line ∷ others) × (lines_of read ≡ lines ++ line ∷ more)
read_line bytes pending pending' old new lines line w a h c =
    let d = Consumes-trans (Some bytes) (unread pending old.left) (unread pending' new.left) w.whole (line ++ 10 ∷ []) w.taken c in
    let (rest, e) = told bytes (w.whole ++ (line ++ 10 ∷ [])) pending' new.left d in
    let read = read_of bytes (w.whole ++ (line ++ 10 ∷ [])) pending' new.left d in (
      (w.whole ++ (line ++ 10 ∷ [])) ++ pending',
      lines_of (pending' ++ rest),
      lines_of pending',
      record { consumed = read; needed = needed_on bytes pending old new lines w _ a read; are = ap lines_of e ∙ line_next w.whole line (pending' ++ rest) lines w.are h },
      line_next w.whole line pending' lines w.are h,
    )
  where
    line_next : (whole line more : List ℕ) (lines : List (List ℕ)) → ((more : List ℕ) → lines_of (whole ++ more) ≡ lines ++ lines_of more) → HasNoLf line → lines_of ((whole ++ (line ++ 10 ∷ [])) ++ more) ≡ lines ++ line ∷ lines_of more
    line_next whole line more lines are h = ap lines_of (append_assoc whole (line ++ 10 ∷ []) more) ∙ are ((line ++ 10 ∷ []) ++ more) ∙ ap (λ l. lines ++ l) (lines_of_line line more h)

-- a line that ends with the input was given
pub read_last : (bytes pending pending' : List ℕ) (old new : InputState) (lines : List (List ℕ)) (line : List ℕ)
    → Taken (Some bytes) pending old.left lines → ReadsAhead pending old new → HasNoLf line → 0 < length line → Consumes (unread pending old.left) (unread pending' new.left) line → IsAtEnd (unread pending' new.left)
    → ReadOn bytes new.left bytes lines (line ∷ [])
read_last bytes pending pending' old new lines line w a h lt c e =
    let d = Consumes-trans (Some bytes) (unread pending old.left) (unread pending' new.left) w.whole line w.taken c in
    let all = all_read bytes (w.whole ++ line) pending' new.left d e in
    let P : List ℕ → Type 0 = λ l. Consumes (Some bytes) new.left l in
    let read = subst P all.0 (read_of bytes (w.whole ++ line) pending' new.left d) in
    record { consumed = read; needed = needed_on bytes pending old new lines w bytes a read; are = ap lines_of (sym all.1) ∙ w.are line ∙ ap (λ l. lines ++ l) (last_line line h lt) }
