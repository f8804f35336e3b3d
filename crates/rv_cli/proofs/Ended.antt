-- From how lines end to the status and its text, over whoever takes them.
use Rattle.std.proofs.Common.{◌≡◌, ◌⊎◌, inl, inr, ℕ, ◌+◌, List, [], ◌∷◌, ◌++◌, length, Option, Some, None, IfSome, Result, Ok, Err, refl, sym, ap, ◌∙◌, subst, arith, length-append}
use Rattle.std.specs.Io.KnownBytes.{Appends}
use Rattle.std.proofs.KnownBytes.{Appends-trans}
use Rattle.rv_base.specs.Causes.{Rose}
use Rattle.rv_base.specs.Outside.{InputState, OutputState, Writes}
use Rattle.rv_base.specs.Writes.{IsFront}
use Rattle.rv_lines.specs.Lines.{lines_of}
use Rattle.rv_cli.specs.declared.ending.Ending.{Ending}
use Rattle.rv_cli.specs.declared.ending.Ending.TheVariants.{Done, Keeper, Damaged, Read, Write, Memory, Malformed}
use Rattle.rv_cli.specs.Texts.{status_of, status_text}
use Rattle.rv_cli.specs.Headline.{IsOther}
use Rattle.rv_cli.specs.LineRuns.{Lines, line_at, Are, AllAre, IsPart, IsOwnText, ReadsSo, WritesSo, Fed}
use Rattle.rv_cli.specs.LineTaking.{AnswerFaults, FedAnswers, Feeds}

-- no text has a front that lacks some of nothing
no_front : (part : List ℕ) → IsFront part [] → ⊥
no_front part (rest, e, lt) = omega (arith, ap length e, length-append part rest, lt)

part_of : {T E : Type 0} (before : ℕ) (mid out : OutputState) (text : List ℕ) (result : Result T E) → mid.faults ≡ before → Writes mid out result text → (own : List ℕ) × Appends mid.written out.written own × IsPart before out.faults own text
part_of before mid out text (Ok x) e w = (text, w.bytes, inl (refl, w.cause.still ∙ e))
part_of before mid out text (Err fault) e w =
    let (part, front, a) = w.bytes in (part, a, inr (front, subst (λ (n : ℕ). Rose n out.faults) e w.cause.failed))

-- a text that is empty
none_of : {T E : Type 0} (mid out : OutputState) (result : Result T E) → Writes mid out result [] → Appends mid.written out.written [] × (out.faults ≡ mid.faults)
none_of mid out (Ok x) w = (w.bytes, w.cause.still)
none_of mid out (Err fault) w = let (part, front, a) = w.bytes in absurd (no_front part front)

part_faults : (before now : ℕ) (own text : List ℕ) → IsPart before now own text → (now ≡ before) ⊎ Rose before now
part_faults before now own text (inl whole) = inl whole.1
part_faults before now own text (inr cut) = inr cut.1

-- what is written of the status's own text, and how the faults are told
own_text : {T E : Type 0} (before : ℕ) (mid out : OutputState) (ending : Ending) (result : Result T E) → AnswerFaults before mid.faults ending → Writes mid out result (status_text ending)
    → (own : List ℕ) × Appends mid.written out.written own × IsOwnText before out.faults own ending × WritesSo before out.faults ending
own_text before mid out Done result e w = let none = none_of mid out result w in ([], none.0, (refl, none.1 ∙ e), none.1 ∙ e)
own_text before mid out Write result rose w = let none = none_of mid out result w in let later : Rose before out.faults = subst (λ (n : ℕ). Rose before n) (sym none.1) rose in ([], none.0, (refl, later), later)
own_text before mid out Keeper result e w = let (own, a, part) = part_of before mid out (status_text Keeper) result e w in (own, a, part, part_faults before out.faults own (status_text Keeper) part)
own_text before mid out (Damaged damage) result e w = let (own, a, part) = part_of before mid out (status_text (Damaged damage)) result e w in (own, a, part, part_faults before out.faults own (status_text (Damaged damage)) part)
own_text before mid out Read result e w = let (own, a, part) = part_of before mid out (status_text Read) result e w in (own, a, part, part_faults before out.faults own (status_text Read) part)
own_text before mid out Memory result e w = let (own, a, part) = part_of before mid out (status_text Memory) result e w in (own, a, part, part_faults before out.faults own (status_text Memory) part)
own_text before mid out (Malformed number) result e w = let (own, a, part) = part_of before mid out (status_text (Malformed number)) result e w in (own, a, part, part_faults before out.faults own (status_text (Malformed number)) part)

module _ (L : Lines) where
  with_own : (Told : Type 0) (begun now : L.State) (o : Option (List ℕ)) (start input : InputState) (first mid out : OutputState) (ending : Ending) (own : List ℕ) → IfSome o (λ bytes. FedAnswers L Told begun now bytes start input first mid ending) → Appends mid.written out.written own → IsOwnText first.faults out.faults own ending
      → IfSome o (λ bytes. Fed L Told begun now bytes start input first out ending)
  with_own Told begun now None start input first mid out ending own f a h = tt
  with_own Told begun now (Some bytes) start input first mid out ending own f a h = record {
    read = f.read;
    text = f.text;
    own = own;
    consumed = f.consumed;
    appended = Appends-trans first.written mid.written out.written f.text own f.appended a;
    ends = f.ends;
    status = h;
  }

  -- the status's text comes after the answers
  pub ended : {T E : Type 0} (Told : Type 0) (begun now : L.State) (start input : InputState) (first mid out : OutputState) (ending : Ending) (result : Result T E) → Feeds L Told begun now start input first mid ending → Writes mid out result (status_text ending)
      → ReadsSo start input ending × WritesSo first.faults out.faults ending × IfSome start.left (λ bytes. Fed L Told begun now bytes start input first out ending)
  ended Told begun now start input first mid out ending result f w =
      let (own, a, h, so) = own_text first.faults mid out ending result f.writes w in
      (f.reads, so, with_own Told begun now start.left start input first mid out ending own f.fed a h)

  -- where all lines are of the form, so is each
  line_among : (n : ℕ) (rest others : List (List ℕ)) (bytes : List ℕ) (lines : List L.Line) (number : ℕ) → number ≡ n + length rest → Are L n (rest ++ bytes ∷ others) lines → (line : L.Line) × (line_at L number bytes ≡ Some line)
  line_among n [] others bytes [] number e h = absurd h
  line_among n [] others bytes (line ∷ lines) number e h = (line, subst (λ (k : ℕ). line_at L k bytes ≡ Some line) (let is : n ≡ number = omega (arith, e) in is) h.0)
  line_among n (l ∷ rest) others bytes [] number e h = absurd h
  line_among n (l ∷ rest) others bytes (line ∷ lines) number e h = line_among (n + 1) rest others bytes lines number (omega (arith, e)) h.1

  none_malformed : ((state : L.State) (line : Option L.Line) → L.Refuses state line → line ≡ None) → (Told : Type 0) (begun now : L.State) (bytes : List ℕ) (start input : InputState) (first out : OutputState) (number : ℕ) (lines : List L.Line) → FedAnswers L Told begun now bytes start input first out (Malformed number) → Are L 1 (lines_of bytes) lines → ⊥
  none_malformed of_form Told begun now bytes start input first out number lines f are =
      let (line, is) = line_among 1 f.ends.lines f.ends.others f.ends.line lines number (let e = f.ends.count in omega (arith, e)) (subst (λ (ls : List (List ℕ)). Are L 1 ls lines) f.ends.are are) in
      let no : None ≡ Some line = sym (of_form _ _ f.ends.refused) ∙ is in
      cc

  -- where only lines that are not of the form are refused, and all are of the form, none is
  pub completes : ((state : L.State) (line : Option L.Line) → L.Refuses state line → line ≡ None) → (Told : Type 0) (begun now : L.State) (o : Option (List ℕ)) (start input : InputState) (first out : OutputState) (ending : Ending) → IfSome o (λ bytes. FedAnswers L Told begun now bytes start input first out ending) → AllAre L o (IsOther (status_of ending))
  completes of_form Told begun now None start input first out ending f = tt
  completes of_form Told begun now (Some bytes) start input first out Done f = λ lines are. inl refl
  completes of_form Told begun now (Some bytes) start input first out Keeper f = λ lines are. inr (inl refl)
  completes of_form Told begun now (Some bytes) start input first out (Damaged damage) f = λ lines are. inr (inr (inl refl))
  completes of_form Told begun now (Some bytes) start input first out Read f = λ lines are. inr (inr (inr (inl refl)))
  completes of_form Told begun now (Some bytes) start input first out Write f = λ lines are. inr (inr (inr (inr (inl refl))))
  completes of_form Told begun now (Some bytes) start input first out Memory f = λ lines are. inr (inr (inr (inr (inr refl))))
  completes of_form Told begun now (Some bytes) start input first out (Malformed number) f = λ lines are. absurd (none_malformed of_form Told begun now bytes start input first out number lines f are)
