-- Laws of runs over lines: a run goes on by one line, and one of what is told is one of what is told later.
use Rattle.std.proofs.Common.{◌≡◌, ℕ, ◌+◌, ◌^◌, ◌<◌, ◌≤◌, ◌&&◌, true, false, List, [], ◌∷◌, ◌++◌, length, nat_le, nat_lt, Option, Some, None, refl, ap, ◌∙◌, subst, arith, cond}
use Rattle.std.proofs.lemmas.List.{flat_map_more}
use Rattle.std.proofs.lemmas.Grind.{common_steps}
use Rattle.rv_base.specs.Outside.{InputState}
use Rattle.rv_lines.specs.Lines.{longest_line}
use Rattle.rv_cli.specs.declared.ending.Ending.{Ending}
use Rattle.rv_cli.specs.declared.ending.Ending.TheVariants.{Done, Keeper, Damaged, Read, Write, Memory, Malformed}
use Rattle.rv_cli.specs.LineRuns.{Lines, line_at, Are, IsReached, Run, told_text, Answered, Ends}
use Rattle.rv_cli.specs.LineTaking.{TakesLater}

-- a line that is short enough, and early enough, is what its bytes are
fits : (number : ℕ) (line : List ℕ) → length line ≤ longest_line → number < 2 ^ 32 → (nat_le (length line) longest_line && nat_lt number (2 ^ 32)) ≡ true
fits number line le lt = grind (arith, common_steps)

is_long : (number : ℕ) (line : List ℕ) → longest_line < length line → (nat_le (length line) longest_line && nat_lt number (2 ^ 32)) ≡ false
is_long number line lt = grind (arith, common_steps)

is_late : (number : ℕ) (line : List ℕ) → 2 ^ 32 ≤ number → (nat_le (length line) longest_line && nat_lt number (2 ^ 32)) ≡ false
is_late number line le = grind (arith, common_steps)

module _ (L : Lines) where
  pub line_as : (number : ℕ) (line : List ℕ) → length line ≤ longest_line → number < 2 ^ 32 → line_at L number line ≡ L.read line
  line_as number line le lt = ap (λ b. cond b (L.read line) None) (fits number line le lt)

  pub too_long : (number : ℕ) (line : List ℕ) → longest_line < length line → line_at L number line ≡ None
  too_long number line lt = ap (λ b. cond b (L.read line) None) (is_long number line lt)

  pub too_late : (number : ℕ) (line : List ℕ) → 2 ^ 32 ≤ number → line_at L number line ≡ None
  too_late number line le = ap (λ b. cond b (L.read line) None) (is_late number line le)

  are_more : (n : ℕ) (rest : List (List ℕ)) (bytes : List ℕ) (lines : List L.Line) (line : L.Line) (number : ℕ) → number ≡ n + length rest → Are L n rest lines → line_at L number bytes ≡ Some line → Are L n (rest ++ bytes ∷ []) (lines ++ line ∷ [])
  are_more n [] bytes [] line number e h is = (subst (λ (k : ℕ). line_at L k bytes ≡ Some line) (omega (arith, e)) is, tt)
  are_more n [] bytes (a ∷ lines) line number e h is = absurd h
  are_more n (l ∷ rest) bytes [] line number e h is = absurd h
  are_more n (l ∷ rest) bytes (a ∷ lines) line number e (here, more) is = (here, are_more (n + 1) rest bytes lines line number (omega (arith, e)) more is)

  -- a run goes on by one line
  pub run_more : (Told : Type 0) (lines : List L.Line) (answers : List (Option L.Answer)) (first mid new : L.State) (line : L.Line) (answer : Option L.Answer) → Run L Told first lines answers mid → L.Takes Told mid line answer new
      → Run L Told first (lines ++ line ∷ []) (answers ++ answer ∷ []) new
  run_more Told [] [] first mid new line answer r s = (new, subst (λ (b : L.State). L.Takes Told b line answer new) r s, refl)
  run_more Told [] (a ∷ answers) first mid new line answer r s = absurd r
  run_more Told (q ∷ lines) [] first mid new line answer r s = absurd r
  run_more Told (q ∷ lines) (a ∷ answers) first mid new line answer (next, step, rest) s = (next, step, run_more Told lines answers next mid new line answer rest s)

  -- one more line is taken
  pub answered_more : (Told : Type 0) (first : L.State) (lines : List (List ℕ)) (bytes text : List ℕ) (mid new : L.State) (number : ℕ) (line : L.Line) (answer : Option L.Answer) → number ≡ length lines + 1
      → Answered L Told first lines text mid → line_at L number bytes ≡ Some line → L.Takes Told mid line answer new → Answered L Told first (lines ++ bytes ∷ []) (text ++ told_text L answer) new
  answered_more Told first lines bytes text mid new number line answer e w is s = record {
    taken = w.taken ++ line ∷ [];
    answers = w.answers ++ answer ∷ [];
    are = are_more 1 lines bytes w.taken line number (omega (arith, e)) w.are is;
    run = run_more Told w.taken w.answers first mid new line answer w.run s;
    told = ap (λ l. l ++ told_text L answer) w.told ∙ flat_map_more (told_text L) [] w.answers answer;
  }

  pub answered_none : (Told : Type 0) (first : L.State) → Answered L Told first [] [] first
  answered_none Told first = record { taken = []; answers = []; are = tt; run = refl; told = refl }

  -- what is told later was told before, so a run is one of what is told later
  module _ (Told Now : Type 0) (later : TakesLater L Told Now) where
    pub run_later : (lines : List L.Line) (answers : List (Option L.Answer)) (first new : L.State) → Run L Told first lines answers new → Run L Now first lines answers new
    run_later [] [] first new r = r
    run_later [] (a ∷ answers) first new r = absurd r
    run_later (q ∷ lines) [] first new r = absurd r
    run_later (q ∷ lines) (a ∷ answers) first new (next, step, rest) = (next, later first next q a step, run_later lines answers next new rest)

    pub answered_later : (first : L.State) (lines : List (List ℕ)) (text : List ℕ) (new : L.State) → Answered L Told first lines text new → Answered L Now first lines text new
    answered_later first lines text new w = record { taken = w.taken; answers = w.answers; are = w.are; run = run_later w.taken w.answers first new w.run; told = w.told }

    pub reached_later : (first now : L.State) → IsReached L Told first now → IsReached L Now first now
    reached_later first now (lines, answers, run) = (lines, answers, run_later lines answers first now run)

    pub ends_later : (first : L.State) (bytes : List ℕ) (input input' : InputState) (read text : List ℕ) (now : L.State) (ending : Ending) → Ends L Told first bytes input input' read text now ending → Ends L Now first bytes input input' read text now ending
    ends_later first bytes input input' read text now Done (all, w) = (all, answered_later first _ text now w)
    ends_later first bytes input input' read text now Read (w, needed) = (answered_later first _ text now w, needed)
    ends_later first bytes input input' read text now Write e = record {
      lines = e.lines;
      line = e.line;
      others = e.others;
      are = e.are;
      within = e.within;
      needed = e.needed;
      before = e.before;
      mid = e.mid;
      answered = answered_later first e.lines e.before e.mid e.answered;
      taken = e.taken;
      asks = e.asks;
      answer = e.answer;
      step = later e.mid now e.taken (Some e.answer) e.step;
      part = e.part;
      told = e.told;
      front = e.front;
    }
    ends_later first bytes input input' read text now Memory e = record { lines = e.lines; others = e.others; are = e.are; waits = e.waits; needed = e.needed; answered = answered_later first e.lines text now e.answered }
    ends_later first bytes input input' read text now (Malformed number) e =
        record { lines = e.lines; line = e.line; others = e.others; are = e.are; count = e.count; refused = e.refused; needed = e.needed; answered = answered_later first e.lines text now e.answered }
    ends_later first bytes input input' read text now Keeper e =
        record { lines = e.lines; line = e.line; others = e.others; are = e.are; stop = e.stop; needed = e.needed; answered = answered_later first e.lines text now e.answered }
    ends_later first bytes input input' read text now (Damaged damage) e =
        record { lines = e.lines; line = e.line; others = e.others; are = e.are; stop = e.stop; needed = e.needed; answered = answered_later first e.lines text now e.answered }
