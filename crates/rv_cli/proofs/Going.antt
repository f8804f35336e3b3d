-- Lines that are taken and answered one by one, and how that ends, over whoever takes them.
use Rattle.std.proofs.Common.{◌≡◌, ◌⊎◌, inl, inr, ℕ, ◌+◌, ◌^◌, ◌<◌, ◌≤◌, List, [], ◌∷◌, ◌++◌, length, Bool, Option, Some, None, IfSome, MatchBool, true, false, refl, sym, ap, ◌∙◌, subst, append-nil}
use Rattle.std.specs.Io.KnownBytes.{Keeps, Consumes, Appends, IsAtEnd}
use Rattle.std.proofs.KnownBytes.{Appends-trans, Appends-nil}
use Rattle.std.proofs.lemmas.List.{length_push}
use Rattle.rv_base.specs.Outside.{InputState, OutputState, counted}
use Rattle.rv_lines.specs.Lines.{lines_of, HasNoLf, BeginsLong, longest_line}
use Rattle.rv_lines.specs.Reading.{unread, ReadsFor}
use Rattle.rv_lines.specs.Taken.{Taken, ReadOn}
use Rattle.rv_lines.specs.TakenLaws.{taken_none, taken_line, read_on, read_to_end, read_to_fault, read_too_long, read_line, read_last}
use Rattle.rv_cli.specs.declared.ending.Ending.{Ending}
use Rattle.rv_cli.specs.declared.ending.Ending.TheVariants.{Done, Keeper, Damaged, Read, Write, Memory, Malformed}
use Rattle.rv_cli.specs.LineRuns.{Lines, StaysClosed, line_at, told_text, Answered}
use Rattle.rv_cli.specs.LineTaking.{OutputStays, TakesLater, Adds, LineGoesOn, CutsAnswer, EndsLine, FedAnswers, Feeds}
use Rattle.rv_cli.specs.LineRunLaws.{line_as, too_long, too_late, run_more, answered_later, answered_more, answered_none}

-- ---- A line that was found.

-- the line ends with the input, or at an LF
abbrev pub TakesBytes : List ℕ → List ℕ → List ℕ → InputState → InputState → Bool → Type 0
TakesBytes pending pending' line old new is_last = MatchBool is_last ((0 < length line) × Consumes (unread pending old.left) (unread pending' new.left) line × IsAtEnd (unread pending' new.left)) (Consumes (unread pending old.left) (unread pending' new.left) (line ++ 10 ∷ []))

pub record Finds (pending pending' line : List ℕ) (old new : InputState) (is_last : Bool) : Type 0 where
  pub reads : ReadsFor pending old new is_last false
  pub no_lf : HasNoLf line
  pub short : length line ≤ longest_line
  pub takes : TakesBytes pending pending' line old new is_last

of_bytes : (o : Option (List ℕ)) (bytes pending : List ℕ) (left : Option (List ℕ)) (lines : List (List ℕ)) → o ≡ Some bytes → Taken o pending left lines → Taken (Some bytes) pending left lines
of_bytes o bytes pending left lines is t = subst (λ (s : Option (List ℕ)). Taken s pending left lines) is t

-- what holds of bytes that are told holds where they are
known : (o : Option (List ℕ)) (P : List ℕ → Type 0) → ((bytes : List ℕ) → o ≡ Some bytes → P bytes) → IfSome o P
known None P f = tt
known (Some bytes) P f = f bytes refl

-- What was examined: a line that ends at an LF, or with the input.
record Examined (start old new : InputState) (line : List ℕ) (lines : List (List ℕ)) : Type 0 where
  pub faults : new.faults ≡ old.faults
  pub ends : (new.ends ≡ old.ends) ⊎ (new.ends ≡ counted old.ends)
  pub on : (bytes : List ℕ) → start.left ≡ Some bytes → (read : List ℕ) × (others more : List (List ℕ)) × ReadOn bytes new.left read lines (line ∷ others) × (lines_of read ≡ lines ++ line ∷ more)

examined : (start old new : InputState) (pending pending' line : List ℕ) (lines : List (List ℕ)) (is_last : Bool) → Taken start.left pending old.left lines → Finds pending pending' line old new is_last → Examined start old new line lines
examined start old new pending pending' line lines false t f = record {
  faults = f.reads.faults;
  ends = inl f.reads.ends;
  on = λ bytes is. read_line bytes pending pending' old new lines line (of_bytes start.left bytes pending old.left lines is t) f.reads.ahead f.no_lf f.takes;
}
examined start old new pending pending' line lines true t f = record {
  faults = f.reads.faults;
  ends = inr f.reads.ends;
  on = λ bytes is.
      let on = read_last bytes pending pending' old new lines line (of_bytes start.left bytes pending old.left lines is t) f.reads.ahead f.no_lf f.takes.0 f.takes.1 f.takes.2 in
      (bytes, [], [], on, on.are);
}

ends_as : (start old new : InputState) → old.ends ≡ start.ends → (new.ends ≡ old.ends) ⊎ (new.ends ≡ counted old.ends) → (new.ends ≡ start.ends) ⊎ (new.ends ≡ counted start.ends)
ends_as start old new e (inl same) = inl (same ∙ e)
ends_as start old new e (inr more) = inr (more ∙ ap counted e)

module _ (L : Lines) where
  -- All lines so far were ended and taken, and no fault rose.
  pub record Going (Told : Type 0) (begun : L.State) (start input : InputState) (first out : OutputState) (pending : List ℕ) (number : ℕ) (now : L.State) : Type 0 where
    pub lines : List (List ℕ)
    pub text : List ℕ
    pub taken : Taken start.left pending input.left lines
    pub answered : Answered L Told begun lines text now
    pub appended : Appends first.written out.written text
    pub count : number ≡ length lines + 1
    pub faults : input.faults ≡ start.faults
    pub ends : input.ends ≡ start.ends
    pub stays : OutputStays first out

  pub going_first : (Told : Type 0) (begun : L.State) (start : InputState) (first : OutputState) (pending : List ℕ) → pending ≡ [] → Going Told begun start start first first pending 1 begun
  going_first Told begun start first pending e = record {
    lines = [];
    text = [];
    taken = taken_none start.left pending e;
    answered = answered_none L Told begun;
    appended = Appends-nil first.written;
    count = refl;
    faults = refl;
    ends = refl;
    stays = record { faults = refl; refusals = refl };
  }

  pub going_later : (Told Now : Type 0) (begun : L.State) (start input : InputState) (first out : OutputState) (pending : List ℕ) (number : ℕ) (now : L.State) → TakesLater L Told Now
      → Going Told begun start input first out pending number now → Going Now begun start input first out pending number now
  going_later Told Now begun start input first out pending number now later w = record {
    lines = w.lines;
    text = w.text;
    taken = w.taken;
    answered = answered_later L Told Now later begun w.lines w.text now w.answered;
    appended = w.appended;
    count = w.count;
    faults = w.faults;
    ends = w.ends;
    stays = w.stays;
  }

  -- what is read of a line that is short and early enough
  at_line : (P : Option L.Line → Type 0) (number : ℕ) (bytes : List ℕ) → length bytes ≤ longest_line → number < 2 ^ 32 → P (L.read bytes) → P (line_at L number bytes)
  at_line P number bytes le lt is = subst P (sym (line_as L number bytes le lt)) is

  module _ (Told : Type 0) (begun : L.State) (start : InputState) (first : OutputState) where
    -- ---- No line.

    -- the input has ended
    pub ends_done : (old new : InputState) (out : OutputState) (pending pending' : List ℕ) (number : ℕ) (now : L.State)
        → Going Told begun start old first out pending number now → ReadsFor pending old new true false → Keeps (unread pending old.left) (unread pending' new.left) → IsAtEnd (unread pending' new.left) → Feeds L Told begun now start new first out Done
    ends_done old new out pending pending' number now w r k e = record {
      reads = (r.faults ∙ w.faults, r.ends ∙ ap counted w.ends);
      writes = w.stays.faults;
      reached = (w.answered.taken, w.answered.answers, w.answered.run);
      fed = known start.left (λ bytes. FedAnswers L Told begun now bytes start new first out Done) (λ bytes is.
          let on = read_to_end bytes pending pending' old new w.lines (of_bytes start.left bytes pending old.left w.lines is w.taken) r.ahead k e in
          record { read = bytes; text = w.text; consumed = on.consumed; appended = w.appended; ends = (refl, subst (λ (ls : List (List ℕ)). Answered L Told begun ls w.text now) (sym (on.are ∙ append-nil w.lines)) w.answered) });
    }

    -- a read failed
    pub ends_read : (old new : InputState) (out : OutputState) (pending pending' : List ℕ) (number : ℕ) (now : L.State)
        → Going Told begun start old first out pending number now → ReadsFor pending old new false true → Keeps (unread pending old.left) (unread pending' new.left) → HasNoLf pending' → Feeds L Told begun now start new first out Read
    ends_read old new out pending pending' number now w r k h = record {
      reads = (rw (← w.faults) r.faults, r.ends ∙ w.ends);
      writes = w.stays.faults;
      reached = (w.answered.taken, w.answered.answers, w.answered.run);
      fed = known start.left (λ bytes. FedAnswers L Told begun now bytes start new first out Read) (λ bytes is.
          let (read, others, on, count) = read_to_fault bytes pending pending' old new w.lines (of_bytes start.left bytes pending old.left w.lines is w.taken) r.ahead k h in
          record { read = read; text = w.text; consumed = on.consumed; appended = w.appended; ends = (rw count w.answered, rw count on.needed) });
    }

    -- memory was refused in reading
    pub ends_memory : (old new : InputState) (out : OutputState) (pending pending' : List ℕ) (number : ℕ) (now : L.State)
        → Going Told begun start old first out pending number now → ReadsFor pending old new false false → Keeps (unread pending old.left) (unread pending' new.left) → Feeds L Told begun now start new first out Memory
    ends_memory old new out pending pending' number now w r k = record {
      reads = (r.faults ∙ w.faults, inl (r.ends ∙ w.ends));
      writes = w.stays.faults;
      reached = (w.answered.taken, w.answered.answers, w.answered.run);
      fed = known start.left (λ bytes. FedAnswers L Told begun now bytes start new first out Memory) (λ bytes is.
          let (read, others, on) = read_on bytes pending pending' old new w.lines (of_bytes start.left bytes pending old.left w.lines is w.taken) r.ahead k in
          record { read = read; text = w.text; consumed = on.consumed; appended = w.appended; ends = record { lines = w.lines; others = others; are = on.are; waits = inr (r.ends ∙ w.ends); needed = on.needed; answered = w.answered } });
    }

    -- a line is too long
    pub ends_long : (old new : InputState) (out : OutputState) (pending pending' : List ℕ) (number : ℕ) (now : L.State)
        → Going Told begun start old first out pending number now → ReadsFor pending old new false false → Keeps (unread pending old.left) (unread pending' new.left) → BeginsLong pending' → Feeds L Told begun now start new first out (Malformed number)
    ends_long old new out pending pending' number now w r k h = record {
      reads = (r.faults ∙ w.faults, inl (r.ends ∙ w.ends));
      writes = w.stays.faults;
      reached = (w.answered.taken, w.answered.answers, w.answered.run);
      fed = known start.left (λ bytes. FedAnswers L Told begun now bytes start new first out (Malformed number)) (λ bytes is.
          let (read, line, others, on, lt) = read_too_long bytes pending pending' old new w.lines (of_bytes start.left bytes pending old.left w.lines is w.taken) r.ahead k h in
          record { read = read; text = w.text; consumed = on.consumed; appended = w.appended; ends = record { lines = w.lines; line = line; others = others; are = on.are; count = w.count; refused = subst (L.Refuses now) (sym (too_long L number line lt)) (L.refuses_none now); needed = on.needed; answered = w.answered } });
    }

    -- ---- A line with which the lines end.

    -- the line is refused
    line_malformed : (old new : InputState) (out : OutputState) (pending line : List ℕ) (number : ℕ) (now : L.State) (w : Going Told begun start old first out pending number now)
        → Examined start old new line w.lines → L.Refuses now (line_at L number line) → Feeds L Told begun now start new first out (Malformed number)
    line_malformed old new out pending line number now w l refused = record {
      reads = (l.faults ∙ w.faults, ends_as start old new w.ends l.ends);
      writes = w.stays.faults;
      reached = (w.answered.taken, w.answered.answers, w.answered.run);
      fed = known start.left (λ bytes. FedAnswers L Told begun now bytes start new first out (Malformed number)) (λ bytes is.
          let (read, others, more, on, within) = l.on bytes is in
          record { read = read; text = w.text; consumed = on.consumed; appended = w.appended; ends = record { lines = w.lines; line = line; others = others; are = on.are; count = w.count; refused = refused; needed = on.needed; answered = w.answered } });
    }

    -- memory was refused before it was known what the line is
    line_memory : (old new : InputState) (out : OutputState) (pending line : List ℕ) (number : ℕ) (now : L.State) (w : Going Told begun start old first out pending number now)
        → Examined start old new line w.lines → Feeds L Told begun now start new first out Memory
    line_memory old new out pending line number now w l = record {
      reads = (l.faults ∙ w.faults, ends_as start old new w.ends l.ends);
      writes = w.stays.faults;
      reached = (w.answered.taken, w.answered.answers, w.answered.run);
      fed = known start.left (λ bytes. FedAnswers L Told begun now bytes start new first out Memory) (λ bytes is.
          let (read, others, more, on, within) = l.on bytes is in
          record { read = read; text = w.text; consumed = on.consumed; appended = w.appended; ends = record { lines = w.lines; others = line ∷ others; are = on.are; waits = inl (λ e. absurd (cc)); needed = on.needed; answered = w.answered } });
    }

    -- a write of the answer failed
    line_cut : (old new : InputState) (out out' : OutputState) (pending line : List ℕ) (number : ℕ) (now next : L.State) (w : Going Told begun start old first out pending number now)
        → Examined start old new line w.lines → length line ≤ longest_line → number < 2 ^ 32 → CutsAnswer L Told now line next out out' → Feeds L Told begun next start new first out' Write
    line_cut old new out out' pending line number now next w l le lt a = record {
      reads = (l.faults ∙ w.faults, ends_as start old new w.ends l.ends);
      writes = rw (← w.stays.faults) a.rose;
      reached = (w.answered.taken ++ a.step.taken ∷ [], w.answered.answers ++ Some a.answer ∷ [], run_more L Told w.answered.taken w.answered.answers begun now next a.step.taken (Some a.answer) w.answered.run a.step.step);
      fed = known start.left (λ bytes. FedAnswers L Told begun next bytes start new first out' Write) (λ bytes is.
          let (read, others, more, on, within) = l.on bytes is in
          let (part, front, appended) = a.front in
          record {
            read = read;
            text = w.text ++ part;
            consumed = on.consumed;
            appended = Appends-trans first.written out.written out'.written w.text part w.appended appended;
            ends = record {
              lines = w.lines;
              line = line;
              others = others;
              are = on.are;
              within = (more, within);
              needed = on.needed;
              before = w.text;
              mid = now;
              answered = w.answered;
              taken = a.step.taken;
              asks = subst (λ (n : ℕ). line_at L n line ≡ Some a.step.taken) w.count (at_line (λ o. o ≡ Some a.step.taken) number line le lt a.step.asks);
              answer = a.answer;
              step = a.step.step;
              part = part;
              told = refl;
              front = front;
            };
          });
    }

    -- the line is a stop
    line_stop : (old new : InputState) (out : OutputState) (pending line : List ℕ) (number : ℕ) (now : L.State) (w : Going Told begun start old first out pending number now)
        → Examined start old new line w.lines → length line ≤ longest_line → number < 2 ^ 32 → L.IsStop (L.read line)
        → (bytes : List ℕ) → start.left ≡ Some bytes → (read : List ℕ) × Consumes (Some bytes) new.left read × StaysClosed L Told begun bytes read w.text now
    line_stop old new out pending line number now w l le lt stop bytes is =
        let (read, others, more, on, within) = l.on bytes is in
        (read, on.consumed, record { lines = w.lines; line = line; others = others; are = on.are; stop = subst (λ (n : ℕ). L.IsStop (line_at L n line)) w.count (at_line L.IsStop number line le lt stop); needed = on.needed; answered = w.answered })

    -- how a line that was examined ends the lines
    ends_examined : (old new : InputState) (out out' : OutputState) (pending line : List ℕ) (number : ℕ) (now next : L.State) (ending : Ending) → (w : Going Told begun start old first out pending number now)
        → Examined start old new line w.lines → length line ≤ longest_line → number < 2 ^ 32 → EndsLine L Told now line number next out out' ending → Feeds L Told begun next start new first out' ending
    ends_examined old new out out' pending line number now next Done w l le lt never = absurd never
    ends_examined old new out out' pending line number now next Read w l le lt never = absurd never
    ends_examined old new out out' pending line number now next Write w l le lt cut = line_cut old new out out' pending line number now next w l le lt cut
    ends_examined old new out out' pending line number now next Memory w l le lt (same, kept) =
        subst (λ (s : L.State). Feeds L Told begun s start new first out' Memory) (sym same) (subst (λ (o : OutputState). Feeds L Told begun now start new first o Memory) (sym kept) (line_memory old new out pending line number now w l))
    ends_examined old new out out' pending line number now next (Malformed n) w l le lt (is, refused, same, kept) =
        subst (λ (s : L.State). Feeds L Told begun s start new first out' (Malformed n)) (sym same) (subst (λ (o : OutputState). Feeds L Told begun now start new first o (Malformed n)) (sym kept)
        (subst (λ (m : ℕ). Feeds L Told begun now start new first out (Malformed m)) (sym is) (line_malformed old new out pending line number now w l (at_line (L.Refuses now) number line le lt refused))))
    ends_examined old new out out' pending line number now next Keeper w l le lt (stop, same, kept) =
        subst (λ (s : L.State). Feeds L Told begun s start new first out' Keeper) (sym same) (subst (λ (o : OutputState). Feeds L Told begun now start new first o Keeper) (sym kept) (record {
          reads = (l.faults ∙ w.faults, ends_as start old new w.ends l.ends);
          writes = w.stays.faults;
          reached = (w.answered.taken, w.answered.answers, w.answered.run);
          fed = known start.left (λ bytes. FedAnswers L Told begun now bytes start new first out Keeper) (λ bytes is.
              let (read, consumed, closed) = line_stop old new out pending line number now w l le lt stop bytes is in
              record { read = read; text = w.text; consumed = consumed; appended = w.appended; ends = closed });
        }))
    ends_examined old new out out' pending line number now next (Damaged damage) w l le lt (stop, same, kept) =
        subst (λ (s : L.State). Feeds L Told begun s start new first out' (Damaged damage)) (sym same) (subst (λ (o : OutputState). Feeds L Told begun now start new first o (Damaged damage)) (sym kept) (record {
          reads = (l.faults ∙ w.faults, ends_as start old new w.ends l.ends);
          writes = w.stays.faults;
          reached = (w.answered.taken, w.answered.answers, w.answered.run);
          fed = known start.left (λ bytes. FedAnswers L Told begun now bytes start new first out (Damaged damage)) (λ bytes is.
              let (read, consumed, closed) = line_stop old new out pending line number now w l le lt stop bytes is in
              record { read = read; text = w.text; consumed = consumed; appended = w.appended; ends = closed });
        }))

    pub ends_line : (old new : InputState) (out out' : OutputState) (pending pending' line : List ℕ) (is_last : Bool) (number : ℕ) (now next : L.State) (ending : Ending) → Going Told begun start old first out pending number now
        → Finds pending pending' line old new is_last → number < 2 ^ 32 → EndsLine L Told now line number next out out' ending → Feeds L Told begun next start new first out' ending
    ends_line old new out out' pending pending' line is_last number now next ending w f lt ends =
        ends_examined old new out out' pending line number now next ending w (examined start old new pending pending' line w.lines is_last w.taken f) f.short lt ends

    -- its number is too high
    pub ends_late : (old new : InputState) (out : OutputState) (pending pending' line : List ℕ) (is_last : Bool) (number : ℕ) (now : L.State)
        → Going Told begun start old first out pending number now → Finds pending pending' line old new is_last → 2 ^ 32 ≤ number → Feeds L Told begun now start new first out (Malformed number)
    ends_late old new out pending pending' line is_last number now w f late =
        line_malformed old new out pending line number now w (examined start old new pending pending' line w.lines is_last w.taken f) (subst (L.Refuses now) (sym (too_late L number line late)) (L.refuses_none now))

  -- ---- A line after which the lines go on.

  adds_text : (answer : Option L.Answer) (before now : OutputState) → Adds L answer before now → Appends before.written now.written (told_text L answer)
  adds_text None before now same = subst (λ (o : OutputState). Appends before.written o.written []) (sym same) (Appends-nil before.written)
  adds_text (Some answer) before now adds = adds.0

  adds_stays : (answer : Option L.Answer) (first before now : OutputState) → Adds L answer before now → OutputStays first before → OutputStays first now
  adds_stays None first before now same stays = subst (OutputStays first) (sym same) stays
  adds_stays (Some answer) first before now adds stays = record { faults = adds.1.faults ∙ stays.faults; refusals = adds.1.refusals ∙ stays.refusals }

  module _ (Told Now : Type 0) (later : TakesLater L Told Now) (begun : L.State) (start : InputState) (first : OutputState) where
    more_answered : (old : InputState) (out out' : OutputState) (pending line : List ℕ) (number : ℕ) (now next : L.State) (w : Going Told begun start old first out pending number now) → length line ≤ longest_line → number < 2 ^ 32
        → (goes : LineGoesOn L Now now line next out out') → Answered L Now begun (w.lines ++ line ∷ []) (w.text ++ told_text L goes.answer) next
    more_answered old out out' pending line number now next w le lt goes =
        let step = goes.step in
        answered_more L Now begun w.lines line w.text now next number step.taken goes.answer w.count (answered_later L Told Now later begun w.lines w.text now w.answered) (at_line (λ o. o ≡ Some step.taken) number line le lt step.asks) step.step

    more_appended : (old : InputState) (out out' : OutputState) (pending line : List ℕ) (number : ℕ) (now next : L.State) (w : Going Told begun start old first out pending number now)
        → (goes : LineGoesOn L Now now line next out out') → Appends first.written out'.written (w.text ++ told_text L goes.answer)
    more_appended old out out' pending line number now next w goes = Appends-trans first.written out.written out'.written w.text (told_text L goes.answer) w.appended (adds_text goes.answer out out' goes.adds)

    -- the line ended at an LF
    pub going_on : (old new : InputState) (out out' : OutputState) (pending pending' line : List ℕ) (number : ℕ) (now next : L.State) → Going Told begun start old first out pending number now
        → Finds pending pending' line old new false → number < 2 ^ 32 → LineGoesOn L Now now line next out out' → Going Now begun start new first out' pending' (number + 1) next
    going_on old new out out' pending pending' line number now next w f lt goes = record {
      lines = w.lines ++ line ∷ [];
      text = w.text ++ told_text L goes.answer;
      taken = taken_line start.left pending pending' old new w.lines line w.taken f.reads.ahead f.no_lf f.takes;
      answered = more_answered old out out' pending line number now next w f.short lt goes;
      appended = more_appended old out out' pending line number now next w goes;
      count = ap (λ n. n + 1) (w.count ∙ sym (length_push w.lines line));
      faults = f.reads.faults ∙ w.faults;
      ends = f.reads.ends ∙ w.ends;
      stays = adds_stays goes.answer first out out' goes.adds w.stays;
    }

    -- or with the input: all lines were taken
    pub ends_last : (old new : InputState) (out out' : OutputState) (pending pending' line : List ℕ) (number : ℕ) (now next : L.State) → Going Told begun start old first out pending number now
        → Finds pending pending' line old new true → number < 2 ^ 32 → LineGoesOn L Now now line next out out' → Feeds L Now begun next start new first out' Done
    ends_last old new out out' pending pending' line number now next w f lt goes = record {
      reads = (f.reads.faults ∙ w.faults, f.reads.ends ∙ ap counted w.ends);
      writes = (adds_stays goes.answer first out out' goes.adds w.stays).faults;
      reached = let all = more_answered old out out' pending line number now next w f.short lt goes in (all.taken, all.answers, all.run);
      fed = known start.left (λ bytes. FedAnswers L Now begun next bytes start new first out' Done) (λ bytes is.
          let on = read_last bytes pending pending' old new w.lines line (of_bytes start.left bytes pending old.left w.lines is w.taken) f.reads.ahead f.no_lf f.takes.0 f.takes.1 f.takes.2 in
          record {
            read = bytes;
            text = w.text ++ told_text L goes.answer;
            consumed = on.consumed;
            appended = more_appended old out out' pending line number now next w goes;
            ends = (refl, subst (λ (ls : List (List ℕ)). Answered L Now begun ls (w.text ++ told_text L goes.answer) next) (sym on.are) (more_answered old out out' pending line number now next w f.short lt goes));
          });
    }
