-- From the clause of `run` to the run that there was.
use Rattle.std.proofs.Common.{◌≡◌, ℕ, ◌+◌, ◌==◌, ◌⊎◌, inl, inr, true, false, cond, List, [], ◌∷◌, ◌++◌, length, Option, Some, None, IfSome, refl, sym, ap, subst, ◌∙◌, append_assoc, append-nil}
use Rattle.std.specs.List.{flat_map}
use Rattle.std.specs.Io.KnownBytes.{Appends, Consumes}
use Rattle.rv_base.specs.Outside.{InputState, OutputState}
use Rattle.rv_lines.specs.Lines.{onto, onto_ended, lines_of, ended_lines_of}
use Rattle.rv_keeper.specs.declared.place.Place.{Ghosts as PlaceGhosts}
use Rattle.rv_base.specs.declared.outside.Source.{Ghosts as SourceGhosts}
use Rattle.rv_base.specs.declared.outside.Sink.{Ghosts as SinkGhosts}
use Rattle.rv_history.specs.Served.{Served}
use Rattle.rv_answering.specs.declared.answer.Answer.{Answer}
use Rattle.rv_answering.specs.declared.line.Line.{Line}
use Rattle.rv_cli.specs.declared.ending.Ending.{Ending}
use Rattle.rv_cli.specs.declared.ending.Ending.TheVariants.{Done, Keeper, Damaged, Read, Write, Memory, Malformed}
use Rattle.rv_cli.specs.Change.{change}
use Rattle.rv_cli.specs.Headline.{Answered, Ends, EndsOne, Fed, IsCutOff, Replied, Run, TakesLine, served_lines, told_text}
use Rattle.rv_cli.specs.LineRunLaws.{answered_more}
use Rattle.rv_cli.specs.Texts.{text_of}
use Rattle.rv_laws.specs.Feeds.{AreFirst, DidNotOpen, FeedRun, FeedsAreRuns, IsFrontOrAll, RepliesAreRuns}

-- ---- Lines that end at LF are the first of all lines.

onto_first : (byte : ℕ) (lines ended : List (List ℕ)) → (others : List (List ℕ)) × (lines ≡ ended ++ others) → (others : List (List ℕ)) × (onto byte lines ≡ onto_ended byte ended ++ others)
onto_first byte lines [] h = (onto byte lines, refl)
onto_first byte lines (line ∷ ended) (others, is) = (others, ap (onto byte) is)

ended_first : (read more : List ℕ) → (others : List (List ℕ)) × (lines_of (read ++ more) ≡ ended_lines_of read ++ others)
ended_first [] more = (lines_of more, refl)
ended_first (byte ∷ bytes) more =
    let rest = ended_first bytes more in
    elim (byte == 10) as (λ b. (others : List (List ℕ)) × (cond b ([] ∷ lines_of (bytes ++ more)) (onto byte (lines_of (bytes ++ more))) ≡ cond b ([] ∷ ended_lines_of bytes) (onto_ended byte (ended_lines_of bytes)) ++ others)) [
      | true ↦ (rest.0, ap (λ (lines : List (List ℕ)). [] ∷ lines) rest.1)
      | false ↦ onto_first byte (lines_of (bytes ++ more)) (ended_lines_of bytes) rest
    ]

-- what was read of known bytes is their front
read_front : (bytes : List ℕ) (left : Option (List ℕ)) (read : List ℕ) → Consumes (Some bytes) left read → (more : List ℕ) × (bytes ≡ read ++ more)
read_front bytes None read never = absurd never
read_front bytes (Some more) read is = (more, is)

-- ---- However the run ended, it was over the first lines of the bytes.

record IsRun (Told : Type 0) (first now : Served) (bytes text : List ℕ) : Type 0 where
  pub lines : List Line
  pub answers : List (Option Answer)
  pub run : Run Told first lines answers now
  pub asked : AreFirst lines bytes
  pub told : IsFrontOrAll text (flat_map told_text answers)

module _ (Told : Type 0) (first now : Served) (bytes read text : List ℕ) where
  of_answered : (lines others : List (List ℕ)) → lines_of bytes ≡ lines ++ others → Answered Told first lines text now → IsRun Told first now bytes text
  of_answered lines others are w = record { lines = w.taken; answers = w.answers; run = w.run; asked = (lines, others, are, w.are); told = inl w.told }

  -- of the last line a front of the answer was written
  of_cut : IsCutOff Told first bytes read text now → IsRun Told first now bytes text
  of_cut c =
      let lines : List (List ℕ) = c.lines ++ c.line ∷ [] in
      let w : Answered Told first lines (c.before ++ text_of c.answer) now = answered_more served_lines Told first c.lines c.line c.before c.mid now (length c.lines + 1) c.taken (Some c.answer) refl c.answered c.asks c.step in
      let (rest, is, some) = c.front in
      let whole : flat_map told_text w.answers ≡ text ++ rest =
      sym w.told ∙ ap (λ (t : List ℕ). c.before ++ t) is ∙ sym (append_assoc c.before c.part rest) ∙ ap (λ (t : List ℕ). t ++ rest) (sym c.told) in
      record { lines = w.taken; answers = w.answers; run = w.run; asked = (lines, c.others, c.are ∙ sym (append_assoc c.lines (c.line ∷ []) c.others), w.are); told = inr (rest, whole, some) }

  run_of : (input input' : InputState) (ending : Ending) → Consumes (Some bytes) input'.left read → Ends Told first bytes input input' read text now ending → IsRun Told first now bytes text
  run_of input input' Done consumed (same, w) = of_answered (lines_of bytes) [] (sym (append-nil (lines_of bytes))) w
  run_of input input' Read consumed (w, needed) =
      let (more, is) = read_front bytes input'.left read consumed in
      let (others, are) = ended_first read more in
      of_answered (ended_lines_of read) others (ap lines_of is ∙ are) w
  run_of input input' Write consumed cut = of_cut cut
  run_of input input' Memory consumed stops = of_answered stops.lines stops.others stops.are stops.answered
  run_of input input' (Malformed number) consumed stops = of_answered stops.lines (stops.line ∷ stops.others) stops.are stops.answered
  run_of input input' Keeper consumed closed = of_answered closed.lines (closed.line ∷ closed.others) closed.are closed.answered
  run_of input input' (Damaged damage) consumed closed = of_answered closed.lines (closed.line ∷ closed.others) closed.are closed.answered

-- ---- One line that is answered is a run over it.

abbrev IsAnsweredOnce : Type 0 → Served → Line → List ℕ → Served → Type 0
IsAnsweredOnce Told first line text now = (answer : Answer) × TakesLine Told first line (Some answer) now × IsFrontOrAll text (flat_map told_text (Some answer ∷ []))

once_of : (Told : Type 0) (first : Served) (line : Line) (text : List ℕ) (now : Served) (ending : Ending) → EndsOne Told first line text now ending → IsAnsweredOnce Told first line text now
once_of Told first line text now Done (answer, takes, told) = (answer, takes, inl (told ∙ sym (append-nil (text_of answer))))
once_of Told first line text now Write (answer, takes, (rest, is, some)) = (answer, takes, inr (rest, append-nil (text_of answer) ∙ is, some))
once_of Told first line text now Keeper never = absurd never
once_of Told first line text now (Damaged damage) never = absurd never
once_of Told first line text now Read never = absurd never
once_of Told first line text now Memory never = absurd never
once_of Told first line text now (Malformed number) never = absurd never

-- ---- The run.

of_some : {X : Type 0} (o : Option X) (Q : X → Type 0) → ((x : X) → Q x) → IfSome o Q
of_some None Q all = tt
of_some (Some x) Q all = all x

some_to : {X : Type 0} (o : Option X) (P Q : X → Type 0) → ((x : X) → P x → Q x) → IfSome o P → IfSome o Q
some_to None P Q goes some = tt
some_to (Some x) P Q goes some = goes x some

module _ {P K : Type 0} (place : PlaceGhosts P K) where
  pub feeds_are_runs : {S O : Type 0} (input : SourceGhosts S) (output : SinkGhosts O) → FeedsAreRuns place input output
  feeds_are_runs input output old new store read read' out out' status (ending, is, inl refused) told =
      of_some (input.state read).left (λ bytes. DidNotOpen place old new store (input.state read) (input.state read') (output.state out) (output.state out') status ⊎ FeedRun place old new store bytes (output.state out) (output.state out'))
      (λ bytes. inl (ending, is, refused.0, refused.1))
  feeds_are_runs input output old new store read read' out out' status (ending, is, inr fed) told =
      some_to (input.state read).left (λ bytes. Fed (place.tells new) fed.first fed.now bytes (input.state read) (input.state read') (output.state out) (output.state out') ending)
      (λ bytes. DidNotOpen place old new store (input.state read) (input.state read') (output.state out) (output.state out') status ⊎ FeedRun place old new store bytes (output.state out) (output.state out')) (λ bytes f. inr (of_fed bytes f)) fed.fed
    where
      of_fed : (bytes : List ℕ) → Fed (place.tells new) fed.first fed.now bytes (input.state read) (input.state read') (output.state out) (output.state out') ending → FeedRun place old new store bytes (output.state out) (output.state out')
      of_fed bytes f =
          let run = run_of (place.tells new) fed.first fed.now bytes f.read f.text (input.state read) (input.state read') ending f.consumed f.ends in
          record {
            told = told;
            first = fed.first;
            now = fed.now;
            lines = run.lines;
            answers = run.answers;
            begins = fed.begins;
            run = run.run;
            leaves = fed.leaves;
            asked = run.asked;
            written = (f.text, f.own, f.appended, run.told);
          }

  of_reply : (old new : P) (store bytes : List ℕ) (line : Line) (output output' : OutputState) (ending : Ending) → place.tells new → AreFirst (line ∷ []) bytes
      → Replied (change place store old new) line output output' ending → FeedRun place old new store bytes output output'
  of_reply old new store bytes line output output' ending told asked r =
      let (answer, takes, part) = once_of (place.tells new) r.first line r.text r.now ending r.ends in
      record {
        told = told;
        first = r.first;
        now = r.now;
        lines = line ∷ [];
        answers = Some answer ∷ [];
        begins = r.begins;
        run = (r.now, takes, refl);
        leaves = r.leaves;
        asked = asked;
        written = (r.text, [], subst (λ (t : List ℕ). Appends output.written output'.written t) (sym (append-nil r.text)) r.appended, part);
      }

  pub replies_are_runs : {O : Type 0} (output : SinkGhosts O) → RepliesAreRuns place output
  replies_are_runs output old new store line out out' status (ending, is, inl refused) told bytes asked = inl (ending, is, refused.0, refused.1)
  replies_are_runs output old new store line out out' status (ending, is, inr r) told bytes asked = inr (of_reply old new store bytes line (output.state out) (output.state out') ending told asked r)
