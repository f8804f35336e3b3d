-- A line that a follower took, or with which the lines end.
use Rattle.std.proofs.Common.{◌≡◌, ℕ, List, Option, Some, None, Result, Ok, Err, refl, sym, subst, inl, inr, arith}
use Rattle.rv_base.specs.Outside.{OutputState, Writes}
use Rattle.rv_answering.specs.declared.answer.Answer.{Answer}
use Rattle.rv_standby.specs.declared.take_fault.TakeFault.{TakeFault}
use Rattle.rv_standby.specs.declared.take_fault.TakeFault.TheVariants as faults
use Rattle.rv_following.specs.declared.follow_line.FollowLine.{FollowLine}
use Rattle.rv_following.specs.declared.follow_line.FollowLine.TheVariants as lines
use Rattle.rv_following.specs.FollowLines.{follow_line_of}
use Rattle.rv_following.specs.FollowReads.{AreFollowLines, IsFollowLine}
use Rattle.rv_following.specs.FollowSteps.{Following, Follows}
use Rattle.rv_cli.specs.declared.ending.Ending.TheVariants.{Malformed, Memory, Write}
use Rattle.rv_cli.specs.Following.{IsRefusedAt, follow_lines, follower_taker}
use Rattle.rv_cli.specs.LineTaking.{Adds, EndedLine, TookLine}
use Rattle.rv_cli.specs.Texts.{text_of}

-- what the line is of which this was read
asked_of : (o : Option FollowLine) (read : FollowLine) → AreFollowLines o (Some read) → (asked : FollowLine) × (o ≡ Some asked) × IsFollowLine asked read
asked_of (Some asked) read are = (asked, refl, are)
asked_of None read never = absurd never

none_of : (o : Option FollowLine) → AreFollowLines o None → o ≡ None
none_of None none = refl
none_of (Some asked) never = absurd never

-- what is refused, and what memory was refused for, leaves all as it was
stays : (old new : Following) (line : FollowLine) (fault : TakeFault) → Follows old line (Err fault) new → new ≡ old
stays old new (lines.Cell cell) faults.Refused (inl (on, (why, same))) = same
stays old new (lines.Cell cell) faults.Refused (inr (off, (why, same))) = same
stays old new (lines.Cell cell) faults.Memory (inl (on, same)) = same
stays old new (lines.Cell cell) faults.Memory (inr (off, same)) = same
stays old new lines.Page faults.Refused (why, same) = same
stays old new lines.Page faults.Memory same = same
stays old new (lines.Pull user pull) faults.Refused (why, same) = same
stays old new (lines.Pull user pull) faults.Memory never = absurd never

module _ (old new : Following) (line : List ℕ) (read : FollowLine) (are : AreFollowLines (follow_line_of line) (Some read)) where
  abbrev pub Steps : Result (Option Answer) TakeFault → Type 0
  Steps result = (asked : FollowLine) → IsFollowLine asked read → Follows old asked result new

  pub took : (answer : Option Answer) (before now : OutputState) → Steps (Ok answer) → Adds follow_lines answer before now → TookLine follower_taker old line new before now
  took answer before now steps adds =
      let (asked, is, reads) = asked_of (follow_line_of line) read are in
      record { goes = record { answer = answer; step = record { taken = asked; asks = is; step = steps asked reads }; adds = adds }; told = λ t. t; later = omega arith }

  pub took_answer : {T E : Type 0} (answer : Answer) (before now : OutputState) (x : T) → Steps (Ok (Some answer)) → Writes {E = E} before now (Ok x) (text_of answer) → TookLine follower_taker old line new before now
  took_answer answer before now x steps w = took (Some answer) before now steps (w.bytes, record { faults = w.cause.still; refusals = w.memory.still })

  pub cut_answer : {T E : Type 0} (number : ℕ) (answer : Answer) (before now : OutputState) (fault : E) → Steps (Ok (Some answer)) → Writes {T = T} before now (Err fault) (text_of answer) → EndedLine follower_taker old line number Write new before now
  cut_answer number answer before now fault steps w =
      let (asked, is, reads) = asked_of (follow_line_of line) read are in
      record { new = new; ends = record { answer = answer; step = record { taken = asked; asks = is; step = steps asked reads }; front = w.bytes; rose = w.cause.failed }; stands = refl; told = λ t. t; rose = tt }

  pub refused : (number : ℕ) (out : OutputState) → Steps (Err faults.Refused) → EndedLine follower_taker old line number (Malformed number) new out out
  refused number out steps =
      let (asked, is, reads) = asked_of (follow_line_of line) read are in
      let same = stays old new asked faults.Refused (steps asked reads) in
      let at_old : IsRefusedAt old (Some asked) = subst (λ (s : Following). Follows old asked (Err faults.Refused) s) same (steps asked reads) in
      record { new = old; ends = (refl, subst (IsRefusedAt old) (sym is) at_old, refl, refl); stands = same; told = λ t. t; rose = tt }

  pub no_memory : (number : ℕ) (out : OutputState) → Steps (Err faults.Memory) → EndedLine follower_taker old line number Memory new out out
  no_memory number out steps =
      let (asked, is, reads) = asked_of (follow_line_of line) read are in
      record { new = old; ends = (refl, refl); stands = stays old new asked faults.Memory (steps asked reads); told = λ t. t; rose = tt }

-- the line is not of the form
pub not_read : (old : Following) (line : List ℕ) (number : ℕ) (out : OutputState) → AreFollowLines (follow_line_of line) None → EndedLine follower_taker old line number (Malformed number) old out out
not_read old line number out none = record { new = old; ends = (refl, subst (IsRefusedAt old) (sym (none_of (follow_line_of line) none)) tt, refl, refl); stands = refl; told = λ t. t; rose = tt }
