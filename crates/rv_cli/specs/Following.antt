-- A follower as one that takes lines.
use Rattle.std.specs.Prelude.{◌≡◌, Option, Some, None, Ok, Err}
use Rattle.rv_answering.specs.declared.answer.Answer.{Answer}
use Rattle.rv_standby.specs.declared.take_fault.TakeFault.TheVariants as faults
use Rattle.rv_following.specs.declared.follow_line.FollowLine.{FollowLine}
use Rattle.rv_following.specs.FollowLines.{follow_line_of}
use Rattle.rv_following.specs.FollowSteps.{Following, Follows}
use Rattle.rv_cli.specs.LineRuns.{Lines}
use Rattle.rv_cli.specs.LineTaking.{Taker}
use Rattle.rv_cli.specs.Texts.{text_of}

-- a line that is not of the form, or may not come next
abbrev pub IsRefusedAt : Following → Option FollowLine → Type 0
IsRefusedAt state None = Unit {0}
IsRefusedAt state (Some line) = Follows state line (Err faults.Refused) state

-- Lines as a follower takes them: pulls are answered, and there is no stop.
abbrev pub follow_lines : Lines
follow_lines = record {
  State = Following;
  Line = FollowLine;
  Answer = Answer;
  read = follow_line_of;
  Takes = λ Told old line answer new. Follows old line (Ok answer) new;
  text = text_of;
  IsStop = λ line. ⊥;
  Refuses = IsRefusedAt;
  refuses_none = λ state. tt;
}

-- it keeps nothing that could fail
abbrev pub follower_taker : Taker Following
follower_taker = record {
  lines = follow_lines;
  state = λ follower. follower;
  tells = λ follower. Unit {0};
  faults = λ follower. 0;
  fails_no_more = λ follower. Unit {0};
  Stands = λ state follower. follower ≡ state;
}
