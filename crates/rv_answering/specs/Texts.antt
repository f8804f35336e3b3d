-- The status and the JSON text of each answer.
use Rattle.std.specs.Prelude.{ℕ, List, codes}
use Rattle.serde_json.specs.Written.{compact_text}
use Rattle.rv_wire.specs.Answers.{closed_data, retired_data}
use Rattle.rv_wire.specs.Errors.{error_data, error_status}
use Rattle.rv_answering.specs.declared.answer.Answer.{Answer}
use Rattle.rv_answering.specs.declared.answer.Answer.TheVariants.{Pushed, Pulled, Retired, Closed, Refused}

abbrev pub answer_status : Answer → ℕ
answer_status Pushed = 200
answer_status (Pulled reply) = 200
answer_status (Retired place) = 200
answer_status (Closed place) = 200
answer_status (Refused refusal) = error_status refusal

abbrev pub answer_body : Answer → List ℕ
answer_body Pushed = codes "{}"
answer_body (Pulled reply) = reply.text
answer_body (Retired place) = compact_text (retired_data place)
answer_body (Closed place) = compact_text (closed_data place)
answer_body (Refused refusal) = compact_text (error_data refusal)
