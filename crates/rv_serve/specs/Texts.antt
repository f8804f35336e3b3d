-- The bytes of the responses.
use Rattle.std.specs.Prelude.{ℕ, Bool, true, List}
use Rattle.rv_http.specs.Rejections.{rejection_body, rejection_status}
use Rattle.rv_http.specs.Responses.{reply_text}
use Rattle.rv_http.specs.declared.rejection.Rejection.{Rejection}
use Rattle.rv_answering.specs.declared.answer.Answer.TheVariants.{Refused}
use Rattle.rv_answering.specs.Steps.{no_memory}
use Rattle.rv_answering.specs.Texts.{answer_status, answer_body}
use Rattle.rv_serve.specs.declared.http_answer.HttpAnswer.{HttpAnswer}
use Rattle.rv_serve.specs.declared.http_answer.HttpAnswer.TheVariants.{Answered, Rejected}

abbrev pub http_status : HttpAnswer → ℕ
http_status (Answered answer) = answer_status answer
http_status (Rejected rejection) = rejection_status rejection

abbrev pub http_body : HttpAnswer → List ℕ
http_body (Answered answer) = answer_body answer
http_body (Rejected rejection) = rejection_body rejection

-- the response that has an answer
abbrev pub answer_text : HttpAnswer → Bool → Bool → List ℕ
answer_text answer closes head_only = reply_text (http_status answer) (http_body answer) closes head_only

-- the response to what is no request that is taken; it closes (RFC 9112, section 9.6)
abbrev pub rejection_text : Rejection → Bool → List ℕ
rejection_text rejection head_only = answer_text (Rejected rejection) true head_only

-- the response where memory is refused to the connection
abbrev pub memory_text : Bool → List ℕ
memory_text head_only = answer_text (Answered (Refused no_memory)) true head_only
