-- What is written over the bytes of a connection, and how that ends.
use Rattle.std.specs.Prelude.{◌≡◌, ◌⊎◌, ℕ, ◌+◌, ◌==◌, Bool, true, false, ◌||◌, List, [], ◌∷◌, ◌++◌, length, Option, Result, Ok, Err}
use Rattle.std.specs.Io.KnownBytes.{Consumes, Appends}
use Rattle.rv_base.specs.Causes.{Rose}
use Rattle.rv_base.specs.Outside.{InputState, OutputState}
use Rattle.rv_base.specs.Writes.{IsFront}
use Rattle.rv_http.specs.declared.request.Request.{Request}
use Rattle.rv_http.specs.declared.http_end.HttpEnd.{HttpEnd}
use Rattle.rv_http.specs.Requests.{Gives, EndsSo}
use Rattle.rv_http.specs.Causes.{CountsReads, saw_end, read_failed}
use Rattle.rv_accounts.specs.File.{AccountsServed as Accounts}
use Rattle.rv_serve.specs.declared.heard.Heard.{Heard}
use Rattle.rv_serve.specs.declared.heard.Heard.TheVariants.{Before, After}
use Rattle.rv_serve.specs.Hearing.{Hears}
use Rattle.rv_serve.specs.declared.conn_end.ConnEnd.{ConnEnd}
use Rattle.rv_serve.specs.declared.conn_end.ConnEnd.TheVariants.{Done, ReadFault, WriteFault, Memory}
use Rattle.rv_serve.specs.Replies.{Responds}
use Rattle.rv_serve.specs.Texts.{answer_text, http_status, rejection_text, memory_text}
use Rattle.rv_serve.specs.declared.http_answer.HttpAnswer.{HttpAnswer}
use Rattle.rv_turns.specs.Asks.{Ask}
use Rattle.rv_turns.specs.declared.pushing.Outcome.{Outcome}
use Rattle.rv_http.specs.declared.rejection.Rejection.TheVariants as rejections
use Rattle.rv_http.specs.declared.http_end.HttpEnd.TheVariants as reading

-- a request and its answer, and whether its turns entered what others may have to be told of
pub record Exchange : Type 0 where
  pub request : Request
  pub answer : HttpAnswer
  pub entered : Bool

-- The answer to a connection's so many-th request closes where the request asks so, and at the 100th (RFC 9112, sections 9.3
-- and 9.6).
abbrev pub closes_at : ℕ → Request → Bool
closes_at number request = request.closes || number == 100

-- the response to a connection's so many-th request
abbrev pub exchange_text : ℕ → Exchange → List ℕ
exchange_text number x = answer_text x.answer (closes_at number x.request) x.request.head_only

-- the responses in the order of the requests, from the one with this number on (RFC 9112, section 9.3.2)
abbrev pub text_from : ℕ → List Exchange → List ℕ
text_from number [] = []
text_from number (x ∷ xs) = exchange_text number x ++ text_from (number + 1) xs

-- What a gate hears of a connection's so many-th request: that it was read, and then with which status it was answered, and whether
-- its turns entered what others may have to be told of.
abbrev pub heard_of : ℕ → Exchange → List Heard
heard_of number x = Before number ∷ After (http_status x.answer) x.entered ∷ []

-- the same of requests in order, from the one with this number on
abbrev pub heard_from : ℕ → List Exchange → List Heard
heard_from number [] = []
heard_from number (x ∷ xs) = heard_of number x ++ heard_from (number + 1) xs

-- what was read last: a request, or none for this cause
abbrev pub read_of : Result Exchange HttpEnd → Result Request HttpEnd
read_of (Ok x) = Ok x.request
read_of (Err cause) = Err cause

-- the request that was answered last, where one was
abbrev pub last_of : Result Exchange HttpEnd → List Exchange
last_of (Ok x) = x ∷ []
last_of (Err cause) = []

-- memory was refused for the connection's own buffer, before anything was read
pub record HasNoBuffer (count : ℕ) (bytes : List ℕ) (last : Result Exchange HttpEnd) : Type 0 where
  pub first : count ≡ 0
  pub unread : bytes ≡ []
  pub memory : last ≡ Err (reading.Memory false)

-- A text that ends a connection: it was written whole, and with it so many answers; or its write failed, and it was cut.
abbrev pub EndsWithText : ℕ → List ℕ → List ℕ → ConnEnd → Type 0
EndsWithText count whole text (Done n) = (text ≡ whole) × (n ≡ count)
EndsWithText count whole text WriteFault = IsFront text whole
EndsWithText count whole text ReadFault = ⊥
EndsWithText count whole text Memory = ⊥

-- the same of the response for want of memory, which was tried, with the count of the sink's faults before and after
abbrev pub TriesLast : List ℕ → List ℕ → ℕ → ℕ → ConnEnd → Type 0
TriesLast whole text before now end = (end ≡ Memory) × (((text ≡ whole) × (now ≡ before)) ⊎ (IsFront text whole × Rose before now))

-- After so many answers no request was read, for this cause. Where the connection ends itself, inside a request too, or a read
-- fails, nothing is written (RFC 9112, section 8); else the refusal is written, and the connection closes.
abbrev pub EndsUnread : ℕ → HttpEnd → List ℕ → ℕ → ℕ → ConnEnd → Type 0
EndsUnread count reading.End text before now end = (text ≡ []) × (end ≡ Done count)
EndsUnread count reading.Cut text before now end = (text ≡ []) × (end ≡ Done count)
EndsUnread count reading.ReadFault text before now end = (text ≡ []) × (end ≡ ReadFault)
EndsUnread count (reading.BadHead flag) text before now end = EndsWithText (count + 1) (rejection_text rejections.BadHead flag) text end
EndsUnread count (reading.HeadTooLarge flag) text before now end = EndsWithText (count + 1) (rejection_text rejections.HeadTooLarge flag) text end
EndsUnread count reading.LengthRequired text before now end = EndsWithText (count + 1) (rejection_text rejections.LengthRequired false) text end
EndsUnread count (reading.BodyTooLarge flag) text before now end = EndsWithText (count + 1) (rejection_text rejections.BodyTooLarge flag) text end
EndsUnread count (reading.CodingNotServed flag) text before now end = EndsWithText (count + 1) (rejection_text rejections.CodingNotServed flag) text end
EndsUnread count (reading.Memory flag) text before now end = TriesLast (memory_text flag) text before now end

-- After so many answers that do not close, this text is written last. A request's answer ends a connection where it closes, or
-- where its write fails.
abbrev pub EndsTalk : ℕ → Result Exchange HttpEnd → List ℕ → ℕ → ℕ → ConnEnd → Type 0
EndsTalk count (Ok x) text before now (Done n) = (text ≡ exchange_text (count + 1) x) × (closes_at (count + 1) x.request ≡ true) × (n ≡ count + 1)
EndsTalk count (Ok x) text before now WriteFault = IsFront text (exchange_text (count + 1) x)
EndsTalk count (Ok x) text before now ReadFault = ⊥
EndsTalk count (Ok x) text before now Memory = ⊥
EndsTalk count (Err cause) text before now end = EndsUnread count cause text before now end

module _ {S : Type 0} (takes : S → Ask → Outcome → S → Type 0) (settled : S → ℕ) (accounts : Accounts) where
  -- The bytes give these requests one after another, from the one with this number on. Each is answered at the state that the
  -- one before it left, no answer closes, and this is left of the bytes.
  abbrev pub AnswersEach : ℕ → S → List ℕ → List Exchange → S → List ℕ → Type 0
  AnswersEach number old bytes [] new rest = (new ≡ old) × (rest ≡ bytes)
  AnswersEach number old bytes (x ∷ xs) new rest =
      (after : List ℕ) × (mid : S) × Gives bytes after (Ok x.request) × Responds takes settled accounts old x.request x.answer x.entered mid
      × (closes_at number x.request ≡ false) × AnswersEach (number + 1) mid after xs new rest

  -- the request that was read last is answered; where none was read, nothing changes
  abbrev pub AnswersLast : S → Result Exchange HttpEnd → S → Type 0
  AnswersLast old (Ok x) new = Responds takes settled accounts old x.request x.answer x.entered new
  AnswersLast old (Err cause) new = new ≡ old

  -- A connection was served: these bytes were read, these requests were answered in turn, then this was read last, and this text
  -- was written after their responses. The source's counts tell whether the last read failed or told the end.
  pub record Talks (old new : S) (input input' : InputState) (output output' : OutputState) (end : ConnEnd) : Type 0 where
    pub read : List ℕ
    pub exchanges : List Exchange
    pub mid : S
    pub rest : List ℕ
    pub last : Result Exchange HttpEnd
    pub after : List ℕ
    pub text : List ℕ
    pub consumed : Consumes input.left input'.left read
    pub answers : AnswersEach 1 old read exchanges mid rest
    pub gives : HasNoBuffer (length exchanges) rest last ⊎ Gives rest after (read_of last)
    pub stops : EndsSo input'.left (read_of last)
    pub counts : CountsReads input input' (saw_end (read_of last)) (read_failed (read_of last))
    pub answers_last : AnswersLast mid last new
    pub ends : EndsTalk (length exchanges) last text output.faults output'.faults end
    pub appended : Appends output.written output'.written (text_from 1 exchanges ++ text)

  -- all that was answered on the connection; of the last answer a front may have been written, but its turns stand
  abbrev pub answered : {old new : S} {input input' : InputState} {output output' : OutputState} {end : ConnEnd} → Talks old new input input' output output' end → List Exchange
  answered talk = talk.exchanges ++ last_of talk.last

  -- A connection was served past a gate, which heard of all that was answered on it and of nothing else.
  pub record TalksPast (old new : S) (input input' : InputState) (output output' : OutputState) (heard heard' : Option (List Heard)) (end : ConnEnd) : Type 0 where
    pub talks : Talks old new input input' output output' end
    pub hears : Hears heard heard' (heard_from 1 (answered talks))
