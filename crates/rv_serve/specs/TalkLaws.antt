-- Turns that are those of what a state shows, and by which a state goes on to the next: then so is what is served.
use Rattle.std.proofs.Common.{◌≡◌, ◌==◌, ◌||◌, ◌∙◌, ℕ, ◌+◌, Bool, not, List, [], ◌∷◌, Result, Ok, Err, ap, sym, subst}
use Rattle.rv_base.specs.Outside.{InputState, OutputState}
use Rattle.rv_base.specs.declared.outside.Source.{Ghosts as SourceGhosts}
use Rattle.rv_base.specs.declared.outside.Sink.{Ghosts as SinkGhosts}
use Rattle.rv_http.specs.declared.request.Request.{Request}
use Rattle.rv_http.specs.declared.http_end.HttpEnd.{HttpEnd}
use Rattle.rv_accounts.specs.File.{AccountsServed as Accounts}
use Rattle.rv_answering.specs.Requests.{Parsed}
use Rattle.rv_answering.specs.StepLaws.{acting_shown, shown_takes}
use Rattle.rv_serve.specs.declared.gate.Gate.{Ghosts as GateGhosts}
use Rattle.rv_serve.specs.declared.conn_end.ConnEnd.{ConnEnd}
use Rattle.rv_serve.specs.Replies.{AnswersAsked, Responds, asked_of}
use Rattle.rv_serve.specs.Talk.{AnswersEach, AnswersLast, Exchange, Talks}
use Rattle.rv_serve.specs.Listening.{ServedConn, ServesAll, ServesConn, ServesEach, ServesPast}
use Rattle.rv_net.specs.declared.listen.Listen.{Ghosts as ListenGhosts}
use Rattle.rv_turns.specs.Asks.{Ask}
use Rattle.rv_turns.specs.declared.pushing.Outcome.{Outcome}
use Rattle.rv_http.specs.declared.rejection.Rejection.{Rejection}
use Rattle.rv_serve.specs.declared.http_answer.HttpAnswer.{HttpAnswer}
use Rattle.rv_serve.specs.declared.http_answer.HttpAnswer.TheVariants.{Answered, Rejected}

module _ {S V : Type 0} (shown : S → V) (Goes : S → S → Type 0) (goes_same : (s : S) → Goes s s) (goes_on : (s t u : S) → Goes s t → Goes t u → Goes s u)
    (takes : V → Ask → Outcome → V → Type 0) (counted : S → ℕ) (settled : V → ℕ) (counts : (s t : S) → Goes s t → (counted s == counted t) ≡ (settled (shown s) == settled (shown t))) (accounts : Accounts) where
  abbrev taking : S → Ask → Outcome → S → Type 0
  taking = shown_takes shown Goes goes_same goes_on takes

  asked_shown : (old new : S) (asked : Result Parsed Rejection) (answer : HttpAnswer) (entered : Bool) → AnswersAsked taking counted old asked answer entered new
      → AnswersAsked takes settled (shown old) asked answer entered (shown new) × Goes old new
  asked_shown old new (Ok asked) (Answered answer) entered (acted, step, is) =
      let (one, on) = acting_shown shown Goes goes_same goes_on takes old new asked answer acted step in
      ((acted, one, is ∙ ap (λ (b : Bool). acted || not b) (counts old new on)), on)
  asked_shown old new (Ok asked) (Rejected rejection) entered never = absurd never
  asked_shown old new (Err rejection) answer entered (is, none, same) = ((is, none, ap shown same), subst (λ (s : S). Goes old s) (sym same) (goes_same old))

  replies_shown : (old new : S) (request : Request) (answer : HttpAnswer) (entered : Bool) → Responds taking counted accounts old request answer entered new
      → Responds takes settled accounts (shown old) request answer entered (shown new) × Goes old new
  replies_shown old new request answer entered replies = asked_shown old new (asked_of accounts request) answer entered replies

  each_shown : (number : ℕ) (old new : S) (bytes rest : List ℕ) (xs : List Exchange) → AnswersEach taking counted accounts number old bytes xs new rest
      → AnswersEach takes settled accounts number (shown old) bytes xs (shown new) rest × Goes old new
  each_shown number old new bytes rest [] (same, left) = ((ap shown same, left), subst (λ (s : S). Goes old s) (sym same) (goes_same old))
  each_shown number old new bytes rest (x ∷ xs) (after, mid, gives, replies, stays, others) =
      let (one, on) = replies_shown old mid x.request x.answer x.entered replies in
      let (more, further) = each_shown (number + 1) mid new after rest xs others in
      ((after, shown mid, gives, one, stays, more), goes_on old mid new on further)

  last_shown : (old new : S) (last : Result Exchange HttpEnd) → AnswersLast taking counted accounts old last new
      → AnswersLast takes settled accounts (shown old) last (shown new) × Goes old new
  last_shown old new (Ok x) replies = replies_shown old new x.request x.answer x.entered replies
  last_shown old new (Err cause) same = (ap shown same, subst (λ (s : S). Goes old s) (sym same) (goes_same old))

  pub talks_shown : (old new : S) (input input' : InputState) (output output' : OutputState) (end : ConnEnd) → Talks taking counted accounts old new input input' output output' end
      → Talks takes settled accounts (shown old) (shown new) input input' output output' end × Goes old new
  talks_shown old new input input' output output' end talk =
      let (each, on) = each_shown 1 old talk.mid talk.read talk.rest talk.exchanges talk.answers in
      let (last, further) = last_shown talk.mid new talk.last talk.answers_last in (
        record {
          read = talk.read;
          exchanges = talk.exchanges;
          mid = shown talk.mid;
          rest = talk.rest;
          last = talk.last;
          after = talk.after;
          text = talk.text;
          consumed = talk.consumed;
          answers = each;
          gives = talk.gives;
          stops = talk.stops;
          counts = talk.counts;
          answers_last = last;
          ends = talk.ends;
          appended = talk.appended;
        },
        goes_on old talk.mid new on further,
      )

  module _ {I O : Type 0} (source : SourceGhosts I) (sink : SinkGhosts O) where
    conn_shown : (old new : S) (conn : ServedConn I O) → ServesConn taking counted source sink accounts old conn new
        → ServesConn takes settled source sink accounts (shown old) conn (shown new) × Goes old new
    unfolding talks_shown
    conn_shown old new conn serves =
        let (talks, on) = talks_shown old new (source.state conn.given.source) (source.state conn.back.source) (sink.state conn.given.sink) (sink.state conn.back.sink) conn.end serves.talks in
        (record { talks = talks; answers = serves.answers; cause = serves.cause; steady_input = serves.steady_input; steady_output = serves.steady_output }, on)

    conns_shown : (old new : S) (conns : List (ServedConn I O)) → ServesEach taking counted source sink accounts old conns new
        → ServesEach takes settled source sink accounts (shown old) conns (shown new) × Goes old new
    conns_shown old new [] same = (ap shown same, subst (λ (s : S). Goes old s) (sym same) (goes_same old))
    conns_shown old new (conn ∷ conns) (mid, serves, others) =
        let (one, on) = conn_shown old mid conn serves in
        let (more, further) = conns_shown mid new conns others in
        ((shown mid, one, more), goes_on old mid new on further)

    module _ {L : Type 0} (listen : ListenGhosts L I O) where
      pub all_shown : (old : S) (given : L) (new : S) (back : L) → ServesAll taking counted listen source sink accounts old given new back
          → ServesAll takes settled listen source sink accounts (shown old) given (shown new) back × Goes old new
      all_shown old given new back all =
          let (serves, on) = conns_shown old new all.conns all.serves in
          (record { conns = all.conns; serves = serves; are_back = all.are_back }, on)

      pub past_shown : {W : Type 0} (gate : GateGhosts W) (old : S) (given : L) (before : W) (new : S) (back : L) (after : W) → ServesPast taking counted listen source sink accounts gate old given before new back after
          → ServesPast takes settled listen source sink accounts gate (shown old) given before (shown new) back after × Goes old new
      unfolding all_shown
      past_shown gate old given before new back after past =
          let (all, on) = all_shown old given new back past.all in
          (record { all = all; hears = past.hears }, on)
