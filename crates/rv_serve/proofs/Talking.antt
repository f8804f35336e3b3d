-- Steps of a talk, and its ends.
use Rattle.std.proofs.Common.{◌≡◌, ◌≢◌, ℕ, ◌+◌, ◌<◌, ◌==◌, ◌||◌, Bool, true, false, List, [], ◌∷◌, ◌++◌, length, Option, Ok, Err, refl, sym, ap, ◌∙◌, subst, arith, inl, inr, append_assoc, append-nil, length-append, add-zero}
use Rattle.std.proofs.lemmas.Bool.{eq-eqb}
use Rattle.std.specs.Io.KnownBytes.{Consumes, Appends}
use Rattle.std.proofs.KnownBytes.{Consumes-nil, Consumes-trans, Appends-nil, Appends-trans}
use Rattle.rv_base.specs.Outside.{InputState, OutputState}
use Rattle.rv_http.specs.declared.request.Request.{Request}
use Rattle.rv_http.specs.declared.http_end.HttpEnd.{HttpEnd}
use Rattle.rv_http.specs.declared.response.WriteFault.{WriteFault as WriteFailed}
use Rattle.rv_http.specs.Requests.{Gives, ReadsOne}
use Rattle.rv_http.specs.RequestLaws.{gives_more}
use Rattle.rv_http.specs.Causes.{CountsReads, saw_end, read_failed}
use Rattle.rv_accounts.specs.File.{AccountsServed as Accounts}
use Rattle.rv_serve.specs.declared.heard.Heard.{Heard}
use Rattle.rv_serve.specs.Hearing.{Hears}
use Rattle.rv_serve.specs.HearingLaws.{hears_nothing, hears_on}
use Rattle.rv_serve.specs.declared.conn_end.ConnEnd.{ConnEnd}
use Rattle.rv_serve.specs.declared.conn_end.ConnEnd.TheVariants.{Done, WriteFault}
use Rattle.rv_serve.specs.Replies.{Responds}
use Rattle.rv_serve.specs.Talk.{Exchange, closes_at, exchange_text, text_from, heard_of, heard_from, EndsTalk, EndsUnread, AnswersEach, TalksPast}
use Rattle.rv_serve.specs.Steps.{AnswersOne, EndsConn}
use Rattle.rv_serve.proofs.Counting.{counts_from}
use Rattle.rv_turns.specs.Asks.{Ask}
use Rattle.rv_turns.specs.declared.pushing.Outcome.{Outcome}
use Rattle.rv_http.specs.declared.http_end.HttpEnd.TheVariants as reading

module _ {S : Type 0} (takes : S → Ask → Outcome → S → Type 0) (settled : S → ℕ) (accounts : Accounts) where
  abbrev Each : ℕ → S → List ℕ → List Exchange → S → List ℕ → Type 0
  Each = AnswersEach takes settled accounts

  abbrev ExchangeReplied : S → Request → Exchange → S → Type 0
  ExchangeReplied old request x new = Responds takes settled accounts old request x.answer x.entered new

  answers_more : (n : ℕ) (old : S) (bytes more : List ℕ) (xs : List Exchange) (new : S) (rest : List ℕ) → Each n old bytes xs new rest → Each n old (bytes ++ more) xs new (rest ++ more)
  answers_more n old bytes more [] new rest (same, left) = (same, ap (λ l. l ++ more) left)
  answers_more n old bytes more (x ∷ xs) new rest (after, mid, gives, replies, on, each) =
      (after ++ more, mid, gives_more bytes after x.request more gives, replies, on, answers_more (n + 1) mid after more xs new rest each)

  answers_one : (n m : ℕ) (old : S) (bytes : List ℕ) (xs : List Exchange) (mid : S) (rest after : List ℕ) (x : Exchange) (new : S) → m ≡ n + length xs
      → Each n old bytes xs mid rest → Gives rest after (Ok x.request) → ExchangeReplied mid x.request x new → closes_at m x.request ≡ false → Each n old bytes (xs ++ x ∷ []) new after
  answers_one n m old bytes [] mid rest after x new count (same, left) gives replies goes =
      (after, new, subst (λ (l : List ℕ). Gives l after (Ok x.request)) left gives, subst (λ (s : S). ExchangeReplied s x.request x new) same replies, subst (λ (k : ℕ). closes_at k x.request ≡ false) (count ∙ add-zero n) goes, (refl, refl))
  answers_one n m old bytes (y ∷ ys) mid rest after x new count (first, then, begins, replied, on, each) gives replies goes =
      (first, then, begins, replied, on, answers_one (n + 1) m then first ys mid rest after x new (omega (arith, count)) each gives replies goes)

  text_one : (n m : ℕ) (xs : List Exchange) (x : Exchange) → m ≡ n + length xs → text_from n (xs ++ x ∷ []) ≡ text_from n xs ++ exchange_text m x
  text_one n m [] x count = append-nil (exchange_text n x) ∙ ap (λ (k : ℕ). exchange_text k x) (sym (count ∙ add-zero n))
  text_one n m (y ∷ ys) x count = ap (λ (t : List ℕ). exchange_text n y ++ t) (text_one (n + 1) m ys x (omega (arith, count))) ∙ sym (append_assoc (exchange_text n y) (text_from (n + 1) ys) (exchange_text m x))

  heard_one : (n m : ℕ) (xs : List Exchange) (x : Exchange) → m ≡ n + length xs → heard_from n (xs ++ x ∷ []) ≡ heard_from n xs ++ heard_of m x
  heard_one n m [] x count = append-nil (heard_of n x) ∙ ap (λ (k : ℕ). heard_of k x) (sym (count ∙ add-zero n))
  heard_one n m (y ∷ ys) x count = ap (λ (t : List Heard). heard_of n y ++ t) (heard_one (n + 1) m ys x (omega (arith, count))) ∙ sym (append_assoc (heard_of n y) (heard_from (n + 1) ys) (heard_of m x))

  -- one more request was heard of
  hears_one : (first mid last : Option (List Heard)) (xs : List Exchange) (x : Exchange) (m : ℕ) → m ≡ 1 + length xs → Hears first mid (heard_from 1 xs) → Hears mid last (heard_of m x) → Hears first last (heard_from 1 (xs ++ x ∷ []))
  hears_one first mid last xs x m count before now = subst (λ (l : List Heard). Hears first last l) (sym (heard_one 1 m xs x count)) (hears_on first mid last (heard_from 1 xs) (heard_of m x) before now)

  -- After so many answers that do not close, these bytes are read and not yet given.
  pub record Going (old now : S) (input input' : InputState) (output output' : OutputState) (heard heard' : Option (List Heard)) (bytes : List ℕ) (count : ℕ) : Type 0 where
    pub read : List ℕ
    pub exchanges : List Exchange
    pub consumed : Consumes input.left input'.left read
    pub answers : Each 1 old read exchanges now bytes
    pub counted : count ≡ length exchanges
    pub appended : Appends output.written output'.written (text_from 1 exchanges)
    pub faults : input'.faults ≡ input.faults
    pub ends : input'.ends ≡ input.ends
    pub failed : output'.faults ≡ output.faults
    pub refused : output'.refusals ≡ output.refusals
    pub hears : Hears heard heard' (heard_from 1 exchanges)

  pub going_first : (old : S) (input : InputState) (output : OutputState) (heard : Option (List Heard)) (bytes : List ℕ) → bytes ≡ [] → Going old old input input output output heard heard bytes 0
  going_first old input output heard bytes none = record {
    read = [];
    exchanges = [];
    consumed = Consumes-nil input.left;
    answers = (refl, none);
    counted = refl;
    appended = Appends-nil output.written;
    faults = refl;
    ends = refl;
    failed = refl;
    refused = refl;
    hears = hears_nothing heard;
  }

  module _ (old now : S) (input input' input'' : InputState) (output output' output'' : OutputState) (heard heard' heard'' : Option (List Heard)) (bytes bytes' : List ℕ) (count : ℕ) (going : Going old now input input' output output' heard heard' bytes count) where
    pub going_on : (request : Request) (new : S) → ReadsOne bytes bytes' input'.left input''.left (Ok request) → CountsReads input' input'' false false
        → AnswersOne takes settled accounts (count + 1) now request output' output'' heard' heard'' new (Ok false) → Going old new input input'' output output'' heard heard'' bytes' (count + 1)
    going_on request new one counts told =
        let x : Exchange = record { request = request; answer = told.answer; entered = told.entered } in
        let at : count + 1 ≡ 1 + length going.exchanges = omega (arith, going.counted) in record {
          read = going.read ++ one.read;
          exchanges = going.exchanges ++ x ∷ [];
          consumed = Consumes-trans input.left input'.left input''.left going.read one.read going.consumed one.consumed;
          answers = answers_one 1 (count + 1) old (going.read ++ one.read) going.exchanges now (bytes ++ one.read) bytes' x new at (answers_more 1 old going.read one.read going.exchanges now bytes going.answers) one.gives told.replies (sym told.closes);
          counted = omega (arith, going.counted, length-append going.exchanges (x ∷ []));
          appended = subst (Appends output.written output''.written) (sym (text_one 1 (count + 1) going.exchanges x at)) (Appends-trans output.written output'.written output''.written _ _ going.appended told.writes.bytes);
          faults = counts.faults ∙ going.faults;
          ends = counts.ends ∙ going.ends;
          failed = told.writes.cause.still ∙ going.failed;
          refused = told.writes.memory.still ∙ going.refused;
          hears = hears_one heard heard' heard'' going.exchanges x (count + 1) at going.hears told.hears;
        }

    pub closed : (request : Request) (new : S) → ReadsOne bytes bytes' input'.left input''.left (Ok request) → CountsReads input' input'' false false
        → AnswersOne takes settled accounts (count + 1) now request output' output'' heard' heard'' new (Ok true) → TalksPast takes settled accounts old new input input'' output output'' heard heard'' (Done (count + 1))
    closed request new one counts told =
        let x : Exchange = record { request = request; answer = told.answer; entered = told.entered } in record {
          talks = record {
            read = going.read ++ one.read;
            exchanges = going.exchanges;
            mid = now;
            rest = bytes ++ one.read;
            last = Ok x;
            after = bytes';
            text = exchange_text (count + 1) x;
            consumed = Consumes-trans input.left input'.left input''.left going.read one.read going.consumed one.consumed;
            answers = answers_more 1 old going.read one.read going.exchanges now bytes going.answers;
            gives = inr one.gives;
            stops = tt;
            counts = counts_from input input' input'' false false going.faults going.ends counts;
            answers_last = told.replies;
            ends = (ap (λ (k : ℕ). exchange_text (k + 1) x) going.counted, ap (λ (k : ℕ). closes_at (k + 1) request) (sym going.counted) ∙ sym told.closes, ap (λ (k : ℕ). k + 1) going.counted);
            appended = Appends-trans output.written output'.written output''.written _ _ going.appended told.writes.bytes;
          };
          hears = hears_one heard heard' heard'' going.exchanges x (count + 1) (omega (arith, going.counted)) going.hears told.hears;
        }

    pub write_failed : (request : Request) (new : S) (fault : WriteFailed) → ReadsOne bytes bytes' input'.left input''.left (Ok request) → CountsReads input' input'' false false
        → AnswersOne takes settled accounts (count + 1) now request output' output'' heard' heard'' new (Err fault) → TalksPast takes settled accounts old new input input'' output output'' heard heard'' WriteFault
    write_failed request new fault one counts told =
        let x : Exchange = record { request = request; answer = told.answer; entered = told.entered } in
        let (part, front, added) = told.writes.bytes in record {
          talks = record {
            read = going.read ++ one.read;
            exchanges = going.exchanges;
            mid = now;
            rest = bytes ++ one.read;
            last = Ok x;
            after = bytes';
            text = part;
            consumed = Consumes-trans input.left input'.left input''.left going.read one.read going.consumed one.consumed;
            answers = answers_more 1 old going.read one.read going.exchanges now bytes going.answers;
            gives = inr one.gives;
            stops = tt;
            counts = counts_from input input' input'' false false going.faults going.ends counts;
            answers_last = told.replies;
            ends = subst (λ (k : ℕ). EndsTalk k (Ok x) part output.faults output''.faults WriteFault) going.counted front;
            appended = Appends-trans output.written output'.written output''.written _ _ going.appended added;
          };
          hears = hears_one heard heard' heard'' going.exchanges x (count + 1) (omega (arith, going.counted)) going.hears told.hears;
        }

    pub refused : (cause : HttpEnd) (end : ConnEnd) → ReadsOne bytes bytes' input'.left input''.left (Err cause) → CountsReads input' input'' (saw_end {T = Request} (Err cause)) (read_failed {T = Request} (Err cause))
        → EndsConn count cause output' output'' end → TalksPast takes settled accounts old now input input'' output output'' heard heard' end
    refused cause end one counts told = record {
      talks = record {
        read = going.read ++ one.read;
        exchanges = going.exchanges;
        mid = now;
        rest = bytes ++ one.read;
        last = Err cause;
        after = bytes';
        text = told.text;
        consumed = Consumes-trans input.left input'.left input''.left going.read one.read going.consumed one.consumed;
        answers = answers_more 1 old going.read one.read going.exchanges now bytes going.answers;
        gives = inr one.gives;
        stops = one.ends;
        counts = counts_from input input' input'' (saw_end {T = Request} (Err cause)) (read_failed {T = Request} (Err cause)) going.faults going.ends counts;
        answers_last = refl;
        ends = subst (λ (k : ℕ). EndsUnread k cause told.text output.faults output''.faults end) going.counted (subst (λ (k : ℕ). EndsUnread count cause told.text k output''.faults end) going.failed told.ends);
        appended = Appends-trans output.written output'.written output''.written _ _ going.appended told.appended;
      };
      hears = subst (λ (xs : List Exchange). Hears heard heard' (heard_from 1 xs)) (sym (append-nil going.exchanges)) going.hears;
    }

  -- memory was refused before anything was read
  pub no_buffer : (old : S) (input : InputState) (output output' : OutputState) (heard : Option (List Heard)) (end : ConnEnd) → EndsConn 0 (reading.Memory false) output output' end → TalksPast takes settled accounts old old input input output output' heard heard end
  no_buffer old input output output' heard end told = record {
    talks = record {
      read = [];
      exchanges = [];
      mid = old;
      rest = [];
      last = Err (reading.Memory false);
      after = [];
      text = told.text;
      consumed = Consumes-nil input.left;
      answers = (refl, refl);
      gives = inl (record { first = refl; unread = refl; memory = refl });
      stops = tt;
      counts = record { faults = refl; ends = refl };
      answers_last = refl;
      ends = told.ends;
      appended = told.appended;
    };
    hears = hears_nothing heard;
  }

-- a request that does not close is not the last
pub goes_below : (count : ℕ) (request : Request) → count < 100 → false ≡ closes_at (count + 1) request → count + 1 < 100
goes_below count request lt e =
    let last : (count + 1 == 100) ≡ false = or_right request.closes _ (sym e) in
    let not_last : count + 1 ≢ 100 = λ h. let t : (count + 1 == 100) ≡ true = eq-eqb (count + 1) 100 h in let f : true ≡ false = sym t ∙ last in cc in
    omega (arith, lt, not_last)
  where
    or_right : (a b : Bool) → (a || b) ≡ false → b ≡ false
    or_right true b e = absurd (cc)
    or_right false b e = e
