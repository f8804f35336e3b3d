-- Connections that are served one after another, and go back.
use Rattle.std.proofs.Common.{◌≡◌, ℕ, List, [], ◌∷◌, ◌++◌, map, refl, sym, ap, ◌∙◌, subst, append_assoc, append-nil}
use Rattle.std.proofs.lemmas.List.{map-append}
use Rattle.rv_base.specs.declared.outside.Source.{Ghosts as SourceGhosts}
use Rattle.rv_base.specs.declared.outside.Sink.{Ghosts as SinkGhosts}
use Rattle.rv_net.specs.declared.conn.Conn.{Conn}
use Rattle.rv_net.specs.declared.listen.Listen.{Ghosts as ListenGhosts}
use Rattle.rv_accounts.specs.File.{AccountsServed as Accounts}
use Rattle.rv_serve.specs.declared.gate.Gate.{Ghosts as GateGhosts}
use Rattle.rv_serve.specs.declared.heard.Heard.{Heard}
use Rattle.rv_serve.specs.Hearing.{Hears}
use Rattle.rv_serve.specs.HearingLaws.{hears_on}
use Rattle.rv_serve.specs.declared.conn_end.ConnEnd.{ConnEnd}
use Rattle.rv_serve.specs.Talk.{TalksPast, answered, heard_from}
use Rattle.rv_serve.specs.Causes.{ConnCause, ConnInputIsSteady, ConnOutputIsSteady}
use Rattle.rv_serve.specs.Listening.{ServedConn, ServesConn, ServesEach, ServesPast, heard_over}
use Rattle.rv_turns.specs.Asks.{Ask}
use Rattle.rv_turns.specs.declared.pushing.Outcome.{Outcome}

heard_more : {I O : Type 0} (conns : List (ServedConn I O)) (conn : ServedConn I O) → heard_over (conns ++ conn ∷ []) ≡ heard_over conns ++ heard_from 1 conn.answers
heard_more [] conn = append-nil (heard_from 1 conn.answers)
heard_more (c ∷ conns) conn = ap (λ (l : List Heard). heard_from 1 c.answers ++ l) (heard_more conns conn) ∙ sym (append_assoc (heard_from 1 c.answers) (heard_over conns) (heard_from 1 conn.answers))

-- Of connections that were to come, these were given and are back, and as many are out as before.
pub record AreConnsServed {I O : Type 0} (conns : List (ServedConn I O)) (to_come to_come' came_back came_back' : List (Conn I O)) (out out' : ℕ) : Type 0 where
  pub given : to_come ≡ map (λ conn. conn.given) conns ++ to_come'
  pub back : came_back' ≡ came_back ++ map (λ conn. conn.back) conns
  pub same : out' ≡ out

module _ {S L I O W : Type 0} (takes : S → Ask → Outcome → S → Type 0) (settled : S → ℕ) (listen : ListenGhosts L I O) (source : SourceGhosts I) (sink : SinkGhosts O) (accounts : Accounts) (gate : GateGhosts W) where
  abbrev Each : S → List (ServedConn I O) → S → Type 0
  Each = ServesEach takes settled source sink accounts

  abbrev One : S → ServedConn I O → S → Type 0
  One = ServesConn takes settled source sink accounts

  each_one : (old mid new : S) (conns : List (ServedConn I O)) (conn : ServedConn I O) → Each old conns mid → One mid conn new → Each old (conns ++ conn ∷ []) new
  each_one old mid new [] conn same one = (new, subst (λ (s : S). One s conn new) same one, refl)
  each_one old mid new (c ∷ conns) conn (next, first, each) one = (next, first, each_one next mid new conns conn each one)

  pub record ServedSoFar (old : S) (given : L) (before : W) (new : S) (left : L) (after : W) : Type 0 where
    pub conns : List (ServedConn I O)
    pub serves : Each old conns new
    pub are_served : listen.tells left → AreConnsServed conns (listen.to_come given) (listen.to_come left) (listen.came_back given) (listen.came_back left) (listen.out given) (listen.out left)
    pub hears : Hears (gate.heard before) (gate.heard after) (heard_over conns)

  -- the next connection is given, served, and goes back
  pub served_more : (old : S) (first : L) (before : W) (mid : S) (left : L) (then : W) (new : S) (next : L) (after : W) (given returned : Conn I O) (end : ConnEnd) → ServedSoFar old first before mid left then
      → TalksPast takes settled accounts mid new (source.state given.source) (source.state returned.source) (sink.state given.sink) (sink.state returned.sink) (gate.heard then) (gate.heard after) end
      → ConnCause (source.state given.source) (source.state returned.source) (sink.state given.sink) (sink.state returned.sink) end
      → (source.fails_no_more given.source → ConnInputIsSteady (source.fails_no_more returned.source) end)
      → (sink.fails_no_more given.sink → ConnOutputIsSteady (sink.fails_no_more returned.sink) (sink.state given.sink) (sink.state returned.sink) end)
      → (listen.tells next → listen.tells left) → (listen.tells next → listen.to_come left ≡ given ∷ listen.to_come next) → (listen.tells next → listen.came_back next ≡ listen.came_back left ++ returned ∷ [])
      → (listen.tells next → listen.out left ≡ listen.out next) → ServedSoFar old first before new next after
  served_more old first before mid left then new next after given returned end served past cause steady_input steady_output earlier gives goes stays =
      let conn : ServedConn I O = record { given = given; back = returned; end = end; answers = answered takes settled accounts past.talks } in record {
        conns = served.conns ++ conn ∷ [];
        serves = each_one old mid new served.conns conn served.serves (record { talks = past.talks; answers = refl; cause = cause; steady_input = steady_input; steady_output = steady_output });
        hears = subst (λ (l : List Heard). Hears (gate.heard before) (gate.heard after) l) (sym (heard_more served.conns conn))
            (hears_on (gate.heard before) (gate.heard then) (gate.heard after) (heard_over served.conns) (heard_from 1 conn.answers) served.hears past.hears);
        are_served = λ now.
            let so = served.are_served (earlier now) in record {
              given = so.given ∙ ap (λ (cs : List (Conn I O)). map (λ c. c.given) served.conns ++ cs) (gives now)
                  ∙ sym (append_assoc (map (λ (c : ServedConn I O). c.given) served.conns) (given ∷ []) (listen.to_come next)) ∙ ap (λ (cs : List (Conn I O)). cs ++ listen.to_come next) (sym (map-append (λ (c : ServedConn I O). c.given) served.conns (conn ∷ [])));
              back = goes now ∙ ap (λ (cs : List (Conn I O)). cs ++ returned ∷ []) so.back
                  ∙ append_assoc (listen.came_back first) (map (λ (c : ServedConn I O). c.back) served.conns) (returned ∷ []) ∙ ap (λ (cs : List (Conn I O)). listen.came_back first ++ cs) (sym (map-append (λ (c : ServedConn I O). c.back) served.conns (conn ∷ [])));
              same = sym (stays now) ∙ so.same;
            };
      }

  -- none is to come any more
  pub served_all : (old : S) (first : L) (before : W) (new : S) (left back : L) (after : W) → ServedSoFar old first before new left after
      → (listen.tells back → listen.tells left) → (listen.tells back → listen.to_come left ≡ []) → (listen.tells back → listen.to_come back ≡ [])
      → (listen.tells back → listen.came_back back ≡ listen.came_back left) → (listen.tells back → listen.out back ≡ listen.out left) → ServesPast takes settled listen source sink accounts gate old first before new back after
  served_all old first before new left back after served earlier none rests stays same = record {
    all = record {
      conns = served.conns;
      serves = served.serves;
      are_back = λ now.
          let so = served.are_served (earlier now) in record {
            given = so.given ∙ ap (λ (cs : List (Conn I O)). map (λ (c : ServedConn I O). c.given) served.conns ++ cs) (none now) ∙ append-nil (map (λ (c : ServedConn I O). c.given) served.conns);
            none = rests now;
            back = stays now ∙ so.back;
            same = same now ∙ so.same;
          };
    };
    hears = served.hears;
  }
