-- What a line is: {"user":U,"push":V}, {"user":U,"pull":V}, {"retire":G} or {"closeBook":true}, which ask something, or {"stop":true};
-- members in any order, and no others.
use Rattle.std.specs.Prelude.{ℕ, List, Bool, Option, Some, None, codes, Result, Ok, Err, option_map, option_and_then, if◌then◌else◌}
use Rattle.std.specs.List.{list_any}
use Rattle.std.specs.Option.{option_map_or}
use Rattle.std.specs.Str.{bytes_eq}
use Rattle.serde_json.specs.Data.{Data, Members, no_members, member}
use Rattle.serde_json.specs.Find.{as_object, as_bool}
use Rattle.rv_base.specs.Options.{◌>>=◌}
use Rattle.rv_base.specs.Schemas.{first_schemas}
use Rattle.rv_rows.specs.Members.{text_in}
use Rattle.rv_json.specs.JsonTexts.{json_in}
use Rattle.rv_wire.specs.Bodies.{push_in, pull_in}
use Rattle.rv_wire.specs.declared.fault.WireFault.{WireFault}
use Rattle.rv_wire.specs.declared.push.Push as pushes
use Rattle.rv_turns.specs.declared.pull.PullRequest.{PullRequest}
use Rattle.rv_answering.specs.declared.request.Request.{Request}
use Rattle.rv_answering.specs.declared.request.Request.TheVariants.{Push, Pull, Retire, Close}
use Rattle.rv_answering.specs.declared.line.Line.{Line}
use Rattle.rv_answering.specs.declared.line.Line.TheVariants.{Asks, Stop}
use Rattle.rv_answering.specs.declared.asking.Verb.{Verb}
use Rattle.rv_answering.specs.declared.asking.Verb.TheVariants as verbs

-- the schema versions that a feed serves
abbrev pub serves : List ℕ → Bool
serves schema = list_any (λ served. bytes_eq served schema) first_schemas

-- What a line of the form asks: a request, or the first thing that is wrong with its body.
abbrev pub Parsed : Type 0
Parsed = Result Request WireFault

-- the verb that a member's name spells
abbrev pub verb_of : List ℕ → Option Verb
verb_of name = if bytes_eq name (codes "push") then Some verbs.Push else (if bytes_eq name (codes "pull") then Some verbs.Pull else None)

abbrev pub push_asked : List ℕ → Result pushes.Push WireFault → Parsed
push_asked user (Ok push) = Ok (Push user push)
push_asked user (Err fault) = Err fault

abbrev pub pull_asked : List ℕ → Result PullRequest WireFault → Parsed
pull_asked user (Ok pull) = Ok (Pull user pull)
pull_asked user (Err fault) = Err fault

-- the request of a user's body
abbrev pub body_asks : Verb → List ℕ → Data → Parsed
body_asks verbs.Push user body = push_asked user (push_in serves body)
body_asks verbs.Pull user body = pull_asked user (pull_in serves body)

-- Members stand in the order of their names, so the verb's comes before the user's.
abbrev pub two_members : Members → Option ((List ℕ × Data) × (List ℕ × Data))
two_members (member k d (member l e no_members)) = Some ((k, d), (l, e))
two_members other = None

-- the member of an object that has one
abbrev pub one_member : Members → Option (List ℕ × Data)
one_member (member k d no_members) = Some (k, d)
one_member other = None

-- the test holds
abbrev pub only : Bool → Option (Unit {0})
only test = if test then Some tt else None

-- {"retire":G}
abbrev pub retire_asked : List ℕ → Data → Option Parsed
retire_asked name value = if bytes_eq name (codes "retire") then option_map (λ group. Ok (Retire group)) (text_in 1 128 value) else None

-- {"user":U,"push":V} or {"user":U,"pull":V}
unfoldable pub body_asked : Members → Option Parsed
body_asked members = do
  two ← two_members members
  verb ← verb_of two.0.0
  named ← only (bytes_eq two.1.0 (codes "user"))
  user ← text_in 1 64 two.1.1
  Some (body_asks verb user two.0.1)

-- {"stop":true}
abbrev pub stop_asked : Data → Option Line
stop_asked value = option_and_then (λ stops. if stops then Some Stop else None) (as_bool value)

-- {"closeBook":true}
abbrev pub close_asked : Data → Option Line
close_asked value = option_and_then (λ closes. if closes then Some (Asks (Ok Close)) else None) (as_bool value)

-- what the one member of an object asks
abbrev pub one_asks : List ℕ → Data → Option Line
one_asks name value =
    if bytes_eq name (codes "stop") then stop_asked value
    else if bytes_eq name (codes "closeBook") then close_asked value
    else option_map (λ asked. Asks asked) (retire_asked name value)

-- what an object of one member asks, and what any other asks
abbrev pub members_ask : Members → Option Line
members_ask members = option_map_or (λ one. one_asks one.0 one.1) (one_member members) (option_map (λ asked. Asks asked) (body_asked members))

abbrev pub value_asks : Data → Option Line
value_asks value = option_and_then members_ask (as_object value)

-- what a line is, where it is of the form
abbrev pub line_of : List ℕ → Option Line
line_of line = option_and_then value_asks (json_in line)
