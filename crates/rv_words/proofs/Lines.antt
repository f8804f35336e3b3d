-- What a whole command line asks for, said without clap.
use Rattle.std.proofs.Common.{◌≡◌, ◌∙◌, ap, ap₂, refl, sym, subst, List, [], ◌∷◌, Option, Some, None, option_map, Bool, cond, true, false, is_some, codes}
use Rattle.std.specs.Prelude.{find, option_and_then}
use Rattle.std.specs.List.{fold}
use Rattle.std.specs.Option.{option_map_or}
use Rattle.std.specs.Str.{bytes_eq}
use Rattle.std.specs.Cmp.Lexicographic.{same_text}
use Rattle.rv_base.specs.PositionLaws.{not_same}
use Rattle.clap.specs.Kinds.{Kinds, or_else}
use Rattle.clap.specs.Walk.{Names, Row, Text, Walk, answers_to, finished, idle, nothing_held, settled, subcommand_met, subcommand_or_other, walk_from, walked}
use Rattle.clap.specs.Simple.{App, Shape, built, entered, label_of, names_of, rows_at}
use Rattle.clap.specs.Faults.{check_fault, defaults_fault, entered_fault, level_fault, other_fault, settle_fault, step_fault, turn_fault, walk_fault}
use Rattle.clap.proofs.WalkLemmas.{walk_stopped}
use Rattle.clap.proofs.FaultLemmas.{stopped_fault}
use Rattle.clap.proofs.OnLiterals.{clap_on_literals}
use Rattle.rv_words.specs.Table.{bare_app, commands, rv_app, with_commands}
use Rattle.rv_words.specs.Words.{command_in, is_taken, command_named, export_in, follow_in, import_in, make_in, on_store_in, retire_in, serve_in}
use Rattle.rv_words.specs.Plain.{asked_with, follow_with, is_flag, on_store_with, parts_from, plainly_in, serve_with, values_in}
use Rattle.rv_words.specs.declared.command.Command.{Command}
use Rattle.rv_words.proofs.Leaves.{HasNoFlags, at, flag_fails, more_fails, not_empty, plain_turn, read_from}
use Rattle.rv_words.proofs.Makes.{make_1, make_leaf}
use Rattle.rv_words.proofs.Imports.{export_0, export_leaf, import_0, import_leaf}
use Rattle.rv_words.proofs.Serving.{served}
use Rattle.rv_words.proofs.Following.{follow_leaf, followed}
use Rattle.rv_words.proofs.Verbs.{retire_1, retire_leaf, serve_leaf, store_1, store_leaf}

abbrev whole : App
whole = built (with_commands bare_app commands)

abbrev top : Shape
top = whole.top

abbrev names : Names
names = names_of whole

-- what a line asks for, by where the walk over it ended and by the faults on the way
abbrev line_read : Walk → Kinds → Option Command
line_read end faults =
    let stop = end.stopped in
    cond (is_taken (or_else faults (or_else (entered_fault whole stop) (or_else (settle_fault top.rules top.args_override_self end.held)
    (or_else (defaults_fault (settled top.rules end.held).rows top.rules) (check_fault top (finished top.rules end.held) (is_some (entered whole stop))))))))
    (option_and_then command_named (entered whole stop)) None

abbrev begin : Walk
begin = walk_from nothing_held

line_is : (name verb : Text) (words : List Text)
    → command_in (name ∷ verb ∷ words) ≡ line_read (fold (walked top.rules names) begin (verb ∷ words)) (walk_fault top names begin (verb ∷ words))
unfolding command_in rv_app clap_on_literals
line_is name verb words = refl

taken_alone : (kinds : Kinds) → is_taken (or_else kinds []) ≡ is_taken kinds
taken_alone [] = refl
taken_alone (kind ∷ kinds) = refl

abbrev stopped_at : Text → List Text → Walk
stopped_at verb words = record begin { stopped = Some (verb, words) }

-- the table has a command of this name: the word ends the walk and is no fault, the command has this shape, and its
-- values are read so
abbrev IsNamed : Text → Shape → (List Row → Option Command) → Type 0
IsNamed verb s reads = (walked top.rules names begin verb ≡ stopped_at verb []) × (turn_fault top names begin verb ≡ [])
    × (find (λ s. answers_to verb (label_of s)) whole.subs ≡ Some s) × ((rows : List Row) → command_named (s.name, rows) ≡ reads rows)

-- what is asked for once a command was met, by the shape that is found for it
abbrev found_read : List Text → Option Shape → Option Command
found_read words o =
    let below = option_map (λ s. rows_at s words) o in
    cond (is_taken (or_else (option_map_or (λ s. level_fault s [] nothing_held words false []) o []) (check_fault top [] (is_some below))))
    (option_and_then command_named below) None

named_line : (name verb : Text) (words : List Text) (s : Shape) (reads : List Row → Option Command) → IsNamed verb s reads
    → command_in (name ∷ verb ∷ words) ≡ read_from s reads (at [] None 1 false) words
unfolding clap_on_literals
named_line name verb words s reads (stops, fine, found, asks) =
    line_is name verb words
    ∙ ap₂ (λ (w : Walk) (k : Kinds). line_read (fold (walked top.rules names) w words) (or_else k (walk_fault top names w words))) stops fine
    ∙ ap₂ line_read (sym (walk_stopped top.rules names begin verb [] words)) (stopped_fault top names begin (verb, []) words)
    ∙ ap (found_read words) found
    ∙ ap₂ (λ b o. cond b o None) (taken_alone (level_fault s [] nothing_held words false []))
    (asks (finished s.rules (fold (walked s.rules []) (walk_from nothing_held) words).held))

store_line : (verb : Text) → IsNamed verb (store_leaf verb) (on_store_in verb) → (name : Text) (words : List Text)
    → command_in (name ∷ verb ∷ words) ≡ option_and_then (on_store_with verb) (values_in words)
store_line verb is name words = named_line name verb words (store_leaf verb) (on_store_in verb) is ∙ store_1 verb words

-- ---- a line that names no command

pub record IsOtherVerb (verb : Text) : Type 0 where
  pub feed : bytes_eq verb (codes "feed") ≡ false
  pub retire : bytes_eq verb (codes "retire") ≡ false
  pub lists : bytes_eq verb (codes "lists") ≡ false
  pub activity : bytes_eq verb (codes "activity") ≡ false
  pub check : bytes_eq verb (codes "check") ≡ false
  pub make : bytes_eq verb (codes "make") ≡ false
  pub import : bytes_eq verb (codes "import") ≡ false
  pub export : bytes_eq verb (codes "export") ≡ false
  pub serve : bytes_eq verb (codes "serve") ≡ false
  pub close_book : bytes_eq verb (codes "close-book") ≡ false
  pub ship : bytes_eq verb (codes "ship") ≡ false
  pub follow : bytes_eq verb (codes "follow") ≡ false

top_flags : HasNoFlags top
top_flags = (λ name. refl, λ letter. refl)

line_fails : (name verb : Text) (words : List Text) → is_taken (turn_fault top names begin verb) ≡ false → command_in (name ∷ verb ∷ words) ≡ None
unfolding walk_fault
line_fails name verb words fails = line_is name verb words ∙ rw (more_fails (turn_fault top names begin verb) _ _ fails) refl

not_named : (verb : Text) → IsOtherVerb verb → subcommand_met names idle verb ≡ None
not_named verb is =
    let no_feed : bytes_eq (codes "feed") verb ≡ false = not_same verb (codes "feed") is.feed in
    let no_retire : bytes_eq (codes "retire") verb ≡ false = not_same verb (codes "retire") is.retire in
    let no_lists : bytes_eq (codes "lists") verb ≡ false = not_same verb (codes "lists") is.lists in
    let no_activity : bytes_eq (codes "activity") verb ≡ false = not_same verb (codes "activity") is.activity in
    let no_check : bytes_eq (codes "check") verb ≡ false = not_same verb (codes "check") is.check in
    let no_make : bytes_eq (codes "make") verb ≡ false = not_same verb (codes "make") is.make in
    let no_import : bytes_eq (codes "import") verb ≡ false = not_same verb (codes "import") is.import in
    let no_export : bytes_eq (codes "export") verb ≡ false = not_same verb (codes "export") is.export in
    let no_serve : bytes_eq (codes "serve") verb ≡ false = not_same verb (codes "serve") is.serve in
    let no_close_book : bytes_eq (codes "close-book") verb ≡ false = not_same verb (codes "close-book") is.close_book in
    let no_ship : bytes_eq (codes "ship") verb ≡ false = not_same verb (codes "ship") is.ship in
    let no_follow : bytes_eq (codes "follow") verb ≡ false = not_same verb (codes "follow") is.follow in
    rw (no_feed, no_lists, no_activity, no_check, no_retire, no_make, no_import, no_export, no_serve, no_close_book, no_ship, no_follow) refl

turn_alone : (verb : Text) → subcommand_met names idle verb ≡ None → turn_fault top names begin verb ≡ turn_fault top [] (at [] None 1 false) verb
turn_alone verb none = ap (λ o. or_else (other_fault top o verb begin.held)
    (step_fault top 1 (subcommand_or_other top.rules o idle 1 verb begin.held).0 (subcommand_or_other top.rules o idle 1 verb begin.held).1)) none

ended_line : (name : Text) (words : List Text) → command_in (name ∷ codes "--" ∷ words) ≡ None
unfolding clap_on_literals
ended_line name [] = line_is name (codes "--") []
ended_line name (word ∷ words) = line_is name (codes "--") (word ∷ words)

pub other_line : (name verb : Text) (words : List Text) → IsOtherVerb verb → command_in (name ∷ verb ∷ words) ≡ None
other_line name verb words is = go (bytes_eq verb (codes "--")) refl (is_flag verb) refl
  where
    go : (ends : Bool) → bytes_eq verb (codes "--") ≡ ends → (flag : Bool) → is_flag verb ≡ flag → command_in (name ∷ verb ∷ words) ≡ None
    go true ends flag is_it =
        subst (λ (v : Text). command_in (name ∷ v ∷ words) ≡ None) (sym (same_text verb (codes "--") (sym ends))) (ended_line name words)
    go false goes_on true is_it =
        line_fails name verb words (ap is_taken (turn_alone verb (not_named verb is)) ∙ not_empty _ _ (flag_fails top top_flags [] None verb goes_on is_it))
    go false goes_on false is_it =
        line_fails name verb words
        (ap is_taken (turn_alone verb (not_named verb is) ∙ plain_turn top [] None 1 verb (goes_on, is_it)))

other_asks : (verb : Text) (values : List Text) → IsOtherVerb verb → asked_with verb values ≡ None
other_asks verb [] is = rw (is.retire, is.make, is.import, is.export) refl
other_asks verb (store ∷ []) is = rw (is.retire, is.make, is.import, is.export, is.feed, is.lists, is.activity, is.check, is.close_book, is.ship) refl
other_asks verb (store ∷ more ∷ values) is = rw (is.retire, is.make, is.import, is.export) refl

other_values : (verb : Text) (o : Option (List Text)) → IsOtherVerb verb → option_and_then (asked_with verb) o ≡ None
other_values verb None is = refl
other_values verb (Some values) is = other_asks verb values is

-- ---- every line

-- what holds of every text, by whether it is this name
by_name : (P : Text → Type 0) (verb known : Text) → P known → (bytes_eq verb known ≡ false → P verb) → P verb
by_name P verb known at_it other = go (bytes_eq verb known) refl
  where
    go : (same : Bool) → bytes_eq verb known ≡ same → P verb
    go true is = subst P (sym (same_text verb known (sym is))) at_it
    go false is = other is

serve_line : (name : Text) (words : List Text) → command_in (name ∷ codes "serve" ∷ words) ≡ option_and_then serve_with (parts_from None words)
unfolding clap_on_literals
serve_line name words = named_line name (codes "serve") words serve_leaf serve_in (refl, refl, refl, λ rows. refl) ∙ served words

follow_line : (name : Text) (words : List Text) → command_in (name ∷ codes "follow" ∷ words) ≡ option_and_then follow_with (parts_from None words)
unfolding clap_on_literals
follow_line name words = named_line name (codes "follow") words follow_leaf follow_in (refl, refl, refl, λ rows. refl) ∙ followed words

verb_line : (name verb : Text) (words : List Text) → command_in (name ∷ verb ∷ words) ≡ plainly_in (name ∷ verb ∷ words)
unfolding clap_on_literals
verb_line name verb words =
    let P : Text → Type 0 = λ v. command_in (name ∷ v ∷ words) ≡ plainly_in (name ∷ v ∷ words) in
    by_name P verb (codes "feed") (store_line (codes "feed") (refl, refl, refl, λ rows. refl) name words) (λ feed.
    by_name P verb (codes "lists") (store_line (codes "lists") (refl, refl, refl, λ rows. refl) name words) (λ lists.
    by_name P verb (codes "activity") (store_line (codes "activity") (refl, refl, refl, λ rows. refl) name words) (λ activity.
    by_name P verb (codes "check") (store_line (codes "check") (refl, refl, refl, λ rows. refl) name words) (λ check.
    by_name P verb (codes "retire") (named_line name (codes "retire") words retire_leaf retire_in (refl, refl, refl, λ rows. refl) ∙ retire_1 words) (λ retire.
    by_name P verb (codes "make") (named_line name (codes "make") words make_leaf make_in (refl, refl, refl, λ rows. refl) ∙ make_1 words) (λ make.
    by_name P verb (codes "import") (named_line name (codes "import") words import_leaf import_in (refl, refl, refl, λ rows. refl) ∙ import_0 words) (λ import.
    by_name P verb (codes "export") (named_line name (codes "export") words export_leaf export_in (refl, refl, refl, λ rows. refl) ∙ export_0 words) (λ export.
    by_name P verb (codes "serve") (serve_line name words) (λ serve.
    by_name P verb (codes "close-book") (store_line (codes "close-book") (refl, refl, refl, λ rows. refl) name words) (λ close_book.
    by_name P verb (codes "ship") (store_line (codes "ship") (refl, refl, refl, λ rows. refl) name words) (λ ship.
    by_name P verb (codes "follow") (follow_line name words) (λ follow.
    let is : IsOtherVerb verb = record { feed = feed; retire = retire; lists = lists; activity = activity; check = check; make = make; import = import; export = export; serve = serve; close_book = close_book; ship = ship; follow = follow } in
    other_line name verb words is ∙ sym (ap₂ (λ b c. cond b (option_and_then serve_with (parts_from None words)) (cond c (option_and_then follow_with (parts_from None words)) (option_and_then (asked_with verb) (values_in words)))) serve follow
    ∙ other_values verb (values_in words) is)))))))))))))

pub line_is_plain : (words : List Text) → command_in words ≡ plainly_in words
unfolding command_in rv_app clap_on_literals
line_is_plain [] = refl
line_is_plain (name ∷ []) = refl
line_is_plain (name ∷ verb ∷ words) = verb_line name verb words
