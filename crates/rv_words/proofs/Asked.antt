-- The laws of command lines, from what they ask for without clap.
use Rattle.std.proofs.Common.{◌≡◌, ◌≢◌, ◌∙◌, ℕ, ap, refl, sym, List, [], ◌∷◌, Option, Some, None, Bool, cond, true, false, codes}
use Rattle.std.specs.Prelude.{option_and_then, option_map}
use Rattle.std.specs.Str.{bytes_eq}
use Rattle.std.specs.Cmp.Lexicographic.{same_text}
use Rattle.rv_words.specs.Words.{command_in, is_id, retire_group_in}
use Rattle.rv_words.specs.Plain.{asked_with, is_flag, export_with, import_with, make_with, retire_with, values_in}
use Rattle.rv_words.specs.Properties.{AskForNothing, EachGroupIsAsked, EachStoreIsAsked, OthersAskForNothing, RetireIsAsked, StoresAreAsked, begins_with_hyphen}
use Rattle.rv_words.specs.declared.command.Command.{Command}
use Rattle.rv_words.specs.declared.command.Command.TheVariants.{Retire}
use Rattle.rv_words.proofs.Lines.{line_is_plain, other_line}

-- a word that does not begin with a hyphen is a value
pub is_value : (word : List ℕ) (words : List (List ℕ)) → begins_with_hyphen word ≡ false
    → values_in (word ∷ words) ≡ option_map (λ values. word ∷ values) (values_in words)
is_value [] words plain = refl
is_value (byte ∷ rest) words plain = rw plain refl

-- so is one that stands alone
pub one_value : (word : List ℕ) → begins_with_hyphen word ≡ false → values_in (word ∷ []) ≡ Some (word ∷ [])
one_value word plain = is_value word [] plain

-- a line of one value asks for what the value does
line_of_one : (name verb store : List ℕ) → bytes_eq verb (codes "serve") ≡ false → bytes_eq verb (codes "follow") ≡ false → begins_with_hyphen store ≡ false
    → command_in (name ∷ verb ∷ store ∷ []) ≡ asked_with verb (store ∷ [])
line_of_one name verb store other no_port plain =
    line_is_plain (name ∷ verb ∷ store ∷ []) ∙ rw (other, no_port) (ap (λ values. option_and_then (asked_with verb) values) (one_value store plain))

pub stores_asked : StoresAreAsked
stores_asked = record {
  feed = λ name store. line_of_one name (codes "feed") store refl refl;
  lists = λ name store. line_of_one name (codes "lists") store refl refl;
  activity = λ name store. line_of_one name (codes "activity") store refl refl;
  check = λ name store. line_of_one name (codes "check") store refl refl;
  close_book = λ name store. line_of_one name (codes "close-book") store refl refl;
  ship = λ name store. line_of_one name (codes "ship") store refl refl;
}

-- a group that is an `Id` is retired
by_group : (store group : List ℕ) → is_id group ≡ true → retire_group_in store group ≡ Some (Retire store group)
by_group store group id = ap (λ b. cond b (Some (Retire store group)) None) id

pub retire_asked : RetireIsAsked
retire_asked name store group id plain plain_group =
    line_is_plain (name ∷ codes "retire" ∷ store ∷ group ∷ [])
    ∙ ap (λ values. option_and_then (asked_with (codes "retire")) values)
    (is_value store (group ∷ []) plain ∙ ap (λ values. option_map (λ v. store ∷ v) values) (one_value group plain_group))
    ∙ by_group store group id

pub each_store_asked : EachStoreIsAsked
each_store_asked = record {
  feed = λ name store. line_is_plain (name ∷ codes "feed" ∷ codes "--" ∷ store ∷ []);
  lists = λ name store. line_is_plain (name ∷ codes "lists" ∷ codes "--" ∷ store ∷ []);
  activity = λ name store. line_is_plain (name ∷ codes "activity" ∷ codes "--" ∷ store ∷ []);
  check = λ name store. line_is_plain (name ∷ codes "check" ∷ codes "--" ∷ store ∷ []);
  retire = λ name store group id. line_is_plain (name ∷ codes "retire" ∷ codes "--" ∷ store ∷ group ∷ []) ∙ by_group store group id;
  close_book = λ name store. line_is_plain (name ∷ codes "close-book" ∷ codes "--" ∷ store ∷ []);
  ship = λ name store. line_is_plain (name ∷ codes "ship" ∷ codes "--" ∷ store ∷ []);
}

pub each_group_asked : EachGroupIsAsked
each_group_asked name store group id plain =
    line_is_plain (name ∷ codes "retire" ∷ store ∷ codes "--" ∷ group ∷ [])
    ∙ ap (λ values. option_and_then (asked_with (codes "retire")) values) (is_value store (codes "--" ∷ group ∷ []) plain)
    ∙ by_group store group id

pub short_lines : AskForNothing
short_lines = record {
  no_words = line_is_plain [];
  no_command = λ name. line_is_plain (name ∷ []);
  feed_alone = λ name. line_is_plain (name ∷ codes "feed" ∷ []);
  lists_alone = λ name. line_is_plain (name ∷ codes "lists" ∷ []);
  activity_alone = λ name. line_is_plain (name ∷ codes "activity" ∷ []);
  check_alone = λ name. line_is_plain (name ∷ codes "check" ∷ []);
  retire_alone = λ name. line_is_plain (name ∷ codes "retire" ∷ []);
  make_alone = λ name. line_is_plain (name ∷ codes "make" ∷ []);
  import_alone = λ name. line_is_plain (name ∷ codes "import" ∷ []);
  export_alone = λ name. line_is_plain (name ∷ codes "export" ∷ []);
  serve_alone = λ name. line_is_plain (name ∷ codes "serve" ∷ []);
  close_book_alone = λ name. line_is_plain (name ∷ codes "close-book" ∷ []);
  ship_alone = λ name. line_is_plain (name ∷ codes "ship" ∷ []);
  follow_alone = λ name. line_is_plain (name ∷ codes "follow" ∷ []);
  no_requests = λ name seed. line_is_plain (name ∷ codes "make" ∷ seed ∷ []) ∙ alone make_with refl (λ value. refl) seed;
  no_group = λ name store. line_is_plain (name ∷ codes "retire" ∷ store ∷ []) ∙ alone retire_with refl (λ value. refl) store;
  no_user = λ name store. line_is_plain (name ∷ codes "import" ∷ store ∷ []) ∙ alone import_with refl (λ value. refl) store;
  no_import = λ name store user. line_is_plain (name ∷ codes "import" ∷ store ∷ user ∷ []) ∙ two import_with refl (λ value. refl) (λ value other. refl) store user;
  no_user_to_export = λ name store. line_is_plain (name ∷ codes "export" ∷ store ∷ []) ∙ alone export_with refl (λ value. refl) store;
}
  where
    -- one value, where two are needed
    alone : (asks : List (List ℕ) → Option Command) → asks [] ≡ None → ((value : List ℕ) → asks (value ∷ []) ≡ None) → (value : List ℕ)
        → option_and_then asks (values_in (value ∷ [])) ≡ None
    alone asks none one value = go (bytes_eq value (codes "--")) (is_flag value)
      where
        go : (ends flag : Bool) → option_and_then asks (cond ends (Some []) (cond flag None (Some (value ∷ [])))) ≡ None
        go true flag = none
        go false true = refl
        go false false = one value

    through : (asks : List (List ℕ) → Option Command) (value : List ℕ) (o : Option (List (List ℕ)))
        → option_and_then (λ values. asks (value ∷ values)) o ≡ option_and_then asks (option_map (λ values. value ∷ values) o)
    through asks value None = refl
    through asks value (Some values) = refl

    -- two values, where three are needed
    two : (asks : List (List ℕ) → Option Command) → asks [] ≡ None → ((value : List ℕ) → asks (value ∷ []) ≡ None)
        → ((value other : List ℕ) → asks (value ∷ other ∷ []) ≡ None) → (value other : List ℕ)
        → option_and_then asks (values_in (value ∷ other ∷ [])) ≡ None
    two asks none one both value other = go (bytes_eq value (codes "--")) (is_flag value)
      where
        go : (ends flag : Bool)
            → option_and_then asks (cond ends (Some (other ∷ [])) (cond flag None (option_map (λ values. value ∷ values) (values_in (other ∷ []))))) ≡ None
        go true flag = one other
        go false true = refl
        go false false =
            sym (through asks value (values_in (other ∷ []))) ∙ alone (λ values. asks (value ∷ values)) (one value) (λ next. both value next) other

differs : (verb known : List ℕ) → verb ≢ known → bytes_eq verb known ≡ false
differs verb known other = go (bytes_eq verb known) refl
  where
    go : (same : Bool) → bytes_eq verb known ≡ same → same ≡ false
    go true is = absurd (other (same_text verb known (sym is)))
    go false is = refl

pub others : OthersAskForNothing
others name verb words feed retire lists activity check make import export serve close_book ship follow = other_line name verb words (record {
  feed = differs verb (codes "feed") feed;
  retire = differs verb (codes "retire") retire;
  lists = differs verb (codes "lists") lists;
  activity = differs verb (codes "activity") activity;
  check = differs verb (codes "check") check;
  make = differs verb (codes "make") make;
  import = differs verb (codes "import") import;
  export = differs verb (codes "export") export;
  serve = differs verb (codes "serve") serve;
  close_book = differs verb (codes "close-book") close_book;
  ship = differs verb (codes "ship") ship;
  follow = differs verb (codes "follow") follow;
})
