-- The laws of `import` and `export`, from what their words ask for without clap.
use Rattle.std.proofs.Common.{◌≡◌, ◌∙◌, ◌||◌, ◌++◌, ℕ, ap, arith, refl, List, [], ◌∷◌, Some, option_map, Bool, true, false, length, codes}
use Rattle.std.specs.Prelude.{nat_le, option_and_then}
use Rattle.std.specs.List.{list_any}
use Rattle.std.specs.Str.{bytes_eq}
use Rattle.std.proofs.lemmas.Bool.Decides.{nat_tests}
use Rattle.rv_words.specs.Words.{as_import_name, as_user, command_in, export_of, import_of}
use Rattle.rv_words.specs.Plain.{asked_with, values_in}
use Rattle.rv_words.specs.Properties.{ExportIsAsked, ImportIsAsked, IsAskedWith, IsUser, NamesImport, NoneBeginsWithHyphen, begins_with_hyphen}
use Rattle.rv_words.specs.declared.command.Command.{Command}
use Rattle.rv_words.specs.declared.command.Command.TheVariants.{Export, Import}
use Rattle.rv_words.proofs.Asked.{is_value}
use Rattle.rv_words.proofs.Lines.{line_is_plain}

-- ---- values, with `--` among them or without

neither : (a b : Bool) → (a || b) ≡ false → (a ≡ false) × (b ≡ false)
neither true b is = absurd (cc)
neither false b is = (refl, is)

all_values : (words : List (List ℕ)) → NoneBeginsWithHyphen words → values_in words ≡ Some words
all_values [] none = refl
all_values (word ∷ words) none =
    let each = neither (begins_with_hyphen word) (list_any begins_with_hyphen words) none in
    is_value word words each.0 ∙ ap (λ values. option_map (λ vs. word ∷ vs) values) (all_values words each.1)

values_apart : (before after : List (List ℕ)) → NoneBeginsWithHyphen before → values_in (before ++ codes "--" ∷ after) ≡ Some (before ++ after)
values_apart [] after none = refl
values_apart (word ∷ words) after none =
    let each = neither (begins_with_hyphen word) (list_any begins_with_hyphen words) none in
    is_value word (words ++ codes "--" ∷ after) each.0 ∙ ap (λ values. option_map (λ vs. word ∷ vs) values) (values_apart words after each.1)

asked_plainly : (verb : List ℕ) (values : List (List ℕ)) (command : Command) → bytes_eq verb (codes "serve") ≡ false → bytes_eq verb (codes "follow") ≡ false → asked_with verb values ≡ Some command
    → IsAskedWith verb values command
asked_plainly verb values command other no_port asks = record {
  plain = λ name none. line name values (all_values values none);
  after_hyphens = λ name before after are none. line name (before ++ codes "--" ∷ after) (values_apart before after none ∙ ap (λ vs. Some vs) are);
}
  where
    line : (name : List ℕ) (words : List (List ℕ)) → values_in words ≡ Some values → command_in (name ∷ verb ∷ words) ≡ Some command
    line name words are =
        line_is_plain (name ∷ verb ∷ words) ∙ rw (other, no_port) (ap (λ vs. option_and_then (asked_with verb) vs) are) ∙ asks

-- ---- users and names

user_taken : (user : List ℕ) → IsUser user → as_user user ≡ Some user
user_taken user is =
    let low : nat_le 1 (length user) ≡ true = grind (arith, nat_tests, is.0) in
    let high : nat_le (length user) 64 ≡ true = grind (arith, nat_tests, is.1) in
    rw (low, high) refl

name_taken : (name : List ℕ) → NamesImport name → as_import_name name ≡ Some name
name_taken name is =
    let low : nat_le 1 (length name) ≡ true = grind (arith, nat_tests, is.0.0) in
    let high : nat_le (length name) 48 ≡ true = grind (arith, nat_tests, is.0.1) in
    rw (is.1, low, high) refl

imports : (store user name : List ℕ) → IsUser user → NamesImport name → import_of store user name ≡ Some (Import store user name)
imports store user name is named = rw (user_taken user is, name_taken name named) refl

exports : (store user : List ℕ) → IsUser user → export_of store user ≡ Some (Export store user)
exports store user is = rw (user_taken user is) refl

pub import_asked : ImportIsAsked
import_asked store user name is named =
    asked_plainly (codes "import") (store ∷ user ∷ name ∷ []) (Import store user name) refl refl (imports store user name is named)

pub export_asked : ExportIsAsked
export_asked store user is = asked_plainly (codes "export") (store ∷ user ∷ []) (Export store user) refl refl (exports store user is)
