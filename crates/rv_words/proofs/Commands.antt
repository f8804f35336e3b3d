-- What holds of each command that words ask for.
use Rattle.std.proofs.Common.{◌≡◌, ◌∙◌, ◌==◌, ◌&&◌, ◌≤◌, arith, refl, subst, sym, List, [], ◌∷◌, Option, Some, None, option_map, Bool, cond, true, false, codes, decimal, ℕ}
use Rattle.std.specs.Prelude.{length, nat_le, not, option_and_then}
use Rattle.std.specs.Int.{IsInRange}
use Rattle.std.specs.List.{list_any}
use Rattle.std.specs.Str.{bytes_eq}
use Rattle.std.specs.Str.Parse.{digits_value}
use Rattle.std.proofs.lemmas.Bool.Decides.{nat_tests}
use Rattle.rv_words.specs.Numbers.{number_in}
use Rattle.rv_words.specs.Words.{as_import_name, as_user, command_in, export_of, follow_of, import_of, is_id, make_of, options_with, retire_group_in}
use Rattle.rv_words.specs.Plain.{Part, asked_with, export_with, follow_with, import_with, make_with, on_store_with, parts_from, plainly_in, retire_with, serve_with, the_value, values_in}
use Rattle.rv_words.specs.Properties.{GroupsAreIds, IsUser, NamesImport, SeedsAreInBounds, UsersAreUsers}
use Rattle.rv_words.specs.FollowProperties.{PortsAreInBounds}
use Rattle.rv_words.specs.declared.command.Command.{Command}
use Rattle.rv_words.specs.declared.command.Command.TheVariants.{Activity, Check, CloseBook, Export, Feed, Follow, Import, Lists, Make, Retire, Serve, Ship}
use Rattle.rv_words.specs.declared.serve_options.ServeOptions.{ServeOptions}
use Rattle.rv_words.proofs.Lines.{line_is_plain}

abbrev AreBounded : ℕ → ℕ → Type 0
AreBounded seed requests = IsInRange 0 2147483647 seed × IsInRange 0 1000000 requests

-- it holds of the commands of stores alone and of `serve`, of `retire` with an `Id`, of `make` with numbers in bounds, of
-- `import` and `export` with a user and a name, and of `follow` with a port
record HoldsOf (P : Command → Type 0) : Type 0 where
  pub feed : (store : List ℕ) → P (Feed store)
  pub lists : (store : List ℕ) → P (Lists store)
  pub activity : (store : List ℕ) → P (Activity store)
  pub check : (store : List ℕ) → P (Check store)
  pub retire : (store group : List ℕ) → is_id group ≡ true → P (Retire store group)
  pub make : (seed requests : ℕ) → AreBounded seed requests → P (Make seed requests)
  pub import : (store user name : List ℕ) → IsUser user → NamesImport name → P (Import store user name)
  pub export : (store user : List ℕ) → IsUser user → P (Export store user)
  pub serve : (store : List ℕ) (options : ServeOptions) → P (Serve store options)
  pub close_book : (store : List ℕ) → P (CloseBook store)
  pub ship : (store : List ℕ) → P (Ship store)
  pub follow : (port : ℕ) → IsInRange 1 65535 port → P (Follow port)

both_true : (a b c : Bool) → (a && b && c) ≡ true → (b ≡ true) × (c ≡ true)
both_true true true true is = (refl, refl)
both_true true true false is = absurd (cc)
both_true true false c is = absurd (cc)
both_true false b c is = absurd (cc)

within : (least most number : ℕ) → nat_le least number ≡ true → nat_le number most ≡ true → IsInRange least most number
within least most number low high =
    let above : least ≤ number = grind (arith, nat_tests) in
    let below : number ≤ most = grind (arith, nat_tests) in
    (above, below)

-- a number that is read is in bounds
read_within : (least most number : ℕ) (text : List ℕ) → number_in least most text ≡ Some number → IsInRange least most number
read_within least most number text is =
    go (bytes_eq (decimal (digits_value 10 text)) text && nat_le least (digits_value 10 text) && nat_le (digits_value 10 text) most) refl is
  where
    go : (b : Bool) → (bytes_eq (decimal (digits_value 10 text)) text && nat_le least (digits_value 10 text) && nat_le (digits_value 10 text) most) ≡ b
        → cond b (Some (digits_value 10 text)) None ≡ Some number → IsInRange least most number
    go true tests is =
        let both = both_true _ _ _ tests in
        let same : digits_value 10 text ≡ number = cc in
        subst (λ (n : ℕ). IsInRange least most n) same (within least most (digits_value 10 text) both.0 both.1)
    go false tests is = absurd (cc)

two_true : (a b : Bool) → (a && b) ≡ true → (a ≡ true) × (b ≡ true)
two_true true true is = (refl, refl)
two_true true false is = absurd (cc)
two_true false b is = absurd (cc)

not_true : (a : Bool) → not a ≡ true → a ≡ false
not_true true is = absurd (cc)
not_true false is = refl

-- a user that is read is one
user_read : (text user : List ℕ) → as_user text ≡ Some user → IsUser user
user_read text user is = go (nat_le 1 (length text) && nat_le (length text) 64) refl is
  where
    go : (b : Bool) → (nat_le 1 (length text) && nat_le (length text) 64) ≡ b → cond b (Some text) None ≡ Some user → IsUser user
    go true tests is =
        let same : text ≡ user = cc in
        let both = two_true _ _ tests in
        subst IsUser same (within 1 64 (length text) both.0 both.1)
    go false tests is = absurd (cc)

-- the name of an import that is read is one
import_read : (text name : List ℕ) → as_import_name text ≡ Some name → NamesImport name
import_read text name is = go (not (list_any (λ byte. byte == 47) text) && nat_le 1 (length text) && nat_le (length text) 48) refl is
  where
    go : (b : Bool) → (not (list_any (λ byte. byte == 47) text) && nat_le 1 (length text) && nat_le (length text) 48) ≡ b
        → cond b (Some text) None ≡ Some name → NamesImport name
    go true tests is =
        let same : text ≡ name = cc in
        let both = both_true _ _ _ tests in
        let first = (two_true _ _ (two_true _ _ tests).0).0 in
        subst NamesImport same (within 1 48 (length text) both.0 both.1, not_true _ first)
    go false tests is = absurd (cc)

module _ (P : Command → Type 0) (holds : HoldsOf P) where
  abbrev AllHold : Option Command → Type 0
  AllHold asked = (command : Command) → asked ≡ Some command → P command

  this_holds : (known command : Command) → P known → Some known ≡ Some command → P command
  this_holds known command known_holds is =
      let same : known ≡ command = cc in
      subst P same known_holds

  by_store : (from : List ℕ) (feed lists activity check close_book ship : Bool)
      → AllHold (cond feed (Some (Feed from)) (cond lists (Some (Lists from)) (cond activity (Some (Activity from)) (cond check (Some (Check from)) (cond close_book (Some (CloseBook from)) (cond ship (Some (Ship from)) None))))))
  by_store from true lists activity check close_book ship command is = this_holds _ command (holds.feed from) is
  by_store from false true activity check close_book ship command is = this_holds _ command (holds.lists from) is
  by_store from false false true check close_book ship command is = this_holds _ command (holds.activity from) is
  by_store from false false false true close_book ship command is = this_holds _ command (holds.check from) is
  by_store from false false false false true ship command is = this_holds _ command (holds.close_book from) is
  by_store from false false false false false true command is = this_holds _ command (holds.ship from) is
  by_store from false false false false false false command is = absurd (cc)

  by_stores : (verb : List ℕ) (values : List (List ℕ)) → AllHold (on_store_with verb values)
  by_stores verb [] command is = absurd (cc)
  by_stores verb (from ∷ []) command is = by_store from
      (bytes_eq verb (codes "feed")) (bytes_eq verb (codes "lists")) (bytes_eq verb (codes "activity")) (bytes_eq verb (codes "check"))
      (bytes_eq verb (codes "close-book")) (bytes_eq verb (codes "ship")) command is
  by_stores verb (from ∷ more ∷ values) command is = absurd (cc)

  by_id : (from text : List ℕ) → AllHold (retire_group_in from text)
  by_id from text = go (is_id text) refl
    where
      go : (b : Bool) → is_id text ≡ b → AllHold (cond b (Some (Retire from text)) None)
      go true id command is = this_holds _ command (holds.retire from text id) is
      go false id command is = absurd (cc)

  by_retires : (values : List (List ℕ)) → AllHold (retire_with values)
  by_retires [] command is = absurd (cc)
  by_retires (from ∷ []) command is = absurd (cc)
  by_retires (from ∷ text ∷ []) command is = by_id from text command is
  by_retires (from ∷ text ∷ more ∷ values) command is = absurd (cc)

  by_numbers : (seed requests : List ℕ) → AllHold (make_of seed requests)
  by_numbers seed requests = go (number_in 0 2147483647 seed) (number_in 0 1000000 requests) refl refl
    where
      go : (s n : Option ℕ) → number_in 0 2147483647 seed ≡ s → number_in 0 1000000 requests ≡ n → AllHold (option_and_then (λ x. option_map (λ y. Make x y) n) s)
      go None n read counted command is = absurd (cc)
      go (Some x) None read counted command is = absurd (cc)
      go (Some x) (Some y) read counted command is =
          this_holds _ command (holds.make x y (read_within 0 2147483647 x seed read, read_within 0 1000000 y requests counted)) is

  by_makes : (values : List (List ℕ)) → AllHold (make_with values)
  by_makes [] command is = absurd (cc)
  by_makes (seed ∷ []) command is = absurd (cc)
  by_makes (seed ∷ requests ∷ []) command is = by_numbers seed requests command is
  by_makes (seed ∷ requests ∷ more ∷ values) command is = absurd (cc)

  by_import : (from user name : List ℕ) → AllHold (import_of from user name)
  by_import from user name = go (as_user user) (as_import_name name) refl refl
    where
      go : (u n : Option (List ℕ)) → as_user user ≡ u → as_import_name name ≡ n → AllHold (option_and_then (λ x. option_map (λ y. Import from x y) n) u)
      go None n is_user named command is = absurd (cc)
      go (Some x) None is_user named command is = absurd (cc)
      go (Some x) (Some y) is_user named command is = this_holds _ command (holds.import from x y (user_read user x is_user) (import_read name y named)) is

  by_imports : (values : List (List ℕ)) → AllHold (import_with values)
  by_imports [] command is = absurd (cc)
  by_imports (from ∷ []) command is = absurd (cc)
  by_imports (from ∷ user ∷ []) command is = absurd (cc)
  by_imports (from ∷ user ∷ name ∷ []) command is = by_import from user name command is
  by_imports (from ∷ user ∷ name ∷ more ∷ values) command is = absurd (cc)

  by_export : (from user : List ℕ) → AllHold (export_of from user)
  by_export from user = go (as_user user) refl
    where
      go : (u : Option (List ℕ)) → as_user user ≡ u → AllHold (option_map (λ x. Export from x) u)
      go None is_user command is = absurd (cc)
      go (Some x) is_user command is = this_holds _ command (holds.export from x (user_read user x is_user)) is

  by_exports : (values : List (List ℕ)) → AllHold (export_with values)
  by_exports [] command is = absurd (cc)
  by_exports (from ∷ []) command is = absurd (cc)
  by_exports (from ∷ user ∷ []) command is = by_export from user command is
  by_exports (from ∷ user ∷ more ∷ values) command is = absurd (cc)

  by_values : (verb : List ℕ) (retire make import export : Bool) (o : Option (List (List ℕ)))
      → AllHold (option_and_then (λ values. cond retire (retire_with values) (cond make (make_with values) (cond import (import_with values) (cond export (export_with values) (on_store_with verb values))))) o)
  by_values verb retire make import export None command is = absurd (cc)
  by_values verb true make import export (Some values) command is = by_retires values command is
  by_values verb false true import export (Some values) command is = by_makes values command is
  by_values verb false false true export (Some values) command is = by_imports values command is
  by_values verb false false false true (Some values) command is = by_exports values command is
  by_values verb false false false false (Some values) command is = by_stores verb values command is

  by_serve : (store : Option (List ℕ)) (options : Option ServeOptions) → AllHold (option_and_then (λ s. option_map (λ o. Serve s o) options) store)
  by_serve None options command is = absurd (cc)
  by_serve (Some s) None command is = absurd (cc)
  by_serve (Some s) (Some o) command is = this_holds _ command (holds.serve s o) is

  by_port : (text : List ℕ) → AllHold (follow_of text)
  by_port text = go (number_in 1 65535 text) refl
    where
      go : (n : Option ℕ) → number_in 1 65535 text ≡ n → AllHold (option_map (λ port. Follow port) n)
      go None read command is = absurd (cc)
      go (Some port) read command is = this_holds _ command (holds.follow port (read_within 1 65535 port text read)) is

  by_one_part : (part : Part) (named : Bool) → AllHold (cond named (follow_of part.1) None)
  by_one_part part true command is = by_port part.1 command is
  by_one_part part false command is = absurd (cc)

  by_follow : (parts : Option (List Part)) → AllHold (option_and_then follow_with parts)
  by_follow None command is = absurd (cc)
  by_follow (Some []) command is = absurd (cc)
  by_follow (Some (part ∷ [])) command is = by_one_part part (bytes_eq part.0 (codes "port")) command is
  by_follow (Some (part ∷ more ∷ parts)) command is = absurd (cc)

  by_parts : (parts : Option (List Part)) → AllHold (option_and_then serve_with parts)
  by_parts None command is = absurd (cc)
  by_parts (Some ps) command is = by_serve (the_value ps (codes "STORE")) (option_and_then (options_with (the_value ps)) (the_value ps (codes "accounts"))) command is

  by_verb : (verb : List ℕ) (words : List (List ℕ)) (serve follow : Bool) → AllHold (cond serve (option_and_then serve_with (parts_from None words))
      (cond follow (option_and_then follow_with (parts_from None words)) (option_and_then (asked_with verb) (values_in words))))
  by_verb verb words true follow command is = by_parts (parts_from None words) command is
  by_verb verb words false true command is = by_follow (parts_from None words) command is
  by_verb verb words false false command is = by_values verb (bytes_eq verb (codes "retire")) (bytes_eq verb (codes "make"))
      (bytes_eq verb (codes "import")) (bytes_eq verb (codes "export")) (values_in words) command is

  by_line : (words : List (List ℕ)) → AllHold (plainly_in words)
  by_line [] command is = absurd (cc)
  by_line (name ∷ []) command is = absurd (cc)
  by_line (name ∷ verb ∷ words) command is = by_verb verb words (bytes_eq verb (codes "serve")) (bytes_eq verb (codes "follow")) command is

  -- it holds of whatever words ask for
  all_hold : (words : List (List ℕ)) → AllHold (command_in words)
  all_hold words command is = by_line words command (sym (line_is_plain words) ∙ is)

-- ---- what is asked to retire is an `Id`, what `make` asks for is in bounds, and users and names of imports are such

abbrev HasId : Command → Type 0
HasId (Feed store) = Unit {0}
HasId (Retire store group) = is_id group ≡ true
HasId (Lists store) = Unit {0}
HasId (Activity store) = Unit {0}
HasId (Check store) = Unit {0}
HasId (Make seed requests) = Unit {0}
HasId (Import store user name) = Unit {0}
HasId (Export store user) = Unit {0}
HasId (Serve store options) = Unit {0}
HasId (CloseBook store) = Unit {0}
HasId (Ship store) = Unit {0}
HasId (Follow port) = Unit {0}

pub group_is_id : GroupsAreIds
group_is_id words store group is = all_hold HasId
    (record { feed = λ s. tt; lists = λ s. tt; activity = λ s. tt; check = λ s. tt; retire = λ s g id. id; make = λ s n bounded. tt; import = λ s u n is named. tt; export = λ s u is. tt; serve = λ s o. tt; close_book = λ s. tt; ship = λ s. tt; follow = λ p is. tt })
    words (Retire store group) is

abbrev HasBounds : Command → Type 0
HasBounds (Feed store) = Unit {0}
HasBounds (Retire store group) = Unit {0}
HasBounds (Lists store) = Unit {0}
HasBounds (Activity store) = Unit {0}
HasBounds (Check store) = Unit {0}
HasBounds (Make seed requests) = AreBounded seed requests
HasBounds (Import store user name) = Unit {0}
HasBounds (Export store user) = Unit {0}
HasBounds (Serve store options) = Unit {0}
HasBounds (CloseBook store) = Unit {0}
HasBounds (Ship store) = Unit {0}
HasBounds (Follow port) = IsInRange 1 65535 port

all_have_bounds : (words : List (List ℕ)) (command : Command) → command_in words ≡ Some command → HasBounds command
all_have_bounds = all_hold HasBounds
    (record { feed = λ s. tt; lists = λ s. tt; activity = λ s. tt; check = λ s. tt; retire = λ s g id. tt; make = λ s n bounded. bounded; import = λ s u n is named. tt; export = λ s u is. tt; serve = λ s o. tt; close_book = λ s. tt; ship = λ s. tt; follow = λ p is. is })

pub seeds_in_bounds : SeedsAreInBounds
seeds_in_bounds words seed requests = all_have_bounds words (Make seed requests)

pub ports_in_bounds : PortsAreInBounds
ports_in_bounds words port = all_have_bounds words (Follow port)

abbrev HasUser : Command → Type 0
HasUser (Feed store) = Unit {0}
HasUser (Retire store group) = Unit {0}
HasUser (Lists store) = Unit {0}
HasUser (Activity store) = Unit {0}
HasUser (Check store) = Unit {0}
HasUser (Make seed requests) = Unit {0}
HasUser (Import store user name) = IsUser user × NamesImport name
HasUser (Export store user) = IsUser user
HasUser (Serve store options) = Unit {0}
HasUser (CloseBook store) = Unit {0}
HasUser (Ship store) = Unit {0}
HasUser (Follow port) = Unit {0}

all_have_users : (words : List (List ℕ)) (command : Command) → command_in words ≡ Some command → HasUser command
all_have_users = all_hold HasUser
    (record { feed = λ s. tt; lists = λ s. tt; activity = λ s. tt; check = λ s. tt; retire = λ s g id. tt; make = λ s n bounded. tt; import = λ s u n is named. (is, named); export = λ s u is. is; serve = λ s o. tt; close_book = λ s. tt; ship = λ s. tt; follow = λ p is. tt })

pub users_are : UsersAreUsers
users_are = record {
  imports = λ words store user name. all_have_users words (Import store user name);
  exports = λ words store user. all_have_users words (Export store user);
}
