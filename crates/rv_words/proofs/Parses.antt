-- What clap's contracts say of a parse by the table.
use Rattle.std.proofs.Common.{◌≡◌, inl, inr, ap, refl, subst, List, [], ◌∷◌, Some, None, true, false}
use Rattle.clap.specs.Words.{App, HasKind, HasMatchesOf, Kinds, Text, fault_of, is_simple, is_simple_and_free, kind_of}
use Rattle.clap.specs.declared.error.Error.{Error}
use Rattle.clap.specs.declared.error.ErrorKind.TheVariants.{OutOfMemory}
use Rattle.clap.specs.declared.parser.ArgMatches.{ArgMatches}
use Rattle.clap.proofs.OnLiterals.{clap_on_literals}
use Rattle.rv_words.specs.Table.{rv_app}
use Rattle.rv_words.specs.Words.{Parses, is_taken}

rv_is_simple : is_simple rv_app ≡ true
unfolding rv_app clap_on_literals
rv_is_simple = refl

rv_is_free : is_simple_and_free rv_app ≡ true
unfolding rv_app clap_on_literals
rv_is_free = refl

pub parsed : (app : App) (words : List Text) (matches : ArgMatches) → app ≡ rv_app → HasMatchesOf app words matches
    → (is_simple_and_free app ≡ true → fault_of app words ≡ []) → Parses words (Some matches)
parsed app words matches is_rv has free =
    let same = subst (λ (a : App). HasMatchesOf a words matches) is_rv has in
    let none = subst (λ (a : App). is_simple_and_free a ≡ true → fault_of a words ≡ []) is_rv free in
    (ap is_taken (none rv_is_free), (same rv_is_simple).1)

not_taken : (kinds : Kinds) (error : Error) → HasKind kinds error → (kind_of error ≡ OutOfMemory → ⊥) → is_taken kinds ≡ false
not_taken [] error (inl memory) other = absurd (other memory)
not_taken [] error (inr among) other = absurd among
not_taken (kind ∷ kinds) error has other = refl

pub refused : (app : App) (words : List Text) (error : Error) → app ≡ rv_app → (is_simple_and_free app ≡ true → HasKind (fault_of app words) error)
    → (kind_of error ≡ OutOfMemory → ⊥) → Parses words None
refused app words error is_rv fails other =
    let named = subst (λ (a : App). is_simple_and_free a ≡ true → HasKind (fault_of a words) error) is_rv fails in
    not_taken (fault_of rv_app words) error (named rv_is_free) other
