-- What a document is, and what its arrays are.
use Rattle.std.proofs.Common.{◌≡◌, ℕ, true, false, List, [], ◌∷◌, map, Some, None, Ok, Err, refl, ap}
use Rattle.std.specs.Prelude.{IsUtf8}
use Rattle.std.specs.Str.{is_utf8}
use Rattle.std.proofs.lemmas.Str.{IsUtf8-from_is_utf8, is_utf8-from_IsUtf8}
use Rattle.toml.specs.View.{view, items_view}
use Rattle.toml.specs.declared.value.Value.{Value}
use Rattle.toml.specs.Data.{Members}
use Rattle.toml.specs.Parse.{parse_document}
use Rattle.rv_accounts.specs.declared.fault.AccountsFault.TheVariants.{BadFile}
use Rattle.rv_accounts.specs.File.{document_in, array_values}

-- a list of data as it was
pub list_again : (values : List Value) → array_values (items_view values) ≡ map view values
list_again [] = refl
list_again (v ∷ values) = ap (λ l. view v ∷ l) (list_again values)

pub text_document : (bytes : List ℕ) (table : Members) → IsUtf8 bytes → parse_document bytes ≡ Some table → document_in bytes ≡ Ok table
text_document bytes table is parsed = rw (is_utf8-from_IsUtf8 bytes is, parsed) refl

pub no_document : (bytes : List ℕ) → (IsUtf8 bytes → parse_document bytes ≡ None) → document_in bytes ≡ Err (BadFile 0)
no_document bytes refused =
    elim (is_utf8 bytes) as (λ b. is_utf8 bytes ≡ b → document_in bytes ≡ Err (BadFile 0)) [
      | true ↦ λ e. rw (e, refused (IsUtf8-from_is_utf8 bytes e)) refl
      | false ↦ λ e. rw e refl
    ] refl
