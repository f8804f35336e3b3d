-- What bytes are as text, from what the readers say; and what is read again as what was written.
use Rattle.std.proofs.Common.{◌≡◌, ℕ, ◌<◌, ◌^◌, true, false, cond, List, Some, None, refl, arith}
use Rattle.std.specs.Str.{IsUtf8, is_utf8}
use Rattle.std.proofs.lemmas.Str.{IsUtf8-from_is_utf8, is_utf8-from_IsUtf8}
use Rattle.std.proofs.lemmas.Bool.Decides.{nat_tests}
use Rattle.serde_json.specs.Data.{number, unsigned}
use Rattle.rv_base.specs.Texts.{IsWithin}
use Rattle.rv_rows.specs.Members.{within, num_in}
use Rattle.rv_record.specs.ValueReading.{utf8_text_in, place_in}

pub text_some : (low high : ℕ) (bytes : List ℕ) → IsUtf8 bytes → utf8_text_in low high bytes ≡ within low high bytes
unfolding utf8_text_in
text_some low high bytes valid = rw (is_utf8-from_IsUtf8 bytes valid) refl

pub text_none : (low high : ℕ) (bytes : List ℕ) → ¬ IsUtf8 bytes → utf8_text_in low high bytes ≡ None
unfolding utf8_text_in
text_none low high bytes none = elim (is_utf8 bytes) as (λ b. is_utf8 bytes ≡ b → cond b (within low high bytes) None ≡ None) [ true ↦ λ e. absurd (none (IsUtf8-from_is_utf8 bytes e)) | false ↦ λ e. refl ] refl

pub within_again : (low high : ℕ) (text : List ℕ) → IsWithin low high text → within low high text ≡ Some text
within_again low high text fits = grind (arith, nat_tests)

pub text_again : (low high : ℕ) (text : List ℕ) → IsWithin low high text → IsUtf8 text → utf8_text_in low high text ≡ Some text
text_again low high text fits valid = rw (text_some low high text valid) (within_again low high text fits)

pub num_again : (n : ℕ) → n < 2 ^ 53 → num_in (number (unsigned n)) ≡ Some n
num_again n fits = grind (arith, nat_tests)

pub place_again : (n : ℕ) → n < 2 ^ 32 → place_in (number (unsigned n)) ≡ Some n
place_again n fits = grind (arith, nat_tests)

-- whole numbers as they are kept are of 64 bits
pub num_plain : (n : ℕ) → n < 2 ^ 53 → n < 2 ^ 64
num_plain n fits = omega arith

pub place_plain : (n : ℕ) → n < 2 ^ 32 → n < 2 ^ 64
place_plain n fits = omega arith
