-- The text of what was written.
use Rattle.std.proofs.Common.{◌≡◌, ℕ, zero, suc, ◌<◌, arith, List, [], get_or, replicate, ◌++◌, sym, ap, ap₂, ◌∙◌, subst}
use Rattle.std.specs.Str.{IsUtf8}
use Rattle.std.proofs.lemmas.Str.{IsUtf8-append, IsUtf8-from_ascii}
use Rattle.json.specs.Token.{Token}
use Rattle.json.specs.Print.{print}
use Rattle.json.specs.Tree.{json_tokens}
use Rattle.serde_json.specs.Data.{Data}
use Rattle.serde_json.specs.Written.{outline, compact_text}
use Rattle.serde_json.proofs.Texts.{print-outline}

-- where nothing stood before, the text is that of the value that was written
pub text_of : (d : Data) (text before start : List ℕ) (tokens first : List Token) → text ≡ before ++ print tokens → before ≡ start → tokens ≡ first ++ json_tokens (outline d) → start ≡ [] → first ≡ [] → text ≡ compact_text d
text_of d text before start tokens first is same written none no_token =
    is ∙ ap₂ (λ (s : List ℕ) (ts : List Token). s ++ print ts) (same ∙ none) (written ∙ ap (λ (ts : List Token). ts ++ json_tokens (outline d)) no_token) ∙ print-outline d

-- and it is UTF-8
pub utf8_of : (text before start : List ℕ) (tokens : List Token) → text ≡ before ++ print tokens → before ≡ start → start ≡ [] → IsUtf8 (print tokens) → IsUtf8 text
utf8_of text before start tokens is same none utf8 = subst IsUtf8 (sym (is ∙ ap (λ (s : List ℕ). s ++ print tokens) (same ∙ none))) utf8

-- zeros before digits
zeros_ascii : (n i : ℕ) → get_or (replicate n 48) i 0 < 128
zeros_ascii zero zero = omega arith
zeros_ascii zero (suc i) = omega arith
zeros_ascii (suc n) zero = omega arith
zeros_ascii (suc n) (suc i) = zeros_ascii n i

pub digits-utf8 : (n : ℕ) (text zeros digits : List ℕ) → text ≡ zeros ++ digits → zeros ≡ replicate n 48 → IsUtf8 digits → IsUtf8 text
digits-utf8 n text zeros digits is none utf8 = subst IsUtf8 (sym (is ∙ ap (λ (z : List ℕ). z ++ digits) none)) (IsUtf8-append (replicate n 48) digits (IsUtf8-from_ascii (replicate n 48) (zeros_ascii n)) utf8)
