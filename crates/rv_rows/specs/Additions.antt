-- What a writer of JSON adds to the tokens that it has written.
use Rattle.std.specs.Prelude.{◌≡◌, List, [], ◌∷◌, ◌++◌, codes, OnOk, Result}
use Rattle.json.specs.Token.{Token, key, string}
use Rattle.json.specs.Tree.{json_tokens}
use Rattle.json.specs.Written.{Written}
use Rattle.serde_json.specs.Data.{Data}
use Rattle.serde_json.specs.Written.{outline}
use Rattle.rv_rows.specs.declared.role.Role.{Role}
use Rattle.rv_rows.specs.declared.role.Role.TheVariants as roles

-- At Ok the tokens stand behind those that were there; at Err this says nothing of the tokens. What the buffer held before
-- the first token stays either way.
abbrev pub AddsTokens : {E : Type 0} → Result (Unit {0}) E → Written → Written → List Token → Type 0
AddsTokens result old new tokens = (new.before ≡ old.before) × OnOk result (new.tokens ≡ old.tokens ++ tokens)

-- At Ok the value, whole, stands behind what was there.
abbrev pub AddsValue : {E : Type 0} → Result (Unit {0}) E → Written → Written → Data → Type 0
AddsValue result old new value = AddsTokens result old new (json_tokens (outline value))

-- the tokens of the member of a share's role; of one that lets edit there are none
abbrev pub role_tokens : Role → List Token
role_tokens roles.View = key (codes "role") ∷ string (codes "view") ∷ []
role_tokens roles.Edit = []
