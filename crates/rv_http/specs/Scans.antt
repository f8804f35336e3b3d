-- What a scan of the bytes of a head gives.
use Rattle.std.specs.Prelude.{◌≡◌, ℕ, List, [], ◌∷◌}
use Rattle.httparse.specs.Grammar.{HasNoRequest, NeverHasRequest, MayBecomeRequest, EndsInTarget}
use Rattle.httparse.specs.declared.spans.HeaderSpan.{HeaderSpan}
use Rattle.httparse.specs.Spans.{IsRequestOf, IsRequestWithin}
use Rattle.rv_http.specs.declared.scan.HeadScan.{HeadScan}
use Rattle.rv_http.specs.declared.scan.HeadScan.TheVariants.{Whole, Open, Refused}
use Rattle.rv_http.specs.declared.fields.Values.{Values}
use Rattle.rv_http.specs.declared.fields.Values.TheVariants.{Absent, One, Many}

-- no bytes can follow that make a head, and the bytes don't end inside the target
abbrev pub HeadIsRefused : List ℕ → Type 0
HeadIsRefused bytes = NeverHasRequest bytes × ¬ (EndsInTarget bytes)

-- no head yet, and the bytes aren't refused
abbrev pub IsOpen : List ℕ → Type 0
IsOpen bytes = HasNoRequest bytes × MayBecomeRequest bytes

abbrev pub Scans : List ℕ → List HeaderSpan → HeadScan → Type 0
Scans bytes spans (Whole found) = IsRequestOf bytes spans found × IsRequestWithin bytes spans found
Scans bytes spans Open = IsOpen bytes
Scans bytes spans Refused = HeadIsRefused bytes

-- the values of the fields of one name: none, one, or the first of several
abbrev pub AreValues : List (List ℕ) → Values → Type 0
AreValues values Absent = values ≡ []
AreValues values (One value) = values ≡ value.now ∷ []
AreValues values (Many value) = (other : List ℕ) × (more : List (List ℕ)) × (values ≡ value.now ∷ other ∷ more)
