-- The steps of reading a request.
use Rattle.std.specs.Prelude.{◌≡◌, ℕ, ◌+◌, ◌<◌, ◌≤◌, ◌⊎◌, List, ◌++◌, length, take, Option, Result, Ok, Err, Bool, true, false, if◌then◌else◌, ◌==◌}
use Rattle.std.specs.Io.KnownBytes.{Consumes, IsAtEnd}
use Rattle.httparse.specs.declared.spans.HeaderSpan.{HeaderSpan}
use Rattle.httparse.specs.declared.spans.RequestSpans.{RequestSpans}
use Rattle.httparse.specs.Spans.{IsRequestOf, IsRequestWithin}
use Rattle.rv_http.specs.declared.body.BodyStop.{BodyStop}
use Rattle.rv_http.specs.declared.body.BodyStop.TheVariants as bodies
use Rattle.rv_http.specs.declared.reading.HeadStop.{HeadStop}
use Rattle.rv_http.specs.declared.reading.HeadStop.TheVariants as heads
use Rattle.rv_http.specs.declared.http_end.HttpEnd.{HttpEnd}
use Rattle.rv_http.specs.declared.http_end.HttpEnd.TheVariants.{End, Cut, BadHead, HeadTooLarge, ReadFault, Memory}
use Rattle.rv_http.specs.Numbers.{head_limit}
use Rattle.rv_http.specs.declared.parts.Parts.{Parts}
use Rattle.rv_http.specs.Heads.{Head, judge, is_head}
use Rattle.rv_http.specs.Parts.{parts_of}
use Rattle.rv_http.specs.Scans.{IsOpen, HeadIsRefused}
use Rattle.rv_http.specs.Requests.{BeginsWithHead}

-- the search for a head told the end of the source
abbrev pub search_ended : {T : Type 0} → Result T HeadStop → Bool
search_ended (Ok found) = false
search_ended (Err heads.Ended) = true
search_ended (Err heads.Fault) = false
search_ended (Err heads.Refused) = false
search_ended (Err heads.TooLong) = false

-- a read of a head failed
abbrev pub search_failed : {T : Type 0} → Result T HeadStop → Bool
search_failed (Ok found) = false
search_failed (Err heads.Ended) = false
search_failed (Err heads.Fault) = true
search_failed (Err heads.Refused) = false
search_failed (Err heads.TooLong) = false

-- a body was read to the end of the source
abbrev pub body_ended : {T : Type 0} → Result T BodyStop → Bool
body_ended (Ok body) = false
body_ended (Err bodies.Ended) = true
body_ended (Err bodies.Fault) = false
body_ended (Err bodies.Memory) = false

-- a read of a body failed
abbrev pub body_failed : {T : Type 0} → Result T BodyStop → Bool
body_failed (Ok body) = false
body_failed (Err bodies.Ended) = false
body_failed (Err bodies.Fault) = true
body_failed (Err bodies.Memory) = false

-- these bytes were read, of a body of so many bytes that is filled from a position on
abbrev pub Filled : ℕ → ℕ → List ℕ → List ℕ → Option (List ℕ) → List ℕ → Result (Unit {0}) BodyStop → Type 0
Filled from n old new left read (Ok done) = (new ≡ take from old ++ read) × (from + length read ≡ n)
Filled from n old new left read (Err bodies.Ended) = (from + length read < n) × IsAtEnd left
Filled from n old new left read (Err bodies.Fault) = from + length read < n
Filled from n old new left read (Err bodies.Memory) = from + length read < n

abbrev pub Fills : ℕ → ℕ → List ℕ → List ℕ → Option (List ℕ) → Option (List ℕ) → Result (Unit {0}) BodyStop → Type 0
Fills from n old new left left' result = (read : List ℕ) × Consumes left left' read × Filled from n old new left' read result

-- bytes that were read ahead and bytes of the source, of which a body is taken
abbrev pub BodyOf : ℕ → List ℕ → List ℕ → Option (List ℕ) → Result (List ℕ) BodyStop → Type 0
BodyOf n bytes rest left (Ok body) = (length body ≡ n) × (bytes ≡ body ++ rest)
BodyOf n bytes rest left (Err bodies.Ended) = (length bytes < n) × IsAtEnd left
BodyOf n bytes rest left (Err bodies.Fault) = length bytes < n
BodyOf n bytes rest left (Err bodies.Memory) = Unit {0}

abbrev pub ReadsBody : ℕ → List ℕ → List ℕ → Option (List ℕ) → Option (List ℕ) → Result (List ℕ) BodyStop → Type 0
ReadsBody n pending pending' left left' result = (read : List ℕ) × Consumes left left' read × BodyOf n (pending ++ read) pending' left' result

-- where the search for a head stopped
abbrev pub Found : List ℕ → List HeaderSpan → Option (List ℕ) → Result RequestSpans HeadStop → Type 0
Found bytes spans left (Ok found) = IsRequestOf bytes spans found × IsRequestWithin bytes spans found
Found bytes spans left (Err heads.Ended) = (length bytes < head_limit) × IsOpen bytes × IsAtEnd left
Found bytes spans left (Err heads.Fault) = (length bytes < head_limit) × IsOpen bytes
Found bytes spans left (Err heads.Refused) = (length bytes ≤ head_limit) × HeadIsRefused bytes
Found bytes spans left (Err heads.TooLong) = (length bytes ≡ head_limit) × IsOpen bytes

abbrev pub FindsHead : List ℕ → List ℕ → List HeaderSpan → Option (List ℕ) → Option (List ℕ) → Result RequestSpans HeadStop → Type 0
FindsHead pending pending' spans left left' result = (read : List ℕ) × (pending' ≡ pending ++ read) × Consumes left left' read × Found pending' spans left' result

-- what is told where no head was found, with so many bytes read
abbrev pub head_end : HeadStop → ℕ → HttpEnd
head_end heads.Ended count = if count == 0 then End else Cut
head_end heads.Fault count = ReadFault
head_end heads.Refused count = BadHead false
head_end heads.TooLong count = HeadTooLarge false

-- what is told where no body was read
abbrev pub body_end : BodyStop → Bool → HttpEnd
body_end bodies.Ended flag = Cut
body_end bodies.Fault flag = ReadFault
body_end bodies.Memory flag = Memory flag

-- the head is taken off, or refused; or it passes its checks, and memory was refused
abbrev pub TakesHead : Head → List ℕ → List ℕ → Result (Parts × ℕ) HttpEnd → Type 0
TakesHead head more rest (Ok taken) = (taken.0 ≡ parts_of head) × (judge head ≡ Ok taken.1) × (rest ≡ more)
TakesHead head more rest (Err e) = (judge head ≡ Err e) ⊎ ((n : ℕ) × (judge head ≡ Ok n) × (e ≡ Memory (is_head head)))

abbrev pub TakesFirstHead : List ℕ → List ℕ → Result (Parts × ℕ) HttpEnd → Type 0
TakesFirstHead bytes rest result = (head : Head) × (more : List ℕ) × BeginsWithHead bytes head more × TakesHead head more rest result
