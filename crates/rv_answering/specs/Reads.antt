-- What is read of a line, where memory may be refused.
use Rattle.std.specs.Prelude.{◌≡◌, ◌⊎◌, Option, Some, None, Ok, Err}
use Rattle.rv_wire.specs.declared.fault.WireFault.TheVariants as faults
use Rattle.rv_answering.specs.declared.request.Request.TheVariants.{Push, Pull, Retire, Close}
use Rattle.rv_answering.specs.declared.line.Line.{Line}
use Rattle.rv_answering.specs.declared.line.Line.TheVariants.{Asks, Stop}
use Rattle.rv_answering.specs.Requests.{Parsed}

-- it is asked by a push's or a pull's body, of the form or not
abbrev pub HasBody : Parsed → Type 0
HasBody (Ok (Push user push)) = Unit {0}
HasBody (Ok (Pull user pull)) = Unit {0}
HasBody (Ok (Retire group)) = ⊥
HasBody (Ok Close) = ⊥
HasBody (Err fault) = Unit {0}

-- What was read is what is asked; or memory was refused in reading a body.
abbrev pub IsReading : Parsed → Parsed → Type 0
IsReading asked read = (read ≡ asked) ⊎ ((read ≡ Err faults.Memory) × HasBody asked)

-- and it is of the form exactly where the line is
abbrev pub AreReadings : Option Parsed → Option Parsed → Type 0
AreReadings (Some asked) (Some read) = IsReading asked read
AreReadings None None = Unit {0}
AreReadings (Some asked) None = ⊥
AreReadings None (Some read) = ⊥

-- the same of what a line is
abbrev pub IsLineRead : Line → Line → Type 0
IsLineRead (Asks asked) (Asks read) = IsReading asked read
IsLineRead Stop Stop = Unit {0}
IsLineRead (Asks asked) Stop = ⊥
IsLineRead Stop (Asks read) = ⊥

abbrev pub AreLines : Option Line → Option Line → Type 0
AreLines (Some line) (Some read) = IsLineRead line read
AreLines None None = Unit {0}
AreLines (Some line) None = ⊥
AreLines None (Some read) = ⊥
