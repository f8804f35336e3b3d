-- The texts that a run writes: the lines of answers, and the text of each status.
use Rattle.std.specs.Prelude.{ℕ, ◌&&◌, ◌==◌, List, [], ◌∷◌, ◌++◌, codes, decimal, nat_le, not, if◌then◌else◌}
use Rattle.std.specs.List.{flat_map}
use Rattle.percent_encoding.specs.Percent.{percent_encode_byte}
use Rattle.rv_base.specs.declared.fault.Fault.{Fault}
use Rattle.rv_base.specs.declared.fault.Fault.TheVariants as outside
use Rattle.rv_record.specs.declared.fault.Damage.{Damage}
use Rattle.rv_answering.specs.declared.answer.Answer.{Answer}
use Rattle.rv_answering.specs.declared.answer.Answer.TheVariants as answers
use Rattle.rv_wire.specs.declared.error_body.ErrorBody.TheVariants as errors
use Rattle.rv_answering.specs.Texts.{answer_status, answer_body}
use Rattle.rv_desk.specs.declared.open_fault.OpenFault.{OpenFault}
use Rattle.rv_desk.specs.declared.open_fault.OpenFault.TheVariants as faults
use Rattle.rv_cli.specs.declared.ending.Ending.{Ending}
use Rattle.rv_cli.specs.declared.ending.Ending.TheVariants.{Done, Keeper, Damaged, Read, Write, Memory, Malformed}
use Rattle.rv_cli.specs.declared.import_ending.ImportEnding.{ImportEnding}
use Rattle.rv_cli.specs.declared.import_ending.ImportEnding.TheVariants as imports
use Rattle.rv_cli.specs.declared.serve_ending.ServeEnding.{ServeEnding}
use Rattle.rv_cli.specs.declared.serve_ending.ServeEnding.TheVariants as serves

-- STATUS BODY, and LF
abbrev pub line_text : ℕ → List ℕ → List ℕ
line_text status body = decimal status ++ (codes " " ++ (body ++ codes "\n"))

abbrev pub text_of : Answer → List ℕ
text_of answer = line_text (answer_status answer) (answer_body answer)

-- how a run ends whose desk is not opened
abbrev pub fault_ending : OpenFault → Ending
fault_ending faults.Keeper = Keeper
fault_ending (faults.Damaged damage) = Damaged damage
fault_ending faults.Memory = Memory

-- and whose keeper the place does not give
abbrev pub keep_ending : Fault → Ending
keep_ending outside.Failed = Keeper
keep_ending outside.Memory = Memory

abbrev pub status_of : Ending → ℕ
status_of Done = 0
status_of Keeper = 4
status_of (Damaged damage) = 5
status_of Read = 6
status_of Write = 7
status_of Memory = 8
status_of (Malformed line) = 10

-- a byte of a key as it is shown: a visible character other than % as it stands, and any other byte as % and two hexadecimal
-- digits (URL Standard, section 1.3)
abbrev pub shown_byte : ℕ → List ℕ
shown_byte byte = if nat_le 33 byte && nat_le byte 126 && not (byte == 37) then byte ∷ [] else percent_encode_byte byte

-- SHELF KEY
abbrev pub place_text : Damage → List ℕ
place_text damage = decimal damage.shelf ++ (codes " " ++ flat_map shown_byte damage.key)

-- the status's own text
abbrev pub status_text : Ending → List ℕ
status_text Done = []
status_text Keeper = codes "keeper\n"
status_text (Damaged damage) = codes "damaged: " ++ (place_text damage ++ codes "\n")
status_text Read = codes "read\n"
status_text Write = []
status_text Memory = codes "memory\n"
status_text (Malformed line) = codes "line " ++ (decimal line ++ codes "\n")

-- the same of an ending of `serve`
abbrev pub serve_status : ServeEnding → ℕ
serve_status serves.Done = 0
serve_status (serves.BadAccounts number) = 3
serve_status (serves.TwiceAccounts number) = 3
serve_status (serves.NotOpened ending) = status_of ending
serve_status serves.Net = 9
serve_status serves.Memory = 8
serve_status serves.Write = 7

abbrev pub serve_text : ServeEnding → List ℕ
serve_text serves.Done = []
serve_text (serves.BadAccounts number) = codes "accounts: bad " ++ (decimal number ++ codes "\n")
serve_text (serves.TwiceAccounts number) = codes "accounts: twice " ++ (decimal number ++ codes "\n")
serve_text (serves.NotOpened ending) = status_text ending
serve_text serves.Net = codes "net\n"
serve_text serves.Memory = codes "memory\n"
serve_text serves.Write = []

-- and of one of `import`
abbrev pub import_status : ImportEnding → ℕ
import_status imports.Done = 0
import_status imports.Read = 6
import_status imports.TooLarge = 11
import_status (imports.BadRecord number) = 11
import_status (imports.Refused refusal) = 12
import_status imports.Memory = 8
import_status imports.Write = 7

-- The line of a refusal is that of its answer.
abbrev pub import_ending_text : ImportEnding → List ℕ
import_ending_text imports.Done = []
import_ending_text imports.Read = codes "read\n"
import_ending_text imports.TooLarge = codes "csv size\n"
import_ending_text (imports.BadRecord number) = codes "csv " ++ (decimal number ++ codes "\n")
import_ending_text (imports.Refused refusal) = text_of (answers.Refused (errors.Refused refusal))
import_ending_text imports.Memory = codes "memory\n"
import_ending_text imports.Write = []

abbrev pub usage_text : List ℕ
usage_text = codes "usage: rv feed|serve|retire|lists|activity|check|make|close-book|ship|follow|import|export\n"
