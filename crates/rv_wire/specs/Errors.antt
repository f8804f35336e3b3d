-- A refusal: its status, and its body as JSON.
use Rattle.std.specs.Prelude.{ℕ, List, codes}
use Rattle.serde_json.specs.Data.{Data, number, unsigned, string, object, member, no_members}
use Rattle.rv_turns.specs.declared.refusal.Which.{Which}
use Rattle.rv_turns.specs.declared.refusal.Which.TheVariants.{Book, Order}
use Rattle.rv_turns.specs.declared.refusal.Trouble as troubles
use Rattle.rv_turns.specs.declared.refusal.Trouble.TheVariants.{Keeper, Changed}
use Rattle.rv_turns.specs.declared.refusal.Refusal.{Refusal}
use Rattle.rv_turns.specs.declared.refusal.Refusal.TheVariants.{Future, GroupOfOther, ClientOfOther, NotFound, NoGroup, Behind, Limit, Trouble, Memory}
use Rattle.rv_wire.specs.declared.error_body.ErrorBody.{ErrorBody}
use Rattle.rv_wire.specs.declared.error_body.ErrorBody.TheVariants.{VersionNotSupported, NotJson, Field, Refused}
use Rattle.rv_wire.specs.declared.fault.WireFault.{WireFault}
use Rattle.rv_wire.specs.declared.fault.WireFault.TheVariants as faults
use Rattle.rv_wire.specs.declared.fault.VersionKind.{VersionKind}
use Rattle.rv_wire.specs.declared.fault.VersionKind.TheVariants as versions
use Rattle.rv_wire.specs.Members.{field_text}

-- the word for what is full
abbrev pub which_text : Which → List ℕ
which_text Book = codes "book"
which_text Order = codes "order"

-- the word for what a version is of
abbrev pub version_text : VersionKind → List ℕ
version_text versions.Push = codes "push"
version_text versions.Pull = codes "pull"
version_text versions.Schema = codes "schema"

-- the body and the status of a turn that could not be kept
abbrev pub trouble_data : troubles.Trouble → Data
trouble_data Keeper = object (member (codes "error") (string (codes "keeper")) no_members)
trouble_data (Changed kept found) = object (member (codes "error") (string (codes "Changed")) (member (codes "found") (number (unsigned found)) (member (codes "kept") (number (unsigned kept)) no_members)))

abbrev pub trouble_status : troubles.Trouble → ℕ
trouble_status Keeper = 503
trouble_status (Changed kept found) = 500

-- The body of a refused turn: `error` is the refusal's name, beside what it tells. The client's reference calls the answer for a retired
-- group `ClientStateNotFound`.
abbrev pub refusal_data : Refusal → Data
refusal_data (Future expected got) = object (member (codes "error") (string (codes "Future")) (member (codes "expected") (number (unsigned expected)) (member (codes "got") (number (unsigned got)) no_members)))
refusal_data GroupOfOther = object (member (codes "error") (string (codes "GroupOfOther")) no_members)
refusal_data ClientOfOther = object (member (codes "error") (string (codes "ClientOfOther")) no_members)
refusal_data NotFound = object (member (codes "error") (string (codes "ClientStateNotFound")) no_members)
refusal_data NoGroup = object (member (codes "error") (string (codes "NoGroup")) no_members)
refusal_data (Behind length) = object (member (codes "error") (string (codes "behind")) (member (codes "length") (number (unsigned length)) no_members))
refusal_data (Limit which at) = object (member (codes "at") (number (unsigned at)) (member (codes "error") (string (codes "Limit")) (member (codes "which") (string (which_text which)) no_members)))
refusal_data (Trouble trouble) = trouble_data trouble
refusal_data Memory = object (member (codes "error") (string (codes "memory")) no_members)

-- 200 where the client's reference names the answer, 403 where another owns what is named, 404 where nothing has the name, 409 for a
-- mutation from the future, 500 where what is kept was changed by another, 503 where the keeper failed, where the book is behind and for
-- want of memory, and 507 where something is full (RFC 9110, section 15; RFC 4918, section 11.5)
abbrev pub refusal_status : Refusal → ℕ
refusal_status (Future expected got) = 409
refusal_status GroupOfOther = 403
refusal_status ClientOfOther = 403
refusal_status NotFound = 200
refusal_status NoGroup = 404
refusal_status (Behind length) = 503
refusal_status (Limit which at) = 507
refusal_status (Trouble trouble) = trouble_status trouble
refusal_status Memory = 503

-- the body of any refusal
abbrev pub error_data : ErrorBody → Data
error_data (VersionNotSupported kind) = object (member (codes "error") (string (codes "VersionNotSupported")) (member (codes "versionType") (string (version_text kind)) no_members))
error_data NotJson = object (member (codes "error") (string (codes "NotJson")) no_members)
error_data (Field field) = object (member (codes "error") (string (codes "Field")) (member (codes "field") (string (field_text field)) no_members))
error_data (Refused refusal) = refusal_data refusal

-- 200 where the client's reference names the answer, and 400 for a body that can't be read (RFC 9110, section 15)
abbrev pub error_status : ErrorBody → ℕ
error_status (VersionNotSupported kind) = 200
error_status NotJson = 400
error_status (Field field) = 400
error_status (Refused refusal) = refusal_status refusal

-- the answer to a body that is not taken
abbrev pub fault_error : WireFault → ErrorBody
fault_error faults.NotJson = NotJson
fault_error (faults.Field field) = Field field
fault_error (faults.Version kind) = VersionNotSupported kind
fault_error faults.Memory = Refused Memory
