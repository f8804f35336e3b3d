-- The texts of refusals, and of answers that tell a place, cut where numbers stand.
use Rattle.std.proofs.Common.{◌≡◌, ℕ, ◌++◌, refl, append_assoc}
use Rattle.std.specs.Prelude.{codes, decimal}
use Rattle.serde_json.specs.Written.{compact_text}
use Rattle.serde_json.proofs.OnLiterals.{serde_json_on_literals}
use Rattle.rv_turns.specs.declared.refusal.Which.{Which}
use Rattle.rv_turns.specs.declared.refusal.Which.TheVariants.{Book, Order}
use Rattle.rv_turns.specs.declared.refusal.Trouble.TheVariants.{Keeper, Changed}
use Rattle.rv_turns.specs.declared.refusal.Refusal.TheVariants.{Future, GroupOfOther, ClientOfOther, NotFound, NoGroup, Behind, Limit, Memory}
use Rattle.rv_wire.specs.declared.error_body.ErrorBody.TheVariants.{VersionNotSupported, NotJson, Field}
use Rattle.rv_wire.specs.declared.fault.FieldName.{FieldName}
use Rattle.rv_wire.specs.declared.fault.FieldName.TheVariants as fields
use Rattle.rv_wire.specs.declared.fault.VersionKind.{VersionKind}
use Rattle.rv_wire.specs.declared.fault.VersionKind.TheVariants as versions
use Rattle.rv_wire.specs.Answers.{closed_data, retired_data}
use Rattle.rv_wire.specs.Members.{field_text}
use Rattle.rv_wire.specs.Errors.{version_text, which_text, trouble_data, refusal_data, error_data}

pub future_text : (e g : ℕ) → (((codes "{\"error\":\"Future\",\"expected\":" ++ decimal e) ++ codes ",\"got\":") ++ decimal g) ++ codes "}" ≡ compact_text (refusal_data (Future e g))
unfolding serde_json_on_literals
future_text e g = simp append_assoc

pub behind_text : (n : ℕ) → (codes "{\"error\":\"behind\",\"length\":" ++ decimal n) ++ codes "}" ≡ compact_text (refusal_data (Behind n))
unfolding serde_json_on_literals
behind_text n = simp append_assoc

pub limit_text : (which : Which) (n : ℕ) → (codes "{\"at\":" ++ decimal n) ++ (codes ",\"error\":\"Limit\",\"which\":\"" ++ which_text which ++ codes "\"}") ≡ compact_text (refusal_data (Limit which n))
unfolding serde_json_on_literals
limit_text Book n = simp append_assoc
limit_text Order n = simp append_assoc

pub changed_text : (f k : ℕ) → (((codes "{\"error\":\"Changed\",\"found\":" ++ decimal f) ++ codes ",\"kept\":") ++ decimal k) ++ codes "}" ≡ compact_text (trouble_data (Changed k f))
unfolding serde_json_on_literals
changed_text f k = simp append_assoc

pub keeper_text : compact_text (trouble_data Keeper) ≡ codes "{\"error\":\"keeper\"}"
unfolding serde_json_on_literals
keeper_text = refl

pub memory_text : compact_text (refusal_data Memory) ≡ codes "{\"error\":\"memory\"}"
unfolding serde_json_on_literals
memory_text = refl

pub not_json_text : compact_text (error_data NotJson) ≡ codes "{\"error\":\"NotJson\"}"
unfolding serde_json_on_literals
not_json_text = refl

pub not_found_text : compact_text (refusal_data NotFound) ≡ codes "{\"error\":\"ClientStateNotFound\"}"
unfolding serde_json_on_literals
not_found_text = refl

pub group_of_other_text : compact_text (refusal_data GroupOfOther) ≡ codes "{\"error\":\"GroupOfOther\"}"
unfolding serde_json_on_literals
group_of_other_text = refl

pub client_of_other_text : compact_text (refusal_data ClientOfOther) ≡ codes "{\"error\":\"ClientOfOther\"}"
unfolding serde_json_on_literals
client_of_other_text = refl

pub no_group_text : compact_text (refusal_data NoGroup) ≡ codes "{\"error\":\"NoGroup\"}"
unfolding serde_json_on_literals
no_group_text = refl

pub field_error_text : (field : FieldName) → (codes "{\"error\":\"Field\",\"field\":\"" ++ field_text field) ++ codes "\"}" ≡ compact_text (error_data (Field field))
unfolding serde_json_on_literals
field_error_text fields.PushVersion = refl
field_error_text fields.PullVersion = refl
field_error_text fields.SchemaVersion = refl
field_error_text fields.ProfileId = refl
field_error_text fields.ClientGroupId = refl
field_error_text fields.Mutations = refl
field_error_text fields.ClientId = refl
field_error_text fields.Id = refl
field_error_text fields.Name = refl
field_error_text fields.Cookie = refl

pub version_error_text : (kind : VersionKind) → (codes "{\"error\":\"VersionNotSupported\",\"versionType\":\"" ++ version_text kind) ++ codes "\"}" ≡ compact_text (error_data (VersionNotSupported kind))
unfolding serde_json_on_literals
version_error_text versions.Push = refl
version_error_text versions.Pull = refl
version_error_text versions.Schema = refl

-- the answer to a retirement
pub retired_text_is : (place : ℕ) → (codes "{\"retired\":" ++ decimal place) ++ codes "}" ≡ compact_text (retired_data place)
unfolding serde_json_on_literals
retired_text_is place = simp append_assoc

-- the answer to the closing of a book
pub closed_text_is : (place : ℕ) → (codes "{\"closed\":" ++ decimal place) ++ codes "}" ≡ compact_text (closed_data place)
unfolding serde_json_on_literals
closed_text_is place = simp append_assoc
