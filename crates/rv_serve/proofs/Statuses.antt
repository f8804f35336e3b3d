-- The status of each refusal is served.
use Rattle.std.proofs.Common.{◌≡◌, true, refl}
use Rattle.rv_http.specs.Responses.{is_status}
use Rattle.rv_turns.specs.declared.refusal.Refusal.{Refusal}
use Rattle.rv_turns.specs.declared.refusal.Refusal.TheVariants.{Future, GroupOfOther, ClientOfOther, NotFound, NoGroup, Behind, Limit, Trouble, Memory}
use Rattle.rv_turns.specs.declared.refusal.Trouble.TheVariants.{Keeper, Changed}
use Rattle.rv_wire.specs.declared.error_body.ErrorBody.{ErrorBody}
use Rattle.rv_wire.specs.declared.error_body.ErrorBody.TheVariants.{VersionNotSupported, NotJson, Field, Refused}
use Rattle.rv_wire.specs.Errors.{error_status, refusal_status}

refusal_served : (refusal : Refusal) → is_status (refusal_status refusal) ≡ true
refusal_served (Future expected got) = refl
refusal_served GroupOfOther = refl
refusal_served ClientOfOther = refl
refusal_served NotFound = refl
refusal_served NoGroup = refl
refusal_served (Behind length) = refl
refusal_served (Limit which at) = refl
refusal_served (Trouble Keeper) = refl
refusal_served (Trouble (Changed kept found)) = refl
refusal_served Memory = refl

pub error_served : (refusal : ErrorBody) → is_status (error_status refusal) ≡ true
error_served (VersionNotSupported kind) = refl
error_served NotJson = refl
error_served (Field field) = refl
error_served (Refused refusal) = refusal_served refusal
