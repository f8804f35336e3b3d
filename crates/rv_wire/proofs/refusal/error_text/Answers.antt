use Rattle.std.proofs.Common.{refl}
use Rattle.rv_wire.proofs.ErrorTexts.{not_json_text, field_error_text, version_error_text}
use Rattle.rv_wire.proofs.refusal.error_text.Goals as goal

pub returns-in-VersionNotSupported-clause-text : goal.returns-in-VersionNotSupported-clause-text
returns-in-VersionNotSupported-clause-text c = rw (c.put_text.ensures.text, c.as_bytes.ensures.value, c.name.ensures.name, c.in-VersionNotSupported.is) (version_error_text _)

pub returns-in-NotJson-clause-text : goal.returns-in-NotJson-clause-text
returns-in-NotJson-clause-text c = rw (c.put.ensures.text, c.in-NotJson.is, not_json_text) refl

pub returns-in-Field-clause-text : goal.returns-in-Field-clause-text
returns-in-Field-clause-text c = rw (c.put_text-in-Field.ensures.text, c.as_bytes-in-Field.ensures.value, c.name-in-Field.ensures.name, c.in-Field.is) (field_error_text _)
