use Rattle.std.proofs.Common.{◌∙◌, arith}
use Rattle.rv_import.specs.Imports.{client_id}
use Rattle.rv_import.proofs.Sizes.{is_id}
use Rattle.rv_import.proofs.importing.import_client.Goals as goal

pub id_of-requires : goal.id_of-requires
id_of-requires c = is_id 117 _ (client_id c.args.user.now c.args.name.now) (omega arith) (c.as_str.ensures.value ∙ c.in_ok-text.ensures.text) c.in_ok-text.ensures.fits
