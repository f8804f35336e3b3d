use Rattle.std.proofs.Common.{◌∙◌, arith}
use Rattle.rv_import.specs.Imports.{todo_id}
use Rattle.rv_import.proofs.Sizes.{is_id}
use Rattle.rv_import.proofs.importing.import_todo.Goals as goal

pub id_of-requires : goal.id_of-requires
id_of-requires c = is_id 128 _ (todo_id c.args.user.now c.args.name.now c.args.number) (omega arith) (c.as_str.ensures.value ∙ c.in_ok-text.ensures.text) c.in_ok-text.ensures.fits
