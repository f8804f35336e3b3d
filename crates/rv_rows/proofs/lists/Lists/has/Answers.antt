use Rattle.std.proofs.Common.{[], sym, ap, ◌∙◌}
use Rattle.std.specs.List.{list_any}
use Rattle.std.specs.Option.{is_some}
use Rattle.std.specs.Str.{bytes_eq}
use Rattle.rv_base.specs.PositionLaws.{found-any}
use Rattle.rv_rows.proofs.lists.Lists.has.Goals as goal

pub returns-in-Ok : goal.returns-in-Ok
returns-in-Ok c = sym (ap is_some (c.in-Ok.ensures.found [])) ∙ found-any (λ i. i) c.args.id.now _ ∙ ap (list_any (bytes_eq c.args.id.now)) (c.deref.ensures.value ∙ c.self.view_is)

pub returns-in-Err : goal.returns-in-Err
returns-in-Err c = sym (ap is_some c.in-Err.ensures.absent) ∙ found-any (λ i. i) c.args.id.now _ ∙ ap (list_any (bytes_eq c.args.id.now)) (c.deref.ensures.value ∙ c.self.view_is)
