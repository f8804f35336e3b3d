use Rattle.std.proofs.Common.{ap, ◌∙◌}
use Rattle.std.specs.Option.{option_and_then}
use Rattle.rv_rows.specs.Held.{Stored}
use Rattle.rv_sharing.specs.Extents.{row_lists}
use Rattle.rv_sharing.proofs.ExtentLaws.{extent-found}
use Rattle.rv_sharing.proofs.lists.extent_of.Goals as goal

pub returns-in-Some-clause-extent : goal.returns-in-Some-clause-extent
returns-in-Some-clause-extent c = c.row_lists.ensures ∙ ap (option_and_then (λ (s : Stored). row_lists s.0)) c.in-Some.ensures.found ∙ extent-found c.args.user.now c.args.tables.now.rows

pub returns-in-None-clause-extent : goal.returns-in-None-clause-extent
returns-in-None-clause-extent c = ap (option_and_then (λ (s : Stored). row_lists s.0)) c.in-None.ensures.found ∙ extent-found c.args.user.now c.args.tables.now.rows
