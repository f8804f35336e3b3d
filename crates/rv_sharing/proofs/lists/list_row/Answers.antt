use Rattle.std.proofs.Common.{ap, ◌∙◌}
use Rattle.std.specs.Option.{option_and_then}
use Rattle.rv_sharing.specs.Owners.{row_owner}
use Rattle.rv_sharing.proofs.OwnerLaws.{id-found, owner-found}
use Rattle.rv_rows.specs.Held.{Stored}
use Rattle.rv_sharing.proofs.lists.list_row.Goals as goal

pub returns-in-Some-clause-owner : goal.returns-in-Some-clause-owner
returns-in-Some-clause-owner c = c.as_list.ensures.owner ∙ ap (option_and_then (λ (s : Stored). row_owner s.0)) c.in-Some.ensures.found ∙ owner-found c.args.list.now c.args.tables.now.rows

pub returns-in-Some-clause-id : goal.returns-in-Some-clause-id
returns-in-Some-clause-id c = id-found (λ row. row.now) c.as_list.result c.args.list.now c.args.tables.now.rows c.in-Some.row.now c.in-Some._version c.in-Some.ensures.found c.as_list.ensures.row

pub returns-in-None-clause-owner : goal.returns-in-None-clause-owner
returns-in-None-clause-owner c = ap (option_and_then (λ (s : Stored). row_owner s.0)) c.in-None.ensures.found ∙ owner-found c.args.list.now c.args.tables.now.rows
