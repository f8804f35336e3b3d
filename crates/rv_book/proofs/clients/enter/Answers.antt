use Rattle.std.proofs.Common.{refl}
use Rattle.rv_base.specs.PositionLaws.{equals}
use Rattle.rv_book.specs.Logs.{logged}
use Rattle.rv_book.proofs.ClientLaws.{clients-same}
use Rattle.rv_book.proofs.clients.enter.Goals as goal

pub returns-in-Act-clause-rows : goal.returns-in-Act-clause-rows
returns-in-Act-clause-rows c = c.enter_act.ensures.rows c.args.entry.now (rw c.in-Act.is (equals c.in-Act.client))

pub returns-in-Look-clause-rows : goal.returns-in-Look-clause-rows
returns-in-Look-clause-rows c = clients-same (logged c.args.log) c.args.entry.now c.args.rows.now.items (λ k. rw c.in-Look.is refl) c.requires.rows

pub returns-in-Retire-clause-rows : goal.returns-in-Retire-clause-rows
returns-in-Retire-clause-rows c = clients-same (logged c.args.log) c.args.entry.now c.args.rows.now.items (λ k. rw c.in-Retire.is refl) c.requires.rows
