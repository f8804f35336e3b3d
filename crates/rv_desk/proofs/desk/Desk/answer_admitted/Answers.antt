use Rattle.std.proofs.Common.{rules, ◌≡◌, arith}
use Rattle.rv_history.specs.Machine.{next_order}
use Rattle.rv_history.specs.BasedLaws.{may_look}
use Rattle.rv_desk.proofs.desk.Desk.answer_admitted.Goals as goal

pub look-requires-clause-lawful : goal.look-requires-clause-lawful
look-requires-clause-lawful g c =
    let request = c.args.request.now in
    let book = c.args.self.now.book in
    let order : c.from_u64-2.result ≡ next_order request book = search rules in
    may_look c.args.user.now request book c.from_u64-2.result c.in-Some.news.base c.requires.admits order (omega arith) (search rules)
