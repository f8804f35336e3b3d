use Rattle.std.proofs.Common.{rules, refl}
use Rattle.rv_base.specs.declared.fault.Fault.TheVariants.{Failed}
use Rattle.rv_book.specs.declared.entry.Entry.TheVariants.{Look}
use Rattle.rv_history.specs.Bases.{base_of}
use Rattle.rv_history.specs.Machine.{next_order, reply_to}
use Rattle.rv_history.specs.Served.{Next}
use Rattle.rv_turns.specs.Asks.{Ask}
use Rattle.rv_turns.specs.declared.pushing.Outcome.TheVariants.{Pulled}
use Rattle.rv_wire.specs.Answers.{pull_json}
use Rattle.rv_desk.specs.DeskStates.{served}
use Rattle.rv_desk.proofs.Settled.{not_kept}
use Rattle.rv_desk.proofs.desk.Desk.look.Goals as goal

pub returns-in-Err-Failed-clause-stepped : goal.returns-in-Err-Failed-clause-stepped
returns-in-Err-Failed-clause-stepped g c =
    let user = c.args.user.now in
    let request = c.args.request.now in
    let book = c.args.self.now.book in
    not_kept {T = Unit {0}} (Ask.pull user request) (Pulled (reply_to pull_json user request book)) (Next.entry (Look user request.group (next_order request book) (base_of user request.cookie book))) (served g.K.Keeper.faults c.args.self.now) _ Failed refl tt
    (c.requires.admits, (c.requires.changed, search rules, c.requires.within_limit, refl, refl)) c.requires.admits (search rules)
