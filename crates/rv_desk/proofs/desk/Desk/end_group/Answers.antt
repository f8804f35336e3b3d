use Rattle.std.proofs.Common.{rules, ◌+◌, refl}
use Rattle.rv_book.specs.declared.entry.Entry.TheVariants.{Retire}
use Rattle.rv_book.specs.Book.{size}
use Rattle.rv_history.specs.Served.{Next}
use Rattle.rv_turns.specs.Asks.{Ask}
use Rattle.rv_turns.specs.declared.pushing.Outcome.TheVariants.{Retired}
use Rattle.rv_desk.specs.DeskStates.{served}
use Rattle.rv_desk.proofs.Settled.{not_kept}
use Rattle.rv_desk.proofs.desk.Desk.end_group.Goals as goal

pub returns-in-Err-clause-stepped : goal.returns-in-Err-clause-stepped
returns-in-Err-clause-stepped g c =
    not_kept (Ask.retirement c.args.group.now) (Retired (size c.args.self.now.book + 1)) (Next.entry (Retire c.args.group.now)) (served g.K.Keeper.faults c.args.self.now) (served g.K.Keeper.faults c.enter_retirement.new.self) c.in-Err.fault refl tt
    (search rules, search rules, search rules, refl, refl) (search rules, search rules, search rules) c.in-Err.ensures.kept
