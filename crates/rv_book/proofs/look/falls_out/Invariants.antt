use Rattle.std.proofs.Common.{◌≡◌, ◌-◌}
use Rattle.rv_book.specs.Logs.{logged}
use Rattle.rv_book.proofs.LookBack.{looks_back}
use Rattle.rv_book.proofs.look.falls_out.Given as goal

abbrev pub invariant-loop-step : goal.invariant-loop-step
invariant-loop-step l = l.place ≡ looks_back (l._step - 1) l.group (logged l.log)
