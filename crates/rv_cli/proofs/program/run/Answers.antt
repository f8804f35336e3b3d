use Rattle.std.proofs.Common.{inr, refl}
use Rattle.rv_cli.proofs.Obeying.{obeys}
use Rattle.rv_cli.proofs.program.run.Goals as goal

pub returns-in-Feed-clause-command : goal.returns-in-Feed-clause-command
returns-in-Feed-clause-command g c =
    obeys _ _ _ _ (rw (c.in-Ok-Some.field-0-is, c.in-Feed.is, ← c.as_str.ensures) at c.in-Ok-Some.ensures) (record { fed = c.run_feed.ensures.feed; keeps = c.run_feed.ensures.keeps; complete = c.run_feed.ensures.complete; still = c.run_feed.ensures.still; net = refl })

pub returns-in-Retire-clause-command : goal.returns-in-Retire-clause-command
returns-in-Retire-clause-command g c =
    obeys _ _ _ _ (rw (c.in-Ok-Some.field-0-is, c.in-Retire.is, ← c.as_str-in-Retire.ensures) at c.in-Ok-Some.ensures) (record { answered = c.run_retire.ensures.answered; keeps = c.run_retire.ensures.keeps; still = c.run_retire.ensures.still; input = refl; net = refl })

pub returns-in-CloseBook-clause-command : goal.returns-in-CloseBook-clause-command
returns-in-CloseBook-clause-command g c =
    obeys _ _ _ _ (rw (c.in-Ok-Some.field-0-is, c.in-CloseBook.is, ← c.as_str-in-CloseBook.ensures) at c.in-Ok-Some.ensures) (record { answered = c.run_close.ensures.answered; keeps = c.run_close.ensures.keeps; still = c.run_close.ensures.still; input = refl; net = refl })

pub returns-in-Lists-clause-command : goal.returns-in-Lists-clause-command
returns-in-Lists-clause-command g c =
    obeys _ _ _ _ (rw (c.in-Ok-Some.field-0-is, c.in-Lists.is, ← c.as_str-in-Lists.ensures) at c.in-Ok-Some.ensures) (record { reported = c.run_lists.ensures.report; keeps = c.run_lists.ensures.keeps; still = c.run_lists.ensures.still; none = c.run_lists.ensures.none; input = refl; net = refl })

pub returns-in-Activity-clause-command : goal.returns-in-Activity-clause-command
returns-in-Activity-clause-command g c =
    obeys _ _ _ _ (rw (c.in-Ok-Some.field-0-is, c.in-Activity.is, ← c.as_str-in-Activity.ensures) at c.in-Ok-Some.ensures) (record { reported = c.run_activity.ensures.report; keeps = c.run_activity.ensures.keeps; still = c.run_activity.ensures.still; none = c.run_activity.ensures.none; input = refl; net = refl })

pub returns-in-Check-clause-command : goal.returns-in-Check-clause-command
returns-in-Check-clause-command g c =
    obeys _ _ _ _ (rw (c.in-Ok-Some.field-0-is, c.in-Check.is, ← c.as_str-in-Check.ensures) at c.in-Ok-Some.ensures) (record { reported = c.run_check.ensures.report; keeps = c.run_check.ensures.keeps; still = c.run_check.ensures.still; none = c.run_check.ensures.none; input = refl; net = refl })

pub returns-in-Ship-clause-command : goal.returns-in-Ship-clause-command
returns-in-Ship-clause-command g c =
    obeys _ _ _ _ (rw (c.in-Ok-Some.field-0-is, c.in-Ship.is, ← c.as_str-in-Ship.ensures) at c.in-Ok-Some.ensures) (record { reported = c.run_ship.ensures.report; keeps = c.run_ship.ensures.keeps; still = c.run_ship.ensures.still; none = c.run_ship.ensures.none; input = refl; net = refl })

pub returns-in-Export-clause-command : goal.returns-in-Export-clause-command
returns-in-Export-clause-command g c =
    obeys _ _ _ _ (rw (c.in-Ok-Some.field-0-is, c.in-Export.is, ← c.as_str-in-Export.ensures) at c.in-Ok-Some.ensures) (record { reported = c.run_export.ensures.report; keeps = c.run_export.ensures.keeps; still = c.run_export.ensures.still; none = c.run_export.ensures.none; input = refl; net = refl })

pub returns-in-Import-clause-command : goal.returns-in-Import-clause-command
returns-in-Import-clause-command g c =
    obeys _ _ _ _ (rw (c.in-Ok-Some.field-0-is, c.in-Import.is, ← c.as_str-in-Import.ensures) at c.in-Ok-Some.ensures) (record { imported = c.run_import.ensures.import; keeps = c.run_import.ensures.keeps; still = c.run_import.ensures.still; net = refl })

pub returns-in-Serve-clause-command : goal.returns-in-Serve-clause-command
returns-in-Serve-clause-command g c =
    obeys _ _ _ _ (rw (c.in-Ok-Some.field-0-is, c.in-Serve.is, ← c.as_str-in-Serve.ensures) at c.in-Ok-Some.ensures) (record { served = c.run_serve.ensures.serve; keeps = c.run_serve.ensures.keeps; unserved = c.run_serve.ensures.unserved; wanted = c.run_serve.ensures.wanted; steady = c.run_serve.ensures.steady_net; input = refl })

pub returns-in-Make-clause-command : goal.returns-in-Make-clause-command
returns-in-Make-clause-command g c =
    obeys _ _ _ _ (rw (c.in-Ok-Some.field-0-is, c.in-Make.is) at c.in-Ok-Some.ensures) (record { made = c.run_make.ensures.make; complete = c.run_make.ensures.complete; place = refl; input = refl; net = refl })

pub returns-in-Follow-clause-command : goal.returns-in-Follow-clause-command
returns-in-Follow-clause-command g c =
    obeys _ _ _ _ (rw (c.in-Ok-Some.field-0-is, c.in-Follow.is) at c.in-Ok-Some.ensures) (record { followed = c.run_follow.ensures.followed; complete = c.run_follow.ensures.complete; steady = c.run_follow.ensures.steady_net; place = refl; input = refl })

pub returns-in-Ok-None-clause-command : goal.returns-in-Ok-None-clause-command
returns-in-Ok-None-clause-command g c =
    obeys _ _ _ _ (rw c.in-Ok-None.field-0-is at c.in-Ok-None.ensures) (record { is = c.refuse_words.ensures.status; told = c.refuse_words.ensures.text; place = refl; input = refl; net = refl })

pub returns-in-Err-clause-command : goal.returns-in-Err-clause-command
returns-in-Err-clause-command g c = inr (record { is = c.give_up.ensures.status; told = c.give_up.ensures.text; place = refl; input = refl; net = refl })
