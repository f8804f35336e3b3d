use Rattle.std.proofs.Common.{◌≡◌, ◌≤◌}
use Rattle.rv_book.specs.Book.{up_to}
use Rattle.rv_report.specs.Activity.{group_ids}
use Rattle.rv_report.specs.Shown.{shown_groups, shown_users}
use Rattle.rv_report.specs.Tallies.{tallies_of}
use Rattle.rv_report.proofs.tallies.walk.Given as goal

abbrev pub invariant-loop-before : goal.invariant-loop-before
invariant-loop-before l = (shown_users l.tallies.entries ≡ tallies_of (up_to l.before l.book.book)) × (shown_groups l.groups.keys ≡ group_ids (up_to l.before l.book.book)) × (l.book.book.page.at ≤ l.before)
