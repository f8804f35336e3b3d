use Rattle.std.proofs.Common.{arith}
use Rattle.rv_book.specs.Book.{no_page}
use Rattle.rv_book.proofs.ClientLaws.{none_yet}
use Rattle.rv_book.proofs.GroupLaws.{none_named}
use Rattle.rv_book.proofs.MemberLaws.{no_members}
use Rattle.rv_book.proofs.LookRowLaws.{no_look_rows}
use Rattle.rv_book.proofs.book.Book.new.Goals as goal

pub invariant_of-result : goal.invariant_of-result
invariant_of-result c =
    rw (c.none.ensures, c.new.ensures.items, c.new-2.ensures.items, c.new-3.ensures.items, c.new-4.ensures.items, c.new-5.ensures.items) (record { within = omega arith; small = omega arith; lasts = tt; looks = no_look_rows no_page; groups = none_named; clients = none_yet; members = no_members })
