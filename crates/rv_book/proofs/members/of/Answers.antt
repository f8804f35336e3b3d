use Rattle.std.proofs.Common.{rules}
use Rattle.std.specs.Ordering.{nat_cmp, is_lt, is_le}
use Rattle.std.specs.Cmp.Lexicographic.{slice_cmp}
use Rattle.std.proofs.lemmas.Fn.{always_returns_same}
use Rattle.std.proofs.lemmas.List.{take_rest}
use Rattle.rv_book.specs.Logs.{logged}
use Rattle.rv_book.specs.Indexes.{client_of_row}
use Rattle.rv_book.specs.Members.{group_of_member}
use Rattle.rv_book.proofs.MemberKeys.{group_stands_in}
use Rattle.rv_book.proofs.members.of.Goals as goal

pub returns : goal.returns
returns c =
    let book = logged c.args.log in
    let rows = c.args.rows.now in
    let k = c.args.other.now in
    group_stands_in (group_of_member book) (client_of_row book) k rows _ c.partition_point-from.result c.partition_point-count.result (take_rest rows c.partition_point-from.result) c.requires.order
    (c.partition_point-from.ensures.partitioned (λ row. is_lt (slice_cmp nat_cmp (group_of_member book row) k)) (always_returns_same _ _ _ (λ a r f called. search rules)))
    (c.partition_point-count.ensures.partitioned (λ row. is_le (slice_cmp nat_cmp (group_of_member book row) k)) (always_returns_same _ _ _ (λ a r f called. search rules)))
