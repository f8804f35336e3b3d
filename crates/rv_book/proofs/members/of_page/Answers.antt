use Rattle.std.proofs.Common.{[], rules}
use Rattle.std.specs.Ordering.{nat_cmp, is_lt}
use Rattle.std.specs.Cmp.Lexicographic.{slice_cmp}
use Rattle.std.proofs.lemmas.Cmp.{nat_list_cmp_total}
use Rattle.std.proofs.lemmas.Fn.{always_returns_same}
use Rattle.std.proofs.lemmas.List.Sorted.{ranks_by}
use Rattle.rv_book.specs.Book.{book_from}
use Rattle.rv_book.specs.Members.{key_of_member}
use Rattle.rv_book.proofs.SortedMembers.{sorted_members}
use Rattle.rv_book.proofs.members.of_page.Goals as goal

pub returns : goal.returns
returns c =
    let book = book_from c.args.page.now [] in
    let rows = c.in_ok-rows.rows.items in
    let seen = c.sort_unstable_by.new.self.items in
    let facts = c.sort_unstable_by.ensures in
    sorted_members book rows seen c.in_ok-rows.ensures facts.permutation
    (facts.sorted (λ row other. is_lt (slice_cmp nat_cmp (key_of_member book row) (key_of_member book other))) (ranks_by nat_list_cmp_total (key_of_member book)) (always_returns_same _ _ _ (λ a r f called. search rules)))
