use Rattle.std.proofs.Common.{◌≡◌, ◌∙◌, sym, List, ℕ}
use Rattle.std.specs.declared.cmp.Ordering.{Ordering}
use Rattle.std.specs.declared.cmp.Ordering.TheVariants.{Less, Equal, Greater}
use Rattle.std.specs.Ordering.{nat_cmp, ordering_then}
use Rattle.std.specs.Cmp.Lexicographic.{slice_cmp}
use Rattle.rv_book.specs.Logs.{logged}
use Rattle.rv_book.specs.Indexes.{client_of_row}
use Rattle.rv_book.specs.Members.{group_of_member, member_key}
use Rattle.rv_book.proofs.MemberKeys.{cmp-member_key}
use Rattle.rv_book.proofs.members.compare.Goals as goal

-- an answer for the groups, and one for the clients, make that for the keys
joined : (g h c d : List ℕ) (first answer : Ordering) → slice_cmp nat_cmp g h ≡ first → answer ≡ ordering_then first (slice_cmp nat_cmp c d) → answer ≡ slice_cmp nat_cmp (member_key g c) (member_key h d)
joined g h c d first answer is info = info ∙ (λ i. ordering_then (sym is i) (slice_cmp nat_cmp c d)) ∙ sym (cmp-member_key g h c d)

pub returns-in-Less : goal.returns-in-Less
returns-in-Less c = joined (group_of_member (logged c.args.log) c.args.row.now) c.args.other.now (client_of_row (logged c.args.log) c.args.row.now) c.args.client.now Less Less (cc) (cc)

pub returns-in-Equal : goal.returns-in-Equal
returns-in-Equal c = joined (group_of_member (logged c.args.log) c.args.row.now) c.args.other.now (client_of_row (logged c.args.log) c.args.row.now) c.args.client.now Equal c.cmp-in-Equal.result (cc) (cc)

pub returns-in-Greater : goal.returns-in-Greater
returns-in-Greater c = joined (group_of_member (logged c.args.log) c.args.row.now) c.args.other.now (client_of_row (logged c.args.log) c.args.row.now) c.args.client.now Greater Greater (cc) (cc)
