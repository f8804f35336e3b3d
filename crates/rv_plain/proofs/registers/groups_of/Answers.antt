use Rattle.std.proofs.Common.{◌≡◌, ◌∙◌, ap, ℕ, Bool, List}
use Rattle.std.specs.List.{filter_map}
use Rattle.rv_book.specs.Registers.{group_named, groups_named, groups_of}
use Rattle.rv_plain.proofs.Names.{group_keyed, if_ok_is, told-sorted}
use Rattle.rv_plain.proofs.registers.groups_of.Goals as goal

pub returns : goal.returns
returns c =
    let of : List ℕ → _ = λ group. group_named group c.args.book.now in
    let told = ap (filter_map of) (c.deref.ensures.value ∙ c.in_ok-names.ensures) ∙ told-sorted (λ (t : List ℕ × List ℕ × ℕ × Bool). t.0) of (group_keyed c.args.book.now) (groups_named c.args.book.now) in
    if_ok_is c.told_groups.result (λ v. v ≡ groups_of c.args.book.now) (filter_map of c.deref.result.now) c.told_groups.ensures told
