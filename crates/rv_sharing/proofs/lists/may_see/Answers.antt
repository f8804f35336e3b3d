use Rattle.std.proofs.Common.{◌≡◌, true, false, sym, ◌∙◌}
use Rattle.std.specs.Str.{bytes_eq}
use Rattle.rv_sharing.proofs.OwnerLaws.{may_see-owned, may_see-absent}
use Rattle.rv_sharing.proofs.lists.may_see.Goals as goal

pub returns-then-eq : goal.returns-then-eq
returns-then-eq c =
    let same = may_see-owned c.args.user.now c.args.list.now c.in-Some.owner.now c.args.tables.now.rows c.in-Some.ensures.order c.in-Some.ensures.owner in
    let is : bytes_eq c.in-Some.owner.now c.args.user.now ≡ true = sym c.eq.ensures ∙ c.if-eq.true in
    rw (same, is) c.if-eq.true

pub returns-else-eq : goal.returns-else-eq
returns-else-eq c =
    let same = may_see-owned c.args.user.now c.args.list.now c.in-Some.owner.now c.args.tables.now.rows c.in-Some.ensures.order c.in-Some.ensures.owner in
    let is : bytes_eq c.in-Some.owner.now c.args.user.now ≡ false = sym c.eq.ensures ∙ c.if-eq.false in
    rw (same, is) c.has_share.ensures

pub returns-in-None : goal.returns-in-None
returns-in-None c = sym (may_see-absent c.args.user.now c.args.list.now c.args.tables.now.rows c.in-None.ensures.order c.in-None.ensures.owner)
