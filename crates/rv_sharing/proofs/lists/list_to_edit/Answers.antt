use Rattle.std.proofs.Common.{◌≡◌, true, false, sym, ◌∙◌}
use Rattle.std.specs.Str.{bytes_eq}
use Rattle.rv_rows.specs.Held.{rows_in}
use Rattle.rv_rows.specs.Sharing.{may_edit}
use Rattle.rv_sharing.proofs.OwnerLaws.{may_edit-owned, may_edit-absent}
use Rattle.rv_sharing.proofs.lists.list_to_edit.Goals.{then-eq, else-eq}
use Rattle.rv_sharing.proofs.lists.list_to_edit.Goals as goal

pub returns-then-has_edit_share : goal.returns-then-has_edit_share
returns-then-has_edit_share c =
    let same = may_edit-owned c.args.user.now c.args.list.now c.in-Some.row.now.owner c.args.tables.now.rows c.in-Some.ensures.order c.in-Some.ensures.owner in
    let value : c.if-eq.value ≡ may_edit c.args.user.now c.args.list.now (rows_in c.args.tables.now.rows) = elim c.if-eq.branch [
      | then-eq w ↦ (let is : bytes_eq c.in-Some.row.now.owner c.args.user.now ≡ true = sym c.eq.ensures ∙ w.if-eq.true in rw (same, is) (w.value-is ∙ w.if-eq.true))
      | else-eq w ↦ (let is : bytes_eq c.in-Some.row.now.owner c.args.user.now ≡ false = sym c.eq.ensures ∙ w.if-eq.false in rw (same, is) (w.value-is ∙ w.has_edit_share.ensures))
    ] in
    record { allowed = sym c.if-has_edit_share.true ∙ value; id = c.in-Some.ensures.id }

pub returns-else-has_edit_share : goal.returns-else-has_edit_share
returns-else-has_edit_share c =
    let same = may_edit-owned c.args.user.now c.args.list.now c.in-Some.row.now.owner c.args.tables.now.rows c.in-Some.ensures.order c.in-Some.ensures.owner in
    let value : c.if-eq.value ≡ may_edit c.args.user.now c.args.list.now (rows_in c.args.tables.now.rows) = elim c.if-eq.branch [
      | then-eq w ↦ (let is : bytes_eq c.in-Some.row.now.owner c.args.user.now ≡ true = sym c.eq.ensures ∙ w.if-eq.true in rw (same, is) (w.value-is ∙ w.if-eq.true))
      | else-eq w ↦ (let is : bytes_eq c.in-Some.row.now.owner c.args.user.now ≡ false = sym c.eq.ensures ∙ w.if-eq.false in rw (same, is) (w.value-is ∙ w.has_edit_share.ensures))
    ] in
    record { allowed = sym c.if-has_edit_share.false ∙ value; id = tt }

pub returns-in-None : goal.returns-in-None
returns-in-None c = record { allowed = sym (may_edit-absent c.args.user.now c.args.list.now c.args.tables.now.rows c.in-None.ensures.order c.in-None.ensures.owner); id = tt }
