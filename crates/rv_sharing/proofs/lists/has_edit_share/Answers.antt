use Rattle.std.proofs.Common.{List, ap, ◌∙◌}
use Rattle.std.specs.List.{list_any}
use Rattle.rv_rows.specs.Held.{Stored, rows_in}
use Rattle.rv_rows.specs.Sharing.{lets_edit}
use Rattle.rv_sharing.proofs.ViewerLaws.{lets_edit-named}
use Rattle.rv_sharing.proofs.lists.has_edit_share.Goals as goal

pub loop-row-init : goal.loop-row-init
loop-row-init c = record {
  can_next = tt;
  is_finite = tt;
  same =
      ap (λ (rest : List Stored). list_any (lets_edit c.args.user.now c.args.list.now) (rows_in rest)) (c.into_iter-row-iterator.ensures.into_iter_gives ∙ c.of_user-row-items.ensures.rows)
      ∙ lets_edit-named c.args.user.now c.args.list.now c.args.tables.now.rows;
}
