use Rattle.std.proofs.Common.{List, ◌++◌, map, ap, ◌∙◌}
use Rattle.rv_rows.specs.declared.key.Key.{Key}
use Rattle.rv_rows.specs.Held.{Stored, rows_in}
use Rattle.rv_rows.specs.Keys.{row_key}
use Rattle.rv_mutators.proofs.OwnRows.{own-keys}
use Rattle.rv_mutators.proofs.lists.keys_of.Goals as goal

pub loop-row-init : goal.loop-row-init
loop-row-init c = let a = c.new-keys.ensures in record {
  can_next = tt;
  is_finite = tt;
  rest =
      ap (λ (keys : List Key). keys ++ map row_key (rows_in c.into_iter-row-iterator.result)) a
      ∙ ap (λ (rest : List Stored). map row_key (rows_in rest)) (c.into_iter-row-iterator.ensures.into_iter_gives ∙ c.of_list-row-items.ensures.rows)
      ∙ own-keys c.args.list.now c.args.tables.now.rows;
}
