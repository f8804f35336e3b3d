use Rattle.std.proofs.Common.{◌∙◌}
use Rattle.rv_rows.specs.Held.{rows_in}
use Rattle.rv_rows.specs.Keys.{key_text}
use Rattle.rv_rows.specs.declared.key.Kind.TheVariants.{Extent}
use Rattle.rv_rows.specs.HeldLaws.{in_order-rows}
use Rattle.rv_mutators.proofs.Calls.{ok_is, row_found, row_absent, remove_extent-found, remove_extent-absent}
use Rattle.rv_mutators.proofs.extents.remove_extent.Goals as goal

pub returns-in_ok-key-in-Some : goal.returns-in_ok-key-in-Some
returns-in_ok-key-in-Some c =
    let stored = c.args.tables.now.rows in
    let k = key_text (record { kind = Extent; id = c.args.user.now }) in
    ok_is _ _ _ (rw c.in_ok-key-in-Some.ensures at c.removes.ensures) (remove_extent-found (rows_in stored) (in_order-rows stored c.requires) c.args.user.now c.in-Some.row.now (row_found k stored (c.in-Some.row.now, c.in-Some._version) c.in-Some.ensures.found))

pub returns-in-None : goal.returns-in-None
returns-in-None c =
    let stored = c.args.tables.now.rows in
    let k = key_text (record { kind = Extent; id = c.args.user.now }) in
    c.nothing.ensures ∙ remove_extent-absent (rows_in stored) (in_order-rows stored c.requires) c.args.user.now (row_absent k stored c.in-None.ensures.found)
