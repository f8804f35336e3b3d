use Rattle.std.proofs.Common.{◌∙◌, sym}
use Rattle.rv_rows.specs.Held.{rows_in}
use Rattle.rv_rows.specs.Keys.{key_text}
use Rattle.rv_rows.specs.declared.key.Kind.TheVariants.{Share}
use Rattle.rv_rows.specs.HeldLaws.{in_order-rows}
use Rattle.rv_mutators.proofs.Calls.{ok_is, row_found, row_absent, update_share-allowed, update_share-refused, update_share-absent}
use Rattle.rv_mutators.proofs.shares.update_share.Goals as goal

pub returns-then-owns_list_of : goal.returns-then-owns_list_of
returns-then-owns_list_of c =
    let stored = c.args.tables.now.rows in
    let k = key_text (record { kind = Share; id = c.args.id.now }) in
    ok_is _ _ _ c.set_role.ensures (update_share-allowed (rows_in stored) (in_order-rows stored c.requires) c.args.user.now c.args.id.now c.args.role c.in-Some.row.now (row_found k stored (c.in-Some.row.now, c.in-Some._version) c.in-Some.ensures.found) (sym c.owns_list_of.ensures ∙ c.if-owns_list_of.true))

pub returns-else-owns_list_of : goal.returns-else-owns_list_of
returns-else-owns_list_of c =
    let stored = c.args.tables.now.rows in
    let k = key_text (record { kind = Share; id = c.args.id.now }) in
    c.nothing.ensures ∙ update_share-refused (rows_in stored) (in_order-rows stored c.requires) c.args.user.now c.args.id.now c.args.role c.in-Some.row.now (row_found k stored (c.in-Some.row.now, c.in-Some._version) c.in-Some.ensures.found) (sym c.owns_list_of.ensures ∙ c.if-owns_list_of.false)

pub returns-in-None : goal.returns-in-None
returns-in-None c =
    let stored = c.args.tables.now.rows in
    let k = key_text (record { kind = Share; id = c.args.id.now }) in
    c.nothing-in-None.ensures ∙ update_share-absent (rows_in stored) (in_order-rows stored c.requires) c.args.user.now c.args.id.now c.args.role (row_absent k stored c.in-None.ensures.found)
