use Rattle.std.proofs.Common.{◌∙◌}
use Rattle.rv_chunks.specs.Chunking.{index_of}
use Rattle.rv_rows.specs.Keys.{row_text}
use Rattle.rv_rows.specs.Slots.{rows_of}
use Rattle.rv_rows.proofs.RowSlots.{again_absent, again_put}
use Rattle.rv_rows.proofs.indexed.IndexedRows.write_at.Goals as goal

pub put_absent-requires-clause-absent : goal.put_absent-requires-clause-absent
put_absent-requires-clause-absent c = again_absent (rows_of c.args.self.now) (rows_of c.remove_at.new.self) (row_text c.args.row) (index_of c.args.self.now.by_key c.args.at) c.requires.position c.remove_at.ensures.rows

pub returns-else-is_filed_as-clause-rows : goal.returns-else-is_filed_as-clause-rows
returns-else-is_filed_as-clause-rows c =
    c.put_absent.ensures.rows ∙ again_put (rows_of c.args.self.now) (rows_of c.remove_at.new.self) (c.args.row, c.args.version) (index_of c.args.self.now.by_key c.args.at) c.row_at.ensures.order c.requires.position c.remove_at.ensures.rows
