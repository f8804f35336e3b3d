use Rattle.std.proofs.Common.{◌∷◌}
use Rattle.rv_base.specs.PositionLaws.{settles}
use Rattle.rv_chunks.specs.Chunking.{items, index_found}
use Rattle.rv_keeper.specs.Cells.{cell_key}
use Rattle.rv_keeper.proofs.changing.position.Goals as goal

pub returns-clause-position : goal.returns-clause-position
returns-clause-position c =
    let chunks = c.args.cells.now.chunks in
    settles cell_key (c.args.shelf ∷ c.args.key.now) (items chunks) (index_found chunks c.position.result) c.requires c.position.ensures.bound c.position.ensures.position
