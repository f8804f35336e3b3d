use Rattle.std.proofs.Common.{Some, ◌∷◌, ap, sym, ◌∙◌}
use Rattle.atomic_table.specs.Table.{rest}
use Rattle.rv_room.proofs.room.Room.take_out.Goals as goal

pub exchange-requires : goal.exchange-requires
exchange-requires g c = let r = c.requires.out in (c.requires.table, (Some r.0, r.1 ∙ ap (λ cs. (0, Some r.0) ∷ rest cs) (sym r.1)))
