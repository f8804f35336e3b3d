use Rattle.std.proofs.Common.{arith, ap, ◌∙◌}
use Rattle.rv_history.specs.Served.{Doubt, with_doubt}
use Rattle.rv_room.specs.Views.{entered}
use Rattle.rv_room.proofs.Moves.{counts_settled}
use Rattle.rv_room.proofs.room.Room.count_settled.Goals as goal

pub fetch_add-requires : goal.fetch_add-requires
fetch_add-requires g c = let r = c.requires.doubt in (c.requires.table, omega (arith, c.args.self.now.sized.0), counts_settled g.K.Keeper _ _ _ _ _ _ r.0 r.1 r.2 r.3)

pub returns-clause-entered : goal.returns-clause-entered
returns-clause-entered g c e is = c.fetch_add.ensures.2 ∙ ap (λ (d : Doubt). (entered c.args.token.now.me.0 (with_doubt c.args.token.now.me.0.book d), c.args.token.now.me.1)) is
