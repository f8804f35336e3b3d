use Rattle.std.proofs.Common.{◌≡◌, List, ap, subst}
use Rattle.std.specs.List.{AllByRecursion}
use Rattle.rv_room.specs.declared.seat.Seat.{Seat}
use Rattle.rv_room.proofs.Ways.{joins_as, all_last}
use Rattle.rv_room.proofs.opening.join_all.Goals as goal

pub join_seat-requires : goal.join_seat-requires
join_seat-requires g c = let i = c.loop-seat.invariant in
    let P : Seat g.row.K.Denot g.K.Keeper → Type 0 = λ s. s.token.table_id ≡ c.args.shared.now.table_id in
    let split = all_last P _ c.in-Some.seat (subst (λ (l : List (Seat g.row.K.Denot g.K.Keeper)). AllByRecursion P l) c.in-Some.ensures.items i.1) in
    (i.0, split.1, c.in-Some.seat.bare, c.requires.table.1, joins_as g.K.Keeper _ _ _ _ _ _ _ i.2.0 (ap (λ m. m.0) i.2.2) c.requires.first.0 c.requires.first.1 c.in-Some.seat.idle c.in-Some.seat.one)
