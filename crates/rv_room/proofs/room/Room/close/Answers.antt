use Rattle.std.proofs.Common.{◌≡◌, ℕ, List, [], ◌∷◌, ◌++◌, map, length, rules, arith, ap, sym, ◌∙◌, subst, refl}
use mathlib.Core.List.{map-append}
use Rattle.rv_keeper.specs.declared.keeper.Keeper.{Ghosts}
use Rattle.rv_room.specs.declared.seat.Seat.{Seat}
use Rattle.rv_room.specs.declared.view.SeatView.{SeatView}
use Rattle.rv_room.specs.Lists.{total}
use Rattle.rv_room.specs.Rule.{seat_parts}
use Rattle.rv_room.specs.Closing.{Closes}
use Rattle.rv_room.specs.Seats.{view_of}
use Rattle.rv_room.proofs.Ways.{shut, shut_at}
use Rattle.rv_room.proofs.room.Room.close.Goals as goal

all_one : {K : Type 0} {G : Ghosts K} (seats : List (Seat K G)) → total seat_parts (map (view_of {K = K} {G = G}) seats) ≡ length seats
all_one [] = refl
all_one (s ∷ ss) = let r = all_one ss in let o = s.one in omega arith

views_are : {K : Type 0} {G : Ghosts K} (all rest : List (Seat K G)) (last : Seat K G) → all ≡ rest ++ last ∷ [] → map (view_of {K = K} {G = G}) all ≡ map (view_of {K = K} {G = G}) rest ++ view_of last ∷ []
views_are {K} {G} all rest last e = ap (map (view_of {K = K} {G = G})) e ∙ map-append (view_of {K = K} {G = G}) rest (last ∷ [])

all_parts : {K : Type 0} {G : Ghosts K} (all rest : List (Seat K G)) (last : Seat K G) (n : ℕ) → all ≡ rest ++ last ∷ [] → length all ≡ n → total seat_parts (map (view_of {K = K} {G = G}) rest ++ view_of last ∷ []) ≡ n
all_parts all rest last n e len = ap (total seat_parts) (sym (views_are all rest last e)) ∙ all_one all ∙ len

pub unreachable-requires-in_default-slot : goal.unreachable-requires-in_default-slot
unreachable-requires-in_default-slot g c =
    let len : length c.args.seats.list.items ≡ c.args.self.table.shared.key.seats = search rules in
    let s = shut g.K.Keeper _ _ _ _ _ _ (view_of c.in-Some.last) (map (view_of {K = g.row.K.Denot} {G = g.K.Keeper}) c.pop.new.self.items)
    (ap (λ m. m.0) c.join_all-token.ensures.all) c.in-Some.last.idle c.in-Some.last.one (all_parts _ _ _ _ c.in-Some.ensures.items len) c.close_with-closed.ensures.values.2 c.take-slot.result c.take-slot.ensures.value in
    c.in_default-slot.not-Some s.0 s.1

pub returns : goal.returns
returns g c =
    let len : length c.args.seats.list.items ≡ c.args.self.table.shared.key.seats = search rules in
    let s = shut_at g.K.Keeper _ _ _ _ _ _ (view_of c.in-Some.last) (map (view_of {K = g.row.K.Denot} {G = g.K.Keeper}) c.pop.new.self.items)
    (ap (λ m. m.0) c.join_all-token.ensures.all) c.in-Some.last.idle c.in-Some.last.one (all_parts _ _ _ _ c.in-Some.ensures.items len) c.close_with-closed.ensures.values.2 c.take-slot.result c.take-slot.ensures.value c.in-Some-slot.desk c.in-Some-slot.is in
    let closes = subst (λ (vs : List (SeatView g.row.K.Denot)). Closes g.K.Keeper c.args.self.table.shared.key.opened.value vs c.in-Some-slot.desk) (sym (views_are _ _ _ c.in-Some.ensures.items)) s in
    rw c.into_inner.ensures closes
