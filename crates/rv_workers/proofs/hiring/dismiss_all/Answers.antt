use Rattle.std.proofs.Common.{◌≡◌, ◌∷◌, [], ◌++◌, length, arith, ap, sym, ◌∙◌, subst, length-append}
use Rattle.std.specs.List.{AllByRecursion}
use Rattle.rv_room.specs.SeatLaws.{more_of}
use Rattle.rv_room.specs.Seats.{id_of, AllOf}
use Rattle.rv_workers.specs.Hiring.{reversed}
use Rattle.rv_workers.proofs.Turned.{reversed-back, all_last}
use Rattle.rv_workers.proofs.hiring.dismiss_all.Goals as goal

pub loop-worker-preserved : goal.loop-worker-preserved
loop-worker-preserved g c =
    let i = c.loop-worker.invariant in
    let is = c.in-Some.ensures.items in
    let l = all_last _ c.pop.new.self.items c.in-Some.worker (subst (AllByRecursion _) is i.4) in
    let a = ap length c.give.ensures.list in
    let b = length-append c.loop-worker.seats.list.items (c.dismiss-seat.result.0 ∷ []) in
    let o1 = c.loop-worker.seats.list.ok.0 in
    let o2 = c.give.new.self.list.ok.0 in
    let p = c.in-Some.ensures.len in
    let q = c.push_reserved.ensures.len in
    let cap = c.push_reserved.ensures.capacity in
    let cap' = c.give.ensures.capacity in
    let e = i.2 in
    let f = i.3 in (
      subst (λ s. s ++ reversed (λ worker. worker.turns.seat) c.pop.new.self.items ≡ reversed (λ worker. worker.turns.seat) c.args.workers.items) (sym c.give.ensures.list)
          (reversed-back (λ worker. worker.turns.seat) _ c.loop-worker.seats.list.items c.loop-worker.workers.items c.pop.new.self.items c.in-Some.worker c.dismiss-seat.result.0 i.0 is c.dismiss-seat.ensures.seat),
      subst (λ s. s ++ reversed (λ worker. worker.listener) c.pop.new.self.items ≡ reversed (λ worker. worker.listener) c.args.workers.items) (sym c.push_reserved.ensures.items)
          (reversed-back (λ worker. worker.listener) _ c.loop-worker.listeners.items c.loop-worker.workers.items c.pop.new.self.items c.in-Some.worker c.dismiss-seat.result.1 i.1 is c.dismiss-seat.ensures.listener),
      omega arith,
      omega arith,
      l.0,
      subst (AllOf _) (sym c.give.ensures.list) (more_of _ c.loop-worker.seats.list.items c.dismiss-seat.result.0 i.5 (c.dismiss-seat.ensures.at ∙ ap id_of l.1)),
      c.give.ensures.capacity ∙ i.6,
    )
