use Rattle.std.proofs.Common.{◌≡◌, ◌∷◌, [], ◌++◌, length, arith, ap, sym, ◌∙◌, subst, length-append}
use Rattle.std.specs.List.{AllByRecursion}
use Rattle.rv_room.specs.SeatLaws.{last_new}
use Rattle.rv_room.specs.Seats.{view_of}
use Rattle.rv_workers.specs.Hiring.{reversed}
use Rattle.rv_workers.proofs.Turned.{reversed-moves, all_snoc}
use Rattle.rv_workers.proofs.hiring.hire_all.Goals as goal

pub loop-listener-preserved : goal.loop-listener-preserved
loop-listener-preserved g c =
    let i = c.loop-listener.invariant in
    let t = c.in-Some-take.ensures.last in
    let n = last_new _ _ _ _ _ t i.1 in
    let a = ap length t in
    let b = length-append c.take.new.self.list.items (c.in-Some-take.seat ∷ []) in
    let o1 = c.loop-listener.seats.list.ok.0 in
    let o2 = c.take.new.self.list.ok.0 in
    let p = c.in-Some.ensures.len in
    let q = c.push_reserved.ensures.len in
    let e = i.2 in
    let f = i.3 in
    let gates = i.7 in
    let gone = c.in-Some-pop.ensures.len in
    let cap = c.push_reserved.ensures.capacity in (
      subst (λ ws. c.pop.new.self.items ++ reversed (λ worker. worker.listener) ws ≡ c.args.listeners.now.items) (sym c.push_reserved.ensures.items)
          (reversed-moves (λ worker. worker.listener) _ _ c.pop.new.self.items c.in-Some.listener c.loop-listener.workers.items c.new.result i.0 c.in-Some.ensures.items c.new.ensures.listener),
      n.0,
      omega arith,
      omega arith,
      c.in-Some.ensures.capacity ∙ i.4,
      c.in-Some-take.ensures.capacity ∙ i.5,
      subst (AllByRecursion _) (sym c.push_reserved.ensures.items) (all_snoc _ c.loop-listener.workers.items c.new.result i.6 (c.new.ensures.room, c.new.ensures.accounts, ap view_of c.new.ensures.seat ∙ n.1.1)),
      omega arith,
    )
