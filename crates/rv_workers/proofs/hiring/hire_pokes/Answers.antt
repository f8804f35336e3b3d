use Rattle.std.proofs.Common.{◌≡◌, ◌∷◌, [], ◌++◌, length, arith, ap, sym, ◌∙◌, subst, length-append}
use Rattle.std.specs.List.{AllByRecursion}
use Rattle.rv_poke.specs.Bells.{unasked}
use Rattle.rv_room.specs.SeatLaws.{last_new}
use Rattle.rv_room.specs.Seats.{view_of}
use Rattle.rv_workers.specs.Hiring.{reversed}
use Rattle.rv_workers.proofs.Turned.{reversed-moves, all_snoc, all_last}
use Rattle.rv_workers.proofs.hiring.hire_pokes.Goals as goal

pub loop-listener-preserved : goal.loop-listener-preserved
loop-listener-preserved g c =
    let i = c.loop-listener.invariant in
    let t = c.in-Some-take.ensures.last in
    let n = last_new _ _ _ _ _ t i.1 in
    let a = ap length t in
    let b = length-append c.take.new.self.list.items (c.in-Some-take.seat ∷ []) in
    let o1 = c.loop-listener.seats.list.ok.0 in
    let o2 = c.take.new.self.list.ok.0 in
    let p = c.in-Some.ensures.len in
    let q = c.push_reserved.ensures.len in
    let e = i.2 in
    let f = i.3 in
    let bells = i.7 in
    let last = all_last (λ bell. g.B.Bell.state bell ≡ unasked) c.pop-in-Some.new.self.items c.in-Some-pop.bell (subst (AllByRecursion _) c.in-Some-pop.ensures.items i.8) in
    let gone = c.in-Some-pop.ensures.len in
    let cap = c.push_reserved.ensures.capacity in (
      subst (λ ws. c.pop.new.self.items ++ reversed (λ job. job.listener) ws ≡ c.args.listeners.now.items) (sym c.push_reserved.ensures.items)
          (reversed-moves (λ job. job.listener) _ _ c.pop.new.self.items c.in-Some.listener c.loop-listener.jobs.items c.new.result i.0 c.in-Some.ensures.items c.new.ensures.listener),
      n.0,
      omega arith,
      omega arith,
      c.in-Some.ensures.capacity ∙ i.4,
      c.in-Some-take.ensures.capacity ∙ i.5,
      subst (AllByRecursion _) (sym c.push_reserved.ensures.items) (all_snoc _ c.loop-listener.jobs.items c.new.result i.6 (c.new.ensures.room, c.new.ensures.accounts, ap view_of c.new.ensures.seat ∙ n.1.1, ap g.B.Bell.state c.new.ensures.bell ∙ last.1)),
      omega arith,
      last.0,
    )
