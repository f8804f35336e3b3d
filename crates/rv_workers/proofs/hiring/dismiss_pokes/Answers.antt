use Rattle.std.proofs.Common.{◌≡◌, ◌∷◌, [], ◌++◌, length, arith, ap, sym, ◌∙◌, subst, length-append}
use Rattle.std.specs.List.{AllByRecursion}
use Rattle.rv_room.specs.SeatLaws.{more_of}
use Rattle.rv_room.specs.Seats.{id_of, AllOf}
use Rattle.rv_workers.specs.Hiring.{reversed}
use Rattle.rv_workers.proofs.Turned.{reversed-back, all_last}
use Rattle.rv_workers.proofs.hiring.dismiss_pokes.Goals as goal

pub loop-job-preserved : goal.loop-job-preserved
loop-job-preserved g c =
    let i = c.loop-job.invariant in
    let is = c.in-Some.ensures.items in
    let l = all_last _ c.pop.new.self.items c.in-Some.job (subst (AllByRecursion _) is i.4) in
    let a = ap length c.give.ensures.list in
    let b = length-append c.loop-job.seats.list.items (c.dismiss-seat.result.0 ∷ []) in
    let o1 = c.loop-job.seats.list.ok.0 in
    let o2 = c.give.new.self.list.ok.0 in
    let p = c.in-Some.ensures.len in
    let q = c.push_reserved.ensures.len in
    let cap = c.push_reserved.ensures.capacity in
    let cap' = c.give.ensures.capacity in
    let e = i.2 in
    let f = i.3 in (
      subst (λ s. s ++ reversed (λ job. job.turns.seat) c.pop.new.self.items ≡ c.args.seats.now.list.items ++ reversed (λ job. job.turns.seat) c.args.jobs.items) (sym c.give.ensures.list)
          (reversed-back (λ job. job.turns.seat) _ c.loop-job.seats.list.items c.loop-job.jobs.items c.pop.new.self.items c.in-Some.job c.dismiss-seat.result.0 i.0 is c.dismiss-seat.ensures.seat),
      subst (λ s. s ++ reversed (λ job. job.listener) c.pop.new.self.items ≡ reversed (λ job. job.listener) c.args.jobs.items) (sym c.push_reserved.ensures.items)
          (reversed-back (λ job. job.listener) _ c.loop-job.listeners.items c.loop-job.jobs.items c.pop.new.self.items c.in-Some.job c.dismiss-seat.result.1 i.1 is c.dismiss-seat.ensures.listener),
      omega arith,
      omega arith,
      l.0,
      subst (AllOf _) (sym c.give.ensures.list) (more_of _ c.loop-job.seats.list.items c.dismiss-seat.result.0 i.5 (c.dismiss-seat.ensures.at ∙ ap id_of l.1)),
    )
