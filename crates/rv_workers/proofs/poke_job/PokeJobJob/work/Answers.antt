use Rattle.std.proofs.Common.{◌≡◌, refl, ◌∙◌}
use Rattle.rv_room.specs.SeatMarks.{IsSeatMark}
use Rattle.rv_room.specs.Seats.{view_of}
use Rattle.rv_serve.specs.PokingLaws.{all_links_shown}
use Rattle.rv_workers.specs.Looking.{HasEnteredNothing}
use Rattle.rv_workers.proofs.poke_job.PokeJobJob.work.Goals as goal

pub returns : goal.returns
returns g c =
    let all = all_links_shown (λ t. view_of t.seat) (λ s t. (t.room.now ≡ s.room.now) × HasEnteredNothing (view_of s.seat) (view_of t.seat))
    (λ s. (refl, record { own = refl; settled = refl; left = refl }))
    (λ s t u p q. (q.0 ∙ p.0, record { own = q.1.own ∙ p.1.own; settled = q.1.settled ∙ p.1.settled; left = q.1.left ∙ p.1.left }))
    _ (IsSeatMark g.K.Keeper) (λ s user mark t look. (look.0, (look.1, record { own = look.0.own; settled = look.0.settled; left = look.0.left })))
    g.P.Link.PokeLink _ g.P.PokeListen _ _ _ _ _ _ c.serve_links.ensures.serves in
    (all.1.0, c.serve_links.ensures.tells, c.serve_links.ensures.ends, all.1.1, all.0)
