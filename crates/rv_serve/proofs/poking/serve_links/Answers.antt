use Rattle.std.proofs.Common.{refl, sym, ap, ◌∙◌, ◌∷◌, [], ◌++◌, List, arith}
use Rattle.rv_serve.proofs.Links.{links_more, none_so_far}
use Rattle.rv_serve.proofs.poking.serve_links.Goals as goal

pub loop-link-init : goal.loop-link-init
loop-link-init g c = record {
  served = none_so_far g.M.Marks.marks g.P.PokeListen g.P.Link.PokeLink c.args.accounts.now.accounts c.args.marks.now (g.B.Bell.state c.args.bell.now) c.args.listener.now;
  tells = λ now. now;
  ends = refl;
}

pub loop-link-preserved-in-Link : goal.loop-link-preserved-in-Link
loop-link-preserved-in-Link g c =
    let told = c.done.ensures.tells in
    let given = c.in-Link.ensures.given in record {
      served = links_more g.M.Marks.marks g.P.PokeListen g.P.Link.PokeLink c.args.accounts.now.accounts
          c.args.marks.now (g.B.Bell.state c.args.bell.now) c.args.listener.now c.loop-link.marks (g.B.Bell.state c.loop-link.bell) c.loop-link.listener c.poke_session.new.marks (g.B.Bell.state c.poke_session.new.bell) c.done.new.self
          c.in-Link.link c.poke_session.new.link c.poke_session.result c.loop-link.invariant.served c.poke_session.ensures.session c.poke_session.ensures.cause
          (λ now. c.in-Link.ensures.tells (told now))
          (λ now. (given (told now)).0 ∙ ap (λ (links : List g.row.P-Link.Denot). c.in-Link.link ∷ links) (sym (c.done.ensures.to_come now)))
          (λ now. c.done.ensures.back now ∙ ap (λ (links : List g.row.P-Link.Denot). links ++ c.poke_session.new.link ∷ []) (c.in-Link.ensures.back (told now)))
          (λ now. omega (arith, (given (told now)).1, c.done.ensures.out now));
      tells = λ now. c.loop-link.invariant.tells (c.in-Link.ensures.tells (told now));
      ends = c.done.ensures.ends ∙ c.in-Link.ensures.ends ∙ c.loop-link.invariant.ends;
    }
