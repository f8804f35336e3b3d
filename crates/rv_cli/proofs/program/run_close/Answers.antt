use Rattle.rv_cli.specs.Change.{change}
use Rattle.rv_cli.specs.ReplyPromises.{reply_statuses}
use Rattle.rv_cli.proofs.Kept.{as_of, keeps, refused_keeps, reply_among}
use Rattle.rv_cli.proofs.Steady.{not_four, reply_is_none, taken_up}
use Rattle.rv_keeper.specs.StoreLaws.{others_on}
use Rattle.rv_answering.specs.declared.line.Line.TheVariants.{Asks}
use Rattle.rv_answering.specs.declared.request.Request.TheVariants.{Close}
use Rattle.std.proofs.Common.{Ok, inr, refl, sym, ◌∙◌, lit<}
use Rattle.rv_cli.proofs.Sound.{one_sound}
use Rattle.rv_cli.proofs.Storing.{has_replied}
use Rattle.rv_cli.proofs.program.run_close.Goals as goal

pub returns-in-Ok-clause-answered : goal.returns-in-Ok-clause-answered
returns-in-Ok-clause-answered g c = (
  c.write_reply.result,
  c.status.ensures,
  inr (has_replied g.P.Place g.P.Kept.Keeper c.args.store.now c.args.place.now c.open_desk.new.place c.close_keeper.new.self c.in-Ok.desk (Asks (Ok Close)) c.closed-answer.result
      (g.O.Sink.state c.args.out.now) (g.O.Sink.state c.write_reply.new.out) c.write_reply.result
      c.in-Ok.ensures.opens c.closed-answer.ensures.closed (record { told = c.close_keeper.ensures.tells; honest = c.close_keeper.ensures.honest; held = c.close_keeper.ensures.kept; left = c.close_keeper.ensures.crash; taken = c.close_keeper.ensures.faults }) c.write_reply.ensures.replies),
)

pub returns-in-Ok-clause-keeps : goal.returns-in-Ok-clause-keeps
returns-in-Ok-clause-keeps g c =
    keeps g.P.Place c.args.store.now reply_statuses (Unit {0}) c.args.place.now c.close_keeper.new.self _ (as_of reply_statuses _ c.write_reply.result c.status.ensures (reply_among reply_statuses (0, lit< tt, refl) (3, lit< tt, refl) (g.O.Sink.state c.args.out.now) (g.O.Sink.state c.write_reply.new.out) c.closed-answer.result.0 c.write_reply.result c.write_reply.ensures.replies))
    (λ told kept. one_sound (change g.P.Place c.args.store.now c.args.place.now c.close_keeper.new.self) told kept _ _ _ _ (returns-in-Ok-clause-answered g c))
    (λ t. others_on g.P.Place.holds g.P.Place.may_leave g.P.Place.is_out g.P.Place.has g.P.Place.accounts c.args.store.now c.args.place.now c.open_desk.new.place c.close_keeper.new.self (c.open_desk.ensures.others (c.close_keeper.ensures.tells t).0) (c.close_keeper.ensures.others t))
    (λ steady none.
    let (on, same, desk) = c.in-Ok.ensures.steady steady in
    record { goes_on = c.close_keeper.ensures.steady on; no_fault = λ is. not_four c.write_reply.result (reply_is_none (g.O.Sink.state c.args.out.now) (g.O.Sink.state c.write_reply.new.out) c.closed-answer.result.0 c.write_reply.result c.write_reply.ensures.replies) (sym c.status.ensures ∙ is) })

pub returns-in-Err-clause-keeps : goal.returns-in-Err-clause-keeps
returns-in-Err-clause-keeps g c =
    refused_keeps g.P.Place c.args.store.now reply_statuses (Unit {0}) c.args.place.now c.open_desk.new.place (1, lit< tt, refl) (2, lit< tt, refl) (4, lit< tt, refl) c.in-Err.ending _ c.in-Err.ensures.opens.0 c.refuse_opening.ensures.status
    c.open_desk.ensures.others (λ steady none. let (on, same, never) = c.in-Err.ensures.steady steady in (on, never))

pub returns-in-Ok-clause-still : goal.returns-in-Ok-clause-still
returns-in-Ok-clause-still g c = λ steady none.
    let (on, same, (goes, fresh)) = c.in-Ok.ensures.steady steady in
    let (kept, still) = c.closed-answer.ensures.steady goes in
    taken_up _ _ _ (still ∙ fresh) c.close_keeper.ensures.faults ∙ same

pub returns-in-Err-clause-still : goal.returns-in-Err-clause-still
returns-in-Err-clause-still g c = λ steady none. let (on, same, never) = c.in-Err.ensures.steady steady in same
