use Rattle.rv_cli.specs.Change.{change}
use Rattle.rv_cli.specs.FeedPromise.{feed_statuses}
use Rattle.rv_cli.specs.Headline.{served_lines}
use Rattle.rv_cli.proofs.Kept.{all_ask, as_of, feed_among, keeps, none_malformed, refused_keeps, refused_not_ten}
use Rattle.rv_cli.proofs.Steady.{not_four, taken_up}
use Rattle.rv_keeper.specs.StoreLaws.{others_on}
use Rattle.std.proofs.Common.{inr, refl, sym, ◌∙◌, lit<}
use Rattle.rv_desk.specs.DeskStates.{served}
use Rattle.rv_cli.proofs.Ended.{completes}
use Rattle.rv_cli.proofs.Sound.{feed_sound}
use Rattle.rv_cli.proofs.Storing.{has_fed}
use Rattle.rv_cli.proofs.program.run_feed.Goals as goal

pub returns-in-Ok-clause-feed : goal.returns-in-Ok-clause-feed
returns-in-Ok-clause-feed g c = (
  c.feed-ending.result.0,
  c.status.ensures,
  inr (has_fed g.P.Place g.P.Kept.Keeper c.args.store.now c.args.place.now c.open_desk.new.place c.close_keeper.new.self c.in-Ok.desk c.feed-ending.result
      (g.S.Source.state c.args.input.now) (g.S.Source.state c.feed-ending.new.input) (g.O.Sink.state c.args.out.now) (g.O.Sink.state c.feed-ending.new.out) (g.O.Sink.state c.write_ending.new.out) c.write_ending.result
      c.in-Ok.ensures.opens c.feed-ending.ensures.feeds (record { told = c.close_keeper.ensures.tells; honest = c.close_keeper.ensures.honest; held = c.close_keeper.ensures.kept; left = c.close_keeper.ensures.crash; taken = c.close_keeper.ensures.faults }) c.write_ending.ensures.writes),
)

pub returns-in-Ok-clause-complete : goal.returns-in-Ok-clause-complete
returns-in-Ok-clause-complete g c =
    none_malformed (g.S.Source.state c.args.input.now).left _ _ c.status.ensures (completes served_lines (λ state line none. none) (g.P.Kept.Keeper.tells c.feed-ending.result.1) (served g.P.Kept.Keeper.faults c.in-Ok.desk) c.feed-ending.ensures.feeds.now (g.S.Source.state c.args.input.now).left (g.S.Source.state c.args.input.now) (g.S.Source.state c.feed-ending.new.input)
    (g.O.Sink.state c.args.out.now) (g.O.Sink.state c.feed-ending.new.out) c.feed-ending.result.0 c.feed-ending.ensures.feeds.feeds.fed)

pub returns-in-Err-clause-complete : goal.returns-in-Err-clause-complete
returns-in-Err-clause-complete g c = all_ask (g.S.Source.state c.args.input.now).left _ (refused_not_ten (change g.P.Place c.args.store.now c.args.place.now c.open_desk.new.place) c.in-Err.ending _ c.in-Err.ensures.opens.0 c.refuse_opening.ensures.status)

pub returns-in-Ok-clause-keeps : goal.returns-in-Ok-clause-keeps
returns-in-Ok-clause-keeps g c =
    keeps g.P.Place c.args.store.now feed_statuses (Unit {0}) c.args.place.now c.close_keeper.new.self _ (as_of feed_statuses _ c.feed-ending.result.0 c.status.ensures (feed_among c.feed-ending.result.0))
    (λ told kept. feed_sound (change g.P.Place c.args.store.now c.args.place.now c.close_keeper.new.self) told kept _ _ _ _ _ (returns-in-Ok-clause-feed g c))
    (λ t. others_on g.P.Place.holds g.P.Place.may_leave g.P.Place.is_out g.P.Place.has g.P.Place.accounts c.args.store.now c.args.place.now c.open_desk.new.place c.close_keeper.new.self (c.open_desk.ensures.others (c.close_keeper.ensures.tells t).0) (c.close_keeper.ensures.others t))
    (λ steady none.
    let (on, same, (goes, still)) = c.in-Ok.ensures.steady steady in
    record { goes_on = c.close_keeper.ensures.steady on; no_fault = λ is. not_four c.feed-ending.result.0 (c.feed-ending.ensures.steady_keeper goes).no_fault (sym c.status.ensures ∙ is) })

pub returns-in-Err-clause-keeps : goal.returns-in-Err-clause-keeps
returns-in-Err-clause-keeps g c =
    refused_keeps g.P.Place c.args.store.now feed_statuses (Unit {0}) c.args.place.now c.open_desk.new.place (1, lit< tt, refl) (2, lit< tt, refl) (5, lit< tt, refl) c.in-Err.ending _ c.in-Err.ensures.opens.0 c.refuse_opening.ensures.status
    c.open_desk.ensures.others (λ steady none. let (on, same, never) = c.in-Err.ensures.steady steady in (on, never))

pub returns-in-Ok-clause-still : goal.returns-in-Ok-clause-still
returns-in-Ok-clause-still g c = λ steady none.
    let (on, same, (goes, still)) = c.in-Ok.ensures.steady steady in
    taken_up _ _ _ ((c.feed-ending.ensures.steady_keeper goes).still ∙ still) c.close_keeper.ensures.faults ∙ same

pub returns-in-Err-clause-still : goal.returns-in-Err-clause-still
returns-in-Err-clause-still g c = λ steady none. let (on, same, never) = c.in-Err.ensures.steady steady in same
