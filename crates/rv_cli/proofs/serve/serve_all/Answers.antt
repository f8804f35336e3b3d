use Rattle.rv_keeper.specs.StoreLaws.{others_of, others_on}
use Rattle.std.proofs.Common.{◌≢◌, ◌⊎◌, ℕ, inl, inr, ap, subst, sym, ◌∙◌}
use Rattle.rv_base.specs.Causes.{Rose}
use Rattle.rv_cli.proofs.Steady.{no_accounts_not_nine, no_store_not_four, no_store_not_nine, serve_not_four, serve_not_nine, served_not_four, served_not_nine, served_seven}
use Rattle.rv_book.specs.Book.{size}
use Rattle.rv_cli.specs.declared.serve_ending.ServeEnding.TheVariants.{NotOpened}
use Rattle.rv_cli.proofs.Serving.{has_no_store, net_before, serve_ended, unserved_by}
use Rattle.rv_cli.proofs.serve.serve_all.Goals as goal

pub returns-in-Err-open_desk-clause-serve : goal.returns-in-Err-open_desk-clause-serve
returns-in-Err-open_desk-clause-serve g c =
    let read = rw c.as_str.ensures at c.in-Ok.ensures.read in
    let text = rw c.tell-in-Err-open_desk.ensures.ending at c.status-in-Err-open_desk.ensures in (
      NotOpened c.in-Err-open_desk.ending,
      text,
      inr (inl (has_no_store g.P.Place g.P.Kept.Keeper g.N.Net.faults c.args.store.now c.args.options.now.accounts c.args.place.now c.accounts_of.new.place c.open_desk.new.place c.in-Ok.accounts c.in-Err-open_desk.ending c.args.net.now
          (g.O.Sink.state c.args.out.now) (g.O.Sink.state c.tell-in-Err-open_desk.new.out) read c.in-Err-open_desk.ensures.told c.in-Err-open_desk.ensures.opens c.tell-in-Err-open_desk.ensures.text)),
    )

pub returns-clause-serve : goal.returns-clause-serve
returns-clause-serve g c =
    let read = rw c.as_str.ensures at c.in-Ok.ensures.read in (
      c.write_served.result,
      c.status-2.ensures,
      inr (inr (serve_ended g.P.Place g.P.Kept.Keeper g.N.Net.faults c.args.store.now c.args.options.now.accounts
          c.args.place.now c.accounts_of.new.place c.open_desk.new.place c.close_keeper.new.self c.in-Ok.accounts c.in-Ok-open_desk.desk c.serve_net-served.result.1 c.close.result read c.in-Ok-open_desk.ensures.opens c.in-Ok-open_desk.ensures.told c.close.ensures.keeper c.close.ensures.kept c.close.ensures.sound
          (record { told = c.close_keeper.ensures.tells; honest = c.close_keeper.ensures.honest; held = c.close_keeper.ensures.kept; left = c.close_keeper.ensures.crash; taken = c.close_keeper.ensures.faults })
          _ c.args.net.now c.serve_net-served.new.net c.serve_net-served.result.0 c.len-entries.result (g.O.Sink.state c.args.out.now) (g.O.Sink.state c.write_served.new.out) c.write_served.result
          c.serve_net-served.ensures.serves (c.len-entries.ensures.value ∙ ap size c.book.ensures.book) c.write_served.ensures.writes)),
    )

pub returns-clause-steady : goal.returns-clause-steady
returns-clause-steady g c = λ steady.
    let written = c.write_served.ensures.steady steady in
    let status = c.status-2.ensures in (
      written.goes_on,
      subst (λ (n : ℕ). Rose (g.O.Sink.state c.args.out.now).refusals (g.O.Sink.state c.write_served.new.out).refusals ⊎ (n ≢ 7)) (sym status)
          (served_seven c.serve_net-served.result.0 c.len-entries.result (g.O.Sink.state c.args.out.now) (g.O.Sink.state c.write_served.new.out) c.write_served.result _ c.write_served.ensures.writes written.only_memory),
    )

pub returns-clause-unserved : goal.returns-clause-unserved
returns-clause-unserved g c = inr (unserved_by _ c.serve_net-served.result.0 c.len-entries.result (g.O.Sink.state c.args.out.now) (g.O.Sink.state c.write_served.new.out) c.write_served.result _ c.write_served.ensures.writes c.status-2.ensures c.serve_net-served.ensures.unserved)

pub returns-clause-wanted : goal.returns-clause-wanted
returns-clause-wanted g c = inr (λ told. (c.serve_net-served.ensures.wanted told, c.serve_net-served.ensures.wanted_pokes told))

pub returns-in-Err-clause-others : goal.returns-in-Err-clause-others
returns-in-Err-clause-others g c = λ told. others_of g.P.Place.holds g.P.Place.may_leave g.P.Place.is_out g.P.Place.has g.P.Place.accounts c.args.store.now c.args.place.now c.accounts_of.new.place (c.accounts_of.ensures.read.stays told)

pub returns-in-Err-open_desk-clause-others : goal.returns-in-Err-open_desk-clause-others
returns-in-Err-open_desk-clause-others g c = λ told.
    let mid = c.in-Err-open_desk.ensures.told told in
    others_on g.P.Place.holds g.P.Place.may_leave g.P.Place.is_out g.P.Place.has g.P.Place.accounts c.args.store.now c.args.place.now c.accounts_of.new.place c.open_desk.new.place (others_of g.P.Place.holds g.P.Place.may_leave g.P.Place.is_out g.P.Place.has g.P.Place.accounts c.args.store.now c.args.place.now c.accounts_of.new.place (c.accounts_of.ensures.read.stays mid)) (c.open_desk.ensures.others told)

pub returns-clause-others : goal.returns-clause-others
returns-clause-others g c = λ told.
    let (opened, kept) = c.close_keeper.ensures.tells told in
    let mid = c.in-Ok-open_desk.ensures.told opened (net_before _ g.P.Kept.Keeper.tells _ _ c.in-Ok-open_desk.desk c.serve_net-served.result.1 c.serve_net-served.result.0 c.serve_net-served.ensures.serves (subst g.P.Kept.Keeper.tells c.close.ensures.keeper kept)) in
    others_on g.P.Place.holds g.P.Place.may_leave g.P.Place.is_out g.P.Place.has g.P.Place.accounts c.args.store.now c.args.place.now c.open_desk.new.place c.close_keeper.new.self
    (others_on g.P.Place.holds g.P.Place.may_leave g.P.Place.is_out g.P.Place.has g.P.Place.accounts c.args.store.now c.args.place.now c.accounts_of.new.place c.open_desk.new.place (others_of g.P.Place.holds g.P.Place.may_leave g.P.Place.is_out g.P.Place.has g.P.Place.accounts c.args.store.now c.args.place.now c.accounts_of.new.place (c.accounts_of.ensures.read.stays mid)) (c.open_desk.ensures.others opened))
    (c.close_keeper.ensures.others told)

pub returns-in-Err-clause-steady_place : goal.returns-in-Err-clause-steady_place
returns-in-Err-clause-steady_place g c = λ steady there. let (on, never) = c.in-Err.ensures.steady steady (rw c.as_str.ensures there) in
    (on, λ is. serve_not_four c.in-Err.ending never (sym (rw c.tell.ensures.ending at c.status.ensures) ∙ is))

pub returns-in-Err-open_desk-clause-steady_place : goal.returns-in-Err-open_desk-clause-steady_place
returns-in-Err-open_desk-clause-steady_place g c = λ steady there.
    let (on, never) = c.accounts_of.ensures.steady steady (rw c.as_str.ensures there) in
    let (opened, same, why) = c.in-Err-open_desk.ensures.steady on in
    (opened, λ is. serve_not_four (NotOpened c.in-Err-open_desk.ending) (no_store_not_four c.in-Err-open_desk.ending why) (sym (rw c.tell-in-Err-open_desk.ensures.ending at c.status-in-Err-open_desk.ensures) ∙ is))

pub returns-clause-steady_place : goal.returns-clause-steady_place
returns-clause-steady_place g c = λ steady there.
    let (on, never) = c.accounts_of.ensures.steady steady (rw c.as_str.ensures there) in
    let (opened, same, desk) = c.open_desk.ensures.steady on in
    (c.close_keeper.ensures.steady opened, λ is. serve_not_four c.write_served.result (served_not_four c.serve_net-served.result.0 c.len-entries.result (g.O.Sink.state c.args.out.now) (g.O.Sink.state c.write_served.new.out) c.write_served.result c.write_served.ensures.writes) (sym c.status-2.ensures ∙ is))

pub returns-in-Err-clause-steady_net : goal.returns-in-Err-clause-steady_net
returns-in-Err-clause-steady_net g c = λ steady enough some is.
    serve_not_nine c.in-Err.ending (no_accounts_not_nine g.P.Place _ _ _ c.in-Err.ending c.in-Err.ensures.read.gives_accounts) (sym (rw c.tell.ensures.ending at c.status.ensures) ∙ is)

pub returns-in-Err-open_desk-clause-steady_net : goal.returns-in-Err-open_desk-clause-steady_net
returns-in-Err-open_desk-clause-steady_net g c = λ steady enough some is.
    serve_not_nine (NotOpened c.in-Err-open_desk.ending) (no_store_not_nine c.in-Err-open_desk.ending) (sym (rw c.tell-in-Err-open_desk.ensures.ending at c.status-in-Err-open_desk.ensures) ∙ is)

pub returns-clause-steady_net : goal.returns-clause-steady_net
returns-clause-steady_net g c = λ steady enough some is.
    serve_not_nine c.write_served.result (served_not_nine c.serve_net-served.result.0 c.len-entries.result (g.O.Sink.state c.args.out.now) (g.O.Sink.state c.write_served.new.out) c.write_served.result c.write_served.ensures.writes (c.serve_net-served.ensures.steady_net steady enough some)) (sym c.status-2.ensures ∙ is)
