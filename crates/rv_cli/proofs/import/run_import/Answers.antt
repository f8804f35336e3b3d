use Rattle.std.proofs.Common.{ℕ, Contains, inl, inr, refl, sym, ◌∙◌, arith, subst, lit<}
use Rattle.rv_keeper.specs.StoreLaws.{others_on}
use Rattle.rv_desk.specs.DeskStates.{DeskTakes}
use Rattle.rv_cli.specs.Change.{change}
use Rattle.rv_cli.specs.ImportPromise.{import_statuses}
use Rattle.rv_cli.proofs.Imported.{has_imported, import_among, import_not_five, import_not_four, read_rose, read_still, refused_as, refused_other, refused_rose, refused_written, tells_read, tells_write, whole_steady, write_rose, write_still, written_seven}
use Rattle.rv_cli.proofs.Kept.{keeps, refused_keeps}
use Rattle.rv_cli.proofs.Steady.{taken_up}
use Rattle.rv_cli.proofs.import.run_import.Goals as goal

pub returns-in-Ok-clause-import : goal.returns-in-Ok-clause-import
returns-in-Ok-clause-import g c =
    inr (
      c.write_came.result,
      c.status.ensures,
      has_imported g.P.Place g.P.Kept.Keeper c.args.store.now c.args.place.now c.open_desk.new.place c.close_keeper.new.self c.in-Ok.desk c.args.user.now c.args.name.now c.import_at-came.result
          (g.S.Source.state c.args.input.now) (g.S.Source.state c.import_at-came.new.input) (g.O.Sink.state c.args.out.now) (g.O.Sink.state c.write_came.new.out) c.write_came.result
          c.in-Ok.ensures.opens c.import_at-came.ensures.imports (record { told = c.close_keeper.ensures.tells; honest = c.close_keeper.ensures.honest; held = c.close_keeper.ensures.kept; left = c.close_keeper.ensures.crash; taken = c.close_keeper.ensures.faults }) c.write_came.ensures.writes,
    )

pub returns-in-Ok-clause-keeper : goal.returns-in-Ok-clause-keeper
returns-in-Ok-clause-keeper g c = λ four. absurd (import_not_four c.write_came.result (sym c.status.ensures ∙ four))

pub returns-in-Ok-clause-read : goal.returns-in-Ok-clause-read
returns-in-Ok-clause-read g c =
    read_rose (g.S.Source.state c.args.input.now) (g.S.Source.state c.import_at-came.new.input) c.write_came.result _ c.status.ensures
    (tells_read (DeskTakes g.P.Kept.Keeper) c.args.user.now c.args.name.now c.in-Ok.desk c.import_at-came.ensures.imports.new _ _ c.import_at-came.result.0 (g.O.Sink.state c.args.out.now) (g.O.Sink.state c.write_came.new.out) c.write_came.result c.import_at-came.ensures.imports.imports c.write_came.ensures.writes)

pub returns-in-Ok-clause-read_told : goal.returns-in-Ok-clause-read_told
returns-in-Ok-clause-read_told g c =
    read_still (g.S.Source.state c.args.input.now) (g.S.Source.state c.import_at-came.new.input) c.write_came.result _ c.status.ensures
    (tells_read (DeskTakes g.P.Kept.Keeper) c.args.user.now c.args.name.now c.in-Ok.desk c.import_at-came.ensures.imports.new _ _ c.import_at-came.result.0 (g.O.Sink.state c.args.out.now) (g.O.Sink.state c.write_came.new.out) c.write_came.result c.import_at-came.ensures.imports.imports c.write_came.ensures.writes)

pub returns-in-Ok-clause-write : goal.returns-in-Ok-clause-write
returns-in-Ok-clause-write g c =
    write_rose (g.O.Sink.state c.args.out.now) (g.O.Sink.state c.write_came.new.out) c.write_came.result _ c.status.ensures
    (tells_write (g.O.Sink.state c.args.out.now) (g.O.Sink.state c.write_came.new.out) c.import_at-came.result.0 c.write_came.result c.write_came.ensures.writes)

pub returns-in-Ok-clause-write_told : goal.returns-in-Ok-clause-write_told
returns-in-Ok-clause-write_told g c =
    write_still (g.O.Sink.state c.args.out.now) (g.O.Sink.state c.write_came.new.out) c.write_came.result _ c.status.ensures
    (tells_write (g.O.Sink.state c.args.out.now) (g.O.Sink.state c.write_came.new.out) c.import_at-came.result.0 c.write_came.result c.write_came.ensures.writes)

pub returns-in-Ok-clause-steady_input : goal.returns-in-Ok-clause-steady_input
returns-in-Ok-clause-steady_input g c = λ steady.
    let (on, never) = whole_steady _ (g.O.Sink.state c.args.out.now) (g.O.Sink.state c.write_came.new.out) c.import_at-came.result.0 c.write_came.result c.write_came.ensures.writes (c.import_at-came.ensures.steady_input steady) in
    (on, λ six. never (sym c.status.ensures ∙ six))

pub returns-in-Ok-clause-steady_output : goal.returns-in-Ok-clause-steady_output
returns-in-Ok-clause-steady_output g c = λ steady.
    let written = c.write_came.ensures.steady steady in
    (written.goes_on, written_seven _ c.write_came.result _ c.status.ensures written.only_memory)

pub returns-in-Err-clause-import : goal.returns-in-Err-clause-import
returns-in-Err-clause-import g c = inl (c.in-Err.ending, c.refuse_opening.ensures.status, record { why = c.in-Err.ensures.opens.0; same = refl; text = c.refuse_opening.ensures.text }, c.in-Err.ensures.opens.1)

pub returns-in-Err-clause-keeper : goal.returns-in-Err-clause-keeper
returns-in-Err-clause-keeper g c = refused_rose _ _ _ (refused_as (change g.P.Place c.args.store.now c.args.place.now c.open_desk.new.place) c.in-Err.ending _ c.in-Err.ensures.opens.0 c.refuse_opening.ensures.status)

pub returns-in-Err-clause-read : goal.returns-in-Err-clause-read
returns-in-Err-clause-read g c = λ six. absurd (refused_other _ _ _ 6 (refused_as (change g.P.Place c.args.store.now c.args.place.now c.open_desk.new.place) c.in-Err.ending _ c.in-Err.ensures.opens.0 c.refuse_opening.ensures.status) (λ e. omega (arith, e)) (λ e. omega (arith, e)) (λ e. omega (arith, e)) six)

pub returns-in-Err-clause-write : goal.returns-in-Err-clause-write
returns-in-Err-clause-write g c = λ seven. absurd (refused_other _ _ _ 7 (refused_as (change g.P.Place c.args.store.now c.args.place.now c.open_desk.new.place) c.in-Err.ending _ c.in-Err.ensures.opens.0 c.refuse_opening.ensures.status) (λ e. omega (arith, e)) (λ e. omega (arith, e)) (λ e. omega (arith, e)) seven)

pub returns-in-Err-clause-write_told : goal.returns-in-Err-clause-write_told
returns-in-Err-clause-write_told g c = inr (refused_written _ _ _ (g.O.Sink.state c.args.out.now) (g.O.Sink.state c.refuse_opening.new.out) _ (refused_as (change g.P.Place c.args.store.now c.args.place.now c.open_desk.new.place) c.in-Err.ending _ c.in-Err.ensures.opens.0 c.refuse_opening.ensures.status) c.refuse_opening.ensures.text)

pub returns-in-Err-clause-steady_input : goal.returns-in-Err-clause-steady_input
returns-in-Err-clause-steady_input g c = λ steady. (steady, λ six. refused_other _ _ _ 6 (refused_as (change g.P.Place c.args.store.now c.args.place.now c.open_desk.new.place) c.in-Err.ending _ c.in-Err.ensures.opens.0 c.refuse_opening.ensures.status) (λ e. omega (arith, e)) (λ e. omega (arith, e)) (λ e. omega (arith, e)) six)

pub returns-in-Err-clause-steady_output : goal.returns-in-Err-clause-steady_output
returns-in-Err-clause-steady_output g c = λ steady. (c.refuse_opening.ensures.steady steady, inr (λ seven. refused_other _ _ _ 7 (refused_as (change g.P.Place c.args.store.now c.args.place.now c.open_desk.new.place) c.in-Err.ending _ c.in-Err.ensures.opens.0 c.refuse_opening.ensures.status) (λ e. omega (arith, e)) (λ e. omega (arith, e)) (λ e. omega (arith, e)) seven))

pub returns-in-Ok-clause-keeps : goal.returns-in-Ok-clause-keeps
returns-in-Ok-clause-keeps g c =
    keeps g.P.Place c.args.store.now import_statuses (Unit {0}) c.args.place.now c.close_keeper.new.self _ (subst (λ (status : ℕ). Contains import_statuses status) (sym c.status.ensures) (import_among c.write_came.result))
    (λ told kept five. import_not_five c.write_came.result (sym c.status.ensures ∙ five))
    (λ t. others_on g.P.Place.holds g.P.Place.may_leave g.P.Place.is_out g.P.Place.has g.P.Place.accounts c.args.store.now c.args.place.now c.open_desk.new.place c.close_keeper.new.self (c.open_desk.ensures.others (c.close_keeper.ensures.tells t).0) (c.close_keeper.ensures.others t))
    (λ steady none.
    let (on, same, desk) = c.in-Ok.ensures.steady steady in
    record { goes_on = c.close_keeper.ensures.steady on; no_fault = λ is. import_not_four c.write_came.result (sym c.status.ensures ∙ is) })

pub returns-in-Err-clause-keeps : goal.returns-in-Err-clause-keeps
returns-in-Err-clause-keeps g c =
    refused_keeps g.P.Place c.args.store.now import_statuses (Unit {0}) c.args.place.now c.open_desk.new.place (1, lit< tt, refl) (2, lit< tt, refl) (5, lit< tt, refl) c.in-Err.ending _ c.in-Err.ensures.opens.0 c.refuse_opening.ensures.status
    c.open_desk.ensures.others (λ steady none. let (on, same, never) = c.in-Err.ensures.steady steady in (on, never))

pub returns-in-Ok-clause-still : goal.returns-in-Ok-clause-still
returns-in-Ok-clause-still g c = λ steady none.
    let (on, same, (goes, fresh)) = c.in-Ok.ensures.steady steady in
    let (kept, still) = c.import_at-came.ensures.steady_keeper goes in
    taken_up _ _ _ (still ∙ fresh) c.close_keeper.ensures.faults ∙ same

pub returns-in-Err-clause-still : goal.returns-in-Err-clause-still
returns-in-Err-clause-still g c = λ steady none. let (on, same, never) = c.in-Err.ensures.steady steady in same
