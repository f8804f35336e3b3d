use Rattle.std.proofs.Common.{rules, [], ◌∷◌, ◌++◌, refl, subst, arith, IfErr}
use Rattle.sqlite.specs.Given.{IsRefused}
use Rattle.sqlite.specs.State.{HasCleanDisk, FailsToQuery}
use Rattle.sqlite.specs.Held.{state}
use Rattle.sqlite.proofs.StateLemmas.{survives_then, survives_weaker}
use Rattle.rv_keeper.specs.Keeping.{holding}
use Rattle.rv_sqlite.specs.Loads.{ReadsTable, all_text}
use Rattle.rv_sqlite.specs.Moves.{MovesTo}
use Rattle.rv_sqlite.proofs.Gathered.{all_gathered, more_gathered, none_gathered}
use Rattle.rv_sqlite.proofs.Kept.{keeps_then, unchanged_keeps}
use Rattle.rv_sqlite.proofs.Querying.{all_query, begun_none, failed_keeps, never_commits}
use Rattle.rv_sqlite.proofs.RowsGiven.{all_given, more_given}
use Rattle.rv_sqlite.proofs.reading.read_table.Goals as goal

-- A query that is refused commits nothing.
pub returns-in-Err-clause-kept : goal.returns-in-Err-clause-kept
returns-in-Err-clause-kept g c clean =
    let old = c.args.connection.now in
    let new = c.all_rows.follows.lender-at-none in
    let held : IsRefused g.S.Store all_text [] old c.all_rows.result new = search rules in
    let err = subst (λ r. IfErr r (FailsToQuery all_text [] (state g.S.Store old) (state g.S.Store new))) c.in-Err.is (held.err clean) in
    failed_keeps all_text all_query [] (state g.S.Store old) (state g.S.Store new) c.in-Err.refused err

pub returns-in-Err-clause-survives : goal.returns-in-Err-clause-survives
returns-in-Err-clause-survives g c =
    let old = c.args.connection.now in
    let new = c.all_rows.follows.lender-at-none in
    let held : IsRefused g.S.Store all_text [] old c.all_rows.result new = search rules in
    survives_weaker (state g.S.Store old) (state g.S.Store new) _ (λ _. ⊥) (λ clean trees may. never_commits all_text all_query (state g.S.Store old) [] trees may) held.survives

-- No row is given yet.
pub loop-init : goal.loop-init
loop-init g c =
    let old = c.args.connection.now in
    let now = c.in-Ok.rows.conn.now in
    let made = c.in-Ok.ensures in
    let begun = λ (clean : HasCleanDisk (state g.S.Store now)). begun_none all_text all_query g.S.Store [] old now (made.begun clean) in
    record {
      same = refl;
      order = search rules;
      mode = made.mode;
      kept = λ clean. unchanged_keeps (state g.S.Store old) (state g.S.Store now) (begun clean).1;
      survives = survives_weaker (state g.S.Store old) (state g.S.Store now) _ (λ _. ⊥) (λ clean trees may. never_commits all_text all_query (state g.S.Store old) [] trees may) made.survives;
      read = λ clean. record { rows = []; given = begun clean; gathered = none_gathered c.new-cells.result.items (search rules) };
    }

-- One more row is given, and gathered.
pub loop-preserved : goal.loop-preserved
loop-preserved g c =
    let first = c.args.connection.now in
    let before = c.loop.rows.conn.now in
    let now = c.next_read.new.rows.conn.now in
    record {
      same = search rules;
      order = c.gather.ensures.order;
      mode = λ outside. c.next_read.ensures.mode (c.loop.invariant.mode outside);
      kept = λ clean.
          let early : HasCleanDisk (state g.S.Store before) = omega (arith, c.next_read.ensures.survives.clean) in
          keeps_then (state g.S.Store first) (state g.S.Store before) (state g.S.Store now) (c.loop.invariant.kept early) (c.next_read.ensures.kept clean);
      survives = survives_then (state g.S.Store first) (state g.S.Store before) (state g.S.Store now) (λ _. ⊥) (λ _. ⊥) (λ _. ⊥) (λ _ trees h. h) (λ _ trees h. h) c.loop.invariant.survives c.next_read.ensures.survives;
      read = λ clean.
          let early : HasCleanDisk (state g.S.Store before) = omega (arith, c.next_read.ensures.survives.clean) in
          let some = c.loop.invariant.read early in
          let moved = subst (λ o. MovesTo g.S.Store before now o) c.in-Some.is (c.in_ok-read.ensures.found clean) in
          record {
            rows = some.rows ++ moved.0 ∷ [];
            given = more_given g.S.Store all_text [] first before now some.rows moved.0 some.given moved.1;
            gathered = more_gathered some.rows c.loop.cells.items c.gather.new.cells.items c.loop.generation c.gather.new.generation moved.0 c.in-Some.read some.gathered moved.2
                c.in_ok-gather-in-Some.ensures.cells c.in_ok-gather-in-Some.ensures.generation;
          };
    }

-- No row is left: those that were given are all, and what they stand for is what is answered.
pub returns-in-None-clause-found : goal.returns-in-None-clause-found
returns-in-None-clause-found g c clean =
    let first = c.args.connection.now in
    let before = c.loop.rows.conn.now in
    let now = c.next_read.new.rows.conn.now in
    let late : HasCleanDisk (state g.S.Store now) = search rules in
    let early : HasCleanDisk (state g.S.Store before) = omega (arith, late, c.next_read.ensures.survives.clean) in
    let some = c.loop.invariant.read early in
    let moved = subst (λ o. MovesTo g.S.Store before now o) c.in-None.is (c.in_ok-read.ensures.found late) in
    let shown = all_given g.S.Store all_text [] first before now some.rows some.given moved in
    let loaded = all_gathered some.rows c.loop.cells.items c.from_vec.result c.loop.generation c.unwrap_or.result some.gathered c.from_vec.ensures c.unwrap_or.ensures in
    let reads : ReadsTable (state g.S.Store first) (state g.S.Store now) (holding c.from_vec.result c.unwrap_or.result) = (some.rows, shown, loaded) in
    search rules
