use Rattle.rv_cli.proofs.Imported.{import_steady}
use Rattle.rv_cli.proofs.import.import_at.Goals as goal

pub returns-clause-imports : goal.returns-clause-imports
returns-clause-imports g c = record {
  new = c.import_input-came.new.turns;
  imports = c.import_input-came.ensures.imports;
  keeper = c.close.ensures.keeper;
  kept = c.close.ensures.kept;
  sound = c.close.ensures.sound;
}

pub returns-clause-steady_keeper : goal.returns-clause-steady_keeper
returns-clause-steady_keeper g c = import_steady g.K.Keeper c.args.user.now c.args.name.now c.args.desk (g.S.Source.state c.args.input.now) (g.S.Source.state c.import_input-came.new.input) (c.import_input-came.result, c.close.result) (returns-clause-imports g c)
