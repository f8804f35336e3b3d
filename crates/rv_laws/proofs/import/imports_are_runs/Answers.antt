use Rattle.rv_laws.proofs.ImportLaws.{imports_are_runs}
use Rattle.rv_laws.proofs.import.imports_are_runs.Goals as goal

pub returns : goal.returns
returns g c = imports_are_runs g.P.Place g.S.Source g.O.Sink
