use Rattle.sqlite_wal.specs.Files.{image_at}
use Rattle.rv_place.proofs.Given.{if_given_faults, if_given_holds, if_given_leaves}
use Rattle.rv_place.proofs.file_opener.FileOpenerOpener.open.Goals as goal

pub returns-clause-fresh : goal.returns-clause-fresh
returns-clause-fresh g c = if_given_faults (image_at g.S.Start) c.args.name.now c.open_store.result c.open_store.ensures

pub returns-clause-kept : goal.returns-clause-kept
returns-clause-kept g c = if_given_holds (image_at g.S.Start) c.args.name.now c.open_store.result c.open_store.ensures

pub returns-clause-crash : goal.returns-clause-crash
returns-clause-crash g c = if_given_leaves (image_at g.S.Start) c.args.name.now c.open_store.result c.open_store.ensures
