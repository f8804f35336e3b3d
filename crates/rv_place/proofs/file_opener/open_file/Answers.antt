use Rattle.sqlite_wal.specs.Files.{image_at}
use Rattle.rv_place.proofs.Adopted.{adopted_given}
use Rattle.rv_place.proofs.file_opener.open_file.Goals as goal

pub returns-in-Ok : goal.returns-in-Ok
returns-in-Ok g c =
    adopted_given (image_at g.S.Start) c.args.path.now c.in-Ok.connection c.adopt.result c.requires c.in-Ok.ensures.found c.in-Ok.ensures.opened c.adopt.ensures.connection c.adopt.ensures.faults c.adopt.ensures.known.0
