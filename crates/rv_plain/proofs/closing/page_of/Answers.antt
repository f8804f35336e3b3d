use Rattle.std.proofs.Common.{subst, sym, arith}
use Rattle.rv_history.specs.Replay.{IsReplay}
use Rattle.rv_plain.proofs.Replays.{page_fits}
use Rattle.rv_plain.proofs.closing.page_of.Goals as goal

pub returns-clause-fits : goal.returns-clause-fits
returns-clause-fits c =
    page_fits c.args.book.now _
    (record {
      at = omega (arith, c.len.ensures);
      rows = subst (IsReplay c.args.book.now) (sym c.from_vec.ensures) c.in_ok-stored_rows.ensures;
      clients = c.in_ok-clients_of.ensures.clients;
      groups = c.in_ok-groups_of.ensures;
    })
    c.in_ok-clients_of.ensures.fits
