use Rattle.std.proofs.Common.{arith}
use Rattle.rv_store.proofs.GoneEntries.{gone_more}
use Rattle.rv_store.proofs.closing.add_gone_entries.Goals as goal

pub loop-before-preserved : goal.loop-before-preserved
loop-before-preserved c =
    let from = c.loop-before.invariant.from in
    record {
      from = omega (arith, from);
      within = omega arith;
      so_far =
          gone_more c.args.book.now.book.page.at c.loop-before.before c.args.changes.now.items c.loop-before.changes.items c.push.new.self.items c.in_ok-removed_place.field-0 from c.loop-before.invariant.so_far
          c.in_ok-removed_place.ensures c.in_ok-push.ensures.items;
    }
