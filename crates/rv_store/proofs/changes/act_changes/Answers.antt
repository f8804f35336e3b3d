use Rattle.std.proofs.Common.{◌≡◌, arith}
use Rattle.std.proofs.lemmas.Grind.{common_steps}
use Rattle.rv_store.specs.EntryChanges.{act_changes}
use Rattle.rv_store.proofs.NextEntries.{enters_act}
use Rattle.rv_store.proofs.changes.act_changes.Goals as goal

pub returns : goal.returns
returns c =
    let made : c.add_first_group.new.changes.items ≡ act_changes c.args.state.now.book c.args.act.now.user c.args.act.now.group c.args.act.now.client c.args.act.now.id c.args.act.now.call c.args.act.now.staged = grind (arith, common_steps) in
    enters_act c.args.state.now (omega (arith, c.book-book.ensures.limit, c.len-place.ensures.range)) c.args.act.now c.add_first_group.new.changes.items c.book-book.ensures.rows c.requires made
