use Rattle.std.proofs.Common.{◌≡◌, arith}
use Rattle.std.proofs.lemmas.Grind.{common_steps}
use Rattle.rv_book.specs.Kept.{falls_out}
use Rattle.rv_store.specs.EntryChanges.{look_changes}
use Rattle.rv_store.proofs.NextEntries.{enters_look}
use Rattle.rv_store.proofs.changes.look_changes.Goals as goal

pub returns : goal.returns
returns c =
    let gone : c.args.look.now.gone ≡ falls_out c.args.look.now.group c.args.state.now.book = c.requires.effect.2 in
    let made : c.push-3.new.self.items ≡ look_changes c.args.state.now.book c.args.look.now.user c.args.look.now.group c.args.look.now.order c.args.look.now.base c.args.look.now.view = grind (arith, common_steps) in
    enters_look c.args.state.now (omega (arith, c.book-book.ensures.limit, c.len-place.ensures.range)) c.args.look.now c.push-3.new.self.items c.requires made
