use Rattle.std.proofs.Common.{◌<◌, length, sym, rules}
use Rattle.rv_doubles.proofs.MemoryStores.{file_in_range, file_written, file_added}
use Rattle.rv_doubles.proofs.accounts_file.write.Goals as goal

pub index_mut-requires : goal.index_mut-requires
index_mut-requires c =
    let in_range : c.in-Some.at < length c.args.files.now.items = file_in_range c.args.name.now c.args.files.now.items c.in-Some.at (sym (rw c.deref.ensures.value at c.in-Some.ensures)) in
    search rules

pub returns-in-Some-clause-ok : goal.returns-in-Some-clause-ok
returns-in-Some-clause-ok c =
    file_written c.args.name.now c.args.files.now.items c.in-Some.at c.index_mut.result.now c.args.bytes (sym (rw c.deref.ensures.value at c.in-Some.ensures)) c.index_mut.ensures.value

pub returns-in-None-clause-ok : goal.returns-in-None-clause-ok
returns-in-None-clause-ok c =
    rw (← file_added c.args.name.now c.args.files.now.items c.args.bytes (sym (rw c.deref.ensures.value at c.in-None.ensures))) c.push.ensures.ok
