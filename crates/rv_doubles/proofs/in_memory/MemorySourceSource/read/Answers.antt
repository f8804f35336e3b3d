use Rattle.std.proofs.Common.{rules, ◌≡◌, ◌-◌, length, take, drop, min}
use Rattle.rv_doubles.proofs.KnownReads.{read_front, read_none}
use Rattle.rv_doubles.proofs.in_memory.MemorySourceSource.read.Goals as goal

pub returns-clause-reads : goal.returns-clause-reads
returns-clause-reads c =
    let items = c.args.self.now.bytes.items in
    let piece = c.copy_front-count.new.to in
    let at = c.min-at.result in
    let n = c.copy_front-count.result in
    let f : take n piece ≡ take n (take (length items - at) (drop at items)) = search rules in
    let e : at ≡ min c.args.self.now.at (length items) = search rules in
    record {
      bytes = (read_front items piece c.args.self.now.at at n e f, λ none some_room. read_none items at n none (λ some. search rules));
      cause = search rules;
      ends = search rules;
    }
