use Rattle.std.proofs.Common.{◌≡◌, ◌++◌, map}
use Rattle.std.specs.Vec.Iter.{into_iter_items}
use Rattle.rv_turns.specs.declared.op.Op.TheVariants.{Del}
use Rattle.rv_news.proofs.news.add_dels.Given as goal

-- with the dels of the keys that are left, the operations are all
abbrev pub invariant-loop-key : goal.invariant-loop-key
invariant-loop-key l = l.ops ++ map (λ key. Del key) (into_iter_items l.key-iterator) ≡ l.fn.ops ++ map (λ key. Del key) l.fn.keys
