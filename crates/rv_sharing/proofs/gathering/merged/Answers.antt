use Rattle.std.proofs.Common.{◌≡◌, ◌-◌, ◌≤◌, ◌⊎◌, inl, inr, List, length, take, drop, arith, ◌∙◌, ap, ◌++◌}
use Rattle.std.specs.declared.cmp.Ordering.TheVariants.{Less, Equal, Greater}
use Rattle.std.proofs.lemmas.List.{length-drop, take_all}
use Rattle.rv_sharing.proofs.GatheredLaws.{Item, compared, merging_less, merging_tied, merging_more, merging_ends}
use Rattle.rv_sharing.proofs.gathering.merged.Goals as goal
use Rattle.rv_sharing.proofs.gathering.merged.Goals.{then-loop-i-test+else-j-right, else-loop-i-test}

pub loop-i-preserved-in-Less : goal.loop-i-preserved-in-Less
loop-i-preserved-in-Less c =
    merging_less c.args.left.now c.args.right.now c.loop-i.i c.loop-i.j c.loop-i.rows.items c.push.new.self.items c.index-left-i.result c.index-right-j.result c.requires.left c.requires.right c.loop-i-test.true c.if-j-right.true c.index-left-i.is c.index-right-j.is c.loop-i.invariant
    c.in_ok-push-in-Less.ensures.items (compared c.index-left-i.result.0.now c.index-right-j.result.0.now c.kind.result c.id.result.now c.compare_key.result Less c.kind.ensures c.id.ensures c.compare_key.ensures c.in-Less.is)

pub loop-i-preserved-in-Equal : goal.loop-i-preserved-in-Equal
loop-i-preserved-in-Equal c =
    merging_tied c.args.left.now c.args.right.now c.loop-i.i c.loop-i.j c.loop-i.rows.items c.push-in-Equal.new.self.items c.index-left-i.result c.index-right-j.result c.requires.left c.requires.right c.loop-i-test.true c.if-j-right.true c.index-left-i.is c.index-right-j.is c.loop-i.invariant
    c.in_ok-push-in-Equal.ensures.items (compared c.index-left-i.result.0.now c.index-right-j.result.0.now c.kind.result c.id.result.now c.compare_key.result Equal c.kind.ensures c.id.ensures c.compare_key.ensures c.in-Equal.is)

pub loop-i-preserved : goal.loop-i-preserved
loop-i-preserved c =
    merging_more c.args.left.now c.args.right.now c.loop-i.i c.loop-i.j c.loop-i.rows.items c.push-in-Greater.new.self.items c.index-left-i.result c.index-right-j.result c.requires.left c.requires.right c.loop-i-test.true c.if-j-right.true c.index-left-i.is c.index-right-j.is c.loop-i.invariant
    c.in_ok-push-in-Greater.ensures.items (compared c.index-left-i.result.0.now c.index-right-j.result.0.now c.kind.result c.id.result.now c.compare_key.result Greater c.kind.ensures c.id.ensures c.compare_key.ensures c.in-Greater.is)

pub returns : goal.returns
returns c =
    let left : List Item = c.args.left.now in
    let right : List Item = c.args.right.now in
    let i = c.loop-i.i in
    let j = c.loop-i.j in
    let over : (length left ≤ i) ⊎ (length right ≤ j) = elim c.loop-i-test.branch [ then-loop-i-test+else-j-right w ↦ inr (w.if-j-right.false) | else-loop-i-test w ↦ inl (w.loop-i-test.false) ] in
    let front : take (length left - i) (drop i left) ≡ drop i left = take_all (length left - i) (drop i left) (omega (arith, length-drop i left)) in
    let back : take (length right - j) (drop j right) ≡ drop j right = take_all (length right - j) (drop j right) (omega (arith, length-drop j right)) in
    merging_ends left right i j c.loop-i.rows.items c.extend_from_slice.new.self.items c.extend_from_slice-2.new.self.items c.requires.left over
    (c.in_ok-extend_from_slice.ensures.items ∙ ap (λ (t : List Item). c.loop-i.rows.items ++ t) front)
    (c.in_ok-extend_from_slice-2.ensures.items ∙ ap (λ (t : List Item). c.extend_from_slice.new.self.items ++ t) back)
    c.loop-i.invariant
