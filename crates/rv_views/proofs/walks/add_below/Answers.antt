use Rattle.std.proofs.Common.{◌≡◌, true, length, ap, arith}
use Rattle.std.specs.Cmp.Lexicographic.{slice_cmp}
use Rattle.std.specs.Ordering.{nat_cmp, is_lt}
use Rattle.rv_rows.specs.Keys.{key_text}
use Rattle.rv_views.specs.Viewed.{seen_key}
use Rattle.rv_views.proofs.Changes.{front_more}
use Rattle.rv_views.proofs.walks.add_below.Goals as goal

pub loop-first-preserved : goal.loop-first-preserved
loop-first-preserved g c =
    let low : is_lt (slice_cmp nat_cmp (seen_key c.in-Some.first.now) (key_text c.args.key.now)) ≡ true = cc in
    record {
      rest = rw (c.in-Some.ensures.cases.0, low) at c.loop-first.invariant.rest;
      keys = rw (c.in_ok-push.ensures.ok, c.in_ok-copy.ensures) (front_more (λ other. is_lt (slice_cmp nat_cmp (seen_key other) (key_text c.args.key.now))) (λ pair. pair.0) c.in-Some.first.now c.in-Some.others.now c.loop-first.keys _ low (rw c.in-Some.ensures.cases.0 at c.loop-first.invariant.keys));
      read = omega (arith, ap length c.in-Some.ensures.cases.0);
    }
