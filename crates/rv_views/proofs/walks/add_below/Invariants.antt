use Rattle.std.proofs.Common.{◌≡◌, ◌+◌, ◌++◌, length, map}
use Rattle.std.specs.Prelude.{take_while}
use Rattle.std.specs.Cmp.Lexicographic.{slice_cmp}
use Rattle.std.specs.Ordering.{nat_cmp, is_lt}
use Rattle.rv_rows.specs.Keys.{key_text}
use Rattle.rv_views.specs.Viewed.{seen_key}
use Rattle.rv_views.specs.Walks.{rest_from}
use Rattle.rv_views.proofs.walks.add_below.Given as goal

abbrev pub invariant-loop-first : goal.invariant-loop-first
invariant-loop-first g l = record {
  rest : rest_from seen_key (key_text l.key) l.rest ≡ rest_from seen_key (key_text l.key) l.rows;
  keys : l.keys ++ map (λ pair. pair.0) (take_while (λ other. is_lt (slice_cmp nat_cmp (seen_key other) (key_text l.key))) l.rest)
      ≡ l.fn.keys ++ map (λ pair. pair.0) (take_while (λ other. is_lt (slice_cmp nat_cmp (seen_key other) (key_text l.key))) l.rows);
  read : l.steps + length l.rest ≡ l.initial.steps + length l.rows;
}

abbrev pub decreases-loop-first : goal.decreases-loop-first
decreases-loop-first g l = length l.rest
