-- How many requests were answered how.
use Rattle.std.specs.Prelude.{ℕ, ◌+◌, ◌-◌, ◌^◌, ◌<◌, Bool, true, false, not, List, count_by, if◌then◌else◌}
use Rattle.rv_turns.specs.Outcomes.{has_acted}
use Rattle.rv_turns.specs.declared.pushing.Outcome.{Outcome}
use Rattle.rv_turns.specs.declared.pushing.Outcome.TheVariants.{Skipped, Pulled, Refused}
use Rattle.rv_turns.specs.declared.refusal.Refusal.TheVariants.{Memory}
use Rattle.rv_make.specs.declared.counts.AnswerCounts.{AnswerCounts}

-- the mutation was skipped
abbrev pub is_skipped : Outcome → Bool
is_skipped (Skipped last) = true
is_skipped outcome = false

-- the pull entered a look
abbrev pub is_look : Outcome → Bool
is_look (Pulled reply) = not reply.same
is_look outcome = false

-- the pull was answered with its own cookie
abbrev pub is_same : Outcome → Bool
is_same (Pulled reply) = reply.same
is_same outcome = false

-- memory was refused
abbrev pub lacked_memory : Outcome → Bool
lacked_memory (Refused Memory) = true
lacked_memory outcome = false

abbrev pub no_counts : AnswerCounts
no_counts = record { acted = 0; skipped = 0; looks = 0; same = 0 }

-- how many of these outcomes are of each
abbrev pub answers_of : List Outcome → AnswerCounts
answers_of outcomes = record { acted = count_by has_acted outcomes; skipped = count_by is_skipped outcomes; looks = count_by is_look outcomes; same = count_by is_same outcomes }

abbrev pub one_if : Bool → ℕ
one_if holds = if holds then 1 else 0

-- the counts after one more outcome
abbrev pub counts_after : AnswerCounts → Outcome → AnswerCounts
counts_after counts outcome = record {
  acted = counts.acted + one_if (has_acted outcome);
  skipped = counts.skipped + one_if (is_skipped outcome);
  looks = counts.looks + one_if (is_look outcome);
  same = counts.same + one_if (is_same outcome);
}

-- each number may rise
pub record MayCount (counts : AnswerCounts) : Type 0 where
  pub acted : counts.acted < 2 ^ 32 - 1
  pub skipped : counts.skipped < 2 ^ 32 - 1
  pub looks : counts.looks < 2 ^ 32 - 1
  pub same : counts.same < 2 ^ 32 - 1
