-- What follows from the promise of `make`.
use Rattle.std.specs.Prelude.{ℕ, ◌≡◌, ◌+◌, ◌<◌, ◌^◌}
use Rattle.std.specs.Io.KnownBytes.{Appends}
use Rattle.rv_base.specs.Outside.{OutputState}
use Rattle.rv_make.specs.Plays.{Plays}
use Rattle.rv_make.specs.SummaryTexts.{summary_text}
use Rattle.rv_make.specs.declared.summary.Summary.{Summary}
use Rattle.rv_cli.specs.Headline.{RunsMake}

-- The summary is of so many requests, each of which was run, skipped, answered with a look or with its own cookie; and the entries are the
-- mutations that were run and the looks.
pub record AddsUp (n : ℕ) (summary : Summary) : Type 0 where
  pub requests : summary.requests ≡ n
  pub answers : ((summary.acted + summary.skipped) + summary.looks) + summary.same ≡ n
  pub entries : summary.entries ≡ summary.acted + summary.looks

-- The summary of a run of so many requests was written, and its counts add up.
pub record WritesSums (seed n : ℕ) (output output' : OutputState) : Type 0 where
  pub summary : Summary
  pub plays : Plays seed n summary
  pub written : Appends output.written output'.written (summary_text summary)
  pub sums : AddsUp n summary

-- So at status 0; words ask for far fewer requests than these.
abbrev pub SummariesAddUp : Type 0
SummariesAddUp = (seed n : ℕ) (output output' : OutputState) → n < 2 ^ 32 → RunsMake seed n output output' 0 → WritesSums seed n output output'
