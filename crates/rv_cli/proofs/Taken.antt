-- How the lines end, by what who takes them shows.
use Rattle.std.proofs.Common.{◌≡◌, ℕ, ◌+◌, ◌^◌, ◌<◌, ◌≤◌, Bool, true, false, List, [], Result, Ok, Err, sym, ◌∙◌, subst, arith}
use Rattle.rv_base.specs.CauseLaws.{rose_before}
use Rattle.rv_base.specs.Outside.{InputState, OutputState}
use Rattle.rv_lines.specs.Reading.{Reading, unread, GivesNext, ReadsFor, gives_end, read_failed}
use Rattle.rv_base.specs.declared.fault.Fault.{Fault}
use Rattle.rv_base.specs.declared.fault.Fault.TheVariants as faults
use Rattle.rv_lines.specs.declared.next.Next.{Next}
use Rattle.rv_lines.specs.declared.next.Next.TheVariants.{Line, Last, End, TooLong}
use Rattle.rv_cli.specs.declared.ending.Ending.{Ending}
use Rattle.rv_cli.specs.declared.ending.Ending.TheVariants.{Done, Keeper, Damaged, Read, Write, Memory, Malformed}
use Rattle.rv_cli.specs.LineTaking.{EndedLine, Feeds, RoseAt, Taker, TakesLater, TakesLines, TookLine, found_line}
use Rattle.rv_cli.proofs.Going.{Finds, Going, ends_done, ends_last, ends_late, ends_line, ends_long, ends_memory, ends_read, going_first, going_later, going_on}

rose_since : {T : Type 0} (tells : T → Type 0) (faults : T → ℕ) (ending : Ending) (before mid : ℕ) (now : T) → before ≤ mid → RoseAt tells faults ending mid now → RoseAt tells faults ending before now
rose_since tells faults Keeper before mid now le rose = rose_before before mid (faults now) le rose
rose_since tells faults Done before mid now le rose = tt
rose_since tells faults (Damaged damage) before mid now le untold = untold
rose_since tells faults Read before mid now le rose = tt
rose_since tells faults Write before mid now le rose = tt
rose_since tells faults Memory before mid now le rose = tt
rose_since tells faults (Malformed number) before mid now le rose = tt

module _ {T : Type 0} (taker : Taker T) where
  -- all lines so far were taken, and what is told was told at first
  pub record Goes (begun : T) (start : InputState) (first : OutputState) (now : T) (input : InputState) (out : OutputState) (pending : List ℕ) (number : ℕ) : Type 0 where
    pub going : Going taker.lines (taker.tells now) (taker.state begun) start input first out pending number (taker.state now)
    pub told : taker.tells now → taker.tells begun
    pub later : taker.faults begun ≤ taker.faults now

  pub goes_first : (begun : T) (start : InputState) (first : OutputState) (pending : List ℕ) → pending ≡ [] → Goes begun start first begun start first pending 1
  goes_first begun start first pending none = record { going = going_first taker.lines (taker.tells begun) (taker.state begun) start first pending none; told = λ t. t; later = omega arith }

module _ {T : Type 0} (taker : Taker T) (takes_later : (old new : T) → (taker.tells new → taker.tells old) → TakesLater taker.lines (taker.tells old) (taker.tells new)) (stands_now : (t : T) → taker.Stands (taker.state t) t)
    {begun now : T} {start old : InputState} {first out : OutputState} {pending : List ℕ} {number : ℕ} (goes : Goes taker begun start first now old out pending number) where
  -- the lines end without a further one
  ended : (new : InputState) (ending : Ending) → RoseAt taker.tells taker.faults ending (taker.faults begun) now → Feeds taker.lines (taker.tells now) (taker.state begun) (taker.state now) start new first out ending → TakesLines taker begun start new first out ending now
  ended new ending rose feeds = record { now = taker.state now; feeds = feeds; stands = stands_now now; told = goes.told; rose = rose }

  -- what was read next is a line, or the lines end so
  abbrev FindsNext : InputState → Reading → Result Bool Ending → Type 0
  FindsNext new reading (Ok is_last) = Finds pending reading.pending reading.line old new is_last
  FindsNext new reading (Err ending) = TakesLines taker begun start new first out ending now

  finds : (new : InputState) (reading : Reading) (next : Result Next Fault) → ReadsFor pending old new (gives_end next) (read_failed next) → GivesNext (unread pending old.left) (unread reading.pending new.left) reading next → FindsNext new reading (found_line next number)
  finds new reading (Ok Line) reads gives = record { reads = reads; no_lf = gives.0; short = gives.1; takes = gives.2 }
  finds new reading (Ok Last) reads gives = record { reads = reads; no_lf = gives.0; short = gives.2; takes = (gives.1, gives.3, gives.4) }
  finds new reading (Ok End) reads gives = ended new Done tt (ends_done taker.lines (taker.tells now) (taker.state begun) start first old new out pending reading.pending number (taker.state now) goes.going reads gives.0 gives.1)
  finds new reading (Ok TooLong) reads gives = ended new (Malformed number) tt (ends_long taker.lines (taker.tells now) (taker.state begun) start first old new out pending reading.pending number (taker.state now) goes.going reads gives.0 gives.1)
  finds new reading (Err faults.Failed) reads gives = ended new Read tt (ends_read taker.lines (taker.tells now) (taker.state begun) start first old new out pending reading.pending number (taker.state now) goes.going reads gives.0 gives.1)
  finds new reading (Err faults.Memory) reads gives = ended new Memory tt (ends_memory taker.lines (taker.tells now) (taker.state begun) start first old new out pending reading.pending number (taker.state now) goes.going reads gives)

  pub finds_next : (new : InputState) (reading : Reading) (next : Result Next Fault) {told result : Result Bool Ending} → ReadsFor pending old new (gives_end next) (read_failed next) → GivesNext (unread pending old.left) (unread reading.pending new.left) reading next
      → told ≡ found_line next number → told ≡ result → FindsNext new reading result
  finds_next new reading next {told} {result} reads gives is same = subst (FindsNext new reading) (sym is ∙ same) (finds new reading next reads gives)

  -- the lines go on
  pub goes_on : {new : InputState} {next : T} {out' : OutputState} {pending' line : List ℕ} {is_last : Bool} → Finds pending pending' line old new is_last → is_last ≡ false → number < 2 ^ 32 → TookLine taker now line next out out' → Goes taker begun start first next new out' pending' (number + 1)
  goes_on {new} {next} {out'} {pending'} {line} found on lt took = record {
    going = going_on taker.lines (taker.tells now) (taker.tells next) (takes_later now next took.told) (taker.state begun) start first old new out out' pending pending' line number (taker.state now) (taker.state next) goes.going (subst (Finds pending pending' line old new) on found) lt took.goes;
    told = λ t. goes.told (took.told t);
    later = let before = goes.later in let after = took.later in omega (arith, before, after);
  }

  -- they end with the last one
  pub done_last : {new : InputState} {next : T} {out' : OutputState} {pending' line : List ℕ} {is_last : Bool} → Finds pending pending' line old new is_last → is_last ≡ true → number < 2 ^ 32 → TookLine taker now line next out out' → TakesLines taker begun start new first out' Done next
  done_last {new} {next} {out'} {pending'} {line} found last lt took = record {
    now = taker.state next;
    feeds = ends_last taker.lines (taker.tells now) (taker.tells next) (takes_later now next took.told) (taker.state begun) start first old new out out' pending pending' line number (taker.state now) (taker.state next) goes.going (subst (Finds pending pending' line old new) last found) lt took.goes;
    stands = stands_now next;
    told = λ t. goes.told (took.told t);
    rose = tt;
  }

  -- or with this one
  pub ended_at : {new : InputState} {last : T} {out' : OutputState} {pending' line : List ℕ} {is_last : Bool} {ending : Ending} → Finds pending pending' line old new is_last → number < 2 ^ 32 → EndedLine taker now line number ending last out out' → TakesLines taker begun start new first out' ending last
  ended_at {new} {last} {out'} {pending'} {line} {is_last} {ending} found lt ended = record {
    now = ended.new;
    feeds = ends_line taker.lines (taker.tells last) (taker.state begun) start first old new out out' pending pending' line is_last number (taker.state now) ended.new ending
        (going_later taker.lines (taker.tells now) (taker.tells last) (taker.state begun) start old first out pending number (taker.state now) (takes_later now last ended.told) goes.going) found lt ended.ends;
    stands = ended.stands;
    told = λ t. goes.told (ended.told t);
    rose = rose_since taker.tells taker.faults ending (taker.faults begun) (taker.faults now) last goes.later ended.rose;
  }

  -- or since its number is too high
  pub ended_late : {new : InputState} {pending' line : List ℕ} {is_last : Bool} → Finds pending pending' line old new is_last → 2 ^ 32 ≤ number → TakesLines taker begun start new first out (Malformed number) now
  ended_late {new} {pending'} {line} {is_last} found late =
      ended new (Malformed number) tt (ends_late taker.lines (taker.tells now) (taker.state begun) start first old new out pending pending' line is_last number (taker.state now) goes.going found late)
