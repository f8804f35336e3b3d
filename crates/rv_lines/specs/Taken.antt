-- The lines that were taken of a source, from its start on, and how far it was read for them.
use Rattle.std.specs.Prelude.{ℕ, ◌≡◌, ◌≤◌, ◌<◌, ◌+◌, ◌⊎◌, ◌++◌, [], List, length, Some, IfSome}
use Rattle.std.specs.declared.option.Option.{Option}
use Rattle.std.specs.Io.KnownBytes.{Consumes}
use Rattle.rv_lines.specs.Lines.{lines_of, ended_lines_of}
use Rattle.rv_lines.specs.Reading.{unread}

-- So much was read, and no more, where so many lines were examined: before the last piece fewer lines than these were
-- whole.
abbrev pub IsNeeded : List ℕ → ℕ → Type 0
IsNeeded read examined = (read ≡ []) ⊎ ((before piece : List ℕ) × (read ≡ before ++ piece) × (length piece ≤ 4096) × (length (ended_lines_of before) < examined))

-- These lines, each ended by an LF, are what was taken of a source. What waits was read, and is not taken yet.
pub record Taken (start : Option (List ℕ)) (pending : List ℕ) (left : Option (List ℕ)) (lines : List (List ℕ)) : Type 0 where
  pub whole : List ℕ
  pub taken : Consumes start (unread pending left) whole
  pub are : (more : List ℕ) → lines_of (whole ++ more) ≡ lines ++ lines_of more
  pub ended : (more : List ℕ) → ended_lines_of (whole ++ more) ≡ lines ++ ended_lines_of more
  pub needed : IfSome start (λ _. IsNeeded (whole ++ pending) (length lines))

-- How far the bytes were read when one more line was examined after these, and that these are the first.
pub record ReadOn (bytes : List ℕ) (left : Option (List ℕ)) (read : List ℕ) (lines others : List (List ℕ)) : Type 0 where
  pub consumed : Consumes (Some bytes) left read
  pub needed : IsNeeded read (length lines + 1)
  pub are : lines_of bytes ≡ lines ++ others
