-- What follows from the promise of `import`, over a place and a source that tell: the same bytes imported again enter nothing.
use Rattle.std.specs.Prelude.{◌≡◌, ◌≢◌, ◌⊎◌, ℕ, List, None, IfSome, codes}
use Rattle.rv_base.specs.declared.outside.Source.{Ghosts as SourceGhosts}
use Rattle.rv_base.specs.declared.outside.Sink.{Ghosts as SinkGhosts}
use Rattle.rv_keeper.specs.declared.place.Place.{Ghosts as PlaceGhosts}
use Rattle.rv_history.specs.Served.{Served}
use Rattle.rv_import.specs.ActsOnce.{HasAll, HasFirst}
use Rattle.rv_import.specs.Importing.{Imports}
use Rattle.rv_import.specs.declared.import_end.ImportEnd.{ImportEnd}
use Rattle.rv_import.specs.declared.import_end.ImportEnd.TheVariants as ends
use Rattle.rv_cli.specs.Change.{change}
use Rattle.rv_cli.specs.Headline.{Begins, Leaves}
use Rattle.rv_cli.specs.Importing.{TakesNear}
use Rattle.rv_cli.specs.ImportPromise.{WasImported}
use Rattle.rv_laws.specs.Feeds.{DidNotOpen}

-- each record was entered or skipped
abbrev pub IsThrough : ImportEnd → Type 0
IsThrough (ends.Done counts) = Unit {0}
IsThrough end = ⊥

-- The bytes were imported, and at status 0 each of their records was entered or skipped; or they were not read to their end, and no turn
-- was taken.
abbrev pub ImportsOrNot : Type 0 → List ℕ → List ℕ → List ℕ → Served → Served → ℕ → Type 0
ImportsOrNot Told user name bytes first now status =
    ((end : ImportEnd) × Imports (TakesNear Told) user name bytes first end now × (status ≡ 0 → IsThrough end)) ⊎ ((now ≡ first) × (status ≢ 0))

-- After an import this state was left, and the next import of the same bytes for the same user under the same name came from a first state to
-- a last one. Nothing was in doubt, it began with the book that was left, in which the acts of the import's client are just what the bytes ask
-- for, and it entered nothing.
pub record AddsNothing (user name bytes : List ℕ) (left first last : Served) : Type 0 where
  pub none : left.doubt ≡ None
  pub begun : first.book ≡ left.book
  pub all : HasAll user name bytes first.book
  pub same : last.book ≡ first.book

module _ {P K : Type 0} (place : PlaceGhosts P K) where
  -- A run of `import` of these bytes, from the book that the store kept to the one that it keeps.
  pub record ImportRun (old new : P) (store user name bytes : List ℕ) (status : ℕ) : Type 0 where
    pub told : place.tells new
    pub first : Served
    pub now : Served
    pub begins : Begins (change place store old new) first
    pub imports : ImportsOrNot (place.tells new) user name bytes first now status
    pub leaves : Leaves (change place store old new) now

  -- The promise says that there was such a run over the bytes that the source held, or that the store did not open.
  abbrev pub ImportsAreRuns : {S O : Type 0} → SourceGhosts S → SinkGhosts O → Type 0
  ImportsAreRuns {S} {O} input output = (old new : P) (store user name : List ℕ) (read read' : S) (out out' : O) (status : ℕ)
      → WasImported place input output store user name old new read read' out out' status → place.tells new
      → IfSome (input.state read).left (λ bytes. DidNotOpen place old new store (input.state read) (input.state read') (output.state out) (output.state out') status ⊎ ImportRun old new store user name bytes status)

  -- Of two runs of `import` of the same bytes, one after the other over a store that is not `memory`: where the first ended with status 0,
  -- and began with a book in which the acts of the import's client were the first of what the bytes ask for, the second enters nothing.
  abbrev pub ImportsEnterOnce : Type 0
  ImportsEnterOnce = (old mid new : P) (store user name bytes : List ℕ) (status : ℕ) (once : ImportRun old mid store user name bytes 0) (again : ImportRun mid new store user name bytes status)
      → store ≢ codes "memory" → HasFirst user name bytes once.first.book → AddsNothing user name bytes once.now again.first again.now
