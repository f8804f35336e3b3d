-- What was read of rows so far, and all of it.
use Rattle.std.proofs.Common.{◌≡◌, ℕ, List, [], ◌∷◌, ◌++◌, Option, Some, None, option_to_list, refl, sym, ap, subst₂, ◌∙◌}
use Rattle.std.specs.Prelude.{unwrap_or}
use Rattle.sqlite_value.specs.Order.{Row}
use Rattle.rv_keeper.specs.declared.cell.Cell.{Cell}
use Rattle.rv_keeper.specs.Keeping.{holding}
use Rattle.rv_sqlite.specs.declared.row_read.RowRead.{RowRead}
use Rattle.rv_sqlite.specs.declared.row_read.RowRead.TheVariants as row_read
use Rattle.rv_sqlite.specs.Rows.{Shows}
use Rattle.rv_sqlite.specs.Loads.{AllShow, AreLoaded, IsOnlyGeneration, cells_among, generations_among}

AllShow-append : (rows : List Row) (reads : List RowRead) (row : Row) (read : RowRead) → AllShow rows reads → Shows row read → AllShow (rows ++ row ∷ []) (reads ++ read ∷ [])
AllShow-append [] [] row read all shows = (shows, tt)
AllShow-append [] (one ∷ reads) row read all shows = absurd all
AllShow-append (one ∷ rows) [] row read all shows = absurd all
AllShow-append (one ∷ rows) (other ∷ reads) row read all shows = (all.0, AllShow-append rows reads row read all.1 shows)

cells_among-append : (reads more : List RowRead) → cells_among (reads ++ more) ≡ cells_among reads ++ cells_among more
cells_among-append [] more = refl
cells_among-append (row_read.Cell cell ∷ reads) more = ap (λ cells. cell ∷ cells) (cells_among-append reads more)
cells_among-append (row_read.Generation number ∷ reads) more = cells_among-append reads more

generations_among-append : (reads more : List RowRead) → generations_among (reads ++ more) ≡ generations_among reads ++ generations_among more
generations_among-append [] more = refl
generations_among-append (row_read.Cell cell ∷ reads) more = generations_among-append reads more
generations_among-append (row_read.Generation number ∷ reads) more = ap (λ numbers. number ∷ numbers) (generations_among-append reads more)

-- the rows so far stand for these cells, and for this generation, if for any
pub record HasGathered (rows : List Row) (cells : List Cell) (generation : Option ℕ) : Type 0 where
  pub reads : List RowRead
  pub shown : AllShow rows reads
  pub cells_are : cells ≡ cells_among reads
  pub generation_is : option_to_list generation ≡ generations_among reads

pub more_gathered : (rows : List Row) (cells now : List Cell) (generation after : Option ℕ) (row : Row) (read : RowRead) → HasGathered rows cells generation → Shows row read
    → now ≡ cells ++ cells_among (read ∷ []) → option_to_list after ≡ option_to_list generation ++ generations_among (read ∷ []) → HasGathered (rows ++ row ∷ []) now after
more_gathered rows cells now generation after row read so_far shows taken told = record {
  reads = so_far.reads ++ read ∷ [];
  shown = AllShow-append rows so_far.reads row read so_far.shown shows;
  cells_are = taken ∙ ap (λ xs. xs ++ cells_among (read ∷ [])) so_far.cells_are ∙ sym (cells_among-append so_far.reads (read ∷ []));
  generation_is = told ∙ ap (λ xs. xs ++ generations_among (read ∷ [])) so_far.generation_is ∙ sym (generations_among-append so_far.reads (read ∷ []));
}

only_generation : (generation : Option ℕ) → IsOnlyGeneration (option_to_list generation) (unwrap_or generation 0)
only_generation None = refl
only_generation (Some number) = refl

pub all_gathered : (rows : List Row) (cells items : List Cell) (generation : Option ℕ) (number : ℕ) → HasGathered rows cells generation → items ≡ cells → number ≡ unwrap_or generation 0
    → AreLoaded rows (holding items number)
all_gathered rows cells items generation number all same told = record {
  reads = all.reads;
  shown = all.shown;
  cells = same ∙ all.cells_are;
  generation =
      let P : List ℕ → ℕ → Type 0 = λ numbers one. IsOnlyGeneration numbers one in
      subst₂ P all.generation_is (sym told) (only_generation generation);
}

pub none_gathered : (cells : List Cell) → cells ≡ [] → HasGathered [] cells None
none_gathered cells none = record { reads = []; shown = tt; cells_are = none; generation_is = refl }
