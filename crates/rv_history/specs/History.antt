-- What was written since a place of the book, and the patch and the last mutation ids that tell it. These replay the book:
-- they know no version and no record.
use Rattle.std.specs.Prelude.{ℕ, Bool, true, false, List, [], ◌∷◌, ◌++◌, ◌&&◌, ◌||◌, ◌==◌, not, map, Option, Some, None}
use Rattle.std.specs.List.{filter, list_any}
use Rattle.std.specs.Option.{option_map_or}
use Rattle.std.specs.Str.{bytes_eq}
use Rattle.rv_rows.specs.declared.row.Row.{Row}
use Rattle.rv_rows.specs.Keys.{row_key, row_text, row_at, has_row}
use Rattle.rv_rows.specs.Changes.{same_row}
use Rattle.rv_rows.specs.Sharing.{seen}
use Rattle.rv_turns.specs.declared.op.Op.{Op}
use Rattle.rv_turns.specs.declared.op.Op.TheVariants.{Clear, Del, Put}
use Rattle.rv_book.specs.declared.entry.Entry.{Entry}
use Rattle.rv_book.specs.Book.{Book, ids, since, up_to}
use Rattle.rv_history.specs.Replay.{rows_after, rows_of}

-- the row of the key is there afterwards, and was not, or was another, before
abbrev pub is_written : List ℕ → List Row → List Row → Bool
is_written key before after = option_map_or (λ row. option_map_or (λ was. not (same_row was row)) (row_at key before) true) (row_at key after) false

-- some of the entries writes the key, from these rows on
unfoldable pub is_touched : List ℕ → List Row → List Entry → Bool
is_touched key rows [] = false
is_touched key rows (entry ∷ entries) = is_written key rows (rows_after rows entry) || is_touched key (rows_after rows entry) entries

-- the key is not among those of the rows
unfoldable pub is_absent : List Row → Row → Bool
is_absent rows row = not (has_row (row_text row) rows)

-- the row was not seen at the base, or was written since
unfoldable pub is_news : List Row → List Row → List Entry → Row → Bool
is_news base rows since row = is_absent base row || is_touched (row_text row) rows since

-- The patch since a base, at a place of the book: dels, in key order, of the rows that were seen then and are not now; then
-- puts, in key order, of the rows that are seen now and were not, or were written since. Without a base everything goes, and
-- each row that is seen now is put.
abbrev pub patch_since : List ℕ → Book → Option ℕ → List Op
patch_since user book (Some place) =
    let base = seen user (rows_of (up_to place book)) in
    let now = seen user (rows_of book) in
    map (λ row. Del (row_key row)) (filter (is_absent now) base)
    ++ map (λ row. Put row) (filter (is_news base (rows_of (up_to place book)) (since place book)) now)
patch_since user book None = Clear ∷ map (λ row. Put row) (seen user (rows_of book))

-- the pair is among these
unfoldable pub is_among : List (List ℕ × ℕ) → List ℕ × ℕ → Bool
is_among pairs pair = list_any (λ other. bytes_eq other.0 pair.0 && (other.1 == pair.1)) pairs

-- The last mutation ids of a group's clients that the base look's own group did not have at the base; all without a base.
abbrev pub ids_since : List ℕ → Book → Option (ℕ × List ℕ) → List (List ℕ × ℕ)
ids_since group book (Some base) = filter (λ pair. not (is_among (ids base.1 (up_to base.0 book)) pair)) (ids group book)
ids_since group book None = ids group book
