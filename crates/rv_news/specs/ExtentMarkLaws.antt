-- A user's call that sets the extent concerns no other user.
use Rattle.std.proofs.Common.{◌≡◌, ℕ, Bool, false, List, Option, ap, ◌∙◌}
use Rattle.std.specs.Str.{bytes_eq}
use Rattle.rv_rows.specs.declared.call.Call.TheVariants.{SetExtent}
use Rattle.rv_rows.specs.Sharing.{seen}
use Rattle.rv_sharing.specs.ExtentLaws.{others_see_same}
use Rattle.rv_book.specs.declared.entry.Entry.TheVariants.{Act}
use Rattle.rv_book.specs.Book.{Book, with_entry}
use Rattle.rv_history.specs.MarkLaws.{mark_stays, nothing_concerns}
use Rattle.rv_history.specs.Marks.{IsMark}
use Rattle.rv_history.specs.Replay.{rows_of}
use Rattle.rv_history.specs.ReplayLaws.{distinct-rows_of, rows_of-with_entry}

-- Another user's mark stays.
pub extent_mark : (user viewer group client : List ℕ) (id : ℕ) (lists : Option (List (List ℕ))) (book : Book) (mark : ℕ) → bytes_eq user viewer ≡ false → IsMark viewer book mark
    → IsMark viewer (with_entry book (Act user group client id (SetExtent lists))) mark
extent_mark user viewer group client id lists book mark apart is =
    let entry = Act user group client id (SetExtent lists) in
    mark_stays viewer book entry mark
    (nothing_concerns viewer book entry apart (ap (seen viewer) (rows_of-with_entry book entry) ∙ others_see_same user viewer apart (rows_of book) lists (distinct-rows_of book)))
    is
