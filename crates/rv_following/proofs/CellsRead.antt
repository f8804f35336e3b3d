-- The lines of cells, and of a whole page, are read again.
use Rattle.std.proofs.Common.{◌≡◌, ◌^◌, ◌<◌, true, Option, Some, codes, refl, sym, ap, ◌∙◌, arith}
use Rattle.std.specs.Prelude.{option_and_then}
use Rattle.std.proofs.lemmas.Bool.{lt-ltb}
use Rattle.json.proofs.Printed.Utf8.{IsUtf8-are_ascii}
use Rattle.serde_json.specs.Data.{Data, boolean, member, no_members, object}
use Rattle.serde_json.specs.Find.{as_object}
use Rattle.serde_json.specs.Written.{compact_text}
use Rattle.serde_json.proofs.OnLiterals.{serde_json_on_literals}
use Rattle.rv_keeper.specs.declared.cell.Cell.{Cell}
use Rattle.rv_record.specs.CellTexts.{AreTexts}
use Rattle.rv_record.specs.ReadBackLaws.{json_again}
use Rattle.rv_standby.specs.Shipping.{cell_data}
use Rattle.rv_following.specs.declared.follow_line.FollowLine.{FollowLine}
use Rattle.rv_following.specs.declared.follow_line.FollowLine.TheVariants as lines
use Rattle.rv_following.specs.FollowLines.{follow_line_of, members_say}

-- what a value says
abbrev says : Data → Option FollowLine
says value = option_and_then members_say (as_object value)

pub cells_are_read : (cell : Cell) → cell.shelf < 2 ^ 8 → AreTexts cell → follow_line_of (compact_text (cell_data cell)) ≡ Some (lines.Cell cell)
cells_are_read cell low (key, body) =
    ap (option_and_then says) (json_again (cell_data cell) ((IsUtf8-are_ascii (codes "cell") refl, (omega (arith, low), (key, (body, tt))), tt), refl))
    ∙ shelf_is
  where
    shelf_is : says (cell_data cell) ≡ Some (lines.Cell cell)
    shelf_is = rw (lt-ltb cell.shelf (2 ^ 8) low) refl

whole_text : compact_text (object (member (codes "page") (boolean true) no_members)) ≡ codes "{\"page\":true}"
unfolding serde_json_on_literals
whole_text = refl

pub whole_pages_are_read : follow_line_of (codes "{\"page\":true}") ≡ Some lines.Page
whole_pages_are_read =
    ap follow_line_of (sym whole_text)
    ∙ ap (option_and_then says) (json_again (object (member (codes "page") (boolean true) no_members)) ((IsUtf8-are_ascii (codes "page") refl, tt, tt), refl))
