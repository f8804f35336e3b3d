-- What a line is: {"cell":[SHELF,KEY,BODY]}, {"page":true} or {"user":U,"pull":V}; members in any order, and no others.
use Rattle.std.specs.Prelude.{ℕ, ◌^◌, List, Option, Some, None, codes, option_map, option_and_then, if◌then◌else◌, nat_lt, ◌&&◌}
use Rattle.std.specs.Option.{option_map_or}
use Rattle.std.specs.Str.{bytes_eq}
use Rattle.serde_json.specs.Data.{Data, Items, item, no_items, Members}
use Rattle.serde_json.specs.Find.{as_array, as_object, as_bool, as_str, as_number, as_u64}
use Rattle.rv_base.specs.Options.{◌>>=◌}
use Rattle.rv_rows.specs.Members.{text_in}
use Rattle.rv_json.specs.JsonTexts.{json_in}
use Rattle.rv_wire.specs.Bodies.{pull_in}
use Rattle.rv_answering.specs.Requests.{one_member, serves, two_members}
use Rattle.rv_keeper.specs.declared.cell.Cell.{Cell}
use Rattle.rv_following.specs.declared.follow_line.FollowLine.{FollowLine}
use Rattle.rv_following.specs.declared.follow_line.FollowLine.TheVariants as lines

-- a shelf, from 0 to 255
abbrev pub shelf_in : Data → Option ℕ
shelf_in value = option_and_then (λ n. if nat_lt n (2 ^ 8) then Some n else None) (option_and_then as_u64 (as_number value))

-- the cell of a shelf, a key and a body, where they are of the form
abbrev pub cell_of : Option ℕ → Option (List ℕ) → Option (List ℕ) → Option Cell
cell_of shelf key body = shelf >>= λ s. key >>= λ k. body >>= λ b. Some (record { shelf = s; key = k; body = b })

-- [SHELF,KEY,BODY]
abbrev pub cell_in_items : Items → Option Cell
cell_in_items (item shelf (item key (item body no_items))) = cell_of (shelf_in shelf) (as_str key) (as_str body)
cell_in_items other = None

-- {"cell":[SHELF,KEY,BODY]}
abbrev pub cell_asked : Data → Option FollowLine
cell_asked value = option_map (λ cell. lines.Cell cell) (option_and_then cell_in_items (as_array value))

-- {"page":true}
abbrev pub page_asked : Data → Option FollowLine
page_asked value = option_and_then (λ whole. if whole then Some lines.Page else None) (as_bool value)

-- what the one member of an object says
abbrev pub one_says : List ℕ → Data → Option FollowLine
one_says name value =
    if bytes_eq name (codes "cell") then cell_asked value
    else if bytes_eq name (codes "page") then page_asked value
    else None

-- {"user":U,"pull":V}, whose members stand in the order of their names
abbrev pub pull_asked : List ℕ → Data → List ℕ → Data → Option FollowLine
pull_asked name body second user =
    if bytes_eq name (codes "pull") && bytes_eq second (codes "user") then option_map (λ u. lines.Pull u (pull_in serves body)) (text_in 1 64 user)
    else None

-- what an object of one member says, and what any other does
abbrev pub members_say : Members → Option FollowLine
members_say members = option_map_or (λ one. one_says one.0 one.1) (one_member members) (option_and_then (λ two. pull_asked two.0.0 two.0.1 two.1.0 two.1.1) (two_members members))

-- what a line is, where it is of the form
abbrev pub follow_line_of : List ℕ → Option FollowLine
follow_line_of line = option_and_then (λ value. option_and_then members_say (as_object value)) (json_in line)
