-- The base of a pull: the kept look that its cookie names.
use Rattle.std.specs.Prelude.{ℕ, ◌==◌, ◌&&◌, Bool, false, List, Option, None, find, decimal}
use Rattle.std.specs.List.{range_with_len}
use Rattle.std.specs.Option.{option_map, option_map_or}
use Rattle.std.specs.Str.{bytes_eq}
use Rattle.rv_book.specs.Book.{Book, size}
use Rattle.rv_book.specs.Kept.{look_at, kept}
use Rattle.rv_views.specs.declared.cookie.Cookie.{Cookie}
use Rattle.rv_views.specs.declared.cookie.Cookie.TheVariants.{Null, Bare, Named}

-- The text spells the place in decimal without leading zeros, the look there is kept, is by this user and has this order.
unfoldable pub names_base : List ℕ → List ℕ → ℕ → Book → ℕ → Bool
names_base user text order book place =
    bytes_eq (decimal place) text && kept place book && option_map_or (λ look. bytes_eq look.0 user && (look.2 == order)) (look_at place book) false

-- the place of the look that the cookie names, if there is one
abbrev pub base_of : List ℕ → Cookie → Book → Option ℕ
base_of user Null book = None
base_of user (Bare order) book = None
base_of user (Named text order) book = find (names_base user text order book) (range_with_len 1 (size book))

-- the base with the group of its look
abbrev pub base_group : Book → ℕ → Option (ℕ × List ℕ)
base_group book place = option_map (λ look. (place, look.1)) (look_at place book)
