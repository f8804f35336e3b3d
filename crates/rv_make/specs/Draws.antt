-- Numbers that look like chance: a draw sets a number to the one after it, and gives that one's upper bits.
use Rattle.std.specs.Prelude.{ℕ, ◌+◌, ◌*◌, ◌/◌, ◌%◌, ◌^◌}

-- the number after this one
abbrev pub drawn : ℕ → ℕ
drawn number = (number * 1103515245 + 12345) % 2 ^ 31

-- what a draw gives that leaves this number
abbrev pub draw_of : ℕ → ℕ
draw_of number = number / 65536
