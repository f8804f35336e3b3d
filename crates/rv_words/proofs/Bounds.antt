-- A number that is out of bounds makes the words of `serve` no line.
use Rattle.std.proofs.Common.{◌≡◌, ◌∙◌, ◌&&◌, ◌||◌, ap, refl, sym, List, [], ◌∷◌, Option, Some, None, Bool, cond, true, false, true≢false, codes, ℕ}
use Rattle.std.specs.Prelude.{is_none, option_and_then}
use Rattle.std.specs.List.{list_any}
use Rattle.std.specs.Str.{bytes_eq}
use Rattle.rv_words.specs.Numbers.{number_in}
use Rattle.rv_words.specs.Plain.{Part, defaults, part_values, serve_with, the_only, the_value, values_or}
use Rattle.rv_words.specs.ServeProperties.{IsInBounds, NumbersAreInBounds}
use Rattle.rv_words.proofs.Parts.{NeedsNumber, needs_connections, needs_poke_port, needs_pokes, needs_port, needs_workers}
use Rattle.rv_words.proofs.Lines.{line_is_plain}

module _ (read : List ℕ → Option ℕ) where
  -- a part of the name whose value is none is among the values of the name
  bad_value : (name : List ℕ) (parts : List Part) → list_any (λ part. bytes_eq part.0 name && is_none (read part.1)) parts ≡ true
      → list_any (λ value. is_none (read value)) (part_values parts name) ≡ true
  bad_value name [] some = some
  bad_value name (part ∷ parts) some = go (bytes_eq part.0 name) (is_none (read part.1)) refl some (bad_value name parts)
    where
      go : (same bad : Bool) → is_none (read part.1) ≡ bad → ((same && bad) || list_any (λ p. bytes_eq p.0 name && is_none (read p.1)) parts) ≡ true
          → (list_any (λ p. bytes_eq p.0 name && is_none (read p.1)) parts ≡ true → list_any (λ value. is_none (read value)) (part_values parts name) ≡ true)
          → list_any (λ value. is_none (read value)) (cond same (part.1 ∷ part_values parts name) (part_values parts name)) ≡ true
      go true true is e rest = ap (λ b. b || list_any (λ value. is_none (read value)) (part_values parts name)) is
      go true false is e rest = ap (λ b. b || list_any (λ value. is_none (read value)) (part_values parts name)) is ∙ rest e
      go false bad is e rest = rest e

  read_none : (value : List ℕ) → (is_none (read value) || false) ≡ true → read value ≡ None
  read_none value none = go (read value) none
    where
      go : (o : Option ℕ) → (is_none o || false) ≡ true → o ≡ None
      go None e = refl
      go (Some number) e = absurd (true≢false (sym e))

  -- it isn't the only one
  only_bad : (values others : List (List ℕ)) → list_any (λ value. is_none (read value)) values ≡ true → option_and_then read (the_only (values_or values others)) ≡ None
  only_bad [] others some = absurd (true≢false (sym some))
  only_bad (v ∷ []) others some = read_none v some
  only_bad (v ∷ w ∷ more) others some = refl

in_bounds : (option : List ℕ) (least most : ℕ) → NeedsNumber option least most → IsInBounds option least most
in_bounds option least most needed name words parts is some =
    line_is_plain (name ∷ codes "serve" ∷ words) ∙ ap (option_and_then serve_with) is
    ∙ needed (the_value parts) (only_bad (number_in least most) (part_values parts option) (part_values defaults option) (bad_value (number_in least most) option parts some))

pub numbers_in_bounds : NumbersAreInBounds
numbers_in_bounds = record {
  port = in_bounds (codes "port") 1 65535 needs_port;
  workers = in_bounds (codes "workers") 1 16 needs_workers;
  connections = in_bounds (codes "connections") 1 1000000 needs_connections;
  poke_port = in_bounds (codes "poke-port") 1 65535 needs_poke_port;
  pokes = in_bounds (codes "pokes") 0 16 needs_pokes;
}
