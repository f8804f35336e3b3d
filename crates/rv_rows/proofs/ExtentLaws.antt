-- Laws of extents among rows in the order of their keys, before all others.
use Rattle.std.proofs.Common.{◌≡◌, ℕ, Bool, true, false, List, [], ◌∷◌, None, refl, sym}
use Rattle.std.specs.declared.cmp.Ordering.TheVariants.{Less, Greater}
use Rattle.std.specs.List.{list_any}
use Rattle.rv_base.specs.PositionLaws.{Above}
use Rattle.rv_rows.specs.declared.key.Kind.TheVariants as kinds
use Rattle.rv_rows.specs.declared.row.Row.{Row}
use Rattle.rv_rows.specs.declared.row.Row.TheVariants as variants
use Rattle.rv_rows.specs.Keys.{key_text, row_text}
use Rattle.rv_rows.specs.Held.{Stored, rows_in, find, stored_key, AreRows}
use Rattle.rv_rows.specs.Sharing.{is_any_extent}

-- behind what is no extent there is none
none_behind : (row : Row) (rest : List Stored) → is_any_extent row ≡ false → Above stored_key (row_text row) rest → list_any is_any_extent (rows_in rest) ≡ false
none_behind row [] e all = refl
none_behind (variants.List row) ((variants.Extent other, version) ∷ rest) e all = absurd (let below : Less ≡ Greater = sym all.0 in cc)
none_behind (variants.Share row) ((variants.Extent other, version) ∷ rest) e all = absurd (let below : Less ≡ Greater = sym all.0 in cc)
none_behind (variants.Todo row) ((variants.Extent other, version) ∷ rest) e all = absurd (let below : Less ≡ Greater = sym all.0 in cc)
none_behind (variants.Extent row) (s ∷ rest) e all = absurd (cc)
none_behind row ((variants.List other, version) ∷ rest) e all = none_behind row rest e all.1
none_behind row ((variants.Share other, version) ∷ rest) e all = none_behind row rest e all.1
none_behind row ((variants.Todo other, version) ∷ rest) e all = none_behind row rest e all.1

-- so the first row tells whether there is one
pub told_by_first : (stored rest : List Stored) (s : Stored) (told : Bool) → AreRows stored → stored ≡ s ∷ rest → told ≡ is_any_extent s.0 → told ≡ list_any is_any_extent (rows_in stored)
told_by_first stored rest s told order first is = by told is
  where
    by : (told : Bool) → told ≡ is_any_extent s.0 → told ≡ list_any is_any_extent (rows_in stored)
    by true e = rw (first, sym e) refl
    by false e = let rows = rw first at order in rw (first, sym e) (sym (none_behind s.0 rest (sym e) rows.0))

pub told_by_none : (stored : List Stored) → stored ≡ [] → false ≡ list_any is_any_extent (rows_in stored)
told_by_none stored none = rw none refl

-- where there is none, none is found
pub none_found : (user : List ℕ) (stored : List Stored) → list_any is_any_extent (rows_in stored) ≡ false → None ≡ find (key_text (record { kind = kinds.Extent; id = user })) stored
none_found user [] e = refl
none_found user ((variants.Extent row, version) ∷ stored) e = absurd (cc)
none_found user ((variants.List row, version) ∷ stored) e = none_found user stored e
none_found user ((variants.Share row, version) ∷ stored) e = none_found user stored e
none_found user ((variants.Todo row, version) ∷ stored) e = none_found user stored e
