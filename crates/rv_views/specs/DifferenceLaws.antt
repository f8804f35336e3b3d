-- A law of differences: nothing has changed from a view to itself.
use Rattle.std.proofs.Common.{◌≡◌, ℕ, Bool, true, false, not, ◌||◌, ◌&&◌, ◌==◌, map, List, [], ◌∷◌, Some, refl, ap, eq-eqb}
use Rattle.std.specs.List.{filter, list_any}
use Rattle.std.specs.Str.{bytes_eq}
use Rattle.rv_base.specs.PositionLaws.{equals}
use Rattle.rv_rows.specs.declared.key.Key.{Key}
use Rattle.rv_views.specs.Viewed.{Viewed, seen_key}
use Rattle.rv_views.specs.Difference.{is_absent, is_untouched, is_among, lost_keys, touched_keys, changed_ids, difference}

-- a filter by what is found among all leaves nothing of items that are among them
later : (a b : Bool) → b ≡ true → (a || b) ≡ true
later true b h = refl
later false b h = h

none_left : {X : Type 0} (meets : X → X → Bool) → ((x : X) → meets x x ≡ true) → (all xs : List X) → ((x : X) → list_any (λ y. meets y x) xs ≡ true → list_any (λ y. meets y x) all ≡ true) → filter (λ x. not (list_any (λ y. meets y x) all)) xs ≡ []
none_left meets self all [] within = refl
none_left meets self all (x ∷ xs) within =
    let found : list_any (λ y. meets y x) all ≡ true = within x (rw (self x) refl) in
    rw found (none_left meets self all xs (λ z h. within z (later (meets x z) (list_any (λ y. meets y z) xs) h)))

-- nothing has changed from a view to itself
none_lost : (rows : List (Key × ℕ)) → lost_keys rows rows ≡ []
unfolding is_absent
none_lost rows = ap (map (λ pair. pair.0)) (none_left (λ other pair. bytes_eq (seen_key other) (seen_key pair)) (λ pair. equals (seen_key pair)) rows rows (λ x h. h))

none_touched : (rows : List (Key × ℕ)) → touched_keys rows rows ≡ []
unfolding is_untouched
none_touched rows = ap (map (λ pair. pair.0)) (none_left (λ other pair. bytes_eq (seen_key other) (seen_key pair) && (other.1 == pair.1)) (λ pair. rw (equals (seen_key pair)) (eq-eqb pair.1 pair.1 refl)) rows rows (λ x h. h))

none_changed : (clients : List (List ℕ × ℕ)) → changed_ids clients clients ≡ []
unfolding is_among
none_changed clients = none_left (λ other pair. bytes_eq other.0 pair.0 && (other.1 == pair.1)) (λ pair. rw (equals pair.0) (eq-eqb pair.1 pair.1 refl)) clients clients (λ x h. h)

pub difference-same : (view : Viewed) → difference (Some view) view ≡ record { clear = false; dels = []; puts = []; ids = [] }
difference-same view = λ i. record { clear = false; dels = none_lost view.rows i; puts = none_touched view.rows i; ids = none_changed view.clients i }
