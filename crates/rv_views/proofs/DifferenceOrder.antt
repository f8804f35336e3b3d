-- The lists of a difference are in order.
use Rattle.std.proofs.Common.{ℕ, not, map, List, [], ◌∷◌}
use Rattle.rv_base.specs.PositionLaws.{Above, in_order-filter}
use Rattle.rv_rows.specs.declared.key.Key.{Key}
use Rattle.rv_rows.specs.Keys.{key_text}
use Rattle.rv_views.specs.Viewed.{AreSeen, AreClients, seen_key, client_of_pair}
use Rattle.rv_views.specs.Difference.{AreKeys, is_absent, is_untouched, is_among, lost_keys, touched_keys, changed_ids}

above-keys : (k : List ℕ) (rows : List (Key × ℕ)) → Above seen_key k rows → Above key_text k (map (λ pair. pair.0) rows)
above-keys k [] all = tt
above-keys k (row ∷ rows) all = (all.0, above-keys k rows all.1)

pub in_order-keys : (rows : List (Key × ℕ)) → AreSeen rows → AreKeys (map (λ pair. pair.0) rows)
in_order-keys [] h = tt
in_order-keys (row ∷ rows) h = (above-keys (seen_key row) rows h.0, in_order-keys rows h.1)

-- the lists of a difference are in order
pub in_order-lost : (base now : List (Key × ℕ)) → AreSeen base → AreKeys (lost_keys base now)
in_order-lost base now h = in_order-keys _ (in_order-filter seen_key (is_absent now) base h)

pub in_order-touched : (base now : List (Key × ℕ)) → AreSeen now → AreKeys (touched_keys base now)
in_order-touched base now h = in_order-keys _ (in_order-filter seen_key (λ pair. not (is_untouched base pair)) now h)

pub in_order-changed : (base now : List (List ℕ × ℕ)) → AreClients now → AreClients (changed_ids base now)
in_order-changed base now h = in_order-filter client_of_pair (λ pair. not (is_among base pair)) now h
