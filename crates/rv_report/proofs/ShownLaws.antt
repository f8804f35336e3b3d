-- What a map or a set whose keys are lent shows after an insertion, and what it finds.
use Rattle.std.proofs.Common.{◌≡◌, ℕ, Bool, true, false, cond, List, [], ◌∷◌, refl, sym, ap, ◌∙◌, Option, Some, None, Bor}
use Rattle.std.specs.declared.cmp.Ordering.{Ordering}
use Rattle.std.specs.declared.cmp.Ordering.TheVariants.{Less, Equal, Greater}
use Rattle.std.specs.Ordering.{nat_cmp, match_ordering}
use Rattle.std.specs.Cmp.Lexicographic.{slice_cmp}
use Rattle.std.specs.BTreeMap.{insert_entry, is_at}
use Rattle.std.specs.BTreeSet.{insert_key}
use Rattle.std.specs.Map.{lookup}
use Rattle.std.specs.Option.{option_map, option_map_or, unwrap_or}
use Rattle.std.specs.Str.{bytes_eq}
use Rattle.std.proofs.lemmas.Map.Text.{is_eq-slice_cmp}
use Rattle.rv_base.specs.Sorted.{find_by, put_by}
use Rattle.rv_base.specs.PositionLaws.{same_from}
use Rattle.rv_report.specs.declared.tally.Tally.{Tally}
use Rattle.rv_report.specs.Tallies.{Tallied, tallied_key, no_entries, tally_in}
use Rattle.rv_report.specs.Shown.{shown_groups, shown_users}

abbrev lent_cmp : Bor (List ℕ) → Bor (List ℕ) → Ordering
lent_cmp a b = slice_cmp nat_cmp a.now b.now

pub users-insert : (entries : List (Bor (List ℕ) × Tally)) (user : Bor (List ℕ)) (tally : Tally) → shown_users (insert_entry (λ a b. slice_cmp nat_cmp a.now b.now) entries user tally) ≡ put_by tallied_key (user.now, tally) (shown_users entries)
users-insert [] user tally = refl
users-insert (e ∷ es) user tally =
    elim (slice_cmp nat_cmp user.now e.0.now) as (λ o. slice_cmp nat_cmp user.now e.0.now ≡ o → shown_users (match_ordering o ((user, tally) ∷ e ∷ es) ((e.0, tally) ∷ es) (e ∷ insert_entry lent_cmp es user tally)) ≡ match_ordering o ((user.now, tally) ∷ shown_users (e ∷ es)) ((user.now, tally) ∷ shown_users es) ((e.0.now, e.1) ∷ put_by tallied_key (user.now, tally) (shown_users es))) [
      | Less ↦ λ o. refl
      | Equal ↦ λ o. ap (λ (text : List ℕ). (text, tally) ∷ shown_users es) (sym (same_from user.now e.0.now o))
      | Greater ↦ λ o. ap (λ (rest : List Tallied). (e.0.now, e.1) ∷ rest) (users-insert es user tally)
    ] refl

pub groups-insert : (groups : List (Bor (List ℕ))) (group : Bor (List ℕ)) → shown_groups (insert_key (λ a b. slice_cmp nat_cmp a.now b.now) groups group) ≡ put_by (λ text. text) group.now (shown_groups groups)
groups-insert [] group = refl
groups-insert (g ∷ gs) group =
    elim (slice_cmp nat_cmp group.now g.now) as (λ o. slice_cmp nat_cmp group.now g.now ≡ o → shown_groups (match_ordering o (group ∷ g ∷ gs) (g ∷ gs) (g ∷ insert_key lent_cmp gs group)) ≡ match_ordering o (group.now ∷ shown_groups (g ∷ gs)) (group.now ∷ shown_groups gs) (g.now ∷ put_by (λ text. text) group.now (shown_groups gs))) [
      | Less ↦ λ o. refl
      | Equal ↦ λ o. ap (λ (text : List ℕ). text ∷ shown_groups gs) (sym (same_from group.now g.now o))
      | Greater ↦ λ o. ap (λ (rest : List (List ℕ)). g.now ∷ rest) (groups-insert gs group)
    ] refl

pub users-found : (user : List ℕ) (entries : List (Bor (List ℕ) × Tally)) → lookup (is_at (λ (k : Bor (List ℕ)). slice_cmp nat_cmp user k.now)) entries ≡ option_map (λ tallied. tallied.1) (find_by tallied_key user (shown_users entries))
users-found user [] = refl
users-found user (e ∷ es) =
    ap (λ (b : Bool). cond b (Some e.1) (lookup (is_at (λ (k : Bor (List ℕ)). slice_cmp nat_cmp user k.now)) es)) (is_eq-slice_cmp user e.0.now)
    ∙ elim (bytes_eq user e.0.now) as (λ b. cond b (Some e.1) (lookup (is_at (λ (k : Bor (List ℕ)). slice_cmp nat_cmp user k.now)) es) ≡ option_map {T = Tallied} {U = Tally} (λ tallied. tallied.1) (cond b (Some (e.0.now, e.1)) (find_by tallied_key user (shown_users es)))) [
      | true ↦ refl
      | false ↦ users-found user es
    ]

-- the tally that is found, or that of no entries
pub tally_read : (user : List ℕ) (entries : List (Bor (List ℕ) × Tally)) → unwrap_or (lookup (is_at (λ (k : Bor (List ℕ)). slice_cmp nat_cmp user k.now)) entries) no_entries ≡ tally_in user (shown_users entries)
tally_read user entries = ap (λ (o : Option Tally). unwrap_or o no_entries) (users-found user entries) ∙ mapped (find_by tallied_key user (shown_users entries))
  where
    mapped : (o : Option Tallied) → unwrap_or (option_map (λ tallied. tallied.1) o) no_entries ≡ option_map_or (λ tallied. tallied.1) o no_entries
    mapped None = refl
    mapped (Some tallied) = refl
