-- The text of the tallies and the groups of a book.
use Rattle.std.proofs.Common.{◌≡◌, ℕ, ◌+◌, Bool, cond, List, [], ◌∷◌, length, refl, sym, ap, ◌∙◌, count_by, Bor}
use Rattle.std.specs.List.{flat_map}
use Rattle.std.proofs.lemmas.List.{length-map}
use Rattle.std.proofs.lemmas.List.Folds.{flat_map-map}
use Rattle.std.proofs.lemmas.List.Sums.{sum_by-cons}
use Rattle.rv_book.specs.Book.{Book, retired}
use Rattle.rv_report.specs.declared.tally.Tally.{Tally}
use Rattle.rv_report.specs.Activity.{group_ids, groups_text, user_text, users_of}
use Rattle.rv_report.specs.Shown.{shown_groups, shown_users}
use Rattle.rv_report.specs.Tallies.{groups_line, tallies_of, tally_line, tally_of}

-- the line of a user that is lent
abbrev pub lent_line : Bor (List ℕ) × Tally → List ℕ
lent_line entry = tally_line (entry.0.now, entry.1)

pub users_text : (book : Book) (entries : List (Bor (List ℕ) × Tally)) → shown_users entries ≡ tallies_of book → flat_map lent_line entries ≡ flat_map (user_text book) (users_of book)
users_text book entries are =
    sym (flat_map-map tally_line (λ (entry : Bor (List ℕ) × Tally). (entry.0.now, entry.1)) entries)
    ∙ ap (flat_map tally_line) are
    ∙ flat_map-map tally_line (λ (user : List ℕ). (user, tally_of user book)) (users_of book)

counted_shown : (p : List ℕ → Bool) (groups : List (Bor (List ℕ))) → count_by (λ group. p group.now) groups ≡ count_by p (shown_groups groups)
counted_shown p [] = refl
counted_shown p (group ∷ groups) =
    sum_by-cons (λ (g : Bor (List ℕ)). cond (p g.now) 1 0) group groups
    ∙ ap (λ (n : ℕ). cond (p group.now) 1 0 + n) (counted_shown p groups)
    ∙ sym (sum_by-cons (λ (g : List ℕ). cond (p g) 1 0) group.now (shown_groups groups))

pub groups_are : (book : Book) (groups : List (Bor (List ℕ))) → shown_groups groups ≡ group_ids book → groups_line (length groups) (count_by (λ group. retired group.now book) groups) ≡ groups_text book
groups_are book groups are =
    ap (λ (n : ℕ). groups_line n (count_by (λ group. retired group.now book) groups)) (sym (length-map groups (λ (group : Bor (List ℕ)). group.now)))
    ∙ ap (groups_line (length (shown_groups groups))) (counted_shown (λ group. retired group book) groups)
    ∙ ap (λ (names : List (List ℕ)). groups_line (length names) (count_by (λ group. retired group book) names)) are
