-- Laws of looks: which are kept when one more entry follows, which falls out, and the looks of a group from the last one back.
use Rattle.std.proofs.Common.{◌≡◌, ◌≢◌, ℕ, zero, suc, ◌+◌, ◌-◌, ◌<◌, ◌≤◌, ◌==◌, ◌⊎◌, inl, inr, Bool, true, false, cond, not, ◌&&◌, ◌||◌, nat_lt, List, [], ◌∷◌, Option, Some, None, refl, sym, ap, ◌∙◌, subst, arith, take, drop}
use Rattle.std.specs.Prelude.{find}
use Rattle.std.specs.List.{count_by, range_with_len}
use Rattle.std.specs.Option.{option_map_or, option_and_then}
use Rattle.std.specs.Str.{bytes_eq}
use Rattle.std.proofs.lemmas.Bool.{cases_order}
use Rattle.std.proofs.lemmas.Bool.Decides.{Decides-eqb, nat_tests}
use Rattle.std.proofs.lemmas.List.{drop-drop, take-append-drop}
use Rattle.std.proofs.lemmas.List.Sums.{sum_by-append}
use Rattle.std.proofs.lemmas.Option.{same_Some}
use Rattle.std.proofs.lemmas.Slice.Eq.{bytes_eq-Decides}
use Rattle.rv_base.specs.PositionLaws.{equals, not_same}
use Rattle.rv_book.specs.declared.entry.Entry.{Entry}
use Rattle.rv_book.specs.declared.entry.Entry.TheVariants.{Act, Look, Retire}
use Rattle.rv_book.specs.Entries.{retires}
use Rattle.rv_book.specs.Book.{Book, size, since, with_entry, entry_at, retired}
use Rattle.rv_book.specs.BookWordLaws.{retired-with_entry, count-push, since-with_entry, entry_at-within, entry_at-with_entry, entry_at-end, since-entry}
use Rattle.rv_book.specs.Kept.{look_of, look_at, is_look_of, is_look_at, later_looks, kept, falls_at, falls_out, is_place}

-- the entry of a look
some_entry : (o : Option Entry) (look : List ℕ × List ℕ × ℕ) → option_and_then look_of o ≡ Some look → (entry : Entry) × (o ≡ Some entry) × (look_of entry ≡ Some look)
some_entry None look h = absurd (cc)
some_entry (Some entry) look h = (entry, refl, h)

pub look_at-within : (place : ℕ) (book : Book) (look : List ℕ × List ℕ × ℕ) → look_at place book ≡ Some look → (book.page.at < place) × (place ≤ size book)
look_at-within place book look there = let found = some_entry (entry_at place book) look there in entry_at-within place book found.0 found.1

-- looks when one more entry follows
pub look_at-with_entry : (place : ℕ) (book : Book) (entry : Entry) → place ≤ size book → look_at place (with_entry book entry) ≡ look_at place book
look_at-with_entry place book entry le = ap (option_and_then look_of) (entry_at-with_entry place book entry le)

pub look_at-end : (book : Book) (entry : Entry) → look_at (size book + 1) (with_entry book entry) ≡ look_of entry
look_at-end book entry = ap (option_and_then look_of) (entry_at-end book entry)

-- whether a look is kept
abbrev stays : List ℕ → ℕ → Book → Bool
stays group place book = not (retired group book) && nat_lt (later_looks group place book) 16

pub kept-look : (place : ℕ) (book : Book) (look : List ℕ × List ℕ × ℕ) → look_at place book ≡ Some look → kept place book ≡ (not (retired look.1 book) && nat_lt (later_looks look.1 place book) 16)
unfolding kept
kept-look place book look there = ap (λ o. option_map_or (λ look. stays look.1 place book) o false) there

pub kept-none : (place : ℕ) (book : Book) → look_at place book ≡ None → kept place book ≡ false
unfolding kept
kept-none place book none = ap (λ o. option_map_or (λ look. stays look.1 place book) o false) none

or_false : (b : Bool) → (b || false) ≡ b
or_false true = refl
or_false false = refl

pub later_looks-with_entry : (group : List ℕ) (place : ℕ) (book : Book) (entry : Entry) → place ≤ size book → later_looks group place (with_entry book entry) ≡ later_looks group place book + cond (is_look_of group entry) 1 0
later_looks-with_entry group place book entry le = ap (count_by (is_look_of group)) (since-with_entry place book entry le) ∙ count-push (is_look_of group) (since place book) entry

-- whether a look is kept when one more entry follows
pub kept-with_entry : (place : ℕ) (book : Book) (entry : Entry) (look : List ℕ × List ℕ × ℕ) → look_at place book ≡ Some look
    → kept place (with_entry book entry) ≡ (not (retired look.1 book || retires look.1 entry) && nat_lt (later_looks look.1 place book + cond (is_look_of look.1 entry) 1 0) 16)
kept-with_entry place book entry look there =
    let le : place ≤ size book = (look_at-within place book look there).1 in
    kept-look place (with_entry book entry) look (look_at-with_entry place book entry le ∙ there)
    ∙ (λ i. not (retired-with_entry look.1 book entry i) && nat_lt (later_looks-with_entry look.1 place book entry le i) 16)

-- a look of a group, with so many later looks of the group
pub record IsLookOf (group : List ℕ) (book : Book) (place later : ℕ) : Type 0 where
  pub entry : Entry
  pub there : entry_at place book ≡ Some entry
  pub of_group : is_look_of group entry ≡ true
  pub count : later_looks group place book ≡ later

look_of_group : (group : List ℕ) (entry : Entry) → is_look_of group entry ≡ true → (look : List ℕ × List ℕ × ℕ) × (look_of entry ≡ Some look) × (look.1 ≡ group)
look_of_group group (Act user other client id call) is = absurd (cc)
look_of_group group (Look user other order base) is = ((user, other, order), refl, (bytes_eq-Decides other group).0 is)
look_of_group group (Retire other) is = absurd (cc)

-- it is the look at its place
pub look_is : (group : List ℕ) (book : Book) (place later : ℕ) → IsLookOf group book place later → (look : List ℕ × List ℕ × ℕ) × (look_at place book ≡ Some look) × (look.1 ≡ group)
look_is group book place later is =
    let look = look_of_group group is.entry is.of_group in
    (look.0, ap (option_and_then look_of) is.there ∙ look.1, look.2)

group_look : (group : List ℕ) (entry : Entry) (look : List ℕ × List ℕ × ℕ) → look_of entry ≡ Some look → bytes_eq look.1 group ≡ true → is_look_of group entry ≡ true
group_look group (Act user other client id call) look is same = absurd (cc)
group_look group (Look user other order base) look is same = subst (λ (l : List ℕ × List ℕ × ℕ). bytes_eq l.1 group ≡ true) (sym (same_Some (user, other, order) look is)) same
group_look group (Retire other) look is same = absurd (cc)

look_from : (group : List ℕ) (book : Book) (place : ℕ) → is_look_at group book place ≡ true → IsLookOf group book place (later_looks group place book)
look_from group book place is =
    let o = look_at place book in
    (elim (look_at place book) as (λ o. look_at place book ≡ o → option_map_or (λ look. bytes_eq look.1 group) o false ≡ true → IsLookOf group book place (later_looks group place book)) [
      | None ↦ λ e h. absurd (cc)
      | Some look ↦ λ e h.
          let found = some_entry (entry_at place book) look e in
          record { entry = found.0; there = found.1; of_group = group_look group found.0 look found.2 h; count = refl }
    ]) refl is

-- the looks that stand since the entry before a look are that and the later ones
pub count_from : (group : List ℕ) (book : Book) (place later : ℕ) → IsLookOf group book place later → count_by (is_look_of group) (since (place - 1) book) ≡ later + 1
count_from group book place later is =
    ap (count_by (is_look_of group)) (since-entry place book is.entry is.there)
    ∙ sum_by-append (λ (e : Entry). cond (is_look_of group e) 1 0) (is.entry ∷ []) (since place book)
    ∙ (λ i. (0 + cond (is.of_group i) 1 0) + is.count i)
    ∙ omega arith

-- fewer stand since a later place
since_falls : (group : List ℕ) (book : Book) (place more : ℕ) → book.page.at ≤ place → later_looks group (place + more) book ≤ later_looks group place book
since_falls group book place more from =
    let there : (place - book.page.at) + more ≡ (place + more) - book.page.at = omega (arith, from) in
    let whole : count_by (is_look_of group) (take more (since place book)) + count_by (is_look_of group) (drop more (since place book)) ≡ later_looks group place book =
    sym (sum_by-append (λ (e : Entry). cond (is_look_of group e) 1 0) (take more (since place book)) (drop more (since place book))) ∙ ap (count_by (is_look_of group)) (take-append-drop more (since place book)) in
    let rest : count_by (is_look_of group) (drop more (since place book)) ≡ later_looks group (place + more) book = ap (count_by (is_look_of group)) (drop-drop more (place - book.page.at) book.entries ∙ ap (λ (n : ℕ). drop n book.entries) there) in
    omega (arith, whole, rest)

-- two looks of a group with as many later ones are one
look_before_look : (group : List ℕ) (book : Book) (place other later : ℕ) → place < other → IsLookOf group book place later → IsLookOf group book other later → ⊥
look_before_look group book place other later lt is also =
    let more : place + ((other - 1) - place) ≡ other - 1 = omega (arith, lt) in
    let falls : later_looks group (other - 1) book ≤ later_looks group place book = subst (λ (n : ℕ). later_looks group n book ≤ later_looks group place book) more (since_falls group book place ((other - 1) - place) (omega (arith, (entry_at-within place book is.entry is.there).0))) in
    omega (arith, falls, count_from group book other later also, is.count)

pub one_look : (group : List ℕ) (book : Book) (place other later : ℕ) → IsLookOf group book place later → IsLookOf group book other later → place ≡ other
one_look group book place other later is also = go (cases_order place other)
  where
    go : (place ≡ other) ⊎ ((place < other) ⊎ (other < place)) → place ≡ other
    go (inl same) = same
    go (inr (inl lt)) = absurd (look_before_look group book place other later lt is also)
    go (inr (inr gt)) = absurd (look_before_look group book other place later gt also is)

-- What the group's next look leaves of the looks that are kept.
find_nowhere : (p : ℕ → Bool) (a n : ℕ) → ((k : ℕ) → a ≤ k → k < a + n → p k ≡ false) → find p (range_with_len a n) ≡ None
find_nowhere p a zero none = refl
find_nowhere p a (suc n) none = rw (none a (omega arith) (omega arith)) (find_nowhere p (a + 1) n (λ k least most. none k (omega (arith, least)) (omega (arith, most))))

find_alone : (p : ℕ → Bool) (a n at : ℕ) → ((k : ℕ) → p k ≡ true → k ≡ at) → p at ≡ true → a ≤ at → at < a + n → find p (range_with_len a n) ≡ Some at
find_alone p a zero at alone is least most = absurd (omega (arith, least, most))
find_alone p a (suc n) at alone is least most =
    elim (p a) as (λ b. p a ≡ b → cond b (Some a) (find p (range_with_len (a + 1) n)) ≡ Some at) [
      | true ↦ λ e. ap Some (alone a e)
      | false ↦ λ e.
          let other : a ≢ at = (λ same. let both : true ≡ false = sym is ∙ ap p (sym same) ∙ e in cc) in
          find_alone p (a + 1) n at alone is (omega (arith, least)) (omega (arith, most))
    ] refl

found_passes : (p : ℕ → Bool) (ks : List ℕ) (k : ℕ) → find p ks ≡ Some k → p k ≡ true
found_passes p [] k is = absurd (cc)
found_passes p (x ∷ ks) k is =
    elim (p x) as (λ b. p x ≡ b → cond b (Some x) (find p ks) ≡ Some k → p k ≡ true) [
      | true ↦ λ e f. subst (λ (y : ℕ). p y ≡ true) (same_Some x k f) e
      | false ↦ λ e f. found_passes p ks k f
    ] refl is

both_true : (a b : Bool) → (a && b) ≡ true → (a ≡ true) × (b ≡ true)
both_true true b is = (refl, is)
both_true false b is = absurd (cc)

not_true : (b : Bool) → not b ≡ true → b ≡ false
not_true true is = absurd (cc)
not_true false is = refl

-- whether a look is kept, now and after one more look of its group
now_kept : (group : List ℕ) (book : Book) (place later : ℕ) → IsLookOf group book place later → kept place book ≡ (not (retired group book) && nat_lt later 16)
now_kept group book place later is =
    let look = look_is group book place later is in
    kept-look place book look.0 look.1
    ∙ ap (λ (g : List ℕ). not (retired g book) && nat_lt (later_looks g place book) 16) look.2
    ∙ ap (λ (n : ℕ). not (retired group book) && nat_lt n 16) is.count

next_kept : (group : List ℕ) (book : Book) (place later : ℕ) (user : List ℕ) (order : ℕ) (base : Option ℕ) → IsLookOf group book place later
    → kept place (with_entry book (Look user group order base)) ≡ (not (retired group book) && nat_lt (later + 1) 16)
next_kept group book place later user order base is =
    let look = look_is group book place later is in
    kept-with_entry place book (Look user group order base) look.0 look.1
    ∙ ap (λ (g : List ℕ). not (retired g book || false) && nat_lt (later_looks g place book + cond (bytes_eq group g) 1 0) 16) look.2
    ∙ (λ i. not (or_false (retired group book) i) && nat_lt (is.count i + cond (equals group i) 1 0) 16)

fifteen : (gone : Bool) (n : ℕ) → (not gone && nat_lt n 16) ≡ true → (not gone && nat_lt (n + 1) 16) ≡ false → (n ≡ 15) × (gone ≡ false)
fifteen true n now next = absurd (cc)
fifteen false n now next = (grind (arith, nat_tests), refl)

-- the look that falls out has 15 later ones
pub falls_from : (group : List ℕ) (book : Book) (place : ℕ) → falls_at group book place ≡ true → IsLookOf group book place 15 × (retired group book ≡ false)
unfolding falls_at
falls_from group book place is =
    let first = both_true (is_look_at group book place && kept place book) (not (kept place (with_entry book (Look [] group 0 None)))) is in
    let second = both_true (is_look_at group book place) (kept place book) first.0 in
    let look = look_from group book place second.0 in
    let n = later_looks group place book in
    let all = fifteen (retired group book) n (sym (now_kept group book place n look) ∙ second.1) (sym (next_kept group book place n [] 0 None look) ∙ not_true (kept place (with_entry book (Look [] group 0 None))) first.1) in
    (record { entry = look.entry; there = look.there; of_group = look.of_group; count = all.0 }, all.1)

is_look : (group : List ℕ) (book : Book) (place later : ℕ) → IsLookOf group book place later → is_look_at group book place ≡ true
is_look group book place later is =
    let look = look_is group book place later is in
    ap (λ o. option_map_or (λ look. bytes_eq look.1 group) o false) look.1 ∙ ap (λ (g : List ℕ). bytes_eq g group) look.2 ∙ equals group

pub falls_with : (group : List ℕ) (book : Book) (place : ℕ) → IsLookOf group book place 15 → retired group book ≡ false → falls_at group book place ≡ true
unfolding falls_at
falls_with group book place is stands =
    let now : kept place book ≡ true = now_kept group book place 15 is ∙ ap (λ (b : Bool). not b && nat_lt 15 16) stands in
    let next : kept place (with_entry book (Look [] group 0 None)) ≡ false = next_kept group book place 15 [] 0 None is ∙ ap (λ (b : Bool). not b && nat_lt (15 + 1) 16) stands in
    (λ i. is_look group book place 15 is i && now i && not (next i))

pub falls_out-some : (group : List ℕ) (book : Book) (place : ℕ) → IsLookOf group book place 15 → retired group book ≡ false → falls_out group book ≡ Some place
unfolding falls_out
falls_out-some group book place is stands =
    let within = entry_at-within place book is.entry is.there in
    find_alone (falls_at group book) 1 (size book) place (λ k passes. one_look group book k place 15 (falls_from group book k passes).0 is) (falls_with group book place is stands) (omega (arith, within.0)) (omega (arith, within.1))

nowhere : (group : List ℕ) (book : Book) → ((place : ℕ) → falls_at group book place ≡ true → ⊥) → falls_out group book ≡ None
unfolding falls_out
nowhere group book none = find_nowhere (falls_at group book) 1 (size book) (λ k least most.
    elim (falls_at group book k) as (λ b. falls_at group book k ≡ b → b ≡ false) [ true ↦ λ e. absurd (none k e) | false ↦ λ e. refl ] refl)

pub falls_out-none : (group : List ℕ) (book : Book) → ((place : ℕ) → IsLookOf group book place 15 → ⊥) → falls_out group book ≡ None
falls_out-none group book none = nowhere group book (λ place is. none place (falls_from group book place is).0)

pub falls_out-retired : (group : List ℕ) (book : Book) → retired group book ≡ true → falls_out group book ≡ None
falls_out-retired group book gone = nowhere group book (λ place is. let both : true ≡ false = sym gone ∙ (falls_from group book place is).1 in cc)

falls_here : (group : List ℕ) (book : Book) (place : ℕ) → is_place place (falls_out group book) ≡ falls_at group book place
unfolding falls_out
falls_here group book place =
    elim (falls_at group book place) as (λ b. falls_at group book place ≡ b → is_place place (falls_out group book) ≡ b) [
      | true ↦ λ e. let is = falls_from group book place e in ap (is_place place) (falls_out-some group book place is.0 is.1) ∙ (Decides-eqb place place).1 refl
      | false ↦ λ e. elim (falls_out group book) as (λ o. falls_out group book ≡ o → is_place place o ≡ false) [
        | None ↦ λ f. refl
        | Some other ↦ λ f. apart e other (found_passes (falls_at group book) (range_with_len 1 (size book)) other f)
      ] refl
    ] refl
  where
    apart : falls_at group book place ≡ false → (other : ℕ) → falls_at group book other ≡ true → other == place ≡ false
    apart e other passes =
        elim (other == place) as (λ b. other == place ≡ b → b ≡ false) [
          | true ↦ λ f. let both : true ≡ false = sym passes ∙ ap (falls_at group book) ((Decides-eqb other place).0 f) ∙ e in cc
          | false ↦ λ f. refl
        ] refl

one_less : (gone : Bool) (n : ℕ) → (not gone && nat_lt (n + 1) 16) ≡ ((not gone && nat_lt n 16) && not ((not gone && nat_lt n 16) && not (not gone && nat_lt (n + 1) 16)))
one_less true n = refl
one_less false n = grind (arith, nat_tests)

and_true : (b : Bool) → b ≡ (b && true)
and_true true = refl
and_true false = refl

-- A group's next look leaves all looks that are kept but the one that falls out.
pub kept-next_look : (place : ℕ) (book : Book) (user group : List ℕ) (order : ℕ) (base : Option ℕ) → place ≤ size book
    → kept place (with_entry book (Look user group order base)) ≡ (kept place book && not (is_place place (falls_out group book)))
unfolding falls_at
kept-next_look place book user group order base le = whether (look_at place book) refl ∙ ap (λ (b : Bool). kept place book && not b) (sym (falls_here group book place))
  where
    -- a look of the group, and one of another
    mine : is_look_at group book place ≡ true → kept place (with_entry book (Look user group order base)) ≡ (kept place book && not (falls_at group book place))
    mine is =
        let look = look_from group book place is in
        let n = later_looks group place book in
        let plain = with_entry book (Look [] group 0 None) in
        let before : (not (retired group book) && nat_lt n 16) ≡ kept place book = sym (now_kept group book place n look) in
        let after : (not (retired group book) && nat_lt (n + 1) 16) ≡ kept place plain = sym (next_kept group book place n [] 0 None look) in
        next_kept group book place n user order base look
        ∙ one_less (retired group book) n
        ∙ (λ i. before i && not (before i && not (after i)))
        ∙ ap (λ (b : Bool). kept place book && not ((b && kept place book) && not (kept place plain))) (sym is)

    other : (look : List ℕ × List ℕ × ℕ) → look_at place book ≡ Some look → bytes_eq look.1 group ≡ false → kept place (with_entry book (Look user group order base)) ≡ (kept place book && not (falls_at group book place))
    other look there apart =
        let n = later_looks look.1 place book in
        let not_mine : is_look_at group book place ≡ false = ap (λ o. option_map_or (λ look. bytes_eq look.1 group) o false) there ∙ apart in
        let plain = with_entry book (Look [] group 0 None) in
        let same : n + 0 ≡ n = omega arith in
        kept-with_entry place book (Look user group order base) look there
        ∙ (λ i. not (or_false (retired look.1 book) i) && nat_lt (n + cond (not_same look.1 group apart i) 1 0) 16)
        ∙ ap (λ (m : ℕ). not (retired look.1 book) && nat_lt m 16) same
        ∙ sym (kept-look place book look there)
        ∙ and_true (kept place book)
        ∙ ap (λ (b : Bool). kept place book && not ((b && kept place book) && not (kept place plain))) (sym not_mine)

    whether : (o : Option (List ℕ × List ℕ × ℕ)) → look_at place book ≡ o → kept place (with_entry book (Look user group order base)) ≡ (kept place book && not (falls_at group book place))
    whether None none =
        kept-none place (with_entry book (Look user group order base)) (look_at-with_entry place book (Look user group order base) le ∙ none)
        ∙ ap (λ (b : Bool). b && not (falls_at group book place)) (sym (kept-none place book none))
    whether (Some look) there =
        elim (bytes_eq look.1 group) as (λ b. bytes_eq look.1 group ≡ b → kept place (with_entry book (Look user group order base)) ≡ (kept place book && not (falls_at group book place))) [
          | true ↦ λ e. mine (ap (λ o. option_map_or (λ look. bytes_eq look.1 group) o false) there ∙ e)
          | false ↦ λ e. other look there e
        ] refl
