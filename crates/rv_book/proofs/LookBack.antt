-- The looks of a group, so many steps back from its last one: the look that falls out is 15 steps back.
use Rattle.std.proofs.Common.{◌≡◌, ℕ, zero, suc, ◌+◌, ◌-◌, ◌≤◌, cond, false, List, Option, Some, None, refl, sym, ap, ◌∙◌, subst, arith}
use Rattle.std.specs.List.{count_by}
use Rattle.std.specs.Option.{option_and_then}
use Rattle.std.proofs.lemmas.List.Sums.{sum_by-append}
use Rattle.std.proofs.lemmas.Option.{none-some}
use Rattle.rv_book.specs.declared.entry.Entry.{Entry}
use Rattle.rv_book.specs.Book.{Book, retired, up_to, since}
use Rattle.rv_book.specs.BookWordLaws.{up_to-since}
use Rattle.rv_book.specs.Kept.{is_look_of, last_look, look_before, falls_out}
use Rattle.rv_book.specs.LookLaws.{IsLookOf, count_from, falls_out-some, falls_out-none}
use Rattle.rv_book.specs.LookWalkLaws.{last_look-some, last_look-none, look_before-some, look_before-none}

unfoldable pub looks_back : ℕ → List ℕ → Book → Option ℕ
looks_back zero group book = last_look group book
looks_back (suc steps) group book = option_and_then (λ place. look_before place book) (looks_back steps group book)

pub back_first : (group : List ℕ) (book : Book) → last_look group book ≡ looks_back 0 group book
unfolding looks_back
back_first group book = refl

pub back_more : (steps : ℕ) (group : List ℕ) (book : Book) (place : ℕ) → Some place ≡ looks_back steps group book → look_before place book ≡ looks_back (steps + 1) group book
unfolding looks_back
back_more steps group book place is =
    let next : suc steps ≡ steps + 1 = omega arith in
    ap (option_and_then (λ place. look_before place book)) is ∙ ap (λ (n : ℕ). looks_back n group book) next

-- so many steps back there are so many later looks
is_back : (steps : ℕ) (group : List ℕ) (book : Book) (place : ℕ) → looks_back steps group book ≡ Some place → IsLookOf group book place steps
unfolding looks_back
is_back zero group book place is = last_look-some group book place is
is_back (suc steps) group book place is =
    let next : steps + 1 ≡ suc steps = omega arith in
    elim (looks_back steps group book) as (λ o. looks_back steps group book ≡ o → option_and_then (λ place. look_before place book) o ≡ Some place → IsLookOf group book place (suc steps)) [
      | None ↦ λ e h. absurd (none-some place h)
      | Some later ↦ λ e h. subst (IsLookOf group book place) next (look_before-some group book later place steps (is_back steps group book later e) h)
    ] refl is

-- and where there is none so many steps back, there are no more looks than that
few_looks : (steps : ℕ) (group : List ℕ) (book : Book) → looks_back steps group book ≡ None → count_by (is_look_of group) book.entries ≤ steps
unfolding looks_back
few_looks zero group book none = omega (arith, last_look-none group book none)
few_looks (suc steps) group book none =
    elim (looks_back steps group book) as (λ o. looks_back steps group book ≡ o → option_and_then (λ place. look_before place book) o ≡ None → count_by (is_look_of group) book.entries ≤ suc steps) [
      | None ↦ λ e h. omega (arith, few_looks steps group book e)
      | Some place ↦ λ e h. omega (arith, look_before-none group book place steps (is_back steps group book place e) h)
    ] refl none

pub falls_nowhere : (steps : ℕ) (group : List ℕ) (book : Book) → steps ≤ 15 → None ≡ looks_back steps group book → falls_out group book ≡ None
falls_nowhere steps group book le none = falls_out-none group book (λ place is.
    let parts : count_by (is_look_of group) book.entries ≡ count_by (is_look_of group) (up_to (place - 1) book).entries + count_by (is_look_of group) (since (place - 1) book) =
    ap (λ (b : Book). count_by (is_look_of group) b.entries) (sym (up_to-since (place - 1) book)) ∙ sum_by-append (λ (e : Entry). cond (is_look_of group e) 1 0) (up_to (place - 1) book).entries (since (place - 1) book) in
    omega (arith, le, few_looks steps group book (sym none), parts, count_from group book place 15 is))

pub falls_back : (group : List ℕ) (book : Book) (found : Option ℕ) → retired group book ≡ false → found ≡ looks_back 15 group book → falls_out group book ≡ found
falls_back group book None stands is = falls_nowhere 15 group book (omega arith) is
falls_back group book (Some place) stands is = falls_out-some group book place (is_back 15 group book place (sym is)) stands
