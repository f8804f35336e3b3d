-- What becomes of kept looks and of their records when the book goes on.
use Rattle.std.proofs.Common.{◌≡◌, ℕ, ◌+◌, ◌≤◌, Bool, true, false, cond, not, ◌&&◌, ◌||◌, nat_lt, List, Option, Some, None, refl, sym, ap, ◌∙◌, subst, arith}
use Rattle.std.proofs.lemmas.Bool.Decides.{nat_tests}
use Rattle.rv_rows.specs.declared.call.Call.{Call}
use Rattle.rv_views.specs.Viewed.{Viewed}
use Rattle.rv_book.specs.declared.entry.Entry.{Entry}
use Rattle.rv_book.specs.declared.entry.Entry.TheVariants.{Act, Look}
use Rattle.rv_book.specs.Entries.{retires}
use Rattle.rv_book.specs.Book.{Book, retired, size, with_entry}
use Rattle.rv_book.specs.Kept.{look_at, is_look_of, later_looks, kept}
use Rattle.rv_book.specs.BookWordLaws.{up_to-end, up_to-with_entry}
use Rattle.rv_book.specs.LookLaws.{look_at-within, look_at-with_entry, look_at-end, kept-look, kept-none, kept-with_entry}
use Rattle.rv_news.specs.Records.{IsViewAt, IsRecord}
use Rattle.rv_history.specs.LookIdLaws.{ids_look}
use Rattle.rv_history.specs.ReplayLaws.{replay_look}

-- a record stays that of its look while the look is kept
pub record_more : (book : Book) (e : Entry) (place : ℕ) (viewed : Viewed) → kept place (with_entry book e) ≡ true → IsRecord book place viewed → IsRecord (with_entry book e) place viewed
record_more book e place viewed stays r =
    let le : place ≤ size book = (look_at-within place book (r.user, r.group, r.order) r.looked).1 in
    record {
      user = r.user;
      group = r.group;
      order = r.order;
      looked = look_at-with_entry place book e le ∙ r.looked;
      kept = stays;
      shown = subst (λ (b : Book). IsViewAt b r.user r.group viewed) (sym (up_to-with_entry place book e le)) r.shown;
    }

or_false : (b : Bool) → (b || false) ≡ b
or_false true = refl
or_false false = refl

-- an entry that neither retires a look's group nor is a look of it leaves whether the look is kept
pub kept_same : (place : ℕ) (book : Book) (e : Entry) → place ≤ size book
    → ((look : List ℕ × List ℕ × ℕ) → look_at place book ≡ Some look → (retires look.1 e ≡ false) × (is_look_of look.1 e ≡ false))
    → kept place (with_entry book e) ≡ kept place book
kept_same place book e le apart =
    elim (look_at place book) as (λ o. look_at place book ≡ o → kept place (with_entry book e) ≡ kept place book) [
      | None ↦ λ none. kept-none place (with_entry book e) (look_at-with_entry place book e le ∙ none) ∙ sym (kept-none place book none)
      | Some look ↦ λ there.
          let other = apart look there in
          let count : ℕ = later_looks look.1 place book in
          let gone : (retired look.1 book || retires look.1 e) ≡ retired look.1 book = ap (λ (b : Bool). retired look.1 book || b) other.0 ∙ or_false (retired look.1 book) in
          let later : count + cond (is_look_of look.1 e) 1 0 ≡ count = ap (λ (b : Bool). count + cond b 1 0) other.1 ∙ omega arith in
          kept-with_entry place book e look there ∙ (λ i. not (gone i) && nat_lt (later i) 16) ∙ sym (kept-look place book look there)
    ] refl

-- an act leaves each look
pub kept_act : (place : ℕ) (book : Book) (user group client : List ℕ) (id : ℕ) (call : Call) → place ≤ size book → kept place (with_entry book (Act user group client id call)) ≡ kept place book
kept_act place book user group client id call le = kept_same place book (Act user group client id call) le (λ look there. (refl, refl))

fewer_before : (n more most : ℕ) → nat_lt (n + more) most ≡ true → nat_lt n most ≡ true
fewer_before n more most h = grind (arith, nat_tests)

both_before : (gone more : Bool) (n one most : ℕ) → (not (gone || more) && nat_lt (n + one) most) ≡ true → (not gone && nat_lt n most) ≡ true
both_before true more n one most h = absurd (cc)
both_before false true n one most h = absurd (cc)
both_before false false n one most h = fewer_before n one most h

-- a look that is kept was kept before
pub kept_after : (place : ℕ) (book : Book) (e : Entry) → place ≤ size book → kept place (with_entry book e) ≡ true → kept place book ≡ true
kept_after place book e le h =
    elim (look_at place book) as (λ o. look_at place book ≡ o → kept place book ≡ true) [
      | None ↦ λ none. absurd (let both : true ≡ false = sym h ∙ kept-none place (with_entry book e) (look_at-with_entry place book e le ∙ none) in cc)
      | Some look ↦ λ there.
          kept-look place book look there
          ∙ both_before (retired look.1 book) (retires look.1 e) (later_looks look.1 place book) (cond (is_look_of look.1 e) 1 0) 16 (sym (kept-with_entry place book e look there) ∙ h)
    ] refl

-- a look changes nothing of what is seen
pub view_look : (book : Book) (user group : List ℕ) (viewed : Viewed) (other_user other : List ℕ) (order : ℕ) (base : Option ℕ) → IsViewAt book user group viewed → IsViewAt (with_entry book (Look other_user other order base)) user group viewed
view_look book user group viewed other_user other order base v = record {
  stored = v.stored;
  replay = replay_look book v.stored other_user other order base v.replay;
  rows = v.rows;
  clients = v.clients ∙ sym (ids_look group book other_user other order base);
}

-- the record of a new look
pub record_new : (book : Book) (user group : List ℕ) (order : ℕ) (base : Option ℕ) (viewed : Viewed) → IsViewAt book user group viewed
    → kept (size book + 1) (with_entry book (Look user group order base)) ≡ true
    → IsRecord (with_entry book (Look user group order base)) (size book + 1) viewed
record_new book user group order base viewed v stays =
    let e : Entry = Look user group order base in
    record {
      user = user;
      group = group;
      order = order;
      looked = look_at-end book e;
      kept = stays;
      shown = subst (λ (b : Book). IsViewAt b user group viewed) (sym (up_to-end book e)) (view_look book user group viewed user group order base v);
    }
