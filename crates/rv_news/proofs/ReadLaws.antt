-- How many entries a pull's walks have, by the record of its base and by what is seen now.
use Rattle.std.proofs.Common.{◌≡◌, ℕ, ◌+◌, ◌≤◌, List, length, Option, Some, None, refl, sym, ap, ◌∙◌, arith}
use Rattle.std.specs.Borrow.{Bor}
use Rattle.std.specs.Option.{option_map, option_map_or, option_and_then}
use Rattle.rv_rows.specs.Held.{Stored}
use Rattle.rv_turns.specs.declared.pull.PullRequest.{PullRequest}
use Rattle.rv_sharing.specs.Visible.{visible}
use Rattle.rv_views.specs.Viewed.{Viewed, view_size}
use Rattle.rv_book.specs.Book.{Book, ids, up_to}
use Rattle.rv_history.specs.Bases.{base_of, base_group}
use Rattle.rv_history.specs.BasedLaws.{base_look}
use Rattle.rv_history.specs.Reading.{base_steps, pull_steps, view_steps}
use Rattle.rv_history.specs.Replay.{IsReplay}
use Rattle.rv_news.specs.News.{IsBaseRecord}
use Rattle.rv_news.specs.Records.{IsRecord}
use Rattle.rv_news.proofs.Difference.{visible_size}
use Rattle.rv_news.proofs.NewsLaws.{group_at, record_user}

-- a record has the entries of the view at its look
record_steps : (user : List ℕ) (book : Book) (place : ℕ) (viewed : Viewed) (r : IsRecord book place viewed) → r.user ≡ user → view_size viewed ≡ view_steps user r.group (up_to place book)
record_steps user book place viewed r mine =
    (λ i. length (r.shown.rows i) + length (r.shown.clients i))
    ∙ ap (λ (n : ℕ). n + length (ids r.group (up_to place book))) (visible_size r.user (up_to place book) r.shown.stored r.shown.replay)
    ∙ ap (λ (u : List ℕ). view_steps u r.group (up_to place book)) mine

-- and so has the record of a base
found_steps : (user : List ℕ) (request : PullRequest) (book : Book) (base : Option ℕ) (found : Option Viewed) → base_of user request.cookie book ≡ base → IsBaseRecord book base found
    → option_map_or view_size found 0 ≡ base_steps user book (option_and_then (base_group book) base)
found_steps user request book None found named none = ap (λ (o : Option Viewed). option_map_or view_size o 0) none
found_steps user request book (Some place) found named record_is =
    let look = base_look user request.cookie book place named in
    let (viewed, is, r) = record_is look.2 in
    ap (λ (o : Option Viewed). option_map_or view_size o 0) is
    ∙ record_steps user book place viewed r (record_user book place viewed user look.0 _ r look.1)
    ∙ ap (base_steps user book) (sym (group_at book place viewed r))

lent_size : (found : Option (Bor Viewed)) → option_map_or (λ r. view_size r.now) found 0 ≡ option_map_or view_size (option_map (λ (r : Bor Viewed). r.now) found) 0
lent_size None = refl
lent_size (Some r) = refl

-- what is seen now has at most the entries of the pull
pub within_view : (user : List ℕ) (request : PullRequest) (book : Book) (stored : List Stored) (old new : ℕ) → IsReplay book stored
    → new ≤ old + (length (visible user stored) + length (ids request.group book)) → new ≤ old + pull_steps user request book
within_view user request book stored old new replay within = omega (arith, within, visible_size user book stored replay)

-- and so has it with the record of the base
pub within_both : (user : List ℕ) (request : PullRequest) (book : Book) (stored : List Stored) (base : Option ℕ) (found : Option (Bor Viewed)) (old mid new : ℕ) → IsReplay book stored
    → base ≡ base_of user request.cookie book → IsBaseRecord book base (option_map (λ r. r.now) found)
    → mid ≤ old + (length (visible user stored) + length (ids request.group book)) → new ≤ mid + option_map_or (λ r. view_size r.now) found 0
    → new ≤ old + pull_steps user request book
within_both user request book stored base found old mid new replay named record_is seen_within found_within =
    omega (
      arith,
      seen_within,
      found_within,
      visible_size user book stored replay,
      lent_size found ∙ found_steps user request book base (option_map (λ (r : Bor Viewed). r.now) found) (sym named) record_is ∙ ap (λ (o : Option ℕ). base_steps user book (option_and_then (base_group book) o)) named,
    )
