-- What a pull is told, and where that comes from.
use Rattle.std.specs.Prelude.{◌≡◌, ◌&&◌, ℕ, nat_le, List, Bool, true, false, Option, Some, None}
use Rattle.std.specs.Option.{option_map_or}
use Rattle.rv_base.specs.Sorted.{InOrder}
use Rattle.rv_turns.specs.declared.pull.PullRequest.{PullRequest}
use Rattle.rv_views.specs.Viewed.{Viewed}
use Rattle.rv_book.specs.Book.{Book}
use Rattle.rv_book.specs.Kept.{is_look_at, kept}
use Rattle.rv_news.specs.declared.news.News.{News}
use Rattle.rv_history.specs.Bases.{base_of}
use Rattle.rv_news.specs.Records.{IsViewAt, IsRecord}
use Rattle.rv_history.specs.Machine.{IsUnchanged, patch_for, ids_for}

-- what is found for a base: the record of its look, where the look is kept
abbrev pub IsBaseRecord : Book → Option ℕ → Option Viewed → Type 0
IsBaseRecord book None found = found ≡ None
IsBaseRecord book (Some place) found = kept place book ≡ true → (viewed : Viewed) × (found ≡ Some viewed) × IsRecord book place viewed

-- this is what a pull is told at the book, with its base and what its user and its group see
pub record IsNews (book : Book) (user : List ℕ) (request : PullRequest) (news : News) : Type 0 where
  pub base : news.base ≡ base_of user request.cookie book
  pub view : IsViewAt book user request.group news.view
  pub ops : news.ops ≡ patch_for user request book
  pub ids : news.ids ≡ ids_for user request book
  pub order : InOrder (λ pair. pair.0) news.ids

-- the pull's base is at this place or after it, and is a look of the pull's own group
abbrev pub is_base_since : ℕ → List ℕ → PullRequest → Book → Bool
is_base_since mark user request book = option_map_or (λ place. nat_le mark place && is_look_at request.group book place) (base_of user request.cookie book) false

-- What a pull is told: nothing where there is nothing to tell, and else what is news.
abbrev pub IsTold : Book → List ℕ → PullRequest → Option News → Type 0
IsTold book user request None = IsUnchanged user request book
IsTold book user request (Some news) = IsNews book user request news × ¬ IsUnchanged user request book
