-- What is news to a pull is told by the record of its base and by what is seen now.
use Rattle.std.proofs.Common.{◌≡◌, ℕ, List, [], ◌∷◌, ◌++◌, map, Option, Some, None, Result, Ok, Err, sym, ap, ◌∙◌}
use Rattle.std.specs.List.{filter_map}
use Rattle.std.specs.Option.{option_map, option_and_then}
use Rattle.std.specs.Result.{IfOk}
use Rattle.std.proofs.lemmas.Option.{same_Some}
use Rattle.rv_base.specs.declared.memory.Memory.{Memory}
use Rattle.rv_base.specs.Sorted.{InOrder}
use Rattle.rv_rows.specs.declared.key.Key.{Key}
use Rattle.rv_rows.specs.Held.{Stored}
use Rattle.rv_turns.specs.declared.op.Op.TheVariants.{Clear, Del}
use Rattle.rv_turns.specs.declared.pull.PullRequest.{PullRequest}
use Rattle.rv_sharing.specs.Visible.{visible}
use Rattle.rv_views.specs.Viewed.{Viewed}
use Rattle.rv_views.specs.Difference.{lost_keys, touched_keys, changed_ids, difference}
use Rattle.rv_book.specs.Book.{Book, ids}
use Rattle.rv_book.specs.Kept.{look_at}
use Rattle.rv_news.specs.declared.news.News.{News}
use Rattle.rv_history.specs.Replay.{IsReplay}
use Rattle.rv_history.specs.Bases.{base_of, base_group}
use Rattle.rv_history.specs.History.{patch_since, ids_since}
use Rattle.rv_news.specs.Records.{IsRecord, Placed, record_at, AreRecords}
use Rattle.rv_news.specs.News.{IsBaseRecord, IsNews}
use Rattle.rv_history.specs.Machine.{IsUnchanged}
use Rattle.rv_news.specs.Shows.{put_of, ops_of}
use Rattle.rv_history.specs.BasedLaws.{base_look}
use Rattle.rv_news.proofs.Difference.{patch_anew_by_keys}
use Rattle.rv_news.proofs.RecordLaws.{record_difference, record_ids}
use Rattle.rv_news.specs.KeptRecordLaws.{record_found}

-- a record is of its look's user
pub record_user : (book : Book) (place : ℕ) (viewed : Viewed) (user group : List ℕ) (order : ℕ) (r : IsRecord book place viewed) → look_at place book ≡ Some (user, group, order) → r.user ≡ user
record_user book place viewed user group order r there = ap (λ (look : List ℕ × List ℕ × ℕ). look.0) (same_Some (r.user, r.group, r.order) (user, group, order) (sym r.looked ∙ there))

-- the operations tell the patch
ops_anew : (user : List ℕ) (book : Book) (stored : List Stored) (now : Viewed) → IsReplay book stored → now.rows ≡ visible user stored → ops_of stored (difference None now) ≡ patch_since user book None
ops_anew user book stored now replay rows =
    ap (λ (keys : List (Key × ℕ)). Clear ∷ filter_map (put_of stored) (map (λ pair. pair.0) keys)) rows ∙ sym (patch_anew_by_keys user book stored replay)

ops_since : (user : List ℕ) (book : Book) (place : ℕ) (viewed now : Viewed) (stored : List Stored) (r : IsRecord book place viewed) → r.user ≡ user → IsReplay book stored → now.rows ≡ visible user stored
    → ops_of stored (difference (Some viewed) now) ≡ patch_since user book (Some place)
ops_since user book place viewed now stored r mine replay rows =
    ap (λ (keys : List (Key × ℕ)). map (λ key. Del key) (lost_keys viewed.rows keys) ++ filter_map (put_of stored) (touched_keys viewed.rows keys)) rows
    ∙ sym (record_difference book place viewed user stored r mine replay)

ops_shown : (user : List ℕ) (request : PullRequest) (book : Book) (stored : List Stored) (base : Option ℕ) (found : Option Viewed) (now : Viewed) → IsReplay book stored → base_of user request.cookie book ≡ base → IsBaseRecord book base found → now.rows ≡ visible user stored
    → ops_of stored (difference found now) ≡ patch_since user book base
ops_shown user request book stored None found now replay named none rows =
    ap (λ (o : Option Viewed). ops_of stored (difference o now)) none ∙ ops_anew user book stored now replay rows
ops_shown user request book stored (Some place) found now replay named record_is rows =
    let look = base_look user request.cookie book place named in
    let (viewed, is, r) = record_is look.2 in
    ap (λ (o : Option Viewed). ops_of stored (difference o now)) is
    ∙ ops_since user book place viewed now stored r (record_user book place viewed user look.0 _ r look.1) replay rows

-- the last mutation ids
pub group_at : (book : Book) (place : ℕ) (viewed : Viewed) (r : IsRecord book place viewed) → base_group book place ≡ Some (place, r.group)
group_at book place viewed r = ap (option_map (λ (look : List ℕ × List ℕ × ℕ). (place, look.1))) r.looked

ids_shown : (user : List ℕ) (request : PullRequest) (book : Book) (base : Option ℕ) (found : Option Viewed) (now : Viewed) → base_of user request.cookie book ≡ base → IsBaseRecord book base found → now.clients ≡ ids request.group book
    → (difference found now).ids ≡ ids_since request.group book (option_and_then (base_group book) base)
ids_shown user request book None found now named none clients =
    ap (λ (o : Option Viewed). (difference o now).ids) none ∙ clients
ids_shown user request book (Some place) found now named record_is clients =
    let look = base_look user request.cookie book place named in
    let (viewed, is, r) = record_is look.2 in
    ap (λ (o : Option Viewed). (difference o now).ids) is
    ∙ ap (changed_ids viewed.clients) clients
    ∙ sym (record_ids book request.group place viewed r)
    ∙ ap (ids_since request.group book) (sym (group_at book place viewed r))

-- so this is what the pull is told
is_news : (user : List ℕ) (request : PullRequest) (book : Book) (stored : List Stored) (base : Option ℕ) (found : Option Viewed) (now : Viewed) (news : News) → IsReplay book stored → base ≡ base_of user request.cookie book → IsBaseRecord book base found
    → now.rows ≡ visible user stored → now.clients ≡ ids request.group book
    → news.base ≡ base → news.view ≡ now → news.ops ≡ ops_of stored (difference found now) → news.ids ≡ (difference found now).ids → InOrder (λ pair. pair.0) news.ids
    → IsNews book user request news
is_news user request book stored base found now news replay named record_is rows clients base_is view_is ops_are ids_are order = record {
  base = base_is ∙ named;
  view = record { stored = stored; replay = replay; rows = ap (λ (v : Viewed). v.rows) view_is ∙ rows; clients = ap (λ (v : Viewed). v.clients) view_is ∙ clients };
  ops = ops_are ∙ ops_shown user request book stored base found now replay (sym named) record_is rows ∙ ap (patch_since user book) named;
  ids = ids_are ∙ ids_shown user request book base found now (sym named) record_is clients ∙ ap (λ (o : Option ℕ). ids_since request.group book (option_and_then (base_group book) o)) named;
  order = order;
}

pub news_shown : (user : List ℕ) (request : PullRequest) (book : Book) (stored : List Stored) (base : Option ℕ) (found : Option Viewed) (now : Viewed) (result : Result News Memory) → IsReplay book stored → base ≡ base_of user request.cookie book → IsBaseRecord book base found
    → now.rows ≡ visible user stored → now.clients ≡ ids request.group book
    → IfOk result (λ news. news.base ≡ base) → IfOk result (λ news. news.view ≡ now) → IfOk result (λ news. news.ops ≡ ops_of stored (difference found now)) → IfOk result (λ news. news.ids ≡ (difference found now).ids) → IfOk result (λ news. InOrder (λ pair. pair.0) news.ids)
    → IfOk result (λ news. IsNews book user request news)
news_shown user request book stored base found now (Ok news) replay named record_is rows clients base_is view_is ops_are ids_are order = is_news user request book stored base found now news replay named record_is rows clients base_is view_is ops_are ids_are order
news_shown user request book stored base found now (Err refused) replay named record_is rows clients base_is view_is ops_are ids_are order = tt

-- the record of a base is the one at its place
pub base_found : (book : Book) (records : List Placed) (base : Option ℕ) (found : Option Viewed) → AreRecords book records → found ≡ option_and_then (λ place. record_at place records) base → IsBaseRecord book base found
base_found book records None found are is = is
base_found book records (Some place) found are is = λ stays. let (viewed, at, r) = record_found book records place are stays in (viewed, is ∙ at, r)

-- where there is neither an operation nor an id there is nothing to tell, and else there is something
pub told_nothing : (user : List ℕ) (request : PullRequest) (book : Book) (news : News) → IsNews book user request news → ((news.ops ≡ []) × (news.ids ≡ [])) → IsUnchanged user request book
told_nothing user request book news is empty = (sym is.ops ∙ empty.0, sym is.ids ∙ empty.1)

pub told_something : (user : List ℕ) (request : PullRequest) (book : Book) (news : News) → IsNews book user request news → ¬ ((news.ops ≡ []) × (news.ids ≡ [])) → ¬ IsUnchanged user request book
told_something user request book news is some same = some (is.ops ∙ same.0, is.ids ∙ same.1)
