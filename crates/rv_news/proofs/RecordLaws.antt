-- What records tell of the patch since their looks.
use Rattle.std.proofs.Common.{◌≡◌, ℕ, not, List, ◌++◌, map, Some, refl, sym, ap, ◌∙◌}
use Rattle.std.specs.List.{filter, filter_map}
use Rattle.rv_rows.specs.declared.key.Key.{Key}
use Rattle.rv_rows.specs.Held.{Stored}
use Rattle.rv_sharing.specs.Visible.{visible}
use Rattle.rv_turns.specs.declared.op.Op.TheVariants.{Del}
use Rattle.rv_views.specs.Viewed.{Viewed}
use Rattle.rv_views.specs.Difference.{is_absent, is_untouched, is_among as is_among_views, lost_keys, touched_keys, changed_ids}
use Rattle.rv_book.specs.Book.{Book, ids}
use Rattle.rv_history.specs.Replay.{IsReplay}
use Rattle.rv_history.specs.History.{patch_since, ids_since, is_among}
use Rattle.rv_news.specs.Records.{IsRecord}
use Rattle.rv_news.specs.Shows.{put_of}
use Rattle.rv_news.proofs.Difference.{gone_keys, news_keys, patch_by_keys}

-- a record and the stored rows tell the patch since its look
pub record_shows : (book : Book) (place : ℕ) (viewed : Viewed) (user : List ℕ) (stored : List Stored) (r : IsRecord book place viewed) → r.user ≡ user → IsReplay book stored
    → patch_since user book (Some place) ≡ map (λ key. Del key) (gone_keys viewed.rows (visible user stored)) ++ filter_map (put_of stored) (news_keys viewed.rows (visible user stored))
record_shows book place viewed user stored r mine replay =
    let earlier : List Stored = r.shown.stored in
    let rows : viewed.rows ≡ visible user earlier = r.shown.rows ∙ ap (λ (u : List ℕ). visible u earlier) mine in
    patch_by_keys user book place stored earlier replay r.shown.replay
    ∙ ap (λ (base : List (Key × ℕ)). map (λ key. Del key) (gone_keys base (visible user stored)) ++ filter_map (put_of stored) (news_keys base (visible user stored))) (sym rows)

-- the keys that have gone, those that are news and the ids that have changed are those of the difference of two views
gone_is : (base now : List (Key × ℕ)) → lost_keys base now ≡ gone_keys base now
unfolding is_absent
gone_is base now = refl

news_is : (base now : List (Key × ℕ)) → touched_keys base now ≡ news_keys base now
unfolding is_untouched
news_is base now = refl

among_is : (base now : List (List ℕ × ℕ)) → changed_ids base now ≡ filter (λ pair. not (is_among base pair)) now
unfolding is_among_views is_among
among_is base now = refl

-- so the difference since a record tells the patch
pub record_difference : (book : Book) (place : ℕ) (viewed : Viewed) (user : List ℕ) (stored : List Stored) (r : IsRecord book place viewed) → r.user ≡ user → IsReplay book stored
    → patch_since user book (Some place) ≡ map (λ key. Del key) (lost_keys viewed.rows (visible user stored)) ++ filter_map (put_of stored) (touched_keys viewed.rows (visible user stored))
record_difference book place viewed user stored r mine replay =
    let now : List (Key × ℕ) = visible user stored in
    record_shows book place viewed user stored r mine replay
    ∙ (λ i. map (λ key. Del key) (sym (gone_is viewed.rows now) i) ++ filter_map (put_of stored) (sym (news_is viewed.rows now) i))

-- and the last mutation ids
pub record_ids : (book : Book) (group : List ℕ) (place : ℕ) (viewed : Viewed) (r : IsRecord book place viewed) → ids_since group book (Some (place, r.group)) ≡ changed_ids viewed.clients (ids group book)
record_ids book group place viewed r =
    ap (λ (base : List (List ℕ × ℕ)). filter (λ pair. not (is_among base pair)) (ids group book)) (sym r.shown.clients) ∙ sym (among_is viewed.clients (ids group book))
