-- What the reply to a pull tells.
use Rattle.std.proofs.Common.{◌≡◌, ℕ, zero, suc, ◌+◌, ◌<◌, ◌≤◌, ◌==◌, ◌&&◌, ◌⊎◌, inl, inr, Bool, true, false, cond, not, List, [], ◌∷◌, ◌++◌, map, Option, Some, None, refl, sym, ap, ◌∙◌, subst, arith}
use Rattle.std.specs.Prelude.{decimal, option_and_then}
use Rattle.std.specs.List.{AllByRecursion, Contains, filter, list_any}
use Rattle.std.specs.Option.{option_map_or}
use Rattle.std.specs.Str.{bytes_eq}
use Rattle.std.proofs.lemmas.Bool.Decides.{Decides-eqb}
use Rattle.std.proofs.lemmas.List.Elements.{All-contains, All-contains_itself, All-filter, Contains-append_right, filter_passes}
use Rattle.std.proofs.lemmas.List.Folds.{list_any-append, list_any_at}
use Rattle.std.proofs.lemmas.Map.Views.{Contains-from_any}
use Rattle.std.proofs.lemmas.Slice.Eq.{bytes_eq-Decides}
use Rattle.rv_rows.specs.declared.row.Row.{Row}
use Rattle.rv_rows.specs.Keys.{row_key}
use Rattle.rv_rows.specs.Sharing.{seen}
use Rattle.rv_views.specs.declared.cookie.Cookie.{Cookie}
use Rattle.rv_views.specs.declared.cookie.Cookie.TheVariants.{Named}
use Rattle.rv_turns.specs.Asks.{Ask}
use Rattle.rv_turns.specs.declared.op.Op.{Op}
use Rattle.rv_turns.specs.declared.op.Op.TheVariants.{Del, Put}
use Rattle.rv_turns.specs.declared.pushing.Outcome.TheVariants.{Pulled}
use Rattle.rv_turns.specs.declared.pull.PullReply.{PullReply}
use Rattle.rv_turns.specs.declared.pull.PullRequest.{PullRequest}
use Rattle.rv_book.specs.Book.{Book, last_order, ids, since, size, up_to}
use Rattle.rv_history.specs.Replay.{rows_of}
use Rattle.rv_history.specs.Bases.{base_of, base_group}
use Rattle.rv_history.specs.Patches.{ClientView, client_view, apply}
use Rattle.rv_history.specs.History.{is_absent, is_news, patch_since, is_among, ids_since}
use Rattle.rv_history.specs.Machine.{ReplyText, Step, Replies, IsUnchanged, cookie_order, next_order, patch_for, ids_for, same_reply, new_reply}
use Rattle.rv_history.specs.Properties.{IsBaseView, IsPermitted, is_clear, ClearsWithoutBase, known_ids, ReplyTells, ReplyShows}
use Rattle.rv_history.specs.BasedLaws.{first_and, last_and}
use Rattle.rv_history.specs.BasedLaws.{next_above}
use Rattle.rv_history.specs.PatchLaws.{patch_applies, patch_anew}

-- a patch shows what the user sees
pub patches_show : (book : Book) (user : List ℕ) → ((place : ℕ) → apply (patch_since user book (Some place)) (client_view user (up_to place book)) ≡ client_view user book)
    × ((view : ClientView) → apply (patch_since user book None) view ≡ client_view user book)
patches_show book user = (patch_applies user book, patch_anew user book)

patch_shows : (user : List ℕ) (book : Book) (base : Option ℕ) (view : ClientView) → IsBaseView user book base view → apply (patch_since user book base) view ≡ client_view user book
patch_shows user book None view any = patch_anew user book view
patch_shows user book (Some place) view is = ap (apply (patch_since user book (Some place))) is ∙ patch_applies user book place

-- puts and dels have no clear
puts_clear_nothing : (rows : List Row) → list_any is_clear (map (λ row. Put row) rows) ≡ false
puts_clear_nothing [] = refl
puts_clear_nothing (row ∷ rows) = puts_clear_nothing rows

dels_clear_nothing : (rows : List Row) → list_any is_clear (map (λ row. Del (row_key row)) rows) ≡ false
dels_clear_nothing [] = refl
dels_clear_nothing (row ∷ rows) = dels_clear_nothing rows

patch_clears : (user : List ℕ) (book : Book) (base : Option ℕ) → ClearsWithoutBase base (patch_since user book base)
patch_clears user book None = (map (λ row. Put row) (seen user (rows_of book)), refl, puts_clear_nothing (seen user (rows_of book)))
patch_clears user book (Some place) =
    let rows : List Row = rows_of (up_to place book) in
    let base : List Row = seen user rows in
    let now : List Row = seen user (rows_of book) in
    let gone : List Row = filter (is_absent now) base in
    let news : List Row = filter (is_news base rows (since place book)) now in
    list_any-append is_clear (map (λ row. Del (row_key row)) gone) (map (λ row. Put row) news)
    ∙ rw (dels_clear_nothing gone) (puts_clear_nothing news)

-- what holds of each element
each_within : {X : Type 0} (P : X → Type 0) (xs : List X) → ((x : X) → Contains xs x → P x) → AllByRecursion P xs
each_within P [] holds = tt
each_within P (x ∷ xs) holds = (holds x (0, omega arith, refl), each_within P xs (λ y there. holds y (Contains-append_right (x ∷ []) xs y there)))

all_both : {X : Type 0} (P : X → Type 0) (xs ys : List X) → AllByRecursion P xs → AllByRecursion P ys → AllByRecursion P (xs ++ ys)
all_both P [] ys none all = all
all_both P (x ∷ xs) ys (one, rest) all = (one, all_both P xs ys rest all)

-- an element that passes is in the filter
filter_contains : {X : Type 0} (p : X → Bool) (xs : List X) (x : X) → p x ≡ true → Contains xs x → Contains (filter p xs) x
filter_contains p [] x passes (k, lt, is) = absurd (omega arith)
filter_contains p (y ∷ ys) x passes (zero, lt, is) = rw (ap p is ∙ passes) (0, omega arith, is)
filter_contains p (y ∷ ys) x passes (suc k, lt, is) =
    let later : Contains (filter p ys) x = filter_contains p ys x passes (k, omega arith, is) in
    elim (p y) as (λ b. Contains (cond b (y ∷ filter p ys) (filter p ys)) x) [
      | true ↦ Contains-append_right (y ∷ []) (filter p ys) x later
      | false ↦ later
    ]

-- and what is in the filter is an element
filter_from : {X : Type 0} (p : X → Bool) (xs : List X) (x : X) → Contains (filter p xs) x → Contains xs x
filter_from p xs x there = All-contains (Contains xs) (filter p xs) x (All-filter p (Contains xs) xs (All-contains_itself xs)) there

-- a patch names only what its user sees or saw
puts_permitted : (user : List ℕ) (book : Book) (base : Option ℕ) (rows : List Row) → AllByRecursion (Contains (seen user (rows_of book))) rows → AllByRecursion (IsPermitted user book base) (map (λ row. Put row) rows)
puts_permitted user book base [] all = tt
puts_permitted user book base (row ∷ rows) (one, all) = (one, puts_permitted user book base rows all)

dels_permitted : (user : List ℕ) (book : Book) (place : ℕ) (rows : List Row) → AllByRecursion (Contains (seen user (rows_of (up_to place book)))) rows → AllByRecursion (IsPermitted user book (Some place)) (map (λ row. Del (row_key row)) rows)
dels_permitted user book place [] all = tt
dels_permitted user book place (row ∷ rows) (one, all) = ((row, one, refl), dels_permitted user book place rows all)

pub patch_permitted : (book : Book) (user : List ℕ) (base : Option ℕ) → AllByRecursion (IsPermitted user book base) (patch_since user book base)
patch_permitted book user None =
    let now : List Row = seen user (rows_of book) in
    (tt, puts_permitted user book None now (each_within (Contains now) now (λ row there. there)))
patch_permitted book user (Some place) =
    let rows : List Row = rows_of (up_to place book) in
    let base : List Row = seen user rows in
    let now : List Row = seen user (rows_of book) in
    let gone : List Row = filter (is_absent now) base in
    let news : List Row = filter (is_news base rows (since place book)) now in
    all_both (IsPermitted user book (Some place)) (map (λ row. Del (row_key row)) gone) (map (λ row. Put row) news)
    (dels_permitted user book place gone (each_within (Contains base) gone (λ row there. filter_from (is_absent now) base row there)))
    (puts_permitted user book (Some place) news (each_within (Contains now) news (λ row there. filter_from (is_news base rows (since place book)) now row there)))

same_pair : (a b : List ℕ × ℕ) → (bytes_eq b.0 a.0 && (b.1 == a.1)) ≡ true → a ≡ b
same_pair a b is =
    let client : b.0 ≡ a.0 = (bytes_eq-Decides b.0 a.0).0 (first_and (bytes_eq b.0 a.0) (b.1 == a.1) is) in
    let id : b.1 ≡ a.1 = (Decides-eqb b.1 a.1).0 (last_and (bytes_eq b.0 a.0) (b.1 == a.1) is) in
    sym (λ i. (client i, id i))

among_contains : (pairs : List (List ℕ × ℕ)) (pair : List ℕ × ℕ) → is_among pairs pair ≡ true → Contains pairs pair
unfolding is_among
among_contains pairs pair is = Contains-from_any {eq = λ a b. bytes_eq b.0 a.0 && (b.1 == a.1)} same_pair pair pairs is

-- each pair of the book is one of the base's or is told
ids_complete : (group : List ℕ) (book : Book) (base : Option (ℕ × List ℕ)) (pair : List ℕ × ℕ) → Contains (ids group book) pair
    → Contains (option_map_or (λ base. ids base.1 (up_to base.0 book)) base []) pair ⊎ Contains (ids_since group book base) pair
ids_complete group book None pair there = inr there
ids_complete group book (Some base) pair there =
    let known : List (List ℕ × ℕ) = ids base.1 (up_to base.0 book) in
    elim (is_among known pair) as (λ b. is_among known pair ≡ b → Contains known pair ⊎ Contains (ids_since group book (Some base)) pair) [
      | true ↦ λ e. inl (among_contains known pair e)
      | false ↦ λ e. inr (filter_contains (λ other. not (is_among known other)) (ids group book) pair (ap not e) there)
    ] refl

-- and each pair that is told is of the book
ids_sound : (group : List ℕ) (book : Book) (base : Option (ℕ × List ℕ)) (pair : List ℕ × ℕ) → Contains (ids_since group book base) pair → Contains (ids group book) pair
ids_sound group book None pair there = there
ids_sound group book (Some base) pair there = filter_from (λ other. not (is_among (ids base.1 (up_to base.0 book)) other)) (ids group book) pair there

contains_among : (pairs : List (List ℕ × ℕ)) (pair : List ℕ × ℕ) → Contains pairs pair → is_among pairs pair ≡ true
unfolding is_among
contains_among pairs pair (k, lt, is) =
    let alike : List ℕ × ℕ → Bool = λ other. bytes_eq other.0 pair.0 && (other.1 == pair.1) in
    let itself : alike pair ≡ true = rw ((bytes_eq-Decides pair.0 pair.0).1 refl, (Decides-eqb pair.1 pair.1).1 refl) refl in
    list_any_at alike pairs k pair lt (ap alike is ∙ itself)

-- and no pair that is told is one of the base's
ids_news : (group : List ℕ) (book : Book) (base : Option (ℕ × List ℕ)) (pair : List ℕ × ℕ) → Contains (ids_since group book base) pair → ¬ Contains (option_map_or (λ base. ids base.1 (up_to base.0 book)) base []) pair
ids_news group book None pair there (k, lt, is) = omega arith
ids_news group book (Some base) pair there known =
    let others : List ℕ × ℕ → Bool = λ other. not (is_among (ids base.1 (up_to base.0 book)) other) in
    let passes : others pair ≡ true = All-contains (λ other. others other ≡ true) (filter others (ids group book)) pair (filter_passes others (ids group book)) there in
    let among : others pair ≡ false = ap not (contains_among (ids base.1 (up_to base.0 book)) pair known) in
    let both : true ≡ false = sym passes ∙ among in
    cc

-- a reply with the machine's patch and ids, of these cookies
abbrev pub Cookies : PullRequest → Book → PullReply → Type 0
Cookies request book reply =
    (cookie_order request.cookie ≤ cookie_order reply.cookie)
    × (reply.same ≡ true → (reply.ops ≡ []) × (reply.ids ≡ []) × (reply.cookie ≡ request.cookie))
    × (reply.same ≡ false → (last_order request.group book < cookie_order reply.cookie) × (cookie_order request.cookie < cookie_order reply.cookie))

module _ (write : ReplyText) where
  tells : (user : List ℕ) (request : PullRequest) (book : Book) (reply : PullReply) → reply.ops ≡ patch_for user request book → reply.ids ≡ ids_for user request book → reply.text ≡ write reply.cookie reply.ids reply.ops → Cookies request book reply → ReplyTells write user request book reply
  tells user request book reply ops told text cookies =
      let base : Option ℕ = base_of user request.cookie book in
      let group : Option (ℕ × List ℕ) = option_and_then (base_group book) base in
      record {
        shows = λ view is. ap (λ (t : List Op). apply t view) ops ∙ patch_shows user book base view is;
        clears = subst (λ (t : List Op). ClearsWithoutBase base t) (sym ops) (patch_clears user book base);
        permitted = subst (λ (t : List Op). AllByRecursion (IsPermitted user book base) t) (sym ops) (patch_permitted book user base);
        complete = λ pair there. subst (λ (t : List (List ℕ × ℕ)). Contains (known_ids user request book) pair ⊎ Contains t pair) (sym told) (ids_complete request.group book group pair there);
        sound = λ pair there. ids_sound request.group book group pair (subst (λ (t : List (List ℕ × ℕ)). Contains t pair) told there);
        news = λ pair there. ids_news request.group book group pair (subst (λ (t : List (List ℕ × ℕ)). Contains t pair) told there);
        no_lower = cookies.0;
        same = cookies.1;
        above = cookies.2;
        text = text;
      }

  -- a reply with the text of its parts
  own_text : (reply is : PullReply) → reply ≡ is → is.text ≡ write is.cookie is.ids is.ops → reply.text ≡ write reply.cookie reply.ids reply.ops
  own_text reply is same text = subst (λ (r : PullReply). r.text ≡ write r.cookie r.ids r.ops) (sym same) text

  -- the reply where there is nothing to tell
  pub same_tells : (user : List ℕ) (request : PullRequest) (book : Book) (reply : PullReply) → IsUnchanged user request book → reply ≡ same_reply write request → ReplyTells write user request book reply
  same_tells user request book reply none is =
      let cookie : reply.cookie ≡ request.cookie = ap (λ (r : PullReply). r.cookie) is in
      let own : reply.same ≡ true = ap (λ (r : PullReply). r.same) is in
      let order : cookie_order reply.cookie ≡ cookie_order request.cookie = ap cookie_order cookie in
      let ops : reply.ops ≡ [] = ap (λ (r : PullReply). r.ops) is in
      let told : reply.ids ≡ [] = ap (λ (r : PullReply). r.ids) is in
      tells user request book reply (ops ∙ sym none.0) (told ∙ sym none.1) (own_text reply (same_reply write request) is refl)
      (omega arith, (λ yes. (ops, told, cookie)), (λ no. absurd (let both : true ≡ false = sym own ∙ no in cc)))

  -- a reply with a cookie of the next order
  pub new_tells : (user : List ℕ) (request : PullRequest) (book : Book) (cookie : Cookie) (reply : PullReply) → cookie_order cookie ≡ next_order request book → reply ≡ new_reply write cookie (ids_for user request book) (patch_for user request book) → ReplyTells write user request book reply
  new_tells user request book cookie reply order is =
      let other : reply.same ≡ false = ap (λ (r : PullReply). r.same) is in
      let rises = next_above (cookie_order request.cookie) (last_order request.group book) (cookie_order reply.cookie) (ap (λ (r : PullReply). cookie_order r.cookie) is ∙ order) in
      tells user request book reply (ap (λ (r : PullReply). r.ops) is) (ap (λ (r : PullReply). r.ids) is) (own_text reply (new_reply write cookie (ids_for user request book) (patch_for user request book)) is refl)
      (omega arith, (λ yes. absurd (let both : true ≡ false = sym yes ∙ other in cc)), (λ no. (rises.1, rises.0)))

  replies_show : (limit : ℕ) (user : List ℕ) (request : PullRequest) (book new : Book) (same : Bool) (reply : PullReply) → Replies write limit book user request same reply new → ReplyShows write user request book new reply
  replies_show limit user request book new true reply (none, is, stays) =
      let own : reply.same ≡ true = ap (λ (r : PullReply). r.same) is in
      record { told = same_tells user request book reply none is; stays = λ yes. stays; looks = λ no. absurd (let both : true ≡ false = sym own ∙ no in cc) }
  replies_show limit user request book new false reply (some, fits, below, is, more) =
      let other : reply.same ≡ false = ap (λ (r : PullReply). r.same) is in
      record {
        told = new_tells user request book (Named (decimal (size book + 1)) (next_order request book)) reply refl is;
        stays = λ yes. absurd (let both : true ≡ false = sym yes ∙ other in cc);
        looks = λ no. (next_order request book, ap (λ (r : PullReply). r.cookie) is, more);
      }

  pub pulls_show : (limit : ℕ) (user : List ℕ) (request : PullRequest) (book new : Book) (reply : PullReply) → Step write limit book (Ask.pull user request) (Pulled reply) new → ReplyShows write user request book new reply
  pulls_show limit user request book new reply (admits, replies) = replies_show limit user request book new reply.same reply replies
