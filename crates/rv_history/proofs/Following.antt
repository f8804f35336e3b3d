-- A client that applies what it is replied holds what its user sees.
use Rattle.std.proofs.Common.{◌≡◌, ℕ, zero, suc, ◌+◌, ◌<◌, ◌≤◌, ◌^◌, ◌⊎◌, inl, inr, Bool, true, false, cond, List, [], ◌∷◌, ◌++◌, map, Option, Some, None, refl, sym, ap, ◌∙◌, subst, arith, length}
use Rattle.std.specs.Prelude.{decimal, option_and_then}
use Rattle.std.specs.List.{AllByRecursion, Contains, filter_map}
use Rattle.std.specs.Option.{option_map, option_map_or, option_or}
use Rattle.std.specs.Str.{bytes_eq}
use Rattle.std.proofs.lemmas.Fmt.{decimal_injective}
use Rattle.std.proofs.lemmas.Option.{same_Some}
use Rattle.std.proofs.lemmas.List.Elements.{Contains-append_right}
use Rattle.std.proofs.lemmas.Slice.Eq.{bytes_eq-Decides}
use Rattle.rv_base.specs.Sorted.{find_by}
use Rattle.rv_base.specs.PositionLaws.{in_order-sorted}
use Rattle.rv_views.specs.declared.cookie.Cookie.{Cookie}
use Rattle.rv_views.specs.declared.cookie.Cookie.TheVariants.{Null, Named}
use Rattle.rv_book.specs.declared.entry.Entry.{Entry}
use Rattle.rv_book.specs.declared.entry.Entry.TheVariants.{Look}
use Rattle.rv_book.specs.Book.{Book, client_in, clients_named, entry_at, ids, size, up_to, with_entries, Extends}
use Rattle.rv_book.specs.BookWordLaws.{entry_at-end, entry_at-up_to, size-with_entries, size-with_entry, up_to-all, up_to-with_entries, extends_same, extends_on}
use Rattle.rv_book.specs.Kept.{look_of, look_at}
use Rattle.rv_book.specs.LookLaws.{look_at-within}
use Rattle.rv_history.specs.Bases.{base_of, base_group}
use Rattle.rv_history.specs.BasedLaws.{base_look, base_spelled}
use Rattle.rv_history.specs.Machine.{ReplyText, cookie_order}
use Rattle.rv_history.specs.Clients.{ClientState, nothing, ClientPull, held_then, ArePulls, IsCurrent, WasSent, EachCurrent, AreSuccessive, WasSentIn, EachCurrentIn, ClientsFollow, ClientsFollowOn}
use Rattle.rv_history.specs.Properties.{IsBaseView, known_ids}
use Rattle.rv_history.specs.LookIdLaws.{ids_look}
use Rattle.rv_history.specs.Patches.{client_view, key_value, apply}
use Rattle.rv_history.specs.ReplayLaws.{each_found, rows_of-with_entry}
use Rattle.rv_rows.specs.declared.row.Row.{Row}
use Rattle.rv_rows.specs.Sharing.{seen}

abbrev key : List ℕ × ℕ → List ℕ
key pair = pair.0

abbrev Pairs : Type 0
Pairs = List (List ℕ × ℕ)

-- ---- Pairs that are found.

all_at : {X : Type 0} (P : X → Type 0) (xs : List X) (x : X) → AllByRecursion P xs → Contains xs x → P x
all_at P [] x all (k, lt, is) = absurd (omega arith)
all_at P (y ∷ ys) x all (zero, lt, is) = subst P is all.0
all_at P (y ∷ ys) x all (suc k, lt, is) = all_at P ys x all.1 (k, omega arith, is)

found_in : (k : List ℕ) (pairs : Pairs) (pair : List ℕ × ℕ) → find_by key k pairs ≡ Some pair → Contains pairs pair × (k ≡ key pair)
found_in k [] pair e = absurd (cc)
found_in k (p ∷ ps) pair e =
    elim (bytes_eq k (key p)) as (λ b. bytes_eq k (key p) ≡ b → cond b (Some p) (find_by key k ps) ≡ Some pair → Contains (p ∷ ps) pair × (k ≡ key pair)) [
      | true ↦ λ f g. (let is : p ≡ pair = same_Some p pair g in ((0, omega arith, is), (bytes_eq-Decides k (key p)).0 f ∙ ap key is))
      | false ↦ λ f g. (let rest = found_in k ps pair g in (Contains-append_right (p ∷ []) ps pair rest.0, rest.1))
    ] refl e

-- what is not found is not there
not_there : (pairs : Pairs) (pair : List ℕ × ℕ) → find_by key (key pair) pairs ≡ None → Contains pairs pair → ⊥
not_there [] pair none (k, lt, is) = omega arith
not_there (p ∷ ps) pair none there =
    elim (bytes_eq (key pair) (key p)) as (λ b. bytes_eq (key pair) (key p) ≡ b → cond b (Some p) (find_by key (key pair) ps) ≡ None → ⊥) [
      | true ↦ λ f g. (let no : Some p ≡ None = g in cc)
      | false ↦ λ f g. other f (not_there ps pair g) there
    ] refl none
  where
    other : bytes_eq (key pair) (key p) ≡ false → (Contains ps pair → ⊥) → Contains (p ∷ ps) pair → ⊥
    other f rest (zero, lt, is) =
        let same : bytes_eq (key pair) (key p) ≡ true = (bytes_eq-Decides (key pair) (key p)).1 (ap key (sym is)) in
        let both : true ≡ false = sym same ∙ f in
        cc
    other f rest (suc k, lt, is) = rest (k, omega arith, is)

find_both : (k : List ℕ) (xs ys : Pairs) → find_by key k (xs ++ ys) ≡ option_or (find_by key k xs) (find_by key k ys)
find_both k [] ys = refl
find_both k (x ∷ xs) ys =
    elim (bytes_eq k (key x)) as (λ b. cond b (Some x) (find_by key k (xs ++ ys)) ≡ option_or (cond b (Some x) (find_by key k xs)) (find_by key k ys)) [
      | true ↦ refl
      | false ↦ find_both k xs ys
    ]

-- each last mutation id is found by its client
ids_found : (group : List ℕ) (book : Book) (pair : List ℕ × ℕ) → Contains (ids group book) pair → find_by key (key pair) (ids group book) ≡ Some pair
ids_found group book pair there =
    all_at (λ p. find_by key (key p) (ids group book) ≡ Some p) (ids group book) pair (each_found key (ids group book) (in_order-sorted key (filter_map (client_in group book) (clients_named book)))) there

-- what is told and what is held, where each pair of the group is told or held and nothing else is told
sent_or_held : (group : List ℕ) (book : Book) (told held : Pairs) (pair : List ℕ × ℕ) → Contains (ids group book) pair → ((p : List ℕ × ℕ) → Contains told p → Contains (ids group book) p)
    → Contains told pair ⊎ (find_by key (key pair) held ≡ Some pair) → find_by key (key pair) (told ++ held) ≡ Some pair
sent_or_held group book told held pair there sound which =
    find_both (key pair) told held ∙ go (find_by key (key pair) told) refl which
  where
    go : (o : Option (List ℕ × ℕ)) → find_by key (key pair) told ≡ o → Contains told pair ⊎ (find_by key (key pair) held ≡ Some pair) → option_or o (find_by key (key pair) held) ≡ Some pair
    go None none (inl within) = absurd (not_there told pair none within)
    go None none (inr is) = is
    go (Some other) some which =
        let (within, same) = found_in (key pair) told other some in
        sym (subst (λ (k : List ℕ). find_by key k (ids group book) ≡ Some other) (sym same) (ids_found group book other (sound other within))) ∙ ids_found group book pair there

-- ---- Looks of a front.

some_entry : (o : Option Entry) (look : List ℕ × List ℕ × ℕ) → option_and_then look_of o ≡ Some look → (e : Entry) × (o ≡ Some e)
some_entry None look h = absurd (cc)
some_entry (Some e) look h = (e, refl)

look_front : (place : ℕ) (book : Book) (more : List Entry) (look : List ℕ × List ℕ × ℕ) → look_at place book ≡ Some look → look_at place (with_entries book more) ≡ Some look
look_front place book more look there =
    let (e, is) = some_entry (entry_at place book) look there in
    let front : up_to (size book) (with_entries book more) ≡ book = up_to-with_entries (size book) book more (omega arith) ∙ up_to-all (size book) book (omega arith) in
    let found : entry_at place (up_to (size book) (with_entries book more)) ≡ Some e = ap (λ (b : Book). entry_at place b) front ∙ is in
    ap (option_and_then look_of) (entry_at-up_to place (size book) (with_entries book more) e found) ∙ sym (ap (option_and_then look_of) is) ∙ there

-- ---- Books one after another.

-- two of them are one, or the places of the one are all below those of the other
apart : (books : List Book) → AreSuccessive books → (one other : Book) → Contains books one → Contains books other → (one ≡ other) ⊎ ((size one < other.page.at) ⊎ (size other < one.page.at))
apart [] successive one other (k, lt, is) there = absurd (omega arith)
apart (book ∷ books) successive one other (zero, lt, is) (zero, _, also) = inl (sym is ∙ also)
apart (book ∷ books) successive one other (zero, lt, is) (suc k, below, also) =
    inr (inl (subst (λ (b : Book). size b < other.page.at) is (all_at (λ later. size book < later.page.at) books other successive.0 (k, omega arith, also))))
apart (book ∷ books) successive one other (suc k, lt, is) (zero, _, also) =
    inr (inr (subst (λ (b : Book). size b < one.page.at) also (all_at (λ later. size book < later.page.at) books one successive.0 (k, omega arith, is))))
apart (book ∷ books) successive one other (suc k, lt, is) (suc j, below, also) = apart books successive.1 one other (k, omega arith, is) (j, omega arith, also)

-- a place of two of them is a place of one
one_book : (books : List Book) → AreSuccessive books → (one other : Book) → Contains books one → Contains books other → (place : ℕ) → (one.page.at < place) × (place ≤ size one) → (other.page.at < place) × (place ≤ size other) → one ≡ other
one_book books successive one other here there place within also = go (apart books successive one other here there)
  where
    go : (one ≡ other) ⊎ ((size one < other.page.at) ⊎ (size other < one.page.at)) → one ≡ other
    go (inl same) = same
    go (inr (inl below)) = absurd (omega (arith, within.1, also.0))
    go (inr (inr above)) = absurd (omega (arith, within.0, also.1))

-- ---- What a client holds.

-- it is what the user saw at the look that its cookie names
record IsAt (user : List ℕ) (book : Book) (held : ClientState) : Type 0 where
  pub place : ℕ
  pub order : ℕ
  pub group : List ℕ
  pub within : place ≤ size book
  pub cookie : held.cookie ≡ Named (decimal place) order
  pub look : look_at place book ≡ Some (user, group, order)
  pub current : IsCurrent user group (up_to place book) held

-- it is nothing, or what the user saw at a look of one of the books
abbrev Stands : List ℕ → List Book → ClientState → Type 0
Stands user books held = (held.cookie ≡ Null) ⊎ ((book : Book) × Contains books book × IsAt user book held)

abbrev AllFit : List Book → Type 0
AllFit books = AllByRecursion (λ book. size book < 2 ^ 64) books

module _ (write : ReplyText) (user : List ℕ) (books : List Book) (pull : ClientPull) (successive : AreSuccessive books) (fit : AllFit books) (book : Book) (among : Contains books book) (told : WasSent write user book pull) (asks : pull.request.cookie ≡ pull.base.cookie) (stands : Stands user books pull.base) where
  -- the point is a front of the book
  since_point : Extends book told.point
  since_point = extends_on book told.new told.point told.within (go pull.reply.same refl)
    where
      go : (same : Bool) → pull.reply.same ≡ same → Extends told.new told.point
      go true is = extends_same told.new told.point (told.tells.stays is)
      go false is = (_, (told.tells.looks is).2)

  -- the base is the place that the cookie names
  record IsThere (place : ℕ) : Type 0 where
    pub at : IsAt user book pull.base
    pub same : place ≡ at.place
    pub look : look_at place told.point ≡ Some (user, at.group, at.order)
    pub front : up_to place told.point ≡ up_to at.place book

  -- the base is a look of the point, and so of the book
  record IsHere (place : ℕ) : Type 0 where
    pub look : List ℕ × List ℕ × ℕ
    pub then : look_at place told.point ≡ Some look
    pub inside : place ≤ size told.point
    pub here : look_at place book ≡ Some look

  base_here : (place : ℕ) → base_of user pull.request.cookie told.point ≡ Some place → IsHere place
  base_here place is =
      let (more, goes) = since_point in
      let (group, look, kept) = base_look user pull.request.cookie told.point place is in
      record {
        look = (user, group, cookie_order pull.request.cookie);
        then = look;
        inside = (look_at-within place told.point (user, group, cookie_order pull.request.cookie) look).1;
        here = ap (look_at place) goes ∙ look_front place told.point more (user, group, cookie_order pull.request.cookie) look;
      }

  -- and so what is held is of the same book, since the places of the others are apart from its places
  base_there : (place : ℕ) → base_of user pull.request.cookie told.point ≡ Some place → IsThere place
  base_there place is = go stands
    where
      here : (at : IsAt user book pull.base) × (place ≡ at.place) → IsThere place
      here (at, same) =
          let (more, goes) = since_point in
          let base = base_here place is in
          record {
            at = at;
            same = same;
            look = base.then ∙ sym base.here ∙ ap (λ (p : ℕ). look_at p book) same ∙ at.look;
            front = sym (up_to-with_entries place told.point more base.inside) ∙ ap (up_to place) (sym goes) ∙ ap (λ (p : ℕ). up_to p book) same;
          }

      go : Stands user books pull.base → IsThere place
      go (inl null) = (let no : base_of user Null told.point ≡ Some place = subst (λ (c : Cookie). base_of user c told.point ≡ Some place) (asks ∙ null) is in absurd (cc))
      go (inr (other, there, at)) =
          let named : base_of user (Named (decimal at.place) at.order) told.point ≡ Some place = subst (λ (c : Cookie). base_of user c told.point ≡ Some place) (asks ∙ at.cookie) is in
          let base = base_here place is in
          let within = look_at-within place book base.look base.here in
          let also = look_at-within at.place other (user, at.group, at.order) at.look in
          let fits : size book < 2 ^ 64 = all_at (λ b. size b < 2 ^ 64) books book fit among in
          let fits_other : size other < 2 ^ 64 = all_at (λ b. size b < 2 ^ 64) books other fit there in
          let same : place ≡ at.place = decimal_injective place at.place (omega (arith, within.1)) (omega (arith, also.1)) (base_spelled user (decimal at.place) at.order told.point place named) in
          let one : other ≡ book = one_book books successive other book there among place (subst (λ (p : ℕ). (other.page.at < p) × (p ≤ size other)) (sym same) also) within in
          here (subst (λ (b : Book). (at : IsAt user b pull.base) × (place ≡ at.place)) one (at, same))

  view_there : (base : Option ℕ) → base_of user pull.request.cookie told.point ≡ base → IsBaseView user told.point base pull.base.view
  view_there None is = tt
  view_there (Some place) is = let there = base_there place is in there.at.current.view ∙ ap (client_view user) (sym there.front)

  -- a pair that the cookie knows is held
  known_held : (base : Option ℕ) → base_of user pull.request.cookie told.point ≡ base → (pair : List ℕ × ℕ)
      → Contains (option_map_or (λ b. ids b.1 (up_to b.0 told.point)) (option_and_then (base_group told.point) base) []) pair → find_by key (key pair) pull.base.ids ≡ Some pair
  known_held None is pair (k, lt, e) = absurd (omega arith)
  known_held (Some place) is pair known =
      let there = base_there place is in
      let here : Contains (ids there.at.group (up_to place told.point)) pair =
      subst (λ (o : Option (List ℕ × List ℕ × ℕ)). Contains (option_map_or (λ (b : ℕ × List ℕ). ids b.1 (up_to b.0 told.point)) (option_map (λ (look : List ℕ × List ℕ × ℕ). (place, look.1)) o) []) pair) there.look known in
      there.at.current.ids pair (subst (λ (b : Book). Contains (ids there.at.group b) pair) there.front here)

  current_then : IsCurrent user pull.request.group told.point (held_then pull)
  current_then = record {
    view = told.tells.told.shows pull.base.view (view_there (base_of user pull.request.cookie told.point) refl);
    ids = λ pair there. sent_or_held pull.request.group told.point pull.reply.ids pull.base.ids pair there told.tells.told.sound (which pair (told.tells.told.complete pair there));
  }
    where
      which : (pair : List ℕ × ℕ) → Contains (known_ids user pull.request told.point) pair ⊎ Contains pull.reply.ids pair → Contains pull.reply.ids pair ⊎ (find_by key (key pair) pull.base.ids ≡ Some pair)
      which pair (inl known) = inr (known_held (base_of user pull.request.cookie told.point) refl pair known)
      which pair (inr is) = inl is

  -- a reply of the same cookie leaves what is held as it is
  same_stands : pull.reply.same ≡ true → Stands user books (held_then pull)
  same_stands is =
      let (ops, none, cookie) = told.tells.told.same is in
      let left : held_then pull ≡ pull.base = (λ i. record { cookie = (cookie ∙ asks) i; view = apply (ops i) pull.base.view; ids = none i ++ pull.base.ids }) in
      subst (λ (h : ClientState). Stands user books h) (sym left) stands

  -- and a new one names the look at which it is what the user sees
  look_stands : pull.reply.same ≡ false → Stands user books (held_then pull)
  look_stands is =
      let (order, cookie, enters) = told.tells.looks is in
      let (more, goes) = told.within in
      let e : Entry = Look user pull.request.group order (base_of user pull.request.cookie told.point) in
      let size_new : size told.new ≡ size told.point + 1 = ap (λ (b : Book). size b) enters ∙ size-with_entry told.point e in
      let size_book : size book ≡ size told.new + length more = ap (λ (b : Book). size b) goes ∙ size-with_entries told.new more in
      let place : ℕ = size told.point + 1 in
      let front : up_to place book ≡ told.new = ap (up_to place) goes ∙ up_to-with_entries place told.new more (omega arith) ∙ up_to-all place told.new (omega arith) in
      let entered : look_at place told.new ≡ Some (user, pull.request.group, order) = ap (look_at place) enters ∙ ap (option_and_then look_of) (entry_at-end told.point e) in
      let rows : client_view user told.new ≡ client_view user told.point = ap (client_view user) enters ∙ ap (λ (rows : List Row). map key_value (seen user rows)) (rows_of-with_entry told.point e) in
      let clients : ids pull.request.group told.new ≡ ids pull.request.group told.point = ap (ids pull.request.group) enters ∙ ids_look pull.request.group told.point user pull.request.group order _ in
      let now = current_then in
      inr (
        book,
        among,
        record {
          place = place;
          order = order;
          group = pull.request.group;
          within = omega arith;
          cookie = cookie;
          look = ap (look_at place) goes ∙ look_front place told.new more (user, pull.request.group, order) entered;
          current = subst (λ (b : Book). IsCurrent user pull.request.group b (held_then pull)) (sym front) (record {
            view = now.view ∙ sym rows;
            ids = λ pair there. now.ids pair (subst (λ (ps : Pairs). Contains ps pair) clients there);
          });
        },
      )

  stands_then : Stands user books (held_then pull)
  stands_then = elim pull.reply.same as (λ b. pull.reply.same ≡ b → Stands user books (held_then pull)) [ true ↦ same_stands | false ↦ look_stands ] refl

follows : (write : ReplyText) (user : List ℕ) (books : List Book) → AreSuccessive books → AllFit books → (held : List ClientState) → AllByRecursion (Stands user books) held → (pulls : List ClientPull) → ArePulls held pulls
    → (told : AllByRecursion (WasSentIn write user books) pulls) → EachCurrentIn write user books pulls told
follows write user books successive fit held all [] pulls told = tt
follows write user books successive fit held all (pull ∷ pulls) (within, asks, rest) (told, others) =
    let stands : Stands user books pull.base = all_at (Stands user books) held pull.base all within in (
      current_then write user books pull successive fit told.book told.among told.sent asks stands,
      follows write user books successive fit (held_then pull ∷ held) (stands_then write user books pull successive fit told.book told.among told.sent asks stands, all) pulls rest others,
    )

pub clients_follow_on : (write : ReplyText) → ClientsFollowOn write
clients_follow_on write user books pulls successive fit client told = follows write user books successive fit (nothing ∷ []) (inl refl, tt) pulls client told

-- ---- And where all were answered at points of one book.

module _ (write : ReplyText) (user : List ℕ) (book : Book) where
  alone : (pulls : List ClientPull) → AllByRecursion (WasSent write user book) pulls → AllByRecursion (WasSentIn write user (book ∷ [])) pulls
  alone [] told = tt
  alone (pull ∷ pulls) (told, rest) = (record { book = book; among = (0, omega arith, refl); sent = told }, alone pulls rest)

  each_alone : (pulls : List ClientPull) (told : AllByRecursion (WasSent write user book) pulls) → EachCurrentIn write user (book ∷ []) pulls (alone pulls told) → EachCurrent write user book pulls told
  unfolding alone
  each_alone [] told current = tt
  each_alone (pull ∷ pulls) (told, rest) (current, others) = (current, each_alone pulls rest others)

pub clients_follow : (write : ReplyText) → ClientsFollow write
clients_follow write user book pulls fits client told = each_alone write user book pulls told (clients_follow_on write user (book ∷ []) pulls (tt, tt) (fits, tt) client (alone write user book pulls told))
