-- How a room is opened, how its seats are cut and joined, and how it is closed.
use Rattle.std.proofs.Common.{◌≡◌, ◌≢◌, ◌⊎◌, ℕ, zero, suc, ◌+◌, ◌%◌, ◌^◌, ◌<◌, List, [], ◌∷◌, ◌++◌, set, refl, sym, ap, ◌∙◌, subst, inl, inr, ⊎_elim, arith, Some, None, Option, Bool, true, false}
use Rattle.std.specs.Prelude.{slice_get, nat_le, if◌then◌else◌}
use Rattle.std.specs.List.{AllByRecursion}
use mathlib.Core.Option.{some, some-injective, some-ne-none}
use mathlib.Core.Option as maybe
use mathlib.Core.Logic.{dite}
use native.Mathlib.Decide.{ℕ_discrete}
use lib.ListN.{get_elem?}
use Rattle.atomic_table.specs.Table.{State, Splits, Joins, opening, Seen, Final}
use Rattle.atomic_table.proofs.Lists.{at_set, at_snoc, at_longer, set_else}
use Rattle.rv_book.specs.declared.entry.Entry.{Entry}
use Rattle.rv_book.specs.Book.{Book, size, Extends}
use Rattle.rv_book.specs.BookWordLaws.{extends_same}
use Rattle.rv_history.specs.Served.{IsNoClosing, Next}
use Rattle.rv_keeper.specs.declared.keeper.Keeper.{Ghosts}
use Rattle.rv_desk.specs.DeskStates.{DeskState}
use Rattle.rv_room.specs.declared.view.SeatView.{SeatView}
use Rattle.rv_room.specs.Following.{KeeperFollows, FollowsAll}
use Rattle.rv_room.specs.FollowingLaws.{follows_same}
use Rattle.rv_room.specs.Lists.{total, once_below, count_at}
use Rattle.rv_room.specs.Views.{newcomer, spent, IsIdle, less_one, one_more, longer, both}
use Rattle.rv_room.specs.Rule.{seat_parts, waits_of, own_at, IsLeftBySeat, SeatFits, IsOut, Keeps, AtHome, KeptIn, StandsAfter}
use Rattle.rv_room.specs.Closing.{gather, SomeLeft, Closes}
use Rattle.rv_room.proofs.Totals.{total_set, total_snoc, total_has, total_alone, here, same_at, get_front, get_back, get_split, all_map, all_append, all_split, count_at-append}
use Rattle.rv_room.proofs.Moves.{At, AllFit, each_set, apart_set, all_set, slot_set, left_set, some_same}

longer_is : (P : Book → Type 0) (xs ys : Book) → P xs → P ys → P (longer xs ys)
longer_is P xs ys a b = go (nat_le (size xs) (size ys))
  where
    go : (c : Bool) → P (if c then ys else xs)
    go true = b
    go false = a

pub all_last : {X : Type 0} (P : X → Type 0) (xs : List X) (x : X) → AllByRecursion P (xs ++ x ∷ []) → AllByRecursion P xs × P x
all_last P xs x e = let r = all_split P xs (x ∷ []) e in (r.0, r.1.0)

module _ {K : Type 0} where
  snoc_all : (P : ℕ → SeatView K → Type 0) (views : List (SeatView K)) (w : SeatView K) → ((i : ℕ) (u : SeatView K) → At views i u → P i u) → ((i : ℕ) → P i w) → (i : ℕ) (u : SeatView K) → At (views ++ w ∷ []) i u → P i u
  snoc_all P views w old new i u e = ⊎_elim (λ t. old i u t) (λ (same : w ≡ u). subst (P i) same (new i)) (at_snoc views w u i e)

  left_longer : (views more : List (SeatView K)) (e : Entry) → IsLeftBySeat views e → IsLeftBySeat (views ++ more) e
  left_longer views more e l = (l.0, l.1, at_longer views more l.0 l.1 l.2, l.3)

  -- what the joined seat had left, the other has left now
  left_joined : (views : List (SeatView K)) (id other : ℕ) (v w b gone : SeatView K) → At views id v → At views other w → other ≢ id → b.left ≡ v.left ++ w.left → (e : Entry) → IsLeftBySeat views e → IsLeftBySeat (set (set views id b) other gone) e
  left_joined views id other v w b gone at there apart is e l =
      let mine : At (set (set views id b) other gone) id b = set_else (set views id b) other id gone (λ s. apart (sym s)) ∙ here views id v b at in
      dite (ℕ_discrete l.0 id)
      (λ same. (id, b, mine, (l.3.0, ap (λ xs. slice_get xs l.3.0) is ∙ get_front v.left w.left l.3.0 (Next.entry e) (ap (λ (u : SeatView K). slice_get u.left l.3.0) (sym (same_at views l.0 id l.1 v l.2 at same)) ∙ l.3.1))))
      (λ not_id. dite (ℕ_discrete l.0 other)
      (λ same. let g = get_back v.left w.left l.3.0 (Next.entry e) (ap (λ (u : SeatView K). slice_get u.left l.3.0) (sym (same_at views l.0 other l.1 w l.2 there same)) ∙ l.3.1) in (id, b, mine, (g.0, ap (λ xs. slice_get xs g.0) is ∙ g.1)))
      (λ not_other. (l.0, l.1, set_else (set views id b) other l.0 gone not_other ∙ (set_else views id l.0 b not_id ∙ l.2), l.3)))

module _ {K : Type 0} (G : Ghosts K) where
  new_fits : (opened : DeskState K) (log : Book) (front n parts : ℕ) (keeper : K) → Extends log opened.book → SeatFits G opened log front n keeper (newcomer parts opened)
  new_fits opened log front n parts keeper begun = record { once = omega arith; part = omega arith; waits = omega arith; line = (λ w. absurd (omega arith)); turn = (λ t. absurd (omega arith)); knows = (λ _. refl); seen = (λ _. begun); joined = tt; own = tt; after = tt; spent = (λ _. (refl, refl)) }

  spent_fits : (opened : DeskState K) (log : Book) (front n : ℕ) (keeper : K) → SeatFits G opened log front n keeper spent
  spent_fits opened log front n keeper = record { once = omega arith; part = omega arith; waits = omega arith; line = (λ w. absurd (omega arith)); turn = (λ t. absurd (omega arith)); knows = (λ some. absurd (omega arith)); seen = (λ some. absurd (omega arith)); joined = tt; own = tt; after = tt; spent = (λ _. (refl, refl)) }

module _ {K : Type 0} (G : Ghosts K) (opened : DeskState K) (seats : ℕ) where
  abbrev Homes : Type 0
  Homes = List (maybe.Option (Option (DeskState K)))

  abbrev Home : Book → K → Homes → List (SeatView K) → Type 0
  Home = AtHome G opened

  abbrev Slot : Book → K → Homes → List (SeatView K) → Type 0
  Slot log keeper homes views = Home log keeper homes views ⊎ IsOut homes views

  abbrev Holds : State (Option (DeskState K)) (SeatView K) → Type 0
  Holds = KeptIn G opened seats

  slot_snoc : (log : Book) (keeper : K) (homes : Homes) (views : List (SeatView K)) (w : SeatView K) → w.turns ≡ 0 → Slot log keeper homes views → Slot log keeper homes (views ++ w ∷ [])
  slot_snoc log keeper homes views w off slot =
      ⊎_elim
      (λ (t : Home log keeper homes views). inl (record { desk = t.desk; home = t.home; book = t.book; keeper_is = t.keeper_is; keeps = t.keeps; doubt = (λ e is. left_longer views (w ∷ []) e (t.doubt e is)); nobody = snoc_all (λ _ u. u.turns ≡ 0) views w t.nobody (λ _. off) }))
      (λ (t : IsOut homes views). inr (record { empty = t.empty; who = t.who; view = t.view; at = at_longer views (w ∷ []) t.who t.view t.at; turn = t.turn; doubt = (λ e is. left_longer views (w ∷ []) e (t.doubt e is)) }))
      slot

  -- nobody has the turn: the seats that are joined can change as they like, where what was left is left still
  slot_joined : (log : Book) (keeper : K) (homes : Homes) (views : List (SeatView K)) (id other : ℕ) (v w b gone : SeatView K) → At views id v → At views other w → other ≢ id → b.left ≡ v.left ++ w.left
      → v.turns ≡ 0 → w.turns ≡ 0 → b.turns ≡ 0 → gone.turns ≡ 0 → Slot log keeper homes views → Slot log keeper homes (set (set views id b) other gone)
  slot_joined log keeper homes views id other v w b gone at there apart is v0 w0 b0 g0 slot =
      let still = left_joined views id other v w b gone at there apart is in
      ⊎_elim
      (λ (t : Home log keeper homes views). inl (record {
        desk = t.desk;
        home = t.home;
        book = t.book;
        keeper_is = t.keeper_is;
        keeps = t.keeps;
        doubt = (λ e d. still e (t.doubt e d));
        nobody = each_set (λ _ u. u.turns ≡ 0) (set views id b) other gone (λ i u _ e. each_set (λ _ u. u.turns ≡ 0) views id b (λ i u _ e. t.nobody i u e) b0 i u e) g0;
      }))
      (λ (t : IsOut homes views).
      let a1 : t.who ≢ id = λ same. let e' = ap (λ (u : SeatView K). u.turns) (same_at views t.who id t.view v t.at at same) in let h = t.turn in omega arith in
      let a2 : t.who ≢ other = λ same. let e' = ap (λ (u : SeatView K). u.turns) (same_at views t.who other t.view w t.at there same) in let h = t.turn in omega arith in
      inr (record { empty = t.empty; who = t.who; view = t.view; at = set_else (set views id b) other t.who gone a2 ∙ (set_else views id t.who b a1 ∙ t.at); turn = t.turn; doubt = (λ e d. still e (t.doubt e d)) }))
      slot

  pub begins : (signals : List ℕ) → seats < 2 ^ 32 → opened.doubt ≡ None → Holds (opening (0 ∷ 0 ∷ size opened.book ∷ signals) (Some opened ∷ []) (newcomer seats opened))
  begins signals few sure = record {
    log = opened.book;
    front = 0;
    keeper = opened.keeper;
    signals = signals;
    words_are = refl;
    slot = inl (record {
      desk = opened;
      home = refl;
      book = refl;
      keeper_is = refl;
      keeps = record { limit = refl; doubt = subst IsNoClosing (sym sure) tt; keeper = follows_same G opened.keeper };
      doubt = (λ e doubt. absurd (no_doubt e (sym sure ∙ doubt)));
      nobody = (λ j v e. one (λ u. u.turns ≡ 0) refl j v e);
    });
    few = few;
    parts = omega arith;
    begun = extends_same opened.book opened.book refl;
    places = λ p. omega arith;
    each = one (SeatFits G opened opened.book 0 0 opened.keeper) (new_fits G opened opened.book 0 0 seats opened.keeper (extends_same opened.book opened.book refl));
    apart = λ i j v w a b vw ww same. absurd (one (λ u. u.waits ≡ 1 → ⊥) (λ x. omega arith) i v a vw);
    left = one (λ u. AllByRecursion (IsLeftBySeat (newcomer seats opened ∷ [])) u.settled) tt;
  }
    where
      no_doubt : (e : Entry) → (None ≡ Some (Next.entry e)) → ⊥
      no_doubt e h = absurd (cc)

      one : (P : SeatView K → Type 0) → P (newcomer seats opened) → (j : ℕ) (v : SeatView K) → At (newcomer seats opened ∷ []) j v → P v
      one P p zero v e = subst P (some-injective _ _ e) p
      one P p (suc j) v e = absurd (some-ne-none v (sym e))

  pub splits : (id : ℕ) (n : ℕ) → 1 < n → Splits Holds id (newcomer n opened) (less_one (newcomer n opened)) (newcomer 1 opened)
  splits id parts many s k at =
      let v = newcomer parts opened in
      let l = less_one v in
      let w = newcomer 1 opened in
      let views = set s.views id l in
      let n : ℕ = total waits_of s.views in
      let f = k.each id v at in
      let now : n ≡ total waits_of (views ++ w ∷ []) = let t = total_set waits_of s.views id v l at in let t' = total_snoc waits_of views w in omega arith in
      record {
        log = k.log;
        front = k.front;
        keeper = k.keeper;
        signals = k.signals;
        words_are = subst (λ (n : ℕ). s.words ≡ (k.front + n) % 2 ^ 64 ∷ k.front % 2 ^ 64 ∷ size k.log ∷ k.signals) now k.words_are;
        slot = slot_snoc k.log k.keeper s.homes views w refl (slot_set G opened seats k.log k.keeper s.homes s.views id v l at refl refl [] refl k.slot);
        left = snoc_all (λ _ u. AllByRecursion (IsLeftBySeat (views ++ w ∷ [])) u.settled) views w
            (each_set (λ _ u. AllByRecursion (IsLeftBySeat (views ++ w ∷ [])) u.settled) s.views id l
            (λ i u _ e. all_map _ _ u.settled (λ x y. left_longer views (w ∷ []) x (left_set s.views id v l at [] refl x y)) (k.left i u e))
            tt)
            (λ _. tt);
        few = k.few;
        parts = let t = total_set seat_parts s.views id v l at in let t' = total_snoc seat_parts views w in let q = k.parts in omega arith;
        begun = k.begun;
        places = λ p. let t = total_set (own_at p) s.views id v l at in let t' = total_snoc (own_at p) views w in let q = k.places p in omega arith;
        each = subst (λ (n : ℕ). AllFit G opened k.log k.front n k.keeper (views ++ w ∷ [])) now
            (snoc_all (λ _. SeatFits G opened k.log k.front n k.keeper) views w
            (all_set G opened k.log k.front n k.keeper s.views id l (λ i u _ e. k.each i u e) (record { once = f.once; part = omega arith; waits = f.waits; line = (λ o. absurd (omega arith)); turn = (λ o. absurd (omega arith)); knows = (λ _. refl); seen = (λ _. f.seen (omega arith)); joined = f.joined; own = f.own; after = f.after; spent = (λ z. (refl, refl)) }))
            (λ _. new_fits G opened k.log k.front n 1 k.keeper k.begun));
        apart = λ i j a b ea eb aw bw same.
            let old = apart_set s.views id l k.apart (λ i u _ _ lw. absurd (omega arith)) in
            snoc_all (λ (i : ℕ) (a : SeatView K). a.waits ≡ 1 → a.ticket ≡ b.ticket → i ≡ j) views w
            (λ i a ai aw same. snoc_all (λ (j : ℕ) (b : SeatView K). b.waits ≡ 1 → a.ticket ≡ b.ticket → i ≡ j) views w (λ j b bj bw same. old i j a b ai bj aw bw same) (λ j bw. absurd (omega arith)) j b eb bw same)
            (λ i aw. absurd (omega arith))
            i a ea aw same;
      }

  pub joins : (id : ℕ) (v : SeatView K) (other : ℕ) (w : SeatView K) → IsIdle v → IsIdle w → 0 < v.parts → 0 < w.parts → Joins Holds id v other w (both v w) spent
  joins id v other w iv iw some_part other_part s k at apart there =
      let b = both v w in
      let one = set s.views id b in
      let gone : SeatView K = spent in
      let n : ℕ = total waits_of s.views in
      let f = k.each id v at in
      let was : At s.views other w = ⊎_elim (λ (t : (other ≡ id) × (b ≡ w)). absurd (apart t.0)) (λ (t : (other ≢ id) × At s.views other w). t.1) (at_set s.views id other b w there) in
      let h = k.each other w was in
      let v0 = iv.0 in let v1 = iv.1 in let w0 = iw.0 in let w1 = iw.1 in
      let now : n ≡ total waits_of (set one other gone) = let t = total_set waits_of s.views id v b at in let t' = total_set waits_of one other w gone there in omega arith in
      record {
        log = k.log;
        front = k.front;
        keeper = k.keeper;
        signals = k.signals;
        words_are = subst (λ (n : ℕ). s.words ≡ (k.front + n) % 2 ^ 64 ∷ k.front % 2 ^ 64 ∷ size k.log ∷ k.signals) now k.words_are;
        slot = slot_joined k.log k.keeper s.homes s.views id other v w b gone at was apart refl v1 w1 v1 refl k.slot;
        left = let still = left_joined s.views id other v w b gone at was apart refl in
            each_set (λ _ u. AllByRecursion (IsLeftBySeat (set one other gone)) u.settled) one other gone
            (λ i u _ e. each_set (λ _ u. AllByRecursion (IsLeftBySeat (set one other gone)) u.settled) s.views id b (λ i u _ e. all_map _ _ u.settled still (k.left i u e))
            (all_append _ v.settled w.settled (all_map _ _ v.settled still (k.left id v at)) (all_map _ _ w.settled still (k.left other w was))) i u e)
            tt;
        few = k.few;
        parts = let t = total_set seat_parts s.views id v b at in let t' = total_set seat_parts one other w gone there in let q = k.parts in omega arith;
        begun = k.begun;
        places = λ p. let t = total_set (own_at p) s.views id v b at in let t' = total_set (own_at p) one other w gone there in let q = k.places p in let a = count_at-append p v.own w.own in omega arith;
        each = subst (λ (n : ℕ). AllFit G opened k.log k.front n k.keeper (set one other gone)) now
            (all_set G opened k.log k.front n k.keeper one other gone
            (λ i u _ e. all_set G opened k.log k.front n k.keeper s.views id b (λ i u _ e. k.each i u e)
            (record {
              once = f.once;
              part = omega arith;
              waits = f.waits;
              line = (λ o. absurd (omega arith));
              turn = (λ o. absurd (omega arith));
              knows = (λ _. f.knows some_part);
              seen = (λ _. longer_is (Extends k.log) v.seen w.seen (f.seen some_part) (h.seen other_part));
              joined = (f.seen some_part, (h.seen other_part, all_append _ w.joined v.joined h.joined f.joined));
              own = all_append _ v.own w.own f.own h.own;
              after = all_append _ v.after w.after f.after h.after;
              spent = (λ z. absurd (omega arith));
            })
            i u e)
            (spent_fits G opened k.log k.front n k.keeper));
        apart = apart_set one other gone (apart_set s.views id b k.apart (λ i u _ _ lw. absurd (omega arith))) (λ i u _ _ lw. absurd (omega arith));
      }

  -- what the seat with all parts learns at the end
  pub record Closing (v : SeatView K) (homes : List (Option (DeskState K))) : Type 0 where
    pub desk : DeskState K
    pub home : get_elem? homes 0 ≡ some (Some desk)
    pub keeps : Keeps G opened desk
    pub begun : Extends desk.book opened.book
    pub seen : Extends desk.book v.seen
    pub joined : AllByRecursion (Extends desk.book) v.joined
    pub own : AllByRecursion (StandsAfter desk.book) v.own
    pub places : (p : ℕ) → count_at p v.own + once_below p (size opened.book) ≡ once_below p (size desk.book)
    pub left : AllByRecursion (λ (e : Entry). (k : ℕ) × (slice_get v.left k ≡ Some (Next.entry e))) v.settled
    pub doubt : (e : Entry) → desk.doubt ≡ Some (Next.entry e) → (k : ℕ) × (slice_get v.left k ≡ Some (Next.entry e))
    pub after : FollowsAll G v.after desk.keeper

  pub closing : (id : ℕ) (v : SeatView K) (words : List ℕ) (homes : List (Option (DeskState K))) → IsIdle v → v.parts ≡ seats → 0 < seats → Final (Seen Holds id v) words homes → Closing v homes
  closing id v words homes idle all any final =
      let s = final.0 in
      let k : Holds s = final.1.0 in
      let at : At s.views id v = final.1.1 in
      ⊎_elim
      (λ (t : Home k.log k.keeper s.homes s.views). closed s k at t final.4)
      (λ (t : IsOut s.homes s.views). absurd (nobody s k at t.who t.view t.at t.turn))
      k.slot
    where
      mine : (s : State (Option (DeskState K)) (SeatView K)) (k : Holds s) → At s.views id v → (e : Entry) → IsLeftBySeat s.views e → (m : ℕ) × (slice_get v.left m ≡ Some (Next.entry e))
      mine s k at e l =
          dite (ℕ_discrete l.0 id)
          (λ same. (l.3.0, ap (λ (u : SeatView K). slice_get u.left l.3.0) (sym (same_at s.views l.0 id l.1 v l.2 at same)) ∙ l.3.1))
          (λ apart.
          let gone : SeatView K = spent in
          let t = total_set seat_parts s.views id v gone at in
          let q = k.parts in
          let has = total_has seat_parts (set s.views id gone) l.0 l.1 (set_else s.views id l.0 gone apart ∙ l.2) in
          let none_left : l.1.left ≡ [] = ((k.each l.0 l.1 l.2).spent (omega arith)).1 in
          absurd (nothing l.3.0 e (ap (λ xs. slice_get xs l.3.0) (sym none_left) ∙ l.3.1)))
        where
          nothing : (m : ℕ) (e : Entry) → slice_get {X = Next} [] m ≡ Some (Next.entry e) → ⊥
          nothing m e h = absurd (cc)

      nobody : (s : State (Option (DeskState K)) (SeatView K)) (k : Holds s) → At s.views id v → (j : ℕ) (u : SeatView K) → At s.views j u → u.turns ≡ 1 → ⊥
      nobody s k at j u there on =
          let whole = total_alone waits_of seat_parts s.views id v at (k.parts ∙ sym all) (λ i u e z. let p = (k.each i u e).part in omega arith) in
          let has = total_has waits_of s.views j u there in
          let f = k.each j u there in let w = f.waits in let i0 = idle.0 in omega arith

      closed : (s : State (Option (DeskState K)) (SeatView K)) (k : Holds s) → At s.views id v → Home k.log k.keeper s.homes s.views → ((i : ℕ) (y : Option (DeskState K)) → get_elem? s.homes i ≡ some (some y) → get_elem? homes i ≡ some y) → Closing v homes
      closed s k at h gives = let f = k.each id v at in let d = h.desk in let is = h.book in record {
        desk = d;
        home = gives 0 (Some d) (ap (λ hs. get_elem? hs 0) h.home);
        keeps = h.keeps;
        begun = subst (λ (l : Book). Extends l opened.book) (sym is) k.begun;
        seen = subst (λ (l : Book). Extends l v.seen) (sym is) (f.seen (omega arith));
        joined = subst (λ (l : Book). AllByRecursion (Extends l) v.joined) (sym is) f.joined;
        own = subst (λ (l : Book). AllByRecursion (StandsAfter l) v.own) (sym is) f.own;
        places = λ p. let whole = total_alone (own_at p) seat_parts s.views id v at (k.parts ∙ sym all) (λ i u e z. ap (count_at p) ((k.each i u e).spent z).0) in let q = k.places p in let e : once_below p (size d.book) ≡ once_below p (size k.log) = ap (λ (l : Book). once_below p (size l)) is in omega arith;
        left = all_map _ _ v.settled (λ e l. mine s k at e l) (k.left id v at);
        doubt = λ e is. mine s k at e (h.doubt e is);
        after = subst (λ (x : K). FollowsAll G v.after x) (sym h.keeper_is) f.after;
      }

module _ {K : Type 0} where
  -- what the one view has of all that were gathered in it
  gather_all : {X : Type 0} (part : SeatView K → List X) → ((v w : SeatView K) → part (both v w) ≡ part v ++ part w) → (P : X → Type 0) (v : SeatView K) (ws : List (SeatView K)) → AllByRecursion P (part (gather v ws)) → AllByRecursion P (part v) × AllByRecursion (λ (w : SeatView K). AllByRecursion P (part w)) ws
  gather_all part is P v [] e = (e, tt)
  gather_all part is P v (w ∷ ws) e = let t = all_split P (part (gather v ws)) (part w) (subst (AllByRecursion P) (is (gather v ws) w) e) in let r = gather_all part is P v ws t.0 in (r.0, (t.1, r.1))

  gather_seen : (P : Book → Type 0) (v : SeatView K) (ws : List (SeatView K)) → P (gather v ws).seen → AllByRecursion P (gather v ws).joined → P v.seen × AllByRecursion (λ (w : SeatView K). P w.seen) ws
  gather_seen P v [] s t = (s, tt)
  gather_seen P v (w ∷ ws) s t = let r = gather_seen P v ws t.0 (all_split P w.joined (gather v ws).joined t.1.1).1 in (r.0, (t.1.0, r.1))

  gather_places : (p : ℕ) (v : SeatView K) (ws : List (SeatView K)) → count_at p (gather v ws).own ≡ count_at p v.own + total (own_at p) ws
  gather_places p v [] = omega arith
  gather_places p v (w ∷ ws) = let r = gather_places p v ws in let a = count_at-append p (gather v ws).own w.own in omega arith

  pub gather_parts : (v : SeatView K) (ws : List (SeatView K)) → (gather v ws).parts ≡ v.parts + total seat_parts ws
  gather_parts v [] = omega arith
  gather_parts v (w ∷ ws) = let r = gather_parts v ws in omega arith

  pub gather_idle : (v : SeatView K) (ws : List (SeatView K)) → IsIdle v → IsIdle (gather v ws)
  gather_idle v [] i = i
  gather_idle v (w ∷ ws) i = gather_idle v ws i

  gather_left : (v : SeatView K) (ws : List (SeatView K)) (k : ℕ) (e : Entry) → slice_get (gather v ws).left k ≡ Some (Next.entry e) → SomeLeft (ws ++ v ∷ []) e
  gather_left v [] k e g = inl (k, g)
  gather_left v (w ∷ ws) k e g = ⊎_elim (λ t. inr (gather_left v ws t.0 e t.1)) (λ t. inl t) (get_split (gather v ws).left w.left k (Next.entry e) g)

module _ {K : Type 0} (G : Ghosts K) (opened : DeskState K) where
  -- what is known of the book that was closed, from what the one view knows
  closes : (v : SeatView K) (ws : List (SeatView K)) (homes : List (Option (DeskState K))) (c : Closing G opened (total seat_parts (ws ++ v ∷ [])) (gather v ws) homes) → Closes G opened (ws ++ v ∷ []) c.desk
  closes v ws homes c =
      let own = gather_all (λ v. v.own) (λ v w. refl) (StandsAfter c.desk.book) v ws c.own in
      let after = gather_all (λ v. v.after) (λ v w. refl) (λ keeper. KeeperFollows G keeper c.desk.keeper) v ws c.after in
      let seen = gather_seen (Extends c.desk.book) v ws c.seen c.joined in record {
        keeps = c.keeps;
        begun = c.begun;
        seen = all_append _ ws (v ∷ []) seen.1 (seen.0, tt);
        own = all_append _ ws (v ∷ []) own.1 (own.0, tt);
        places = λ p. let q = c.places p in let g = gather_places p v ws in let t = total_snoc (own_at p) ws v in omega arith;
        left = let s = gather_all (λ v. v.settled) (λ v w. refl) (SomeLeft (ws ++ v ∷ [])) v ws (all_map _ _ (gather v ws).settled (λ e l. gather_left v ws l.0 e l.1) c.left) in all_append _ ws (v ∷ []) s.1 (s.0, tt);
        doubt = λ e is. let l = c.doubt e is in gather_left v ws l.0 e l.1;
        after = all_append _ ws (v ∷ []) after.1 (after.0, tt);
        risen = c.keeps.keeper.later;
      }

  pub splits_as : (seats id : ℕ) (v : SeatView K) (n : ℕ) → v ≡ newcomer n opened → 1 < n → Splits (KeptIn G opened seats) id v (less_one v) (one_more v)
  splits_as seats id v n is many = subst (λ (v : SeatView K). Splits (KeptIn G opened seats) id v (less_one v) (one_more v)) (sym is) (splits G opened seats id n many)

  pub begins_as : (signals : List ℕ) (seats : ℕ) (d : DeskState K) (len : ℕ) (items : List (Option (DeskState K))) → seats < 2 ^ 32 → d ≡ opened → d.doubt ≡ None → len ≡ size d.book → items ≡ Some d ∷ []
      → KeptIn G opened seats (opening (0 ∷ 0 ∷ len ∷ signals) items (newcomer seats opened))
  begins_as signals seats d len items few is sure size_is all =
      let sure' : opened.doubt ≡ None = subst (λ (x : DeskState K). x.doubt ≡ None) is sure in
      subst (λ (t : ℕ × List (Option (DeskState K))). KeptIn G opened seats (opening (0 ∷ 0 ∷ t.0 ∷ signals) t.1 (newcomer seats opened)))
      (λ i. (sym (size_is ∙ ap (λ (x : DeskState K). size x.book) is) i, sym (all ∙ ap (λ (x : DeskState K). Some x ∷ []) is) i))
      (begins G opened seats signals few sure')

  pub joins_as : (seats id : ℕ) (v : SeatView K) (other : ℕ) (w first : SeatView K) (done : List (SeatView K)) → v ≡ gather first done → IsIdle first → first.parts ≡ 1 → IsIdle w → w.parts ≡ 1 → Joins (KeptIn G opened seats) id v other w (both v w) spent
  joins_as seats id v other w first done is idle one iw other_one =
      let all = gather_parts first done in let same : v.parts ≡ (gather first done).parts = ap (λ (u : SeatView K). u.parts) is in
      joins G opened seats id v other w (subst IsIdle (sym is) (gather_idle first done idle)) iw (omega arith) (omega arith)

  -- the desk of a room that was closed
  pub shut : (seats id : ℕ) (v : SeatView K) (words : List ℕ) (homes : List (Option (DeskState K))) (first : SeatView K) (ws : List (SeatView K))
      → v ≡ gather first ws → IsIdle first → first.parts ≡ 1 → total seat_parts (ws ++ first ∷ []) ≡ seats → Final (Seen (KeptIn G opened seats) id v) words homes
      → (slot : Option (DeskState K)) → get_elem? homes 0 ≡ some slot → (d : DeskState K) × (slot ≡ Some d) × Closes G opened (ws ++ first ∷ []) d
  shut seats id v words homes first ws is idle one all final slot at =
      let t = total_snoc seat_parts ws first in
      let p = gather_parts first ws in
      let same : v.parts ≡ (gather first ws).parts = ap (λ (u : SeatView K). u.parts) is in
      let c : Closing G opened seats v homes = closing G opened seats id v words homes (subst IsIdle (sym is) (gather_idle first ws idle)) (omega arith) (omega arith) final in
      let c' : Closing G opened (total seat_parts (ws ++ first ∷ [])) (gather first ws) homes = subst (λ (x : ℕ × SeatView K). Closing G opened x.0 x.1 homes) (λ i. (sym all i, is i)) c in
      (c'.desk, some-injective _ _ (sym at ∙ c'.home), closes first ws homes c')

  -- the same, of a desk that was found in the slot
  pub shut_at : (seats id : ℕ) (v : SeatView K) (words : List ℕ) (homes : List (Option (DeskState K))) (first : SeatView K) (ws : List (SeatView K))
      → v ≡ gather first ws → IsIdle first → first.parts ≡ 1 → total seat_parts (ws ++ first ∷ []) ≡ seats → Final (Seen (KeptIn G opened seats) id v) words homes
      → (slot : Option (DeskState K)) → get_elem? homes 0 ≡ some slot → (d : DeskState K) → slot ≡ Some d → Closes G opened (ws ++ first ∷ []) d
  shut_at seats id v words homes first ws is idle one all final slot at d found =
      let s = shut seats id v words homes first ws is idle one all final slot at in
      subst (λ (x : DeskState K). Closes G opened (ws ++ first ∷ []) x) (some_same _ _ (sym s.1 ∙ found)) s.2
