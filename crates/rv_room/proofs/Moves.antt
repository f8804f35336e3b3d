-- Each step keeps the rule.
use Rattle.std.proofs.Common.{◌≡◌, ◌≢◌, ◌⊎◌, ℕ, zero, suc, ◌+◌, ◌-◌, ◌%◌, ◌^◌, ◌<◌, ◌≤◌, ◌==◌, List, [], ◌∷◌, ◌++◌, length, set, refl, sym, ap, ◌∙◌, subst, inl, inr, ⊎_elim, arith, Some, None, Option, append-nil, mod-eq_of_lt}
use Rattle.std.proofs.Math.Nat.{mod-add-mod}
use Rattle.std.specs.Prelude.{IfSome, slice_get, slice_index, slice_set}
use Rattle.std.specs.List.{AllByRecursion}
use mathlib.Core.Option.{some, none}
use mathlib.Core.Option as maybe
use mathlib.Core.Logic.{dite}
use native.Mathlib.Decide.{ℕ_discrete}
use lib.ListN.{get_elem?}
use prog.Atomic.{either}
use Rattle.atomic_table.specs.Table.{State, Me, Act, keeps, takes, gives, stepped, Allows, Valid, carried_after}
use Rattle.atomic_table.proofs.Lists.{at_set, set_again, set_else, one_turn, exchanged}
use Rattle.rv_book.specs.declared.entry.Entry.{Entry}
use Rattle.rv_book.specs.Book.{Book, entry_at, size, since, with_entry, Extends}
use Rattle.rv_book.specs.BookWordLaws.{entry_at-end, entry_at-with_entry, entry_at-within, extends_on, extends_same, since-all, since-with_entry, size-with_entry}
use Rattle.rv_history.specs.Served.{Doubt, Next, with_doubt}
use Rattle.rv_keeper.specs.declared.keeper.Keeper.{Ghosts}
use Rattle.rv_desk.specs.DeskStates.{DeskState}
use Rattle.rv_room.specs.declared.view.SeatView.{SeatView}
use Rattle.rv_room.specs.Following.{KeeperFollows, FollowsAll}
use Rattle.rv_room.specs.FollowingLaws.{follows_same, follows_on}
use Rattle.rv_room.specs.Lists.{hit, total, once_below, count_at, numbered}
use Rattle.rv_room.specs.Views.{IsIdle, waiting, on_turn, grown, entered, option_items, noted, with_keeper, ended}
use Rattle.rv_room.specs.Rule.{seat_parts, waits_of, own_at, IsLeftBySeat, DoubtIsLeft, SeatFits, IsOut, Keeps, IsOf, AtHome, Kept, KeptIn, StandsAfter}
use Rattle.rv_room.specs.Plays.{TakesTicket, TakesIfNext, ChecksTurn, CountsSettled, CountsMade, NotesSettled, NotesKeeper, Passes, Signals}
use Rattle.rv_room.proofs.Totals.{total_set, total_le, total_has, here, same_at, all_map, all_append, get_front, get_last, count_at-append, below_next}

value_or : {X : Type 0} → X → Option X → X
value_or x None = x
value_or x (Some y) = y

pub some_same : {X : Type 0} (a b : X) → Some a ≡ Some b → a ≡ b
unfolding value_or
some_same a b e = ap (value_or a) e

-- from what the history went on, and what stood in it, it does and stands once it is longer
still : (log : Book) (e : Entry) (now : Book) → now ≡ with_entry log e → (l : Book) → Extends log l → Extends now l
still log e now longer l s = extends_on now log l (e ∷ [], longer) s

stands : (log : Book) (e : Entry) (now : Book) → now ≡ with_entry log e → (x : ℕ × Entry) → StandsAfter log x → StandsAfter now x
stands log e now longer x s = ap (λ (l : Book). entry_at (x.0 + 1) l) longer ∙ entry_at-with_entry (x.0 + 1) log e (entry_at-within (x.0 + 1) log x.1 s).1 ∙ s

-- what came in is the one entry
came : (book : Book) (e : Entry) → since (size book) (with_entry book e) ≡ e ∷ []
came book e = since-with_entry (size book) book e (omega arith) ∙ ap (λ (l : List Entry). l ++ e ∷ []) (since-all (size book) book (omega arith))

module _ {K : Type 0} where
  abbrev pub At : List (SeatView K) → ℕ → SeatView K → Type 0
  At views j v = get_elem? views j ≡ some v

  abbrev pub Apart : List (SeatView K) → Type 0
  Apart views = (i j : ℕ) (v w : SeatView K) → At views i v → At views j w → v.waits ≡ 1 → w.waits ≡ 1 → v.ticket ≡ w.ticket → i ≡ j

  -- what holds of one view and of all others holds after it has changed
  pub each_set : (P : ℕ → SeatView K → Type 0) (views : List (SeatView K)) (j : ℕ) (w : SeatView K) → ((i : ℕ) (u : SeatView K) → i ≢ j → At views i u → P i u) → P j w → (i : ℕ) (u : SeatView K) → At (set views j w) i u → P i u
  each_set P views j w others mine i u e =
      ⊎_elim
      (λ (t : (i ≡ j) × (w ≡ u)). subst (λ (y : ℕ × SeatView K). P y.0 y.1) (λ k. (sym t.0 k, t.1 k)) mine)
      (λ (t : (i ≢ j) × At views i u). others i u t.0 t.1)
      (at_set views j i w u e)

  pub apart_set : (views : List (SeatView K)) (j : ℕ) (w : SeatView K) → Apart views → ((i : ℕ) (u : SeatView K) → i ≢ j → At views i u → w.waits ≡ 1 → u.waits ≡ 1 → w.ticket ≡ u.ticket → ⊥) → Apart (set views j w)
  apart_set views j w apart mine i k a b ea eb =
      each_set (λ (i : ℕ) (a : SeatView K). a.waits ≡ 1 → b.waits ≡ 1 → a.ticket ≡ b.ticket → i ≡ k) views j w
      (λ i a ni ai. each_set (λ (k : ℕ) (b : SeatView K). a.waits ≡ 1 → b.waits ≡ 1 → a.ticket ≡ b.ticket → i ≡ k) views j w
      (λ k b nk bk. apart i k a b ai bk)
      (λ aw ww same. absurd (mine i a ni ai ww aw (sym same)))
      k b eb)
      (each_set (λ (k : ℕ) (b : SeatView K). w.waits ≡ 1 → b.waits ≡ 1 → w.ticket ≡ b.ticket → j ≡ k) views j w
      (λ k b nk bk ww bw same. absurd (mine k b nk bk ww bw same))
      (λ _ _ _. refl)
      k b eb)
      i a ea

  -- what was left is left still, where a view's left only grows
  pub left_set : (views : List (SeatView K)) (id : ℕ) (v w : SeatView K) → At views id v → (more : List Next) → w.left ≡ v.left ++ more → (e : Entry) → IsLeftBySeat views e → IsLeftBySeat (set views id w) e
  left_set views id v w at more grows e l =
      dite (ℕ_discrete l.0 id)
      (λ same. (id, w, here views id v w at, (l.3.0, ap (λ xs. slice_get xs l.3.0) grows ∙ get_front v.left more l.3.0 (Next.entry e) (ap (λ (u : SeatView K). slice_get u.left l.3.0) (sym (same_at views l.0 id l.1 v l.2 at same)) ∙ l.3.1))))
      (λ apart. (l.0, l.1, set_else views id l.0 w apart ∙ l.2, l.3))

  pub doubt_set : (views : List (SeatView K)) (id : ℕ) (v w : SeatView K) → At views id v → (more : List Next) → w.left ≡ v.left ++ more → (d : Doubt) → DoubtIsLeft views d → DoubtIsLeft (set views id w) d
  doubt_set views id v w at more grows d l e is = left_set views id v w at more grows e (l e is)

module _ {K : Type 0} (G : Ghosts K) where
  abbrev pub AllFit : DeskState K → Book → ℕ → ℕ → K → List (SeatView K) → Type 0
  AllFit opened log front n keeper views = (j : ℕ) (v : SeatView K) → At views j v → SeatFits G opened log front n keeper v

  pub all_set : (opened : DeskState K) (log : Book) (front n : ℕ) (keeper : K) (views : List (SeatView K)) (j : ℕ) (w : SeatView K) → ((i : ℕ) (u : SeatView K) → i ≢ j → At views i u → SeatFits G opened log front n keeper u) → SeatFits G opened log front n keeper w
      → AllFit opened log front n keeper (set views j w)
  all_set opened log front n keeper = each_set (λ _. SeatFits G opened log front n keeper)

  -- what follows the last of keepers follows each
  follows_later : (old new : K) → KeeperFollows G old new → (keepers : List K) → FollowsAll G keepers old → FollowsAll G keepers new
  follows_later old new goes keepers all = all_map _ _ keepers (λ k follows. follows_on G k old new follows goes) all

module _ {K : Type 0} (G : Ghosts K) (opened : DeskState K) (seats : ℕ) where
  abbrev Homes : Type 0
  Homes = List (maybe.Option (Option (DeskState K)))

  abbrev Rule : List ℕ → Homes → List (SeatView K) → Type 0
  Rule = Kept G opened seats

  abbrev S : Type 0
  S = State (Option (DeskState K)) (SeatView K)

  abbrev Home : Book → K → Homes → List (SeatView K) → Type 0
  Home = AtHome G opened

  abbrev Slot : Book → K → Homes → List (SeatView K) → Type 0
  Slot log keeper homes views = Home log keeper homes views ⊎ IsOut homes views

  pub slot_set : (log : Book) (keeper : K) (homes : Homes) (views : List (SeatView K)) (id : ℕ) (v w : SeatView K) → At views id v → v.turns ≡ 0 → w.turns ≡ 0 → (more : List Next) → w.left ≡ v.left ++ more → Slot log keeper homes views → Slot log keeper homes (set views id w)
  slot_set log keeper homes views id v w at vt wt more grows slot =
      ⊎_elim
      (λ (t : Home log keeper homes views). inl (record {
        desk = t.desk;
        home = t.home;
        book = t.book;
        keeper_is = t.keeper_is;
        keeps = t.keeps;
        doubt = doubt_set views id v w at more grows t.desk.doubt t.doubt;
        nobody = each_set (λ _ u. u.turns ≡ 0) views id w (λ i u _ e. t.nobody i u e) wt;
      }))
      (λ (t : IsOut homes views).
      let apart : t.who ≢ id = λ same. let e : t.view ≡ v = same_at views t.who id t.view v t.at at same in let e' = ap (λ (u : SeatView K). u.turns) e in let h = t.turn in omega arith in
      inr (record {
        empty = t.empty;
        who = t.who;
        view = t.view;
        at = set_else views id t.who w apart ∙ t.at;
        turn = t.turn;
        doubt = doubt_set views id v w at more grows t.view.doubt t.doubt;
      }))
      slot

  -- one view changes: what the rule then asks
  changes : (words : List ℕ) (homes : Homes) (views : List (SeatView K)) (id : ℕ) (v w : SeatView K) (k : Rule words homes views) → At views id v
      → (words' : List ℕ) (homes' : Homes) (log' : Book) (front' n' : ℕ) (keeper' : K)
      → n' + v.waits ≡ total waits_of views + w.waits
      → words' ≡ (front' + n') % 2 ^ 64 ∷ front' % 2 ^ 64 ∷ size log' ∷ k.signals
      → Slot log' keeper' homes' (set views id w)
      → w.parts ≡ v.parts
      → Extends log' opened.book
      → ((p : ℕ) → own_at p w + once_below p (size k.log) ≡ own_at p v + once_below p (size log'))
      → ((i : ℕ) (u : SeatView K) → i ≢ id → At views i u → SeatFits G opened log' front' n' keeper' u)
      → SeatFits G opened log' front' n' keeper' w
      → ((i : ℕ) (u : SeatView K) → i ≢ id → At views i u → w.waits ≡ 1 → u.waits ≡ 1 → w.ticket ≡ u.ticket → ⊥)
      → (more : List Next) → w.left ≡ v.left ++ more
      → AllByRecursion (IsLeftBySeat (set views id w)) w.settled
      → Rule words' homes' (set views id w)
  changes words homes views id v w k at words' homes' log' front' n' keeper' sum are slot parts begun places others mine alone more grows settled =
      let now : n' ≡ total waits_of (set views id w) = let t = total_set waits_of views id v w at in omega arith in record {
        log = log';
        front = front';
        keeper = keeper';
        signals = k.signals;
        words_are = subst (λ (n : ℕ). words' ≡ (front' + n) % 2 ^ 64 ∷ front' % 2 ^ 64 ∷ size log' ∷ k.signals) now are;
        slot = slot;
        few = k.few;
        parts = let t = total_set seat_parts views id v w at in let q = k.parts in omega arith;
        begun = begun;
        places = λ p. let t = total_set (own_at p) views id v w at in let q = k.places p in let r = places p in omega arith;
        each = subst (λ (n : ℕ). AllFit G opened log' front' n keeper' (set views id w)) now (all_set G opened log' front' n' keeper' views id w others mine);
        apart = apart_set views id w k.apart alone;
        left = each_set (λ _ u. AllByRecursion (IsLeftBySeat (set views id w)) u.settled) views id w (λ i u _ e. all_map _ _ u.settled (left_set views id v w at more grows) (k.left i u e)) settled;
      }

  waiting_few : (words : List ℕ) (homes : Homes) (views : List (SeatView K)) → Rule words homes views → total waits_of views < 2 ^ 32
  waiting_few words homes views k = let a = total_le waits_of seat_parts views (λ j v e. (k.each j v e).part) in let b = k.parts in let c = k.few in omega arith

  takes_fits : (log : Book) (front n : ℕ) (keeper : K) (u : SeatView K) → SeatFits G opened log front n keeper u → SeatFits G opened log front (n + 1) keeper u
  takes_fits log front n keeper u f = record { once = f.once; part = f.part; waits = f.waits; line = (λ w. let l = f.line w in (l.0, omega (arith, l.1))); turn = f.turn; knows = f.knows; seen = f.seen; joined = f.joined; own = f.own; after = f.after; spent = f.spent }

  -- what the view had settled was left, and is still
  settled_still : (words : List ℕ) (homes : Homes) (views : List (SeatView K)) (k : Rule words homes views) (id : ℕ) (v w : SeatView K) → At views id v → (more : List Next) → w.left ≡ v.left ++ more → AllByRecursion (IsLeftBySeat (set views id w)) v.settled
  settled_still words homes views k id v w at more grows = all_map _ _ v.settled (left_set views id v w at more grows) (k.left id v at)

  pub takes_ticket : (slots id : ℕ) (v : SeatView K) (c : List (ℕ × Option (DeskState K))) → IsIdle v → 0 < v.parts → Allows (KeptIn G opened seats) slots id (v, c) 0 (λ n. (n + 1) % 2 ^ 64) (TakesTicket (v, c))
  takes_ticket slots id v c idle some_part s k len at bound =
      let n : ℕ = total waits_of s.views in
      let t : ℕ = k.front + n in
      let w = waiting v t in
      let f = k.each id v at in
      let i0 = idle.0 in
      let found : slice_index s.words 0 ≡ t % 2 ^ 64 = ap (λ ws. slice_index ws 0) k.words_are in
      let more : (t % 2 ^ 64 + 1) % 2 ^ 64 ≡ (k.front + (n + 1)) % 2 ^ 64 = mod-add-mod t (2 ^ 64) 1 ∙ ap (λ (m : ℕ). m % 2 ^ 64) (omega arith) in (
        w,
        keeps,
        tt,
        changes s.words s.homes s.views id v w k at (slice_set s.words 0 ((slice_index s.words 0 + 1) % 2 ^ 64)) s.homes k.log k.front (n + 1) k.keeper
            (omega arith)
            (ap (λ ws. slice_set ws 0 ((slice_index ws 0 + 1) % 2 ^ 64)) k.words_are ∙ ap (λ (m : ℕ). m ∷ k.front % 2 ^ 64 ∷ size k.log ∷ k.signals) more)
            (slot_set k.log k.keeper s.homes s.views id v w at idle.1 refl [] (sym (append-nil v.left)) k.slot)
            refl
            k.begun
            (λ p. refl)
            (λ i u _ e. takes_fits k.log k.front n k.keeper u (k.each i u e))
            (record { once = omega arith; part = omega arith; waits = omega arith; line = (λ _. (omega arith, omega arith)); turn = (λ o. absurd (omega arith)); knows = f.knows; seen = f.seen; joined = f.joined; own = f.own; after = f.after; spent = f.spent })
            (λ i u _ e _ uw same. let l = (k.each i u e).line uw in let x : u.ticket < t = l.1 in omega arith)
            []
            (sym (append-nil v.left))
            (settled_still s.words s.homes s.views k id v w at [] (sym (append-nil v.left))),
        (t, sym found, refl),
      )

  same_rule : (words : List ℕ) (homes : Homes) (views : List (SeatView K)) (id : ℕ) (v : SeatView K) → Rule words homes views → At views id v → Rule words homes (set views id v)
  same_rule words homes views id v k at = subst (λ (vs : List (SeatView K)). Rule words homes vs) (sym (set_again views id v at)) k

  -- the ticket is taken if it still is the next one
  pub takes_if_next : (slots id : ℕ) (v : SeatView K) (c : List (ℕ × Option (DeskState K))) → IsIdle v → 0 < v.parts → (ticket next : ℕ) → next ≡ (ticket + 1) % 2 ^ 64 → Allows (KeptIn G opened seats) slots id (v, c) 0 (λ n. either (n == ticket) next n) (TakesIfNext ticket (v, c))
  takes_if_next slots id v c idle some_part ticket next is s k len at bound = exchanged (slice_index s.words 0) ticket next Goes hit miss
    where
      Goes : ℕ → Type 0
      Goes n = (w : SeatView K) × (a : Act (Option (DeskState K))) × Valid s.homes c a × KeptIn G opened seats (stepped s 0 n id c w a) × TakesIfNext ticket (v, c) (slice_index s.words 0) (w, carried_after c a)

      hit : slice_index s.words 0 ≡ ticket → Goes next
      hit e =
          let t = takes_ticket slots id v c idle some_part s k len at bound in
          let more : (slice_index s.words 0 + 1) % 2 ^ 64 ≡ next = ap (λ (n : ℕ). (n + 1) % 2 ^ 64) e ∙ sym is in (
            t.0,
            t.1,
            t.2,
            subst (λ (n : ℕ). KeptIn G opened seats (stepped s 0 n id c t.0 t.1)) more t.3,
            ((λ _. t.4), (λ ne. absurd (ne e))),
          )

      miss : slice_index s.words 0 ≢ ticket → Goes (slice_index s.words 0)
      miss ne = (
        v,
        keeps,
        tt,
        subst (λ (ws : List ℕ). Rule ws s.homes (set s.views id v)) (sym (ap (λ ws. slice_set ws 0 (slice_index ws 0)) k.words_are ∙ sym k.words_are)) (same_rule s.words s.homes s.views id v k at),
        ((λ e. absurd (ne e)), (λ _. refl)),
      )

  -- the number of turns that have ended is read
  pub checks_turn : (slots id : ℕ) (v : SeatView K) (c : List (ℕ × Option (DeskState K))) → v.waits ≡ 1 → v.turns ≡ 0 → Allows (KeptIn G opened seats) slots id (v, c) 1 (λ n. n) (ChecksTurn G (v, c))
  checks_turn slots id v c wait off s k len at bound = dite (ℕ_discrete (slice_index s.words 1) (v.ticket % 2 ^ 64)) mine other
    where
      same_words : slice_set s.words 1 (slice_index s.words 1) ≡ s.words
      same_words = ap (λ ws. slice_set ws 1 (slice_index ws 1)) k.words_are ∙ sym k.words_are

      Goes : Type 0
      Goes = (w : SeatView K) × (a : Act (Option (DeskState K))) × Valid s.homes c a × KeptIn G opened seats (stepped s 1 (slice_index s.words 1) id c w a) × ChecksTurn G (v, c) (slice_index s.words 1) (w, carried_after c a)

      other : slice_index s.words 1 ≢ v.ticket % 2 ^ 64 → Goes
      other ne = (v, keeps, tt, subst (λ (ws : List ℕ). Rule ws s.homes (set s.views id v)) (sym same_words) (same_rule s.words s.homes s.views id v k at), ((λ _. refl), (λ e. absurd (ne e))))

      mine : slice_index s.words 1 ≡ v.ticket % 2 ^ 64 → Goes
      mine e =
          let f = k.each id v at in
          let l = f.line wait in
          let few = waiting_few s.words s.homes s.views k in
          let found : slice_index s.words 1 ≡ k.front % 2 ^ 64 = ap (λ ws. slice_index ws 1) k.words_are in
          let first : k.front ≡ v.ticket = one_turn k.front v.ticket (2 ^ 64) l.0 (omega (arith, l.1)) (sym found ∙ e) in
          ⊎_elim (λ t. takes_desk t first) (λ t. absurd (two_turns t.who t.view t.at t.turn first)) k.slot
        where
          two_turns : (j : ℕ) (u : SeatView K) → At s.views j u → u.turns ≡ 1 → k.front ≡ v.ticket → ⊥
          two_turns j u there on first =
              let f = k.each j u there in
              let once = f.once in
              let waits = f.waits in
              let t = f.turn on in
              let same = k.apart j id u v there at (omega arith) wait (t.0 ∙ first) in
              let e = ap (λ (u : SeatView K). u.turns) (same_at s.views j id u v there at same) in
              omega arith

          takes_desk : Home k.log k.keeper s.homes s.views → k.front ≡ v.ticket → Goes
          takes_desk h first =
              let d = h.desk in
              let n : ℕ = total waits_of s.views in
              let w = on_turn G.faults v d in
              let f = k.each id v at in
              let w0 = f.once in
              let p0 = f.part in
              let none_more = sym (append-nil v.left) in (
                w,
                takes 0 (Some d),
                ap (λ hs. get_elem? hs 0) h.home,
                subst (λ (ws : List ℕ). Rule ws (slice_set s.homes 0 none) (set s.views id w)) (sym same_words)
                    (changes s.words s.homes s.views id v w k at s.words (slice_set s.homes 0 none) k.log k.front n k.keeper
                    (omega arith)
                    k.words_are
                    (inr (record { empty = ap (λ hs. slice_set hs 0 none) h.home; who = id; view = w; at = here s.views id v w at; turn = refl; doubt = doubt_set s.views id v w at [] none_more d.doubt h.doubt }))
                    refl
                    k.begun
                    (λ p. refl)
                    (λ i u _ e. k.each i u e)
                    (record { once = f.once; part = f.part; waits = omega arith; line = f.line; turn = (λ _. (sym first, h.book, ap (λ (x : K). Some x) h.keeper_is)); knows = f.knows; seen = f.seen; joined = f.joined; own = f.own; after = f.after; spent = f.spent })
                    (λ i u ne e ww uw same. ne (k.apart i id u v e at uw wait (sym same)))
                    []
                    none_more
                    (settled_still s.words s.homes s.views k id v w at [] none_more)),
                ((λ ne. absurd (ne e)), (λ _. (d, (opened, f.knows (omega arith), h.keeps), (let seen = f.seen (omega arith) in (seen.0, h.book ∙ seen.1)), subst (λ (x : K). FollowsAll G v.after x) (sym h.keeper_is) f.after, refl))),
              )

  -- the view with the turn names the history, and the slot is empty
  record OnTurn (s : S) (id : ℕ) (v : SeatView K) (k : KeptIn G opened seats s) : Type 0 where
    waits : v.waits ≡ 1
    ticket : v.ticket ≡ k.front
    named : v.book ≡ k.log
    keeper : v.keeper ≡ Some k.keeper
    out : s.homes ≡ none ∷ []
    doubt : DoubtIsLeft s.views v.doubt
    others : (i : ℕ) (u : SeatView K) → i ≢ id → At s.views i u → u.turns ≡ 0

  on_turn_now : (s : S) (id : ℕ) (v : SeatView K) (k : KeptIn G opened seats s) → At s.views id v → v.turns ≡ 1 → OnTurn s id v k
  on_turn_now s id v k at on =
      let f = k.each id v at in
      let once = f.once in
      let waits = f.waits in
      let wait : v.waits ≡ 1 = omega arith in
      let t = f.turn on in
      let o = out in record {
        waits = wait;
        ticket = t.0;
        named = t.1;
        keeper = t.2;
        out = o.empty;
        doubt = subst (λ (u : SeatView K). DoubtIsLeft s.views u.doubt) (mine o.who o.view o.at o.turn t.0 wait) o.doubt;
        others = λ i u ne e. not_on i u ne e t.0 wait;
      }
    where
      out : IsOut s.homes s.views
      out = ⊎_elim (λ (h : Home k.log k.keeper s.homes s.views). let none_on = h.nobody id v at in absurd (omega arith)) (λ (h : IsOut s.homes s.views). h) k.slot

      mine : (j : ℕ) (u : SeatView K) → At s.views j u → u.turns ≡ 1 → v.ticket ≡ k.front → v.waits ≡ 1 → u ≡ v
      mine j u there o ticket wait = let f = k.each j u there in let once = f.once in let waits = f.waits in same_at s.views j id u v there at (k.apart j id u v there at (omega arith) wait ((f.turn o).0 ∙ sym ticket))

      not_on : (i : ℕ) (u : SeatView K) → i ≢ id → At s.views i u → v.ticket ≡ k.front → v.waits ≡ 1 → u.turns ≡ 0
      not_on i u ne e ticket wait =
          let f = k.each i u e in
          let once = f.once in
          let waits = f.waits in
          let absurd_if : u.turns ≡ 1 → ⊥ = λ o. ne (k.apart i id u v e at (omega arith) wait ((f.turn o).0 ∙ sym ticket)) in
          zero_if u.turns (omega arith) absurd_if
        where
          zero_if : (n : ℕ) → n ≤ 1 → (n ≡ 1 → ⊥) → n ≡ 0
          zero_if zero le h = refl
          zero_if (suc n) le h = absurd (h (omega arith))

  longer_fits : (log now : Book) (e : Entry) (front n : ℕ) (keeper : K) (u : SeatView K) → now ≡ with_entry log e → SeatFits G opened log front n keeper u → u.turns ≡ 0 → SeatFits G opened now front n keeper u
  longer_fits log now e front n keeper u longer f off = record { once = f.once; part = f.part; waits = f.waits; line = f.line; turn = (λ o. absurd (omega arith)); knows = f.knows; seen = (λ some. still log e now longer u.seen (f.seen some)); joined = all_map _ _ u.joined (still log e now longer) f.joined; own = all_map _ _ u.own (stands log e now longer) f.own; after = f.after; spent = f.spent }

  -- the parts of a view that a longer history leaves as they are
  record IsAsBefore (v w : SeatView K) : Type 0 where
    parts : w.parts ≡ v.parts
    waits : w.waits ≡ v.waits
    turns : w.turns ≡ v.turns
    ticket : w.ticket ≡ v.ticket
    room : w.opened ≡ v.opened
    keeper : w.keeper ≡ v.keeper
    seen : w.seen ≡ v.seen
    joined : w.joined ≡ v.joined
    after : w.after ≡ v.after
    left : w.left ≡ v.left

  -- the history is one entry longer, which becomes own of the view with the turn
  grows : (s : S) (id : ℕ) (v w : SeatView K) (k : KeptIn G opened seats s) → At s.views id v → v.turns ≡ 1 → (e : Entry) (now : Book) → now ≡ with_entry v.book e → size now < 2 ^ 63
      → w.book ≡ now → w.own ≡ v.own ++ numbered (size v.book) (since (size v.book) now) → IsAsBefore v w
      → DoubtIsLeft (set s.views id w) w.doubt → AllByRecursion (IsLeftBySeat (set s.views id w)) w.settled
      → Rule (slice_set s.words 2 ((slice_index s.words 2 + 1) % 2 ^ 64)) s.homes (set s.views id w)
  grows s id v w k at on e now is_longer short named own same doubt settled =
      let o = on_turn_now s id v k at on in
      let n : ℕ = total waits_of s.views in
      let f = k.each id v at in
      let longer : now ≡ with_entry k.log e = is_longer ∙ ap (λ (l : Book). with_entry l e) o.named in
      let size_is : size now ≡ size k.log + 1 = ap size longer ∙ size-with_entry k.log e in
      let more : (size k.log + 1) % 2 ^ 64 ≡ size now = small (size k.log + 1) (size now) (sym size_is) short in
      let one : w.own ≡ v.own ++ (size v.book, e) ∷ [] = own ∙ ap (λ (l : List Entry). v.own ++ numbered (size v.book) l) (ap (since (size v.book)) is_longer ∙ came v.book e) in
      let w1 = same.waits in let t1 = same.turns in let p1 = same.parts in let k1 = same.ticket in let v1 = o.waits in
      changes s.words s.homes s.views id v w k at (slice_set s.words 2 ((slice_index s.words 2 + 1) % 2 ^ 64)) s.homes now k.front n k.keeper
      (omega arith)
      (ap (λ ws. slice_set ws 2 ((slice_index ws 2 + 1) % 2 ^ 64)) k.words_are ∙ ap (λ (m : ℕ). (k.front + n) % 2 ^ 64 ∷ k.front % 2 ^ 64 ∷ m ∷ k.signals) more)
      (inr (record { empty = o.out; who = id; view = w; at = here s.views id v w at; turn = t1 ∙ on; doubt = doubt }))
      p1
      (still k.log e now longer opened.book k.begun)
      (λ p. places p size_is o.named one)
      (λ i u ne there. longer_fits k.log now e k.front n k.keeper u longer (k.each i u there) (o.others i u ne there))
      (mine f o.ticket longer o.named o.keeper o.waits one)
      (λ i u ne there ww uw ts. ne (k.apart i id u v there at uw o.waits (sym ts ∙ k1)))
      []
      (same.left ∙ sym (append-nil v.left))
      settled
    where
      small : (a b : ℕ) → a ≡ b → b < 2 ^ 63 → a % 2 ^ 64 ≡ b
      small a b e h = ap (λ (m : ℕ). m % 2 ^ 64) e ∙ mod-eq_of_lt (omega arith)

      places : (p : ℕ) → size now ≡ size k.log + 1 → v.book ≡ k.log → w.own ≡ v.own ++ (size v.book, e) ∷ [] → own_at p w + once_below p (size k.log) ≡ own_at p v + once_below p (size now)
      places p size_is is one =
          let a = count_at-append p v.own ((size v.book, e) ∷ []) in
          let a' : count_at p w.own ≡ count_at p (v.own ++ (size v.book, e) ∷ []) = ap (count_at p) one in
          let b : hit (size v.book) p ≡ hit (size k.log) p = ap (λ (l : Book). hit (size l) p) is in
          let c : once_below p (size now) ≡ hit (size k.log) p + once_below p (size k.log) = ap (once_below p) size_is ∙ below_next p (size k.log) in
          omega arith

      mine : SeatFits G opened k.log k.front (total waits_of s.views) k.keeper v → v.ticket ≡ k.front → now ≡ with_entry k.log e → v.book ≡ k.log → v.keeper ≡ Some k.keeper → v.waits ≡ 1 → w.own ≡ v.own ++ (size v.book, e) ∷ [] → SeatFits G opened now k.front (total waits_of s.views) k.keeper w
      mine f ticket longer is keeper wait one =
          let part = f.part in let once = f.once in let waits = f.waits in
          let w1 = same.waits in let t1 = same.turns in let p1 = same.parts in let k1 = same.ticket in
          let line = f.line wait in let l0 = line.0 in let l1 = line.1 in record {
            once = omega arith;
            part = omega arith;
            waits = omega arith;
            line = (λ _. (omega arith, omega arith));
            turn = (λ _. (k1 ∙ ticket, named, same.keeper ∙ keeper));
            knows = (λ some. same.room ∙ f.knows (omega arith));
            seen = (λ some. subst (λ (l : Book). Extends now l) (sym same.seen) (still k.log e now longer v.seen (f.seen (omega arith))));
            joined = subst (λ (l : List Book). AllByRecursion (Extends now) l) (sym same.joined) (all_map _ _ v.joined (still k.log e now longer) f.joined);
            own = subst (λ (l : List (ℕ × Entry)). AllByRecursion (StandsAfter now) l) (sym one)
                (all_append _ v.own _ (all_map _ _ v.own (stands k.log e now longer) f.own) ((λ i. entry_at (size (is i) + 1) (longer i)) ∙ entry_at-end k.log e, tt));
            after = subst (λ (l : List K). FollowsAll G l k.keeper) (sym same.after) f.after;
            spent = λ none. absurd (omega arith);
          }

  -- the entry that was in doubt has entered the book
  pub counts_settled : (slots id : ℕ) (v : SeatView K) (c : List (ℕ × Option (DeskState K))) (e : Entry) → v.turns ≡ 1 → v.doubt ≡ Some (Next.entry e) → size (with_entry v.book e) < 2 ^ 63 → Allows (KeptIn G opened seats) slots id (v, c) 2 (λ n. (n + 1) % 2 ^ 64) (CountsSettled (v, c))
  counts_settled slots id v c e on is short s k len at bound =
      let o = on_turn_now s id v k at on in
      let now : Book = with_doubt v.book v.doubt in
      let w = entered v now in
      let longer : now ≡ with_entry v.book e = ap (λ (d : Doubt). with_doubt v.book d) is in
      let none_more = sym (append-nil v.left) in
      let new : since (size v.book) now ≡ e ∷ [] = ap (since (size v.book)) longer ∙ came v.book e in (
        w,
        keeps,
        tt,
        grows s id v w k at on e now longer (subst (λ (l : Book). size l < 2 ^ 63) (sym longer) short) refl refl
            (record { parts = refl; waits = refl; turns = refl; ticket = refl; room = refl; keeper = refl; seen = refl; joined = refl; after = refl; left = refl })
            (doubt_set s.views id v w at [] none_more v.doubt o.doubt)
            (all_append _ v.settled _ (settled_still s.words s.homes s.views k id v w at [] none_more)
            (subst (λ (l : List Entry). AllByRecursion (IsLeftBySeat (set s.views id w)) l) (sym new) (left_set s.views id v w at [] none_more e (o.doubt e is), tt))),
        refl,
      )

  -- one entry that the step made is counted
  pub counts_made : (slots id : ℕ) (v : SeatView K) (d : DeskState K) (e : Entry) → v.turns ≡ 1 → d.book ≡ with_entry v.book e → size d.book < 2 ^ 63
      → Allows (KeptIn G opened seats) slots id (v, (0, Some d) ∷ []) 2 (λ n. (n + 1) % 2 ^ 64) (CountsMade (v, (0, Some d) ∷ []))
  counts_made slots id v d e on longer short s k len at bound =
      let o = on_turn_now s id v k at on in
      let w = grown v d.book in
      let none_more = sym (append-nil v.left) in (
        w,
        keeps,
        tt,
        grows s id v w k at on e d.book longer short refl refl
            (record { parts = refl; waits = refl; turns = refl; ticket = refl; room = refl; keeper = refl; seen = refl; joined = refl; after = refl; left = refl })
            (doubt_set s.views id v w at [] none_more v.doubt o.doubt)
            (settled_still s.words s.homes s.views k id v w at [] none_more),
        refl,
      )

  -- the desk is looked at again: what a view with the turn becomes, of which the doubt was left
  seen_again : (slots id : ℕ) (v w : SeatView K) (c : List (ℕ × Option (DeskState K))) (Told : ℕ → Me (Option (DeskState K)) (SeatView K) → Type 0) → v.turns ≡ 1 → (now : K) → w.keeper ≡ Some now → IfSome v.keeper (λ keeper. KeeperFollows G keeper now)
      → (w.parts ≡ v.parts) × (w.waits ≡ v.waits) × (w.turns ≡ v.turns) × (w.ticket ≡ v.ticket) × (w.opened ≡ v.opened) × (w.book ≡ v.book) × (w.seen ≡ v.seen) × (w.joined ≡ v.joined) × (w.own ≡ v.own) × (w.after ≡ v.after) × (w.settled ≡ v.settled)
      → (more : List Next) → w.left ≡ v.left ++ more
      → ((views : List (SeatView K)) → At views id v → DoubtIsLeft views v.doubt → DoubtIsLeft (set views id w) w.doubt)
      → ((n : ℕ) → Told n (w, c))
      → Allows (KeptIn G opened seats) slots id (v, c) 1 (λ n. n) Told
  seen_again slots id v w c Told on now is_now goes same more more_left doubt told s k len at bound =
      let o = on_turn_now s id v k at on in
      let n : ℕ = total waits_of s.views in
      let f = k.each id v at in
      let up : KeeperFollows G k.keeper now = subst (λ (x : Option K). IfSome x (λ keeper. KeeperFollows G keeper now)) o.keeper goes in
      let same_words : slice_set s.words 1 (slice_index s.words 1) ≡ s.words = ap (λ ws. slice_set ws 1 (slice_index ws 1)) k.words_are ∙ sym k.words_are in
      let p1 = same.0 in let w1 = same.1 in let t1 = same.2 in let k1 = same.3 in
      let f0 = f.once in let f1 = f.part in let f2 = f.waits in let v1 = o.waits in (
        w,
        keeps,
        tt,
        changes s.words s.homes s.views id v w k at (slice_set s.words 1 (slice_index s.words 1)) s.homes k.log k.front n now
            (omega arith)
            (same_words ∙ k.words_are)
            (inr (record { empty = o.out; who = id; view = w; at = here s.views id v w at; turn = t1 ∙ on; doubt = doubt s.views at o.doubt }))
            p1
            k.begun
            (λ p. ap (λ (l : List (ℕ × Entry)). count_at p l + once_below p (size k.log)) same.8)
            (λ i u ne there. others u (k.each i u there) (o.others i u ne there) up)
            (record {
              once = omega arith;
              part = omega arith;
              waits = omega arith;
              line = (λ ww. let l = f.line v1 in let l0 = l.0 in let l1 = l.1 in (omega arith, omega arith));
              turn = (λ _. (k1 ∙ o.ticket, same.5 ∙ o.named, is_now));
              knows = (λ some. same.4 ∙ f.knows (omega arith));
              seen = (λ some. subst (λ (l : Book). Extends k.log l) (sym same.6) (f.seen (omega arith)));
              joined = subst (λ (l : List Book). AllByRecursion (Extends k.log) l) (sym same.7) f.joined;
              own = subst (λ (l : List (ℕ × Entry)). AllByRecursion (StandsAfter k.log) l) (sym same.8) f.own;
              after = subst (λ (l : List K). FollowsAll G l now) (sym same.9) (follows_later G k.keeper now up v.after f.after);
              spent = (λ none. absurd (omega arith));
            })
            (λ i u ne there ww uw ts. ne (k.apart i id u v there at uw o.waits (sym ts ∙ k1)))
            more
            more_left
            (subst (λ (l : List Entry). AllByRecursion (IsLeftBySeat (set s.views id w)) l) (sym same.10) (all_map _ _ v.settled (left_set s.views id v w at more more_left) (k.left id v at))),
        told (slice_index s.words 1),
      )
    where
      others : (u : SeatView K) → SeatFits G opened k.log k.front (total waits_of s.views) k.keeper u → u.turns ≡ 0 → KeeperFollows G k.keeper now → SeatFits G opened k.log k.front (total waits_of s.views) now u
      others u f off up = record { once = f.once; part = f.part; waits = f.waits; line = f.line; turn = (λ o. absurd (omega arith)); knows = f.knows; seen = f.seen; joined = f.joined; own = f.own; after = follows_later G k.keeper now up u.after f.after; spent = f.spent }

  -- what a view's turn has left in doubt is left
  newly_left : (views : List (SeatView K)) (id : ℕ) (v w : SeatView K) → At views id v → (d : Doubt) → w.left ≡ v.left ++ option_items d → DoubtIsLeft (set views id w) d
  newly_left views id v w at d more e is =
      (id, w, here views id v w at, (length v.left, ap (λ l. slice_get l (length v.left)) (more ∙ ap (λ (x : Doubt). v.left ++ option_items x) is) ∙ get_last v.left (Next.entry e)))

  -- the desk has settled and stepped
  pub notes_settled : (slots id : ℕ) (v : SeatView K) (d : DeskState K) → v.turns ≡ 1 → IfSome v.keeper (λ keeper. KeeperFollows G keeper d.keeper) → Allows (KeptIn G opened seats) slots id (v, (0, Some d) ∷ []) 1 (λ n. n) (NotesSettled (v, (0, Some d) ∷ []))
  notes_settled slots id v d on goes =
      let w = noted v d.doubt (Some d.keeper) in
      seen_again slots id v w ((0, Some d) ∷ []) (NotesSettled (v, (0, Some d) ∷ [])) on d.keeper refl goes
      (refl, refl, refl, refl, refl, refl, refl, refl, refl, refl, refl)
      (option_items d.doubt)
      refl
      (λ views at left. newly_left views id v w at d.doubt refl)
      (λ n. refl)

  -- the desk could not settle
  pub notes_keeper : (slots id : ℕ) (v : SeatView K) (d : DeskState K) → v.turns ≡ 1 → IfSome v.keeper (λ keeper. KeeperFollows G keeper d.keeper) → Allows (KeptIn G opened seats) slots id (v, (0, Some d) ∷ []) 1 (λ n. n) (NotesKeeper (v, (0, Some d) ∷ []))
  notes_keeper slots id v d on goes =
      let w = with_keeper v (Some d.keeper) in
      seen_again slots id v w ((0, Some d) ∷ []) (NotesKeeper (v, (0, Some d) ∷ [])) on d.keeper refl goes
      (refl, refl, refl, refl, refl, refl, refl, refl, refl, refl, refl)
      []
      (sym (append-nil v.left))
      (λ views at left. doubt_set views id v w at [] (sym (append-nil v.left)) v.doubt left)
      (λ n. refl)

  -- the turn is passed, and the desk is at home
  pub passes : (slots id : ℕ) (v : SeatView K) (d : DeskState K) → v.turns ≡ 1 → IsOf G v d → d.book ≡ v.book → d.doubt ≡ v.doubt → v.keeper ≡ Some d.keeper
      → Allows (KeptIn G opened seats) slots id (v, (0, Some d) ∷ []) 1 (λ n. (n + 1) % 2 ^ 64) (Passes (v, (0, Some d) ∷ []))
  passes slots id v d on of is doubt keeper s k len at bound =
      let o = on_turn_now s id v k at on in
      let n : ℕ = total waits_of s.views in
      let w = ended v in
      let f = k.each id v at in
      let some_wait = total_has waits_of s.views id v at in
      let wait = o.waits in
      let part = f.part in
      let more : (k.front % 2 ^ 64 + 1) % 2 ^ 64 ≡ (k.front + 1) % 2 ^ 64 = mod-add-mod k.front (2 ^ 64) 1 in
      let all : k.front + n ≡ (k.front + 1) + (n - 1) = omega arith in
      let home : slice_set s.homes 0 (some (Some d)) ≡ some (Some d) ∷ [] = ap (λ hs. slice_set hs 0 (some (Some d))) o.out in
      let none_more = sym (append-nil v.left) in
      let same_room : of.0 ≡ opened = some_same _ _ (sym of.1 ∙ f.knows (omega arith)) in (
        w,
        gives,
        tt,
        changes s.words s.homes s.views id v w k at (slice_set s.words 1 ((slice_index s.words 1 + 1) % 2 ^ 64)) (slice_set s.homes 0 (some (Some d))) k.log (k.front + 1) (n - 1) k.keeper
            (omega arith)
            (ap (λ ws. slice_set ws 1 ((slice_index ws 1 + 1) % 2 ^ 64)) k.words_are ∙ (λ i. (all i) % 2 ^ 64 ∷ more i ∷ size k.log ∷ k.signals))
            (inl (record {
              desk = d;
              home = home;
              book = is ∙ o.named;
              keeper_is = some_same _ _ (sym keeper ∙ o.keeper);
              keeps = subst (λ (x : DeskState K). Keeps G x d) same_room of.2;
              doubt = subst (DoubtIsLeft (set s.views id w)) (sym doubt) (doubt_set s.views id v w at [] none_more v.doubt o.doubt);
              nobody = each_set (λ _ u. u.turns ≡ 0) s.views id w o.others refl;
            }))
            refl
            k.begun
            (λ p. refl)
            (λ i u ne there. others i u (k.each i u there) (o.others i u ne there) (λ uw same. ne (k.apart i id u v there at uw wait same)) o.ticket some_wait wait)
            (record { once = omega arith; part = omega arith; waits = omega arith; line = (λ o. absurd (omega arith)); turn = (λ o. absurd (omega arith)); knows = f.knows; seen = (λ _. extends_same k.log v.book (sym o.named)); joined = f.joined; own = f.own; after = all_append _ v.after (option_items v.keeper) f.after (subst (λ (x : Option K). FollowsAll G (option_items x) k.keeper) (sym o.keeper) (follows_same G k.keeper, tt)); spent = f.spent })
            (λ i u ne there ww uw same. omega arith)
            []
            none_more
            (settled_still s.words s.homes s.views k id v w at [] none_more),
        refl,
      )
    where
      others : (i : ℕ) (u : SeatView K) → SeatFits G opened k.log k.front (total waits_of s.views) k.keeper u → u.turns ≡ 0 → (u.waits ≡ 1 → u.ticket ≡ v.ticket → ⊥) → v.ticket ≡ k.front → v.waits ≤ total waits_of s.views → v.waits ≡ 1
          → SeatFits G opened k.log (k.front + 1) (total waits_of s.views - 1) k.keeper u
      others i u f off ne ticket some_wait wait =
          record { once = f.once; part = f.part; waits = f.waits; line = (λ w. let l0 = (f.line w).0 in let l1 = (f.line w).1 in let not_mine : u.ticket ≡ k.front → ⊥ = λ same. ne w (same ∙ sym ticket) in (omega arith, omega arith)); turn = (λ o. absurd (omega arith)); knows = f.knows; seen = f.seen; joined = f.joined; own = f.own; after = f.after; spent = f.spent }

  -- a word changes that only wakes seats
  pub signals_word : (slots id place : ℕ) (v : SeatView K) (c : List (ℕ × Option (DeskState K))) (f : ℕ → ℕ) → Allows (KeptIn G opened seats) slots id (v, c) (suc (suc (suc place))) f (Signals (v, c))
  signals_word slots id place v c f s k len at bound =
      let now : ℕ = f (slice_index s.words (suc (suc (suc place)))) in (
        v,
        keeps,
        tt,
        subst (λ (vs : List (SeatView K)). Rule (slice_set s.words (suc (suc (suc place))) now) s.homes vs) (sym (set_again s.views id v at)) (record {
          log = k.log;
          front = k.front;
          keeper = k.keeper;
          signals = slice_set k.signals place now;
          words_are = ap (λ ws. slice_set ws (suc (suc (suc place))) now) k.words_are;
          slot = k.slot;
          few = k.few;
          parts = k.parts;
          begun = k.begun;
          places = k.places;
          each = k.each;
          apart = k.apart;
          left = k.left;
        }),
        refl,
      )

  pub signals_at : (slots id word place : ℕ) (v : SeatView K) (c : List (ℕ × Option (DeskState K))) (f : ℕ → ℕ) → word ≡ 3 + place → Allows (KeptIn G opened seats) slots id (v, c) word f (Signals (v, c))
  signals_at slots id word place v c f is =
      let e : suc (suc (suc place)) ≡ word = omega (arith, is) in
      subst (λ (w : ℕ). Allows (KeptIn G opened seats) slots id (v, c) w f (Signals (v, c))) e (signals_word slots id place v c f)

  -- the same for a seat that is known by an equation
  abbrev Slots : Type 0
  Slots = List (ℕ × Option (DeskState K))

  pub counts_made_as : (slots id : ℕ) (v : SeatView K) (c : Slots) (d : DeskState K) (e : Entry) → c ≡ (0, Some d) ∷ [] → v.turns ≡ 1 → d.book ≡ with_entry v.book e → size d.book < 2 ^ 63
      → Allows (KeptIn G opened seats) slots id (v, c) 2 (λ n. (n + 1) % 2 ^ 64) (CountsMade (v, c))
  counts_made_as slots id v c d e is on longer short = subst (λ (c : Slots). Allows (KeptIn G opened seats) slots id (v, c) 2 (λ n. (n + 1) % 2 ^ 64) (CountsMade (v, c))) (sym is) (counts_made slots id v d e on longer short)

  pub notes_settled_as : (slots id : ℕ) (v : SeatView K) (c : Slots) (d : DeskState K) → c ≡ (0, Some d) ∷ [] → v.turns ≡ 1 → IfSome v.keeper (λ keeper. KeeperFollows G keeper d.keeper) → Allows (KeptIn G opened seats) slots id (v, c) 1 (λ n. n) (NotesSettled (v, c))
  notes_settled_as slots id v c d is on goes = subst (λ (c : Slots). Allows (KeptIn G opened seats) slots id (v, c) 1 (λ n. n) (NotesSettled (v, c))) (sym is) (notes_settled slots id v d on goes)

  pub notes_keeper_as : (slots id : ℕ) (v : SeatView K) (c : Slots) (d : DeskState K) → c ≡ (0, Some d) ∷ [] → v.turns ≡ 1 → IfSome v.keeper (λ keeper. KeeperFollows G keeper d.keeper) → Allows (KeptIn G opened seats) slots id (v, c) 1 (λ n. n) (NotesKeeper (v, c))
  notes_keeper_as slots id v c d is on goes = subst (λ (c : Slots). Allows (KeptIn G opened seats) slots id (v, c) 1 (λ n. n) (NotesKeeper (v, c))) (sym is) (notes_keeper slots id v d on goes)

  pub passes_as : (slots id : ℕ) (v : SeatView K) (c : Slots) (d : DeskState K) → c ≡ (0, Some d) ∷ [] → v.turns ≡ 1 → IsOf G v d → d.book ≡ v.book → d.doubt ≡ v.doubt → v.keeper ≡ Some d.keeper
      → Allows (KeptIn G opened seats) slots id (v, c) 1 (λ n. (n + 1) % 2 ^ 64) (Passes (v, c))
  passes_as slots id v c d is on of same doubt keeper = subst (λ (c : Slots). Allows (KeptIn G opened seats) slots id (v, c) 1 (λ n. (n + 1) % 2 ^ 64) (Passes (v, c))) (sym is) (passes slots id v d on of same doubt keeper)

  pub checks_turn_as : (slots id : ℕ) (m : Me (Option (DeskState K)) (SeatView K)) (v : SeatView K) (c : Slots) → m ≡ (v, c) → v.waits ≡ 1 → v.turns ≡ 0 → Allows (KeptIn G opened seats) slots id m 1 (λ n. n) (ChecksTurn G m)
  checks_turn_as slots id m v c is wait off = subst (λ (m : Me (Option (DeskState K)) (SeatView K)). Allows (KeptIn G opened seats) slots id m 1 (λ n. n) (ChecksTurn G m)) (sym is) (checks_turn slots id v c wait off)
