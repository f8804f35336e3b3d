-- What is run or skipped stands in the book.
use Rattle.std.proofs.Common.{◌≡◌, ℕ, zero, suc, ◌+◌, ◌<◌, ◌≤◌, ◌⊎◌, inl, inr, Bool, true, false, not, cond, List, [], ◌∷◌, Option, Some, None, refl, sym, ap, ◌∙◌, subst, arith}
use Rattle.std.specs.List.{AllByRecursion, Contains, cons_option, range_with_len}
use Rattle.std.specs.Option.{IsSome, MatchOption, option_map, option_map_or, option_or}
use Rattle.std.specs.Str.{bytes_eq}
use Rattle.std.proofs.lemmas.Bool.{cases_lt}
use Rattle.std.proofs.lemmas.Option.{same_Some}
use Rattle.std.proofs.lemmas.List.Elements.{Contains-append_right}
use Rattle.std.proofs.lemmas.Slice.Eq.{bytes_eq-Decides}
use Rattle.rv_rows.specs.declared.call.Call.{Call}
use Rattle.rv_turns.specs.Asks.{Sender, Ask}
use Rattle.rv_turns.specs.Outcomes.{refusal_of}
use Rattle.rv_turns.specs.Pushing.{Pushes}
use Rattle.rv_turns.specs.declared.mutation.Mutation.{Mutation}
use Rattle.rv_turns.specs.declared.pushing.Outcome.{Outcome}
use Rattle.rv_turns.specs.declared.pushing.Outcome.TheVariants.{Acted, Skipped, Pulled, Retired, Closed, Refused}
use Rattle.rv_turns.specs.declared.refusal.Refusal.{Refusal}
use Rattle.rv_book.specs.declared.entry.Entry.{Entry}
use Rattle.rv_book.specs.declared.entry.Entry.TheVariants.{Act, Look, Retire}
use Rattle.rv_book.specs.Entries.{last_in}
use Rattle.rv_book.specs.Book.{Book, bound, group_of, last, opening, page_client, page_group}
use Rattle.rv_book.specs.SoundPages.{IsOpening}
use Rattle.rv_history.specs.ClosingLaws.{groupless_last}
use Rattle.rv_history.specs.GroupLaws.{bound_stays, groups_have_one_user, clients_have_one_group, group_stays}
use Rattle.rv_history.specs.Lawful.{IsLawful}
use Rattle.rv_history.specs.LawfulBookLaws.{ids_count_up, last_append}
use Rattle.rv_history.specs.Properties.{act_ids, HasRun, IsEntered}
use Rattle.rv_history.specs.Machine.{ReplyText, Step, TakesMutation}
use Rattle.rv_history.specs.SoundClosingLaws.{page_act}
use Rattle.rv_history.specs.SuccessionLaws.{mutations_stay}
use Rattle.rv_history.specs.Served.{Served, IsSound, TakesTurn}
use Rattle.rv_history.specs.TurnLaws.{no_trouble, step_of}
use Rattle.rv_history.proofs.KeptLaws.{turns_keep, pushes_keep, settled_lawful}

-- an element is the first, or is among the others
first_or : {X : Type 0} (x : X) (xs : List X) (y : X) → Contains (x ∷ xs) y → (x ≡ y) ⊎ Contains xs y
first_or x xs y (zero, lt, is) = inl is
first_or x xs y (suc k, lt, is) = inr (k, omega arith, is)

later : {X : Type 0} (x : X) (xs : List X) (y : X) → Contains xs y → Contains (x ∷ xs) y
later x xs y there = Contains-append_right (x ∷ []) xs y there

-- the numbers of a range
in_range : (from count n : ℕ) → from ≤ n → n < from + count → Contains (range_with_len from count) n
in_range from zero n le lt = absurd (omega arith)
in_range from (suc count) n le lt =
    elim (omega_split from n le) as (λ _. Contains (range_with_len from (suc count)) n) [
      | inl same ↦ (0, omega arith, same)
      | inr above ↦ later from (range_with_len (from + 1) count) n (in_range (from + 1) count n above (omega arith))
    ]
  where
    omega_split : (a b : ℕ) → a ≤ b → (a ≡ b) ⊎ (a + 1 ≤ b)
    omega_split a b le = grind (arith, le)

-- an act of a client, with its id
abbrev HasAct : List ℕ → ℕ → List Entry → Type 0
HasAct client id entries = (user : List ℕ) × (group : List ℕ) × (call : Call) × Contains entries (Act user group client id call)

act_later : (client : List ℕ) (id : ℕ) (entry : Entry) (entries : List Entry) → HasAct client id entries → HasAct client id (entry ∷ entries)
act_later client id entry entries (user, group, call, there) = (user, group, call, later entry entries (Act user group client id call) there)

acted : (client : List ℕ) (n : ℕ) (entries : List Entry) → Contains (act_ids client entries) n → HasAct client n entries
acted client n [] (k, lt, is) = absurd (omega arith)
acted client n (Act user group actor id call ∷ entries) there =
    elim (bytes_eq actor client) as (λ b. bytes_eq actor client ≡ b → Contains (cons_option (cond b (Some id) None) (act_ids client entries)) n → HasAct client n (Act user group actor id call ∷ entries)) [
      | true ↦ λ same within. mine same (acted client n entries) (first_or id (act_ids client entries) n within)
      | false ↦ λ other within. act_later client n (Act user group actor id call) entries (acted client n entries within)
    ] refl there
  where
    mine : bytes_eq actor client ≡ true → (Contains (act_ids client entries) n → HasAct client n entries) → (id ≡ n) ⊎ Contains (act_ids client entries) n → HasAct client n (Act user group actor id call ∷ entries)
    mine same rest (inl is) =
        let who : actor ≡ client = (bytes_eq-Decides actor client).0 same in
        (user, group, call, (0, omega arith, (λ i. Act user group (who i) (is i) call)))
    mine same rest (inr within) = act_later client n (Act user group actor id call) entries (rest within)
acted client n (Look user group order base ∷ entries) there = act_later client n (Look user group order base) entries (acted client n entries there)
acted client n (Retire group ∷ entries) there = act_later client n (Retire group) entries (acted client n entries there)

-- in a lawful book each id up to the client's last stands, or is not above its last on the page
has_act : (book : Book) (client : List ℕ) (n : ℕ) → IsLawful book → n ≤ last client book → HasAct client n book.entries ⊎ (n ≤ last client (opening book))
has_act book client n lawful le =
    elim (cases_lt (last client (opening book)) n) as (λ _. HasAct client n book.entries ⊎ (n ≤ last client (opening book))) [
      | inl above ↦ inl (acted client n book.entries (subst (λ (ids : List ℕ). Contains ids n) (sym (ids_count_up book client lawful)) (in_range (last client (opening book) + 1) (last_in client book.entries) n (omega (arith, above)) (omega (arith, le, whole)))))
      | inr below ↦ inr below
    ]
  where
    whole : last client book ≡ last client (opening book) + last_in client book.entries
    whole = last_append client (opening book) book.entries

is_not : (b : Bool) → not b ≡ false → b ≡ true
is_not true h = refl
is_not false h = absurd (cc)

-- whom a group is bound to, where it is not another's, and which group a client is of, where it is not of another
same_text : (found : Option (List ℕ)) (is text : List ℕ) → found ≡ Some is → option_map_or (λ other. not (bytes_eq other text)) found false ≡ false → is ≡ text
same_text None is text some own = absurd (cc)
same_text (Some other) is text some own = sym (same_Some other is some) ∙ (bytes_eq-Decides other text).0 (is_not (bytes_eq other text) own)

itself : (text : List ℕ) → bytes_eq text text ≡ true
itself text = (bytes_eq-Decides text text).1 refl

-- A client that the page has of an id has its group there, and that group its user.
home_there : (book : Book) (client : List ℕ) → 1 ≤ last client (opening book) → (group : List ℕ) × (group_of client (opening book) ≡ Some group)
home_there book client first = by (group_of client (opening book)) refl
  where
    by : (o : Option (List ℕ)) → group_of client (opening book) ≡ o → (group : List ℕ) × (group_of client (opening book) ≡ Some group)
    by None none = absurd (omega (arith, first, groupless_last client (opening book) none))
    by (Some group) some = (group, some)

owner_there : (book : Book) (client group : List ℕ) → IsOpening book.page → group_of client (opening book) ≡ Some group → (user : List ℕ) × (bound group (opening book) ≡ Some user)
owner_there book client group opens home = by (page_group group book.page) refl (page_act book.page client group opens (on_page (option_map (λ c. c.1) (page_client client book.page)) home)).1
  where
    on_page : (o : Option (List ℕ)) → option_or o None ≡ Some group → o ≡ Some group
    on_page None some = absurd (cc)
    on_page (Some other) some = some

    by : (o : Option (List ℕ × List ℕ × ℕ × Bool)) → page_group group book.page ≡ o → IsSome o → (user : List ℕ) × (bound group (opening book) ≡ Some user)
    by None none some = absurd (cc)
    by (Some g) is some = (g.1, ap (λ (p : Option (List ℕ × List ℕ × ℕ × Bool)). option_or (option_map (λ g. g.1) p) None) is)

-- They are those of the sender, whose mutation is taken.
paged : (from : Sender) (m : Mutation) (book : Book) → IsLawful book → TakesMutation from m.client book → 1 ≤ m.id → m.id ≤ last m.client (opening book) → HasRun from (opening book) m
paged from m book lawful takes first below =
    let (group, home) = home_there book m.client (omega (arith, first, below)) in
    let (user, owner) = owner_there book m.client group lawful.opens home in
    let which : group ≡ from.group = same_text (group_of m.client book) group from.group (group_stays m.client group (opening book) book.entries home) takes.here in
    let bound_there : bound from.group (opening book) ≡ Some user = subst (λ (g : List ℕ). bound g (opening book) ≡ Some user) which owner in
    let who : user ≡ from.user = same_text (bound from.group book) user from.user (bound_stays from.group user (opening book) book.entries bound_there) takes.admits.own in
    record { id = below; home = home ∙ ap (λ (g : List ℕ). Some g) which; owner = bound_there ∙ ap (λ (u : List ℕ). Some u) who }

-- and it is an act of the sender
entered : (from : Sender) (m : Mutation) (book : Book) → IsLawful book → TakesMutation from m.client book → 1 ≤ m.id → HasAct m.client m.id book.entries ⊎ (m.id ≤ last m.client (opening book)) → IsEntered from book m
entered from m book lawful takes first (inr below) = inr (paged from m book lawful takes first below)
entered from m book lawful takes first (inl (user, group, call, there)) =
    let e : Entry = Act user group m.client m.id call in
    let owner : bound group book ≡ Some user = groups_have_one_user book group user e lawful there (ap (λ (b : Bool). cond b (Some user) None) (itself group)) in
    let home : group_of m.client book ≡ Some group = clients_have_one_group book m.client group e lawful there (ap (λ (b : Bool). cond b (Some group) None) (itself m.client)) in
    let which : group ≡ from.group = same_text (group_of m.client book) group from.group home takes.here in
    let bound_here : bound from.group book ≡ Some user = subst (λ (g : List ℕ). bound g book ≡ Some user) which owner in
    let who : user ≡ from.user = same_text (bound from.group book) user from.user bound_here takes.admits.own in
    inl (call, subst (λ (x : Entry). Contains book.entries x) (λ i. Act (who i) (which i) m.client m.id call) there)

module _ (write : ReplyText) (from : Sender) where
  pub mutation_stands : (limit : ℕ) (m : Mutation) (book new : Book) (outcome : Outcome) → Step write limit book (Ask.mutation from m) outcome new → refusal_of outcome ≡ None → IsLawful book → 1 ≤ m.id → IsEntered from new m
  mutation_stands limit m book new (Acted place) (takes, next, below, at, is) none lawful first =
      let e : Entry = Act from.user from.group m.client m.id m.call in
      inl (m.call, subst (λ (b : Book). Contains b.entries e) (sym is) (Contains-append_right book.entries (e ∷ []) e (0, omega arith, refl)))
  mutation_stands limit m book new (Skipped number) (takes, le, is, same) none lawful first =
      subst (λ (b : Book). IsEntered from b m) (sym same) (entered from m book lawful takes first (has_act book m.client m.id lawful le))
  mutation_stands limit m book new (Refused refusal) step some lawful first = absurd (cc)
  mutation_stands limit m book new (Pulled reply) never none lawful first = absurd never
  mutation_stands limit m book new (Retired place) never none lawful first = absurd never
  mutation_stands limit m book new (Closed place) never none lawful first = absurd never

  turn_stands : (m : Mutation) (old new : Served) (outcome : Outcome) → TakesTurn write old (Ask.mutation from m) outcome new → refusal_of outcome ≡ None → IsSound old → 1 ≤ m.id → IsEntered from new.book m
  turn_stands m old new outcome taken none sound first =
      mutation_stands old.limit m taken.settled new.book outcome (step_of write (Ask.mutation from m) outcome old new taken (no_trouble outcome none)) none (settled_lawful old taken.settled taken.settles sound) first

  -- a push that is not refused goes on after each mutation
  went_on : (ms : List Mutation) (mid new : Served) (later : Bool) (refused : Option Refusal)
      → MatchOption refused (Pushes (TakesTurn write) from ms mid None later new) (λ why. (None ≡ Some why) × (later ≡ false) × (new ≡ mid))
      → (refused ≡ None) × Pushes (TakesTurn write) from ms mid None later new
  went_on ms mid new later None goes = (refl, goes)
  went_on ms mid new later (Some why) (is, none, same) = absurd (cc)

  pub pushes_stand : (mutations : List Mutation) (old new : Served) (acted : Bool) → Pushes (TakesTurn write) from mutations old None acted new → IsSound old → AllByRecursion (λ m. 1 ≤ m.id → IsEntered from new.book m) mutations
  pushes_stand [] old new acted pushed sound = tt
  pushes_stand (m ∷ ms) old new acted (outcome, mid, later, taken, acts, rest) sound =
      let (none, goes) = went_on ms mid new later (refusal_of outcome) rest in
      let kept = turns_keep write (Ask.mutation from m) old mid outcome taken sound in
      let more = (pushes_keep write from ms mid new None later goes kept.sound).more in
      (λ first. mutations_stay from m mid.book new.book kept.sound.lawful more (turn_stands m old mid outcome taken none sound first), pushes_stand ms mid new later goes kept.sound)
