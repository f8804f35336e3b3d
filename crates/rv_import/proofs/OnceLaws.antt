-- Each record of an import is run once.
use Rattle.std.proofs.Common.{◌≡◌, ℕ, ◌+◌, ◌≤◌, Bool, true, false, not, cond, List, [], ◌∷◌, ◌++◌, length, map, Option, Some, None, IsSome, refl, sym, ap, ◌∙◌, subst, arith, append-nil, ◌||◌}
use Rattle.std.specs.List.{AllByRecursion}
use Rattle.std.specs.Option.{option_map_or}
use Rattle.std.specs.Str.{bytes_eq}
use Rattle.std.proofs.lemmas.List.{length-append, length-map}
use Rattle.std.proofs.lemmas.Slice.Eq.{bytes_eq-Decides}
use Rattle.rv_rows.specs.declared.call.Call.{Call}
use Rattle.rv_turns.specs.Asks.{Sender, Ask}
use Rattle.rv_turns.specs.Outcomes.{refusal_of, trouble_of}
use Rattle.rv_turns.specs.declared.mutation.Mutation.{Mutation}
use Rattle.rv_turns.specs.declared.pushing.Outcome.{Outcome}
use Rattle.rv_turns.specs.declared.pushing.Outcome.TheVariants as outcome
use Rattle.rv_turns.specs.declared.refusal.Refusal.{Refusal}
use Rattle.rv_turns.specs.declared.refusal.Refusal.TheVariants as refusals
use Rattle.rv_turns.specs.declared.refusal.Trouble.{Trouble}
use Rattle.rv_turns.specs.declared.refusal.Trouble.TheVariants.{Keeper, Changed}
use Rattle.rv_book.specs.declared.entry.Entry.{Entry}
use Rattle.rv_book.specs.declared.entry.Entry.TheVariants.{Act}
use Rattle.rv_book.specs.Book.{Book, bound, group_of, last, retired, size, with_entry}
use Rattle.rv_book.specs.BookWordLaws.{last-with_entry, retired-with_entry, size-with_entry}
use Rattle.rv_history.specs.GroupLaws.{owner_is, home_is}
use Rattle.rv_history.specs.Machine.{ReplyText, Step, TakesMutation, Refuses}
use Rattle.rv_history.specs.Served.{Next, Served, TurnOf, TakesTurn, Doubt}
use Rattle.rv_history.specs.TurnLaws.{no_trouble, step_of}
use Rattle.rv_import.specs.Imports.{asked_of, client_id}
use Rattle.rv_import.specs.Importing.{importer, TakesInOrder, AreDone, is_skipped, Imported, Imports}
use Rattle.rv_import.specs.declared.import_end.ImportEnd.{ImportEnd}
use Rattle.rv_import.specs.declared.import_end.ImportEnd.TheVariants.{Done, TooLarge, BadRecord, Refused, Memory}
use Rattle.rv_import.specs.ActsOnce.{calls_of, calls_asked, AreAll, HasFirst, HasAll, StartsFirst, ActsOnce}
use Rattle.rv_import.proofs.ActCalls.{Numbered, all_count, numbered, numbered_front, settled_is}
use Rattle.rv_import.proofs.ResumeLaws.{taken_front}

itself : (text : List ℕ) → not (bytes_eq text text) ≡ false
itself text = ap not ((bytes_eq-Decides text text).1 refl)

or_no : (b : Bool) → b ≡ false → (b || false) ≡ false
or_no true some = some
or_no false none = refl

-- a client that was let in is let in after its act
takes_more : (from : Sender) (client : List ℕ) (id : ℕ) (call : Call) (book : Book) → TakesMutation from client book → TakesMutation from client (with_entry book (Act from.user from.group client id call))
takes_more from client id call book takes =
    let e : Entry = Act from.user from.group client id call in
    let mine : bytes_eq from.group from.group ≡ true = (bytes_eq-Decides from.group from.group).1 refl in
    let here : bytes_eq client client ≡ true = (bytes_eq-Decides client client).1 refl in
    let owner : bound from.group (with_entry book e) ≡ Some from.user = owner_is from.user from.group book (e ∷ []) takes.admits.own (ap (λ (b : Bool). cond b (Some from.user) None) mine) in
    let home : group_of client (with_entry book e) ≡ Some from.group = home_is client from.group book (e ∷ []) takes.here (ap (λ (b : Bool). cond b (Some from.group) None) here) in
    record {
      admits = record {
        own = ap (λ (o : Option (List ℕ)). option_map_or (λ other. not (bytes_eq other from.user)) o false) owner ∙ itself from.user;
        stands = retired-with_entry from.group book e ∙ or_no (retired from.group book) takes.admits.stands;
      };
      here = ap (λ (o : Option (List ℕ)). option_map_or (λ other. not (bytes_eq other from.group)) o false) home ∙ itself from.group;
    }

module _ (write : ReplyText) (from : Sender) where
  -- a client whose mutation was run or skipped is let in afterwards
  lets_in : (limit : ℕ) (m : Mutation) (book new : Book) (o : Outcome) → Step write limit book (Ask.mutation from m) o new → refusal_of o ≡ None → TakesMutation from m.client new
  lets_in limit m book new (outcome.Acted place) (takes, next, below, here, is) none =
      subst (λ (b : Book). TakesMutation from m.client b) (sym is) (takes_more from m.client m.id m.call book takes)
  lets_in limit m book new (outcome.Skipped number) (takes, le, is, same) none = subst (λ (b : Book). TakesMutation from m.client b) (sym same) takes
  lets_in limit m book new (outcome.Refused refusal) step some = absurd (cc)
  lets_in limit m book new (outcome.Pulled reply) never none = absurd never
  lets_in limit m book new (outcome.Retired place) never none = absurd never
  lets_in limit m book new (outcome.Closed place) never none = absurd never

  -- and has done it
  has_done : (limit : ℕ) (m : Mutation) (book new : Book) (o : Outcome) → Step write limit book (Ask.mutation from m) o new → refusal_of o ≡ None → m.id ≤ last m.client new
  has_done limit m book new (outcome.Acted place) (takes, next, below, here, is) none =
      let e : Entry = Act from.user from.group m.client m.id m.call in
      let own : bytes_eq m.client m.client ≡ true = (bytes_eq-Decides m.client m.client).1 refl in
      let count : last m.client new ≡ last m.client book + 1 = ap (λ (b : Book). last m.client b) is ∙ last-with_entry m.client book e ∙ ap (λ (b : Bool). last m.client book + cond b 1 0) own in
      omega (arith, next, count)
  has_done limit m book new (outcome.Skipped number) (takes, le, is, same) none = subst (λ (b : Book). m.id ≤ last m.client b) (sym same) le
  has_done limit m book new (outcome.Refused refusal) step some = absurd (cc)
  has_done limit m book new (outcome.Pulled reply) never none = absurd never
  has_done limit m book new (outcome.Retired place) never none = absurd never
  has_done limit m book new (outcome.Closed place) never none = absurd never

  -- a client that is let in is refused nothing that it has done
  not_refused : (limit : ℕ) (m : Mutation) (book : Book) (refusal : Refusal) → TakesMutation from m.client book → m.id ≤ last m.client book → Refuses limit book (Ask.mutation from m) refusal → ⊥
  not_refused limit m book refusals.GroupOfOther takes le why = let both : true ≡ false = sym why ∙ takes.admits.own in cc
  not_refused limit m book refusals.NotFound takes le why = let both : true ≡ false = sym why.1 ∙ takes.admits.stands in cc
  not_refused limit m book refusals.ClientOfOther takes le why = let both : true ≡ false = sym why.1 ∙ takes.here in cc
  not_refused limit m book (refusals.Future expected got) takes le why = let above = why.1 in omega (arith, le, above)
  not_refused limit m book (refusals.Limit what at) takes le why = let next = why.1 in omega (arith, le, next)
  not_refused limit m book refusals.Memory takes le why = let next = why.1 in omega (arith, le, next)
  not_refused limit m book refusals.NoGroup takes le never = never
  not_refused limit m book (refusals.Behind length) takes le never = never
  not_refused limit m book (refusals.Trouble trouble) takes le never = never

  -- a step for what its client has done
  step_stays : (limit : ℕ) (m : Mutation) (book new : Book) (o : Outcome) → m.id ≤ last m.client book → Step write limit book (Ask.mutation from m) o new → new ≡ book
  step_stays limit m book new (outcome.Acted place) le (takes, next, below, here, is) = absurd (omega (arith, le, next))
  step_stays limit m book new (outcome.Skipped number) le (takes, most, is, same) = same
  step_stays limit m book new (outcome.Refused refusal) le (why, same) = same
  step_stays limit m book new (outcome.Pulled reply) le never = absurd never
  step_stays limit m book new (outcome.Retired place) le never = absurd never
  step_stays limit m book new (outcome.Closed place) le never = absurd never

  step_skips : (limit : ℕ) (m : Mutation) (book new : Book) (o : Outcome) → m.id ≤ last m.client book → TakesMutation from m.client book → Step write limit book (Ask.mutation from m) o new → is_skipped o ≡ true
  step_skips limit m book new (outcome.Acted place) le let_in (takes, next, below, here, is) = absurd (omega (arith, le, next))
  step_skips limit m book new (outcome.Skipped number) le let_in step = refl
  step_skips limit m book new (outcome.Refused refusal) le let_in (why, same) = absurd (not_refused limit m book refusal let_in le why)
  step_skips limit m book new (outcome.Pulled reply) le let_in never = absurd never
  step_skips limit m book new (outcome.Retired place) le let_in never = absurd never
  step_skips limit m book new (outcome.Closed place) le let_in never = absurd never

  -- what a turn for what its client has done is, where nothing is in doubt
  abbrev Rests : Served → Mutation → Outcome → Served → Type 0
  Rests old m o new = (new.book ≡ old.book) × (new.doubt ≡ None) × Step write old.limit old.book (Ask.mutation from m) o new.book

  no_entry : (book : Book) (entry : Entry) → with_entry book entry ≡ book → ⊥
  no_entry book entry same = let count : size (with_entry book entry) ≡ size book = ap (λ (b : Book). size b) same in omega (arith, count, size-with_entry book entry)

  rests_by : (old new : Served) (m : Mutation) (o : Outcome) (left : Doubt) (trouble : Option Trouble) → old.doubt ≡ None → m.id ≤ last m.client old.book → TurnOf write old old.book (Ask.mutation from m) o left trouble new → Rests old m o new
  rests_by old new m o None None sure le (step, none, still) = (step_stays old.limit m old.book new.book o le step, none, step)
  rests_by old new m o None (Some trouble) sure le (same, stays) = absurd (some_none old.doubt sure stays.doubt)
    where
      some_none : (doubt : Doubt) → doubt ≡ None → IsSome doubt → ⊥
      some_none None none some = cc
      some_none (Some entry) none some = cc
  rests_by old new m o (Some (Next.entry entry)) (Some Keeper) sure le left = absurd (no_entry old.book entry (step_stays old.limit m old.book (with_entry old.book entry) left.outcome le left.step))
  rests_by old new m o (Some (Next.closed closed)) (Some Keeper) sure le left = absurd left.is
  rests_by old new m o (Some next) (Some (Changed kept found)) sure le never = absurd never
  rests_by old new m o (Some next) None sure le never = absurd never

  rests : (old new : Served) (m : Mutation) (o : Outcome) → old.doubt ≡ None → m.id ≤ last m.client old.book → TakesTurn write old (Ask.mutation from m) o new → Rests old m o new
  rests old new m o sure le taken =
      let at : taken.settled ≡ old.book = settled_is old.book old.doubt taken.settled sure taken.settles in
      rests_by old new m o taken.left (trouble_of o) sure le (subst (λ (b : Book). TurnOf write old b (Ask.mutation from m) o taken.left (trouble_of o) new) at taken.turn)

  -- mutations that the client has all done
  stays : (ms : List Mutation) (client : List ℕ) (n : ℕ) (first now : Served) (os : List Outcome) → first.doubt ≡ None → Numbered client n ms → n + length ms ≤ last client first.book + 1
      → TakesInOrder (TakesTurn write) from ms first os now → now.book ≡ first.book
  stays [] client n first now [] sure own le same = ap (λ (s : Served). s.book) same
  stays [] client n first now (o ∷ os) sure own le never = absurd never
  stays (m ∷ ms) client n first now [] sure own le never = absurd never
  stays (m ∷ ms) client n first now (o ∷ os) sure (who, id, others) le (mid, taken, rest) =
      let lasts : last m.client first.book ≡ last client first.book = ap (λ (c : List ℕ). last c first.book) who in
      let here = rests first mid m o sure (omega (arith, id, lasts, le)) taken in
      let counts : last client mid.book ≡ last client first.book = ap (λ (b : Book). last client b) here.0 in
      stays ms client (n + 1) mid now os here.1 others (omega (arith, le, counts)) rest ∙ here.0

  skips : (ms : List Mutation) (client : List ℕ) (n : ℕ) (first now : Served) (os : List Outcome) → first.doubt ≡ None → TakesMutation from client first.book → Numbered client n ms → n + length ms ≤ last client first.book + 1
      → TakesInOrder (TakesTurn write) from ms first os now → AllByRecursion (λ o. is_skipped o ≡ true) os
  skips [] client n first now [] sure let_in own le same = tt
  skips [] client n first now (o ∷ os) sure let_in own le never = absurd never
  skips (m ∷ ms) client n first now [] sure let_in own le never = absurd never
  skips (m ∷ ms) client n first now (o ∷ os) sure let_in (who, id, others) le (mid, taken, rest) =
      let lasts : last m.client first.book ≡ last client first.book = ap (λ (c : List ℕ). last c first.book) who in
      let most : m.id ≤ last m.client first.book = omega (arith, id, lasts, le) in
      let here = rests first mid m o sure most taken in
      let counts : last client mid.book ≡ last client first.book = ap (λ (b : Book). last client b) here.0 in
      let lets : TakesMutation from m.client first.book = subst (λ (c : List ℕ). TakesMutation from c first.book) (sym who) let_in in
      let next : TakesMutation from client mid.book = subst (λ (b : Book). TakesMutation from client b) (sym here.0) let_in in
      (step_skips first.limit m first.book mid.book o most lets here.2, skips ms client (n + 1) mid now os here.1 next others (omega (arith, le, counts)) rest)

  -- after a turn without a trouble nothing is in doubt
  none_left : (ask : Ask) (outcome : Outcome) (old new : Served) (settled : Book) (left : Doubt) (trouble : Option Trouble) → trouble ≡ None → TurnOf write old settled ask outcome left trouble new → new.doubt ≡ None
  none_left ask outcome old new settled None None none (step, doubt, still) = doubt
  none_left ask outcome old new settled (Some entry) None none never = absurd never
  none_left ask outcome old new settled left (Some trouble) none turn = absurd (cc)

  no_doubt : (m : Mutation) (outcome : Outcome) (old new : Served) → TakesTurn write old (Ask.mutation from m) outcome new → refusal_of outcome ≡ None → new.doubt ≡ None
  no_doubt m outcome old new taken none = none_left (Ask.mutation from m) outcome old new taken.settled taken.left (trouble_of outcome) (no_trouble outcome none) taken.turn

  -- After mutations that were run or skipped the client is let in, nothing is in doubt, and it has done up to this id.
  record Ended (client : List ℕ) (id : ℕ) (now : Served) : Type 0 where
    pub lets : TakesMutation from client now.book
    pub sure : now.doubt ≡ None
    pub done : id ≤ last client now.book

  turn_ends : (m : Mutation) (client : List ℕ) (old new : Served) (o : Outcome) → m.client ≡ client → TakesTurn write old (Ask.mutation from m) o new → refusal_of o ≡ None → Ended client m.id new
  turn_ends m client old new o who taken none =
      let step = step_of write (Ask.mutation from m) o old new taken (no_trouble o none) in
      record {
        lets = subst (λ (c : List ℕ). TakesMutation from c new.book) who (lets_in old.limit m taken.settled new.book o step none);
        sure = no_doubt m o old new taken none;
        done = subst (λ (c : List ℕ). m.id ≤ last c new.book) who (has_done old.limit m taken.settled new.book o step none);
      }

  ends : (m : Mutation) (ms : List Mutation) (client : List ℕ) (n : ℕ) (first now : Served) (os : List Outcome) → Numbered client n (m ∷ ms) → TakesInOrder (TakesTurn write) from (m ∷ ms) first os now → AreDone os → Ended client (n + length ms) now
  ends m ms client n first now [] own never nones = absurd never
  ends m [] client n first now (o ∷ []) (who, id, others) (mid, taken, same) (none, nones) =
      let last_id : m.id ≡ n + 0 = omega (arith, id) in
      subst (λ (s : Served). Ended client (n + 0) s) (sym same) (subst (λ (k : ℕ). Ended client k mid) last_id (turn_ends m client first mid o who taken none))
  ends m [] client n first now (o ∷ p ∷ os) own (mid, taken, never) nones = absurd never
  ends m (k ∷ ms) client n first now (o ∷ os) (who, id, others) (mid, taken, rest) (none, nones) =
      let more : (n + 1) + length ms ≡ n + length (k ∷ ms) = omega arith in
      subst (λ (i : ℕ). Ended client i now) more (ends k ms client (n + 1) mid now os others rest nones)

  -- as many acts as mutations
  as_many : (ms : List Mutation) (client : List ℕ) (first now : Served) (os : List Outcome) → Numbered client 1 ms → TakesInOrder (TakesTurn write) from ms first os now → AreDone os → length ms ≤ last client now.book
  as_many [] client first now os own turns done = omega arith
  as_many (m ∷ ms) client first now os own turns done = let enough = (ends m ms client 1 first now os own turns done).done in omega (arith, enough)

  -- the same mutations again, or the first of them
  abbrev AllSkipped : Served → Served → List Outcome → Type 0
  AllSkipped old new os = (new.book ≡ old.book) × AllByRecursion (λ o. is_skipped o ≡ true) os

  again : (ms taken left : List Mutation) (client : List ℕ) (first now later : Served) (outcomes os : List Outcome) → Numbered client 1 ms → length ms ≤ last client now.book
      → TakesInOrder (TakesTurn write) from ms first outcomes now → AreDone outcomes → ms ≡ taken ++ left → TakesInOrder (TakesTurn write) from taken now os later → AllSkipped now later os
  again ms [] left client first now later outcomes [] own le turns done all same = (ap (λ (s : Served). s.book) same, tt)
  again ms [] left client first now later outcomes (o ∷ os) own le turns done all never = absurd never
  again [] (t ∷ taken) left client first now later outcomes os own le turns done all more = absurd (cc)
  again (m ∷ ms) (t ∷ taken) left client first now later outcomes os own le turns done all more =
      let ended = ends m ms client 1 first now outcomes own turns done in
      let front : Numbered client 1 (t ∷ taken) = numbered_front client 1 (t ∷ taken) left (subst (λ (l : List Mutation). Numbered client 1 l) all own) in
      let count : length (m ∷ ms) ≡ length (t ∷ taken) + length left = ap (λ (l : List Mutation). length l) all ∙ length-append (t ∷ taken) left in
      let fits : 1 + length (t ∷ taken) ≤ last client now.book + 1 = omega (arith, count, le) in
      (stays (t ∷ taken) client 1 now later os ended.sure front fits more, skips (t ∷ taken) client 1 now later os ended.sure ended.lets front fits more)

-- the first of a list that are as many are all
front_all : (calls left all : List Call) → all ≡ calls ++ left → length all ≤ length calls → calls ≡ all
front_all calls [] all is le = sym (append-nil calls) ∙ sym is
front_all calls (x ∷ left) all is le = absurd (let count = ap (λ (l : List Call). length l) is ∙ length-append calls (x ∷ left) in omega (arith, le, count))

-- where the calls are those of mutations, there are as many acts
acts_for : (client : List ℕ) (book : Book) (ms : List Mutation) → AreAll client (map (λ m. m.call) ms) book → length ms ≤ last client book
acts_for client book ms has =
    let count : last client book ≡ length ms = sym (all_count client book has.paged has.count) ∙ ap (λ (x : List Call). length x) (sym has.whole) ∙ length-map ms (λ m. m.call) in
    omega (arith, count)

module _ (write : ReplyText) where
  pub acts_once : (user name bytes : List ℕ) (first now : Served) (outcomes : List Outcome) → StartsFirst user name bytes first
      → TakesInOrder (TakesTurn write) (importer user) (asked_of user name bytes).mutations first outcomes now → AreDone outcomes → ActsOnce write user name bytes now
  acts_once user name bytes first now outcomes fronts turns done =
      let client : List ℕ = client_id user name in
      let asked : List Call = calls_asked user name bytes in
      let ms : List Mutation = (asked_of user name bytes).mutations in
      let here : HasFirst user name bytes now.book = (taken_front write user name bytes ms [] first now outcomes (sym (append-nil ms)) turns fronts).0 in
      let acts : List Call = here.paged ++ calls_of client now.book.entries in
      let many : length ms ≤ last client now.book = as_many write (importer user) ms client first now outcomes (numbered user name bytes) turns done in
      let enough : length asked ≤ length acts = omega (arith, many, all_count client now.book here.paged here.count, length-map ms (λ m. m.call)) in
      record {
        all = record { paged = here.paged; count = here.count; whole = sym (front_all acts here.left asked here.whole enough) };
        again = λ taken rest os later is more. again write (importer user) ms taken rest client first now later outcomes os (numbered user name bytes) many turns done is more;
      }

  imported_rests : (user name bytes : List ℕ) (first now : Served) (end : ImportEnd) → HasAll user name bytes first.book → first.doubt ≡ None
      → Imported (TakesTurn write) (importer user) (asked_of user name bytes) first end now → now.book ≡ first.book
  imported_rests user name bytes first now end has sure imported =
      let client : List ℕ = client_id user name in
      let ms : List Mutation = (asked_of user name bytes).mutations in
      let front : Numbered client 1 imported.taken = numbered_front client 1 imported.taken imported.left (subst (λ (l : List Mutation). Numbered client 1 l) imported.all (numbered user name bytes)) in
      let count : length ms ≡ length imported.taken + length imported.left = ap (λ (l : List Mutation). length l) imported.all ∙ length-append imported.taken imported.left in
      stays write (importer user) imported.taken client 1 first now imported.outcomes sure front (omega (arith, count, acts_for client first.book ms has)) imported.turns

  pub adds_nothing : (user name bytes : List ℕ) (first now : Served) (end : ImportEnd) → HasAll user name bytes first.book → first.doubt ≡ None → Imports (TakesTurn write) user name bytes first end now → now.book ≡ first.book
  adds_nothing user name bytes first now TooLarge has sure (above, same) = ap (λ (s : Served). s.book) same
  adds_nothing user name bytes first now (Done counts) has sure (within, imported) = imported_rests user name bytes first now (Done counts) has sure imported
  adds_nothing user name bytes first now (BadRecord n) has sure (within, imported) = imported_rests user name bytes first now (BadRecord n) has sure imported
  adds_nothing user name bytes first now (Refused refusal) has sure (within, imported) = imported_rests user name bytes first now (Refused refusal) has sure imported
  adds_nothing user name bytes first now Memory has sure (within, imported) = imported_rests user name bytes first now Memory has sure imported
