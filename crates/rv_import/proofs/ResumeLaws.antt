-- The acts of an import's client stay the first of what is asked for.
use Rattle.std.proofs.Common.{◌≡◌, ℕ, ◌+◌, List, [], ◌∷◌, ◌++◌, length, map, Option, Some, None, refl, sym, ap, ◌∙◌, subst, arith, append_assoc}
use Rattle.std.proofs.lemmas.List.{length-append, map-append}
use Rattle.rv_rows.specs.declared.call.Call.{Call}
use Rattle.rv_turns.specs.Asks.{Sender, Ask}
use Rattle.rv_turns.specs.Outcomes.{trouble_of}
use Rattle.rv_turns.specs.declared.mutation.Mutation.{Mutation}
use Rattle.rv_turns.specs.declared.pushing.Outcome.{Outcome}
use Rattle.rv_turns.specs.declared.pushing.Outcome.TheVariants as outcome
use Rattle.rv_turns.specs.declared.refusal.Trouble.{Trouble}
use Rattle.rv_turns.specs.declared.refusal.Trouble.TheVariants.{Keeper, Changed}
use Rattle.rv_book.specs.declared.entry.Entry.{Entry}
use Rattle.rv_book.specs.declared.entry.Entry.TheVariants.{Act}
use Rattle.rv_book.specs.Book.{Book, last, with_entry}
use Rattle.rv_history.specs.Machine.{ReplyText, Step}
use Rattle.rv_history.specs.Served.{Served, TurnOf, TakesTurn, Doubt, with_doubt, with_next}
use Rattle.rv_import.specs.Imports.{asked_of, client_id}
use Rattle.rv_import.specs.Importing.{importer, TakesInOrder, Imported, Imports}
use Rattle.rv_import.specs.declared.import_end.ImportEnd.{ImportEnd}
use Rattle.rv_import.specs.declared.import_end.ImportEnd.TheVariants.{Done, TooLarge, BadRecord, Refused, Memory}
use Rattle.rv_import.specs.ActsOnce.{calls_of, calls_asked, AreFirst, StartsFirst}
use Rattle.rv_import.proofs.ActCalls.{Numbered, all_count, calls_more, first_same, first_settled, numbered, numbered_front}

tail_same : (x y : Call) (xs ys : List Call) → x ∷ xs ≡ y ∷ ys → xs ≡ ys
tail_same x y xs ys same = cc

-- what comes next, after as many
next_on : (calls left before after : List Call) (call : Call) → calls ++ left ≡ before ++ call ∷ after → length calls ≡ length before → calls ++ left ≡ (calls ++ call ∷ []) ++ after
next_on [] left [] after call same count = same
next_on [] left (y ∷ before) after call same count = absurd (omega (arith, count))
next_on (x ∷ calls) left [] after call same count = absurd (omega (arith, count))
next_on (x ∷ calls) left (y ∷ before) after call same count =
    ap (λ (l : List Call). x ∷ l) (next_on calls left before after call (tail_same x y (calls ++ left) (before ++ call ∷ after) same) (omega (arith, count)))

module _ (write : ReplyText) (from : Sender) (client : List ℕ) (all : List Call) where
  -- the mutation of the call that comes after these
  abbrev IsAt : List Call → Mutation → List Call → Type 0
  IsAt before m after = (m.client ≡ client) × (m.id ≡ length before + 1) × (all ≡ before ++ m.call ∷ after)

  step_fronts : (limit : ℕ) (m : Mutation) (before after : List Call) (book new : Book) (o : Outcome) → IsAt before m after → Step write limit book (Ask.mutation from m) o new → AreFirst client all book → AreFirst client all new
  step_fronts limit m before after book new (outcome.Acted place) (who, id, at) (takes, next, below, within, is) first =
      let lasts : last m.client book ≡ last client book = ap (λ (c : List ℕ). last c book) who in
      let here : List Call = first.paged ++ calls_of client book.entries in
      let count : length here ≡ length before = omega (arith, all_count client book first.paged first.count, lasts, next, id) in
      let e : Entry = Act from.user from.group m.client m.id m.call in
      let more : first.paged ++ calls_of client (with_entry book e).entries ≡ here ++ m.call ∷ [] =
      ap (λ (x : List Call). first.paged ++ x) (calls_more client from.user from.group m.client m.id m.call book who) ∙ sym (append_assoc first.paged (calls_of client book.entries) (m.call ∷ [])) in
      first_same client all (with_entry book e) new is (record {
        paged = first.paged;
        left = after;
        count = first.count;
        whole = first.whole ∙ next_on here first.left before after m.call (sym first.whole ∙ at) count ∙ ap (λ (x : List Call). x ++ after) (sym more);
      })
  step_fronts limit m before after book new (outcome.Skipped number) at (takes, le, is, same) fronts = first_same client all book new same fronts
  step_fronts limit m before after book new (outcome.Refused refusal) at (why, same) fronts = first_same client all book new same fronts
  step_fronts limit m before after book new (outcome.Pulled reply) at never fronts = absurd never
  step_fronts limit m before after book new (outcome.Retired place) at never fronts = absurd never
  step_fronts limit m before after book new (outcome.Closed place) at never fronts = absurd never

  -- in the book, and in the book with what is in doubt
  abbrev FrontsAt : Served → Type 0
  FrontsAt served = AreFirst client all served.book × AreFirst client all (with_doubt served.book served.doubt)

  turn_fronts : (m : Mutation) (before after : List Call) (old new : Served) (settled : Book) (o : Outcome) (left : Doubt) (trouble : Option Trouble) → IsAt before m after → TurnOf write old settled (Ask.mutation from m) o left trouble new
      → FrontsAt old → AreFirst client all settled → FrontsAt new
  turn_fronts m before after old new settled o None None at (step, none, still) whole fronts =
      let more : AreFirst client all new.book = step_fronts old.limit m before after settled new.book o at step fronts in
      (more, subst (λ (d : Doubt). AreFirst client all (with_doubt new.book d)) (sym none) more)
  turn_fronts m before after old new settled o None (Some trouble) at (same, stays) whole fronts =
      let (book, doubt) = stays.stays in
      (first_same client all old.book new.book book whole.0, first_same client all (with_doubt old.book old.doubt) (with_doubt new.book new.doubt) (λ i. with_doubt (book i) (doubt i)) whole.1)
  turn_fronts m before after old new settled o (Some next) (Some Keeper) at left whole fronts =
      let more : AreFirst client all (with_next settled next) = step_fronts old.limit m before after settled (with_next settled next) left.outcome at left.step fronts in
      (first_same client all settled new.book left.book fronts, first_same client all (with_next settled next) (with_doubt new.book new.doubt) (λ i. with_doubt (left.book i) (left.doubt i)) more)
  turn_fronts m before after old new settled o (Some next) (Some (Changed kept found)) at never whole fronts = absurd never
  turn_fronts m before after old new settled o (Some next) None at never whole fronts = absurd never

  take_fronts : (m : Mutation) (before after : List Call) (old new : Served) (o : Outcome) → IsAt before m after → TakesTurn write old (Ask.mutation from m) o new → FrontsAt old → FrontsAt new
  take_fronts m before after old new o at taken fronts =
      turn_fronts m before after old new taken.settled o taken.left (trouble_of o) at taken.turn fronts (first_settled client all old.book old.doubt taken.settled taken.settles fronts.0 fronts.1)

  turns_front : (ms : List Mutation) (before after : List Call) (n : ℕ) (first now : Served) (os : List Outcome) → n ≡ length before + 1 → Numbered client n ms → all ≡ before ++ (map (λ m. m.call) ms ++ after)
      → TakesInOrder (TakesTurn write) from ms first os now → FrontsAt first → FrontsAt now
  turns_front [] before after n first now [] at own is same fronts = subst (λ (s : Served). FrontsAt s) (sym same) fronts
  turns_front [] before after n first now (o ∷ os) at own is never fronts = absurd never
  turns_front (m ∷ ms) before after n first now [] at own is never fronts = absurd never
  turns_front (m ∷ ms) before after n first now (o ∷ os) at (who, id, others) is (mid, taken, rest) fronts =
      let later : List Call = map (λ m. m.call) ms ++ after in
      let more : n + 1 ≡ length (before ++ m.call ∷ []) + 1 = omega (arith, at, length-append before (m.call ∷ [])) in
      let next : FrontsAt mid = take_fronts m before later first mid o (who, id ∙ at, is) taken fronts in
      turns_front ms (before ++ m.call ∷ []) after (n + 1) mid now os more others (is ∙ sym (append_assoc before (m.call ∷ []) later)) rest next

module _ (write : ReplyText) where
  pub taken_front : (user name bytes : List ℕ) (taken left : List Mutation) (first now : Served) (os : List Outcome) → (asked_of user name bytes).mutations ≡ taken ++ left → TakesInOrder (TakesTurn write) (importer user) taken first os now
      → StartsFirst user name bytes first → StartsFirst user name bytes now
  taken_front user name bytes taken left first now os is turns fronts =
      let client : List ℕ = client_id user name in
      let own : Numbered client 1 taken = numbered_front client 1 taken left (subst (λ (l : List Mutation). Numbered client 1 l) is (numbered user name bytes)) in
      let calls : calls_asked user name bytes ≡ map (λ m. m.call) taken ++ map (λ m. m.call) left = ap (λ (l : List Mutation). map (λ m. m.call) l) is ∙ map-append (λ m. m.call) taken left in
      turns_front write (importer user) client (calls_asked user name bytes) taken [] (map (λ m. m.call) left) 1 first now os refl own calls turns fronts

  imported_fronts : (user name bytes : List ℕ) (first now : Served) (end : ImportEnd) → StartsFirst user name bytes first
      → Imported (TakesTurn write) (importer user) (asked_of user name bytes) first end now → StartsFirst user name bytes now
  imported_fronts user name bytes first now end fronts imported = taken_front user name bytes imported.taken imported.left first now imported.outcomes imported.all imported.turns fronts

  pub goes_on : (user name bytes : List ℕ) (first now : Served) (end : ImportEnd) → StartsFirst user name bytes first → Imports (TakesTurn write) user name bytes first end now → StartsFirst user name bytes now
  goes_on user name bytes first now TooLarge fronts (above, same) = subst (λ (s : Served). StartsFirst user name bytes s) (sym same) fronts
  goes_on user name bytes first now (Done counts) fronts (within, imported) = imported_fronts user name bytes first now (Done counts) fronts imported
  goes_on user name bytes first now (BadRecord n) fronts (within, imported) = imported_fronts user name bytes first now (BadRecord n) fronts imported
  goes_on user name bytes first now (Refused refusal) fronts (within, imported) = imported_fronts user name bytes first now (Refused refusal) fronts imported
  goes_on user name bytes first now Memory fronts (within, imported) = imported_fronts user name bytes first now Memory fronts imported
