-- Each turn of a server keeps it sound, and its book goes on by entries and closings.
use Rattle.std.proofs.Common.{◌≡◌, ℕ, ◌+◌, ◌<◌, ◌≤◌, Bool, true, false, List, [], ◌∷◌, Option, Some, None, refl, sym, ap, ◌∙◌, subst, arith, inl, inr, ◌⊎◌}
use Rattle.std.specs.Option.{MatchOption}
use Rattle.std.proofs.lemmas.Option.{same_Some}
use Rattle.rv_book.specs.declared.entry.Entry.{Entry}
use Rattle.rv_book.specs.declared.entry.Entry.TheVariants.{Act, Look, Retire}
use Rattle.rv_book.specs.Book.{Book, book_from, last_order, size, with_entry, entry_at}
use Rattle.rv_book.specs.BookWordLaws.{size-with_entry, entry_at-end, extends_same}
use Rattle.rv_turns.specs.Asks.{Sender, Ask, IsClosing}
use Rattle.rv_turns.specs.Outcomes.{refusal_of, trouble_of}
use Rattle.rv_turns.specs.Pushing.{Pushes}
use Rattle.rv_turns.specs.declared.mutation.Mutation.{Mutation}
use Rattle.rv_turns.specs.declared.pushing.Outcome.{Outcome}
use Rattle.rv_turns.specs.declared.pushing.Outcome.TheVariants.{Acted, Skipped, Pulled, Retired, Closed, Refused}
use Rattle.rv_turns.specs.declared.pull.PullReply.{PullReply}
use Rattle.rv_turns.specs.declared.pull.PullRequest.{PullRequest}
use Rattle.rv_turns.specs.declared.refusal.Refusal.{Refusal}
use Rattle.rv_turns.specs.declared.refusal.Trouble.{Trouble}
use Rattle.rv_turns.specs.declared.refusal.Trouble.TheVariants.{Keeper, Changed}
use Rattle.rv_history.specs.Groups.{Admits}
use Rattle.rv_history.specs.Bases.{base_of}
use Rattle.rv_history.specs.Closing.{Closes, GoesOnFrom}
use Rattle.rv_history.specs.Lawful.{IsLawfulAfter, IsLawful}
use Rattle.rv_history.specs.Machine.{ReplyText, Step, Replies, cookie_order, next_order}
use Rattle.rv_history.specs.Served.{Next, with_next, MayFollow, IsOf, Served, Settles, StaysInDoubt, LeavesDoubt, TurnOf, TakesTurn, MayStand, IsSound, KeepsLaw, Doubt}
use Rattle.rv_history.specs.BasedLaws.{base_lawful, next_above}
use Rattle.rv_history.specs.LawfulBookLaws.{lawful_more}
use Rattle.rv_history.specs.SoundClosingLaws.{closed_books_go_on}
use Rattle.rv_history.specs.SuccessionLaws.{goes_on_same, goes_on_through}

-- the book stays, or one entry that may stand next is entered, where there is space
abbrev Advances : ℕ → Book → Book → Type 0
Advances limit book new = (new ≡ book) ⊎ ((entry : Entry) × (new ≡ with_entry book entry) × IsLawfulAfter book entry × (size book < limit))

module _ (write : ReplyText) (limit : ℕ) (book : Book) where
  replies_advance : (user : List ℕ) (request : PullRequest) (same : Bool) (reply : PullReply) (new : Book) → Admits user request.group book → Replies write limit book user request same reply new → Advances limit book new
  replies_advance user request true reply new admits (none, is, same) = inl same
  replies_advance user request false reply new admits (some, fits, below, is, more) = inr (
    Look user request.group (next_order request book) (base_of user request.cookie book),
    more,
    (admits, (next_above (cookie_order request.cookie) (last_order request.group book) (next_order request book) refl).1, fits, base_lawful user request book),
    below,
  )

  step_advances : (ask : Ask) (outcome : Outcome) (new : Book) → ¬ IsClosing ask → Step write limit book ask outcome new → Advances limit book new
  step_advances (Ask.mutation from m) (Refused refusal) new apart (why, same) = inl same
  step_advances (Ask.mutation from m) (Skipped number) new apart (takes, le, is, same) = inl same
  step_advances (Ask.mutation from m) (Acted place) new apart (takes, next, below, at, is) = inr (Act from.user from.group m.client m.id m.call, is, (takes.admits, takes.here, next), below)
  step_advances (Ask.mutation from m) (Pulled reply) new apart never = absurd never
  step_advances (Ask.mutation from m) (Retired place) new apart never = absurd never
  step_advances (Ask.mutation from m) (Closed place) new apart never = absurd never
  step_advances (Ask.pull user request) (Refused refusal) new apart (why, same) = inl same
  step_advances (Ask.pull user request) (Pulled reply) new apart (admits, replies) = replies_advance user request reply.same reply new admits replies
  step_advances (Ask.pull user request) (Acted place) new apart never = absurd never
  step_advances (Ask.pull user request) (Skipped number) new apart never = absurd never
  step_advances (Ask.pull user request) (Retired place) new apart never = absurd never
  step_advances (Ask.pull user request) (Closed place) new apart never = absurd never
  step_advances (Ask.retirement group) (Refused refusal) new apart (why, same) = inl same
  step_advances (Ask.retirement group) (Retired place) new apart (some, stands, below, at, is) = inr (Retire group, is, (some, stands), below)
  step_advances (Ask.retirement group) (Acted place) new apart never = absurd never
  step_advances (Ask.retirement group) (Skipped number) new apart never = absurd never
  step_advances (Ask.retirement group) (Pulled reply) new apart never = absurd never
  step_advances (Ask.retirement group) (Closed place) new apart never = absurd never
  step_advances Ask.closing outcome new apart step = absurd (apart tt)

-- a lawful book within a limit
abbrev Stands : ℕ → Book → Type 0
Stands limit book = IsLawful book × (size book ≤ limit)

-- the same, and it goes on from a book
abbrev Goes : ℕ → Book → Book → Type 0
Goes limit book new = Stands limit new × GoesOnFrom book new

goes_still : (limit : ℕ) (book new : Book) → new ≡ book → Stands limit book → Goes limit book new
goes_still limit book new same stands = (subst (λ (b : Book). Stands limit b) (sym same) stands, goes_on_same book new same)

goes_more : (limit : ℕ) (book new : Book) (next : Next) → new ≡ with_next book next → MayFollow book next → size book < limit → Stands limit book → Goes limit book new
goes_more limit book new (Next.entry entry) is next below (lawful, within) =
    let more : Stands limit (with_entry book entry) = (lawful_more book entry lawful next, omega (arith, size-with_entry book entry)) in
    (subst (λ (b : Book). Stands limit b) (sym is) more, ([], (entry ∷ [], is)))
goes_more limit book new (Next.closed closed) is closes below (lawful, within) =
    let on = closed_books_go_on book closes.page lawful closes.sums in
    let made : Closes book new = subst (λ (b : Book). Closes book b) (sym is) closes in
    let same : new ≡ book_from closes.page [] = is ∙ closes.is in
    let long : size (book_from closes.page []) ≡ size book + 1 = on.size in (
      subst (λ (b : Book). Stands limit b) (sym same) (on.lawful, omega (arith, long, below)),
      ((book, new) ∷ [], (extends_same book book refl, made, extends_same new new refl)),
    )

goes_on : (limit : ℕ) (book mid new : Book) → Goes limit book mid → Goes limit mid new → Goes limit book new
goes_on limit book mid new (_, before) (stands, later) = (stands, goes_on_through book mid new before later)

advances : (limit : ℕ) (book new : Book) → Advances limit book new → Stands limit book → Goes limit book new
advances limit book new (inl same) stands = goes_still limit book new same stands
advances limit book new (inr (entry, is, next, below)) stands = goes_more limit book new (Next.entry entry) is next below stands

settles : (limit : ℕ) (book : Book) (doubt : Doubt) (settled : Book) → Settles book doubt settled → Stands limit book → MayStand book limit doubt → Goes limit book settled
settles limit book doubt settled (inl same) stands next = goes_still limit book settled same stands
settles limit book None settled (inr same) stands next = goes_still limit book settled same stands
settles limit book (Some next) settled (inr is) stands (may, below) = goes_more limit book settled next is may below stands

-- an entry that a step enters may stand next
same_entry : (book : Book) (one two : Entry) → with_entry book one ≡ with_entry book two → one ≡ two
same_entry book one two same = same_Some one two (sym (entry_at-end book one) ∙ ap (λ (b : Book). entry_at (size book + 1) b) same ∙ entry_at-end book two)

entered : (limit : ℕ) (book : Book) (entry : Entry) → Advances limit book (with_entry book entry) → IsLawfulAfter book entry × (size book < limit)
entered limit book entry (inl same) =
    let n : size (with_entry book entry) ≡ size book = ap (λ (b : Book). size b) same in
    absurd (omega (arith, n, size-with_entry book entry))
entered limit book entry (inr (other, is, next, below)) = (subst (λ (e : Entry). IsLawfulAfter book e) (sym (same_entry book entry other is)) next, below)

module _ (write : ReplyText) (limit : ℕ) (book : Book) where
  -- a step goes on from its book
  step_goes : (ask : Ask) (outcome : Outcome) (new : Book) → Step write limit book ask outcome new → Stands limit book → Goes limit book new
  step_goes (Ask.mutation from m) outcome new step stands = advances limit book new (step_advances write limit book (Ask.mutation from m) outcome new (λ never. never) step) stands
  step_goes (Ask.pull user request) outcome new step stands = advances limit book new (step_advances write limit book (Ask.pull user request) outcome new (λ never. never) step) stands
  step_goes (Ask.retirement group) outcome new step stands = advances limit book new (step_advances write limit book (Ask.retirement group) outcome new (λ never. never) step) stands
  step_goes Ask.closing (Refused refusal) new (why, same) stands = goes_still limit book new same stands
  step_goes Ask.closing (Closed place) new (below, at, closes) stands = goes_more limit book new (Next.closed new) refl closes below stands
  step_goes Ask.closing (Acted place) new never stands = absurd never
  step_goes Ask.closing (Skipped number) new never stands = absurd never
  step_goes Ask.closing (Pulled reply) new never stands = absurd never
  step_goes Ask.closing (Retired place) new never stands = absurd never

  -- what a step that is not refused enters may come next
  step_enters : (ask : Ask) (outcome : Outcome) (next : Next) → refusal_of outcome ≡ None → IsOf ask next → Step write limit book ask outcome (with_next book next) → MayFollow book next × (size book < limit)
  step_enters (Ask.mutation from m) outcome (Next.entry entry) done is step = entered limit book entry (step_advances write limit book (Ask.mutation from m) outcome (with_entry book entry) (λ never. never) step)
  step_enters (Ask.pull user request) outcome (Next.entry entry) done is step = entered limit book entry (step_advances write limit book (Ask.pull user request) outcome (with_entry book entry) (λ never. never) step)
  step_enters (Ask.retirement group) outcome (Next.entry entry) done is step = entered limit book entry (step_advances write limit book (Ask.retirement group) outcome (with_entry book entry) (λ never. never) step)
  step_enters (Ask.mutation from m) outcome (Next.closed closed) done is step = absurd is
  step_enters (Ask.pull user request) outcome (Next.closed closed) done is step = absurd is
  step_enters (Ask.retirement group) outcome (Next.closed closed) done is step = absurd is
  step_enters Ask.closing outcome (Next.entry entry) done is step = absurd is
  step_enters Ask.closing (Closed place) (Next.closed closed) done is (below, at, closes) = (closes, below)
  step_enters Ask.closing (Refused refusal) (Next.closed closed) some is step = absurd (cc)
  step_enters Ask.closing (Acted place) (Next.closed closed) done is never = absurd never
  step_enters Ask.closing (Skipped number) (Next.closed closed) done is never = absurd never
  step_enters Ask.closing (Pulled reply) (Next.closed closed) done is never = absurd never
  step_enters Ask.closing (Retired place) (Next.closed closed) done is never = absurd never

law_of : (old new : Served) → IsSound old → Goes old.limit old.book new.book → MayStand new.book old.limit new.doubt → new.limit ≡ old.limit → old.faults ≤ new.faults → KeepsLaw old new
law_of old new sound goes next limit later = record {
  sound = record {
    lawful = goes.0.0;
    within = subst (λ (n : ℕ). size new.book ≤ n) (sym limit) goes.0.1;
    next = subst (λ (n : ℕ). MayStand new.book n new.doubt) (sym limit) next;
  };
  more = goes.1;
  limit = limit;
  later = later;
}

law_through : (old mid new : Served) → KeepsLaw old mid → KeepsLaw mid new → KeepsLaw old new
law_through old mid new before after = record {
  sound = after.sound;
  more = goes_on_through old.book mid.book new.book before.more after.more;
  limit = after.limit ∙ before.limit;
  later = omega (arith, before.later, after.later);
}

law_same : (old new : Served) → new ≡ old → IsSound old → KeepsLaw old new
law_same old new same sound = record {
  sound = subst (λ (s : Served). IsSound s) (sym same) sound;
  more = goes_on_same old.book new.book (ap (λ (s : Served). s.book) same);
  limit = ap (λ (s : Served). s.limit) same;
  later = let n : new.faults ≡ old.faults = ap (λ (s : Served). s.faults) same in omega (arith, n);
}

module _ (write : ReplyText) (old : Served) (sound : IsSound old) where
  stood : Stands old.limit old.book
  stood = (sound.lawful, sound.within)

  law_stays : (trouble : Trouble) (new : Served) → StaysInDoubt old trouble new → new.limit ≡ old.limit → old.faults ≤ new.faults → KeepsLaw old new
  law_stays trouble new stays limit later = let (book, doubt) = stays.stays in
      law_of old new sound (goes_still old.limit old.book new.book book stood)
      (subst (λ (b : Book). MayStand b old.limit new.doubt) (sym book) (subst (λ (d : Doubt). MayStand old.book old.limit d) (sym doubt) sound.next)) limit later

  law_doubt : (settled : Book) (ask : Ask) (next : Next) (new : Served) → Settles old.book old.doubt settled → LeavesDoubt write old settled ask next new → new.limit ≡ old.limit → old.faults ≤ new.faults → KeepsLaw old new
  law_doubt settled ask next new settling left limit later = law_of old new sound (settles old.limit old.book old.doubt new.book (subst (λ (b : Book). Settles old.book old.doubt b) (sym left.book) settling) stood sound.next)
      (subst (λ (d : Doubt). MayStand new.book old.limit d) (sym left.doubt) (subst (λ (b : Book). MayStand b old.limit (Some next)) (sym left.book) (step_enters write old.limit settled ask left.outcome next left.done left.is left.step))) limit later

  law_turn : (settled : Book) (ask : Ask) (outcome : Outcome) (left : Doubt) (told : Option Trouble) (new : Served) → Settles old.book old.doubt settled → TurnOf write old settled ask outcome left told new → new.limit ≡ old.limit → old.faults ≤ new.faults → KeepsLaw old new
  law_turn settled ask outcome None None new settling (step, none, still) limit later =
      let before = settles old.limit old.book old.doubt settled settling stood sound.next in
      law_of old new sound (goes_on old.limit old.book settled new.book before (step_goes write old.limit settled ask outcome new.book step before.0))
      (subst (λ (d : Doubt). MayStand new.book old.limit d) (sym none) tt) limit later
  law_turn settled ask outcome None (Some trouble) new settling (same, stays) limit later = law_stays trouble new stays limit later
  law_turn settled ask outcome (Some next) (Some Keeper) new settling left limit later = law_doubt settled ask next new settling left limit later
  law_turn settled ask outcome (Some next) (Some (Changed kept found)) new settling never limit later = absurd never
  law_turn settled ask outcome (Some next) None new settling never limit later = absurd never

-- a settled book is lawful
pub settled_lawful : (old : Served) (settled : Book) → Settles old.book old.doubt settled → IsSound old → IsLawful settled
settled_lawful old settled settling sound = (settles old.limit old.book old.doubt settled settling (sound.lawful, sound.within) sound.next).0.0

module _ (write : ReplyText) where
  pub turns_keep : (ask : Ask) (old new : Served) (outcome : Outcome) → TakesTurn write old ask outcome new → IsSound old → KeepsLaw old new
  turns_keep ask old new outcome taken sound = law_turn write old sound taken.settled ask outcome taken.left (trouble_of outcome) new taken.settles taken.turn taken.limit taken.later

  -- a refusal ends the push, and what is no refusal lets it go on
  module _ (from : Sender) (ms : List Mutation) (answer : Option Refusal) (later : Bool) (old mid new : Served) where
    law_rest : (refused : Option Refusal) → ((mid new : Served) → Pushes (TakesTurn write) from ms mid answer later new → IsSound mid → KeepsLaw mid new) → KeepsLaw old mid
        → MatchOption refused (Pushes (TakesTurn write) from ms mid answer later new) (λ refusal. (answer ≡ Some refusal) × (later ≡ false) × (new ≡ mid)) → KeepsLaw old new
    law_rest None goes kept rest = law_through old mid new kept (goes mid new rest kept.sound)
    law_rest (Some refusal) goes kept (is, none, same) = law_through old mid new kept (law_same mid new same kept.sound)

  pub pushes_keep : (from : Sender) (mutations : List Mutation) (old new : Served) (answer : Option Refusal) (acted : Bool) → Pushes (TakesTurn write) from mutations old answer acted new → IsSound old → KeepsLaw old new
  pushes_keep from [] old new answer acted (is, none, same) sound = law_same old new same sound
  pushes_keep from (m ∷ ms) old new answer acted (outcome, mid, later, taken, acts, rest) sound =
      law_rest from ms answer later old mid new (refusal_of outcome) (λ mid new goes sound. pushes_keep from ms mid new answer later goes sound)
      (turns_keep (Ask.mutation from m) old mid outcome taken sound) rest
