-- An import midway, and how it ends.
use Rattle.std.proofs.Common.{◌≡◌, ℕ, ◌+◌, ◌^◌, ◌<◌, Bool, cond, List, [], ◌∷◌, ◌++◌, length, Some, None, Ok, refl, sym, ap, ◌∙◌, subst, arith, inl, inr, append_assoc, length-append, zero-add}
use Rattle.std.specs.List.{count_by}
use Rattle.std.proofs.lemmas.List.Sums.{sum_by-append}
use Rattle.std.proofs.lemmas.Option.{none-some, same_Some}
use Rattle.rv_turns.specs.Asks.{Ask, Sender}
use Rattle.rv_turns.specs.Outcomes.{has_acted, refusal_of}
use Rattle.rv_turns.specs.declared.mutation.Mutation.{Mutation}
use Rattle.rv_turns.specs.declared.pushing.Outcome.{Outcome}
use Rattle.rv_turns.specs.declared.pushing.Outcome.TheVariants as outcomes
use Rattle.rv_turns.specs.declared.refusal.Refusal.{Refusal}
use Rattle.rv_import.specs.Imports.{Asked, bad_at}
use Rattle.rv_import.specs.Importing.{AreDone, EndsImport, Imported, TakesInOrder, counts_of, is_skipped}
use Rattle.rv_import.specs.Steps.{EndsRefused, NextAsked, counts_after, one_if}
use Rattle.rv_import.specs.declared.import_end.ImportCounts.{ImportCounts}
use Rattle.rv_import.specs.declared.import_end.ImportEnd.{ImportEnd}
use Rattle.rv_import.specs.declared.import_end.ImportEnd.TheVariants as ends

-- one more outcome is counted
count_more : (p : Outcome → Bool) (before : List Outcome) (outcome : Outcome) → count_by p before + one_if (p outcome) ≡ count_by p (before ++ outcome ∷ [])
count_more p before outcome = sym (sum_by-append (λ (o : Outcome). cond (p o) 1 0) before (outcome ∷ []) ∙ ap (λ (k : ℕ). count_by p before + k) (zero-add (one_if (p outcome))))

counts_more : (before : List Outcome) (outcome : Outcome) → counts_after (counts_of before) outcome ≡ counts_of (before ++ outcome ∷ [])
counts_more before outcome = λ i. record {
  records = sym (length-append before (outcome ∷ [])) i;
  acted = count_more has_acted before outcome i;
  skipped = count_more is_skipped before outcome i;
}

done_more : (before : List Outcome) (outcome : Outcome) → AreDone before → refusal_of outcome ≡ None → AreDone (before ++ outcome ∷ [])
done_more [] outcome done none = (none, tt)
done_more (o ∷ before) outcome done none = (done.0, done_more before outcome done.1 none)

-- an outcome that tells a refusal is that refusal
refused_so : (outcome : Outcome) (refusal : Refusal) → refusal_of outcome ≡ Some refusal → outcome ≡ outcomes.Refused refusal
refused_so (outcomes.Acted place) refusal is = absurd (none-some refusal is)
refused_so (outcomes.Skipped last) refusal is = absurd (none-some refusal is)
refused_so (outcomes.Pulled reply) refusal is = absurd (none-some refusal is)
refused_so (outcomes.Retired place) refusal is = absurd (none-some refusal is)
refused_so (outcomes.Closed place) refusal is = absurd (none-some refusal is)
refused_so (outcomes.Refused why) refusal is = ap (λ (r : Refusal). outcomes.Refused r) (same_Some why refusal is)

-- The first mutations were taken, none was refused, and these are the counts of their outcomes; these are still asked for.
pub record IsMidway {S : Type 0} (takes : S → Ask → Outcome → S → Type 0) (from : Sender) (whole : Asked) (old : S) (asked : Asked) (counts : ImportCounts) (now : S) : Type 0 where
  pub taken : List Mutation
  pub before : List Outcome
  pub all : whole.mutations ≡ taken ++ asked.mutations
  pub bad : whole.bad ≡ asked.bad
  pub turns : TakesInOrder takes from taken old before now
  pub done : AreDone before
  pub counted : counts ≡ counts_of before
  pub room : counts.records + length asked.mutations < 2 ^ 32

module _ {S : Type 0} (takes : S → Ask → Outcome → S → Type 0) (from : Sender) where
  -- one more turn
  takes_more : (ms : List Mutation) (os : List Outcome) (old mid new : S) (m : Mutation) (o : Outcome) → TakesInOrder takes from ms old os mid → takes mid (Ask.mutation from m) o new
      → TakesInOrder takes from (ms ++ m ∷ []) old (os ++ o ∷ []) new
  takes_more [] [] old mid new m o all one = (new, subst (λ (s : S). takes s (Ask.mutation from m) o new) all one, refl)
  takes_more [] (x ∷ os) old mid new m o all one = absurd all
  takes_more (k ∷ ms) [] old mid new m o all one = absurd all
  takes_more (k ∷ ms) (x ∷ os) old mid new m o (next, taken, rest) one = (next, taken, takes_more ms os next mid new m o rest one)

  pub midway_first : (whole : Asked) (old : S) → length whole.mutations < 2 ^ 32 → IsMidway takes from whole old whole (record { records = 0; acted = 0; skipped = 0 }) old
  midway_first whole old small = record { taken = []; before = []; all = refl; bad = refl; turns = refl; done = tt; counted = refl; room = omega (arith, small) }

  module _ (whole : Asked) (old : S) where
    regrouped : (taken more : List Mutation) (m : Mutation) (asked : Asked) → whole.mutations ≡ taken ++ asked.mutations → asked.mutations ≡ m ∷ more → whole.mutations ≡ (taken ++ m ∷ []) ++ more
    regrouped taken more m asked all next = all ∙ ap (λ (ms : List Mutation). taken ++ ms) next ∙ sym (append_assoc taken (m ∷ []) more)

    pub midway_on : (asked next : Asked) (counts after : ImportCounts) (mid new : S) (m : Mutation) (o : Outcome) → IsMidway takes from whole old asked counts mid → NextAsked asked next (Ok m)
        → takes mid (Ask.mutation from m) o new → None ≡ refusal_of o → after ≡ counts_after counts o → IsMidway takes from whole old next after new
    midway_on asked next counts after mid new m o is one step none then = record {
      taken = is.taken ++ m ∷ [];
      before = is.before ++ o ∷ [];
      all = regrouped is.taken next.mutations m asked is.all one.0;
      bad = is.bad ∙ one.1;
      turns = takes_more is.taken is.before old mid new m o is.turns step;
      done = done_more is.before o is.done (sym none);
      counted = then ∙ ap (λ (c : ImportCounts). counts_after c o) is.counted ∙ counts_more is.before o;
      room = omega (arith, is.room, ap length one.0, ap (λ (c : ImportCounts). c.records) then);
    }

    -- at a refusal
    ends_at : (asked next : Asked) (counts : ImportCounts) (mid new : S) (m : Mutation) (o : Outcome) (end : ImportEnd) → IsMidway takes from whole old asked counts mid → NextAsked asked next (Ok m)
        → takes mid (Ask.mutation from m) o new → ((is : IsMidway takes from whole old asked counts mid) → EndsImport whole.bad next.mutations (is.before ++ o ∷ []) end) → Imported takes from whole old end new
    ends_at asked next counts mid new m o end is one step so = record {
      taken = is.taken ++ m ∷ [];
      left = next.mutations;
      outcomes = is.before ++ o ∷ [];
      all = regrouped is.taken next.mutations m asked is.all one.0;
      turns = takes_more is.taken is.before old mid new m o is.turns step;
      ends = so is;
    }

    pub ends_refused : (asked next : Asked) (counts : ImportCounts) (mid new : S) (m : Mutation) (o : Outcome) (refusal : Refusal) (end : ImportEnd) → IsMidway takes from whole old asked counts mid
        → NextAsked asked next (Ok m) → takes mid (Ask.mutation from m) o new → Some refusal ≡ refusal_of o → EndsRefused refusal end → Imported takes from whole old end new
    ends_refused asked next counts mid new m o refusal (ends.Refused why) is one step some (same, other) =
        ends_at asked next counts mid new m o (ends.Refused why) is one step (λ at. (
          at.before,
          ap (λ (x : Outcome). at.before ++ x ∷ []) (refused_so o refusal (sym some) ∙ ap (λ (r : Refusal). outcomes.Refused r) (sym same)),
          at.done,
          (λ e. other (sym same ∙ e)),
        ))
    ends_refused asked next counts mid new m o refusal ends.Memory is one step some same =
        ends_at asked next counts mid new m o ends.Memory is one step (λ at. (
          at.before,
          at.done,
          inr (ap (λ (x : Outcome). at.before ++ x ∷ []) (refused_so o refusal (sym some) ∙ ap (λ (r : Refusal). outcomes.Refused r) same)),
        ))
    ends_refused asked next counts mid new m o refusal (ends.Done given) is one step some other = absurd other
    ends_refused asked next counts mid new m o refusal (ends.BadRecord n) is one step some other = absurd other
    ends_refused asked next counts mid new m o refusal ends.TooLarge is one step some other = absurd other

  -- no turn is taken
  pub none_taken : (whole : Asked) (old : S) → Imported takes from whole old ends.Memory old
  none_taken whole old = record { taken = []; left = whole.mutations; outcomes = []; all = refl; turns = refl; ends = ([], tt, inl refl) }

  pub bad_taken : (n : ℕ) (whole : Asked) (old : S) → whole ≡ bad_at n → Imported takes from whole old (ends.BadRecord n) old
  bad_taken n whole old is = record {
    taken = [];
    left = [];
    outcomes = [];
    all = ap (λ (a : Asked). a.mutations) is;
    turns = refl;
    ends = (ap (λ (a : Asked). a.bad) is, refl, tt);
  }
