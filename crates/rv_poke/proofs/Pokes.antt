-- What one deed more adds.
use Rattle.std.proofs.Common.{◌≡◌, ℕ, zero, suc, ◌+◌, ◌≤◌, max, nat_lt, length, List, [], ◌∷◌, ◌++◌, Option, Some, None, true, false, cond, refl, sym, ap, ◌∙◌, arith, append_assoc, append-nil}
use Rattle.std.proofs.lemmas.Bool.{lt-ltb, le-ltb, ltb-true, ltb-false}
use Rattle.rv_base.specs.Outside.{counted}
use Rattle.rv_poke.specs.declared.sent.Sent.{Sent}
use Rattle.rv_poke.specs.Bells.{BellState, HasWaited, counted_by}
use Rattle.rv_poke.specs.Links.{Sends, IsSilent}
use Rattle.rv_poke.specs.Looking.{heard, rise_of}
use Rattle.rv_poke.specs.Sessions.{Deed, look, ping, IsBegun, marks_of, pings_of, poke_at, pokes_of, quiet_at, quiet_of, rest_of, sent_at, sent_by, told_by}

-- what was told last, after deeds
abbrev pub told_after : ℕ → List Deed → ℕ
told_after told [] = told
told_after told (deed ∷ more) = told_after (told_by told deed) more

-- what is told after one deed more
pub told_more : (told : ℕ) (deeds : List Deed) (deed : Deed) → told_after told (deeds ++ deed ∷ []) ≡ told_by (told_after told deeds) deed
told_more told [] deed = refl
told_more told (d ∷ ds) deed = told_more (told_by told d) ds deed

-- what one deed more sends
pub sent_more : (told : ℕ) (deeds : List Deed) (deed : Deed) → sent_by told (deeds ++ deed ∷ []) ≡ sent_by told deeds ++ sent_at (told_after told deeds) deed
sent_more told [] deed = append-nil (sent_at told deed)
sent_more told (d ∷ ds) deed = ap (λ l. sent_at told d ++ l) (sent_more (told_by told d) ds deed) ∙ sym (append_assoc (sent_at told d) (sent_by (told_by told d) ds) (sent_at (told_after (told_by told d) ds) deed))

-- the pokes of one deed more
pub pokes_more : (told : ℕ) (deeds : List Deed) (deed : Deed) → pokes_of told (deeds ++ deed ∷ []) ≡ pokes_of told deeds + poke_at (told_after told deeds) deed
pokes_more told [] deed = omega arith
pokes_more told (d ∷ ds) deed = let more = pokes_more (told_by told d) ds deed in omega arith

-- the looks without a poke, of one deed more
pub quiet_more : (told : ℕ) (deeds : List Deed) (deed : Deed) → quiet_of told (deeds ++ deed ∷ []) ≡ quiet_of told deeds + quiet_at (told_after told deeds) deed
quiet_more told [] deed = omega arith
quiet_more told (d ∷ ds) deed = let more = quiet_more (told_by told d) ds deed in omega arith

-- a count of some more, and then of others
counted_both : (n k old : ℕ) → counted_by k (counted_by n old) ≡ counted_by (n + k) old
counted_both n zero old = let none : n ≡ n + zero = omega arith in ap (λ m. counted_by m old) none
counted_both n (suc k) old = let one : suc (n + k) ≡ n + suc k = omega arith in ap counted (counted_both n k old) ∙ ap (λ m. counted_by m old) one

-- the client was found some times more
pub found_more : (n k old mid new : ℕ) → mid ≡ counted_by n old → new ≡ counted_by k mid → new ≡ counted_by (n + k) old
found_more n k old mid new first more = more ∙ ap (counted_by k) first ∙ counted_both n k old

-- at most one poke a deed
pub at_most_one : (told : ℕ) (deed : Deed) → poke_at told deed ≤ 1
at_most_one told (look mark) = elim (nat_lt told mark) as (λ b. cond b 1 0 ≤ 1) [ true ↦ omega arith | false ↦ omega arith ]
at_most_one told ping = omega arith

-- the pokes of a deed, by what is told after it
pub rise-told_by : (told : ℕ) (deed : Deed) → rise_of told (told_by told deed) ≡ poke_at told deed
rise-told_by told (look mark) =
    elim (nat_lt told mark) as (λ b. nat_lt told mark ≡ b → rise_of told (max told mark) ≡ cond b 1 0) [
      | true ↦ λ e. let lt = ltb-true told mark e in ap (λ b. cond b 1 0) (lt-ltb told (max told mark) (omega (arith, lt)))
      | false ↦ λ e. let le = ltb-false told mark e in ap (λ b. cond b 1 0) (le-ltb told (max told mark) (omega (arith, le)))
    ] refl
rise-told_by told ping = ap (λ b. cond b 1 0) (le-ltb told told (omega arith))

-- these were sent, and then those
pub sends_then : (old mid new : Option (List Sent)) (these those : List Sent) → Sends old these mid → Sends mid those new → Sends old (these ++ those) new
sends_then None mid new these those f g = tt
sends_then (Some x) None new these those f g = absurd f
sends_then (Some x) (Some y) None these those f g = absurd g
sends_then (Some x) (Some y) (Some z) these those f g = g ∙ ap (λ l. l ++ those) f ∙ append_assoc x these those

-- nothing more was sent
pub sends_silent : (old mid new : Option (List Sent)) (more : List Sent) → Sends old more mid → IsSilent mid new → Sends old more new
sends_silent None mid new more f g = tt
sends_silent (Some x) None new more f g = absurd f
sends_silent (Some x) (Some y) None more f g = absurd g
sends_silent (Some x) (Some y) (Some z) more f g = g ∙ f

-- nothing was sent
pub sends_none : (old new : Option (List Sent)) → IsSilent old new → Sends old [] new
sends_none None new f = tt
sends_none (Some x) None f = absurd f
sends_none (Some x) (Some y) f = f ∙ sym (append-nil x)

-- what has begun goes on
pub begun_more : (deeds : List Deed) (deed : Deed) → IsBegun deeds → IsBegun (deeds ++ deed ∷ [])
begun_more [] deed begun = absurd begun
begun_more (look mark ∷ more) deed begun = tt
begun_more (ping ∷ more) deed begun = absurd begun

-- ---- The waits of one deed more.

looks_one : (deeds : List Deed) (mark : ℕ) → length (marks_of (deeds ++ look mark ∷ [])) ≡ suc (length (marks_of deeds))
looks_one [] mark = refl
looks_one (look m ∷ more) mark = ap suc (looks_one more mark)
looks_one (ping ∷ more) mark = looks_one more mark

looks_none : (deeds : List Deed) → length (marks_of (deeds ++ ping ∷ [])) ≡ length (marks_of deeds)
looks_none [] = refl
looks_none (look m ∷ more) = ap suc (looks_none more)
looks_none (ping ∷ more) = looks_none more

pings_none : (deeds : List Deed) (mark : ℕ) → pings_of (deeds ++ look mark ∷ []) ≡ pings_of deeds
pings_none [] mark = refl
pings_none (look m ∷ more) mark = pings_none more mark
pings_none (ping ∷ more) mark = ap suc (pings_none more mark)

pings_one : (deeds : List Deed) → pings_of (deeds ++ ping ∷ []) ≡ suc (pings_of deeds)
pings_one [] = refl
pings_one (look m ∷ more) = pings_one more
pings_one (ping ∷ more) = ap suc (pings_one more)

module _ (old mid new : BellState) where
  rungs_on : (deeds : List Deed) (deed : Deed) → mid.rungs ≡ counted_by (length (marks_of deeds)) old.rungs → HasWaited mid new (heard deed) → new.rungs ≡ counted_by (length (marks_of (deeds ++ deed ∷ []))) old.rungs
  rungs_on deeds (look mark) so waited = waited.0 ∙ ap counted so ∙ ap (λ k. counted_by k old.rungs) (sym (looks_one deeds mark))
  rungs_on deeds ping so waited = waited.0 ∙ so ∙ ap (λ k. counted_by k old.rungs) (sym (looks_none deeds))

  quiets_on : (deeds : List Deed) (deed : Deed) → mid.quiets ≡ counted_by (pings_of deeds) old.quiets → HasWaited mid new (heard deed) → new.quiets ≡ counted_by (pings_of (deeds ++ deed ∷ [])) old.quiets
  quiets_on deeds (look mark) so waited = waited.1 ∙ so ∙ ap (λ k. counted_by k old.quiets) (sym (pings_none deeds mark))
  quiets_on deeds ping so waited = waited.1 ∙ ap counted so ∙ ap (λ k. counted_by k old.quiets) (sym (pings_one deeds))

  pub rungs_more : (before : List Deed) (last deed : Deed) → mid.rungs ≡ counted_by (length (marks_of (rest_of (before ++ last ∷ [])))) old.rungs → HasWaited mid new (heard deed)
      → new.rungs ≡ counted_by (length (marks_of (rest_of ((before ++ last ∷ []) ++ deed ∷ [])))) old.rungs
  rungs_more [] last deed so waited = rungs_on [] deed so waited
  rungs_more (b ∷ bs) last deed so waited = rungs_on (bs ++ last ∷ []) deed so waited

  pub quiets_more : (before : List Deed) (last deed : Deed) → mid.quiets ≡ counted_by (pings_of (rest_of (before ++ last ∷ []))) old.quiets → HasWaited mid new (heard deed)
      → new.quiets ≡ counted_by (pings_of (rest_of ((before ++ last ∷ []) ++ deed ∷ []))) old.quiets
  quiets_more [] last deed so waited = quiets_on [] deed so waited
  quiets_more (b ∷ bs) last deed so waited = quiets_on (bs ++ last ∷ []) deed so waited

  -- neither a ring nor a silence is an end
  pub overs_same : (deed : Deed) → HasWaited mid new (heard deed) → new.overs ≡ mid.overs
  overs_same (look mark) waited = waited.2
  overs_same ping waited = waited.2
