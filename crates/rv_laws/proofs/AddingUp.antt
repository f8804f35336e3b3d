-- All requests that a seed makes are taken, and none is refused: so the counts of a run's summary add up.
use Rattle.std.proofs.Common.{◌≡◌, ℕ, zero, suc, ◌+◌, ◌-◌, ◌%◌, ◌^◌, ◌<◌, ◌==◌, inl, Bool, true, false, cond, nat_le, List, [], ◌∷◌, Option, Some, None, refl, sym, ap, ◌∙◌, subst, arith}
use Rattle.std.specs.List.{count_by}
use Rattle.std.specs.Option.{option_map_or}
use Rattle.std.proofs.Math.Nat.{mod-lt}
use Rattle.std.proofs.lemmas.List.Sums.{sum_by-cons}
use Rattle.std.specs.Io.KnownBytes.{Appends}
use Rattle.rv_base.specs.Outside.{OutputState}
use Rattle.rv_turns.specs.Outcomes.{has_acted}
use Rattle.rv_turns.specs.declared.pushing.Outcome.{Outcome}
use Rattle.rv_book.specs.Book.{Book, last, size}
use Rattle.rv_make.specs.declared.summary.Summary.{Summary}
use Rattle.rv_make.specs.Answered.{is_look, is_same, is_skipped, one_if}
use Rattle.rv_make.specs.Draws.{draw_of, drawn}
use Rattle.rv_make.specs.Making.{Making}
use Rattle.rv_make.specs.Plays.{first_scene, Plays, Scene, TakesRequest, TakesRequests}
use Rattle.rv_make.specs.Requests.{made_from, made_one, makes, MadeStep, next_made, pulls_last, pulls_null, push_of, pushes, repeats, started}
use Rattle.rv_make.specs.Threes.{held_by}
use Rattle.rv_cli.specs.declared.ending.Ending.{Ending}
use Rattle.rv_cli.specs.declared.ending.Ending.TheVariants as endings
use Rattle.rv_cli.specs.Headline.{TellsRun, WritesReport}
use Rattle.rv_cli.specs.Texts.{status_of}
use Rattle.rv_laws.specs.Makes.{AddsUp, SummariesAddUp, WritesSums}
use Rattle.rv_laws.proofs.MadeUsers.{HasDevice, InBook, IsCounted, IsUnderway, Who, count, counted_on, number, who_is}
use Rattle.rv_laws.proofs.MadeSteps.{fresh_push, pull_last, pull_null, push_again}

-- ---- What is made is one of these.

either : {X : Type 0} (P : X → Type 0) (x y : X) (b : Bool) → P x → P y → P (cond b x y)
either P x y true one other = one
either P x y false one other = other

repeats_by : (P : MadeStep → Type 0) (making : Making) (who left : ℕ) → ((push : _) → P (push_of who (held_by who making.pushed).count push, made_one making left)) → P (pulls_last making who left) → P (repeats making who left (held_by who making.pushed))
repeats_by P making who left again last = by (held_by who making.pushed).last
  where
    by : (o : Option _) → P (option_map_or (λ push. (push_of who (held_by who making.pushed).count push, made_one making left)) o (pulls_last making who left))
    by None = last
    by (Some push) = again push

makes_by : (P : MadeStep → Type 0) (making : Making) (who what left : ℕ) → ((push : _) (left : ℕ) → P (pushes making who push left)) → ((push : _) → P (push_of who (held_by who making.pushed).count push, made_one making left))
    → P (pulls_last making who left) → P (pulls_null making who left) → P (makes making who what left)
makes_by P making who what left anew again last null =
    either P _ _ (nat_le what 5) (anew (record { kind = draw_of (drawn left) % 7; row = draw_of (drawn (drawn left)) % 20; request = making.made + 1 }) (drawn (drawn left)))
    (either P _ _ (nat_le what 7) last (either P _ _ (what == 8) null (repeats_by P making who left again last)))

module _ (taken : ℕ) (making : Making) (scene : Scene) (room : taken < 2 ^ 32 - 1) (under : IsUnderway taken (count making) scene) where
  abbrev Goes : MadeStep → Type 0
  Goes made = (outcome : Outcome) (new : Scene) → TakesRequest scene made.0 outcome new → IsUnderway (taken + 1) (count made.1) new × IsCounted outcome scene.server.book new.server.book

  made_goes : (who : Who) (what left : ℕ) → Goes (makes making (number who) what left)
  made_goes who what left =
      makes_by Goes making (number who) what left
      (λ push left outcome new took. fresh_push taken (count making) scene room under who (count making who + 1) _ (count (pushes making (number who) push left).1) outcome new refl (λ v. counted_on making who v push left) took)
      (λ push outcome new took. push_again taken (count making) scene room under who (count making who) _ outcome new refl took)
      (λ outcome new took. pull_last taken (count making) scene room under who outcome new took)
      (λ outcome new took. pull_null taken (count making) scene room under who outcome new took)

  user_goes : (n what left : ℕ) → (who : Who) × (n ≡ number who) → Goes (makes making n what left)
  user_goes n what left (who, is) = subst (λ (m : ℕ). Goes (makes making m what left)) (sym is) (made_goes who what left)

  one_goes : Goes (next_made making)
  unfolding next_made
  one_goes =
      let drawn_user = drawn making.number in
      let drawn_what = drawn drawn_user in
      user_goes (draw_of drawn_user % 3) (draw_of drawn_what % 10) drawn_what (who_is (draw_of drawn_user % 3) (mod-lt (draw_of drawn_user) (omega arith)))

-- ---- All requests.

count_cons : (p : Outcome → Bool) (outcome : Outcome) (outcomes : List Outcome) → count_by p (outcome ∷ outcomes) ≡ one_if (p outcome) + count_by p outcomes
count_cons p outcome outcomes = sum_by-cons (λ (o : Outcome). cond (p o) 1 0) outcome outcomes

record AreCountedOnce (n : ℕ) (outcomes : List Outcome) (old new : Book) : Type 0 where
  pub all : ((count_by has_acted outcomes + count_by is_skipped outcomes) + count_by is_look outcomes) + count_by is_same outcomes ≡ n
  pub grows : size new ≡ size old + (count_by has_acted outcomes + count_by is_look outcomes)

all_counted : (n taken : ℕ) (making : Making) (scene last : Scene) (outcomes : List Outcome) → taken + n < 2 ^ 32 → IsUnderway taken (count making) scene → TakesRequests scene (made_from n making) outcomes last
    → AreCountedOnce n outcomes scene.server.book last.server.book
all_counted zero taken making scene last [] fits under same = record { all = refl; grows = ap (λ (s : Scene). size s.server.book) same ∙ omega arith }
all_counted zero taken making scene last (outcome ∷ outcomes) fits under never = absurd never
all_counted (suc n) taken making scene last [] fits under never = absurd never
all_counted (suc n) taken making scene last (outcome ∷ outcomes) fits under (mid, took, rest) =
    let (then, counted) = one_goes taken making scene (omega (arith, fits)) under outcome mid took in
    let others = all_counted n (taken + 1) (next_made making).1 mid last outcomes (omega (arith, fits)) then rest in
    let acted = count_cons has_acted outcome outcomes in
    let skipped = count_cons is_skipped outcome outcomes in
    let looks = count_cons is_look outcome outcomes in
    let same = count_cons is_same outcome outcomes in
    let once = counted.once in
    let grown = counted.grows in
    let all = others.all in
    let grows = others.grows in
    record { all = omega (arith, acted, skipped, looks, same, once, all); grows = omega (arith, acted, looks, grown, grows) }

first_underway : (seed : ℕ) → IsUnderway 0 (count (started seed)) first_scene
first_underway seed = record {
  doubt = refl;
  limit = refl;
  small = record { few = omega arith; stands = λ group. refl; orders = λ group. omega arith };
  users = in_none;
  devices = first;
}
  where
    in_none : (who : Who) → InBook who first_scene.server.book (count (started seed) who)
    in_none Who.first = record { own = inl refl; home = inl refl; last = refl }
    in_none Who.second = record { own = inl refl; home = inl refl; last = refl }
    in_none Who.third = record { own = inl refl; home = inl refl; last = refl }

    first : (who : Who) → HasDevice 0 who first_scene
    first Who.first = record { group = refl; client = refl; order = omega arith }
    first Who.second = record { group = refl; client = refl; order = omega arith }
    first Who.third = record { group = refl; client = refl; order = omega arith }

plays_add_up : (seed n : ℕ) (summary : Summary) → n < 2 ^ 32 → Plays seed n summary → AddsUp n summary
plays_add_up seed n summary fits plays =
    let told = plays.told in
    let counted = all_counted n 0 (started seed) first_scene plays.last plays.outcomes (omega (arith, fits)) (first_underway seed) plays.run in
    let all = counted.all in
    let grows = counted.grows in
    let acted = told.acted in
    let skipped = told.skipped in
    let looks = told.looks in
    let same = told.same in
    let entries = told.entries in
    record { requests = told.all; answers = omega (arith, all, acted, skipped, looks, same); entries = omega (arith, grows, acted, looks, entries) }

-- a run whose status is 0 is done, and wrote all of its summary
done_adds_up : (seed n : ℕ) (output output' : OutputState) → n < 2 ^ 32 → (ending : Ending) → 0 ≡ status_of ending → WritesReport (TellsRun seed n) output output' ending → WritesSums seed n output output'
done_adds_up seed n output output' fits endings.Done is (text, (summary, plays, told), written, still) = record {
  summary = summary;
  plays = plays;
  written = subst (Appends output.written output'.written) told written;
  sums = plays_add_up seed n summary fits plays;
}
done_adds_up seed n output output' fits endings.Write is writes = absurd (omega (arith, is))
done_adds_up seed n output output' fits endings.Memory is writes = absurd (omega (arith, is))
done_adds_up seed n output output' fits endings.Keeper is never = absurd never
done_adds_up seed n output output' fits (endings.Damaged damage) is never = absurd never
done_adds_up seed n output output' fits endings.Read is never = absurd never
done_adds_up seed n output output' fits (endings.Malformed line) is never = absurd never

pub summaries_add_up : SummariesAddUp
summaries_add_up seed n output output' fits (ending, is, writes) = done_adds_up seed n output output' fits ending is writes
