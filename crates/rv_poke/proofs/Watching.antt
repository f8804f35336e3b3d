-- How far a session has come, and how one deed more goes on or ends it.
use Rattle.std.proofs.Common.{◌≡◌, ℕ, ◌+◌, ◌<◌, ◌≤◌, List, [], ◌∷◌, ◌++◌, length, inl, refl, sym, ap, ◌∙◌, subst, arith, length-append, append-nil}
use Rattle.rv_base.specs.Outside.{counted}
use Rattle.rv_poke.specs.declared.poke_end.PokeEnd.TheVariants.{Done, LinkFault}
use Rattle.rv_poke.specs.declared.waited.Waited.TheVariants.{Over}
use Rattle.rv_poke.specs.Bells.{BellState, HasWaited, counted_by}
use Rattle.rv_poke.specs.Links.{LinkState, Sends}
use Rattle.rv_poke.specs.Looking.{Does, Lost, Went, heard, rise_of}
use Rattle.rv_poke.specs.Sessions.{Deed, look, ping, marks_of, poke_at, pokes_of, quiet_at, quiet_of, sent_at, sent_by, told_by, SessionState, session_state, Looks, Watched, Watches}
use Rattle.rv_poke.proofs.Pokes.{told_after, told_more, sent_more, pokes_more, quiet_more, found_more, at_most_one, rise-told_by, sends_then, sends_silent, sends_none, begun_more, rungs_more, quiets_more, overs_same}

-- one deed more is one poke more at the most
pub one_more : (before : List Deed) (last : Deed) (pokes : ℕ) → pokes_of 0 before < 10000 → pokes ≡ pokes_of 0 (before ++ last ∷ []) → pokes ≤ 10000
one_more before last pokes few same = let more = pokes_more 0 before last in let one = at_most_one (told_after 0 before) last in omega arith

module _ {S : Type 0} (marks : S → List ℕ → ℕ → S → Type 0) where
  pub looks_more : (user : List ℕ) (old mid new : S) (deeds : List Deed) (deed : Deed) → Looks marks user old (marks_of deeds) mid → Does marks user deed mid new → Looks marks user old (marks_of (deeds ++ deed ∷ [])) new
  looks_more user old mid new [] (look mark) chain one = (new, subst (λ (s : S). marks s user mark new) chain one, refl)
  looks_more user old mid new [] ping chain one = one ∙ chain
  looks_more user old mid new (look m ∷ ds) deed chain one = (chain.0, chain.1, looks_more user chain.0 mid new ds deed chain.2 one)
  looks_more user old mid new (ping ∷ ds) deed chain one = looks_more user old mid new ds deed chain one

  -- A session of a user has come so far: the deeds that were done, what is told now, the pokes that were sent, the waits.
  pub record Going (user : List ℕ) (old new : SessionState S) (told pokes waits : ℕ) : Type 0 where
    pub before : List Deed
    pub last : Deed
    pub watched : Watched marks user old new before last (before ++ last ∷ [])
    pub is_told : told ≡ told_after 0 (before ++ last ∷ [])
    pub are_pokes : pokes ≡ pokes_of 0 (before ++ last ∷ [])
    pub has_waited : length before ≡ waits
    pub not_over : new.bell.overs ≡ old.bell.overs
    pub untaken : new.link.coming ≡ old.link.coming
    pub still : new.link.faults ≡ old.link.faults

  -- after the first look
  pub begins : (user : List ℕ) (teller teller' : S) (link link' : LinkState) (bell : BellState) (now pokes mark : ℕ) → Went marks user 0 teller teller' link link' (look mark) now → pokes ≡ rise_of 0 now
      → Going user (session_state teller link bell) (session_state teller' link' bell) now pokes 0
  begins user teller teller' link link' bell now pokes mark went is =
      let same : pokes ≡ poke_at 0 (look mark) = is ∙ ap (rise_of 0) went.next ∙ rise-told_by 0 (look mark) in record {
        before = [];
        last = look mark;
        watched = record {
          begun = tt;
          looks = (teller', went.does, refl);
          rung = refl;
          silent = refl;
          few = omega arith;
          waits = omega arith;
          said = subst (λ l. Sends link.sent l link'.sent) (sym (append-nil (sent_at 0 (look mark)))) went.said;
          found = let all : quiet_at 0 (look mark) ≡ quiet_of 0 (look mark ∷ []) = omega arith in went.found ∙ ap (λ n. counted_by n link.found) all;
        };
        is_told = went.next;
        are_pokes = same ∙ omega arith;
        has_waited = refl;
        not_over = refl;
        untaken = went.untaken;
        still = went.still;
      }

  -- the first look didn't end well
  pub fails_at_once : (user : List ℕ) (teller teller' : S) (link link' : LinkState) (bell : BellState) (mark : ℕ) → Lost marks user 0 teller teller' link link' (look mark)
      → Watches marks user (session_state teller link bell) (session_state teller' link' bell) LinkFault
  fails_at_once user teller teller' link link' bell mark lost = (
    [],
    look mark,
    record {
      begun = tt;
      looks = (teller', lost.does, refl);
      rung = refl;
      silent = refl;
      few = omega arith;
      waits = omega arith;
      said = sends_none link.sent link'.sent lost.idle.silent;
      found = lost.idle.unfound;
    },
    refl,
  )

  module _ (user : List ℕ) (old mid : SessionState S) (told pokes waits : ℕ) (going : Going user old mid told pokes waits) where
    -- all deeds so far
    abbrev all : List Deed
    all = going.before ++ going.last ∷ []

    few_pokes : (pokes ≡ 10000 → ⊥) → pokes < 10000
    few_pokes others = let most = one_more going.before going.last pokes going.watched.few going.are_pokes in omega arith

    -- there is room for the poke of one deed more
    pub few_enough : (teller : S) (link : LinkState) (now more : ℕ) (deed : Deed) → Went marks user told mid.teller teller mid.link link deed now → more ≡ rise_of told now → pokes + more ≤ 10001
    few_enough teller link now more deed went is = let most = one_more going.before going.last pokes going.watched.few going.are_pokes in let one = at_most_one told deed in let same = is ∙ ap (rise_of told) went.next ∙ rise-told_by told deed in omega arith

    -- all is over
    pub stops : (bell : BellState) → (pokes ≡ 10000 → ⊥) → waits < 1000000 → HasWaited mid.bell bell Over
        → Watches marks user old (session_state mid.teller mid.link bell) (Done pokes)
    stops bell others below waited =
        let w = going.watched in (
          going.before,
          going.last,
          going.are_pokes,
          record { begun = w.begun; looks = w.looks; rung = waited.0 ∙ w.rung; silent = waited.1 ∙ w.silent; few = w.few; waits = w.waits; said = w.said; found = w.found },
          inl (waited.2 ∙ ap counted going.not_over, few_pokes others, omega (arith, going.has_waited)),
        )

    module _ (teller : S) (link : LinkState) (bell : BellState) (others : pokes ≡ 10000 → ⊥) (below : waits < 1000000) (deed : Deed) (waited : HasWaited mid.bell bell (heard deed)) where
      after_wait : (well : List Deed) → Does marks user deed mid.teller teller → Sends old.link.sent (sent_by 0 well) link.sent → link.found ≡ counted_by (quiet_of 0 well) old.link.found
          → Watched marks user old (session_state teller link bell) all deed well
      after_wait well does said found = record {
        begun = begun_more all deed going.watched.begun;
        looks = looks_more user old.teller mid.teller teller all deed going.watched.looks does;
        rung = rungs_more old.bell mid.bell bell going.before going.last deed going.watched.rung waited;
        silent = quiets_more old.bell mid.bell bell going.before going.last deed going.watched.silent waited;
        few = subst (λ n. n < 10000) going.are_pokes (few_pokes others);
        waits = let len = length-append going.before (going.last ∷ []) in let is = going.has_waited in omega arith;
        said = said;
        found = found;
      }

      -- one deed more
      pub goes_on : (now more : ℕ) → Went marks user told mid.teller teller mid.link link deed now → more ≡ rise_of told now → Going user old (session_state teller link bell) now (pokes + more) (waits + 1)
      goes_on now more went is =
          let same : more ≡ poke_at told deed = is ∙ ap (rise_of told) went.next ∙ rise-told_by told deed in record {
            before = all;
            last = deed;
            watched = after_wait (all ++ deed ∷ []) went.does
                (subst (λ l. Sends old.link.sent l link.sent) (ap (λ t. sent_by 0 all ++ sent_at t deed) going.is_told ∙ sym (sent_more 0 all deed))
                (sends_then old.link.sent mid.link.sent link.sent (sent_by 0 all) (sent_at told deed) going.watched.said went.said))
                (found_more (quiet_of 0 all) (quiet_at told deed) old.link.found mid.link.found link.found going.watched.found went.found
                ∙ ap (λ n. counted_by n old.link.found) (ap (λ t. quiet_of 0 all + quiet_at t deed) going.is_told ∙ sym (quiet_more 0 all deed)));
            is_told = went.next ∙ ap (λ t. told_by t deed) going.is_told ∙ sym (told_more 0 all deed);
            are_pokes = ap (λ n. pokes + n) (same ∙ ap (λ t. poke_at t deed) going.is_told) ∙ ap (λ n. n + poke_at (told_after 0 all) deed) going.are_pokes ∙ sym (pokes_more 0 all deed);
            has_waited = length-append going.before (going.last ∷ []) ∙ ap (λ n. n + 1) going.has_waited;
            not_over = overs_same old.bell mid.bell bell deed waited ∙ going.not_over;
            untaken = went.untaken ∙ going.untaken;
            still = went.still ∙ going.still;
          }

      -- a deed that didn't end well
      pub fails : Lost marks user told mid.teller teller mid.link link deed → Watches marks user old (session_state teller link bell) LinkFault
      fails lost = (
        all,
        deed,
        after_wait all lost.does (sends_silent old.link.sent mid.link.sent link.sent (sent_by 0 all) going.watched.said lost.idle.silent) (lost.idle.unfound ∙ going.watched.found),
        overs_same old.bell mid.bell bell deed waited ∙ going.not_over,
      )
