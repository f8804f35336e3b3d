use Rattle.std.proofs.Common.{◌≡◌, ℕ, None, Err, refl, ◌∙◌, subst, inl}
use Rattle.std.specs.Prelude.{option_map}
use Rattle.rv_record.specs.declared.fault.CellFault.{CellFault}
use Rattle.rv_state.specs.Ready.{next_of}
use Rattle.rv_store.specs.Opening.{Restores}
use Rattle.rv_desk.specs.declared.open_fault.OpenFault.TheVariants.{Damaged}
use Rattle.rv_store.specs.Opening.{IsDamaged, IsSoundBook, MayOpen}
use Rattle.rv_desk.specs.Opened.{OpensAgain, StaysAsItWas}
use Rattle.rv_desk.specs.DeskStates.{DeskState}
use Rattle.rv_desk.proofs.Reopening.{settles_so, undamaged}
use Rattle.rv_desk.proofs.desk.Desk.reopen.Goals as goal

pub invariant_of-self : goal.invariant_of-self
invariant_of-self g c =
    let opens = c.in-Ok-restore.ensures.0 in (
      record { ready = tt; holds = λ tells. (c.in-Ok.loaded, (c.in-Ok.ensures.told tells).0, inl opens.kept) },
      λ honest left may.
          let tells = (c.in-Ok.ensures.honest honest).1 refl in
          (c.in-Ok.loaded, c.in-Ok.ensures.settled tells c.in-Ok.loaded (c.in-Ok.ensures.told tells).0 left may, inl opens.kept),
    )

pub returns-in-Ok-restore : goal.returns-in-Ok-restore
returns-in-Ok-restore g c =
    let state = c.self.inside.state in
    let limit : c.limit-limit.result ≡ state.limit = c.limit-limit.ensures ∙ c.book.ensures.limit in
    let opens = subst (λ (n : ℕ). MayOpen n c.in-Ok-restore.state.book c.in-Ok.loaded) limit c.in-Ok-restore.ensures.0 in
    let sound : IsSoundBook state.limit state.book = record { lawful = c.book.ensures.lawful; within = c.book.ensures.within.0; fits = c.book.ensures.fits; parts = c.book.ensures.parts } in
    let new : DeskState g.row.K.Denot = record { book = c.in-Ok-restore.state.book; limit = c.in-Ok-restore.state.limit; doubt = None; keeper = c.load.new.self } in
    subst (λ (old : DeskState g.row.K.Denot). OpensAgain g.K.Keeper old new) c.self.view_is (record {
      opens = record {
        loaded = c.in-Ok.loaded;
        loads = c.in-Ok.ensures.loads;
        was = record { order = c.in-Ok.ensures.order; told = λ tells. (c.in-Ok.ensures.told tells).1 };
        opens = opens;
        held = λ tells. (c.in-Ok.ensures.told tells).0;
        most = c.in-Ok-restore.ensures.1 ∙ limit;
        doubt = refl;
        told = c.in-Ok.ensures.tells;
        honest = λ honest. (c.in-Ok.ensures.honest honest).0;
        crash = c.in-Ok.ensures.crash;
        still = c.in-Ok.ensures.cause.still;
        goes_on = λ steady. (c.in-Ok.ensures.steady steady).goes_on;
      };
      settled = settles_so g.K.Keeper state c.self.inside.doubt c.self.inside.keeper c.load.new.self c.self.invariant.0 sound c.book.ensures.within.1 c.in-Ok.loaded c.in-Ok.ensures.tells (λ tells. (c.in-Ok.ensures.told tells).1) c.in-Ok-restore.state.book opens;
    })

pub returns-in-Err-BadCell : goal.returns-in-Err-BadCell
returns-in-Err-BadCell g c =
    let state = c.self.inside.state in
    let limit : c.limit-limit.result ≡ state.limit = c.limit-limit.ensures ∙ c.book.ensures.limit in
    let restored : IsDamaged c.limit-limit.result c.in-Ok.loaded c.in-Err-BadCell.damage = subst (λ (fault : CellFault). Restores c.limit-limit.result c.in-Ok.loaded (Err fault)) c.in-Err-BadCell.field-0-is c.in-Err-BadCell.ensures in
    let damaged = subst (λ (n : ℕ). IsDamaged n c.in-Ok.loaded c.in-Err-BadCell.damage) limit restored in
    let sound : IsSoundBook state.limit state.book = record { lawful = c.book.ensures.lawful; within = c.book.ensures.within.0; fits = c.book.ensures.fits; parts = c.book.ensures.parts } in
    let now : DeskState g.row.K.Denot = record { book = state.book; limit = state.limit; doubt = option_map next_of c.self.inside.doubt; keeper = c.load.new.self } in
    subst (λ (old : DeskState g.row.K.Denot). StaysAsItWas g.K.Keeper old (Damaged c.in-Err-BadCell.damage) now) c.self.view_is (record {
      why = record {
        loaded = c.in-Ok.loaded;
        loads = c.in-Ok.ensures.loads;
        was = record { order = c.in-Ok.ensures.order; told = λ tells. (c.in-Ok.ensures.told tells).1 };
        damaged = damaged;
        still = c.in-Ok.ensures.cause.still;
      };
      sound = λ damage is. undamaged g.K.Keeper state c.self.inside.doubt c.self.inside.keeper c.load.new.self c.self.invariant.0 sound c.book.ensures.within.1 c.in-Ok.loaded c.in-Ok.ensures.tells (λ tells. (c.in-Ok.ensures.told tells).1) c.in-Err-BadCell.damage damaged;
      left = record {
        told = c.in-Ok.ensures.tells;
        held = c.in-Ok.ensures.same;
        honest = λ honest. (c.in-Ok.ensures.honest honest).0;
        crash = c.in-Ok.ensures.crash;
        later = c.in-Ok.ensures.cause.later;
        goes_on = λ steady. (c.in-Ok.ensures.steady steady).goes_on;
      };
      book = refl;
      limit = refl;
      doubt = refl;
    })
