-- What was prepared and is entered leaves the state of the longer book.
use Rattle.std.proofs.Common.{◌≡◌, ℕ, ◌+◌, ◌^◌, ◌<◌, arith, List, [], ◌∷◌, ◌++◌, Option, not, subst, sym}
use Rattle.std.specs.Prelude.{fold}
use Rattle.std.specs.List.{filter, AllByRecursion}
use Rattle.rv_rows.specs.Held.{Stored}
use Rattle.rv_book.specs.declared.entry.Entry.{Entry}
use Rattle.rv_book.specs.declared.entry.Entry.TheVariants.{Act, Look, Retire}
use Rattle.rv_book.specs.Book.{Book, size, with_entry, empty_book}
use Rattle.rv_book.specs.BookWordLaws.{size-with_entry}
use Rattle.rv_book.specs.Kept.{kept, is_place}
use Rattle.rv_views.specs.Viewed.{Viewed}
use Rattle.rv_mutators.specs.Staging.{with_staged}
use Rattle.rv_history.specs.Lawful.{IsLawful}
use Rattle.rv_history.specs.LawfulBookLaws.{lawful_none, lawful_more}
use Rattle.rv_history.specs.Replay.{IsReplay}
use Rattle.rv_history.specs.ReplayLaws.{replay_none, replay_act, replay_look, replay_retire}
use Rattle.rv_news.specs.Records.{Placed, AreRecords}
use Rattle.rv_news.specs.KeptRecordLaws.{records_none, records_act, records_look_in_place, records_retire}
use Rattle.rv_record.specs.EntryReading.{EntryFits}
use Rattle.rv_record.specs.PageCells.{PartsFit}
use Rattle.rv_state.specs.declared.prepared.Prepared.{Prepared}
use Rattle.rv_state.specs.declared.prepared.Prepared.TheVariants as prepared
use Rattle.rv_state.specs.declared.prepared.PreparedAct.{PreparedAct}
use Rattle.rv_state.specs.declared.prepared.PreparedLook.{PreparedLook}
use Rattle.rv_state.specs.Standing.{IsWithin, Standing}
use Rattle.rv_state.specs.UserMarks.{UserMark, with_mark, AreMarks}
use Rattle.rv_state.proofs.Marking.{marks_none, marks_act, marks_look, marks_retire}
use Rattle.rv_state.specs.Ready.{IsPrepared, act_entry, look_entry}

-- the book is lawful, the rows, the records and the marks are its own, its entries are of the form, and it is within its limit
abbrev pub Stands : Book → ℕ → List Stored → List Placed → List UserMark → Type 0
Stands book limit rows records marks = IsLawful book × IsReplay book rows × AreRecords book records × AllByRecursion EntryFits book.entries × AreMarks book marks × PartsFit book.page × IsWithin book limit

pub none_stands : (limit : ℕ) → limit < 2 ^ 32 → Stands empty_book limit [] [] []
none_stands limit range = (lawful_none, replay_none, records_none, tt, marks_none, record { rows = tt; clients = tt; groups = tt }, (omega arith, range))

-- with one more entry it is still within
more_within : (book : Book) (entry : Entry) (limit : ℕ) → size book < limit → IsWithin book limit → IsWithin (with_entry book entry) limit
more_within book entry limit below within = (omega (arith, size-with_entry book entry, below), within.1)

-- one more entry of the form
more_fit : (entries : List Entry) (entry : Entry) → AllByRecursion EntryFits entries → EntryFits entry → AllByRecursion EntryFits (entries ++ entry ∷ [])
more_fit [] entry all fits = (fits, tt)
more_fit (e ∷ entries) entry all fits = (all.0, more_fit entries entry all.1 fits)

-- the records after a look that is entered with its record: that of the look that falls out has gone
abbrev pub with_record : Book → Option ℕ → Viewed → List Placed → List Placed
with_record book gone viewed records = filter (λ r. not (is_place r.0 gone)) records ++ (size book + 1, viewed) ∷ []

-- the records of those looks that are kept after a retirement of the group
abbrev pub left : Book → List ℕ → List Placed → List Placed
left book group records = filter (λ r. kept r.0 (with_entry book (Retire group))) records

after_act : (s : Standing) (act : PreparedAct) → Stands s.book s.limit s.rows s.records s.marks → IsPrepared s (prepared.Act act)
    → Stands (with_entry s.book (act_entry act)) s.limit (with_staged (size s.book + 1) act.staged s.rows) s.records (fold (with_mark (size s.book + 1)) s.marks act.concerned)
after_act s act (lawful, replay, records, all, marks, parts, within) ready =
    let entry : Entry = Act act.user act.group act.client act.id act.call in (
      lawful_more s.book entry lawful ready.lawful,
      subst (λ (rows : List Stored). IsReplay (with_entry s.book entry) rows) (sym (ready.effect.2 (size s.book + 1))) (replay_act s.book s.rows act.user act.group act.client act.id act.call replay),
      records_act s.book act.user act.group act.client act.id act.call s.records records,
      more_fit s.book.entries entry all ready.fits,
      marks_act s.book entry act.concerned s.marks ready.effect.4 marks,
      parts,
      more_within s.book entry s.limit ready.below within,
    )

after_look : (s : Standing) (look : PreparedLook) → Stands s.book s.limit s.rows s.records s.marks → IsPrepared s (prepared.Look look)
    → Stands (with_entry s.book (look_entry look)) s.limit s.rows (with_record s.book look.gone look.view s.records) s.marks
after_look s look (lawful, replay, records, all, marks, parts, within) ready =
    let entry : Entry = Look look.user look.group look.order look.base in (
      lawful_more s.book entry lawful ready.lawful,
      replay_look s.book s.rows look.user look.group look.order look.base replay,
      subst (λ (gone : Option ℕ). AreRecords (with_entry s.book entry) (with_record s.book gone look.view s.records)) (sym ready.effect.2)
          (records_look_in_place s.book look.user look.group look.order look.base look.view s.records records ready.effect.1 ready.lawful.0.stands),
      more_fit s.book.entries entry all ready.fits,
      marks_look s.book look.user look.group look.order look.base s.marks marks,
      parts,
      more_within s.book entry s.limit ready.below within,
    )

after_retirement : (s : Standing) (group : List ℕ) → Stands s.book s.limit s.rows s.records s.marks → IsPrepared s (prepared.Retirement group) → Stands (with_entry s.book (Retire group)) s.limit s.rows (left s.book group s.records) s.marks
after_retirement s group (lawful, replay, records, all, marks, parts, within) ready = (
  lawful_more s.book (Retire group) lawful ready.lawful,
  replay_retire s.book s.rows group replay,
  records_retire s.book group s.records records,
  more_fit s.book.entries (Retire group) all ready.fits,
  marks_retire s.book group s.marks marks,
  parts,
  more_within s.book (Retire group) s.limit ready.below within,
)

-- the same, where t is the state in other words
module _ (t s : Standing) (p : Prepared) (same : t ≡ s) (stands : Stands t.book t.limit t.rows t.records t.marks) (is_prepared : IsPrepared s p) where
  ready : (q : Prepared) → p ≡ q → IsPrepared t q
  ready q is = subst (λ (v : Standing). IsPrepared v q) (sym same) (subst (λ (r : Prepared). IsPrepared s r) is is_prepared)

  pub act_entered : (act : PreparedAct) → p ≡ prepared.Act act → Stands (with_entry t.book (act_entry act)) t.limit (with_staged (size t.book + 1) act.staged t.rows) t.records (fold (with_mark (size t.book + 1)) t.marks act.concerned)
  act_entered act is = after_act t act stands (ready (prepared.Act act) is)

  pub look_entered : (look : PreparedLook) → p ≡ prepared.Look look → Stands (with_entry t.book (look_entry look)) t.limit t.rows (with_record t.book look.gone look.view t.records) t.marks
  look_entered look is = after_look t look stands (ready (prepared.Look look) is)

  pub retirement_entered : (group : List ℕ) → p ≡ prepared.Retirement group → Stands (with_entry t.book (Retire group)) t.limit t.rows (left t.book group t.records) t.marks
  retirement_entered group is = after_retirement t group stands (ready (prepared.Retirement group) is)
