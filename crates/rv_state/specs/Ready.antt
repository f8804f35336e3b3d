-- What is prepared: an entry, or the closed book, which may come next and is of the form; what is staged beside an entry is what it does, and
-- all has space.
use Rattle.std.specs.Prelude.{◌≡◌, ℕ, ◌<◌, ◌≤◌, length}
use Rattle.rv_rows.specs.Changes.{after}
use Rattle.rv_rows.specs.Held.{rows_in}
use Rattle.rv_book.specs.declared.entry.Entry.{Entry}
use Rattle.rv_book.specs.declared.entry.Entry.TheVariants as entries
use Rattle.rv_book.specs.Book.{size}
use Rattle.rv_book.specs.Kept.{falls_out}
use Rattle.rv_mutators.specs.Staging.{with_staged, staged}
use Rattle.rv_history.specs.Served.{Next, MayFollow}
use Rattle.rv_history.specs.Marks.{AreConcerned}
use Rattle.rv_news.specs.Records.{IsViewAt}
use Rattle.rv_record.specs.PageCells.{PartsFit}
use Rattle.rv_record.specs.EntryReading.{EntryFits}
use Rattle.rv_state.specs.declared.prepared.Prepared.{Prepared}
use Rattle.rv_state.specs.declared.prepared.Prepared.TheVariants.{Act, Look, Retirement, Closing}
use Rattle.rv_state.specs.declared.prepared.PreparedAct.{PreparedAct}
use Rattle.rv_state.specs.declared.prepared.PreparedLook.{PreparedLook}
use Rattle.rv_state.specs.Standing.{Standing}

-- the entry of an act, and of a look
abbrev pub act_entry : PreparedAct → Entry
act_entry act = entries.Act act.user act.group act.client act.id act.call

abbrev pub look_entry : PreparedLook → Entry
look_entry look = entries.Look look.user look.group look.order look.base

-- what is entered
abbrev pub next_of : Prepared → Next
next_of (Act act) = Next.entry (act_entry act)
next_of (Look look) = Next.entry (look_entry look)
next_of (Retirement group) = Next.entry (entries.Retire group)
next_of (Closing closed) = Next.closed closed.book

-- It is of the form: the texts and numbers of an entry, or those of the closed book's page.
abbrev pub NextFits : Next → Type 0
NextFits (Next.entry entry) = EntryFits entry
NextFits (Next.closed closed) = PartsFit closed.page

-- an entry has space in the book
abbrev pub HasSpace : Standing → Next → Type 0
HasSpace s (Next.entry entry) = 1 ≤ s.spare_entries
HasSpace s (Next.closed closed) = Unit {0}

-- What the entry does beside the book is ready, and has space. An act: what its call stages, with which the rows afterwards are
-- those that the call leaves, at any version; and the users whom it concerns. A look: a record of what its user and its group see, and
-- the place of the look that falls out with it. A retirement does nothing. The closed book may become as long as the book.
abbrev pub HasEffect : Standing → Prepared → Type 0
HasEffect s (Act act) =
    (length act.staged.rows ≤ s.spare_rows) × (act.staged ≡ staged (rows_in s.rows) act.user act.call)
    × ((version : ℕ) → with_staged version act.staged s.rows ≡ after s.rows act.user act.call version)
    × (length act.concerned ≤ s.spare_marks) × AreConcerned s.book (act_entry act) act.concerned
HasEffect s (Look look) = (1 ≤ s.spare_views) × IsViewAt s.book look.user look.group look.view × (look.gone ≡ falls_out look.group s.book)
HasEffect s (Retirement group) = Unit {0}
HasEffect s (Closing closed) = closed.limit ≡ s.limit

-- it may be entered at the state
pub record IsPrepared (s : Standing) (p : Prepared) : Type 0 where
  pub lawful : MayFollow s.book (next_of p)
  pub fits : NextFits (next_of p)
  pub below : size s.book < s.limit
  pub space : HasSpace s (next_of p)
  pub effect : HasEffect s p
