use Rattle.std.proofs.Common.{◌≡◌, ℕ, List, ap, sym, subst}
use Rattle.std.specs.Prelude.{IfOk}
use Rattle.rv_rows.specs.Changes.{after}
use Rattle.rv_rows.specs.Held.{Stored, rows_in}
use Rattle.rv_book.specs.Book.{Book}
use Rattle.rv_book.specs.declared.entry.Entry.TheVariants.{Act}
use Rattle.rv_mutators.specs.Staging.{staged, with_staged}
use Rattle.rv_history.specs.Marks.{AreConcerned}
use Rattle.rv_state.specs.Standing.{Standing}
use Rattle.rv_state.proofs.Concerned.{if_concerned}
use Rattle.rv_state.proofs.state.State.concerned.Goals as goal

pub returns : goal.returns
returns c =
    let user = c.args.user.now in
    let call = c.args.call.now in
    let changes = c.args.changes.now in
    let book : c.self.inside.book.book ≡ c.args.self.now.book = ap (λ (s : Standing). s.book) c.self.view_is in
    let rows : c.self.inside.tables.rows ≡ c.args.self.now.rows = ap (λ (s : Standing). s.rows) c.self.view_is in
    let is : changes ≡ staged (rows_in c.self.inside.tables.rows) user call = subst (λ (r : List Stored). changes ≡ staged (rows_in r) user call) (sym rows) c.requires.staged in
    let effects : (version : ℕ) → with_staged version changes c.self.inside.tables.rows ≡ after c.self.inside.tables.rows user call version = subst (λ (r : List Stored). (version : ℕ) → with_staged version changes r ≡ after r user call version) (sym rows) c.requires.effect in
    subst (λ (b : Book). IfOk c.add_user.result (λ users. (group client : List ℕ) (id : ℕ) → AreConcerned b (Act user group client id call) users)) book
    (if_concerned c.self.inside.book.book c.self.inside.tables.rows user call changes c.self.invariant.1 is effects c.in_ok-touched.touched c.in_ok-touched.ensures c.add_user.result c.add_user.ensures)
