use Rattle.std.proofs.Common.{◌≡◌, ◌∙◌, sym, ap, subst, ℕ, List, ◌-◌, ◌+◌, ◌&&◌, Bool, None, nat_lt, get_or, arith}
use Rattle.rv_book.specs.declared.look.LookRow.{LookRow}
use Rattle.std.specs.List.{count_by}
use Rattle.rv_book.specs.Book.{Book}
use Rattle.rv_book.specs.Kept.{is_look_of, later_looks}
use Rattle.rv_book.specs.Logs.{logged}
use Rattle.rv_book.specs.LookLaws.{kept-none}
use Rattle.rv_book.proofs.LookRowLaws.{Parts, parts_at, kept_is}
use Rattle.rv_book.proofs.look.kept.Goals as goal

-- the look row that is read where there is none
abbrev blank : LookRow
blank = record { number = 0; before = None }

-- the parts, by the index at which the look row is read
parts_read : (book : Book) (look_rows : List LookRow) (place index : ℕ) (group : List ℕ) → index ≡ place - (book.page.at + 1) → Parts book look_rows place group
    → (get_or look_rows index blank).number + later_looks group place book ≡ count_by (is_look_of group) book.entries
parts_read book look_rows place index group is parts =
    subst (λ (n : ℕ). (get_or look_rows n blank).number + later_looks group place book ≡ count_by (is_look_of group) book.entries) (sym is) (parts.parts blank)

pub overflow_sub-later : goal.overflow_sub-later
overflow_sub-later c =
    let look = c.in-Some.look in
    let p = parts_at (logged c.args.log) c.args.look_rows.now c.args.place (look.user.now, look.group.now, look.order) (sym c.in-Some.ensures) c.requires.look_rows in
    omega (arith, parts_read (logged c.args.log) c.args.look_rows.now c.args.place c.index.result look.group.now c.index.ensures p, c.row-row.ensures.looks)

pub returns-then-not-row : goal.returns-then-not-row
returns-then-not-row c =
    let look = c.in-Some.look in
    let row = c.row-row.result in
    let number = (get_or c.args.look_rows.now c.index.result blank).number in
    let p = parts_at (logged c.args.log) c.args.look_rows.now c.args.place (look.user.now, look.group.now, look.order) (sym c.in-Some.ensures) c.requires.look_rows in
    ap (λ (b : Bool). b && nat_lt (row.looks - number) 16) (sym c.if-not-row.true)
    ∙ kept_is (logged c.args.log) c.args.place (look.user.now, look.group.now, look.order) number row.looks row.retired c.in-Some.ensures (parts_read (logged c.args.log) c.args.look_rows.now c.args.place c.index.result look.group.now c.index.ensures p) c.row-row.ensures.looks c.row-row.ensures.retired

pub returns-else-not-row : goal.returns-else-not-row
returns-else-not-row c =
    let look = c.in-Some.look in
    let row = c.row-row.result in
    let number = (get_or c.args.look_rows.now c.index.result blank).number in
    let p = parts_at (logged c.args.log) c.args.look_rows.now c.args.place (look.user.now, look.group.now, look.order) (sym c.in-Some.ensures) c.requires.look_rows in
    c.if-not-row.false
    ∙ ap (λ (b : Bool). b && nat_lt (row.looks - number) 16) (sym c.if-not-row.false)
    ∙ kept_is (logged c.args.log) c.args.place (look.user.now, look.group.now, look.order) number row.looks row.retired c.in-Some.ensures (parts_read (logged c.args.log) c.args.look_rows.now c.args.place c.index.result look.group.now c.index.ensures p) c.row-row.ensures.looks c.row-row.ensures.retired

pub returns-in-None : goal.returns-in-None
returns-in-None c = sym (kept-none c.args.place (logged c.args.log) (sym c.in-None.ensures))
