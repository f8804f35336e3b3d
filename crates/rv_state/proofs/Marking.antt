-- The marks when one more entry is entered.
use Rattle.std.proofs.Common.{◌≡◌, ℕ, ◌+◌, Bool, true, false, cond, List, [], ◌∷◌, ◌||◌, Option, Some, refl, sym, ap, ◌∙◌, subst}
use Rattle.std.specs.Prelude.{fold}
use Rattle.std.specs.List.{list_any}
use Rattle.std.specs.Option.{option_map_or}
use Rattle.std.specs.Str.{bytes_eq}
use Rattle.rv_base.specs.Sorted.{find_by, InOrder}
use Rattle.rv_base.specs.PositionLaws.{find_put, in_order-put}
use Rattle.rv_book.specs.declared.entry.Entry.{Entry}
use Rattle.rv_book.specs.declared.entry.Entry.TheVariants.{Look, Retire}
use Rattle.rv_book.specs.Book.{Book, empty_book, size, with_entry}
use Rattle.rv_rows.specs.Sharing.{seen}
use Rattle.rv_history.specs.Marks.{AreConcerned, IsMark}
use Rattle.rv_history.specs.MarkLaws.{mark_none, mark_raised, mark_stays, nothing_concerns}
use Rattle.rv_history.specs.ReplayLaws.{rows_of-with_entry}
use Rattle.rv_state.specs.UserMarks.{UserMark, marked_user, mark_in, with_mark, AreMarks}

-- the mark of a user after one is set, and after those of some users are
mark_set : (least : ℕ) (user : List ℕ) (mark : ℕ) (marks : List UserMark) (other : List ℕ) → mark_in least user (with_mark mark marks other) ≡ cond (bytes_eq user other) mark (mark_in least user marks)
mark_set least user mark marks other =
    ap (λ (found : Option UserMark). option_map_or (λ (marked : UserMark). marked.1) found least) (find_put marked_user user (other, mark) marks)
    ∙ elim (bytes_eq user other) as (λ b. option_map_or (λ (marked : UserMark). marked.1) (cond b (Some (other, mark)) (find_by marked_user user marks)) least ≡ cond b mark (mark_in least user marks)) [ true ↦ refl | false ↦ refl ]

either_set : (first later : Bool) (mark other : ℕ) → cond later mark (cond first mark other) ≡ cond (first || later) mark other
either_set true true mark other = refl
either_set true false mark other = refl
either_set false later mark other = refl

marks_set : (least : ℕ) (user : List ℕ) (mark : ℕ) (users : List (List ℕ)) (marks : List UserMark) → mark_in least user (fold (with_mark mark) marks users) ≡ cond (list_any (bytes_eq user) users) mark (mark_in least user marks)
marks_set least user mark [] marks = refl
marks_set least user mark (other ∷ users) marks =
    marks_set least user mark users (with_mark mark marks other)
    ∙ ap (cond (list_any (bytes_eq user) users) mark) (mark_set least user mark marks other)
    ∙ either_set (bytes_eq user other) (list_any (bytes_eq user) users) mark (mark_in least user marks)

order_set : (mark : ℕ) (users : List (List ℕ)) (marks : List UserMark) → InOrder marked_user marks → InOrder marked_user (fold (with_mark mark) marks users)
order_set mark [] marks order = order
order_set mark (user ∷ users) marks order = order_set mark users (with_mark mark marks user) (in_order-put marked_user (user, mark) marks order)

apart : true ≡ false → ⊥
apart same = cc

pub marks_none : AreMarks empty_book []
marks_none = record { order = tt; each = mark_none }

-- an entry sets the marks of those whom it concerns
pub marks_act : (book : Book) (entry : Entry) (users : List (List ℕ)) (marks : List UserMark) → AreConcerned book entry users → AreMarks book marks → AreMarks (with_entry book entry) (fold (with_mark (size book + 1)) marks users)
marks_act book entry users marks are old = record {
  order = order_set (size book + 1) users marks old.order;
  each = λ user. subst (IsMark user (with_entry book entry)) (sym (marks_set book.page.at user (size book + 1) users marks)) (go user (list_any (bytes_eq user) users) refl);
}
  where
    go : (user : List ℕ) (b : Bool) → list_any (bytes_eq user) users ≡ b → IsMark user (with_entry book entry) (cond b (size book + 1) (mark_in book.page.at user marks))
    go user true among = mark_raised user book entry ((are user).0 among)
    go user false out = mark_stays user book entry (mark_in book.page.at user marks) (λ is. apart (sym ((are user).1 is) ∙ out)) (old.each user)

-- a look and a retirement concern nobody
pub marks_look : (book : Book) (user group : List ℕ) (order : ℕ) (base : Option ℕ) (marks : List UserMark) → AreMarks book marks → AreMarks (with_entry book (Look user group order base)) marks
marks_look book user group order base marks old =
    let entry : Entry = Look user group order base in record {
      order = old.order;
      each = λ other. mark_stays other book entry (mark_in book.page.at other marks) (nothing_concerns other book entry refl (ap (seen other) (rows_of-with_entry book entry))) (old.each other);
    }

pub marks_retire : (book : Book) (group : List ℕ) (marks : List UserMark) → AreMarks book marks → AreMarks (with_entry book (Retire group)) marks
marks_retire book group marks old =
    let entry : Entry = Retire group in record {
      order = old.order;
      each = λ other. mark_stays other book entry (mark_in book.page.at other marks) (nothing_concerns other book entry refl (ap (seen other) (rows_of-with_entry book entry))) (old.each other);
    }
