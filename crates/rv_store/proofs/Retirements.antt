-- In a lawful book each group that an entry retires is named by an act or a look before it.
use Rattle.std.proofs.Common.{List, [], ◌∷◌, subst, sym}
use Rattle.rv_book.specs.declared.entry.Entry.{Entry}
use Rattle.rv_book.specs.declared.entry.Entry.TheVariants.{Act, Look, Retire}
use Rattle.rv_book.specs.Book.{Book, opening, with_entries, with_entry}
use Rattle.rv_book.specs.BookWordLaws.{with_entries-none, with_entry-more}
use Rattle.rv_book.specs.Registers.{RetiresBound}
use Rattle.rv_book.specs.RegisterLaws.{BoundIfRetired, retires_bound-opening, retires_bound-with_entry}
use Rattle.rv_history.specs.Lawful.{IsLawful, IsLawfulAfter}
use Rattle.rv_history.specs.LawfulBookLaws.{here, onward}

bound_if_retired : (before : Book) (e : Entry) → IsLawfulAfter before e → BoundIfRetired before e
bound_if_retired before (Act user group client id call) next = tt
bound_if_retired before (Look user group order base) next = tt
bound_if_retired before (Retire group) next = next.0

bound_onward : (before : Book) (rest : List Entry) → IsLawful (with_entries before rest) → RetiresBound before → RetiresBound (with_entries before rest)
bound_onward before [] lawful bound = subst RetiresBound (sym (with_entries-none before)) bound
bound_onward before (e ∷ rest) lawful bound =
    subst RetiresBound (with_entry-more before e rest)
    (bound_onward (with_entry before e) rest (onward before rest e lawful) (retires_bound-with_entry before e bound (bound_if_retired before e (here before rest e lawful))))

pub lawful_retires_bound : (book : Book) → IsLawful book → RetiresBound book
lawful_retires_bound book lawful = bound_onward (opening book) book.entries lawful (retires_bound-opening book.page)
