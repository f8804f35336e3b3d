use Rattle.std.proofs.Common.{subst, sym}
use Rattle.rv_book.specs.Registers.{RetiresBound}
use Rattle.rv_book.proofs.book.Book.group_at.Goals as goal

pub info_at-requires-clause-bound : goal.info_at-requires-clause-bound
info_at-requires-clause-bound c = subst RetiresBound (sym c.log.ensures) c.requires
