use Rattle.std.proofs.Common.{subst, sym}
use Rattle.rv_history.specs.Closing.{SumsUp}
use Rattle.rv_history.specs.SoundClosingLaws.{page_is_sound}
use Rattle.rv_state.specs.Standing.{Standing}
use Rattle.rv_state.proofs.state.State.closed.Goals as goal

pub from_page-requires-clause-sound : goal.from_page-requires-clause-sound
from_page-requires-clause-sound c =
    page_is_sound c.self.inside.book.book c.in_ok-page.page c.self.invariant.0 (subst (λ (s : Standing). SumsUp s.book c.in_ok-page.page) (sym c.self.view_is) c.in_ok-page.ensures.sums)
