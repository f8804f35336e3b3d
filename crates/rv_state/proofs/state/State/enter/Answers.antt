use Rattle.rv_history.specs.SoundClosingLaws.{retires_bound}
use Rattle.rv_state.proofs.Entered.{act_entered, look_entered, retirement_entered}
use Rattle.rv_state.proofs.state.State.enter.Goals as goal

pub with_known_names-entry-requires : goal.with_known_names-entry-requires
with_known_names-entry-requires c = retires_bound c.self.inside.book.book c.self.invariant.0

pub with_known_names-entry-requires-in-Look : goal.with_known_names-entry-requires-in-Look
with_known_names-entry-requires-in-Look c = retires_bound c.self.inside.book.book c.self.invariant.0

pub invariant_of-self : goal.invariant_of-self
invariant_of-self c = rw (c.set_all.ensures, c.apply.ensures, c.push_found.ensures.book, c.push_found.ensures.limit, c.with_known_names-entry.ensures, c.into_parts-entry.ensures, c.len-place.ensures.value) (act_entered _ _ c.args.prepared c.self.view_is c.self.invariant c.requires c.in-Act.act c.in-Act.is)

pub invariant_of-self-in-Look : goal.invariant_of-self-in-Look
invariant_of-self-in-Look c =
    rw (c.push.ensures.records, c.let_one_go.ensures.records, c.push_found-in-Look.ensures.book, c.push_found-in-Look.ensures.limit, c.with_known_names-entry-in-Look.ensures, c.len-place.ensures.value) (look_entered _ _ c.args.prepared c.self.view_is c.self.invariant c.requires c.in-Look.look c.in-Look.is)

pub invariant_of-self-in-Retirement : goal.invariant_of-self-in-Retirement
invariant_of-self-in-Retirement c = rw (c.let_go.ensures.records, c.push_entry.ensures.book, c.push_entry.ensures.limit) (retirement_entered _ _ c.args.prepared c.self.view_is c.self.invariant c.requires c.in-Retirement.group c.in-Retirement.is)
