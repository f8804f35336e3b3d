use Rattle.rv_state.proofs.lawful.may_stand.Goals as goal

pub returns-in-Act : goal.returns-in-Act
returns-in-Act c = rw (c.in-Act.is) c.may_act.ensures

pub returns-in-Look : goal.returns-in-Look
returns-in-Look c = rw (c.in-Look.is) c.may_look.ensures
