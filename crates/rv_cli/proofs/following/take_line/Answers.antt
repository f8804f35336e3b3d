use Rattle.std.proofs.Common.{refl}
use Rattle.rv_cli.proofs.FollowTaken.{cut_answer, no_memory, not_read, refused, took, took_answer}
use Rattle.rv_cli.proofs.following.take_line.Goals as goal

pub returns-in-Ok-None-clause-takes : goal.returns-in-Ok-None-clause-takes
returns-in-Ok-None-clause-takes g c = not_read c.args.follower.now c.args.line.now c.args.number (g.O.Sink.state c.args.out.now) (rw c.in-Ok-None.field-0-is at c.in-Ok-None.ensures)

pub returns-in-Ok-clause-takes : goal.returns-in-Ok-clause-takes
returns-in-Ok-clause-takes g c =
    let are = rw c.in-Ok-Some.field-0-is at c.in-Ok-Some.ensures in
    let steps = rw c.in-Ok-Some-take.field-0-is at c.in-Ok-Some-take.ensures in
    took_answer c.args.follower.now c.take.new.self c.args.line.now c.in-Ok-Some.read are c.in-Ok-Some-take.answer _ _ _ steps c.in-Ok.ensures.writes

pub returns-in-Ok-Some-take-clause-takes : goal.returns-in-Ok-Some-take-clause-takes
returns-in-Ok-Some-take-clause-takes g c =
    let are = rw c.in-Ok-Some.field-0-is at c.in-Ok-Some.ensures in
    let steps = rw c.in-Ok-Some-take.field-0-is at c.in-Ok-Some-take.ensures in
    cut_answer c.args.follower.now c.take.new.self c.args.line.now c.in-Ok-Some.read are c.args.number c.in-Ok-Some-take.answer _ _ _ steps c.in-Err-write_answer.ensures.writes

pub returns-in-Ok-None-take-clause-takes : goal.returns-in-Ok-None-take-clause-takes
returns-in-Ok-None-take-clause-takes g c =
    let are = rw c.in-Ok-Some.field-0-is at c.in-Ok-Some.ensures in
    let steps = rw c.in-Ok-None-take.field-0-is at c.in-Ok-None-take.ensures in
    took c.args.follower.now c.take.new.self c.args.line.now c.in-Ok-Some.read are _ _ _ steps refl

pub returns-in-Err-Refused-clause-takes : goal.returns-in-Err-Refused-clause-takes
returns-in-Err-Refused-clause-takes g c =
    let are = rw c.in-Ok-Some.field-0-is at c.in-Ok-Some.ensures in
    let steps = rw c.in-Err-Refused.field-0-is at c.in-Err-Refused.ensures in
    refused c.args.follower.now c.take.new.self c.args.line.now c.in-Ok-Some.read are c.args.number _ steps

pub returns-clause-takes : goal.returns-clause-takes
returns-clause-takes g c =
    let are = rw c.in-Ok-Some.field-0-is at c.in-Ok-Some.ensures in
    let steps = rw c.in-Err-Memory.field-0-is at c.in-Err-Memory.ensures in
    no_memory c.args.follower.now c.take.new.self c.args.line.now c.in-Ok-Some.read are c.args.number _ steps
