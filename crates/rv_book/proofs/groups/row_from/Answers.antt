use Rattle.std.proofs.Common.{◌∙◌, ap, arith}
use Rattle.std.proofs.lemmas.List.Sums.{count_by-le-length}
use Rattle.rv_book.specs.declared.groups.GroupRow.{GroupRow}
use Rattle.rv_book.specs.Logs.{logged}
use Rattle.rv_book.specs.Kept.{is_look_of}
use Rattle.rv_book.proofs.GroupLaws.{row_gives, none_gives}
use Rattle.rv_book.proofs.groups.row_from.Goals as goal

pub returns-in-Some-clause-bound : goal.returns-in-Some-clause-bound
returns-in-Some-clause-bound c = (row_gives (logged c.args.log) c.args.group.now c.in-Some.row c.in-Some.ensures).bound

pub returns-in-Some-clause-order : goal.returns-in-Some-clause-order
returns-in-Some-clause-order c = (row_gives (logged c.args.log) c.args.group.now c.in-Some.row c.in-Some.ensures).order

pub returns-in-Some-clause-looks : goal.returns-in-Some-clause-looks
returns-in-Some-clause-looks c = (row_gives (logged c.args.log) c.args.group.now c.in-Some.row c.in-Some.ensures).looks

pub returns-in-Some-clause-retired : goal.returns-in-Some-clause-retired
returns-in-Some-clause-retired c = (row_gives (logged c.args.log) c.args.group.now c.in-Some.row c.in-Some.ensures).retired

pub returns-in-None-clause-bound : goal.returns-in-None-clause-bound
returns-in-None-clause-bound c = ap (λ (r : GroupRow). r.bound) c.new.ensures ∙ (none_gives (logged c.args.log) c.args.group.now 0 c.in-None.ensures).bound

pub returns-in-None-clause-order : goal.returns-in-None-clause-order
returns-in-None-clause-order c = ap (λ (r : GroupRow). r.order) c.new.ensures ∙ (none_gives (logged c.args.log) c.args.group.now 0 c.in-None.ensures).order

pub returns-in-None-clause-looks : goal.returns-in-None-clause-looks
returns-in-None-clause-looks c = ap (λ (r : GroupRow). r.looks) c.new.ensures ∙ (none_gives (logged c.args.log) c.args.group.now 0 c.in-None.ensures).looks

pub returns-in-None-clause-retired : goal.returns-in-None-clause-retired
returns-in-None-clause-retired c = ap (λ (r : GroupRow). r.retired) c.new.ensures ∙ (none_gives (logged c.args.log) c.args.group.now 0 c.in-None.ensures).retired

pub returns-in-Some-clause-looks_bound : goal.returns-in-Some-clause-looks_bound
returns-in-Some-clause-looks_bound c = omega (arith, (row_gives (logged c.args.log) c.args.group.now c.in-Some.row c.in-Some.ensures).looks, count_by-le-length (is_look_of c.args.group.now) c.args.log.entries.now)

pub returns-in-Some-clause-last_look : goal.returns-in-Some-clause-last_look
returns-in-Some-clause-last_look c = (row_gives (logged c.args.log) c.args.group.now c.in-Some.row c.in-Some.ensures).last_look

pub returns-in-None-clause-last_look : goal.returns-in-None-clause-last_look
returns-in-None-clause-last_look c = ap (λ (r : GroupRow). r.last_look) c.new.ensures ∙ (none_gives (logged c.args.log) c.args.group.now 0 c.in-None.ensures).last_look
