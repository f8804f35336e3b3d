use Rattle.std.proofs.lemmas.Result.{IfOk-weaker}
use Rattle.rv_sharing.proofs.OpenedLaws.{seen_all, seen_named}
use Rattle.rv_sharing.proofs.views.lists_seen.Goals as goal

pub returns-in-Some-clause-lists : goal.returns-in-Some-clause-lists
returns-in-Some-clause-lists c =
    IfOk-weaker c.lists_among.result _ _
    (λ lists are. seen_named c.args.user.now c.args.tables.now.rows c.in-Some.named.now lists.items c.in-Some.ensures.order c.in-Some.ensures.extent (rw c.as_slice.ensures at are))
    c.lists_among.ensures

pub returns-in-None-clause-lists : goal.returns-in-None-clause-lists
returns-in-None-clause-lists c = IfOk-weaker c.lists_opened.result _ _ (λ lists are. seen_all c.args.user.now c.args.tables.now.rows lists.items c.in-None.ensures.order c.in-None.ensures.extent are) c.lists_opened.ensures
