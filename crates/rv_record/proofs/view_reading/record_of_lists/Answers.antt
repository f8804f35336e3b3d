use Rattle.rv_views.specs.Viewed.{seen_key, client_of_pair}
use Rattle.rv_record.proofs.ViewAgain.{tested_order}
use Rattle.rv_record.proofs.view_reading.record_of_lists.Goals as goal

pub record_now-requires-clause-rows : goal.record_now-requires-clause-rows
record_now-requires-clause-rows c = tested_order seen_key c.args.rows.items c.deref.result.now c.from_vec.result c.are_seen.result c.deref.ensures.value c.from_vec.ensures c.are_seen.ensures c.if-not-are_seen.false

pub record_now-requires-clause-clients : goal.record_now-requires-clause-clients
record_now-requires-clause-clients c =
    tested_order client_of_pair c.args.clients.items c.deref-else-not-are_seen.result.now c.from_vec-2.result c.are_clients.result c.deref-else-not-are_seen.ensures.value c.from_vec-2.ensures c.are_clients.ensures c.if-not-are_clients.false
