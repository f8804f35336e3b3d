use Rattle.rv_views.proofs.DifferenceOrder.{in_order-keys, in_order-lost, in_order-touched, in_order-changed}
use Rattle.rv_views.proofs.walks.difference.Goals as goal

pub returns-in_ok-changed-in-Some-clause-arranged : goal.returns-in_ok-changed-in-Some-clause-arranged
returns-in_ok-changed-in-Some-clause-arranged g c = record {
  dels = rw c.in_ok-dels-in-Some.ensures.dels (in_order-lost c.rows.result.now c.rows-in-Some.result.now (rw c.rows.ensures.list c.rows.ensures.order));
  puts = rw c.in_ok-dels-in-Some.ensures.puts (in_order-touched c.rows.result.now c.rows-in-Some.result.now (rw c.rows-in-Some.ensures.list c.rows-in-Some.ensures.order));
  ids = rw c.in_ok-changed-in-Some.ensures.ids (in_order-changed c.clients.result.now c.clients-in-Some.result.now (rw c.clients-in-Some.ensures.list c.clients-in-Some.ensures.order));
}

pub returns-in_ok-copy_of-in-None-clause-arranged : goal.returns-in_ok-copy_of-in-None-clause-arranged
returns-in_ok-copy_of-in-None-clause-arranged g c = record {
  dels = rw c.new.ensures tt;
  puts = rw c.in_ok-keys_of-in-None.ensures (in_order-keys c.rows-in-None.result.now (rw c.rows-in-None.ensures.list c.rows-in-None.ensures.order));
  ids = rw c.in_ok-copy_of-in-None.ensures (rw c.clients-in-None.ensures.list c.clients-in-None.ensures.order);
}
