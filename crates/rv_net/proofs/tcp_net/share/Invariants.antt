use Rattle.std.proofs.Common.{◌≡◌, ◌≤◌, All, vec_len, vec_capacity}
use Rattle.rv_net.proofs.tcp_net.share.Given as goal

abbrev pub invariant-loop : goal.invariant-loop
invariant-loop l = record {
  len : vec_len l.given ≡ l.counter;
  capacity : l.count ≤ vec_capacity l.given;
  left : All (λ listener. listener.left ≡ l.most) l.given.items;
}
