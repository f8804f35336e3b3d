use Rattle.std.proofs.Common.{refl, ap}
use Rattle.rv_net.proofs.tcp_net.TcpNetNet.TheImpl.Goals as goal

-- what is said where a net tells is said of none here
pub listen-tells : goal.listen-tells
listen-tells g c = record {
  count = c.ensures.count;
  tells = λ told. told;
  gives = λ told. absurd told;
  others = λ told. refl;
  faults = c.ensures.faults;
  failed = c.ensures.failed;
  steady = λ steady. absurd steady;
}

pub listen_pokes-tells : goal.listen_pokes-tells
listen_pokes-tells g c = record {
  count = c.ensures.count;
  tells = λ told. told;
  gives = λ told. absurd told;
  others = λ told. refl;
  faults = c.ensures.faults;
  failed = c.ensures.failed;
  steady = λ steady. absurd steady;
}

pub done-tells : goal.done-tells
done-tells g c = record {
  tells = λ told. absurd told;
  back = λ told. absurd told;
  others = λ told. refl;
  faults = ap (λ s. s.faults) c.ensures;
  steady = λ steady. absurd steady;
}

pub done_pokes-tells : goal.done_pokes-tells
done_pokes-tells g c = record {
  tells = λ told. absurd told;
  back = λ told. absurd told;
  others = λ told. refl;
  faults = ap (λ s. s.faults) c.ensures;
  steady = λ steady. absurd steady;
}
