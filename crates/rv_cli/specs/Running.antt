-- What a run of the program is: what it works on, with the words that clauses have for it, before the run and after it, and its status.
use Rattle.std.specs.Prelude.{ℕ}
use Rattle.rv_base.specs.declared.outside.Source.{Ghosts as SourceGhosts}
use Rattle.rv_base.specs.declared.outside.Sink.{Ghosts as SinkGhosts}
use Rattle.rv_keeper.specs.declared.place.Place.{Ghosts as PlaceGhosts}
use Rattle.rv_keeper.specs.declared.keeper.Keeper.{Ghosts as KeeperGhosts}
use Rattle.rv_net.specs.declared.listen.Listen.{Ghosts as ListenGhosts}
use Rattle.rv_net.specs.declared.net.Net.{Ghosts as NetGhosts}
use Rattle.rv_net.specs.declared.poke_listen.PokeListen.{Ghosts as PokeListenGhosts}
use Rattle.rv_poke.specs.declared.poke_link.PokeLink.{Ghosts as LinkGhosts}

-- A net, with what it gives: listeners of connections, each with a source and a sink, and listeners of links for pokes.
pub record Network : Type 1 where
  pub Net : Type 0
  pub Listener : Type 0
  pub PokeListener : Type 0
  pub In : Type 0
  pub Out : Type 0
  pub Link : Type 0
  pub net : NetGhosts Net Listener PokeListener In Out Link
  pub listen : ListenGhosts Listener In Out
  pub source : SourceGhosts In
  pub sink : SinkGhosts Out
  pub pokes : PokeListenGhosts PokeListener Link
  pub link : LinkGhosts Link

-- What is outside the program: a place with the keepers that it gives, an input, an output and a net.
pub record Outside : Type 1 where
  pub Place : Type 0
  pub Kept : Type 0
  pub Input : Type 0
  pub Output : Type 0
  pub place : PlaceGhosts Place Kept
  pub keeper : KeeperGhosts Kept
  pub input : SourceGhosts Input
  pub output : SinkGhosts Output
  pub network : Network

module _ (o : Outside) where
  -- what is outside, at one time
  pub record World : Type 0 where
    pub place : o.Place
    pub input : o.Input
    pub output : o.Output
    pub net : o.network.Net

  -- a run: the world before it and after it, and the status of the process
  pub record Run : Type 0 where
    pub old : World
    pub new : World
    pub status : ℕ

-- ---- How contracts write them.

abbrev pub network : {N L P I O C : Type 0} → NetGhosts N L P I O C → ListenGhosts L I O → SourceGhosts I → SinkGhosts O → PokeListenGhosts P C → LinkGhosts C → Network
network {N} {L} {P} {I} {O} {C} net listen source sink pokes link = record {
  Net = N;
  Listener = L;
  PokeListener = P;
  In = I;
  Out = O;
  Link = C;
  net = net;
  listen = listen;
  source = source;
  sink = sink;
  pokes = pokes;
  link = link;
}

abbrev pub outside : {Pl K S W N L P I O C : Type 0} → PlaceGhosts Pl K → KeeperGhosts K → SourceGhosts S → SinkGhosts W → NetGhosts N L P I O C → ListenGhosts L I O → SourceGhosts I → SinkGhosts O → PokeListenGhosts P C → LinkGhosts C → Outside
outside {Pl} {K} {S} {W} place keeper input output net listen source sink pokes link = record {
  Place = Pl;
  Kept = K;
  Input = S;
  Output = W;
  place = place;
  keeper = keeper;
  input = input;
  output = output;
  network = network net listen source sink pokes link;
}

abbrev pub ran : {o : Outside} → o.Place → o.Place → o.Input → o.Input → o.Output → o.Output → o.network.Net → o.network.Net → ℕ → Run o
ran place place' input input' output output' net net' status = record {
  old = record { place = place; input = input; output = output; net = net };
  new = record { place = place'; input = input'; output = output'; net = net' };
  status = status;
}
