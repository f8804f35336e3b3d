-- A worker that has served its listener.
use Rattle.std.specs.Prelude.{◌≡◌, [], ◌∷◌}
use Rattle.rv_base.specs.Outside.{counted}
use Rattle.rv_base.specs.declared.outside.Source.{Ghosts as SourceGhosts}
use Rattle.rv_base.specs.declared.outside.Sink.{Ghosts as SinkGhosts}
use Rattle.rv_keeper.specs.declared.keeper.Keeper.{Ghosts}
use Rattle.rv_net.specs.declared.listen.Listen.{Ghosts as ListenGhosts}
use Rattle.rv_room.specs.Seats.{view_of}
use Rattle.rv_serve.specs.declared.gate.Gate.{Ghosts as GateGhosts}
use Rattle.rv_serve.specs.Hearing.{Hears}
use Rattle.rv_serve.specs.Listening.{ServesPast}
use Rattle.rv_serve.specs.Poking.{ServesLinks}
use Rattle.rv_serve.specs.declared.heard.Heard.TheVariants.{Left}
use Rattle.rv_net.specs.declared.poke_listen.PokeListen.{Ghosts as PokeListenGhosts}
use Rattle.rv_poke.specs.declared.bell.Bell.{Ghosts as BellGhosts}
use Rattle.rv_poke.specs.declared.poke_link.PokeLink.{Ghosts as LinkGhosts}
use Rattle.rv_room.specs.SeatMarks.{IsSeatMark}
use Rattle.rv_workers.specs.Looking.{HasEnteredNothing}
use Rattle.rv_workers.specs.declared.poke_job.PokeJob.{PokeJob}
use Rattle.rv_workers.specs.declared.worker.Worker.{Worker}
use Rattle.rv_room.specs.SeatTurns.{IsSeatTurn, settled_by}

module _ {R K L W I O : Type 0} (G : Ghosts K) (listen : ListenGhosts L I O) (source : SourceGhosts I) (sink : SinkGhosts O) (gate : GateGhosts W) where
  -- It is in the same room. Its listener's connections were served by turns of its seat, one after the other, and the listener said once
  -- that no more were to come. Its gate heard of all that was answered, and of nothing else.
  abbrev pub WorkerHasServed : Worker R K L W I O G → Worker R K L W I O G → Type 0
  WorkerHasServed old new =
      (new.turns.room.now ≡ old.turns.room.now)
      × (listen.tells new.listener → listen.tells old.listener)
      × (listen.ends new.listener ≡ counted (listen.ends old.listener))
      × (then : W) × ServesPast (IsSeatTurn G) settled_by listen source sink old.accounts.now gate (view_of old.turns.seat) old.listener old.gate (view_of new.turns.seat) new.listener then
      × Hears (gate.heard then) (gate.heard new.gate) (Left ∷ [])

module _ {R K P B C : Type 0} (G : Ghosts K) (listen : PokeListenGhosts P C) (link : LinkGhosts C) (bell : BellGhosts B) where
  -- It is in the same room. Its listener's links were served by looks of its seat, one after the other, and the listener said once that no
  -- more were to come. The seat has entered nothing.
  abbrev pub PokeJobHasServed : PokeJob R K P B C G → PokeJob R K P B C G → Type 0
  PokeJobHasServed old new =
      (new.turns.room.now ≡ old.turns.room.now)
      × (listen.tells new.listener → listen.tells old.listener)
      × (listen.ends new.listener ≡ counted (listen.ends old.listener))
      × HasEnteredNothing (view_of old.turns.seat) (view_of new.turns.seat)
      × ServesLinks (IsSeatMark G) listen link old.accounts.now.accounts (view_of old.turns.seat) (bell.state old.bell) old.listener (view_of new.turns.seat) (bell.state new.bell) new.listener
