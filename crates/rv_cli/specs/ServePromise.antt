-- What `serve STORE` and its options promise.
use Rattle.std.specs.Prelude.{◌≡◌, ◌≢◌, ◌≤◌, ◌⊎◌, ℕ, List, [], ◌∷◌, length, Some}
use Rattle.rv_base.specs.declared.outside.Sink.{Ghosts as SinkGhosts}
use Rattle.rv_keeper.specs.declared.place.Place.{Ghosts as PlaceGhosts}
use Rattle.rv_keeper.specs.declared.keeper.Keeper.{Ghosts as KeeperGhosts}
use Rattle.rv_net.specs.declared.net.Net.{Ghosts as NetGhosts}
use Rattle.rv_words.specs.declared.serve_options.ServeOptions.{ServeOptions}
use Rattle.rv_cli.specs.Commands.{HasFile}
use Rattle.rv_cli.specs.Running.{Network, Outside, Run}
use Rattle.rv_cli.specs.Serving.{IsNetServed, RunsServe, Unserved, listeners_wanted}
use Rattle.rv_cli.specs.ServingSteps.{MayWantPokes}
use Rattle.rv_cli.specs.StorePromise.{KeepsStore}

abbrev pub serve_statuses : List ℕ
serve_statuses = 0 ∷ 3 ∷ 4 ∷ 5 ∷ 7 ∷ 8 ∷ 9 ∷ []

-- What is written to connections are the answers to their requests, over turns of seats at one book from the one that the store kept, and
-- the store keeps the book that they leave; what is sent over links are pokes, by looks of seats at that book.
abbrev pub WasServed : {P K O : Type 0} → PlaceGhosts P K → KeeperGhosts K → (n : Network) → SinkGhosts O → List ℕ → ServeOptions → P → P → n.Net → n.Net → O → O → ℕ → Type 0
WasServed place keeper n output store options old new before after out out' =
    RunsServe place keeper n.net.faults store options.accounts old new before after (IsNetServed keeper n options before after) (output.state out) (output.state out')

module _ {N L P I O C : Type 0} (net : NetGhosts N L P I O C) (before after : N) where
  -- What the net was asked for, if it was: at the port of the options as many listeners as workers, each for as many connections; and, where
  -- those were given, at the port for pokes as many as poke jobs, if there are to be some.
  abbrev pub WasWanted : ServeOptions → Type 0
  WasWanted options = (after ≡ before) ⊎ (net.tells after → ((net.listeners after).wanted ≡ Some (listeners_wanted options)) × MayWantPokes options (net.pokes before).wanted (net.pokes after).wanted)

  -- at other statuses than 0 and 7 nothing was served
  abbrev pub WasUnserved : ℕ → Type 0
  WasUnserved status = (after ≡ before) ⊎ (status ≡ 0) ⊎ (status ≡ 7) ⊎ (net.tells after → Unserved (net.listeners before) (net.listeners after) × Unserved (net.pokes before) (net.pokes after))

-- Over a net that fails no more, and has as many listeners to give as there are workers and poke jobs, the status is no fault of it.
abbrev pub NetIsSteady : {N L P I O C : Type 0} → NetGhosts N L P I O C → N → ServeOptions → ℕ → Type 0
NetIsSteady net before options status = net.fails_no_more before → options.workers ≤ length (net.listeners before).to_give → options.pokes ≤ length (net.pokes before).to_give → status ≢ 9

module _ (o : Outside) where
  pub record KeepsServe (store : List ℕ) (options : ServeOptions) (r : Run o) : Type 0 where
    -- the run was so
    pub served : WasServed o.place o.keeper o.network o.output store options r.old.place r.new.place r.old.net r.new.net r.old.output r.new.output r.status
    -- what each command over a store promises, with an accounts file that is there
    pub keeps : KeepsStore o.place store serve_statuses (HasFile (o.place.accounts r.old.place) options.accounts) r.old.place r.new.place r.status
    -- what becomes of the net
    pub unserved : WasUnserved o.network.net r.old.net r.new.net r.status
    pub wanted : WasWanted o.network.net r.old.net r.new.net options
    pub steady : NetIsSteady o.network.net r.old.net options r.status
    -- the input is let alone
    pub input : r.new.input ≡ r.old.input
