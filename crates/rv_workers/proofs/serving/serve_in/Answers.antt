use Rattle.std.proofs.Common.{◌≡◌, List, ◌++◌, length, map, arith, ap, sym, ◌∙◌, subst, length-append}
use mathlib.Core.List.{map-append}
use Rattle.rv_accounts.specs.File.{AccountsServed as Accounts}
use Rattle.rv_poke.specs.Bells.{BellState, unasked}
use Rattle.rv_room.specs.declared.view.SeatView.{SeatView}
use Rattle.rv_room.specs.SeatMarks.{IsSeatMark}
use Rattle.rv_room.specs.SeatTurns.{IsSeatTurn, settled_by}
use Rattle.rv_room.specs.Seats.{opened_of, view_of}
use Rattle.rv_room.specs.Views.{newcomer}
use Rattle.rv_serve.specs.Listening.{ServesAll}
use Rattle.rv_serve.specs.Poking.{ServesLinks}
use Rattle.rv_workers.specs.declared.poke_job.PokeJob.{PokeJob}
use Rattle.rv_workers.specs.declared.worker.Worker.{Worker}
use Rattle.rv_workers.specs.Hiring.{reversed}
use Rattle.rv_workers.specs.Looking.{HasEnteredNothing}
use Rattle.rv_workers.specs.Working.{PokeJobHasServed, WorkerHasServed}
use Rattle.rv_workers.specs.Serving.{EachServes, IsPoked, IsServed}
use Rattle.rv_workers.proofs.Turned.{reversed-length, map-reversed, worked-length, all-worked, each-serves, all_reversed}
use Rattle.rv_workers.proofs.serving.serve_in.Goals as goal

pub hire_pokes-requires-clause-enough : goal.hire_pokes-requires-clause-enough
hire_pokes-requires-clause-enough g c =
    let seats = c.hire_all.ensures.seats.0 in
    let enough = c.requires.enough in
    omega (arith, seats, enough)

pub dismiss_all-requires-clause-room : goal.dismiss_all-requires-clause-room
dismiss_all-requires-clause-room g c =
    all-worked _ (λ worker. (worker.turns.room.now ≡ c.args.room.now) × (worker.accounts.now ≡ c.args.accounts.now) × (view_of worker.turns.seat ≡ newcomer 1 (opened_of c.args.room.now))) (λ worker. worker.turns.room.now ≡ c.args.room.now)
    (λ x y p w. w.0 ∙ p.0) c.hire_all.new.workers.items c.work_all-workers.result.0.items c.hire_all.ensures.each c.work_all-workers.ensures.workers

pub dismiss_all-requires-clause-seats : goal.dismiss_all-requires-clause-seats
dismiss_all-requires-clause-seats g c =
    let a = ap length c.hire_all.ensures.hired in
    let b = reversed-length (λ worker. worker.listener) c.hire_all.new.workers.items in
    let w = worked-length _ c.hire_all.new.workers.items c.work_all-workers.result.0.items c.work_all-workers.ensures.workers in
    let o = c.work_all-workers.result.0.ok.0 in
    let l = c.args.listeners.ok.0 in
    let few = c.requires.enough in
    let room = c.args.seats.list.ok.1 in
    let first = c.hire_all.ensures.seats.1 in
    let then = c.hire_pokes.ensures.seats.1 in
    (c.hire_pokes.ensures.seats.0, omega arith)

pub dismiss_all-requires-clause-listeners : goal.dismiss_all-requires-clause-listeners
dismiss_all-requires-clause-listeners g c =
    let a = ap length c.hire_all.ensures.hired in
    let b = reversed-length (λ worker. worker.listener) c.hire_all.new.workers.items in
    let w = worked-length _ c.hire_all.new.workers.items c.work_all-workers.result.0.items c.work_all-workers.ensures.workers in
    let o = c.work_all-workers.result.0.ok.0 in
    let l = c.args.listeners.ok.0 in
    let room = c.args.listeners.ok.1 in
    let cap = c.hire_all.ensures.listeners.1 in
    (c.hire_all.ensures.listeners.0, omega arith)

pub dismiss_pokes-requires-clause-room : goal.dismiss_pokes-requires-clause-room
dismiss_pokes-requires-clause-room g c =
    all-worked _ (λ job. (job.turns.room.now ≡ c.args.room.now) × (job.accounts.now ≡ c.args.accounts.now) × (view_of job.turns.seat ≡ newcomer 1 (opened_of c.args.room.now)) × (g.C.Bell.Bell.state job.bell ≡ unasked)) (λ job. job.turns.room.now ≡ c.args.room.now)
    (λ x y p w. w.0 ∙ p.0) c.hire_pokes.new.jobs.items c.work_all-workers.result.1.items c.hire_pokes.ensures.each c.work_all-workers.ensures.jobs

pub dismiss_pokes-requires-clause-seats : goal.dismiss_pokes-requires-clause-seats
dismiss_pokes-requires-clause-seats g c =
    let a = ap length c.hire_all.ensures.hired in
    let b = reversed-length (λ worker. worker.listener) c.hire_all.new.workers.items in
    let w = worked-length _ c.hire_all.new.workers.items c.work_all-workers.result.0.items c.work_all-workers.ensures.workers in
    let s = ap length c.dismiss_all.ensures.seats in
    let t = reversed-length (λ worker. worker.turns.seat) c.work_all-workers.result.0.items in
    let d = ap length c.hire_pokes.ensures.hired in
    let e = reversed-length (λ job. job.listener) c.hire_pokes.new.jobs.items in
    let j = worked-length _ c.hire_pokes.new.jobs.items c.work_all-workers.result.1.items c.work_all-workers.ensures.jobs in
    let o = c.work_all-workers.result.1.ok.0 in
    let p = c.dismiss_all.new.seats.list.ok.0 in
    let l = c.args.listeners.ok.0 in
    let k = c.args.pokes.ok.0 in
    let few = c.requires.enough in
    let room = c.args.seats.list.ok.1 in
    let first = c.hire_all.ensures.seats.1 in
    let then = c.hire_pokes.ensures.seats.1 in
    let last = c.dismiss_all.ensures.capacity in
    omega arith

pub dismiss_pokes-requires-clause-listeners : goal.dismiss_pokes-requires-clause-listeners
dismiss_pokes-requires-clause-listeners g c =
    let a = ap length c.hire_pokes.ensures.hired in
    let b = reversed-length (λ job. job.listener) c.hire_pokes.new.jobs.items in
    let w = worked-length _ c.hire_pokes.new.jobs.items c.work_all-workers.result.1.items c.work_all-workers.ensures.jobs in
    let o = c.work_all-workers.result.1.ok.0 in
    let l = c.args.pokes.ok.0 in
    let room = c.args.pokes.ok.1 in
    let cap = c.hire_pokes.ensures.listeners.1 in
    (c.hire_pokes.ensures.listeners.0, omega arith)

pub returns-clause-seats : goal.returns-clause-seats
returns-clause-seats g c =
    let a = ap length c.hire_all.ensures.hired in
    let b = reversed-length (λ worker. worker.listener) c.hire_all.new.workers.items in
    let w = worked-length _ c.hire_all.new.workers.items c.work_all-workers.result.0.items c.work_all-workers.ensures.workers in
    let s = ap length c.dismiss_all.ensures.seats in
    let t = reversed-length (λ worker. worker.turns.seat) c.work_all-workers.result.0.items in
    let d = ap length c.hire_pokes.ensures.hired in
    let e = reversed-length (λ job. job.listener) c.hire_pokes.new.jobs.items in
    let j = worked-length _ c.hire_pokes.new.jobs.items c.work_all-workers.result.1.items c.work_all-workers.ensures.jobs in
    let v = ap length c.dismiss_pokes.ensures.seats in
    let u = length-append c.dismiss_all.new.seats.list.items (reversed (λ job. job.turns.seat) c.work_all-workers.result.1.items) in
    let r = reversed-length (λ job. job.turns.seat) c.work_all-workers.result.1.items in
    let o = c.dismiss_pokes.new.seats.list.ok.0 in
    let l = c.args.listeners.ok.0 in
    let k = c.args.pokes.ok.0 in
    let few = c.requires.enough in
    omega arith

pub returns-clause-serves : goal.returns-clause-serves
returns-clause-serves g c =
    let workers = c.hire_all.new.workers.items in
    let workers' = c.work_all-workers.result.0.items in
    let jobs = c.hire_pokes.new.jobs.items in
    let jobs' = c.work_all-workers.result.1.items in
    let W : Type 0 = Worker g.row.R.Denot g.row.K.Denot g.row.L.Denot g.row.C-Gate.Denot g.row.L-In.Denot g.row.L-Out.Denot g.K.Keeper in
    let done : W → W → Type 0 = WorkerHasServed g.K.Keeper g.L.Listen g.L.In.Source g.L.Out.Sink g.C.Gate.Gate in
    let J : Type 0 = PokeJob g.row.R.Denot g.row.K.Denot g.row.P.Denot g.row.C-Bell.Denot g.row.P-Link.Denot g.K.Keeper in
    let poked : J → J → Type 0 = PokeJobHasServed g.K.Keeper g.P.PokeListen g.P.Link.PokeLink g.C.Bell.Bell in
    let first : SeatView g.row.K.Denot = newcomer 1 (opened_of c.args.room.now) in
    let Serves : SeatView g.row.K.Denot → g.row.L.Denot → SeatView g.row.K.Denot → g.row.L.Denot → Type 0 = IsServed g.K.Keeper g.L.Listen g.L.In.Source g.L.Out.Sink c.args.accounts.now in
    let Pokes : SeatView g.row.K.Denot → g.row.P.Denot → SeatView g.row.K.Denot → g.row.P.Denot → Type 0 = IsPoked g.K.Keeper g.P.PokeListen g.P.Link.PokeLink c.args.accounts.now in
    let views = reversed (λ worker. view_of worker.turns.seat) workers' in
    let lookers = reversed (λ job. view_of job.turns.seat) jobs' in
    let serves = each-serves done Serves first (λ worker. worker.listener) (λ worker. view_of worker.turns.seat) (λ worker. (worker.turns.room.now ≡ c.args.room.now) × (worker.accounts.now ≡ c.args.accounts.now) × (view_of worker.turns.seat ≡ first))
    (λ w w' h j. record {
      told = j.1;
      ended = j.2;
      serves = subst (λ (x : Accounts × SeatView g.row.K.Denot). ServesAll (IsSeatTurn g.K.Keeper) settled_by g.L.Listen g.L.In.Source g.L.Out.Sink x.0 x.1 w.listener (view_of w'.turns.seat) w'.listener) (λ i. (h.1 i, h.2 i)) j.4.all;
    })
    workers workers' c.hire_all.ensures.each c.work_all-workers.ensures.workers in
    let pokes = each-serves poked Pokes first (λ job. job.listener) (λ job. view_of job.turns.seat) (λ job. (job.turns.room.now ≡ c.args.room.now) × (job.accounts.now ≡ c.args.accounts.now) × (view_of job.turns.seat ≡ first) × (g.C.Bell.Bell.state job.bell ≡ unasked))
    (λ w w' h j. record {
      told = j.1;
      ended = j.2;
      bell = g.C.Bell.Bell.state w'.bell;
      serves = subst (λ (x : Accounts × (SeatView g.row.K.Denot × BellState)). ServesLinks (IsSeatMark g.K.Keeper) g.P.PokeListen g.P.Link.PokeLink x.0.accounts x.1.0 x.1.1 w.listener (view_of w'.turns.seat) (g.C.Bell.Bell.state w'.bell) w'.listener) (λ i. (h.1 i, (h.2 i, h.3 i))) j.4;
    })
    jobs jobs' c.hire_pokes.ensures.each c.work_all-workers.ensures.jobs in
    record {
      views = views;
      lookers = lookers;
      are = ap (map view_of) (c.dismiss_pokes.ensures.seats ∙ ap (λ l. l ++ reversed (λ job. job.turns.seat) jobs') c.dismiss_all.ensures.seats)
          ∙ map-append view_of (reversed (λ worker. worker.turns.seat) workers') (reversed (λ job. job.turns.seat) jobs')
          ∙ ap (λ l. l ++ map view_of (reversed (λ job. job.turns.seat) jobs')) (map-reversed view_of (λ worker. worker.turns.seat) workers')
          ∙ ap (λ l. views ++ l) (map-reversed view_of (λ job. job.turns.seat) jobs');
      serves = subst (λ (x : List g.row.L.Denot × List g.row.L.Denot). EachServes Serves first x.0 views x.1) (λ i. (sym c.hire_all.ensures.hired i, sym c.dismiss_all.ensures.listeners i)) serves;
      pokes = subst (λ (x : List g.row.P.Denot × List g.row.P.Denot). EachServes Pokes first x.0 lookers x.1) (λ i. (sym c.hire_pokes.ensures.hired i, sym c.dismiss_pokes.ensures.listeners i)) pokes;
      idle = all_reversed (HasEnteredNothing first) (λ job. view_of job.turns.seat) jobs'
          (all-worked poked (λ job. (job.turns.room.now ≡ c.args.room.now) × (job.accounts.now ≡ c.args.accounts.now) × (view_of job.turns.seat ≡ first) × (g.C.Bell.Bell.state job.bell ≡ unasked)) (λ job. HasEnteredNothing first (view_of job.turns.seat))
          (λ x y p w. subst (λ (v : SeatView g.row.K.Denot). HasEnteredNothing v (view_of y.turns.seat)) p.2 w.3) jobs jobs' c.hire_pokes.ensures.each c.work_all-workers.ensures.jobs);
    }
