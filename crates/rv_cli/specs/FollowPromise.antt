-- What `follow --port PORT` promises. A net is asked for one listener, which takes one connection. The lines of that connection are taken
-- by a follower of no line yet, and the answers to its pulls are written to it. Then the connection goes back to the listener, and the
-- listener to the net; and the length of the book is written, or how else the lines ended.
use Rattle.std.specs.Prelude.{◌≡◌, ◌≢◌, ◌≤◌, ◌⊎◌, ◌^◌, ◌-◌, ℕ, List, [], ◌∷◌, ◌++◌, length, Contains, Some}
use Rattle.std.specs.Io.KnownBytes.{Appends}
use Rattle.rv_base.specs.Causes.{Rose}
use Rattle.rv_base.specs.Outside.{OutputState, counted}
use Rattle.rv_base.specs.Writes.{AppendsFront}
use Rattle.rv_base.specs.declared.outside.Source.{Ghosts as SourceGhosts}
use Rattle.rv_base.specs.declared.outside.Sink.{Ghosts as SinkGhosts}
use Rattle.rv_net.specs.declared.conn.Conn.{Conn}
use Rattle.rv_net.specs.declared.listen.Listen.{Ghosts as ListenGhosts}
use Rattle.rv_net.specs.declared.net.Net.{Ghosts as NetGhosts}
use Rattle.rv_net.specs.declared.wanted.Wanted.{Wanted}
use Rattle.rv_following.specs.FollowProperties.{beginning}
use Rattle.rv_following.specs.FollowSteps.{Following}
use Rattle.rv_cli.specs.declared.ending.Ending.{Ending}
use Rattle.rv_cli.specs.declared.ending.Ending.TheVariants.{Done, Keeper, Damaged, Write}
use Rattle.rv_cli.specs.declared.serve_ending.ServeEnding.{ServeEnding}
use Rattle.rv_cli.specs.Following.{follow_lines}
use Rattle.rv_cli.specs.Headline.{WritesOnly}
use Rattle.rv_cli.specs.LineTaking.{Feeds}
use Rattle.rv_cli.specs.Running.{Outside, Run}
use Rattle.rv_cli.specs.Serving.{GivenBack, IsNoNet, Unserved, entries_text}
use Rattle.rv_cli.specs.Steadiness.{InputIsSteady, OutputIsSteady}
use Rattle.rv_cli.specs.Texts.{serve_status, serve_text, status_of, status_text}

abbrev pub follow_statuses : List ℕ
follow_statuses = 0 ∷ 6 ∷ 7 ∷ 8 ∷ 9 ∷ 10 ∷ []

-- the follower of no line yet, whose book may have as many entries as any
abbrev pub no_line_yet : Following
no_line_yet = beginning (2 ^ 32 - 1)

-- ---- The connection.

-- the ending is none of a store
abbrev pub IsOfLines : Ending → Type 0
IsOfLines Keeper = ⊥
IsOfLines (Damaged damage) = ⊥
IsOfLines ending = Unit {0}

module _ {I O : Type 0} (source : SourceGhosts I) (sink : SinkGhosts O) where
  -- Its lines were taken one after another, they ended so, and the follower stands so. What was read, what was written, and which fault
  -- rose, is said of the connection's own source and sink.
  pub record FollowsConn (old new : Conn I O) (now : Following) (ending : Ending) : Type 0 where
    pub feeds : Feeds follow_lines (Unit {0}) no_line_yet now (source.state old.source) (source.state new.source) (sink.state old.sink) (sink.state new.sink) ending
    pub of_lines : IsOfLines ending
    pub steady_source : source.fails_no_more old.source → InputIsSteady (source.fails_no_more new.source) ending
    pub steady_sink : sink.fails_no_more old.sink → OutputIsSteady (sink.fails_no_more new.sink) (sink.state old.sink).refusals (sink.state new.sink).refusals ending

-- ---- The listener.

module _ {L I O : Type 0} (listen : ListenGhosts L I O) (source : SourceGhosts I) (sink : SinkGhosts O) (given returned : L) (now : Following) (ending : Ending) where
  -- The first connection that was to come was followed, and came back.
  pub record FollowsFirst : Type 0 where
    pub old : Conn I O
    pub new : Conn I O
    pub follows : FollowsConn source sink old new now ending
    pub first : listen.tells returned → listen.to_come given ≡ old ∷ listen.to_come returned
    pub back : listen.tells returned → listen.came_back returned ≡ listen.came_back given ++ new ∷ []
    pub out : listen.tells returned → listen.out returned ≡ listen.out given
    pub ends : listen.ends returned ≡ listen.ends given

  -- None was to come, which is as an input without lines: the listener said so.
  pub record FollowsNone : Type 0 where
    pub begun : now ≡ no_line_yet
    pub done : ending ≡ Done
    pub none : listen.tells returned → listen.to_come given ≡ []
    pub back : listen.tells returned → listen.came_back returned ≡ listen.came_back given
    pub out : listen.tells returned → listen.out returned ≡ listen.out given
    pub ends : listen.ends returned ≡ counted (listen.ends given)

  abbrev pub FollowsListener : Type 0
  FollowsListener = (listen.tells returned → listen.tells given) × (FollowsFirst ⊎ FollowsNone)

-- ---- The net.

-- what a net is asked for
abbrev pub follow_wanted : ℕ → Wanted
follow_wanted port = record { port = port; count = 1; most = 1 }

module _ {N L P I O C : Type 0} (net : NetGhosts N L P I O C) (listen : ListenGhosts L I O) (source : SourceGhosts I) (sink : SinkGhosts O) (port : ℕ) (before after : N) where
  -- One listener was given, was followed, and came back; the listeners for links were let alone.
  pub record FollowsNet (now : Following) (ending : Ending) : Type 0 where
    pub given : L
    pub returned : L
    pub follows : FollowsListener listen source sink given returned now ending
    pub conns : GivenBack (net.tells after) listen.tells (follow_wanted port) (net.listeners before) (net.listeners after) (given ∷ []) (returned ∷ [])
    pub links : net.tells after → net.pokes after ≡ net.pokes before
    pub still : net.faults after ≡ net.faults before

  -- None was given.
  pub record FollowsNoNet (ending : ServeEnding) : Type 0 where
    pub why : IsNoNet (net.faults before) (net.faults after) ending
    pub conns : net.tells after → Unserved (net.listeners before) (net.listeners after)
    pub asked : net.tells after → (net.listeners after).wanted ≡ Some (follow_wanted port)
    pub links : net.tells after → net.pokes after ≡ net.pokes before

-- ---- What is written at the end.

-- Where the lines ended so, the run ends so. After the end of all lines it is the length of the book, or a front of that, and a write
-- failed; after any other the text of that ending.
abbrev pub TellsEnd : List ℕ → OutputState → OutputState → Ending → Ending → Type 0
TellsEnd text old new Done Done = Appends old.written new.written text × (new.faults ≡ old.faults)
TellsEnd text old new Done Write = AppendsFront old.written new.written text × Rose old.faults new.faults
TellsEnd text old new Done ending = ⊥
TellsEnd text old new lines ending = (ending ≡ lines) × WritesOnly old new (status_text lines)

-- ---- The run.

module _ {N L P I O C W : Type 0} (net : NetGhosts N L P I O C) (listen : ListenGhosts L I O) (source : SourceGhosts I) (sink : SinkGhosts O) (output : SinkGhosts W) (port : ℕ) (before after : N) (out out' : W) (status : ℕ) where
  -- lines were followed
  pub record HasFollowed : Type 0 where
    pub now : Following
    pub lines : Ending
    pub ending : Ending
    pub is : status ≡ status_of ending
    pub follows : FollowsNet net listen source sink port before after now lines
    pub tells : TellsEnd (entries_text now.book) (output.state out) (output.state out') lines ending
    -- a write of the length fails only for want of memory, where the output fails no more
    pub steady : output.fails_no_more out → lines ≡ Done → ending ≡ Write → Rose (output.state out).refusals (output.state out').refusals

  -- nothing was listened to
  pub record HasNoListener : Type 0 where
    pub ending : ServeEnding
    pub is : status ≡ serve_status ending
    pub none : FollowsNoNet net listen source sink port before after ending
    pub text : WritesOnly (output.state out) (output.state out') (serve_text ending)

  abbrev pub WasFollowed : Type 0
  WasFollowed = HasFollowed ⊎ HasNoListener

-- Over a net that fails no more, and has a listener to give, the status is no fault of it.
abbrev pub ListenIsSteady : {N L P I O C : Type 0} → NetGhosts N L P I O C → N → ℕ → Type 0
ListenIsSteady net before status = net.fails_no_more before → 1 ≤ length (net.listeners before).to_give → status ≢ 9

module _ (o : Outside) where
  pub record KeepsFollow (port : ℕ) (r : Run o) : Type 0 where
    -- the run was so
    pub followed : WasFollowed o.network.net o.network.listen o.network.source o.network.sink o.output port r.old.net r.new.net r.old.output r.new.output r.status
    pub complete : Contains follow_statuses r.status
    pub steady : ListenIsSteady o.network.net r.old.net r.status
    -- the place and the input are let alone
    pub place : r.new.place ≡ r.old.place
    pub input : r.new.input ≡ r.old.input
