-- The steps of `follow` before they are put together: what comes of a connection, of a listener and of a net, with the length of the book.
use Rattle.std.specs.Prelude.{◌≡◌, ℕ, Result, Ok, Err}
use Rattle.rv_base.specs.declared.fault.Fault.{Fault}
use Rattle.rv_base.specs.declared.fault.Fault.TheVariants as faults
use Rattle.rv_base.specs.declared.outside.Source.{Ghosts as SourceGhosts}
use Rattle.rv_base.specs.declared.outside.Sink.{Ghosts as SinkGhosts}
use Rattle.rv_book.specs.Book.{size}
use Rattle.rv_net.specs.declared.conn.Conn.{Conn}
use Rattle.rv_net.specs.declared.listen.Listen.{Ghosts as ListenGhosts}
use Rattle.rv_net.specs.declared.net.Net.{Ghosts as NetGhosts}
use Rattle.rv_following.specs.FollowSteps.{Following}
use Rattle.rv_cli.specs.declared.ending.Ending.{Ending}
use Rattle.rv_cli.specs.declared.serve_ending.ServeEnding.{ServeEnding}
use Rattle.rv_cli.specs.declared.serve_ending.ServeEnding.TheVariants as serves
use Rattle.rv_cli.specs.FollowPromise.{FollowsConn, FollowsListener, FollowsNet, FollowsNoNet}

-- how lines ended, with the length of the book, of a follower that stands so
pub record EndsAt (Follows : Following → Ending → Type 0) (ended : Ending × ℕ) : Type 0 where
  pub now : Following
  pub follows : Follows now ended.0
  pub length : ended.1 ≡ size now.book

abbrev pub ConnEnds : {I O : Type 0} → SourceGhosts I → SinkGhosts O → Conn I O → Conn I O → Ending × ℕ → Type 0
ConnEnds source sink old new = EndsAt (FollowsConn source sink old new)

abbrev pub ListenerEnds : {L I O : Type 0} → ListenGhosts L I O → SourceGhosts I → SinkGhosts O → L → L → Ending × ℕ → Type 0
ListenerEnds listen source sink given returned = EndsAt (FollowsListener listen source sink given returned)

-- why nothing was listened to
abbrev pub net_ending : Fault → ServeEnding
net_ending faults.Failed = serves.Net
net_ending faults.Memory = serves.Memory

abbrev pub NetEnds : {N L P I O C : Type 0} → NetGhosts N L P I O C → ListenGhosts L I O → SourceGhosts I → SinkGhosts O → ℕ → N → N → Result (Ending × ℕ) Fault → Type 0
NetEnds net listen source sink port before after (Ok ended) = EndsAt (FollowsNet net listen source sink port before after) ended
NetEnds net listen source sink port before after (Err fault) = FollowsNoNet net listen source sink port before after (net_ending fault)
