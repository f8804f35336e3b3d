-- What a link reads and writes, as far as its stream tells its bytes.
use Rattle.std.specs.Prelude.{◌≡◌, ℕ, List, [], Option, Some, None, Result, Ok, Err, false}
use Rattle.rv_poke.specs.declared.first.First.{First}
use Rattle.rv_poke.specs.declared.first.First.TheVariants as first
use Rattle.rv_poke.specs.Links.{LinkState}
use Rattle.tungstenite.specs.Connection.{Connection, Effect}
use Rattle.tungstenite.specs.Content.{text}
use Rattle.tungstenite.specs.Heads.{Serves}
use Rattle.tungstenite.specs.Socket.{Socket, Reads, Writes, content_of, has_kind}
use Rattle.tungstenite.specs.declared.error.Error.{Error}
use Rattle.tungstenite.specs.declared.error.Error.TheVariants as error
use Rattle.tungstenite.specs.declared.message.Message.{Message}
use Rattle.websocket.specs.declared.error.Error.{Error as FrameError}
use Rattle.rv_link.specs.declared.line.Line.{Line}
use Rattle.rv_link.specs.declared.line.Line.TheVariants.{Fresh, Open, Lost}
use Rattle.rv_link.specs.declared.socket_link.SocketLink.{SocketLink}

-- The socket of a server that has done its handshake and nothing since. It takes messages of at most 4,096 bytes.
pub record IsGreeted {S : Type 0} (socket : Socket S) : Type 0 where
  pub serves : Serves socket
  pub limit : socket.conn.config.max_message_size ≡ Some 4096

-- no text was read: a message of another kind, one that is too long, or one that is no UTF-8
abbrev pub IsNoText : Result Message Error → Type 0
IsNoText (Ok message) = has_kind 0 message ≡ false
IsNoText (Err (error.Capacity cause)) = Unit {0}
IsNoText (Err error.Utf8) = Unit {0}
IsNoText (Err other) = ⊥

-- What was read is this first message: a text with these bytes, or no text.
abbrev pub ReadsFirst : {S : Type 0} → (S → Option (List ℕ)) → Socket S → Socket S → First → Type 0
ReadsFirst remaining old new (first.Text bytes) = (message : Message) × Reads remaining old new (Ok message) × (content_of message ≡ text bytes)
ReadsFirst remaining old new first.Other = (read : Result Message Error) × Reads remaining old new read × IsNoText read

-- the read failed: what came is neither a message, nor one that is too long or no UTF-8, and memory was not wanted
abbrev pub IsBreach : Error → Type 0
IsBreach (error.Capacity cause) = ⊥
IsBreach error.Utf8 = ⊥
IsBreach error.OutOfMemory = ⊥
IsBreach other = Unit {0}

-- no message was read, since the stream or the client failed
abbrev pub FailsToRead : {S : Type 0} → (S → Option (List ℕ)) → Socket S → Socket S → Type 0
FailsToRead remaining old new = (why : Error) × Reads remaining old new (Err why) × IsBreach why

-- A line gives no first message by a fault: its handshake failed; or it was done, and reading failed; or the line was not fresh.
abbrev pub FailsToOpen : {S : Type 0} → (S → Option (List ℕ)) → Line S → Line S → Type 0
FailsToOpen {S} remaining (Fresh stream) (Open new) = (socket : Socket S) × IsGreeted socket × FailsToRead remaining socket new
FailsToOpen remaining old Lost = Unit {0}
FailsToOpen remaining old new = ⊥

-- The handshake of a fresh line was done, and this first message was read.
abbrev pub OpensWith : {S : Type 0} → (S → Option (List ℕ)) → Line S → Line S → First → Type 0
OpensWith {S} remaining (Fresh stream) (Open new) message = (socket : Socket S) × IsGreeted socket × ReadsFirst remaining socket new message
OpensWith remaining old new message = ⊥

-- the handshake was done, and the socket stands
abbrev pub IsOpen : {S : Type 0} → Line S → Type 0
IsOpen (Open socket) = Unit {0}
IsOpen line = ⊥

-- A step of the protocol was made on an open line, and all that waited was written.
abbrev pub WritesStep : {S : Type 0} → (S → Option (List ℕ)) → (Connection → Result Effect FrameError) → Line S → Line S → Type 0
WritesStep contents step (Open old) (Open new) = Writes contents old new (step old.conn) × (new.output ≡ [])
WritesStep contents step old new = ⊥

-- a link over a socket tells neither what is to come nor what was sent
abbrev pub link_state : {S : Type 0} → SocketLink S → LinkState
link_state link = record { coming = None; sent = None; found = link.found; faults = link.faults }
