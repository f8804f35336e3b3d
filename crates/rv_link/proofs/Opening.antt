-- A fresh line whose handshake is done.
use Rattle.std.proofs.Common.{◌≡◌, ℕ, List, Option, Result, Ok, Err, IfOk, subst}
use Rattle.rv_poke.specs.declared.first.First.{First}
use Rattle.tungstenite.specs.Socket.{Socket}
use Rattle.rv_link.specs.declared.line.Line.{Line}
use Rattle.rv_link.specs.declared.line.Line.TheVariants.{Fresh, Open}
use Rattle.rv_link.specs.Sockets.{FailsToOpen, FailsToRead, IsGreeted, OpensWith, ReadsFirst}

module _ {S E : Type 0} (remaining : S → Option (List ℕ)) where
  pub opens : (old : Line S) (stream : S) (socket new : Socket S) (result : Result First E) → Fresh stream ≡ old → IsGreeted socket → IfOk result (ReadsFirst remaining socket new)
      → IfOk result (OpensWith remaining old (Open new))
  opens old stream socket new (Ok first) is greeted reads = subst (λ (line : Line S). OpensWith remaining line (Open new) first) is (socket, greeted, reads)
  opens old stream socket new (Err e) is greeted reads = tt

module _ {S : Type 0} (remaining : S → Option (List ℕ)) where
  pub fails : (old : Line S) (stream : S) (socket new : Socket S) → Fresh stream ≡ old → IsGreeted socket → FailsToRead remaining socket new → FailsToOpen remaining old (Open new)
  fails old stream socket new is greeted reads = subst (λ (line : Line S). FailsToOpen remaining line (Open new)) is (socket, greeted, reads)
