-- The state of a link and of a bell in memory.
use Rattle.std.specs.Prelude.{Some}
use Rattle.rv_doubles.specs.declared.memory_link.MemoryLink.{MemoryLink}
use Rattle.rv_doubles.specs.declared.memory_bell.MemoryBell.{MemoryBell}
use Rattle.rv_poke.specs.Links.{LinkState}
use Rattle.rv_poke.specs.Bells.{BellState}

-- a link in memory tells the first message, where one is to come, all that was sent, and how often its client was found
abbrev pub link_state : MemoryLink → LinkState
link_state link = record { coming = link.coming; sent = Some link.sent.items; found = link.found; faults = link.faults }

-- a bell in memory has counted its answers
abbrev pub bell_state : MemoryBell → BellState
bell_state bell = record { rungs = bell.rungs; quiets = bell.quiets; overs = bell.overs }
