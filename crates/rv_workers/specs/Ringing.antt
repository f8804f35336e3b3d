-- The state of a bell that is a word.
use Rattle.rv_poke.specs.Bells.{BellState}
use Rattle.rv_workers.specs.declared.bells.WordBell.{WordBell}

-- it has counted its answers
abbrev pub word_bell_state : WordBell → BellState
word_bell_state bell = record { rungs = bell.rungs; quiets = bell.quiets; overs = bell.overs }
