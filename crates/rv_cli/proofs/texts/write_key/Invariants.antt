use Rattle.std.proofs.Common.{Ok, take}
use Rattle.std.specs.List.{flat_map}
use Rattle.rv_base.specs.declared.outside.Failed.{Failed}
use Rattle.rv_base.specs.Outside.{Writes}
use Rattle.rv_cli.specs.Texts.{shown_byte}
use Rattle.rv_cli.proofs.texts.write_key.Given as goal

abbrev pub invariant-loop-byte : goal.invariant-loop-byte
invariant-loop-byte g l = record {
  written : Writes {T = Unit {0}} {E = Failed} (g.O.Sink.state l.fn.out) (g.O.Sink.state l.out) (Ok tt) (flat_map shown_byte (take l.byte-index l.key));
  goes_on : g.O.Sink.fails_no_more l.fn.out → g.O.Sink.fails_no_more l.out;
}
