use Rattle.std.proofs.Common.{◌≡◌, take}
use Rattle.std.specs.Io.KnownBytes.{Appends}
use Rattle.dmf_text.specs.Written.{arcs_text}
use Rattle.dmf_text.proofs.written.put_arcs.Given as goal

abbrev pub invariant-loop-arc : goal.invariant-loop-arc
invariant-loop-arc g l = record {
  held : Appends (g.W.Sink.written l.initial.out).contents (g.W.Sink.written l.out).contents (arcs_text (take l.arc-index l.arcs));
  mark : (g.W.Sink.written l.out).has_failed ≡ (g.W.Sink.written l.initial.out).has_failed;
}
