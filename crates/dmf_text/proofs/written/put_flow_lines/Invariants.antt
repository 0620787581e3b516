use Rattle.std.proofs.Common.{◌≡◌, take}
use Rattle.std.specs.Io.KnownBytes.{Appends}
use Rattle.std.specs.List.{zip}
use Rattle.dmf_text.specs.Written.{flows_text}
use Rattle.dmf_text.proofs.written.put_flow_lines.Given as goal

-- the lines of the arcs before this one are written
abbrev pub invariant-loop-i : goal.invariant-loop-i
invariant-loop-i g l = record {
  held : Appends (g.W.Sink.written l.initial.out).contents (g.W.Sink.written l.out).contents (flows_text (take l.i (zip l.arcs l.state.flows)));
  mark : (g.W.Sink.written l.out).has_failed ≡ (g.W.Sink.written l.initial.out).has_failed;
}
