use Rattle.std.proofs.Common.{◌≡◌, ◌++◌}
use Rattle.std.specs.Io.KnownBytes.{Appends}
use Rattle.dmf_text.specs.Written.{nodes_text}
use Rattle.dmf_text.proofs.written.put_nodes.Given as goal

-- the lines of the nodes so far are written
abbrev pub invariant-loop-id : goal.invariant-loop-id
invariant-loop-id g l = record {
  given : l.yielded ++ l.id-iterator ≡ l.fn.ids;
  held : Appends (g.W.Sink.written l.initial.out).contents (g.W.Sink.written l.out).contents (nodes_text l.yielded);
  mark : (g.W.Sink.written l.out).has_failed ≡ (g.W.Sink.written l.initial.out).has_failed;
}
