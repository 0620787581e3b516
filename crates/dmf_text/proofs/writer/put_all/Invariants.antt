use Rattle.std.proofs.Common.{◌≡◌, List, ℕ, ◌++◌, length}
use Rattle.std.specs.Io.KnownBytes.{Appends}
use Rattle.dmf_text.proofs.writer.put_all.Given as goal

abbrev pub invariant-loop-rest : goal.invariant-loop-rest
invariant-loop-rest g l = (written : List ℕ) × record {
  front : l.text ≡ written ++ l.rest;
  held : Appends (g.W.Sink.written l.initial.out).contents (g.W.Sink.written l.out).contents written;
  mark : (g.W.Sink.written l.out).has_failed ≡ (g.W.Sink.written l.initial.out).has_failed;
}

abbrev pub decreases-loop-rest : goal.decreases-loop-rest
decreases-loop-rest g l = length l.rest
