use Rattle.std.proofs.Common.{◌≡◌, take}
use Rattle.std.specs.Io.KnownBytes.{Appends}
use Rattle.dmf_text.proofs.WrittenLemmas.{kept_text}
use Rattle.dmf_valuing.specs.PartRows.{fields_of}
use Rattle.dmf_valuing.proofs.PartRows.{each}
use Rattle.dmf_valuing.proofs.rows.write_rows.Given as goal

-- the rows before index k are written
abbrev pub invariant-loop-k : goal.invariant-loop-k
invariant-loop-k g l = record {
  held : Appends (g.W.Sink.written l.initial.out).contents (g.W.Sink.written l.out).contents
      (kept_text each fields_of (take l.k l.rows));
  mark : (g.W.Sink.written l.out).has_failed ≡ (g.W.Sink.written l.initial.out).has_failed;
}
