use Rattle.std.proofs.Common.{◌^◌, ◌≡◌, ◌≤◌, length}
use Rattle.std.specs.Io.KnownBytes.{Consumes}
use Rattle.dmf_streams.proofs.whole_text.read_all.Given as goal

-- the vector has the bytes that the reader gave, and each turn gave some
abbrev pub invariant-loop : goal.invariant-loop
invariant-loop g l =
    let reader = g.P.Source.left in
    record {
      consumes : Consumes (reader l.fn.source).known (reader l.source).known l.text.items;
      mark : (reader l.source).has_failed ≡ (reader l.fn.source).has_failed;
      some : l.counter ≤ length l.text.items;
      within : length l.text.items ≤ 2 ^ 30;
    }
