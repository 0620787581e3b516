use Rattle.std.proofs.Common.{◌≡◌, map}
use Rattle.dmf_valuing.specs.PartRows.{row_of}
use Rattle.dmf_valuing.proofs.WithSeconds.{seconds}
use Rattle.dmf_valuing.proofs.finding.second_rows.Given as goal

-- the arcs before index k have rows
abbrev pub invariant-loop-k : goal.invariant-loop-k
invariant-loop-k g l = map row_of l.rows.items ≡ seconds l.value l.losses l.gains.items l.k
