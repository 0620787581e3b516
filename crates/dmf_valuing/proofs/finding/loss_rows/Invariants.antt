use Rattle.std.proofs.Common.{◌≡◌, map, take}
use Rattle.dmf_valuing.specs.PartRows.{loss_row, row_of}
use Rattle.dmf_valuing.proofs.finding.loss_rows.Given as goal

-- the losses before index k have rows
abbrev pub invariant-loop-k : goal.invariant-loop-k
invariant-loop-k l = map row_of l.rows.items ≡ map (loss_row l.value) (take l.k l.losses)
