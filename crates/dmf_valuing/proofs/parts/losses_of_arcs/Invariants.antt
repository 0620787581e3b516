use Rattle.std.proofs.Common.{◌≡◌}
use Rattle.dmf_valuing.proofs.Numbered.{numbered_losses}
use Rattle.dmf_valuing.proofs.parts.losses_of_arcs.Given as goal

-- the losses before index k are numbered
abbrev pub invariant-loop-k : goal.invariant-loop-k
invariant-loop-k l = l.numbered.items ≡ numbered_losses l.losses l.k
