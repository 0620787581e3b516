use Rattle.std.proofs.Common.{◌≡◌, filter}
use Rattle.dmf_valuing.proofs.Numbered.{is_of_inner, numbered_losses}
use Rattle.dmf_valuing.proofs.parts.losses_of_nodes.Given as goal

-- the losses before index k are numbered, but those of the source and the sink
abbrev pub invariant-loop-k : goal.invariant-loop-k
invariant-loop-k l = l.numbered.items ≡ filter (is_of_inner l.state.network) (numbered_losses l.losses l.k)
