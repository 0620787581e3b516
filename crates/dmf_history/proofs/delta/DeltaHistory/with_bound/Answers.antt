use Rattle.dmf_history.proofs.delta.DeltaHistory.with_bound.Goals as goal

pub returns : goal.returns
returns c = rw c.new.ensures.items
