use Rattle.std.proofs.Common.{◌∙◌}
use Rattle.dmf_history.proofs.Copied.{same-timeline, may-stand}
use Rattle.dmf_history.proofs.delta.DeltaHistory.copy.Goals as goal

pub invariant_of-result : goal.invariant_of-result
invariant_of-result c =
    let a = c.self.inside in
    rw c.in_ok-copy.ensures (may-stand a.present a.edits.items c.in_ok-clone.field-0.items a.place a.bound c.in_ok-clone.ensures.cases.0 c.self.invariant)

pub returns : goal.returns
returns c =
    let a = c.self.inside in
    rw c.in_ok-copy.ensures (same-timeline a.present a.edits.items c.in_ok-clone.field-0.items a.place a.bound c.in_ok-clone.ensures.cases.0 ∙ c.self.view_is)
