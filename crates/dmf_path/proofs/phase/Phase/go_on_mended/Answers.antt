-- All links leave before labels are lowered. The network and the ends are the same after that.
use Rattle.std.proofs.Common.{◌≡◌, ◌∙◌}
use Rattle.dmf_path.specs.Phase.{sought_by}
use Rattle.dmf_path.proofs.searches.Phases.{around-alike}
use Rattle.dmf_path.proofs.phase.Phase.go_on_mended.Goals as goal
use Rattle.dmf_path.proofs.phase.Phase.go_on_mended.Goals.{After-mend_labels}

pub mend_labels-requires : goal.mend_labels-requires
mend_labels-requires c = record { around = around-alike c.settle.ensures.alike c.requires; settled = c.settle.ensures.settled }

-- The network and the ends are the same after all links have left, and after labels are lowered.
plain : (c : After-mend_labels) → sought_by c.mend_labels.new.self ≡ sought_by c.args.self.now
plain c = c.mend_labels.ensures.same ∙ c.settle.ensures.alike.same

pub returns-then-mend_labels : goal.returns-then-mend_labels
returns-then-mend_labels c =
    let on = c.go_on.ensures.on in
    record { on = record { same = on.on.same ∙ plain (goal.at.returns-then-mend_labels c).After-mend_labels; around = on.on.around }; found_is = on.found_is }

pub returns-else-mend_labels : goal.returns-else-mend_labels
returns-else-mend_labels c = record {
  on = record { same = plain (goal.at.returns-else-mend_labels c).After-mend_labels; around = c.mend_labels.ensures.around };
  found_is = λ found. absurd (cc);
}
