-- All links leave before the nodes get new labels. The network and the ends are the same after that.
use Rattle.std.proofs.Common.{◌≡◌, subst, ◌∙◌}
use Rattle.dmf_path.specs.Phase.{sought_by, IsPartedBy}
use Rattle.dmf_path.specs.Searching.{Sought}
use Rattle.dmf_path.proofs.searches.Phases.{around-alike}
use Rattle.dmf_path.proofs.phase.Phase.go_on_anew.Goals as goal
use Rattle.dmf_path.proofs.phase.Phase.go_on_anew.Goals.{After-relabel}

pub relabel-requires : goal.relabel-requires
relabel-requires c = record { around = around-alike c.settle.ensures.alike c.requires; settled = c.settle.ensures.settled }

-- The network and the ends are the same after all links have left, and after the nodes get new labels.
plain : (c : After-relabel) → sought_by c.relabel.new.self ≡ sought_by c.args.self.now
plain c = c.relabel.ensures.on.same ∙ c.settle.ensures.alike.same

pub returns-then-relabel-clause-on : goal.returns-then-relabel-clause-on
returns-then-relabel-clause-on c =
    let on = c.go_on.ensures.on in
    record { on = record { same = on.on.same ∙ plain (goal.at.returns-then-relabel-clause-on c).After-relabel; around = on.on.around }; found_is = on.found_is }

pub returns-then-relabel-clause-none : goal.returns-then-relabel-clause-none
returns-then-relabel-clause-none c =
    let found = c.relabel.ensures.labelled c.if-relabel.true in
    λ ended. absurd (c.go_on.ensures.none ended found.0 found.1)

pub returns-else-relabel-clause-on : goal.returns-else-relabel-clause-on
returns-else-relabel-clause-on c = record {
  on = record { same = plain (goal.at.returns-else-relabel-clause-on c).After-relabel; around = c.relabel.ensures.on.around };
  found_is = λ found. absurd (cc);
}

pub returns-else-relabel-clause-none : goal.returns-else-relabel-clause-none
returns-else-relabel-clause-none c =
    λ ended. subst (λ (s : Sought). IsPartedBy s c.relabel.new.marks) c.settle.ensures.alike.same (c.relabel.ensures.none c.if-relabel.false)
