-- What is known of other goals is forgotten first; where no walk is left, no path is.
use Rattle.std.proofs.Common.{ap, subst, ◌∙◌}
use Rattle.dmf_path.specs.Phase.{sought_by, IsPartedBy}
use Rattle.dmf_path.specs.Searching.{Sought}
use Rattle.dmf_path.proofs.phase.Phase.find.Goals as goal

pub invariant_of-self : goal.invariant_of-self
invariant_of-self c =
    let is = c.self.invariant in
    record { searching = is.searching; ready = is.ready; lasting = is.lasting; fit = c.keep_for.ensures.fit _ is.fit }

pub returns-clause-none : goal.returns-clause-none
returns-clause-none c ended =
    let same = c.go_on_mended.ensures.on.same ∙ c.go_on_at_once.ensures.on.same ∙ ap sought_by c.self.view_is in
    subst (λ (s : Sought). IsPartedBy s c.go_on_anew.new.marks) same (c.go_on_anew.ensures.none ended)
