-- The labels are mended, and the slots freed.
use Rattle.std.proofs.Common.{◌≡◌, ◌≤◌, get_or, ap, sym, subst, ◌∙◌, arith}
use Rattle.dmf_path.specs.Ball.{IsFit}
use Rattle.dmf_path.specs.Held.{Way, way_of}
use Rattle.dmf_path.specs.Residual.{ResidualLinks, residual_of, with_settled_rooms}
use Rattle.dmf_path.specs.Searching.{labelling_of, AreLasting}
use Rattle.dmf_path.specs.Walk.{ArePassed}
use Rattle.dmf_path.proofs.searches.Beginning.{ready-at}
use Rattle.dmf_path.proofs.searches.Going.{keeps-free, small-start}
use Rattle.dmf_path.proofs.searches.SearchTurns.{plainly, sought-free}
use Rattle.dmf_path.proofs.phase.Phase.mend_labels.Goals as goal
use Rattle.dmf_path.proofs.phase.Phase.mend_labels.Goals.{After-label-goal_label}

pub mend-is_mended-requires : goal.mend-is_mended-requires
mend-is_mended-requires c =
    let of = c.self.inside in
    let is = c.self.invariant in
    let r = residual_of of.links in
    let levels = of.levels in
    let aimed = is.searching.aimed in
    let walking = is.searching.under_way.walking in
    let settled : with_settled_rooms r (way_of of.trail) ≡ r = rw (← c.self.view_is) at c.requires.settled in
    record {
      led = record {
        may = record {
          ready = ready-at of.links.table.value.nodes levels is.ready aimed.one_label_each;
          current_is = walking.current_is;
          lasting = subst (AreLasting (labelling_of levels) levels.noted) settled (is.lasting c.if-not-self.false);
          labelled = λ none. absurd (omega (arith, none, aimed.start_label, aimed.links.at_most_nodes));
          above = omega (arith, is.searching.under_way.one_slot_each);
          fit = subst (IsFit of.ball) settled is.fit;
          start_is = aimed.start_is;
          goal_is = aimed.goal_is;
        };
        passed = subst (λ (x : ResidualLinks). ArePassed r.links levels.near.labels x.rooms of.trail.goal levels.current.items) settled walking.passed;
      };
      apart = aimed.apart;
      around = rw (← c.self.view_is) at c.requires.around;
    }

-- the labels of the start and of the goal are read
read : (c : After-label-goal_label) → (c.label-start_label.result ≡ get_or c.mend-is_mended.new.levels.near.labels c.self.inside.trail.start 0)
    × (c.label-goal_label.result ≡ get_or c.mend-is_mended.new.levels.near.labels c.self.inside.trail.goal 0)
read c = (c.label-start_label.ensures, c.label-goal_label.ensures)

-- The goal is not above the start.
low : (c : After-label-goal_label) → c.label-goal_label.result ≤ c.label-start_label.result
low c = omega (arith, read c, c.mend-is_mended.ensures.led.may.above)

pub overflow_sub-start_label : goal.overflow_sub-start_label
overflow_sub-start_label c = low (goal.at.overflow_sub-start_label c).After-label-goal_label

pub free-requires : goal.free-requires
free-requires c =
    let at = (goal.at.free-requires c).After-label-goal_label in
    record { capacity = omega (arith, (read at).0, small-start c.mend-is_mended.ensures.led.may, c.self.invariant.searching.aimed.capacity_is) }

pub invariant_of-self : goal.invariant_of-self
invariant_of-self c =
    let at = (goal.at.invariant_of-self c).After-label-goal_label in
    let is = c.self.invariant.searching in
    keeps-free c.self.inside.trail is is.aimed.apart c.mend-is_mended.ensures.led c.free.new.self.slots.items c.free.ensures.way
    (omega (arith, c.free.ensures.count, read at, low at))

pub returns : goal.returns
returns c =
    let of = c.self.inside in
    let r = residual_of of.links in
    let w = way_of of.trail in
    let settled : with_settled_rooms r w ≡ r = rw (← c.self.view_is) at c.requires.settled in
    rw (← c.self.view_is) (record {
      same = sought-free r w c.free.new.self.slots.items c.free.ensures.way ∙ (λ i. plainly (sym settled i) w);
      around = λ some. c.mend-is_mended.ensures.around some ∙ sym (ap (λ (u : Way). u.goal) c.free.ensures.way);
    })
