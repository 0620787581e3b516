-- The search goes on from the labels through the ways out, or is fresh.
use Rattle.std.proofs.Common.{◌≡◌, Bool, Option, None, Some, true, false, get_or, refl, ap, sym, subst, ◌∙◌}
use Rattle.dmf_path.specs.ClosedSide.{IsClosedSide, IsPassage, NoneReturns}
use Rattle.dmf_path.specs.Going.{Goes}
use Rattle.dmf_path.specs.Held.{way_of, filled_slots}
use Rattle.dmf_path.specs.Pair.{steps_of}
use Rattle.dmf_path.specs.Residual.{residual_of}
use Rattle.dmf_path.specs.Phase.{sought_by, IsPartedBy, IsSearch, begun}
use Rattle.dmf_path.specs.Searching.{Sought, sought, searched}
use Rattle.dmf_path.specs.Through.{AreWaysOut, FallOnce, passage_by}
use Rattle.dmf_path.proofs.searches.Going.{goes-settled}
use Rattle.dmf_path.proofs.paths.Returning.{none-returns}
use Rattle.dmf_path.proofs.labels.Parted.{closed-parted, ways-out}
use Rattle.dmf_path.proofs.slots.Settled.{AreRooms-settled}
use Rattle.dmf_path.proofs.slots.Settling.{can-settle}
use Rattle.dmf_path.proofs.searches.SearchTurns.{plainly, plainly-settled, sought-settled, told-settled}
use Rattle.dmf_path.proofs.search.Search.label_through.Goals as goal
use Rattle.dmf_path.proofs.search.Search.label_through.Goals.{After-settle, After-relabel_through-passes}

pub settle-requires : goal.settle-requires
settle-requires c = record { can = can-settle c.phase.invariant.searching }

-- After all links have left, the search goes on.
settled : (c : After-settle) → Goes c.settle.new.links c.phase.inside.levels c.keep_for.new.self c.settle.new.self
settled c =
    let of = c.phase.inside in
    let is = c.phase.invariant in
    let goes : Goes of.links of.levels c.keep_for.new.self of.trail = record {
      keeps = record { searching = is.searching; ready = is.ready; lasting = is.lasting; fit = c.keep_for.ensures.fit _ is.fit };
      around = c.keep_for.ensures.around;
    } in
    goes-settled goes c.settle.ensures.links c.settle.ensures.way

-- The network and the ends stay, with all links out of the slots, and with the labels.
plain : (c : After-settle) → plainly (residual_of c.settle.new.links) (way_of c.settle.new.self)
    ≡ sought (residual_of c.phase.inside.links) (way_of c.phase.inside.trail)
plain c = plainly-settled (residual_of c.phase.inside.links) (way_of c.phase.inside.trail) c.settle.ensures.links c.settle.ensures.way

same : (c : After-relabel_through-passes) → sought (residual_of c.settle.new.links) (way_of c.relabel_through-passes.new.trail)
    ≡ sought (residual_of c.phase.inside.links) (way_of c.phase.inside.trail)
same c = c.relabel_through-passes.ensures.same
    ∙ sought-settled (residual_of c.phase.inside.links) (way_of c.phase.inside.trail) c.settle.ensures.links c.settle.ensures.way

pub relabel_through-passes-requires : goal.relabel_through-passes-requires
relabel_through-passes-requires c =
    let at = (goal.at.relabel_through-passes-requires c).After-settle in
    let of = c.phase.inside in
    let places = c.self.inside.places.value in
    let r = residual_of of.links in
    let w = way_of of.trail in
    let s = sought r w in
    let a = c.phase.invariant.searching.aimed in
    let places_are = rw (← c.phase.view_is) at c.self.invariant.0.places_are in
    let fit = AreRooms-settled r.links r.takes_back w.sent (filled_slots w) r.rooms a.links of.links.rooms_are in
    let out = ways-out s.residual.links places s.residual.rooms s.start s.goal c.args.ways.now c.args.marks.now a.links places_are fit
    (rw (← c.self.view_is, ← c.phase.view_is) at c.requires) in
    record {
      goes = settled at;
      settled = told-settled w (residual_of c.settle.new.links) c.settle.ensures.way;
      out = subst (λ (s : Sought). AreWaysOut s.residual.links s.residual.rooms s.start s.goal c.args.ways.now c.args.marks.now) (sym (plain at)) out;
    }

pub invariant_of-phase : goal.invariant_of-phase
invariant_of-phase c = c.relabel_through-passes.ensures.goes.keeps

pub invariant_of-self : goal.invariant_of-self
invariant_of-self c =
    let at = (goal.at.invariant_of-self c).After-relabel_through-passes in
    let of = c.self.inside in
    (subst (λ (s : Sought). IsSearch s of.places.value of.numbers of.asides.items) (sym (same at ∙ ap sought_by c.phase.view_is)) c.self.invariant.0, begun refl)

pub returns-clause-same : goal.returns-clause-same
returns-clause-same c =
    let at = (goal.at.returns-clause-same c).After-relabel_through-passes in
    rw (← c.self.view_is, ← c.phase.view_is) (ap (λ (s : Sought). searched s c.self.inside.places.value) (same at))

-- A path as long as the new label of the start leads back to no marked node.
once : (c : After-relabel_through-passes) → c.relabel_through-passes.result ≡ Some true
    → NoneReturns (steps_of (searched (sought (residual_of c.phase.inside.links) (way_of c.phase.inside.trail)) c.self.inside.places.value).pairs)
    c.phase.inside.trail.start c.phase.inside.trail.goal
    (get_or c.relabel_through-passes.new.levels.near.labels c.phase.inside.trail.start 0) c.args.marks.now
once c left =
    let of = c.phase.inside in
    let s = sought (residual_of of.links) (way_of of.trail) in
    let a = c.phase.invariant.searching.aimed in
    let places_are = rw (← c.phase.view_is) at c.self.invariant.0.places_are in
    let labels = c.relabel_through-passes.new.levels.near.labels in
    let falls = subst (λ (s : Sought). FallOnce s.residual.links s.residual.rooms labels s.start s.goal c.args.marks.now)
    (plain (goal.at.After-relabel_through-passes c).After-settle) (c.relabel_through-passes.ensures.labelled left) in
    none-returns s.residual.links c.self.inside.places.value s.residual.rooms labels c.args.marks.now a.links falls places_are a.start_is a.goal_is

-- The marks of a closed side are those of such a side for the pairs.
closed : (c : After-relabel_through-passes) → c.relabel_through-passes.result ≡ Some false
    → IsClosedSide (steps_of (searched (sought (residual_of c.phase.inside.links) (way_of c.phase.inside.trail)) c.self.inside.places.value).pairs)
    c.phase.inside.trail.start c.phase.inside.trail.goal c.relabel_through-passes.new.marks
closed c none =
    let of = c.phase.inside in
    let s = sought (residual_of of.links) (way_of of.trail) in
    let a = c.phase.invariant.searching.aimed in
    let places_are = rw (← c.phase.view_is) at c.self.invariant.0.places_are in
    let out = rw (← c.self.view_is, ← c.phase.view_is) at c.requires in
    let parted = subst (λ (s : Sought). IsPartedBy s c.relabel_through-passes.new.marks)
    (plain (goal.at.After-relabel_through-passes c).After-settle) (c.relabel_through-passes.ensures.parted none) in
    closed-parted s.residual.links c.self.inside.places.value s.residual.rooms s.start s.goal c.relabel_through-passes.new.marks a.links places_are a.start_is a.goal_is
    (c.relabel_through-passes.auto.marks ∙ out.one_each) parted

-- What the labels say, in each case.
said : (c : After-relabel_through-passes) (passes : Option Bool) → c.relabel_through-passes.result ≡ passes
    → IsPassage (steps_of (searched (sought (residual_of c.phase.inside.links) (way_of c.phase.inside.trail)) c.self.inside.places.value).pairs)
    c.phase.inside.trail.start c.phase.inside.trail.goal c.args.marks.now c.relabel_through-passes.new.marks
    (passage_by passes (get_or c.relabel_through-passes.new.levels.near.labels c.phase.inside.trail.start 0))
said c (Some true) is = (once c is, c.relabel_through-passes.ensures.marks (λ e. cc))
said c (Some false) is = closed c is
said c None is = c.relabel_through-passes.ensures.marks (λ e. cc)

pub returns-clause-passage : goal.returns-clause-passage
returns-clause-passage c =
    let at = (goal.at.returns-clause-passage c).After-relabel_through-passes in
    let start = ap (λ (s : Sought). s.start) (same at) in
    let label = c.label.ensures ∙ ap (λ v. get_or c.relabel_through-passes.new.levels.near.labels v 0) start in
    rw (← c.self.view_is, ← c.phase.view_is, c.passage_of.ensures, label) (said at c.relabel_through-passes.result refl)
