-- All links leave, and no link falls from the start.
use Rattle.std.proofs.Common.{◌≡◌, [], ap, sym, ◌∙◌, subst}
use Rattle.dmf_path.specs.Ball.{IsFit}
use Rattle.dmf_path.specs.Going.{IsBetweenLooks}
use Rattle.dmf_path.specs.Held.{way_of}
use Rattle.dmf_path.specs.Residual.{residual_of, with_settled_rooms}
use Rattle.dmf_path.specs.Searching.{IsFresh}
use Rattle.dmf_links.specs.LinkTable.{links_of}
use Rattle.dmf_path.specs.Walk.{AreCurrent}
use Rattle.dmf_path.proofs.searches.Beginning.{ready-at}
use Rattle.dmf_path.proofs.searches.Going.{keeps-fresh}
use Rattle.dmf_path.proofs.searches.SearchTurns.{plainly, sought-free}
use Rattle.dmf_path.proofs.phase.Phase.begin_anew.Goals as goal
use Rattle.dmf_path.proofs.phase.Phase.begin_anew.Goals.{After-make_fresh}

pub make_fresh-requires : goal.make_fresh-requires
make_fresh-requires c =
    let of = c.self.inside in
    let is = c.self.invariant in
    let a = is.searching.aimed in
    record {
      ready = rw c.deref.ensures (ready-at of.links.table.value.nodes of.levels is.ready a.one_label_each);
      start = rw c.deref.ensures a.start_is;
      goal = rw c.deref.ensures a.goal_is;
    }

-- No push is held.
settled : (c : After-make_fresh) → with_settled_rooms (residual_of c.self.inside.links) (way_of c.self.inside.trail) ≡ residual_of c.self.inside.links
settled c = rw (← c.self.view_is) at c.settle.ensures.settled

-- The search begins anew.
anew : (c : After-make_fresh) → IsBetweenLooks c.self.inside.links c.make_fresh.new.levels c.self.inside.ball c.make_fresh.new.trail
    × IsFresh (links_of c.self.inside.links.table.value) c.make_fresh.new.levels.near.labels c.make_fresh.new.trail.start
anew c =
    let of = c.self.inside in
    let is = c.self.invariant in
    let a = is.searching.aimed in
    let m = rw c.deref.ensures at c.make_fresh.ensures in
    keeps-fresh of.trail is.searching a.apart a.start_is a.goal_is (subst (IsFit of.ball) (settled c) is.fit) m.ready m.all m.labels
    (subst (AreCurrent (links_of of.links.table.value)) (sym (ap (λ v. v.items) m.current)) is.searching.under_way.walking.current_is) m.way

pub invariant_of-self : goal.invariant_of-self
invariant_of-self c =
    let is = (anew (goal.at.invariant_of-self c).After-make_fresh).0 in
    record { searching = is.searching; ready = is.ready; lasting = is.lasting; fit = is.fit }

pub returns : goal.returns
returns c =
    let at = (goal.at.returns c).After-make_fresh in
    let of = c.self.inside in
    let m = rw c.deref.ensures at c.make_fresh.ensures in
    let r = residual_of of.links in
    let w = way_of of.trail in
    record {
      fresh = record { fresh = (anew at).1; none_last = m.all };
      same = sought-free r w [] m.way ∙ (λ i. plainly (sym (settled at) i) w) ∙ (rw (← c.self.view_is) at c.settle.ensures.alike.same);
    }
