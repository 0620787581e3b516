-- All links leave. The labels that fit are taken up, and made to lead to the goal, or taken off.
use Rattle.std.proofs.Common.{false, ◌≡◌, get_or, [], refl, ap, sym, ◌∙◌, subst, arith}
use Rattle.dmf_path.specs.Ball.{IsFit}
use Rattle.dmf_path.specs.Going.{IsBetweenLooks}
use Rattle.dmf_path.specs.Phase.{sought_at, HasEnds, begun, fresh}
use Rattle.dmf_links.specs.LinkTable.{links_of}
use Rattle.dmf_path.specs.Walk.{AreCurrent, ArePassed}
use Rattle.dmf_path.specs.Held.{way_of}
use Rattle.dmf_path.specs.Residual.{ResidualLinks, residual_of, with_settled_rooms}
use Rattle.dmf_path.specs.Searching.{Sought, IsReady, labelling_of, AreAside, AreLasting, AreUsable, IsFresh}
use Rattle.dmf_path.proofs.searches.Beginning.{ready-at}
use Rattle.dmf_path.proofs.searches.Going.{between, keeps-free, keeps-fresh, small-start}
use Rattle.dmf_path.proofs.searches.SearchTurns.{plainly, sought-free}
use Rattle.dmf_path.proofs.phase.Phase.aim.Goals as goal
use Rattle.dmf_path.proofs.phase.Phase.aim.Goals.{After-take_up-used, After-redirect, After-label-goal_label, After-make_fresh}

-- No push is held.
settled : (c : After-take_up-used) → with_settled_rooms (residual_of c.self.inside.links) (way_of c.self.inside.trail) ≡ residual_of c.self.inside.links
settled c = rw (← c.self.view_is) at c.settle.ensures.settled

-- The network is the same as before.
plain : (c : After-take_up-used) → residual_of c.self.inside.links ≡ with_settled_rooms (residual_of c.args.self.now.links) (way_of c.args.self.now.trail)
plain c = sym (settled c) ∙ ap (λ (s : Sought). s.residual) (rw (← c.self.view_is) at c.settle.ensures.alike.same)

-- The ends are two nodes.
ends : (c : After-take_up-used) → HasEnds (sought_at (plainly (residual_of c.self.inside.links) (way_of c.self.inside.trail)) c.args.ends)
ends c = subst (λ (x : ResidualLinks). HasEnds (record { residual = x; start = c.args.ends.start; goal = c.args.ends.goal })) (sym (plain c)) c.requires.ends

-- The labels that were in use can be taken up,
in_use : (c : After-take_up-used) → AreUsable c.self.inside.levels (residual_of c.self.inside.links) c.self.inside.trail.goal
in_use c =
    let of = c.self.inside in
    let is = c.self.invariant in
    let r = residual_of of.links in
    let v = labelling_of of.levels in
    let walking = is.searching.under_way.walking in
    record {
      ready = ready-at of.links.table.value.nodes of.levels is.ready is.searching.aimed.one_label_each;
      goal_is = is.searching.aimed.goal_is;
      current_is = walking.current_is;
      kept = λ all. record {
        lasting = subst (AreLasting v of.levels.noted) (settled c) (is.lasting all);
        current_is = walking.current_is;
        passed = subst (λ (x : ResidualLinks). ArePassed r.links v.labels x.rooms of.trail.goal v.current) (settled c) walking.passed;
      };
    }

-- as those can that are in use then, and those set aside.
taken : (c : After-take_up-used) → AreUsable c.take_up-used.new.levels (residual_of c.self.inside.links) c.take_up-used.result.goal
    × AreAside c.take_up-used.new.asides (residual_of c.self.inside.links)
taken c = c.take_up-used.ensures (residual_of c.self.inside.links) (in_use c) (subst (AreAside c.args.asides.now) (sym (plain c)) c.requires.asides)

pub redirect-requires : goal.redirect-requires
redirect-requires c =
    let at = (goal.at.redirect-requires c).After-take_up-used in
    let usable = (taken at).0 in
    let ends = ends at in
    record {
      usable = record { ready = usable.ready; goal_is = usable.goal_is; current_is = usable.current_is; kept = usable.kept };
      fit = subst (IsFit c.self.inside.ball) (settled at) c.self.invariant.fit;
      start = ends.start_is;
      goal = ends.goal_is;
    }

-- the labels of the start and of the goal are read
read : (c : After-label-goal_label) → (c.label-start_label.result ≡ get_or c.redirect.new.levels.near.labels c.args.ends.start 0)
    × (c.label-goal_label.result ≡ get_or c.redirect.new.levels.near.labels c.args.ends.goal 0)
read c = (c.label-start_label.ensures, c.label-goal_label.ensures)

pub overflow_sub-start_label : goal.overflow_sub-start_label
overflow_sub-start_label c =
    omega (arith, read (goal.at.overflow_sub-start_label c).After-label-goal_label, (c.redirect.ensures.led c.if-redirect.true).may.above)

pub free-requires : goal.free-requires
free-requires c =
    let at = goal.at.free-requires c in
    let small = small-start (c.redirect.ensures.led c.if-redirect.true).may in
    record { capacity = omega (arith, (read at.After-label-goal_label).0, small, c.self.invariant.searching.aimed.capacity_is) }

pub invariant_of-self : goal.invariant_of-self
invariant_of-self c =
    let at = goal.at.invariant_of-self c in
    let led = c.redirect.ensures.led c.if-redirect.true in
    keeps-free c.self.inside.trail c.self.invariant.searching c.requires.ends.apart led c.free.new.self.slots.items
    c.free.ensures.way (omega (arith, c.free.ensures.count, read at.After-label-goal_label, led.may.above))

pub returns-then-redirect : goal.returns-then-redirect
returns-then-redirect c =
    let at = (goal.at.returns-then-redirect c).After-take_up-used in
    let r = residual_of c.self.inside.links in
    let w = between c.self.inside.trail c.args.ends.start c.args.ends.goal in
    let free = sought-free r w c.free.new.self.slots.items c.free.ensures.way in
    record {
      asides = subst (AreAside c.take_up-used.new.asides) (sym (ap (λ (s : Sought). s.residual) free)) (taken at).1;
      marked = begun refl;
      same = free ∙ ap (λ (x : ResidualLinks). plainly x w) (plain at);
    }

-- The labels and the ball are as they were.
kept : (c : After-redirect) → c.redirect.result ≡ false → IsReady c.self.inside.links.table.value.nodes c.redirect.new.levels.near c.redirect.new.levels.far
    × AreCurrent (links_of c.self.inside.links.table.value) c.redirect.new.levels.current.items
    × IsFit c.redirect.new.ball (residual_of c.self.inside.links)
kept c cannot =
    let at = (goal.at.After-redirect c).After-take_up-used in
    let same = c.redirect.ensures.same cannot in
    let usable = (taken at).0 in
    rw (same.0, same.1) (usable.ready, usable.current_is, subst (IsFit c.self.inside.ball) (settled at) c.self.invariant.fit)

pub make_fresh-requires : goal.make_fresh-requires
make_fresh-requires c =
    let at = goal.at.make_fresh-requires c in
    let ends = ends at.After-take_up-used in
    record {
      ready = rw c.deref.ensures (kept at.After-redirect c.if-redirect.false).0;
      start = rw c.deref.ensures ends.start_is;
      goal = rw c.deref.ensures ends.goal_is;
    }

-- The search begins anew.
anew : (c : After-make_fresh) → IsBetweenLooks c.self.inside.links c.make_fresh.new.levels c.redirect.new.ball c.make_fresh.new.trail
    × IsFresh (links_of c.self.inside.links.table.value) c.make_fresh.new.levels.near.labels c.make_fresh.new.trail.start
anew c =
    let at = goal.at.After-make_fresh c in
    let of = c.self.inside in
    let ends = ends at.After-take_up-used in
    let kept = kept at.After-redirect c.if-redirect.false in
    let m = rw c.deref.ensures at c.make_fresh.ensures in
    keeps-fresh of.trail c.self.invariant.searching ends.apart ends.start_is ends.goal_is kept.2 m.ready m.all m.labels
    (subst (AreCurrent (links_of of.links.table.value)) (sym (ap (λ v. v.items) m.current)) kept.1) m.way

pub invariant_of-self-2 : goal.invariant_of-self-2
invariant_of-self-2 c = (anew c).0

pub returns : goal.returns
returns c =
    let at = (goal.at.returns c).After-take_up-used in
    let m = rw c.deref.ensures at c.make_fresh.ensures in
    let r = residual_of c.self.inside.links in
    let w = between c.self.inside.trail c.args.ends.start c.args.ends.goal in
    let free = sought-free r w [] m.way in
    record {
      asides = subst (AreAside c.take_up-used.new.asides) (sym (ap (λ (s : Sought). s.residual) free)) (taken at).1;
      marked = fresh (record { fresh = (anew c).1; none_last = m.all });
      same = free ∙ ap (λ (x : ResidualLinks). plainly x w) (plain at);
    }
