-- The labels, the current links and the slots fit together; or the search is fresh.
use Rattle.std.proofs.Common.{ℕ, ◌≡◌, List, [], replicate, ap, sym, ◌∙◌, subst}
use Rattle.dmf_links.specs.LinkTable.{links_of}
use Rattle.dmf_path.specs.Ball.{IsFit}
use Rattle.dmf_path.specs.Labels.{no_label}
use Rattle.dmf_path.specs.Phase.{IsPartedBy, IsWalkBy}
use Rattle.dmf_path.specs.Reach.{Reach}
use Rattle.dmf_path.specs.Searching.{Sought, sought}
use Rattle.dmf_path.specs.Walk.{AreCurrent}
use Rattle.dmf_path.specs.Held.{Way, way_of}
use Rattle.dmf_path.specs.Residual.{ResidualLinks, residual_of, with_settled_rooms}
use Rattle.dmf_path.proofs.paths.LeastTrail.{between-labelled}
use Rattle.dmf_path.proofs.searches.Beginning.{ready-at}
use Rattle.dmf_path.proofs.searches.Going.{keeps-fresh}
use Rattle.dmf_path.proofs.searches.SearchTurns.{plainly, sought-free}
use Rattle.dmf_path.proofs.phase.Phase.relabel.Goals as goal
use Rattle.dmf_path.proofs.phase.Phase.relabel.Goals.{After-label_anew}

-- No push is held.
settled : (c : After-label_anew) → with_settled_rooms (residual_of c.self.inside.links) (way_of c.self.inside.trail) ≡ residual_of c.self.inside.links
settled c = rw (← c.self.view_is) at c.requires.settled

pub label_anew-requires : goal.label_anew-requires
label_anew-requires c =
    let of = c.self.inside in
    let a = c.self.invariant.searching.aimed in
    let is = ready-at of.links.table.value.nodes of.levels c.self.invariant.ready a.one_label_each in
    record {
      near_is = ap (λ (f : Reach). f.labels) c.unlabel.ensures ∙ ap (λ n. replicate n no_label) is.one_label_each;
      far_is = is.far_is;
      start_is = a.start_is;
      goal_is = a.goal_is;
      apart = a.apart;
    }

pub make_fresh-requires : goal.make_fresh-requires
make_fresh-requires c =
    let a = c.self.invariant.searching.aimed in
    record {
      ready = rw c.deref.ensures c.label_anew.ensures.relabelled.ready;
      start = rw c.deref.ensures a.start_is;
      goal = rw c.deref.ensures a.goal_is;
    }

pub invariant_of-self : goal.invariant_of-self
invariant_of-self c =
    let at = (goal.at.invariant_of-self c).After-label_anew in
    let of = c.self.inside in
    let is = c.self.invariant in
    let a = is.searching.aimed in
    let m = rw c.deref.ensures at c.make_fresh.ensures in
    let current = subst (AreCurrent (links_of of.links.table.value)) (sym (ap (λ v. v.items) (m.current ∙ c.label_anew.ensures.relabelled.current)))
    is.searching.under_way.walking.current_is in
    (keeps-fresh of.trail is.searching a.apart a.start_is a.goal_is (subst (IsFit of.ball) (settled at) is.fit) m.ready m.all m.labels current m.way).0

pub returns-then-not-label_anew : goal.returns-then-not-label_anew
returns-then-not-label_anew c =
    let at = (goal.at.returns-then-not-label_anew c).After-label_anew in
    let of = c.self.inside in
    let m = rw c.deref.ensures at c.make_fresh.ensures in
    let r = residual_of of.links in
    let w = way_of of.trail in
    rw (← c.self.view_is) (record {
      on = record {
        same = sought-free r w [] m.way ∙ (λ i. plainly (sym (settled at) i) w);
        around = λ some. (rw (← c.self.view_is) at c.requires.around) some ∙ sym (ap (λ (u : Way). u.goal) m.way);
      };
      labelled = λ e. absurd (cc);
      none = λ e. subst (λ (x : ResidualLinks). IsPartedBy (plainly x w) c.label_anew.new.marks) (sym (settled at))
          (c.label_anew.ensures.relabelled.none c.if-not-label_anew.true);
      kept = λ e. absurd (cc);
    })

-- The labels are new, and all else is as it was.
pub begin_phase-requires : goal.begin_phase-requires
begin_phase-requires c =
    let e = c.label_anew.ensures in
    record {
      before = c.self.inside.levels;
      goes = record { keeps = c.self.invariant; around = rw (← c.self.view_is) at c.requires.around };
      settled = rw (← c.self.view_is) at c.requires.settled;
      current = e.relabelled.current;
      ready = e.relabelled.ready;
      sound = between-labelled (e.relabelled.labelled c.if-not-label_anew.false);
      whole = e.whole c.if-not-label_anew.false;
    }

pub invariant_of-self-2 : goal.invariant_of-self-2
invariant_of-self-2 c = c.begin_phase.ensures.goes.keeps

pub returns : goal.returns
returns c =
    let at = (goal.at.returns c).After-label_anew in
    let of = c.self.inside in
    let e = c.begin_phase.ensures in
    let w = way_of of.trail in
    let labelled = c.label_anew.ensures.relabelled.labelled c.if-not-label_anew.false in
    let same = e.same ∙ (λ i. plainly (settled at i) w) in
    rw (← c.self.view_is) (record {
      on = record { same = e.same; around = e.goes.around };
      labelled = λ yes. subst (λ (f : Reach). (ps : List ℕ) × IsWalkBy (sought (residual_of of.links) (way_of c.begin_phase.new.trail)) f.labels ps)
          (sym e.near) (subst (λ (s : Sought). (ps : List ℕ) × IsWalkBy s c.label_anew.new.levels.near.labels ps) (sym same) labelled.walk);
      none = λ e. absurd (cc);
      kept = λ yes. c.label_anew.ensures.kept c.if-not-label_anew.false;
    })
