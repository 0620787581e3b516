-- Labels from the ways out, or fresh ones.
use Rattle.std.proofs.Common.{◌≡◌, Some, List, [], replicate, refl, ap, sym, ◌∙◌, subst}
use Rattle.dmf_links.specs.LinkTable.{links_of}
use Rattle.dmf_path.specs.declared.trail.Slot.{Slot}
use Rattle.dmf_path.specs.Ball.{IsFit}
use Rattle.dmf_path.specs.Labels.{no_label}
use Rattle.dmf_path.specs.Reach.{Reach}
use Rattle.dmf_path.specs.Through.{FallOnce}
use Rattle.dmf_path.specs.Walk.{AreCurrent}
use Rattle.dmf_path.specs.Held.{Way, way_of, with_slots}
use Rattle.dmf_path.specs.Residual.{residual_of, with_settled_rooms}
use Rattle.dmf_path.specs.Searching.{labelling_of, sought, IsReady}
use Rattle.dmf_path.proofs.searches.Beginning.{ready-at}
use Rattle.dmf_path.proofs.searches.SearchTurns.{plainly, searching-anew, sought-free}
use Rattle.dmf_path.proofs.slots.Settling.{told-free}
use Rattle.dmf_path.proofs.phase.relabel_through.Goals as goal
use Rattle.dmf_path.proofs.phase.relabel_through.Goals.{Start, After-label_through}

-- With other free slots the network and the ends are the same.
same : (c : Start) {new : Way} (slots : List Slot) → new ≡ with_slots (way_of c.args.trail.now) slots
    → (with_settled_rooms (residual_of c.args.links.now) new ≡ residual_of c.args.links.now)
    × (sought (residual_of c.args.links.now) new ≡ sought (residual_of c.args.links.now) (way_of c.args.trail.now))
same c slots way =
    let r = residual_of c.args.links.now in
    let w = way_of c.args.trail.now in
    (ap (with_settled_rooms r) way ∙ told-free r w slots, sought-free r w slots way ∙ (λ i. plainly (sym c.requires.settled i) w))

pub label_through-requires : goal.label_through-requires
label_through-requires c =
    let a = c.requires.goes.keeps.searching.aimed in
    let is = ready-at c.args.links.now.table.value.nodes c.args.levels.now c.requires.goes.keeps.ready a.one_label_each in
    record {
      clean = record {
        near_is = ap (λ (f : Reach). f.labels) c.unlabel.ensures ∙ ap (λ n. replicate n no_label) is.one_label_each;
        far_is = is.far_is;
        start_is = a.start_is;
        goal_is = a.goal_is;
        apart = a.apart;
      };
      out = c.requires.out;
    }

-- The levels are ready for the next labels.
ready : (c : After-label_through) → IsReady c.args.links.now.table.value.nodes c.label_through.new.levels.near c.label_through.new.levels.far
ready c = record { one_label_each = c.label_through.ensures.passed.one_label_each; far_is = c.label_through.ensures.far }

pub make_fresh-requires : goal.make_fresh-requires
make_fresh-requires c = record {
  ready = rw c.deref.ensures (ready (goal.at.make_fresh-requires c).After-label_through);
  start = rw c.deref.ensures c.requires.goes.keeps.searching.aimed.start_is;
  goal = rw c.deref.ensures c.requires.goes.keeps.searching.aimed.goal_is;
}

pub make_fresh-requires-then-not-is_left : goal.make_fresh-requires-then-not-is_left
make_fresh-requires-then-not-is_left c = record {
  ready = rw c.deref-then-not-is_left.ensures (ready (goal.at.make_fresh-requires-then-not-is_left c).After-label_through);
  start = rw c.deref-then-not-is_left.ensures c.requires.goes.keeps.searching.aimed.start_is;
  goal = rw c.deref-then-not-is_left.ensures c.requires.goes.keeps.searching.aimed.goal_is;
}

pub returns-in_default : goal.returns-in_default
returns-in_default c =
    let a = c.requires.goes.keeps.searching.aimed in
    let m = rw c.deref.ensures at c.make_fresh.ensures in
    let current = subst (AreCurrent (links_of c.args.links.now.table.value)) (sym (ap (λ v. v.items) (m.current ∙ c.label_through.ensures.current)))
    c.requires.goes.keeps.searching.under_way.walking.current_is in
    let still = same (goal.at.returns-in_default c).Start [] m.way in
    let anew = searching-anew (labelling_of c.make_fresh.new.levels) c.requires.goes.keeps.searching a.start_is a.goal_is a.apart m.labels current m.way in
    record {
      goes = record {
        keeps = record {
          searching = anew.0;
          ready = (c.args.links.now.table.value.nodes, m.ready);
          lasting = λ e. let no = m.all in absurd (cc);
          fit = subst (IsFit c.args.ball.now) (c.requires.settled ∙ sym still.0) c.requires.goes.keeps.fit;
        };
        around = λ some. c.requires.goes.around some ∙ sym (ap (λ (u : Way). u.goal) m.way);
      };
      same = still.1;
      labelled = λ e. absurd (cc);
      parted = λ e. absurd (cc);
      marks = λ _. c.label_through.ensures.passed.same (λ e. let is = c.in_default.is in cc);
    }

pub returns-then-not-is_left : goal.returns-then-not-is_left
returns-then-not-is_left c =
    let a = c.requires.goes.keeps.searching.aimed in
    let m = rw c.deref-then-not-is_left.ensures at c.make_fresh-then-not-is_left.ensures in
    let current = subst (AreCurrent (links_of c.args.links.now.table.value)) (sym (ap (λ v. v.items) (m.current ∙ c.label_through.ensures.current)))
    c.requires.goes.keeps.searching.under_way.walking.current_is in
    let still = same (goal.at.returns-then-not-is_left c).Start [] m.way in
    let anew = searching-anew (labelling_of c.make_fresh-then-not-is_left.new.levels) c.requires.goes.keeps.searching a.start_is a.goal_is a.apart m.labels current m.way in
    record {
      goes = record {
        keeps = record {
          searching = anew.0;
          ready = (c.args.links.now.table.value.nodes, m.ready);
          lasting = λ e. let no = m.all in absurd (cc);
          fit = subst (IsFit c.args.ball.now) (c.requires.settled ∙ sym still.0) c.requires.goes.keeps.fit;
        };
        around = λ some. c.requires.goes.around some ∙ sym (ap (λ (u : Way). u.goal) m.way);
      };
      same = still.1;
      labelled = λ e. absurd (cc);
      parted = λ _. c.label_through.ensures.passed.parted (c.in-Some.is ∙ ap Some c.if-not-is_left.true);
      marks = λ other. absurd (other refl);
    }

-- The labels are new, and all else is as it was.
pub begin_phase-requires : goal.begin_phase-requires
begin_phase-requires c = record {
  before = c.args.levels.now;
  goes = c.requires.goes;
  settled = c.requires.settled;
  current = c.label_through.ensures.current;
  ready = ready (goal.at.begin_phase-requires c).After-label_through;
  sound = (c.label_through.ensures.passed.labelled (c.in-Some.is ∙ ap Some c.if-not-is_left.false)).sound;
  whole = λ all. absurd (cc);
}

pub returns : goal.returns
returns c =
    let labelled = c.label_through.ensures.passed.labelled (c.in-Some.is ∙ ap Some c.if-not-is_left.false) in
    record {
      goes = c.begin_phase.ensures.goes;
      same = c.begin_phase.ensures.same;
      labelled = λ yes. subst (λ (f : Reach). FallOnce (links_of c.args.links.now.table.value) c.args.links.now.rooms.items f.labels
          c.args.trail.now.start c.args.trail.now.goal c.args.marks.now) (sym c.begin_phase.ensures.near) labelled;
      parted = λ e. absurd (cc);
      marks = λ _. c.label_through.ensures.passed.same (λ e. let found = c.if-not-is_left.false in let is = c.in-Some.is in cc);
    }
