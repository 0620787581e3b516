-- The labels, the current links and the slots fit together; or the search is fresh.
use Rattle.std.proofs.Common.{◌≡◌, ◌≤◌, true, List, get_or, ap, sym, refl, ◌∙◌, subst, arith}
use Rattle.std.proofs.lemmas.List.{with_items_is}
use Rattle.dmf_links.specs.LinkTable.{links_of}
use Rattle.dmf_path.specs.declared.trail.Slot.{Slot}
use Rattle.dmf_path.specs.Ball.{IsFit}
use Rattle.dmf_path.specs.Walk.{AreCurrent, AreSkipped}
use Rattle.dmf_path.specs.Held.{Way, way_of, with_slots}
use Rattle.dmf_path.specs.Residual.{residual_of, with_settled_rooms}
use Rattle.dmf_path.specs.Searching.{Labelling, sought, AreLasting}
use Rattle.dmf_path.proofs.searches.Beginning.{first-queued, skipped-first}
use Rattle.dmf_path.proofs.searches.SearchTurns.{aimed-with, plainly, searching-free, sought-free}
use Rattle.dmf_path.proofs.slots.Settling.{told-free}
use Rattle.dmf_path.proofs.phase.begin_phase.Goals as goal
use Rattle.dmf_path.proofs.phase.begin_phase.Goals.{Start, After-label-goal_label}

-- With other free slots the network and the ends are the same.
same : (c : Start) {new : Way} (slots : List Slot) → new ≡ with_slots (way_of c.args.trail.now) slots
    → (with_settled_rooms (residual_of c.args.links.now) new ≡ residual_of c.args.links.now)
    × (sought (residual_of c.args.links.now) new ≡ sought (residual_of c.args.links.now) (way_of c.args.trail.now))
same c slots way =
    let r = residual_of c.args.links.now in
    let w = way_of c.args.trail.now in
    (ap (with_settled_rooms r) way ∙ told-free r w slots, sought-free r w slots way ∙ (λ i. plainly (sym c.requires.settled i) w))

pub set_current-requires : goal.set_current-requires
set_current-requires c =
    let is = c.requires.ready in
    let same = ap (λ v. v.items) c.requires.current in
    record {
      nodes = rw (c.deref.ensures, c.queue.ensures.value) (λ i before. omega (arith, c.queue.ensures.queued.within i before, is.one_label_each));
      current = rw c.deref.ensures (subst (AreCurrent (links_of c.args.links.now.table.value)) (sym (c.deref_mut.ensures.value ∙ same))
          c.requires.goes.keeps.searching.under_way.walking.current_is);
    }

-- the labels of the start and of the goal are read
read : (c : After-label-goal_label) → (c.label-start_label.result ≡ get_or c.args.levels.now.near.labels c.args.trail.now.start 0)
    × (c.label-goal_label.result ≡ get_or c.args.levels.now.near.labels c.args.trail.now.goal 0)
read c = (c.label-start_label.ensures, c.label-goal_label.ensures)

-- The goal is not above the start.
low : (c : After-label-goal_label) → c.label-goal_label.result ≤ c.label-start_label.result
low c = omega (arith, read c, c.requires.sound.low)

pub overflow_sub-start_label : goal.overflow_sub-start_label
overflow_sub-start_label c = low (goal.at.overflow_sub-start_label c).After-label-goal_label

pub free-requires : goal.free-requires
free-requires c =
    let between = c.requires.sound in
    let read = (read (goal.at.free-requires c).After-label-goal_label).0 in
    record { capacity = omega (arith, read, between.start_label, c.requires.goes.keeps.searching.aimed.capacity_is) }

pub returns : goal.returns
returns c =
    let a = c.requires.goes.keeps.searching.aimed in
    let links = c.args.links.now in
    let l = links_of links.table.value in
    let w = way_of c.args.trail.now in
    let levels = c.args.levels.now in
    let is = c.requires.ready in
    let between = c.requires.sound in
    let slots = c.free.new.self.slots.items in
    let current = with_items_is levels.current c.set_current.new.current (c.set_current.auto.current ∙ c.deref_mut.ensures.len) in
    let first = first-queued l levels.near.labels levels.near.queue c.set_current.new.current is.one_label_each c.queue.ensures.queued
    (rw (c.deref.ensures, c.queue.ensures.value) at c.set_current.ensures.first) in
    let skipped : AreSkipped l levels.near.labels links.rooms.items c.set_current.new.current = skipped-first l levels.near.labels links.rooms.items c.set_current.new.current a.links between.sound.small first in
    let aimed = aimed-with (residual_of links) w a between.start_label between.sound in
    let v : Labelling = record { labels = levels.near.labels; current = c.set_current.new.current } in
    let searching = searching-free (residual_of links) v w slots aimed links.rooms_are c.requires.goes.keeps.searching.holding.small
    (rw c.deref.ensures at c.set_current.ensures.current)
    (λ v p ps node lies before walk. skipped v p node lies before walk.0)
    (omega (
      arith,
      c.free.ensures.count,
      read (goal.at.returns c).After-label-goal_label,
      low (goal.at.returns c).After-label-goal_label,
    )) in
    let still = same (goal.at.returns c).Start slots c.free.ensures.way in
    let lasting : levels.all ≡ true → AreLasting v c.clear.new.self (residual_of links) = λ all. record {
      whole = c.requires.whole all;
      skipped = λ known. rw c.clear.ensures.none
          (record { within = λ i x none. absurd (omega (arith, none)); each = λ v p node lies before can. absurd (skipped v p node lies before can) });
    } in
    record {
      goes = record {
        keeps = record {
          searching = rw (current, c.free.ensures.way) searching;
          ready = (links.table.value.nodes, is);
          lasting = λ all. rw current (subst (AreLasting v c.clear.new.self) (sym still.0) (lasting all));
          fit = subst (IsFit c.renew.new.self) (sym still.0) c.renew.ensures.fit;
        };
        around = λ some. c.renew.ensures.around some ∙ sym (ap (λ (u : Way). u.goal) c.free.ensures.way);
      };
      same = still.1;
      near = refl;
    }

pub renew-requires : goal.renew-requires
renew-requires c = record { fit = record { fit = subst (IsFit c.args.ball.now) c.requires.settled c.requires.goes.keeps.fit; around = c.requires.goes.around }; goal = c.requires.goes.keeps.searching.aimed.goal_is }
