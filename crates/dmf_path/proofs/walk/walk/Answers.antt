-- Where the walk begins, a turn that goes on, one that steps back, and what the work is each time.
use Rattle.std.proofs.Common.{◌≡◌, ◌+◌, ◌<◌, false, true, inl, inr, set, get_or, refl, ap, sym, subst, ◌∙◌, arith}
use Rattle.std.proofs.lemmas.List.{get_or_default}
use Rattle.dmf_node.specs.Node.{IsNode}
use Rattle.dmf_links.specs.Links.{tail_of}
use Rattle.dmf_links.specs.LinkTable.{links_of}
use Rattle.dmf_path.specs.Ball.{AreNodes}
use Rattle.dmf_path.specs.Windows.{AreRanges}
use Rattle.dmf_path.specs.Held.{Way, way_of}
use Rattle.dmf_path.specs.Residual.{ResidualLinks, residual_of, with_settled_rooms}
use Rattle.dmf_path.specs.Walk.{IsWalk}
use Rattle.dmf_path.specs.Searching.{AreNoted, MaySkip}
use Rattle.dmf_path.proofs.walks.LastNode.{last-link_within, on-start, searching-on}
use Rattle.dmf_path.proofs.slots.TurnSlots.{last-leaves, made-aim}
use Rattle.dmf_path.proofs.walks.OneTurn.{Turn, last, moved, work_left, on-turned, noted-from, noted-same, noted-back, no-walk, back-within, back-tail, back-last, back-tail_within}
use Rattle.dmf_path.proofs.walks.OneTurn.{less-back, on-stepped, IsSpent, within-spent, on-spent, less-spent, noted-spent}
use Rattle.dmf_path.proofs.slots.FoundLink.{IsFound, slot-found, slot-first, found-within, less-found, is-made, on-found}
use Rattle.dmf_path.proofs.walk.walk.Goals as goal
use Rattle.dmf_path.proofs.walk.walk.Goals.{After-first_leading-look, After-pass, After-is_spent, After-end_node-node-else-place-end}

pub end_node-node-requires : goal.end_node-node-requires
end_node-node-requires c =
    let is = c.requires.searching in
    let way = is.under_way in
    record {
      last = rw c.deref.ensures (last-link_within c.args.labels.now (with_settled_rooms (residual_of c.args.links.now) (way_of c.args.trail.now)).rooms c.args.current.now
          (way_of c.args.trail.now) is.aimed.links is.aimed.start_is (omega (arith, way.order, way.within)) way.walking.trail_is);
    }

pub loop-node-init : goal.loop-node-init
loop-node-init c = record {
  on = on-start c.end_node-node.result c.requires.searching c.end_node-node.ensures.first (rw c.deref.ensures at c.end_node-node.ensures.last);
  skipped = λ was. was;
  start = refl;
  goal = refl;
  capacity = refl;
}

pub first_leading-look-requires-clause-seen : goal.first_leading-look-requires-clause-seen
first_leading-look-requires-clause-seen c =
    let nodes = ap (λ (x : ResidualLinks). x.links.nodes) c.loop-node.invariant.on.same in
    let fit = c.requires.fit in
    record {
      one_label_each = omega (arith, nodes, c.requires.searching.aimed.one_label_each);
      one_each = λ some. omega (arith, nodes, (fit.known some).near.one_each);
      nodes = λ some. subst (λ n. AreNodes n c.args.ball.now.around.queue) (sym nodes) (fit.known some).nodes;
      tidy = fit.tidy;
      ranges = λ known. subst (λ (x : ResidualLinks). AreRanges x.links c.args.ball.now.windows) (sym c.loop-node.invariant.on.same) (fit.windows known).ranges;
    }

-- the turn
abbrev turn : (c : After-first_leading-look) → Turn
turn c =
    let found = c.first_leading-look.ensures in
    let on = c.loop-node.invariant.on in
    record {
      r = residual_of c.loop-node.links;
      labels = c.args.labels.now;
      current = c.loop-node.current;
      aim = with_settled_rooms (residual_of c.args.links.now) (way_of c.args.trail.now);
      w = way_of c.loop-node.trail;
      node = c.loop-node.node;
      skip = c.first_leading-look.result.skipped;
      place = c.first_leading-look.result.place;
      end = c.index-end.result.now;
      ball = c.args.ball.now;
      links = c.loop-node.links.table.value.are;
      start_is = subst (IsNode c.loop-node.links.table.value.nodes) (sym c.loop-node.invariant.start)
          (subst (λ (x : ResidualLinks). IsNode x.links.nodes c.args.trail.now.start) (sym on.same) c.requires.searching.aimed.start_is);
      on = on;
      other = c.loop-node-test.true;
      end_read = rw c.deref-in-loop-node.ensures at c.index-end.ensures;
      near = λ some.
          let known = c.requires.fit.known some in
          let is : c.args.ball.now.goal ≡ c.loop-node.trail.goal = c.requires.around some ∙ sym c.loop-node.invariant.goal in
          rw is at known.near;
      windows = c.requires.fit.windows;
      from = omega (arith, found.from_first, found.order);
      skipped = found.from_first;
      order = found.order;
      to = found.to;
      first = found.first;
      only = found.only;
    }

-- what it finds
found : (c : After-first_leading-look) → c.first_leading-look.result.place < c.index-end.result.now → IsFound (turn c)
found c below =
    let e = c.first_leading-look.ensures in
    record { found = below; room = e.room below; falls = e.falls below; above = e.above below }

-- what is noted once it has looked on
passed : (c : After-pass) → MaySkip c.args.noted.now (with_settled_rooms (residual_of c.args.links.now) (way_of c.args.trail.now)) c.args.labels.now c.args.current.now
    → c.pass.new.self.lost ≡ false → AreNoted (links_of c.args.links.now.table.value) c.args.labels.now
    (with_settled_rooms (residual_of c.args.links.now) (way_of c.args.trail.now)).rooms (moved (turn (goal.at.After-pass c).After-first_leading-look)) c.pass.new.self.places.items
passed c was known =
    let t = turn (goal.at.After-pass c).After-first_leading-look in
    let e = c.pass.ensures known in
    let are = c.loop-node.invariant.skipped was e.0 in
    elim e.1 [
      | inl same ↦ rw same.1 (noted-same t same.0 are)
      | inr more ↦ noted-from t are more.1 more.0
    ]

-- The link found leads to a node above the goal whose links are all passed.
spent : (c : After-is_spent) → c.is_spent.result ≡ true → c.first_leading-look.result.place < c.index-end.result.now → IsSpent (turn (goal.at.After-is_spent c).After-first_leading-look)
spent c is below = record {
  found = below;
  above = omega (arith, c.is_spent.ensures.above is, ap (λ g. get_or c.args.labels.now g 0) c.loop-node.invariant.goal);
  passed = c.is_spent.ensures.passed is;
}

pub is_spent-requires-clause-place : goal.is_spent-requires-clause-place
is_spent-requires-clause-place c = within-spent (turn (goal.at.is_spent-requires-clause-place c).After-first_leading-look) c.if-place-end.true

pub overflow_add-current : goal.overflow_add-current
overflow_add-current c =
    let t = turn (goal.at.overflow_add-current c).After-first_leading-look in
    omega (arith, within-spent t c.if-place-end.true, t.links.at_most)

pub loop-node-smaller-then-is_spent : goal.loop-node-smaller-then-is_spent
loop-node-smaller-then-is_spent c =
    let t = turn (goal.at.loop-node-smaller-then-is_spent c).After-first_leading-look in
    let is = spent (goal.at.loop-node-smaller-then-is_spent c).After-is_spent c.if-is_spent.true c.if-place-end.true in
    subst (λ s. work_left t.aim.links t.labels s (set (moved t) c.loop-node.node (t.place + 1)) c.loop-node.node
    < work_left t.aim.links t.labels s t.current t.node) c.loop-node.invariant.start (less-spent is)

pub loop-node-preserved-then-is_spent : goal.loop-node-preserved-then-is_spent
loop-node-preserved-then-is_spent c =
    let is = spent (goal.at.loop-node-preserved-then-is_spent c).After-is_spent c.if-is_spent.true c.if-place-end.true in
    let i = c.loop-node.invariant in
    record {
      on = on-spent is;
      skipped = λ was known.
          let note = c.note.ensures known in
          noted-spent is (passed (goal.at.loop-node-preserved-then-is_spent c).After-pass was note.0) note.1;
      start = i.start;
      goal = i.goal;
      capacity = i.capacity;
    }

pub make_way-requires-clause-within : goal.make_way-requires-clause-within
make_way-requires-clause-within c = slot-found (found (goal.at.make_way-requires-clause-within c).After-first_leading-look c.if-place-end.true)

pub make_way-requires-clause-slot : goal.make_way-requires-clause-slot
make_way-requires-clause-slot c = slot-first (found (goal.at.make_way-requires-clause-slot c).After-first_leading-look c.if-place-end.true)

pub index-room-requires : goal.index-room-requires
index-room-requires c =
    let within = found-within (found (goal.at.index-room-requires c).After-first_leading-look c.if-place-end.true) c.make_way.ensures in
    omega (arith, within, c.make_way.new.links.rooms_are.0)

pub enter-requires : goal.enter-requires
enter-requires c =
    let f = found (goal.at.enter-requires c).After-first_leading-look c.if-place-end.true in
    record { free = (is-made f c.make_way.ensures c.make_way.new.links.rooms_are).next }

pub index-node-requires : goal.index-node-requires
index-node-requires c =
    let within = found-within (found (goal.at.index-node-requires c).After-first_leading-look c.if-place-end.true) c.make_way.ensures in
    rw c.deref-then-place-end.ensures (omega (arith, within, c.make_way.new.links.table.value.heads.ok.0))

pub loop-node-smaller-then-place-end : goal.loop-node-smaller-then-place-end
loop-node-smaller-then-place-end c =
    let t = turn (goal.at.loop-node-smaller-then-place-end c).After-first_leading-look in
    let f = found (goal.at.loop-node-smaller-then-place-end c).After-first_leading-look c.if-place-end.true in
    subst (λ s. work_left t.aim.links t.labels s (moved t) c.index-node.result.now < work_left t.aim.links t.labels s t.current t.node)
    c.loop-node.invariant.start (less-found f c.make_way.ensures (rw c.deref-then-place-end.ensures at c.index-node.ensures))

pub loop-node-preserved-then-place-end : goal.loop-node-preserved-then-place-end
loop-node-preserved-then-place-end c =
    let t = turn (goal.at.loop-node-preserved-then-place-end c).After-first_leading-look in
    let f = found (goal.at.loop-node-preserved-then-place-end c).After-first_leading-look c.if-place-end.true in
    let made = c.make_way.ensures in
    let rooms = c.make_way.new.links.rooms_are in
    let kept = made-aim made in
    let room : c.index-room.result.now ≡ get_or c.make_way.new.links.rooms.items t.place 0 =
    c.index-room.ensures ∙ get_or_default c.make_way.new.links.rooms.items t.place _ 0 (omega (arith, found-within f made, rooms.0)) in
    record {
      on = rw (c.enter.ensures, room) (on-found f made rooms (rw c.deref-then-place-end.ensures at c.index-node.ensures));
      skipped = λ was. passed (goal.at.loop-node-preserved-then-place-end c).After-pass was;
      start = ap (λ (w : Way). w.start) c.enter.ensures ∙ kept.start ∙ c.loop-node.invariant.start;
      goal = ap (λ (w : Way). w.goal) c.enter.ensures ∙ kept.goal ∙ c.loop-node.invariant.goal;
      capacity = ap (λ (w : Way). w.capacity) c.enter.ensures ∙ kept.capacity ∙ c.loop-node.invariant.capacity;
    }

pub returns-then-trail-eq0-clause-searching : goal.returns-then-trail-eq0-clause-searching
returns-then-trail-eq0-clause-searching c =
    let i = c.loop-node.invariant in
    searching-on c.requires.searching (on-turned (turn (goal.at.returns-then-trail-eq0-clause-searching c).After-first_leading-look)) i.start i.goal i.capacity

pub returns-then-trail-eq0-clause-same : goal.returns-then-trail-eq0-clause-same
returns-then-trail-eq0-clause-same c =
    let is = c.loop-node.invariant in
    λ i. record { residual = is.on.same i; start = is.start i; goal = is.goal i }

pub returns-then-trail-eq0-clause-none : goal.returns-then-trail-eq0-clause-none
returns-then-trail-eq0-clause-none c =
    let t = turn (goal.at.returns-then-trail-eq0-clause-none c).After-first_leading-look in
    let is = c.loop-node.invariant in
    λ is_false ps.
    let none = subst (λ (x : ResidualLinks). ¬ IsWalk x.links t.labels t.aim.rooms t.w.goal t.w.start ps) is.on.same
    (no-walk t c.if-place-end.false c.if-trail-eq0.true ps) in
    subst (λ s. ¬ IsWalk t.aim.links t.labels t.aim.rooms c.args.trail.now.goal s ps) is.start
    (subst (λ g. ¬ IsWalk t.aim.links t.labels t.aim.rooms g t.w.start ps) is.goal none)

pub returns-then-trail-eq0-clause-skipped : goal.returns-then-trail-eq0-clause-skipped
returns-then-trail-eq0-clause-skipped c = passed (goal.at.returns-then-trail-eq0-clause-skipped c).After-pass

pub step_back-back-requires-clause-slot : goal.step_back-back-requires-clause-slot
step_back-back-requires-clause-slot c =
    let t = turn (goal.at.step_back-back-requires-clause-slot c).After-first_leading-look in
    (last-leaves t.on t.links t.start_is (omega (arith, c.if-trail-eq0.false))).slot

pub end_node-node-requires-else-place-end : goal.end_node-node-requires-else-place-end
end_node-node-requires-else-place-end c =
    let t = turn (goal.at.end_node-node-requires-else-place-end c).After-first_leading-look in
    let back = c.step_back-back.ensures in
    record {
      last = rw (c.deref-else-place-end.ensures, ap (λ (x : ResidualLinks). x.links.heads) back.links) (back-last t (omega (arith, c.if-trail-eq0.false)) back.way);
    }

pub overflow_add-current-else-place-end : goal.overflow_add-current-else-place-end
overflow_add-current-else-place-end c =
    let t = turn (goal.at.overflow_add-current-else-place-end c).After-first_leading-look in
    let within = back-within t (omega (arith, c.if-trail-eq0.false)) in
    omega (arith, within, c.step_back-back.ensures.place, t.links.at_most)

-- a turn steps back to the tail of the last link
back_to : (c : After-end_node-node-else-place-end)
    → c.end_node-node-else-place-end.result
    ≡ tail_of (residual_of c.loop-node.links).links (last (turn (goal.at.After-end_node-node-else-place-end c).After-first_leading-look))
back_to c =
    let t = turn (goal.at.After-end_node-node-else-place-end c).After-first_leading-look in
    let led = rw (c.deref-else-place-end.ensures, ap (λ (x : ResidualLinks). x.links.heads) c.step_back-back.ensures.links)
    at c.end_node-node-else-place-end.ensures in
    back-tail t (omega (arith, c.if-trail-eq0.false)) c.end_node-node-else-place-end.result c.step_back-back.ensures.way led.first led.last

pub bounds-current-node-else-place-end : goal.bounds-current-node-else-place-end
bounds-current-node-else-place-end c =
    let t = turn (goal.at.bounds-current-node-else-place-end c).After-first_leading-look in
    back-tail_within t (omega (arith, c.if-trail-eq0.false)) (back_to (goal.at.bounds-current-node-else-place-end c).After-end_node-node-else-place-end)

pub loop-node-smaller : goal.loop-node-smaller
loop-node-smaller c =
    let t = turn (goal.at.loop-node-smaller c).After-first_leading-look in
    let tail = back_to (goal.at.loop-node-smaller c).After-end_node-node-else-place-end in
    let node = c.end_node-node-else-place-end.result in
    subst (λ s. work_left t.aim.links t.labels s (set (moved t) node (c.step_back-back.result + 1)) node < work_left t.aim.links t.labels s t.current t.node)
    c.loop-node.invariant.start (less-back t (omega (arith, c.if-trail-eq0.false)) tail c.step_back-back.ensures.place)

pub loop-node-preserved : goal.loop-node-preserved
loop-node-preserved c =
    let t = turn (goal.at.loop-node-preserved c).After-first_leading-look in
    let tail = back_to (goal.at.loop-node-preserved c).After-end_node-node-else-place-end in
    let back = c.step_back-back.ensures in
    let i = c.loop-node.invariant in
    record {
      on = on-stepped t (omega (arith, c.if-trail-eq0.false)) tail c.if-place-end.false back.links back.way c.step_back-back.new.links.rooms_are back.place;
      skipped = λ was known.
          let note = c.note-else-place-end.ensures known in
          noted-back t (omega (arith, c.if-trail-eq0.false)) tail (passed (goal.at.loop-node-preserved c).After-pass was note.0) back.place note.1;
      start = ap (λ (w : Way). w.start) back.way ∙ i.start;
      goal = ap (λ (w : Way). w.goal) back.way ∙ i.goal;
      capacity = ap (λ (w : Way). w.capacity) back.way ∙ i.capacity;
    }

pub returns-clause-searching : goal.returns-clause-searching
returns-clause-searching c = let i = c.loop-node.invariant in searching-on c.requires.searching i.on i.start i.goal i.capacity

pub returns-clause-same : goal.returns-clause-same
returns-clause-same c = let is = c.loop-node.invariant in λ i. record { residual = is.on.same i; start = is.start i; goal = is.goal i }

pub returns-clause-found : goal.returns-clause-found
returns-clause-found c = λ yes. c.loop-node.invariant.on.come.arrives ∙ c.loop-node-test.false

pub returns-clause-skipped : goal.returns-clause-skipped
returns-clause-skipped c = c.loop-node.invariant.skipped
