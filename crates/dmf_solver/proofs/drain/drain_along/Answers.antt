use Rattle.std.proofs.Common.{◌≡◌, List, ℕ, ◌-◌, length, ap, sym, ◌∙◌, arith}
use Rattle.std.specs.Option.{unwrap_or}
use Rattle.dmf_path.specs.Search.{Searched}
use Rattle.dmf_state.specs.Flow.{flow_on}
use Rattle.dmf_solver.specs.Pairs.{Along, IsCarryingSearch, flows_read}
use Rattle.dmf_state.proofs.ChangedArc.{has_arc-within}
use Rattle.dmf_solver.proofs.draining.DrainingSearch.{DrainsOnce, draining-begun, draining-has_path, draining-once, draining-done}
use Rattle.dmf_solver.proofs.draining.DrainingSearch.{carries-along, length-carries, length-draining}
use Rattle.dmf_solver.proofs.draining.DrainingWalk.{drains-none}
use Rattle.dmf_solver.proofs.pairs.Untouched.{keeps-same, touches-lowered}
use Rattle.dmf_solver.proofs.drain.drain_along.Goals.{After-saturating_sub-left}
use Rattle.dmf_solver.proofs.drain.drain_along.Goals as goal

pub along-requires : goal.along-requires
along-requires g c =
    let s = c.args.state.now in
    let carries = c.requires.carrying.1 in
    let at = has_arc-within s.network c.args.turn.arc c.requires.is_there in
    let long = length-carries s c.requires.carrying.0 _ c.args.search.now carries in
    omega (arith, at.1, long)

-- the flow on the arc above the limit
left-is : (g : _) (c : After-saturating_sub-left g) (unpaired : List ℕ) → IsCarryingSearch c.args.state.now unpaired c.args.search.now
    → c.saturating_sub-left.result ≡ flow_on (flows_read Along unpaired c.args.search.now.pairs) c.args.turn.arc - c.args.turn.limit
left-is g c unpaired carries =
    let along = carries-along c.args.state.now unpaired _ c.args.search.now carries c.args.turn.arc c.requires.is_there c.requires.no_loop in
    c.saturating_sub-left.ensures ∙ ap (λ x. x - c.args.turn.limit) (c.unwrap_or.ensures ∙ ap (λ o. unwrap_or o 0) c.along.ensures ∙ along)

pub loop-left-init : goal.loop-left-init
loop-left-init g c =
    let s = c.args.state.now in
    let at = (goal.at.loop-left-init g c).After-saturating_sub-left in
    record {
      draining = λ unpaired carries. rw (c.aim.ensures, c.arc-arc.ensures.value) (draining-begun s unpaired
          (flows_read Along unpaired c.args.search.now.pairs) c.args.turn _ c.args.search.now (left-is g at unpaired carries) carries);
      own = c.add.ensures.touched;
      touches = record {
        more = c.add.ensures.more;
        below = c.add.ensures.below (length c.args.search.now.pairs)
            (let at = has_arc-within s.network c.args.turn.arc c.requires.is_there in
            let long = length-carries s c.requires.carrying.0 _ c.args.search.now c.requires.carrying.1 in
            omega (arith, at.0, at.1, long));
        kept = keeps-same c.add.new.self c.args.search.now.pairs c.aim.new.self.pairs (ap (λ (x : Searched). x.pairs) c.aim.ensures);
      };
    }

pub returns-then-left-eq0-clause-drains : goal.returns-then-left-eq0-clause-drains
returns-then-left-eq0-clause-drains g c = λ unpaired carries.
    let s = c.args.state.now in
    let flows = flows_read Along unpaired c.args.search.now.pairs in
    let left = left-is g (goal.at.returns-then-left-eq0-clause-drains g c).After-saturating_sub-left unpaired carries in (
      carries,
      drains-none s.network c.args.turn.arc c.args.turn.limit flows (omega (arith, left, c.if-left-eq0.true)),
    )

-- what one more path does
once : (g : _) (c : goal.After-lowered g) (unpaired : List ℕ) → IsCarryingSearch c.args.state.now unpaired c.args.search.now
    → DrainsOnce c.args.state.now unpaired (flows_read Along unpaired c.args.search.now.pairs)
    c.args.turn c.loop-left.left c.in-Some.found.amount c.augment.new.self
once g c unpaired carries =
    draining-once c.args.state.now unpaired _ c.args.turn _ c.in-Some.found _ _ c.requires.is_there c.requires.no_loop
    c.loop-left-test.true
    (c.loop-left.invariant.draining unpaired carries) c.in-Some.ensures.found

pub lower-requires : goal.lower-requires
lower-requires g c =
    (draining-once c.args.state.now c.requires.carrying.0 _ c.args.turn _ c.in-Some.found _ _ c.requires.is_there
    c.requires.no_loop c.loop-left-test.true (c.loop-left.invariant.draining c.requires.carrying.0 c.requires.carrying.1) c.in-Some.ensures.found).room

pub overflow_sub-left : goal.overflow_sub-left
overflow_sub-left g c = (once g c c.requires.carrying.0 c.requires.carrying.1).within

pub loop-left-smaller : goal.loop-left-smaller
loop-left-smaller g c =
    let told = once g c c.requires.carrying.0 c.requires.carrying.1 in
    omega (arith, told.some, told.within)

pub loop-left-preserved : goal.loop-left-preserved
loop-left-preserved g c = record {
  draining = λ unpaired carries. rw c.lower.ensures (once g c unpaired carries).draining;
  own = c.in-Some.ensures.touched.more _ c.loop-left.invariant.own;
  touches =
      let s = c.args.state.now in
      let draining = c.loop-left.invariant.draining c.requires.carrying.0 c.requires.carrying.1 in
      let begun = length-carries s c.requires.carrying.0 _ c.args.search.now c.requires.carrying.1 in
      rw c.lower.ensures (touches-lowered c.args.touched.now c.loop-left.touched c.augment.new.touched c.args.search.now.pairs c.loop-left.search.pairs
      c.augment.new.self.pairs (c.args.turn.arc - 1) c.in-Some.found.amount
      (length-draining s c.requires.carrying.0 _ c.args.turn _ c.loop-left.search draining ∙ sym begun)
      c.loop-left.invariant.own c.loop-left.invariant.touches c.in-Some.ensures.touched);
}

-- the flow on the arc comes back
pub unreachable-requires : goal.unreachable-requires
unreachable-requires g c =
    draining-has_path c.args.state.now c.requires.carrying.0 _ c.args.turn _ _
    (c.loop-left.invariant.draining c.requires.carrying.0 c.requires.carrying.1) c.requires.is_there c.loop-left-test.true c.in-None.ensures.found.0

pub returns-clause-drains : goal.returns-clause-drains
returns-clause-drains g c = λ unpaired carries.
    rw c.settle.ensures (draining-done c.args.state.now unpaired _ c.args.turn _ _ (c.loop-left.invariant.draining unpaired carries)
    c.loop-left-test.false)
