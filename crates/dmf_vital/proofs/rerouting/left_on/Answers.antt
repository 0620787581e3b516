use Rattle.std.proofs.Common.{◌≡◌, arith}
use Rattle.dmf_vital.specs.Exits.{exit_flow}
use Rattle.dmf_vital.proofs.rerouting.left_on.Goals as goal

-- Nothing can be moved: all that is left stays.
pub returns-then-moved-eq0-clause-left : goal.returns-then-moved-eq0-clause-left
returns-then-moved-eq0-clause-left c =
    let n = c.args.state.now.network in
    let moved = c.in_ok-moved.ensures.moved in
    let after = c.move_off.new.rerouting.flows.items in
    record {
      flows = after;
      greatest = c.move_off.ensures.ready.greatest;
      is = let left : exit_flow n c.args.exits after ≡ c.loop-left.left = omega (arith, moved.moves, c.if-moved-eq0.true, c.loop-left.invariant.left) in left;
      held = λ _. moved.held c.if-moved-eq0.true;
    }

-- Nothing is left.
pub returns-clause-left : goal.returns-clause-left
returns-clause-left c = record {
  flows = c.loop-left.rerouting.flows.items;
  greatest = c.loop-left.invariant.ready.greatest;
  is = omega (arith, c.loop-left.invariant.left, c.loop-left-test.false);
  held = λ some. absurd (omega (arith, some));
}

-- What was moved is taken off what was left.
pub more_off-requires-clause-left : goal.more_off-requires-clause-left
more_off-requires-clause-left c =
    let moved = c.in_ok-moved.ensures.moved in
    omega (arith, moved.moves, c.loop-left.invariant.left)
