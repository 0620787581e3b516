use Rattle.std.proofs.Common.{refl}
use Rattle.dmf_vital.proofs.rerouting.lower.Goals as goal

-- Nothing can be moved: all that is left stays.
pub returns-then-moved-eq0-clause-stuck : goal.returns-then-moved-eq0-clause-stuck
returns-then-moved-eq0-clause-stuck c _ = record {
  flows = c.move_off.new.rerouting.flows.items;
  greatest = c.move_off.ensures.ready.greatest;
  is = refl;
  held = λ _. c.in_ok-moved.ensures.moved.held c.if-moved-eq0.true;
}
