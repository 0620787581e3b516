use Rattle.std.proofs.Common.{refl}
use Rattle.dmf_arguments.proofs.parts.seconds_of.Goals as goal

pub returns-then-nodes : goal.returns-then-nodes
returns-then-nodes c = rw c.if-nodes.true (refl, c.refused.ensures)

pub returns-then-pairs : goal.returns-then-pairs
returns-then-pairs c = rw (c.if-nodes.false, c.if-pairs.true) (refl, c.refused-then-pairs.ensures)

pub returns-in-Some : goal.returns-in-Some
returns-in-Some c = rw (c.if-nodes.false, c.if-pairs.false, c.in-Some.is) (refl, c.refused-in-Some.ensures)

pub returns-in-None : goal.returns-in-None
returns-in-None c = rw (c.if-nodes.false, c.if-pairs.false, c.in-None.is) refl
