use Rattle.std.proofs.Common.{refl}
use Rattle.dmf_arguments.proofs.parts.pairs_of.Goals as goal

pub returns-then-nodes : goal.returns-then-nodes
returns-then-nodes c = rw c.if-nodes.true (refl, c.refused.ensures)

pub returns-in-Some : goal.returns-in-Some
returns-in-Some c = rw (c.if-nodes.false, c.in-Some.is) refl

pub returns-in-None : goal.returns-in-None
returns-in-None c = rw (c.if-nodes.false, c.in-None.is) (refl, c.refused-in-None.ensures)
