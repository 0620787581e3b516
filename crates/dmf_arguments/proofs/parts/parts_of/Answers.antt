use Rattle.std.proofs.Common.{refl}
use Rattle.dmf_arguments.proofs.parts.parts_of.Goals as goal

pub returns-then-second : goal.returns-then-second
returns-then-second c = rw c.if-second.true c.seconds_of.ensures

pub returns-then-pairs : goal.returns-then-pairs
returns-then-pairs c = rw (c.if-second.false, c.if-pairs.true) c.pairs_of.ensures

pub returns-in-Some : goal.returns-in-Some
returns-in-Some c = rw (c.if-second.false, c.if-pairs.false, c.if-nodes.true, c.in-Some.is) refl

pub returns-in-Some-2 : goal.returns-in-Some-2
returns-in-Some-2 c = rw (c.if-second.false, c.if-pairs.false, c.if-nodes.false, c.in-Some-2.is) refl

pub returns-in-None : goal.returns-in-None
returns-in-None c = rw (c.if-second.false, c.if-pairs.false, c.if-nodes-2.true, c.in-None.is) refl

pub returns-in-None-2 : goal.returns-in-None-2
returns-in-None-2 c = rw (c.if-second.false, c.if-pairs.false, c.if-nodes-2.false, c.in-None-2.is) refl
