-- Where a handle lends its plan.
-- Private: only contracts inside the crate and proofs use this.
use Rattle.std.specs.Borrow.{Lends, MutBor, Fml}
use Rattle.dmf_history.specs.Timeline.{Timeline}
use Rattle.dmf_c.specs.declared.handle.Handle.{Handle}
use Rattle.dmf_c.specs.contracts.handle.Handle.{the_row}
use Rattle.dmf_c.specs.contracts.plan.Plan as plan

-- the handle with another timeline behind it
abbrev pub with_timeline : Handle → Timeline → Handle
with_timeline h t = record { at = h.at; alloc = h.alloc; timeline = t }

-- Once the borrow is over, the handle has the last timeline written through it.
abbrev pub LendsPlan : MutBor Handle → MutBor Timeline → Fml
LendsPlan h r = Lends the_row plan.the_row h r (with_timeline h.now)
