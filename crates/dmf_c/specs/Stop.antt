-- What C owns at a stop's address, and where a stop lends its flag. A flag has no value: another thread may change it at any time.
-- Public: a public contract says no more than this.
use Rattle.std.specs.Prelude.{Option, None, Some}
use Rattle.std.specs.Borrow.{Lends, MutBor}
use Rattle.std.specs.Ptr.{Ptr}
use Rattle.std.specs.Box.Ownership.{box_owns}
use Rattle.std.specs.contracts.impls.GlobalAllocator.TheImpl.{ghosts}
use Rattle.dmf_c.specs.declared.stop.Stop.{Stop}
use Rattle.dmf_c.specs.contracts.stop.Stop.{the_row}
use Rattle.dmf_c.specs.contracts.flag.Flag as flag
use base.Fml.{Fml, ftrue, fsep, fex, feq}

-- a stop on the heap, with the right to free it
abbrev pub owns_stop : Ptr → Stop → Fml
owns_stop p s = box_owns (ghosts.dealloc_token s.alloc) the_row p s

-- a stop, if there is one
abbrev pub owns_if_some : Ptr → Option (Unit {0}) → Fml
owns_if_some p None = ftrue
owns_if_some p (Some inside) = fex Stop (λ s. fsep (feq (Unit {0}) s.inside inside) (owns_stop p s))

-- the stop with another flag behind it
abbrev pub with_inside : Stop → Unit {0} → Stop
with_inside s inside = record { at = s.at; alloc = s.alloc; inside = inside }

-- Once the borrow is over, the stop has the last flag written through it.
abbrev pub LendsFlag : MutBor Stop → MutBor (Unit {0}) → Fml
LendsFlag s r = Lends the_row flag.the_row s r (with_inside s.now)
