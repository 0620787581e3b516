-- What C owns at a session's address.
-- Public: a public contract says no more than this.
use Rattle.std.specs.Prelude.{Option, None, Some}
use Rattle.std.specs.Ptr.{Ptr}
use Rattle.std.specs.Box.Ownership.{box_owns}
use Rattle.std.specs.contracts.impls.GlobalAllocator.TheImpl.{ghosts}
use Rattle.dmf_history.specs.Timeline.{Timeline}
use Rattle.dmf_c.specs.declared.handle.Handle.{Handle}
use Rattle.dmf_c.specs.contracts.handle.Handle.{the_row}
use base.Fml.{Fml, ftrue, fsep, fex, feq}

-- a handle on the heap, with the right to free it
abbrev pub owns_handle : Ptr → Handle → Fml
owns_handle p h = box_owns (ghosts.dealloc_token h.alloc) the_row p h

-- a handle of this timeline, if there is a session
abbrev pub owns_session : Ptr → Option Timeline → Fml
owns_session p None = ftrue
owns_session p (Some t) = fex Handle (λ h. fsep (feq Timeline h.timeline t) (owns_handle p h))
