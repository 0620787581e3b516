-- All links leave, and the settled rooms stay.
use Rattle.std.proofs.Common.{refl}
use Rattle.dmf_path.specs.Held.{way_of}
use Rattle.dmf_path.specs.Residual.{residual_of}
use Rattle.dmf_path.proofs.searches.Going.{keeps-settled}
use Rattle.dmf_path.proofs.searches.SearchTurns.{free-settled, sought-settled, told-settled}
use Rattle.dmf_path.proofs.slots.Settling.{can-settle}
use Rattle.dmf_path.proofs.phase.Phase.settle.Goals as goal

pub settle-requires : goal.settle-requires
settle-requires c = record { can = can-settle c.self.invariant.searching }

pub invariant_of-self : goal.invariant_of-self
invariant_of-self c = keeps-settled c.self.invariant c.settle.ensures.links c.settle.ensures.way

pub returns : goal.returns
returns c =
    let of = c.self.inside in
    let w = way_of of.trail in
    let e = c.settle.ensures in
    rw (← c.self.view_is) (record {
      alike = record { same = sought-settled (residual_of of.links) w e.links e.way; levels = refl; ball = refl };
      settled = told-settled w (residual_of c.settle.new.links) e.way;
      free = free-settled w e.way;
    })
