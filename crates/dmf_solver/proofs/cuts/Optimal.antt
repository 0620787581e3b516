-- A greatest flow is optimal.
use Rattle.std.proofs.Common.{ℕ, ◌≡◌, Bool, pos, arith, ap, ◌∙◌}
use Rattle.dmf_state.specs.Network.{Network}
use Rattle.dmf_state.specs.Cut.{IsMinimumCut, cut_capacity}
use Rattle.dmf_solver.specs.Laws.{MaxFlowMinCut, GreatestIsOptimal}

-- All minimum cuts have one capacity.
one-capacity : (n : Network) (has other : ℕ → Bool) → IsMinimumCut n has → IsMinimumCut n other → cut_capacity n.arcs has ≡ cut_capacity n.arcs other
one-capacity n has other least also = omega (arith, least.least other also.cut, also.least has least.cut)

-- A state whose flow is greatest is optimal.
pub greatest-optimal : MaxFlowMinCut → GreatestIsOptimal
greatest-optimal law s network greatest =
    let some = law s.network s.flows network greatest in
    record {
      greatest = greatest;
      minimum_cut = some;
      smallest_side = λ side is. ap pos (is.capacity_is ∙ one-capacity s.network _ some.has is.least some.least) ∙ some.capacity;
    }
