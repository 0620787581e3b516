-- Greatest values, and differences of them.
use Rattle.std.proofs.Common.{ℕ, ◌≡◌, List, sym, arith, pos}
use Rattle.std.proofs.lemmas.Int.{ints}
use Rattle.dmf_state.specs.Cut.{cut_capacity}
use Rattle.dmf_state.specs.Flow.{flow_value}
use Rattle.dmf_state.specs.Network.{Network, IsNetwork}
use Rattle.dmf_state.specs.NetworkState.{IsState}
use Rattle.dmf_solver.specs.Greatest.{IsGreatest}
use Rattle.dmf_solver.proofs.cuts.GreatestFlow.{some-greatest_flow, max_flow-min_cut}
use Rattle.dmf_vital.specs.GreatestValue.{IsGreatestValue}
use Rattle.dmf_vital.specs.Laws.{HasGreatestValue, HasOneGreatestValue, HasOneLoss}

-- The value of a greatest flow is the capacity of a cut, and so not negative.
pub value-of_greatest : (n : Network) (flows : List ℕ) → IsNetwork n → IsGreatest n flows → (value : ℕ) × (flow_value n flows ≡ pos value)
value-of_greatest n flows network greatest =
    let cut = max_flow-min_cut n flows network greatest in
    (cut_capacity n.arcs cut.has, sym cut.capacity)

-- So a network with a greatest flow is a state.
pub state-of_greatest : (n : Network) (flows : List ℕ) → IsNetwork n → IsGreatest n flows → IsState (record { network = n; flows = flows })
state-of_greatest n flows network greatest =
    let value = value-of_greatest n flows network greatest in
    record { network = network; flow = greatest.flow; value_from_zero = omega (arith, ints, value.1) }

-- The value of a greatest flow is the greatest value.
pub value-is_greatest : (n : Network) (flows : List ℕ) (value : ℕ) → IsGreatest n flows → IsGreatestValue n value → flow_value n flows ≡ pos value
value-is_greatest n flows value greatest is =
    omega (arith, ints, is.value_is, is.greatest.none_larger flows greatest.flow, greatest.none_larger is.flows is.greatest.flow)

-- A network has a greatest value,
pub some-value : HasGreatestValue
some-value n network =
    let some = some-greatest_flow n network in
    let value = value-of_greatest n some.0 network some.1 in
    (value.0, record { flows = some.0; greatest = some.1; value_is = value.1 })

-- and only one.
pub one-value : HasOneGreatestValue
one-value n value other is also = omega (arith, ints, value-is_greatest n is.flows other is.greatest also, is.value_is)

-- So two networks have one difference.
pub one-loss : HasOneLoss
one-loss n m loss other is also = omega (
  arith,
  one-value n is.before also.before is.greatest_before also.greatest_before,
  one-value m is.after also.after is.greatest_after also.greatest_after,
  is.difference,
  also.difference,
)
