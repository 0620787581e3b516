-- A solve reaches the value of any greatest flow.
use Rattle.std.proofs.Common.{◌≡◌, ◌∙◌, ◌++◌, ◌≤ℤ◌, Option, ap, arith, nat_abs, refl, subst, sym}
use Rattle.std.proofs.lemmas.Int.{ints}
use Rattle.dmf_state.specs.Flow.{flow_value}
use Rattle.dmf_state.specs.Network.{Network}
use Rattle.dmf_state.specs.NetworkState.{NetworkState, IsState}
use Rattle.dmf_state.specs.Side.{CutSide}
use Rattle.dmf_solver.specs.Change.{Becomes, Solve}
use Rattle.dmf_solver.specs.Greatest.{IsGreatest}
use Rattle.dmf_solver.proofs.changes.SomeOutcome.{some-outcome}
use Rattle.dmf_solver.proofs.cuts.SomeSide.{solved-greatest}
use Rattle.dmf_solving.specs.Solved.{brief_text, side_text, solve_value_line}

-- What solving makes of the state `s` has the network and the value of the state `t`.
pub record SolvedAs (s t : NetworkState) : Type 0 where
  pub solved : NetworkState
  pub becomes : Becomes s Solve solved
  pub network : solved.network ≡ t.network
  pub value : flow_value solved.network solved.flows ≡ flow_value t.network t.flows

-- So it is where `t` has the network of `s` and its flow is greatest.
pub solved-as : (s t : NetworkState) → IsState s → t.network ≡ s.network → IsGreatest t.network t.flows → SolvedAs s t
solved-as s t state same greatest =
    let outcome = some-outcome s Solve state refl in
    let flows = outcome.after.flows in
    let network : outcome.after.network ≡ t.network = outcome.becomes.0 ∙ sym same in
    let also : IsGreatest t.network flows =
    subst (λ (n : Network). IsGreatest n flows) network (solved-greatest s outcome.after state outcome.becomes) in
    let most : flow_value t.network flows ≤ℤ flow_value t.network t.flows = greatest.none_larger flows also.flow in
    let least : flow_value t.network t.flows ≤ℤ flow_value t.network flows = also.none_larger t.flows greatest.flow in
    let one : flow_value t.network flows ≡ flow_value t.network t.flows = omega (arith, ints, most, least) in
    record { solved = outcome.after; becomes = outcome.becomes; network = network; value = ap (λ n. flow_value n flows) network ∙ one }

-- Of one value the same is told.
pub same-brief : (s t : NetworkState) (side : Option CutSide) → flow_value s.network s.flows ≡ flow_value t.network t.flows
    → brief_text s side ≡ brief_text t side
same-brief s t side value = ap (λ v. solve_value_line (nat_abs v) ++ side_text side) value
