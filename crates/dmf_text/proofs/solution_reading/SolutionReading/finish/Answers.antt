use Rattle.std.proofs.Common.{◌≡◌, ◌∙◌, Ok, Err, inl, inr, pos, arith, sym, ap, ⊎_elim}
use Rattle.std.proofs.lemmas.Int.{ints}
use Rattle.std.proofs.lemmas.Result.{err_from_is_err_and}
use Rattle.dmf_state.specs.Flow.{flow_value}
use Rattle.dmf_state.specs.NetworkState.{with_flows}
use Rattle.dmf_text.specs.Solution.{put_on, Facts}
use Rattle.dmf_text.specs.SolutionReading.{Keeps}
use Rattle.dmf_text.proofs.SolutionLemmas.{ended-refused, ended-differs, ended-good}
use Rattle.dmf_text.proofs.solution_reading.SolutionReading.finish.Goals as goal
use Rattle.dmf_text.proofs.solution_reading.SolutionReading.finish.Goals.{In_ok-flows}

-- the flows are those that the arcs of the network get
put-is : (c : In_ok-flows) (facts : Facts) → Keeps c.args.state.now.network.arcs facts c.args.self
    → c.in_ok-flows.flows.items ≡ put_on facts.flows c.args.state.now.network.arcs
put-is c facts kept = rw c.arcs.ensures.value at (c.in_ok-flows.ensures.put facts.flows (rw c.arcs.ensures.value kept.pairs))

pub returns-in_err-solution : goal.returns-in_err-solution
returns-in_err-solution c = λ facts kept.
    let state = c.args.state.now in
    let put = put-is (goal.at.returns-in_err-solution c).In_ok-flows facts kept in
    let failed = err_from_is_err_and c.from_residual-in_err-solution.result c.from_residual-in_err-solution.ensures.1 in
    let why = c.in_err-solution.field-0.0 in
    let refused = rw put at c.in_err-solution.ensures.refused in
    let told = failed.1 ∙ ap (λ kind. Err kind) failed.2 in
    ⊎_elim (λ memory. inl (told ∙ ap (λ kind. Err kind) memory)) (λ end. inr (told ∙ end))
    (ended-refused state facts c.in-Some.value (sym kept.value ∙ c.in-Some.is) why refused)

pub returns-then-value : goal.returns-then-value
returns-then-value c = λ facts kept.
    let state = c.args.state.now in
    let put = put-is (goal.at.returns-then-value c).In_ok-flows facts kept in
    let is = c.in_ok-solution.ensures.ok in
    let value = c.value.ensures.value ∙ ap (λ s. flow_value s.network s.flows) is in
    let flow = rw put at c.in_ok-solution.ensures.state.flow in
    inr (ended-differs state facts c.in-Some.value (sym kept.value ∙ c.in-Some.is) flow
    (λ same. c.if-value.true (let equal : pos c.value.result ≡ pos c.in-Some.value = value ∙ ap (flow_value state.network) put ∙ same in
    omega (arith, ints, equal))))

pub returns : goal.returns
returns c = λ facts kept.
    let state = c.args.state.now in
    let put = put-is (goal.at.returns c).In_ok-flows facts kept in
    let is = c.in_ok-solution.ensures.ok in
    let value = c.value.ensures.value ∙ ap (λ s. flow_value s.network s.flows) is in
    let flow = rw put at c.in_ok-solution.ensures.state.flow in
    inr (ap (λ s. Ok s) (is ∙ ap (λ flows. with_flows state flows) put)
    ∙ ended-good state facts c.in-Some.value (sym kept.value ∙ c.in-Some.is) flow
    (ap (flow_value state.network) (sym put) ∙ sym value ∙ ap (λ n. pos n) c.if-value.false))
