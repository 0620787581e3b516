-- The flows below the index are read, and there are as many as the state has.
use Rattle.std.proofs.Common.{ℕ, ◌∷◌, [], ◌++◌, ◌∙◌, ◌<◌, sym, ap, arith, length, take, take_all, List}
use Rattle.std.proofs.lemmas.List.{take_more}
use Rattle.dmf_state.proofs.Moving.{flows-long}
use Rattle.dmf_solver.specs.Pairs.{reached_flows}
use Rattle.dmf_solver.proofs.reached_flows.into_flows.Goals as goal

pub flow-requires : goal.flow-requires
flow-requires c =
    let s = c.args.state.now in
    let reached : List ℕ = reached_flows s c.args.solved.search in
    let long = flows-long s reached c.flows-count.ensures.state c.requires.state in
    let below : c.loop-k.k < length reached = omega (arith, long, ap length c.flows-count.ensures.value, c.loop-k-test.true) in
    below

pub loop-k-preserved : goal.loop-k-preserved
loop-k-preserved c =
    let s = c.args.state.now in
    let k : ℕ = c.loop-k.k in
    let reached : List ℕ = reached_flows s c.args.solved.search in
    let long = flows-long s reached c.flows-count.ensures.state c.requires.state in
    c.in_ok-push.ensures.items
    ∙ ap (λ items. items ++ c.flow.result ∷ []) c.loop-k.invariant
    ∙ ap (λ x. take k reached ++ x ∷ []) c.flow.ensures
    ∙ sym (take_more reached k 0 (omega (arith, long, ap length c.flows-count.ensures.value, c.loop-k-test.true)))

pub returns : goal.returns
returns c =
    let s = c.args.state.now in
    let reached : List ℕ = reached_flows s c.args.solved.search in
    let long = flows-long s reached c.flows-count.ensures.state c.requires.state in
    c.loop-k.invariant ∙ take_all c.loop-k.k reached (omega (arith, long, ap length c.flows-count.ensures.value, c.loop-k-test.false))
