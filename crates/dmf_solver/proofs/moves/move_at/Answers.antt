use Rattle.std.proofs.Common.{◌+◌, ◌∙◌, List, ℕ, ap, arith, get_or, length, sym}
use Rattle.std.proofs.lemmas.Slice.Zip.{AllZip-long}
use Rattle.dmf_solver.proofs.pairs.ListedMoves.{stays-past}
use Rattle.dmf_solver.proofs.moves.move_at.Goals as goal

pub returns-then-k-before : goal.returns-then-k-before
returns-then-k-before g c =
    stays-past c.args.state.now.flows (g.F.Flows.flows c.args.after.now) c.requires c.args.k
    (omega (arith, c.if-k-before.true, ap length c.flows-before.ensures.value))

pub flow-to-requires : goal.flow-to-requires
flow-to-requires g c = omega (arith, c.requires, c.if-k-before.false, ap length c.flows-before.ensures.value)

pub returns-then-from-to : goal.returns-then-from-to
returns-then-from-to g c =
    sym (ap (λ (flows : List ℕ). get_or flows c.args.k 0) c.flows-before.ensures.value) ∙ c.if-from-to.true ∙ c.flow-to.ensures

pub overflow_cast-arc : goal.overflow_cast-arc
overflow_cast-arc g c =
    let state = c.flows-before.ensures.state in
    let long = AllZip-long _ _ _ state.flow.within in
    record { fits = omega (arith, long, state.network.at_most_arcs, c.if-k-before.false, ap length c.flows-before.ensures.value) }

pub overflow_add-arc : goal.overflow_add-arc
overflow_add-arc g c =
    let state = c.flows-before.ensures.state in
    let long = AllZip-long _ _ _ state.flow.within in
    record { fits = omega (arith, long, state.network.at_most_arcs, c.if-k-before.false, ap length c.flows-before.ensures.value) }

pub returns : goal.returns
returns g c = record {
  is = λ t. record { arc = c.args.k + 1; from = get_or (c.flows-before.ensures.value t) c.args.k 0; to = c.flow-to.ensures t };
  differs = λ same.
      c.if-from-to.false (ap (λ (flows : List ℕ). get_or flows c.args.k 0) c.flows-before.ensures.value ∙ same ∙ sym c.flow-to.ensures);
}
