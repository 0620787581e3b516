use Rattle.std.proofs.Common.{arith, ◌≡◌, replicate, rules}
use Rattle.std.proofs.lemmas.Slice.Zip.{AllZip-long}
use Rattle.dmf_state.specs.declared.arc.Arc.{Arc}
use Rattle.dmf_state.specs.Arc.{no_arc}
use Rattle.dmf_state.proofs.Summing.{sums-none, sums-more, sums-all, sums-le}
use Rattle.dmf_state.proofs.flow_sums.flow_sums.Goals as goal

pub loop-i-init : goal.loop-i-init
loop-i-init c =
    let leaving : c.in_ok-leaving.leaving.items ≡ replicate c.args.nodes 0 = search rules in
    let entering : c.in_ok-entering.entering.items ≡ replicate c.args.nodes 0 = search rules in
    record {
      one_flow_each = AllZip-long _ _ _ c.requires.within;
      leaving = rw leaving (sums-none _ _ _ _);
      entering = rw entering (sums-none _ _ _ _);
    }

pub overflow_add-index_mut : goal.overflow_add-index_mut
overflow_add-index_mut c =
    let arc = c.requires.arcs c.loop-i.i no_arc c.loop-i-test.true in
    let le = sums-le (λ (a : Arc). a.tail) _ _ _ _ _ _ c.requires.within c.loop-i-test.true arc.tail c.index_mut.ensures.value c.loop-i.invariant.leaving in
    omega (arith, le, c.requires.capacities)

pub overflow_add-index_mut-in-loop-i : goal.overflow_add-index_mut-in-loop-i
overflow_add-index_mut-in-loop-i c =
    let arc = c.requires.arcs c.loop-i.i no_arc c.loop-i-test.true in
    let le = sums-le (λ (a : Arc). a.head) _ _ _ _ _ _ c.requires.within c.loop-i-test.true arc.head c.index_mut-in-loop-i.ensures.value
    c.loop-i.invariant.entering in
    omega (arith, le, c.requires.capacities)

pub loop-i-preserved : goal.loop-i-preserved
loop-i-preserved c =
    let arc = c.requires.arcs c.loop-i.i no_arc c.loop-i-test.true in
    let same = c.loop-i.invariant.one_flow_each in
    record {
      one_flow_each = same;
      leaving = sums-more (λ (a : Arc). a.tail) _ _ _ _ _ _ same c.loop-i-test.true arc.tail c.index_mut.ensures.value c.loop-i.invariant.leaving;
      entering = sums-more (λ (a : Arc). a.head) _ _ _ _ _ _ same c.loop-i-test.true arc.head c.index_mut-in-loop-i.ensures.value c.loop-i.invariant.entering;
    }

pub returns-clause-leaving : goal.returns-clause-leaving
returns-clause-leaving c = sums-all _ _ _ _ _ _ c.loop-i.invariant.one_flow_each c.loop-i-test.false c.loop-i.invariant.leaving

pub returns-clause-entering : goal.returns-clause-entering
returns-clause-entering c = sums-all _ _ _ _ _ _ c.loop-i.invariant.one_flow_each c.loop-i-test.false c.loop-i.invariant.entering
