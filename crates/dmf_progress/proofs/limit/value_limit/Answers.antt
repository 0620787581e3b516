use Rattle.std.proofs.Common.{◌≡◌, ◌<◌, ◌^◌, ◌==◌, not, refl, min}
use Rattle.dmf_state.specs.Arc.{capacity_sum}
use Rattle.dmf_progress.specs.Limit.{leaving, entering}
use Rattle.dmf_progress.proofs.Limits.{next-small, sum-next, sum-whole, leaving-limit, entering-limit, lesser-limit, lesser-is}
use Rattle.dmf_progress.proofs.limit.value_limit.Goals as goal

pub loop-arc-init : goal.loop-arc-init
loop-arc-init c = record { out = refl; into = refl }

pub overflow_add-out : goal.overflow_add-out
overflow_add-out c =
    let small : capacity_sum c.arcs-arcs.result.now < 2 ^ 64 = rw c.arcs-arcs.ensures.value c.arcs-arcs.ensures.state.network.capacities in
    record {
      fits = next-small (λ u. u == c.source-source.result) c.arcs-arcs.result.now c.loop-arc.arc-index c.loop-arc.out c.carried_out-out.result
          c.loop-arc-test.true c.carried_out-out.ensures c.loop-arc.invariant.out small;
    }

pub overflow_add-into : goal.overflow_add-into
overflow_add-into c =
    let small : capacity_sum c.arcs-arcs.result.now < 2 ^ 64 = rw c.arcs-arcs.ensures.value c.arcs-arcs.ensures.state.network.capacities in
    record {
      fits = next-small (λ u. not (u == c.sink-sink.result)) c.arcs-arcs.result.now c.loop-arc.arc-index c.loop-arc.into c.carried_out-into.result
          c.loop-arc-test.true c.carried_out-into.ensures c.loop-arc.invariant.into small;
    }

pub loop-arc-preserved : goal.loop-arc-preserved
loop-arc-preserved c = record {
  out = sum-next (λ u. u == c.source-source.result) c.arcs-arcs.result.now c.loop-arc.arc-index c.loop-arc.out c.carried_out-out.result c.loop-arc-test.true
      c.carried_out-out.ensures c.loop-arc.invariant.out;
  into = sum-next (λ u. not (u == c.sink-sink.result)) c.arcs-arcs.result.now c.loop-arc.arc-index c.loop-arc.into c.carried_out-into.result
      c.loop-arc-test.true c.carried_out-into.ensures c.loop-arc.invariant.into;
}

pub returns : goal.returns
returns c =
    let n = c.args.state.now.network in
    let network = c.arcs-arcs.ensures.state.network in
    let arcs = c.arcs-arcs.result.now in
    let out = sum-whole (λ u. u == c.source-source.result) arcs c.loop-arc.arc-index c.loop-arc.out c.loop-arc-test.false c.loop-arc.invariant.out in
    let into = sum-whole (λ u. not (u == c.sink-sink.result)) arcs c.loop-arc.arc-index c.loop-arc.into c.loop-arc-test.false c.loop-arc.invariant.into in
    let is : c.min.result ≡ min (leaving n.arcs n.source) (entering n.arcs n.sink) =
    lesser-is n arcs c.source-source.result c.sink-sink.result _ _ _ c.arcs-arcs.ensures.value c.source-source.ensures.value c.sink-sink.ensures.value out
    into c.min.ensures in
    record { value = is; limit = rw is (lesser-limit n _ _ (leaving-limit n network) (entering-limit n network)) }
