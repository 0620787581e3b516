use Rattle.std.proofs.Common.{arith}
use Rattle.std.proofs.lemmas.Grind.{common_steps}
use Rattle.dmf_state.proofs.flow_sums.FlowSums.first_unbalanced.Goals as goal

pub returns-then-index : goal.returns-then-index
returns-then-index c = record {
  holds = record {
    inner = record { from_one = omega arith; to_last = omega arith; not_source = omega arith; not_sink = omega arith };
    differ = grind (arith, common_steps);
  };
  least = λ i less bad. bad.differ (c.loop-k.invariant i (record {
    from_one = bad.inner.from_one;
    to_last = omega arith;
    not_source = bad.inner.not_source;
    not_sink = bad.inner.not_sink;
  }));
}
