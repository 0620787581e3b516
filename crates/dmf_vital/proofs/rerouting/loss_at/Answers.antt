use Rattle.std.proofs.Common.{refl, sym, ◌∙◌}
use Rattle.dmf_vital.specs.Loss.{IsLossAt, IsLossOfNode}
use Rattle.dmf_vital.proofs.Lost.{if-ok}
use Rattle.dmf_vital.proofs.rerouting.loss_at.Goals as goal

pub returns-then-v-source-clause-loss : goal.returns-then-v-source-clause-loss
returns-then-v-source-clause-loss c = record {
  inner = λ inner. absurd (inner.not_source (c.if-v-source.true ∙ c.source.ensures.value));
  source = λ _. refl;
  sink = λ _. refl;
}

pub returns-then-v-sink-clause-loss : goal.returns-then-v-sink-clause-loss
returns-then-v-sink-clause-loss c = record {
  inner = λ inner. absurd (inner.not_sink (c.if-v-sink.true ∙ c.sink.ensures.value));
  source = λ _. refl;
  sink = λ _. refl;
}

pub loss_of_node-requires-clause-inner : goal.loss_of_node-requires-clause-inner
loss_of_node-requires-clause-inner c = record {
  node = c.requires.node;
  not_source = λ same. c.if-v-source.false (same ∙ sym c.source.ensures.value);
  not_sink = λ same. c.if-v-sink.false (same ∙ sym c.sink.ensures.value);
}

pub returns-clause-loss : goal.returns-clause-loss
returns-clause-loss c =
    if-ok c.loss_of_node.result (IsLossOfNode c.args.state.now.network c.args.v) (IsLossAt c.args.state.now.network c.args.v) c.loss_of_node.ensures.loss
    (λ loss is. record {
      inner = λ _. is;
      source = λ same. absurd (c.if-v-source.false (same ∙ sym c.source.ensures.value));
      sink = λ same. absurd (c.if-v-sink.false (same ∙ sym c.sink.ensures.value));
    })
