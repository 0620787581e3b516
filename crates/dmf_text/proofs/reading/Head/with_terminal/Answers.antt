use Rattle.std.proofs.Common.{ap, sym, ◌∙◌}
use Rattle.dmf_text.proofs.ReadingLemmas.{node-now, node-before}
use Rattle.dmf_text.proofs.reading.Head.with_terminal.Goals as goal
use Rattle.dmf_text.proofs.reading.Head.with_terminal.Goals.{in-Source, in-Sink}

pub new-requires-clause-source : goal.new-requires-clause-source
new-requires-clause-source c = elim c.match-terminal.branch [
  | in-Source w ↦ node-now c.args.self.now.nodes c.in_ok-terminal.node c.in-Some-Some.source c.in_ok-terminal.ensures.range
      (sym (ap (λ own. own.1) w.own-is) ∙ c.in-Some-Some.is-0)
  | in-Sink w ↦ node-before c.args.self.now.nodes c.in-Some-Some.source c.args.self.now.source c.args.self.now.source_is_node
      (sym (ap (λ own. own.1) w.own-is) ∙ c.in-Some-Some.is-0)
]

pub new-requires-clause-sink : goal.new-requires-clause-sink
new-requires-clause-sink c = elim c.match-terminal.branch [
  | in-Source w ↦ node-before c.args.self.now.nodes c.in-Some-Some.sink c.args.self.now.sink c.args.self.now.sink_is_node
      (sym (ap (λ own. own.2) w.own-is) ∙ c.in-Some-Some.is-1)
  | in-Sink w ↦ node-now c.args.self.now.nodes c.in_ok-terminal.node c.in-Some-Some.sink c.in_ok-terminal.ensures.range
      (sym (ap (λ own. own.2) w.own-is) ∙ c.in-Some-Some.is-1)
]
