-- What the reader of a problem text keeps of the lines that it took.
-- Private: only contracts inside the crate and proofs use this.
use Rattle.std.specs.Prelude.{◌≡◌, ◌⊎◌, [], ◌++◌, Some, None, Result, Ok, Err, MatchResult, codes}
use Rattle.std.specs.Option.{option_or, option_to_list}
use Rattle.dmf_state.specs.declared.fault.NetFault.{NetFault}
use Rattle.dmf_state.specs.declared.fault.NetFault.TheVariants as net
use Rattle.dmf_text.specs.declared.fault.ProblemFaultKind.{ProblemFaultKind}
use Rattle.dmf_text.specs.declared.fault.ProblemFaultKind.TheVariants.{NodeOutOfRange, TooManyArcs, SumTooLarge, NoMemory}
use Rattle.dmf_text.specs.declared.reading.Head.{Head}
use Rattle.dmf_text.specs.declared.reading.Body.{Body}
use Rattle.dmf_text.specs.declared.reading.Reading.{Reading}
use Rattle.dmf_text.specs.declared.reading.Reading.TheVariants.{Start, Terminals, Arcs}
use Rattle.dmf_text.specs.Judging.{Line}
use Rattle.dmf_text.specs.Problem.{Facts, counts_in, terminal_in, arc_in}

-- the fault of an arc line whose arc the network refuses
abbrev pub arc_kind : NetFault → ProblemFaultKind
arc_kind net.NoSuchNode = NodeOutOfRange
arc_kind net.TooManyArcs = TooManyArcs
arc_kind net.SumTooLarge = SumTooLarge
arc_kind net.NoMemory = NoMemory

-- the facts before any line is taken
abbrev pub no_facts : Facts
no_facts = record { counts = None; source = None; sink = None; arcs = [] }

-- the facts of the lines so far, until both terminals are named
abbrev pub facts_in_head : Head → Facts
facts_in_head head = record {
  counts = Some (record { nodes = head.nodes; arcs = head.arcs });
  source = head.source;
  sink = head.sink;
  arcs = [];
}

-- and after that
abbrev pub facts_in_body : Body → Facts
facts_in_body body = record {
  counts = Some (record { nodes = body.state.network.nodes; arcs = body.arcs });
  source = Some body.state.network.source;
  sink = Some body.state.network.sink;
  arcs = body.state.network.arcs;
}

abbrev pub facts_in : Reading → Facts
facts_in Start = no_facts
facts_in (Terminals head) = facts_in_head head
facts_in (Arcs body) = facts_in_body body

-- what lines say, and one more line
abbrev pub with_line : Facts → Line → Facts
with_line facts line = record {
  counts = option_or facts.counts (counts_in line);
  source = option_or facts.source (terminal_in (codes "s") line);
  sink = option_or facts.sink (terminal_in (codes "t") line);
  arcs = facts.arcs ++ option_to_list (arc_in line);
}

-- A reader with these facts took the line, whose judgement this is, and has the facts of `now` after it; or the call failed with the
-- line's fault.
abbrev pub Takes : {A : Type 0} → Facts → Line → Result (Unit {0}) ProblemFaultKind → Facts → Result A ProblemFaultKind → Type 0
Takes facts line judgement now outcome =
    MatchResult outcome (λ _. (judgement ≡ Ok tt) × (now ≡ with_line facts line)) (λ kind. judgement ≡ Err kind)

-- the same, where memory may be refused
abbrev pub TakesInMemory : {A : Type 0} → Facts → Line → Result (Unit {0}) ProblemFaultKind → Facts → Result A ProblemFaultKind → Type 0
TakesInMemory facts line judgement now outcome =
    MatchResult outcome (λ _. (judgement ≡ Ok tt) × (now ≡ with_line facts line))
    (λ kind. (kind ≡ NoMemory) ⊎ (judgement ≡ Err kind))
