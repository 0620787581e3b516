use Rattle.std.proofs.Common.{◌≡◌, ◌<◌, ◌+◌, ◌^◌, ◌==◌, ℕ}
use Rattle.std.proofs.Common.{List, Err}
use Rattle.std.proofs.Common.{length, inr, nat_lt}
use Rattle.std.proofs.lemmas.Bool.{lt-ltb}
use Rattle.std.proofs.lemmas.Result.{err_from_is_err_and}
use Rattle.dmf_node.specs.Node.{is_node}
use Rattle.dmf_state.specs.Arc.{capacity_sum}
use Rattle.dmf_text.specs.declared.fault.ProblemFaultKind.TheVariants.{FieldCount, NodeOutOfRange, SumTooLarge}
use Rattle.dmf_text.specs.declared.numbers.NumbersFault.{NumbersFault}
use Rattle.dmf_text.specs.declared.reading.Body.{Body}
use Rattle.dmf_text.specs.Number.{number_of}
use Rattle.dmf_text.specs.Judging.{◌>>◌, expect, field}
use Rattle.dmf_text.specs.Numbers.{numbers_in, numbers_kind}
use Rattle.dmf_text.specs.Problem.{judged_arc, number_fault}
use Rattle.dmf_text.specs.Reading.{facts_in_body}
use Rattle.dmf_text.proofs.NumbersLemmas.{numbers-bad}
use Rattle.dmf_text.proofs.reading.Body.take_arc_line.Goals as goal

-- an arc line whose numbers have a fault
line-faulty : (body : Body) (behind : List (List ℕ)) (fault : NumbersFault) → length body.state.network.arcs < body.arcs → numbers_in behind ≡ Err fault
    → judged_arc (facts_in_body body) behind ≡ Err (numbers_kind FieldCount number_fault fault)
unfolding judged_arc
line-faulty body behind fault fewer is =
    rw (lt-ltb _ _ fewer)
    (numbers-bad FieldCount number_fault (length behind == 3) (number_of (field 0 behind)) (number_of (field 1 behind)) (number_of (field 2 behind))
    (λ tail head cap. expect (is_node body.state.network.nodes tail) NodeOutOfRange >> (expect (is_node body.state.network.nodes head) NodeOutOfRange
    >> expect (nat_lt (capacity_sum body.state.network.arcs + cap) (2 ^ 64)) SumTooLarge)) fault is)

pub returns-in_err-tail : goal.returns-in_err-tail
returns-in_err-tail c =
    let failed = err_from_is_err_and c.from_residual-in_err-tail.result c.from_residual-in_err-tail.ensures.1 in
    rw (failed.1, failed.2) (inr (line-faulty c.args.self.now c.args.behind c.in_err-tail.field-0.0 c.in_ok-expect_more.ensures c.in_err-tail.ensures.fault))
