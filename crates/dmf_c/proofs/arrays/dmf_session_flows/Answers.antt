use Rattle.std.proofs.Common.{rules, ◌≡◌, length, ap, sym, ◌∙◌, arith}
use Rattle.dmf_c.proofs.Fitting.{length-flows, right-length, wrong-length, all-numbers}
use Rattle.dmf_c.proofs.arrays.dmf_session_flows.Goals as goal

pub returns-then-flows-clause-answer : goal.returns-then-flows-clause-answer
returns-then-flows-clause-answer c =
    let s = c.present-present.result.now in
    let long : length c.flows.result.now ≡ length s.network.arcs = ap length c.flows.ensures.value ∙ length-flows s c.flows.ensures.state in
    record { state = s; present = search rules; so = wrong-length _ _ (λ same. let no : ⊥ = omega arith in no) }

pub returns-then-flows-clause-filled : goal.returns-then-flows-clause-filled
returns-then-flows-clause-filled c = record { state = c.present-present.result.now; present = search rules; so = λ ok. absurd (omega arith) }

pub returns-clause-answer : goal.returns-clause-answer
returns-clause-answer c =
    let s = c.present-present.result.now in
    let long : length c.flows.result.now ≡ length s.network.arcs = ap length c.flows.ensures.value ∙ length-flows s c.flows.ensures.state in
    record { state = s; present = search rules; so = right-length _ _ (omega arith) }

pub returns-clause-filled : goal.returns-clause-filled
returns-clause-filled c =
    let same : length c.flows.result.now ≡ length c.flows-2.result.now = ap length (c.flows.ensures.value ∙ sym c.flows-2.ensures.value) in
    let size : length c.args.flows.now ≡ length c.flows-2.result.now = omega arith in
    record {
      state = c.present-present.result.now;
      present = search rules;
      so = λ ok. all-numbers c.flows-2.result.now c.args.flows.now c.copy_flows.new.flows size c.copy_flows.ensures ∙ c.flows-2.ensures.value;
    }
