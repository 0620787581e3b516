use Rattle.std.proofs.Common.{ℕ, ◌≡◌, ◌+◌, ◌-◌, ◌∙◌, ap, get_or, arith}
use Rattle.dmf_path.specs.Labels.{is_label}
use Rattle.dmf_path.proofs.mark.mark_labelled.Goals as goal

pub returns : goal.returns
returns c = λ long v node.
    let place : v - 1 + 1 ≡ v = omega (arith, node) in
    c.loop-k.invariant (v - 1) (omega (arith, node, c.loop-k-test.false)) ∙ ap (λ (i : ℕ). is_label (get_or c.args.labels.now i 0)) place
