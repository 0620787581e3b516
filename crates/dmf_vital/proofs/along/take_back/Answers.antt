use Rattle.std.proofs.Common.{ℕ, List, ◌≡◌, ◌≤◌, ◌-◌, length, get_or, ap, sym, ◌∙◌, arith}
use Rattle.dmf_vital.specs.declared.along.Carried.{Carried}
use Rattle.dmf_vital.specs.Sent.{nothing_carried, taken_back}
use Rattle.dmf_vital.proofs.Sending.{back-unfold, set-past}
use Rattle.dmf_vital.proofs.along.take_back.Goals as goal

pub loop-left-preserved-then-carried-flows : goal.loop-left-preserved-then-carried-flows
loop-left-preserved-then-carried-flows c = record {
  within = omega (arith, c.loop-left.invariant.within);
  back = sym (back-unfold c.args.before.now c.loop-left.left c.loop-left.flows c.loop-left-test.true) ∙ c.loop-left.invariant.back;
}

pub loop-left-preserved : goal.loop-left-preserved
loop-left-preserved c =
    let before : List Carried = c.args.before.now in
    let k : ℕ = c.loop-left.left - 1 in
    let one : Carried = get_or before k nothing_carried in
    let past : length c.loop-left.flows ≤ one.index = omega (arith, c.if-carried-flows.false) in
    record {
      within = omega (arith, c.loop-left.invariant.within);
      back = sym (ap (taken_back before k) (set-past c.loop-left.flows one.index one.flow past))
          ∙ sym (back-unfold before c.loop-left.left c.loop-left.flows c.loop-left-test.true) ∙ c.loop-left.invariant.back;
    }

pub returns : goal.returns
unfolding taken_back
returns c =
    let none : c.loop-left.left ≡ 0 = omega (arith, c.loop-left-test.false) in
    record { back = record { is = sym c.loop-left.invariant.back ∙ ap (λ m. taken_back c.args.before.now m c.loop-left.flows) none } }
