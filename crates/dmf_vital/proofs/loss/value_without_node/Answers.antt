use Rattle.std.proofs.Common.{◌≡◌, ◌-◌, subst, arith}
use Rattle.std.proofs.lemmas.Int.{ints}
use Rattle.dmf_vital.specs.GreatestValue.{IsGreatestValue}
use Rattle.dmf_vital.specs.Without.{without_node}
use Rattle.dmf_vital.proofs.Values.{value-is_greatest}
use Rattle.dmf_vital.proofs.loss.value_without_node.Goals as goal

pub returns : goal.returns
returns c =
    let s = c.args.state.now in
    let is = c.in_ok-loss.ensures.loss.1 in
    let value = value-is_greatest s.network s.flows is.before c.requires.greatest is.greatest_before in
    let left : is.after ≡ c.value.result - c.in_ok-loss.loss = omega (arith, ints, value, c.value.ensures.value, is.difference) in
    subst (IsGreatestValue (without_node s.network c.args.v)) left is.greatest_after
