-- A second arc beside another.
use Rattle.std.proofs.Common.{◌-◌, arith}
use Rattle.dmf_state.specs.Network.{arc_number}
use Rattle.dmf_vital.specs.Laws.{SecondHasGain, GainIsAtMostCapacity}
use Rattle.dmf_vital.specs.Without.{with_second}
use Rattle.dmf_vital.proofs.NewArc.{value-le_new, new-le_capacity}
use Rattle.dmf_vital.proofs.Values.{some-value}

-- It gains something,
pub some-gain : SecondHasGain
some-gain n j network more there =
    let after = some-value n network in
    let before = some-value (with_second n j) more in (
      before.0 - after.0,
      (
        there,
        record {
          before = before.0;
          after = after.0;
          greatest_before = before.1;
          greatest_after = after.1;
          difference = omega (arith, value-le_new n (arc_number n j) after.0 before.0 after.1 before.1);
        },
      ),
    )

-- and at most its capacity.
pub gain-at_most_capacity : GainIsAtMostCapacity
gain-at_most_capacity n j gain network more is = omega (
  arith,
  is.1.difference,
  new-le_capacity n (arc_number n j) is.1.after is.1.before network more is.1.greatest_after is.1.greatest_before,
)
