-- From losses and the gains of second arcs to their rows.
use Rattle.std.proofs.Common.{ℕ, ◌≡◌, ◌+◌, ◌-◌, ◌^◌, ◌<◌, ◌≤◌, List, [], ◌∷◌, ◌++◌, ap, arith, get_or, length, map, pos, subst, sym, ◌∙◌}
use Rattle.std.proofs.lemmas.Int.{ints}
use Rattle.std.proofs.lemmas.List.FromFn.{get_or-map-range_with_len, get_or-range_with_len, length-map-range_with_len, length-range_with_len, map-range_with_len_more}
use Rattle.std.proofs.lemmas.List.Sums.{get_or-le-sum_by, sum_by_push}
use Rattle.std.specs.List.{range_with_len}
use Rattle.dmf_state.specs.declared.arc.Arc.{Arc}
use Rattle.dmf_state.specs.Arc.{capacity_sum, no_arc, open_arc}
use Rattle.dmf_state.specs.Flow.{flow_value}
use Rattle.dmf_state.specs.Network.{Network, arc_number}
use Rattle.dmf_solver.specs.Greatest.{IsGreatest}
use Rattle.dmf_solver.proofs.solving.Augmenting.{value-le-capacities}
use Rattle.dmf_vital.specs.GreatestValue.{IsGreatestValue}
use Rattle.dmf_vital.specs.Loss.{IsGainOfSecond, IsLoss}
use Rattle.dmf_vital.specs.Without.{with_second, without_arc}
use Rattle.dmf_vital.specs.Worst.{IsArcLoss}
use Rattle.dmf_vital.specs.declared.worst.NumberedLoss.{NumberedLoss}
use Rattle.dmf_vital.proofs.Values.{value-is_greatest}
use Rattle.dmf_valuing.specs.PartRows.{AreLossesOf}
use Rattle.dmf_valuing.specs.Rows.{AreSecondRows, IsSecondRow, Row}
use Rattle.dmf_valuing.specs.VitalRun.{LacksRoom}
use Rattle.dmf_valuing.proofs.FromLosses.{left-is, long, number-at}

-- a loss that no list has
abbrev pub none : NumberedLoss
none = record { number = 0; second = 0; loss = 0 }

module _ (value : ℕ) (losses : List NumberedLoss) (gains : List ℕ) where
  -- the row at an index
  abbrev pub second_at : ℕ → Row
  second_at k = (get_or losses k none).number ∷ (value - (get_or losses k none).loss) ∷ (value + get_or gains k 0) ∷ []

  -- the first rows
  abbrev pub seconds : ℕ → List Row
  seconds count = map second_at (range_with_len 0 count)

  -- One row more.
  pub one-more : (k : ℕ) → seconds (k + 1) ≡ seconds k ++ second_at k ∷ []
  one-more k = map-range_with_len_more second_at 0 k k (omega arith)

-- A network with a greatest flow of this value.
module _ (n : Network) (flows : List ℕ) (value : ℕ) (greatest : IsGreatest n flows) (value_is : pos value ≡ flow_value n flows) where
  -- What there is where a second arc beside an arc has this gain.
  module _ (j gain : ℕ) (is : IsGainOfSecond n j gain) where
    whole : is.1.before ≡ value + gain
    whole =
        let same = value-is_greatest n flows is.1.after greatest is.1.greatest_after in
        omega (arith, ints, same, value_is, is.1.difference)

    more-is : IsGreatestValue (with_second n j) (value + gain)
    more-is = subst (IsGreatestValue (with_second n j)) whole is.1.greatest_before

  -- It is no more than twice the sum of the capacities, so it fits where four more arcs beside each do.
  pub no-room : (k gain : ℕ) → k < length n.arcs → IsGainOfSecond n (k + 1) gain → 2 ^ 64 ≤ value + gain → LacksRoom n
  no-room k gain inside is large takes =
      let m = with_second n (k + 1) in
      let at_most = is.1.greatest_before.value_is in
      let all = whole (k + 1) gain is in
      let arc : Arc = arc_number n (k + 1) in
      let within = value-le-capacities m is.1.greatest_before.flows is.1.greatest_before.greatest.flow in
      let sum : capacity_sum m.arcs ≡ capacity_sum n.arcs + arc.cap = sum_by_push (λ (a : Arc). a.cap) n.arcs (open_arc arc.tail arc.head arc.cap) in
      let one = get_or-le-sum_by (λ (a : Arc). a.cap) n.arcs (k + 1 - 1) no_arc (omega (arith, inside)) in
      omega (arith, ints, within, at_most, all, sum, one, large, takes.small)

  -- the rows of all arcs
  pub seconds-are : (losses : List NumberedLoss) (gains : List ℕ) → AreLossesOf (IsArcLoss n) (range_with_len 1 (length n.arcs)) losses
      → ((k : ℕ) → k < length n.arcs → IsGainOfSecond n (k + 1) (get_or gains k 0)) → AreSecondRows n (seconds value losses gains (length n.arcs))
  seconds-are losses gains are each = record {
    one_each = length-map-range_with_len (second_at value losses gains) 0 (length n.arcs);
    in_order = λ k inside.
        let one : NumberedLoss = get_or losses k none in
        let gain = get_or gains k 0 in
        let many = long (IsArcLoss n) (range_with_len 1 (length n.arcs)) losses are ∙ length-range_with_len 1 (length n.arcs) in
        let below : k < length losses = omega (arith, inside, many) in
        let number : one.number ≡ k + 1 =
        number-at (IsArcLoss n) (range_with_len 1 (length n.arcs)) losses are k none below ∙ get_or-range_with_len 1 (length n.arcs) k 0 inside ∙ omega arith in
        let loss = subst (λ (j : ℕ). IsLoss n (without_arc n j) one.loss) number (are.such k none below).1.1 in
        let row : second_at value losses gains k ≡ (k + 1) ∷ (value - one.loss) ∷ (value + gain) ∷ [] = ap (λ (j : ℕ). j ∷ (value - one.loss) ∷ (value + gain) ∷ []) number in
        subst (IsSecondRow n (k + 1)) (sym (get_or-map-range_with_len (second_at value losses gains) 0 (length n.arcs) k k [] inside (omega arith))) (
          value - one.loss,
          value + gain,
          left-is n flows value greatest value_is (without_arc n (k + 1)) one.loss loss,
          more-is (k + 1) gain (each k inside),
          row,
        );
  }
