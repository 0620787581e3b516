-- From losses to their rows.
use Rattle.std.proofs.Common.{ℕ, ◌≡◌, ◌≢◌, ◌+◌, ◌-◌, ◌<◌, ◌≤◌, ◌==◌, List, [], ◌∷◌, ap, arith, false, get_or, length, map, pos, refl, subst, sym, ◌∙◌}
use Rattle.std.proofs.lemmas.Bool.{ne_eqb}
use Rattle.std.proofs.lemmas.Int.{ints}
use Rattle.std.proofs.lemmas.List.{get_or-map, length-map}
use Rattle.std.proofs.lemmas.List.Elements.{All-head, All-tail}
use Rattle.std.proofs.lemmas.List.FromFn.{get_or-range_with_len, length-range_with_len}
use Rattle.std.specs.List.{All, AllZip, range_with_len}
use Rattle.dmf_state.specs.Flow.{flow_value}
use Rattle.dmf_state.specs.Network.{Network}
use Rattle.dmf_solver.specs.Greatest.{IsGreatest}
use Rattle.dmf_vital.specs.GreatestValue.{IsGreatestValue}
use Rattle.dmf_vital.specs.Loss.{IsLoss}
use Rattle.dmf_vital.specs.Without.{without_arc, without_node, without_pair}
use Rattle.dmf_vital.specs.Worst.{IsArcLoss, IsNodeLoss, IsPairLoss}
use Rattle.dmf_vital.specs.declared.worst.NumberedLoss.{NumberedLoss}
use Rattle.dmf_vital.proofs.Values.{value-is_greatest}
use Rattle.dmf_valuing.specs.PartRows.{AreLossesOf, AreLossesOfParts, ArePartRows, loss_row}
use Rattle.dmf_valuing.specs.Rows.{IsArcRow, IsNodeRow, IsPairRow, Row, inner_nodes}
use Rattle.dmf_valuing.specs.declared.parts.Parts.{Parts}
use Rattle.dmf_valuing.specs.declared.parts.Parts.TheVariants.{Arcs, Nodes, Seconds, WorstArcs, WorstNodes, WorstPairs}

-- What is so of each element of a list relates it to what a function makes of it.
zip-map : {X : Type 0} (P : X → Type 0) (R : X → Row → Type 0) (f : X → Row) → ((x : X) → P x → R x (f x)) → (xs : List X) → All P xs → AllZip R xs (map f xs)
zip-map P R f make [] all = tt
zip-map P R f make (x ∷ xs) all = (make x (All-head P x xs all), zip-map P R f make xs (All-tail P x xs all))

-- The losses are as many as their numbers, and the one at an index has the number there.
module _ (IsSuch : NumberedLoss → Type 0) (numbers : List ℕ) (losses : List NumberedLoss) (are : AreLossesOf IsSuch numbers losses) where
  pub long : length losses ≡ length numbers
  long = sym (length-map losses (λ (one : NumberedLoss). one.number)) ∙ ap length are.numbers_are

  pub number-at : (k : ℕ) (none : NumberedLoss) → k < length losses → (get_or losses k none).number ≡ get_or numbers k 0
  number-at k none below = sym (get_or-map (λ (one : NumberedLoss). one.number) losses k none 0 below) ∙ ap (λ l. get_or l k 0) are.numbers_are

-- A network with a greatest flow of this value.
module _ (n : Network) (flows : List ℕ) (value : ℕ) (greatest : IsGreatest n flows) (value_is : pos value ≡ flow_value n flows) where
  -- What is left where another network has this loss.
  module _ (m : Network) (loss : ℕ) (is : IsLoss n m loss) where
    left : is.after + loss ≡ value
    left =
        let whole = value-is_greatest n flows is.before greatest is.greatest_before in
        omega (arith, ints, whole, value_is, is.difference)

    pub left-is : IsGreatestValue m (value - loss)
    left-is =
        let after : is.after ≡ value - loss = omega (arith, left) in
        subst (IsGreatestValue m) after is.greatest_after

    loss-fits : loss ≤ value
    loss-fits = omega (arith, left)

  -- the row of the loss of an arc, of a node and of a pair of arcs
  arc-row : (one : NumberedLoss) → IsArcLoss n one → IsArcRow n one.number (loss_row value one)
  arc-row one is = (value - one.loss, left-is (without_arc n one.number) one.loss is.1.1, rw is.0 refl)

  node-row : (one : NumberedLoss) → IsNodeLoss n one → IsNodeRow n one.number (loss_row value one)
  node-row one is = (value - one.loss, left-is (without_node n one.number) one.loss is.1.1, rw is.0 refl)

  pair-row : (one : NumberedLoss) → IsPairLoss n one → IsPairRow n one.number one.second (loss_row value one)
  pair-row one is =
      let some : (one.second == 0) ≡ false = ne_eqb one.second 0 (omega (arith, is.0)) in
      (value - one.loss, left-is (without_pair n one.number one.second) one.loss is.1.2, rw some refl)

  -- None is larger than the value.
  arc-fits : (one : NumberedLoss) → IsArcLoss n one → one.loss ≤ value
  arc-fits one is = loss-fits (without_arc n one.number) one.loss is.1.1

  node-fits : (one : NumberedLoss) → IsNodeLoss n one → one.loss ≤ value
  node-fits one is = loss-fits (without_node n one.number) one.loss is.1.1

  pair-fits : (one : NumberedLoss) → IsPairLoss n one → one.loss ≤ value
  pair-fits one is = loss-fits (without_pair n one.number one.second) one.loss is.1.2

  pub losses-fit : (parts : Parts) (losses : List NumberedLoss) → AreLossesOfParts parts n losses → All (λ (one : NumberedLoss). one.loss ≤ value) losses
  losses-fit Arcs losses are k d below = arc-fits (get_or losses k d) (are.such k d below)
  losses-fit Seconds losses are k d below = arc-fits (get_or losses k d) (are.such k d below)
  losses-fit Nodes losses are k d below = node-fits (get_or losses k d) (are.such k d below)
  losses-fit (WorstArcs most) losses are k d below = arc-fits (get_or losses k d) (are.losses k d below)
  losses-fit (WorstNodes most) losses are k d below = node-fits (get_or losses k d) (are.losses k d below)
  losses-fit (WorstPairs most) losses are k d below = pair-fits (get_or losses k d) (are.losses k d below)

  -- The row at an index is that of the number there.
  module _ (IsSuch : NumberedLoss → Type 0) (IsRowOf : ℕ → Row → Type 0) (make : (one : NumberedLoss) → IsSuch one → IsRowOf one.number (loss_row value one))
      (numbers : List ℕ) (losses : List NumberedLoss) (are : AreLossesOf IsSuch numbers losses) where
    all-long : length (map (loss_row value) losses) ≡ length numbers
    all-long = length-map losses (loss_row value) ∙ long IsSuch numbers losses are

    row-at : (k : ℕ) → k < length numbers → IsRowOf (get_or numbers k 0) (get_or (map (loss_row value) losses) k [])
    row-at k inside =
        let none : NumberedLoss = record { number = 0; second = 0; loss = 0 } in
        let below : k < length losses = omega (arith, inside, long IsSuch numbers losses are) in
        let one : NumberedLoss = get_or losses k none in
        let number : one.number ≡ get_or numbers k 0 = number-at IsSuch numbers losses are k none below in
        subst (λ (row : Row). IsRowOf (get_or numbers k 0) row) (sym (get_or-map (loss_row value) losses k none [] below))
        (subst (λ (j : ℕ). IsRowOf j (loss_row value one)) number (make one (are.such k none below)))

  -- The rows are those of such parts, which have no more than what is left.
  pub rows-are : (parts : Parts) (losses : List NumberedLoss) → parts ≢ Seconds → AreLossesOfParts parts n losses → ArePartRows parts n (map (loss_row value) losses)
  rows-are Arcs losses other are =
      let numbers = range_with_len 1 (length n.arcs) in
      record {
        one_each = all-long (IsArcLoss n) (IsArcRow n) arc-row numbers losses are ∙ length-range_with_len 1 (length n.arcs);
        in_order = λ k inside.
            let number : get_or numbers k 0 ≡ k + 1 = get_or-range_with_len 1 (length n.arcs) k 0 inside ∙ omega arith in
            subst (λ (j : ℕ). IsArcRow n j (get_or (map (loss_row value) losses) k [])) number
            (row-at (IsArcLoss n) (IsArcRow n) arc-row numbers losses are k (omega (arith, inside, length-range_with_len 1 (length n.arcs))));
      }
  rows-are Seconds losses other are = absurd (other refl)
  rows-are Nodes losses other are = record {
    one_each = all-long (IsNodeLoss n) (IsNodeRow n) node-row (inner_nodes n) losses are;
    in_order = row-at (IsNodeLoss n) (IsNodeRow n) node-row (inner_nodes n) losses are;
  }
  rows-are (WorstArcs most) losses other are = record {
    worst = losses;
    are_worst = are;
    one_each = zip-map (IsArcLoss n) (λ (w : NumberedLoss) (row : Row). IsArcRow n w.number row) (loss_row value) arc-row losses are.losses;
  }
  rows-are (WorstNodes most) losses other are = record {
    worst = losses;
    are_worst = are;
    one_each = zip-map (IsNodeLoss n) (λ (w : NumberedLoss) (row : Row). IsNodeRow n w.number row) (loss_row value) node-row losses are.losses;
  }
  rows-are (WorstPairs most) losses other are = record {
    worst = losses;
    are_worst = are;
    one_each = zip-map (IsPairLoss n) (λ (w : NumberedLoss) (row : Row). IsPairRow n w.number w.second row) (loss_row value) pair-row losses are.losses;
  }
