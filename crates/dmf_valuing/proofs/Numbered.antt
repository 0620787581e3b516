-- From what is lost without each arc or node to losses with their numbers.
use Rattle.std.proofs.Common.{ℕ, ◌≡◌, ◌+◌, ◌-◌, ◌<◌, ◌≤◌, Bool, true, false, List, [], ◌∷◌, ◌++◌, if◌then◌else◌, ap, arith, filter, get_or, length, map, refl, subst, sym, ◌∙◌}
use Rattle.std.proofs.lemmas.Bool.{and_parts, eqb-false, not-true}
use Rattle.std.proofs.lemmas.List.{map-id}
use Rattle.std.proofs.lemmas.List.Elements.{All-filter, All-map, filter_passes}
use Rattle.std.proofs.lemmas.List.FromFn.{filter_of_map_range_with_len_more, get_or-range_with_len, length-range_with_len, map-range_with_len_more}
use Rattle.std.proofs.lemmas.Simd.{map-map}
use Rattle.std.specs.List.{All, range_with_len}
use Rattle.dmf_state.specs.Flow.{IsInnerNode}
use Rattle.dmf_state.specs.Network.{Network}
use Rattle.dmf_vital.specs.Loss.{IsLossAt, IsLossOfArc}
use Rattle.dmf_vital.specs.Worst.{IsArcLoss, IsNodeLoss}
use Rattle.dmf_vital.specs.declared.worst.NumberedLoss.{NumberedLoss}
use Rattle.dmf_valuing.specs.PartRows.{AreLossesOf, single}
use Rattle.dmf_valuing.specs.Rows.{inner_nodes, is_inner}

-- The number is one of so many, from 1.
abbrev IsNumber : ℕ → ℕ → Type 0
IsNumber count j = (1 ≤ j) × (j ≤ count)

all-numbers : (nodes : ℕ) → All (IsNumber nodes) (range_with_len 1 nodes)
all-numbers nodes k d below =
    let inside : k < nodes = omega (arith, below, length-range_with_len 1 nodes) in
    subst (IsNumber nodes) (sym (get_or-range_with_len 1 nodes k d inside)) (omega arith, omega (arith, inside))

-- Each of the inner nodes is one.
inner-at : (n : Network) (k d : ℕ) → k < length (inner_nodes n) → IsInnerNode n (get_or (inner_nodes n) k d)
inner-at n k d inside =
    let v = get_or (inner_nodes n) k d in
    let number = All-filter (is_inner n) (IsNumber n.nodes) (range_with_len 1 n.nodes) (all-numbers n.nodes) k d inside in
    let passes = and_parts _ _ (filter_passes (is_inner n) (range_with_len 1 n.nodes) k d inside) in
    record {
      node = record { from_one = number.0; to_last = number.1 };
      not_source = eqb-false v n.source (not-true _ passes.0);
      not_sink = eqb-false v n.sink (not-true _ passes.1);
    }

-- whether the number is that of an inner node
abbrev pub is_of_inner : Network → NumberedLoss → Bool
is_of_inner n one = is_inner n one.number

-- the loss at a number, counted from 1
abbrev pub numbered_loss : List ℕ → ℕ → NumberedLoss
numbered_loss losses j = single j (get_or losses (j - 1) 0)

-- those of the first numbers
abbrev pub numbered_losses : List ℕ → ℕ → List NumberedLoss
numbered_losses losses count = map (numbered_loss losses) (range_with_len 1 count)

module _ (losses : List ℕ) where
  -- One number more adds its loss,
  pub one-more : (k : ℕ) → numbered_losses losses (k + 1) ≡ numbered_losses losses k ++ single (k + 1) (get_or losses k 0) ∷ []
  one-more k =
      let back : k + 1 - 1 ≡ k = omega arith in
      map-range_with_len_more (numbered_loss losses) 1 k (k + 1) (omega arith)
      ∙ ap (λ i. numbered_losses losses k ++ single (k + 1) (get_or losses i 0) ∷ []) back

  -- or to those of inner nodes, if it is one.
  pub one-more_inner : (n : Network) (k : ℕ) → filter (is_of_inner n) (numbered_losses losses (k + 1))
      ≡ filter (is_of_inner n) (numbered_losses losses k) ++ (if is_inner n (k + 1) then single (k + 1) (get_or losses k 0) ∷ [] else [])
  one-more_inner n k =
      let back : k + 1 - 1 ≡ k = omega arith in
      filter_of_map_range_with_len_more (is_of_inner n) (numbered_loss losses) 1 k (k + 1) (omega arith)
      ∙ ap (λ i. filter (is_of_inner n) (numbered_losses losses k) ++ (if is_inner n (k + 1) then single (k + 1) (get_or losses i 0) ∷ [] else [])) back

  -- The losses at these numbers have these numbers.
  have-numbers : (numbers : List ℕ) → map (λ (one : NumberedLoss). one.number) (map (numbered_loss losses) numbers) ≡ numbers
  have-numbers numbers = map-map (λ (one : NumberedLoss). one.number) (numbered_loss losses) numbers ∙ map-id numbers

  chosen : (kept : Bool) (j : ℕ) (rest : List ℕ)
      → (if kept then numbered_loss losses j ∷ map (numbered_loss losses) rest else map (numbered_loss losses) rest)
      ≡ map (numbered_loss losses) (if kept then j ∷ rest else rest)
  chosen true j rest = refl
  chosen false j rest = refl

  -- Those that are left of all are those at the numbers that are left.
  left-are : (n : Network) (numbers : List ℕ)
      → filter (is_of_inner n) (map (numbered_loss losses) numbers) ≡ map (numbered_loss losses) (filter (is_inner n) numbers)
  left-are n [] = refl
  left-are n (j ∷ js) =
      ap (λ rest. if is_inner n j then numbered_loss losses j ∷ rest else rest) (left-are n js) ∙ chosen (is_inner n j) j (filter (is_inner n) js)

  -- the loss at a number
  at-number : (IsSuch : ℕ → ℕ → Type 0) → ((k : ℕ) → k < length losses → IsSuch (k + 1) (get_or losses k 0)) → (j : ℕ) → 1 ≤ j
      → j ≤ length losses → IsSuch j (get_or losses (j - 1) 0)
  at-number IsSuch each j from_one to_last =
      let back : j - 1 + 1 ≡ j = omega (arith, from_one) in
      subst (λ (i : ℕ). IsSuch i (get_or losses (j - 1) 0)) back (each (j - 1) (omega (arith, from_one, to_last)))

  pub of-arcs : (n : Network) → length losses ≡ length n.arcs → ((k : ℕ) → k < length losses → IsLossOfArc n (k + 1) (get_or losses k 0))
      → AreLossesOf (IsArcLoss n) (range_with_len 1 (length n.arcs)) (numbered_losses losses (length n.arcs))
  of-arcs n one_each each =
      let numbers = range_with_len 1 (length n.arcs) in
      record {
        numbers_are = have-numbers numbers;
        such = All-map (IsArcLoss n) (numbered_loss losses) numbers (λ k d below.
            let number = all-numbers (length n.arcs) k d below in
            (refl, at-number (IsLossOfArc n) each (get_or numbers k d) number.0 (omega (arith, number.1, one_each))));
      }

  pub of-nodes : (n : Network) → length losses ≡ n.nodes → ((k : ℕ) → k < length losses → IsLossAt n (k + 1) (get_or losses k 0))
      → AreLossesOf (IsNodeLoss n) (inner_nodes n) (filter (is_of_inner n) (numbered_losses losses n.nodes))
  of-nodes n one_each each =
      subst (AreLossesOf (IsNodeLoss n) (inner_nodes n)) (sym (left-are n (range_with_len 1 n.nodes))) (record {
        numbers_are = have-numbers (inner_nodes n);
        such = All-map (IsNodeLoss n) (numbered_loss losses) (inner_nodes n) (λ k d below.
            let v = get_or (inner_nodes n) k d in
            let inner = inner-at n k d below in
            (refl, (at-number (IsLossAt n) each v inner.node.from_one (omega (arith, inner.node.to_last, one_each))).inner inner));
      })
