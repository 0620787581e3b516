-- Which pairs paths have used: the pairs at these indices, or all pairs if there is no list.
-- Public: a public contract says no more than this.
use Rattle.std.specs.Prelude.{ℕ, ◌≡◌, ◌<◌, List, length, Option, Some, None, IfSome, ⊤}
use Rattle.std.specs.List.{Contains}
use Rattle.dmf_links.specs.declared.pair.Pair.{Pair}
use Rattle.dmf_links.specs.Pair.{pair_number}

-- The pair at index `k` counts as touched.
abbrev pub IsTouched : Option (List ℕ) → ℕ → Type 0
IsTouched None k = ⊤
IsTouched (Some indices) k = Contains indices k

-- Each index of the list is below the count.
abbrev pub AreBelow : ℕ → Option (List ℕ) → Type 0
AreBelow count touched = IfSome touched (λ indices. (k : ℕ) → Contains indices k → k < count)

-- Each pair that is not touched is as it was.
abbrev pub KeepsUntouched : Option (List ℕ) → List (Option Pair) → List (Option Pair) → Type 0
KeepsUntouched touched old new = (k : ℕ) → ¬ IsTouched touched k → pair_number new k ≡ pair_number old k

-- The touched pairs stay touched, and each pair that is not touched afterwards is as it was. If the list had only indices of pairs, it
-- still has.
pub record Touches (old_touched new_touched : Option (List ℕ)) (old new : List (Option Pair)) : Type 0 where
  pub more : (k : ℕ) → IsTouched old_touched k → IsTouched new_touched k
  pub below : AreBelow (length old) old_touched → AreBelow (length old) new_touched
  pub kept : KeepsUntouched new_touched old new
