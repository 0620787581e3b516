-- Listing the links of a path, by the numbers of their pairs.
-- Private: only contracts inside the crate and proofs use this.
use Rattle.std.specs.Prelude.{ℕ, ◌≡◌, ◌++◌, List, map, slice_index, Option, Some, None, Vec, option_map}
use Rattle.std.specs.declared.alloc.Global.{Global}
use Rattle.std.specs.declared.rc.Rc.{Rc}
use Rattle.dmf_path.specs.declared.trail.Slot.{Slot}

-- the items of a vector, if there is one
abbrev pub items_of : Option (Vec ℕ Global) → Option (List ℕ)
items_of indices = option_map (λ vector. vector.items) indices

-- the numbers of the links in slots
abbrev pub numbers_of : List ℕ → List Slot → List ℕ
numbers_of numbers slots = map (λ s. slice_index numbers s.place) slots

-- All pairs are touched; or the pairs that were, and the pairs of the links in slots.
pub data Lists (numbers : Option (Rc (Vec ℕ Global) Global)) (slots : List Slot) (old new : Option (List ℕ)) : Type 0 where
  all : new ≡ None → Lists numbers slots old new
  these : (known : Rc (Vec ℕ Global) Global) (indices : List ℕ) → numbers ≡ Some known → old ≡ Some indices
      → new ≡ Some (indices ++ numbers_of known.value.items slots) → Lists numbers slots old new
