-- For each link the index of its pair.
-- Private: only contracts and proofs of `dmf_links` and `dmf_path` use this.
use Rattle.std.specs.Prelude.{ℕ, ◌≡◌, ◌≢◌, ◌-◌, ◌<◌, List, length, slice_index, Option, IfSome, Vec}
use Rattle.std.specs.declared.alloc.Global.{Global}
use Rattle.std.specs.declared.rc.Rc.{Rc}
use Rattle.dmf_links.specs.Links.{Links, IsOf, IsSpare, no_place}

-- This list has the index of its pair for each link that is not spare.
abbrev pub AreNumbers : Links → List ℕ → List ℕ → Type 0
AreNumbers l places numbers = (length numbers ≡ length l.heads)
    × ((p : ℕ) → p < length l.heads → ¬ IsSpare l p → IsOf l places p (slice_index numbers p))

-- If there are numbers, they are those of the pairs.
abbrev pub MayBeNumbered : Links → List ℕ → Option (Rc (Vec ℕ Global) Global) → Type 0
MayBeNumbered l places numbers = IfSome numbers (λ known. AreNumbers l places known.value.items)

-- If there are numbers, each link that is neither spare nor of the last pair has that of its pair.
abbrev pub AreOthersNumbered : Links → List ℕ → Option (Rc (Vec ℕ Global) Global) → Type 0
AreOthersNumbered l places numbers = IfSome numbers (λ known. (length known.value.items ≡ length l.heads)
    × ((p : ℕ) → p < length l.heads → ¬ IsSpare l p → ¬ IsOf l places p (length places - 1) → IsOf l places p (slice_index known.value.items p)))

-- the number of a link that has none yet
abbrev pub no_number : ℕ
no_number = 4294967295

-- Each link that has a number has the index of its pair, and the links along the pairs before index `k` have numbers.
pub record AreNumberedAlong (l : Links) (places : List ℕ) (k : ℕ) (numbers : List ℕ) : Type 0 where
  pub one_each : length numbers ≡ length l.heads
  pub told : (p : ℕ) → p < length l.heads → slice_index numbers p ≢ no_number → IsOf l places p (slice_index numbers p)
  pub along : (j : ℕ) → j < k → j < length places → slice_index places j ≢ no_place → slice_index numbers (slice_index places j) ≡ j
