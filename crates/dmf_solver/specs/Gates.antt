-- Sides of a search that no step leaves but over gates.
-- Private: only contracts inside the crate and proofs use this.
use Rattle.std.specs.Prelude.{ℕ, ◌≡◌, ◌⊎◌, Bool, false, ◌&&◌, ◌||◌, not, nat_lt, List, ◌∷◌, length, Contains, Option, Some, None, IfSome, IsTrue}
use Rattle.dmf_links.specs.declared.pair.Pair.{Pair}
use Rattle.dmf_links.specs.Pair.{pair_number}
use Rattle.dmf_path.specs.ClosedSide.{is_marked}
use Rattle.dmf_path.specs.Search.{Searched}
use Rattle.dmf_solver.specs.declared.closed_side.ClosedSide.{ClosedSide}

-- whether a link of this room leads from a marked node to one that is not
abbrev pub leads_from : List Bool → ℕ → ℕ → ℕ → Bool
leads_from marks from to room = nat_lt 0 room && (is_marked marks from && not (is_marked marks to))

-- whether a link with room of the pair, if there is one, leads out of the marked nodes
abbrev pub leads_out : List Bool → Option Pair → Bool
leads_out marks None = false
leads_out marks (Some p) = leads_from marks p.tail p.head p.along || leads_from marks p.head p.tail p.against

-- The pair at this index is a gate, or none of its links with room leads out of the marked nodes.
abbrev pub IsGuarded : List (Option Pair) → List Bool → List ℕ → ℕ → Type 0
IsGuarded pairs marks gates k = Contains gates k ⊎ (leads_out marks (pair_number pairs k) ≡ false)

-- The start of the search is marked, its goal is not, and links with room lead out of the marked nodes over gates alone.
pub record AreGuarded (search : Searched) (marks : List Bool) (gates : List ℕ) : Type 0 where
  pub one_each : length marks ≡ search.nodes
  pub start_in : IsTrue (is_marked marks search.start)
  pub goal_out : ¬ IsTrue (is_marked marks search.goal)
  pub guarded : (k : ℕ) → IsGuarded search.pairs marks gates k

-- So it is with the nodes of the side.
abbrev pub IsClosedBut : Searched → ClosedSide → Type 0
IsClosedBut search side = AreGuarded search side.marks.items side.gates.items

-- The marks stay. Each of these gates still is one, unless none of its links with room leads out.
pub record KeepsGates (search : Searched) (marks : List Bool) (gates : List ℕ) (after : ClosedSide) : Type 0 where
  pub marks_are : after.marks.items ≡ marks
  pub kept : (k : ℕ) → Contains gates k → IsGuarded search.pairs marks after.gates.items k

-- If there is a side afterwards, there was one before, and it is that side with the pair at index `k` as a gate.
abbrev pub MayBeGated : Searched → Option ClosedSide → ℕ → Option ClosedSide → Type 0
MayBeGated search side k result = IfSome result (λ after. (before : ClosedSide) × (side ≡ Some before)
    × KeepsGates search before.marks.items (k ∷ before.gates.items) after)
