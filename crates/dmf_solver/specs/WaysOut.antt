-- The ways out of marked nodes, as a solve keeps them.
-- Private: only contracts inside the crate and proofs use this.
use Rattle.std.specs.Prelude.{ℕ, ◌≡◌, ◌<◌, ◌⊎◌, Bool, true, false, List, Option, Some}
use Rattle.dmf_links.specs.declared.pair.Pair.{Pair}
use Rattle.dmf_path.specs.ClosedSide.{is_marked, HasWaysOut}
use Rattle.dmf_path.specs.Pair.{steps_of}
use Rattle.dmf_path.specs.declared.through.WaysOut.{WaysOut}
use Rattle.dmf_path.specs.Search.{Searched}
use Rattle.dmf_solver.specs.Gates.{AreGuarded}
use Rattle.dmf_solver.specs.declared.closed_side.ways_out.KnownWays.{KnownWays}

-- A link with room of the pair leads from this marked node to this one, which is not marked.
pub record LeadsOut (marks : List Bool) (pair : Option Pair) (from to : ℕ) : Type 0 where
  pub p : Pair
  pub is : pair ≡ Some p
  pub link : ((0 < p.along) × (from ≡ p.tail) × (to ≡ p.head)) ⊎ ((0 < p.against) × (from ≡ p.head) × (to ≡ p.tail))
  pub inside : is_marked marks from ≡ true
  pub outside : is_marked marks to ≡ false

-- These are the ways out of the marked nodes.
abbrev pub HasWays : Searched → List Bool → WaysOut → Type 0
HasWays search marks ways = HasWaysOut search.nodes (steps_of search.pairs) search.start search.goal ways marks

-- The gates over which the ways out of the marked nodes lead are known.
abbrev pub AreKnown : Searched → List Bool → KnownWays → Type 0
AreKnown search marks known = AreGuarded search marks known.gates.items
