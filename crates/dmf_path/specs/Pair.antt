-- The steps that pairs of opposite links give, and what a push along a path makes of the pairs.
-- Public: a public contract says no more than this.
use Rattle.std.specs.Prelude.{ℕ, ◌+◌, ◌-◌, ◌*◌, Bool, if◌then◌else◌, List, [], ◌∷◌, ◌++◌, nat_lt, Option, Some}
use Rattle.std.specs.Prelude.{None}
use Rattle.dmf_links.specs.declared.pair.Pair.{Pair}
use Rattle.dmf_path.specs.Step.{Step}
use Rattle.dmf_path.specs.Path.{has_rank}

-- the steps of pair number `j`: the one along it, and then the one against it, each if it has room
abbrev pub pair_steps : ℕ → Option Pair → List Step
pair_steps j None = []
pair_steps j (Some p) =
    (if nat_lt 0 p.along then record { from = p.tail; to = p.head; rank = 2 * j; room = p.along } ∷ [] else [])
    ++ (if nat_lt 0 p.against then record { from = p.head; to = p.tail; rank = 2 * j + 1; room = p.against } ∷ [] else [])

-- the steps of the pairs from number `j` on, in the order of their ranks
abbrev pub steps_from : ℕ → List (Option Pair) → List Step
steps_from j [] = []
steps_from j (p ∷ pairs) = pair_steps j p ++ steps_from (j + 1) pairs

-- the steps of the pairs
abbrev pub steps_of : List (Option Pair) → List Step
steps_of pairs = steps_from 1 pairs

-- pair number `j` after `amount` is pushed along a path: the room of each link on the path falls by it and, if pushes can be taken
-- back, the room of the opposite link rises by it
abbrev pub pushed_pair : Bool → ℕ → ℕ → List Step → Option Pair → Option Pair
pushed_pair takes_back j amount path None = None
pushed_pair takes_back j amount path (Some p) =
    let along = if has_rank path (2 * j) then amount else 0 in
    let against = if has_rank path (2 * j + 1) then amount else 0 in
    Some (record {
      tail = p.tail;
      head = p.head;
      along = p.along - along + (if takes_back then against else 0);
      against = p.against - against + (if takes_back then along else 0);
    })

-- the pairs from number `j` on, after `amount` is pushed along a path
abbrev pub pushed_from : Bool → ℕ → ℕ → List Step → List (Option Pair) → List (Option Pair)
pushed_from takes_back j amount path [] = []
pushed_from takes_back j amount path (p ∷ pairs) =
    pushed_pair takes_back j amount path p ∷ pushed_from takes_back (j + 1) amount path pairs

-- the pairs after `amount` is pushed along a path
abbrev pub pushed_pairs : Bool → ℕ → List Step → List (Option Pair) → List (Option Pair)
pushed_pairs takes_back amount path pairs = pushed_from takes_back 1 amount path pairs
