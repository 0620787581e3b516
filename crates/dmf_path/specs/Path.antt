-- Paths of steps between nodes, and which of them comes first.
-- Public: a public contract says no more than this.
use Rattle.std.specs.Prelude.{ℕ, ◌≡◌, ◌<◌, ◌≤◌, ◌⊎◌, ◌==◌, Bool, List, [], ◌∷◌, length, map, min, Contains}
use Rattle.std.specs.List.{list_any}
use Rattle.dmf_path.specs.Step.{Step}

-- The steps of the list `path` lead from node `a` to node `b`: each is one of `steps`, the first begins at `a`, each next one begins
-- where the one before ends, and the last ends at `b`. The empty list leads from a node to itself.
abbrev pub IsPath : List Step → ℕ → ℕ → List Step → Type 0
IsPath steps a b [] = a ≡ b
IsPath steps a b (s ∷ path) = Contains steps s × (s.from ≡ a) × IsPath steps s.to b path

-- No path leads from `a` to `b`.
abbrev pub HasNoPath : List Step → ℕ → ℕ → Type 0
HasNoPath steps a b = (path : List Step) → ¬ IsPath steps a b path

-- Some path leads from `a` to `b`.
abbrev pub IsReachable : List Step → ℕ → ℕ → Type 0
IsReachable steps a b = (path : List Step) × IsPath steps a b path

-- The one list comes before the other in the lexicographic order. Only lists of the same length are compared.
abbrev pub ComesBefore : List ℕ → List ℕ → Type 0
ComesBefore xs [] = ⊥
ComesBefore [] (y ∷ ys) = ⊥
ComesBefore (x ∷ xs) (y ∷ ys) = (x < y) ⊎ ((x ≡ y) × ComesBefore xs ys)

-- the ranks of the steps of a path
abbrev pub ranks : List Step → List ℕ
ranks path = map (λ s. s.rank) path

-- The path is as short as any from `a` to `b`, and among the shortest its list of ranks is the first.
pub record IsLeastPath (steps : List Step) (a b : ℕ) (path : List Step) : Type 0 where
  pub leads : IsPath steps a b path
  pub shortest : (other : List Step) → IsPath steps a b other → length path ≤ length other
  pub first : (other : List Step) → IsPath steps a b other → length other ≡ length path → ¬ ComesBefore (ranks other) (ranks path)

-- whether the path has a step of this rank
abbrev pub has_rank : List Step → ℕ → Bool
has_rank path rank = list_any (λ s. s.rank == rank) path

-- the least of `bound` and the rooms on the path
abbrev pub bottleneck_up_to : ℕ → List Step → ℕ
bottleneck_up_to bound [] = bound
bottleneck_up_to bound (s ∷ path) = min s.room (bottleneck_up_to bound path)

-- the bottleneck on a path; it is 0 for the path without steps
abbrev pub bottleneck : List Step → ℕ
bottleneck [] = 0
bottleneck (s ∷ path) = bottleneck_up_to s.room path
