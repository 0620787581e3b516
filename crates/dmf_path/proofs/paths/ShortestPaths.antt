-- No step of a shortest path returns to the node at which the path begins.
use Rattle.std.proofs.Common.{ℕ, ◌≢◌, ◌<◌, ◌≤◌, List, [], ◌∷◌, length, subst, arith}
use Rattle.dmf_path.specs.Step.{Step}
use Rattle.dmf_path.specs.Path.{IsPath, IsLeastPath}

-- The path is as short as any from `a` to `b`.
pub record IsShortestPath (steps : List Step) (a b : ℕ) (path : List Step) : Type 0 where
  pub leads : IsPath steps a b path
  pub shortest : (other : List Step) → IsPath steps a b other → length path ≤ length other

-- A least path is a shortest one.
pub IsShortestPath-least : (steps : List Step) (a b : ℕ) (path : List Step) → IsLeastPath steps a b path → IsShortestPath steps a b path
IsShortestPath-least steps a b path least = record { leads = least.leads; shortest = least.shortest }

-- No step of the path begins or ends at node `v`.
abbrev pub Avoids : ℕ → List Step → Type 0
Avoids v [] = Unit {0}
Avoids v (s ∷ path) = (s.from ≢ v) × (s.to ≢ v) × Avoids v path

-- A path from another node avoids `a`, if it is shorter than each path from `a` to its end: what follows a step that touches `a` is
-- such a path.
avoids-from_shorter : (steps : List Step) (a b c : ℕ) (path : List Step) → IsPath steps c b path
    → ((other : List Step) → IsPath steps a b other → length path < length other) → Avoids a path
avoids-from_shorter steps a b c [] leads shorter = tt
avoids-from_shorter steps a b c (s ∷ path) leads shorter = (
  (λ leaves. let less : length (s ∷ path) < length (s ∷ path) = shorter (s ∷ path) (leads.0, leaves, leads.2) in omega (arith, less)),
  (λ arrives. let less : length (s ∷ path) < length path = shorter path (subst (λ v. IsPath steps v b path) arrives leads.2) in omega (arith, less)),
  avoids-from_shorter steps a b s.to path leads.2 (λ other is. let less : length (s ∷ path) < length other = shorter other is in omega (arith, less)),
)

-- What follows the first step of a shortest path avoids the node at which that step begins.
pub avoids-start : (steps : List Step) (a b : ℕ) (s : Step) (path : List Step) → IsShortestPath steps a b (s ∷ path) → Avoids a path
avoids-start steps a b s path p =
    avoids-from_shorter steps a b s.to path p.leads.2 (λ other is. let le : length (s ∷ path) ≤ length other = p.shortest other is in omega (arith, le))

-- What follows the first step of a shortest path is a shortest path too.
pub IsShortestPath-tail : (steps : List Step) (a b : ℕ) (s : Step) (path : List Step) → IsShortestPath steps a b (s ∷ path) → IsShortestPath steps s.to b path
IsShortestPath-tail steps a b s path p = record {
  leads = p.leads.2;
  shortest = λ other is. let le : length (s ∷ path) ≤ length (s ∷ other) = p.shortest (s ∷ other) (p.leads.0, p.leads.1, is) in omega (arith, le);
}
