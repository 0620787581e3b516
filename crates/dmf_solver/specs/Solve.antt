-- Solving: the augmenting-path method (Ford and Fulkerson) along shortest paths (Edmonds and Karp). Ranks break the ties between
-- shortest paths, so there is one outcome.
-- Public: a public contract says no more than this.
use Rattle.std.specs.Prelude.{ℕ, ◌≡◌, List, [], ◌∷◌}
use Rattle.dmf_path.specs.Step.{Step}
use Rattle.dmf_state.specs.Network.{Network}
use Rattle.dmf_path.specs.Path.{IsLeastPath, HasNoPath}
use Rattle.dmf_solver.specs.Residual.{residual_steps, augmented}

-- Augmenting along these paths in turn, each the least path of residual steps from the source to the sink, makes `flows`
-- into `last`.
abbrev pub AugmentsInTurn : Network → List ℕ → List (List Step) → List ℕ → Type 0
AugmentsInTurn n flows [] last = flows ≡ last
AugmentsInTurn n flows (path ∷ paths) last =
    IsLeastPath (residual_steps n.arcs flows) n.source n.sink path × AugmentsInTurn n (augmented path flows) paths last

-- Augmenting makes `flows` into `last`, and no path is left.
pub record Solves (n : Network) (flows last : List ℕ) : Type 0 where
  pub paths : List (List Step)
  pub augments : AugmentsInTurn n flows paths last
  pub no_path : HasNoPath (residual_steps n.arcs last) n.source n.sink
