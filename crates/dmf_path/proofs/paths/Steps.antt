-- The step that a link gives, and its rank.
use Rattle.std.proofs.Common.{ℕ, ◌≡◌, ◌+◌, ◌*◌, ◌==◌, if◌then◌else◌, List, [], ◌∷◌, map, min, get_or, refl, ap, slice_index}
use Rattle.dmf_path.specs.Step.{Step}
use Rattle.dmf_path.specs.Path.{bottleneck_up_to}
use Rattle.dmf_links.specs.Links.{Links, no_place, tail_of}
use Rattle.dmf_path.specs.Walk.{bottleneck_on}

-- the rank of the link at place `p`, where the places are those of the pairs from number `j` on
abbrev pub rank_from : Links → ℕ → List ℕ → ℕ → ℕ
rank_from l j [] p = 0
rank_from l j (q ∷ places) p =
    if q == no_place then rank_from l (j + 1) places p
    else if q == p then 2 * j
    else if slice_index l.partners q == p then 2 * j + 1
    else rank_from l (j + 1) places p

-- the rank of the link at place `p`
abbrev pub rank_of : Links → List ℕ → ℕ → ℕ
rank_of l places p = rank_from l 1 places p

-- the step that the link at place `p` gives
abbrev pub step_on : Links → List ℕ → List ℕ → ℕ → Step
step_on l places rooms p = record {
  from = tail_of l p;
  to = slice_index l.heads p;
  rank = rank_of l places p;
  room = slice_index rooms p;
}

-- the path of the steps that these links give
abbrev pub path_on : Links → List ℕ → List ℕ → List ℕ → List Step
path_on l places rooms ps = map (step_on l places rooms) ps

-- The bottleneck is the same on the links as on the path.
pub bottleneck_up_to-path_on : (l : Links) (places rooms trail : List ℕ) (limit : ℕ)
    → bottleneck_up_to limit (path_on l places rooms trail) ≡ bottleneck_on rooms limit trail
bottleneck_up_to-path_on l places rooms [] limit = refl
bottleneck_up_to-path_on l places rooms (p ∷ ps) limit = ap (min (get_or rooms p 0)) (bottleneck_up_to-path_on l places rooms ps limit)
