-- Walks of links along which labels fall (Dinic; Ahuja, Magnanti and Orlin, Network Flows, section 7.5): admissible links,
-- current arcs, and the trail that a walk has taken.
-- Private: only contracts inside the crate and proofs use this.
use Rattle.std.specs.Prelude.{ℕ, ◌≡◌, ◌+◌, ◌-◌, ◌<◌, ◌≤◌, Bool, if◌then◌else◌, List, [], ◌∷◌, length, min, slice_index, slice_set}
use Rattle.dmf_node.specs.Node.{IsNode}
use Rattle.dmf_links.specs.Links.{Links, LiesAt}

-- Link `p` of node `v` is admissible: it has room, and leads to a node whose label is lower by one.
pub record IsAdmissible (l : Links) (labels rooms : List ℕ) (v p : ℕ) : Type 0 where
  pub lies : LiesAt l v p
  pub room : 0 < slice_index rooms p
  pub falls : slice_index labels (slice_index l.heads p) + 1 ≡ slice_index labels v

-- Admissible links lead from node `v` to the goal, each next one from the head of the one before.
abbrev pub IsWalk : Links → List ℕ → List ℕ → ℕ → ℕ → List ℕ → Type 0
IsWalk l labels rooms goal v [] = v ≡ goal
IsWalk l labels rooms goal v (p ∷ ps) =
    IsAdmissible l labels rooms v p × IsWalk l labels rooms goal (slice_index l.heads p) ps

-- No link with room falls by more than one, if it leads to a node whose label is below `top` by more than one.
abbrev pub AreValid : Links → List ℕ → List ℕ → ℕ → Type 0
AreValid l labels rooms top =
    (v p : ℕ) → IsNode l.nodes v → LiesAt l v p → 0 < slice_index rooms p
    → slice_index labels (slice_index l.heads p) + 1 < top
    → slice_index labels v ≤ slice_index labels (slice_index l.heads p) + 1

-- No walk to the goal begins with a link that lies before its node's current one.
abbrev pub ArePassed : Links → List ℕ → List ℕ → ℕ → List ℕ → Type 0
ArePassed l labels rooms goal current =
    (v p : ℕ) (ps : List ℕ) → IsNode l.nodes v → LiesAt l v p → p < slice_index current v
    → ¬ IsWalk l labels rooms goal v (p ∷ ps)

-- No link that lies before its node's current one is admissible.
abbrev pub AreSkipped : Links → List ℕ → List ℕ → List ℕ → Type 0
AreSkipped l labels rooms current =
    (v p : ℕ) → IsNode l.nodes v → LiesAt l v p → p < slice_index current v → ¬ IsAdmissible l labels rooms v p

-- The current link of each node is one of its links, or the place after them.
pub record AreCurrent (l : Links) (current : List ℕ) : Type 0 where
  pub one_each : length current ≡ l.nodes + 1
  pub from : (v : ℕ) → IsNode l.nodes v → slice_index l.first v ≤ slice_index current v
  pub to : (v : ℕ) → IsNode l.nodes v → slice_index current v ≤ slice_index l.first (v + 1)

-- The links of the trail lead on from node `v`: each is admissible, and the current one of its node.
abbrev pub IsTrail : Links → List ℕ → List ℕ → List ℕ → ℕ → List ℕ → Type 0
IsTrail l labels rooms current v [] = Unit {0}
IsTrail l labels rooms current v (p ∷ ps) =
    IsAdmissible l labels rooms v p × (slice_index current v ≡ p)
    × IsTrail l labels rooms current (slice_index l.heads p) ps

-- the node to which the links of a trail lead from node `v`
abbrev pub end_of : Links → ℕ → List ℕ → ℕ
end_of l v [] = v
end_of l v (p ∷ ps) = end_of l (slice_index l.heads p) ps

-- How far a walk from the start has come: the trail, the current links, and that no walk to the goal begins with a passed link.
pub record IsWalking (l : Links) (labels rooms : List ℕ) (start goal : ℕ) (current trail : List ℕ) : Type 0 where
  pub current_is : AreCurrent l current
  pub passed : ArePassed l labels rooms goal current
  pub trail_is : IsTrail l labels rooms current start trail

-- the least of a limit and the rooms of these links
abbrev pub bottleneck_on : List ℕ → ℕ → List ℕ → ℕ
bottleneck_on rooms limit [] = limit
bottleneck_on rooms limit (p ∷ ps) = min (slice_index rooms p) (bottleneck_on rooms limit ps)

-- the rooms after an amount is pushed along the link at place `p`
abbrev pub pushed_once : Links → Bool → ℕ → ℕ → List ℕ → List ℕ
pushed_once l takes_back amount p rooms =
    let taken = slice_set rooms p (slice_index rooms p - amount) in
    let partner = slice_index l.partners p in
    if takes_back then slice_set taken partner (slice_index taken partner + amount) else taken

-- the rooms after an amount is pushed along these links
abbrev pub pushed : Links → Bool → ℕ → List ℕ → List ℕ → List ℕ
pushed l takes_back amount [] rooms = rooms
pushed l takes_back amount (p ∷ ps) rooms = pushed l takes_back amount ps (pushed_once l takes_back amount p rooms)
