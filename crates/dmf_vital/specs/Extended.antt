-- Networks to which arcs are added that bring the same to each cut, so that the losses of these arcs tell what a new arc gains.
-- Private: only contracts inside the crate and proofs use this.
use Rattle.std.specs.Prelude.{ℕ, ◌≡◌, ◌≢◌, ◌+◌, ◌<◌, Bool, true, false, List, length, take, slice_index, slice_index_or}
use Rattle.dmf_state.specs.declared.arc.Arc.{Arc}
use Rattle.dmf_state.specs.Arc.{no_arc, open_arc}
use Rattle.dmf_state.specs.Cut.{cut_capacity}
use Rattle.dmf_state.specs.Network.{Network, IsNetwork, arc_number, has_arc}
use Rattle.dmf_state.specs.NetworkState.{with_last_arc}
use Rattle.dmf_solver.specs.Greatest.{IsGreatest}
use Rattle.dmf_vital.specs.Loss.{IsGainOfArc}
use Rattle.dmf_vital.specs.Without.{with_new_arc}
use Rattle.dmf_vital.specs.declared.gain.Extended.{Extended}

-- ---- more arcs

-- the network with two more arcs of this capacity: from the source to node `v`, and from there to the sink
abbrev pub with_detour : Network → ℕ → ℕ → Network
with_detour n v cap = with_last_arc (with_last_arc n (open_arc n.source v cap)) (open_arc v n.sink cap)

-- the network with these two arcs for the tail of an arc, and two for its head, all of its capacity
abbrev pub with_detours : Network → Arc → Network
with_detours n arc = with_detour (with_detour n arc.tail arc.cap) arc.head arc.cap

-- Network `m` has the nodes of network `n`, and the first `count` of its arcs and others. Each set with the source and without the sink has this capacity
-- more than over those arcs.
pub record IsExtended (n m : Network) (count : ℕ) : Type 0 where
  pub nodes : m.nodes ≡ n.nodes
  pub source : m.source ≡ n.source
  pub sink : m.sink ≡ n.sink
  pub total : ℕ
  pub cuts : (has : ℕ → Bool) → has n.source ≡ true → has n.sink ≡ false
      → cut_capacity m.arcs has ≡ cut_capacity (take count n.arcs) has + total

-- Each arc of the first network is an arc of the second, under the same number.
abbrev pub KeepsArcs : Network → Network → Type 0
KeepsArcs before after = (i : ℕ) → has_arc before i ≡ true → (has_arc after i ≡ true) × (arc_number after i ≡ arc_number before i)

-- ---- where a new arc's four arcs are

-- If the number is not 0, the network has an arc of this number, and the third after it.
abbrev pub HasOwnArcs : Network → ℕ → Type 0
HasOwnArcs m first = first ≢ 0 → (has_arc m first ≡ true) × (has_arc m (first + 3) ≡ true)

-- Arc number `first` of network `m` leads from the source to the tail of a new arc, and the third after it from its head to the sink. Both
-- have its capacity.
pub record HasDetours (n m : Network) (first : ℕ) (arc : Arc) : Type 0 where
  pub first_there : has_arc m first ≡ true
  pub last_there : has_arc m (first + 3) ≡ true
  pub to_tail : arc_number m first ≡ open_arc n.source arc.tail arc.cap
  pub from_head : arc_number m (first + 3) ≡ open_arc arc.head n.sink arc.cap

-- Network `n` can take a new arc. Network `m` has the four arcs for it from this number on. If the number is 0, the new arc gains nothing.
pub record IsPlaced (n m : Network) (arc : Arc) (first : ℕ) : Type 0 where
  pub fits : IsNetwork (with_new_arc n arc)
  pub detours : first ≢ 0 → HasDetours n m first arc
  pub none : first ≡ 0 → IsGainOfArc n arc 0

-- So it is for each of the new arcs, up to an index.
abbrev pub ArePlaced : Network → Network → List Arc → List ℕ → ℕ → Type 0
ArePlaced n m arcs firsts count = (k : ℕ) → k < count → IsPlaced n m (slice_index_or arcs k no_arc) (slice_index firsts k)

-- The state's network is extended for these new arcs, and its flow is greatest.
pub record IsExtendedFor (n : Network) (arcs : List Arc) (e : Extended) : Type 0 where
  pub extended : IsExtended n e.state.network (length n.arcs)
  pub greatest : IsGreatest e.state.network e.state.flows
  pub one_each : length e.firsts.items ≡ length arcs
  pub placed : ArePlaced n e.state.network arcs e.firsts.items (length arcs)
