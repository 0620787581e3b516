-- What a search is to its callers: pairs of links between nodes, and the nodes between which it looks for least paths.
-- Public: a public contract says no more than this.
use Rattle.std.specs.Prelude.{ℕ, ◌≡◌, ◌≢◌, ◌-◌, ◌<◌, ◌≤◌, ◌⊎◌, Bool, List, length, slice_index, Option, Some, slice_get, slice_set, option_map}
use Rattle.std.specs.List.{range_with_len}
use Rattle.dmf_links.specs.declared.pair.Pair.{Pair}
use Rattle.dmf_links.specs.Pair.{pair_number}
use Rattle.dmf_path.specs.declared.touched.Indices.{Indices}
use Rattle.dmf_path.specs.declared.touched.Indices.TheVariants.{Within, Listed}
use Rattle.dmf_path.specs.declared.search.AugmentingPath.{AugmentingPath}
use Rattle.dmf_path.specs.Step.{Step}
use Rattle.dmf_path.specs.Path.{IsLeastPath, bottleneck_up_to}
use Rattle.dmf_path.specs.Pair.{steps_of, pushed_pairs}

-- the number of nodes; the pairs with their present rooms; the start and the goal of paths; and whether a push along one link of a pair
-- can be pushed back along the other
pub record Searched : Type 0 where
  pub nodes : ℕ
  pub pairs : List (Option Pair)
  pub start : ℕ
  pub goal : ℕ
  pub takes_back : Bool

-- the search with other pairs
abbrev pub with_pairs : Searched → List (Option Pair) → Searched
with_pairs s pairs = record { nodes = s.nodes; pairs = pairs; start = s.start; goal = s.goal; takes_back = s.takes_back }

-- the search with this start and this goal
abbrev pub aimed : Searched → ℕ → ℕ → Searched
aimed s start goal = record { nodes = s.nodes; pairs = s.pairs; start = start; goal = goal; takes_back = s.takes_back }

-- The amount is the least of the limit and the rooms on the least path from the start to the goal. It is pushed along that path, whose
-- links are counted.
pub record Augments (limit : ℕ) (found : AugmentingPath) (old new : Searched) : Type 0 where
  pub path : List Step
  pub least : IsLeastPath (steps_of old.pairs) old.start old.goal path
  pub amount_is : found.amount ≡ bottleneck_up_to limit path
  pub links_are : found.links ≡ length path
  pub gives : new ≡ with_pairs old (pushed_pairs old.takes_back found.amount path old.pairs)

-- the rooms of the links of the pair at index `k`, if there is one
abbrev pub along_at : List (Option Pair) → ℕ → Option ℕ
along_at pairs k = option_map (λ p. p.along) (pair_number pairs k)

abbrev pub against_at : List (Option Pair) → ℕ → Option ℕ
against_at pairs k = option_map (λ p. p.against) (pair_number pairs k)

-- There is a pair at index `k`, and the room of its link along is at least this.
pub record HasAlong (pairs : List (Option Pair)) (k amount : ℕ) : Type 0 where
  pub pair : Pair
  pub is : slice_get pairs k ≡ Some (Some pair)
  pub enough : amount ≤ pair.along

-- a pair with this much less room along
abbrev pub lowered_pair : ℕ → Pair → Pair
lowered_pair amount p = record { tail = p.tail; head = p.head; along = p.along - amount; against = p.against }

-- a pair with these rooms
abbrev pub pair_with : ℕ → ℕ → Pair → Pair
pair_with along against p = record { tail = p.tail; head = p.head; along = along; against = against }

-- the pairs, with these rooms at index `k`, if there is a pair
abbrev pub with_rooms : List (Option Pair) → ℕ → ℕ → ℕ → List (Option Pair)
with_rooms pairs k along against = slice_set pairs k (option_map (pair_with along against) (pair_number pairs k))

-- the pairs, with this much less room along at index `k`
abbrev pub lowered_along : List (Option Pair) → ℕ → ℕ → List (Option Pair)
lowered_along pairs k amount = slice_set pairs k (option_map (lowered_pair amount) (pair_number pairs k))

-- The pair at index `k` is there, and neither of its ends is node `v`.
pub record IsElsewhere (pairs : List (Option Pair)) (v k : ℕ) : Type 0 where
  pub pair : Pair
  pub is : pair_number pairs k ≡ Some pair
  pub tail : pair.tail ≢ v
  pub head : pair.head ≢ v

-- the list of the indices that are left
abbrev pub indices_of : Indices → List ℕ
indices_of (Within range) = range_with_len range.start (range.end - range.start)
indices_of (Listed indices) = indices.now

-- The indices ascend and are below the count. An index that is not among them may be left out.
pub record Covers (count : ℕ) (MayBeLeftOut : ℕ → Type 0) (indices : List ℕ) : Type 0 where
  pub below : (i : ℕ) → i < length indices → slice_index indices i < count
  pub ascending : (i j : ℕ) → i < j → j < length indices → slice_index indices i < slice_index indices j
  pub others : (k : ℕ) → k < count → MayBeLeftOut k ⊎ ((i : ℕ) × (i < length indices) × (slice_index indices i ≡ k))
