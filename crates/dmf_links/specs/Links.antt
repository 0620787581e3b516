-- Links by node: the links of a node lie side by side, in the order of their ranks. The place of a link identifies it.
-- Private: only contracts and proofs of `dmf_links` and `dmf_path` use this.
use Rattle.std.specs.Prelude.{ℕ, ◌≡◌, ◌≢◌, ◌+◌, ◌^◌, ◌<◌, ◌≤◌, ◌⊎◌, ◌==◌, nat_lt, if◌then◌else◌, List, length, map, slice_index, slice_set}
use Rattle.std.specs.Prelude.{Option, Some, None, Vec}
use Rattle.std.specs.declared.alloc.Global.{Global}
use Rattle.dmf_links.specs.declared.pair.Pair.{Pair}
use Rattle.dmf_node.specs.Node.{IsNode}

-- the number of nodes; where the links of each node begin, those of node 0 first; at index `v + 1` where those of node `v` end that
-- belong to pairs; for each link its head, and the place of the opposite link
pub record Links : Type 0 where
  pub nodes : ℕ
  pub first : List ℕ
  pub ends : List ℕ
  pub heads : List ℕ
  pub partners : List ℕ

-- where the links end that belong to pairs: at the ends that are listed, or where the links of the next node begin
abbrev pub ends_of : List ℕ → Option (Vec ℕ Global) → List ℕ
ends_of first None = first
ends_of first (Some ends) = ends.items

-- the tail of the link at place `p`, which is the head of its opposite
abbrev pub tail_of : Links → ℕ → ℕ
tail_of l p = slice_index l.heads (slice_index l.partners p)

-- The link at place `p` is one of node `v`.
pub record LiesAt (l : Links) (v p : ℕ) : Type 0 where
  pub from : slice_index l.first v ≤ p
  pub below : p < slice_index l.first (v + 1)

-- The link at place `p` is spare: it lies behind those of its node that belong to pairs.
abbrev pub IsSpare : Links → ℕ → Type 0
IsSpare l p = slice_index l.ends (tail_of l p + 1) ≤ p

-- The links of node `v` that belong to pairs are those at the places from `start` up to `end`.
pub record AreUsed (l : Links) (v start end : ℕ) : Type 0 where
  pub lie : (p : ℕ) → start ≤ p → p < end → LiesAt l v p × (p < slice_index l.ends (v + 1))
  pub each : (p : ℕ) → LiesAt l v p → p < slice_index l.ends (v + 1) → (start ≤ p) × (p < end)

-- The link at place `p` lies at its tail, which is not its head, unless the link is spare. Its opposite is another link, whose opposite
-- it is. The opposite of a spare link is spare.
pub record IsLink (l : Links) (p : ℕ) : Type 0 where
  pub head : IsNode l.nodes (slice_index l.heads p)
  pub tail : IsNode l.nodes (tail_of l p)
  pub lies : LiesAt l (tail_of l p) p
  pub partner : slice_index l.partners p < length l.heads
  pub partner_back : slice_index l.partners (slice_index l.partners p) ≡ p
  pub partner_other : slice_index l.partners p ≢ p
  pub partner_spare : IsSpare l p → IsSpare l (slice_index l.partners p)
  pub no_loop : ¬ IsSpare l p → tail_of l p ≢ slice_index l.heads p

-- The links of the nodes lie one after the other, and each is a link.
pub record AreLinks (l : Links) : Type 0 where
  pub first_long : length l.first ≡ l.nodes + 2
  pub ends_long : length l.ends ≡ l.nodes + 2
  pub ends_from : (v : ℕ) → v ≤ l.nodes → slice_index l.first v ≤ slice_index l.ends (v + 1)
  pub partners_long : length l.partners ≡ length l.heads
  pub at_most : length l.heads < 2 ^ 31
  pub at_most_nodes : l.nodes < 2 ^ 31
  pub ascending : (v : ℕ) → v ≤ l.nodes → slice_index l.first v ≤ slice_index l.first (v + 1)
  pub last : slice_index l.first (l.nodes + 1) ≡ length l.heads
  pub each : (p : ℕ) → p < length l.heads → IsLink l p
  pub at_tail : (v p : ℕ) → IsNode l.nodes v → LiesAt l v p → tail_of l p ≡ v

-- the number that stands for the place of a pair without one
abbrev pub no_place : ℕ
no_place = 4294967295

-- It is the place of the pair at index `k`.
pub record IsPlaceOf (places : List ℕ) (k place : ℕ) : Type 0 where
  pub is : place ≡ slice_index places k
  pub there : place ≢ no_place

-- The first `n` pairs have places.
pub record HaveFirstPlaces (n : ℕ) (places : List ℕ) : Type 0 where
  pub within : n ≤ length places
  pub there : (k : ℕ) → k < n → slice_index places k ≢ no_place

-- Each pair has a place.
abbrev pub HaveAllPlaces : List ℕ → Type 0
HaveAllPlaces places = (k : ℕ) → k < length places → slice_index places k ≢ no_place

-- The link at place `p` is one of the two of the pair at index `k`, whose link along lies at its place.
abbrev pub IsOf : Links → List ℕ → ℕ → ℕ → Type 0
IsOf l places p k =
    (k < length places) × (slice_index places k ≢ no_place)
    × ((slice_index places k ≡ p) ⊎ (slice_index l.partners (slice_index places k) ≡ p))

-- The places are those of the links along of the pairs. Each link belongs to one pair, or is spare, and the links of a node lie in the
-- order of their pairs.
pub record ArePlaces (l : Links) (places : List ℕ) : Type 0 where
  pub at_most : length places ≤ 2 ^ 27 + 1
  pub within : (k : ℕ) → k < length places → slice_index places k ≢ no_place → slice_index places k < length l.heads
  pub each : (p : ℕ) → p < length l.heads → ¬ IsSpare l p → (k : ℕ) × IsOf l places p k
  pub used : (p k : ℕ) → p < length l.heads → IsOf l places p k → ¬ IsSpare l p
  pub one : (p j k : ℕ) → p < length l.heads → IsOf l places p j → IsOf l places p k → j ≡ k
  pub ascending : (v p q j k : ℕ) → IsNode l.nodes v → LiesAt l v p → LiesAt l v q → p < q → IsOf l places p j → IsOf l places q k → j < k

-- the pair whose link along lies at this place, with the rooms of both links
abbrev pub pair_at : Links → List ℕ → ℕ → Option Pair
pair_at l rooms place =
    if place == no_place then None
    else Some (record {
      tail = tail_of l place;
      head = slice_index l.heads place;
      along = slice_index rooms place;
      against = slice_index rooms (slice_index l.partners place);
    })

-- the pairs at these places
abbrev pub pairs_at : Links → List ℕ → List ℕ → List (Option Pair)
pairs_at l places rooms = map (pair_at l rooms) places

-- The two rooms of each pair fit 64 bits together, and a spare link has no room.
abbrev pub AreRooms : Links → List ℕ → Type 0
AreRooms l rooms = (length rooms ≡ length l.heads)
    × ((p : ℕ) → p < length l.heads → slice_index rooms p + slice_index rooms (slice_index l.partners p) < 2 ^ 64)
    × ((p : ℕ) → p < length l.heads → IsSpare l p → slice_index rooms p ≡ 0)

-- 1 if there is room, else 0
abbrev pub open_flag : ℕ → ℕ
open_flag room = if nat_lt 0 room then 1 else 0

-- Each flag says whether the opposite link has room.
abbrev pub AreFlags : Links → List ℕ → List ℕ → Type 0
AreFlags l rooms flags = (length flags ≡ length l.heads)
    × ((p : ℕ) → p < length l.heads → slice_index flags p ≡ open_flag (slice_index rooms (slice_index l.partners p)))

-- These are the links of these pairs between so many nodes, with their places and rooms.
pub record AreBuilt (nodes : ℕ) (pairs : List (Option Pair)) (l : Links) (places rooms : List ℕ) : Type 0 where
  pub nodes_are : l.nodes ≡ nodes
  pub links : AreLinks l
  pub places_are : ArePlaces l places
  pub rooms_are : AreRooms l rooms
  pub pairs_are : pairs_at l places rooms ≡ pairs

-- the rooms with these of the link at place `p` and of its opposite
abbrev pub rooms_set : Links → ℕ → ℕ → ℕ → List ℕ → List ℕ
rooms_set l p along against rooms = slice_set (slice_set rooms p along) (slice_index l.partners p) against
