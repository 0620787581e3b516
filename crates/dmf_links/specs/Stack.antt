-- A pair is put on behind the others, or the last pair is taken off.
-- Private: only contracts and proofs of `dmf_links` and `dmf_path` use this.
use Rattle.std.specs.Prelude.{ℕ, ◌≡◌, ◌≢◌, ◌+◌, ◌-◌, ◌<◌, ◌⊎◌, ◌++◌, ◌∷◌, [], List, Option, length, take, slice_index, slice_set}
use Rattle.dmf_links.specs.declared.pair.Pair.{Pair}
use Rattle.dmf_links.specs.Links.{Links, AreFlags, ArePlaces, AreRooms, IsOf, IsSpare, pairs_at, tail_of}
use Rattle.dmf_links.specs.Numbers.{AreNumbers}
use Rattle.dmf_links.specs.Pair.{without_room, pair_number}

-- The pair at index `k`, if there is one, has no room.
abbrev pub IsIdle : List (Option Pair) → ℕ → Type 0
IsIdle pairs k = without_room (pair_number pairs k) ≡ pair_number pairs k

-- The links and places have become these: with those of this pair, which has no room, behind those of the others. Rooms and flags stay
-- those of the links; and each link that is not spare is one of the new pair, or belongs to the pair to which it belonged.
pub record IsPutOn (l : Links) (places : List ℕ) (o : Option Pair) (n : Links) (after : List ℕ) : Type 0 where
  pub nodes : n.nodes ≡ l.nodes
  pub first : n.first ≡ l.first
  pub count : length n.heads ≡ length l.heads
  pub places_are : ArePlaces n after
  pub rooms : (rooms : List ℕ) → AreRooms l rooms → AreRooms n rooms
  pub flags : (rooms flags : List ℕ) → AreRooms l rooms → AreFlags l rooms flags → AreFlags n rooms flags
  pub pairs : (rooms : List ℕ) → AreRooms l rooms → pairs_at n after rooms ≡ pairs_at l places rooms ++ o ∷ []
  pub more : length after ≡ length places + 1
  pub owners : (p : ℕ) → p < length l.heads → ¬ IsSpare n p → ¬ IsOf n after p (length places)
      → (¬ IsSpare l p) × ((k : ℕ) → IsOf l places p k → IsOf n after p k)

-- The links and places have become these: without the last pair. If it had no room, rooms and flags stay those of the links.
pub record IsTakenOff (l : Links) (places : List ℕ) (n : Links) (after : List ℕ) : Type 0 where
  pub nodes : n.nodes ≡ l.nodes
  pub first : n.first ≡ l.first
  pub places_are : ArePlaces n after
  pub rooms : (rooms : List ℕ) → AreRooms l rooms → IsIdle (pairs_at l places rooms) (length places - 1) → AreRooms n rooms
  pub flags : (rooms flags : List ℕ) → AreFlags l rooms flags → AreFlags n rooms flags
  pub pairs : (rooms : List ℕ) → pairs_at n after rooms ≡ take (length places - 1) (pairs_at l places rooms)
  pub numbers : (known : List ℕ) → AreNumbers l places known → AreNumbers n after known

-- What has become of the link at place `x`, when the links at `a` and `b` were made opposites: its opposite is this one, and it leads there.
-- It and its opposite are spare, or as they were.
pub record IsTurned (l n : Links) (x : ℕ) : Type 0 where
  pub opposite : ℕ
  pub within : opposite < length l.heads
  pub is : slice_index n.partners x ≡ opposite
  pub back : slice_index n.partners opposite ≡ x
  pub other : opposite ≢ x
  pub leads : slice_index n.heads x ≡ tail_of l opposite
  pub kind : (IsSpare l x × IsSpare l opposite) ⊎ ((opposite ≡ slice_index l.partners x) × (slice_index n.heads x ≡ slice_index l.heads x))

-- The spare links at the places `a` and `b` have become opposites of each other, and so have those that were theirs.
pub record AreCoupled (l : Links) (a b : ℕ) (n : Links) : Type 0 where
  pub nodes : n.nodes ≡ l.nodes
  pub first : n.first ≡ l.first
  pub ends : n.ends ≡ l.ends
  pub count : length n.heads ≡ length l.heads
  pub partners_long : length n.partners ≡ length l.heads
  pub each : (x : ℕ) → x < length l.heads → IsTurned l n x
  pub opposite : slice_index n.partners a ≡ b

-- the same links with these ends of those that belong to pairs
abbrev pub with_ends : Links → List ℕ → Links
with_ends l ends = record { nodes = l.nodes; first = l.first; ends = ends; heads = l.heads; partners = l.partners }

-- the ends with these of the nodes `v` and `w`
abbrev pub ends_set : ℕ → ℕ → ℕ → ℕ → List ℕ → List ℕ
ends_set v a w b ends = slice_set (slice_set ends (v + 1) a) (w + 1) b

-- the links where those of both ends of the link at place `p` that belong to pairs end before `a` and before `b`
abbrev pub ending_at : Links → ℕ → ℕ → ℕ → Links
ending_at l p a b = with_ends l (ends_set (tail_of l p) a (slice_index l.heads p) b l.ends)

-- It is the first spare link of node `v`.
pub record IsFirstSpare (l : Links) (v p : ℕ) : Type 0 where
  pub is : p ≡ slice_index l.ends (v + 1)
  pub below : p < slice_index l.first (v + 1)
