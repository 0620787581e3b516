-- Links with their rooms: the residual network, and how its rooms change.
-- Private: only contracts inside the crate and proofs use this.
use Rattle.std.specs.Prelude.{ℕ, ◌≡◌, ◌+◌, ◌-◌, ◌<◌, ◌≤◌, Bool, false, List, length, take, drop, slice_index, slice_set}
use Rattle.dmf_path.specs.declared.residual.Residual.{Residual}
use Rattle.dmf_path.specs.declared.trail.Slot.{Slot}
use Rattle.dmf_links.specs.Links.{Links, rooms_set}
use Rattle.dmf_links.specs.LinkTable.{links_of}
use Rattle.dmf_path.specs.Walk.{pushed_once}
use Rattle.dmf_path.specs.Held.{Way, slot_at, walked_slots, rest_slots, rooms_with, put_once, put_each, CanPut, AreOpen}

-- the links by node, whether a push along one can be pushed back along its opposite, and the room of each
pub record ResidualLinks : Type 0 where
  pub links : Links
  pub takes_back : Bool
  pub rooms : List ℕ

-- the residual network of links with rooms
abbrev pub residual_of : Residual → ResidualLinks
residual_of a = record { links = links_of a.table.value; takes_back = a.takes_back; rooms = a.rooms.items }

-- the same links with other rooms
abbrev pub roomed : ResidualLinks → List ℕ → ResidualLinks
roomed r rooms = record r { rooms = rooms }

-- with this room of the link at place `p`
abbrev pub put_at : ResidualLinks → ℕ → ℕ → ResidualLinks
put_at r p room = roomed r (slice_set r.rooms p room)

-- after an amount is pushed along the link at place `p`
abbrev pub pushed_along : ResidualLinks → ℕ → ℕ → ResidualLinks
pushed_along r p amount = roomed r (pushed_once r.links r.takes_back amount p r.rooms)

-- after an amount is taken off the room of the link at place `p`
abbrev pub room_lowered : ResidualLinks → ℕ → ℕ → ResidualLinks
room_lowered r p amount = roomed r (pushed_once r.links false amount p r.rooms)

-- with these rooms of the link at place `p` and of its opposite
abbrev pub pair_set : ResidualLinks → ℕ → ℕ → ℕ → ResidualLinks
pair_set r p along against = roomed r (rooms_set r.links p along against r.rooms)

-- with settled rooms, as callers see it
abbrev pub with_settled_rooms : ResidualLinks → Way → ResidualLinks
with_settled_rooms r w = roomed r (rooms_with r.links r.takes_back w r.rooms)

-- after the held pushes of one link are applied, or of each of these links
abbrev pub put_once_on : ResidualLinks → ℕ → Slot → ResidualLinks
put_once_on r sent s = roomed r (put_once r.links r.takes_back sent s r.rooms)

abbrev pub put_each_on : ResidualLinks → ℕ → List Slot → ResidualLinks
put_each_on r sent slots = roomed r (put_each r.links r.takes_back sent slots r.rooms)

-- The held pushes can be applied, first those of the walk, then those of the rest, and this gives the settled rooms.
pub record CanSettle (r : ResidualLinks) (w : Way) : Type 0 where
  pub walked : CanPut r.links r.takes_back w.sent (walked_slots w) r.rooms
  pub rest : CanPut r.links r.takes_back w.sent (rest_slots w) (put_each r.links r.takes_back w.sent (walked_slots w) r.rooms)
  pub same : rooms_with r.links r.takes_back w r.rooms
      ≡ put_each r.links r.takes_back w.sent (rest_slots w) (put_each r.links r.takes_back w.sent (walked_slots w) r.rooms)

-- The next slot is free, or the first link of the rest had it and leaves.
pub data MakesWay (r : ResidualLinks) (old : Way) (after : ResidualLinks) (new : Way) : Type 0 where
  free : old.walked < old.rest → new ≡ old → after ≡ r → MakesWay r old after new
  leaves : old.walked ≡ old.rest
      → new ≡ record old { rest = old.rest + 1; joint = slice_index r.links.heads (slot_at old.slots old.rest).place }
      → after ≡ put_once_on r old.sent (slot_at old.slots old.rest) → MakesWay r old after new

-- The full links of a path leave, with the links between them; or no link is full.
pub data SplitsAtFull (r : ResidualLinks) (old : Way) (after : ResidualLinks) (new : Way) : Type 0 where
  stays : (first behind : ℕ) → behind ≤ first → AreOpen old.sent old.slots first behind → new ≡ old → after ≡ r
      → SplitsAtFull r old after new
  split_at : (first behind : ℕ) → first < behind → behind ≤ length old.slots → AreOpen old.sent old.slots first behind
      → new ≡ record old { walked = first; rest = behind; joint = slice_index r.links.heads (slot_at old.slots (behind - 1)).place }
      → after ≡ put_each_on r old.sent (take (behind - first) (drop first old.slots)) → SplitsAtFull r old after new
