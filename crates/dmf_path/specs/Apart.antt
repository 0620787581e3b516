-- A search that has begun anew, apart from its links, which become those of other pairs.
-- Private: only contracts inside the crate and proofs use this.
use Rattle.std.specs.Prelude.{ℕ, ◌≡◌, ◌+◌, ◌-◌, false, List, Option, Some, length}
use Rattle.dmf_path.specs.declared.levels.Levels.{Levels}
use Rattle.dmf_links.specs.declared.pair.Pair.{Pair}
use Rattle.dmf_path.specs.declared.search.apart.Own.{Own}
use Rattle.dmf_path.specs.declared.search.apart.Shared.{Shared}
use Rattle.dmf_path.specs.declared.trail.Trail.{Trail}
use Rattle.dmf_links.specs.Pair.{without_room, pair_number}
use Rattle.dmf_links.specs.Stack.{IsPutOn, IsTakenOff}
use Rattle.dmf_path.specs.Walk.{AreCurrent}
use Rattle.dmf_path.specs.Ball.{IsTidy}
use Rattle.dmf_path.specs.Held.{way_of}
use Rattle.dmf_links.specs.Links.{Links, AreFlags, AreLinks, ArePlaces, AreRooms, pairs_at}
use Rattle.dmf_links.specs.LinkTable.{links_of}
use Rattle.dmf_path.specs.Residual.{ResidualLinks}
use Rattle.dmf_path.specs.Search.{Searched, with_pairs, with_rooms}
use Rattle.dmf_path.specs.Searching.{labelling_of, AreReady, IsFresh, IsSearching}
use Rattle.dmf_links.specs.Numbers.{MayBeNumbered}

-- The places are those of the pairs of the links, and the numbers are theirs.
pub record AreShared (shared : Shared) : Type 0 where
  pub places : ArePlaces (links_of shared.table.value) shared.places.value
  pub numbers : MayBeNumbered (links_of shared.table.value) shared.places.value shared.numbers

-- A search with these labels and this trail has begun anew between so many nodes.
pub record HasBegun (nodes : ℕ) (levels : Levels) (trail : Trail) : Type 0 where
  pub residual : ResidualLinks
  pub searching : IsSearching residual (labelling_of levels) (way_of trail)
  pub fresh : IsFresh residual.links levels.near.labels trail.start
  pub nodes_are : residual.links.nodes ≡ nodes
  pub ready : AreReady levels
  pub none_last : levels.all ≡ false

-- what callers see of a search over the links of the pairs at these places
abbrev pub seen : Links → List ℕ → Own → Searched
seen l places own = record {
  nodes = l.nodes;
  pairs = pairs_at l places own.rooms.items;
  start = own.trail.start;
  goal = own.trail.goal;
  takes_back = own.takes_back;
}

-- What the search has of its own is that over the links of the pairs at these places.
pub record IsApart (l : Links) (places : List ℕ) (own : Own) (search : Searched) : Type 0 where
  pub links : AreLinks l
  pub places_are : ArePlaces l places
  pub rooms : AreRooms l own.rooms.items
  pub flags : AreFlags l own.rooms.items own.flags.items
  pub begun : HasBegun l.nodes own.levels own.trail
  pub current_is : AreCurrent l own.levels.current.items
  pub tidy : IsTidy own.ball
  pub same : seen l places own ≡ search

-- The links and the places have become these: without the last pair, and then with this pair and the last one behind it, both without
-- room.
pub record TakesIn (l : Links) (places : List ℕ) (o : Option Pair) (n : Links) (after : List ℕ) : Type 0 where
  pub off : Links
  pub left : List ℕ
  pub off_links : AreLinks off
  pub taken_off : IsTakenOff l places off left
  pub on : Links
  pub more : List ℕ
  pub on_links : AreLinks on
  pub put_on : IsPutOn off left (without_room o) on more
  pub last : Option Pair
  pub last_is : (rooms : List ℕ) → last ≡ without_room (pair_number (pairs_at l places rooms) (length places - 1))
  pub last_on : IsPutOn on more (without_room last) n after

-- The links and the places have become these: without the last two pairs, and then with the last one, without room.
pub record LeavesOut (l : Links) (places : List ℕ) (n : Links) (after : List ℕ) : Type 0 where
  pub off : Links
  pub left : List ℕ
  pub off_links : AreLinks off
  pub taken_off : IsTakenOff l places off left
  pub less : Links
  pub fewer : List ℕ
  pub less_links : AreLinks less
  pub next_off : IsTakenOff off left less fewer
  pub last : Option Pair
  pub last_is : (rooms : List ℕ) → last ≡ without_room (pair_number (pairs_at l places rooms) (length places - 1))
  pub last_on : IsPutOn less fewer (without_room last) n after

-- The search has become this one: without room at the pair at index `k`, the last one, which had these rooms.
pub record IsIdled (old : Searched) (k : ℕ) (new : Searched) (along against : ℕ) : Type 0 where
  pub count : length old.pairs ≡ k + 1
  pub is : new ≡ with_pairs old (with_rooms old.pairs k 0 0)
  pub along_is : (p : Pair) → pair_number old.pairs k ≡ Some p → p.along ≡ along
  pub against_is : (p : Pair) → pair_number old.pairs k ≡ Some p → p.against ≡ against
