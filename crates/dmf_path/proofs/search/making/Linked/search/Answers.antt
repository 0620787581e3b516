-- What a search keeps at first.
use Rattle.std.proofs.Common.{[], ap, sym, subst, arith}
use Rattle.std.specs.Vec.{vec_capacity}
use Rattle.dmf_links.specs.LinkTable.{links_of}
use Rattle.dmf_path.specs.Walk.{AreCurrent}
use Rattle.dmf_path.specs.Held.{Way, way_of}
use Rattle.dmf_path.specs.Residual.{ResidualLinks}
use Rattle.dmf_path.specs.Phase.{fresh}
use Rattle.dmf_path.specs.Searching.{labelling_of, Sought, searched, IsFresh, IsSearching}
use Rattle.dmf_path.proofs.labels.Asides.{aside-none}
use Rattle.dmf_path.proofs.searches.SearchTurns.{searching-new, sought-free}
use Rattle.dmf_path.proofs.search.making.Linked.search.Goals as goal
use Rattle.dmf_path.proofs.search.making.Linked.search.Goals.{In_ok-slots, After-make_fresh}

-- the links, with their rooms
abbrev residual : In_ok-slots → ResidualLinks
residual c = record { links = links_of c.args.self.table.value; takes_back = c.args.takes_back; rooms = c.args.self.rooms.items }

-- a path without links
abbrev way : In_ok-slots → Way
way c = record {
  slots = c.in_ok-slots.slots.items;
  capacity = vec_capacity c.in_ok-slots.slots;
  walked = 0;
  rest = 0;
  joint = c.args.goal;
  sent = 0;
  start = c.args.start;
  goal = c.args.goal;
}

pub invariant_of-links : goal.invariant_of-links
invariant_of-links c = record { rooms_are = c.requires.rooms; flags_are = rw (c.deref.ensures, c.deref-2.ensures.value) at c.in_ok-flags.ensures }

-- The search begins with fresh labels.
new : (c : After-make_fresh) → IsSearching (residual (goal.at.After-make_fresh c).In_ok-slots) (labelling_of c.make_fresh.new.levels)
    (way_of c.make_fresh.new.trail) × IsFresh (links_of c.args.self.table.value) c.make_fresh.new.levels.near.labels c.make_fresh.new.trail.start
new c =
    let at = (goal.at.After-make_fresh c).In_ok-slots in
    let table = c.args.self.table.value in
    let l = links_of table in
    let m = rw c.deref-5.ensures at c.make_fresh.ensures in
    let current : AreCurrent l c.make_fresh.new.levels.current.items =
    subst (AreCurrent l) (sym (ap (λ v. v.items) m.current)) (rw c.deref-3.ensures at c.in_ok-levels.ensures.current) in
    searching-new {r = residual at} (labelling_of c.make_fresh.new.levels) (way at) table.are c.requires.rooms (omega arith) c.requires.start
    c.requires.goal c.requires.apart (omega (arith, rw c.deref-4.ensures at c.in_ok-slots.ensures.capacity)) m.labels current m.way

pub invariant_of-phase : goal.invariant_of-phase
invariant_of-phase c =
    let at = (goal.at.invariant_of-phase c).After-make_fresh in
    let m = rw c.deref-5.ensures at c.make_fresh.ensures in
    record {
      searching = (new at).0;
      ready = (c.args.self.table.value.nodes, m.ready);
      lasting = λ all. let no = m.all in absurd (cc);
      fit = c.none.ensures _;
    }

pub invariant_of-result : goal.invariant_of-result
invariant_of-result c =
    let at = (goal.at.invariant_of-result c).After-make_fresh in
    let m = rw c.deref-5.ensures at c.make_fresh.ensures in (
      record { places_are = c.requires.places; numbers_are = tt; asides_are = aside-none _ _ c.new-2.ensures.items },
      fresh (record { fresh = (new at).1; none_last = m.all }),
    )

pub returns : goal.returns
returns c =
    let at = (goal.at.returns c).In_ok-slots in
    ap (λ (s : Sought). searched s c.args.self.places.value) (sought-free (residual at) (way at) [] c.make_fresh.ensures.way)
