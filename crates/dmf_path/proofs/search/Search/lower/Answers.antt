-- The room of the pair's link along is lowered.
use Rattle.std.proofs.Common.{◌≡◌, false, get_or, ap, sym, ◌∙◌, subst, arith}
use Rattle.dmf_links.specs.Links.{Links, pairs_at, ArePlaces}
use Rattle.dmf_links.specs.Numbers.{MayBeNumbered}
use Rattle.dmf_path.specs.Phase.{sought_by}
use Rattle.dmf_path.specs.Residual.{room_lowered}
use Rattle.dmf_path.specs.Search.{with_pairs}
use Rattle.dmf_path.specs.Searching.{Sought, searched, AreAside}
use Rattle.dmf_path.specs.Walk.{pushed_once}
use Rattle.dmf_links.proofs.rooms.PairRead.{has-place}
use Rattle.dmf_path.proofs.labels.Asides.{aside-falls}
use Rattle.dmf_path.proofs.rooms.Lowered.{HasPlace, HasPlace-along, pairs-lowered}
use Rattle.dmf_path.proofs.rooms.Pushed.{NoneOpens, none-lowered}
use Rattle.dmf_path.proofs.searches.Phases.{marked-alike, rooms-long}
use Rattle.dmf_path.proofs.search.Search.lower.Goals as goal
use Rattle.dmf_path.proofs.search.Search.lower.Goals.{After-deref, After-unwrap-place, After-lower}

-- The pair's link along has a place, and room for the amount.
has : (c : After-deref) → HasPlace (sought_by c.self.inside.phase).residual.links c.self.inside.places.value (sought_by c.self.inside.phase).residual.rooms
    c.args.k c.args.amount
has c = HasPlace-along (sought_by c.self.inside.phase).residual.rooms c.self.invariant.0.places_are (rw (← c.self.view_is) at c.requires)

pub place_of-requires : goal.place_of-requires
place_of-requires c = rw c.deref.ensures (has (goal.at.place_of-requires c).After-deref).index

pub unwrap-place-requires : goal.unwrap-place-requires
unwrap-place-requires c =
    has-place _ c.self.inside.places.value c.args.k (rw c.deref.ensures at c.place_of.ensures) (has (goal.at.unwrap-place-requires c).After-deref).there

-- The place is read.
place : (c : After-unwrap-place) → c.unwrap-place.result ≡ get_or c.self.inside.places.value c.args.k 0
place c = (rw (c.unwrap-place.ensures, c.deref.ensures) at c.place_of.ensures).is

pub lower-requires : goal.lower-requires
lower-requires c =
    let has = has (goal.at.lower-requires c).After-deref in
    let place = place (goal.at.lower-requires c).After-unwrap-place in
    record {
      within = omega (arith, place, has.within);
      room = omega (arith, has.enough, ap (λ p. get_or (sought_by c.self.inside.phase).residual.rooms p 0) place);
    }

-- No link gets room.
none : (c : After-lower) → NoneOpens (sought_by c.self.inside.phase).residual.rooms
    (room_lowered (sought_by c.self.inside.phase).residual c.unwrap-place.result c.args.amount).rooms
none c =
    let p = c.self.inside.phase in
    let has = has (goal.at.After-lower c).After-deref in
    none-lowered (sought_by p).residual.links (sought_by p).residual.rooms c.unwrap-place.result c.args.amount (rooms-long p)
    (omega (arith, place (goal.at.After-lower c).After-unwrap-place, has.within))

pub invariant_of-self : goal.invariant_of-self
invariant_of-self c =
    let at = (goal.at.invariant_of-self c).After-lower in
    let of = c.self.inside in
    let i = c.self.invariant in
    let e = c.lower.ensures in
    let before = (sought_by of.phase).residual in
    let links = ap (λ (s : Sought). s.residual.links) e.lowered in
    let asides = aside-falls of.asides.items before (room_lowered before c.unwrap-place.result c.args.amount).rooms of.phase.links.table.value.are
    (λ never. none at) i.0.asides_are in (
      record {
        places_are = subst (λ (l : Links). ArePlaces l of.places.value) (sym links) i.0.places_are;
        numbers_are = subst (λ (l : Links). MayBeNumbered l of.places.value of.numbers) (sym links) i.0.numbers_are;
        asides_are = subst (λ (s : Sought). AreAside of.asides.items s.residual) (sym e.lowered) asides;
      },
      marked-alike links (ap (λ (s : Sought). s.start) e.lowered) e.levels i.1,
    )

pub returns : goal.returns
returns c =
    let at = goal.at.returns c in
    let of = c.self.inside in
    let s = sought_by of.phase in
    let places = of.places.value in
    let l = s.residual.links in
    rw (← c.self.view_is) (ap (λ (x : Sought). searched x places) c.lower.ensures.lowered
    ∙ ap (with_pairs (searched s places)) (ap (λ q. pairs_at l places (pushed_once l false c.args.amount q s.residual.rooms)) (place at.After-unwrap-place)
    ∙ pairs-lowered of.phase.links.table.value.are c.self.invariant.0.places_are (rooms-long of.phase) (has at.After-deref)))
