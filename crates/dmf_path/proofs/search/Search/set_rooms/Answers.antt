-- The phase begins anew, where it had begun, and then the rooms of one pair's links are set.
use Rattle.std.proofs.Common.{◌≡◌, ◌<◌, length, inl, ap, sym, ◌∙◌, subst, arith}
use Rattle.std.proofs.lemmas.List.{length-map}
use Rattle.dmf_links.specs.Links.{Links, ArePlaces, IsPlaceOf, pair_at, pairs_at, rooms_set}
use Rattle.dmf_links.specs.Numbers.{MayBeNumbered}
use Rattle.dmf_path.specs.Phase.{sought_by, with_residual, IsSearch, fresh}
use Rattle.dmf_path.specs.Residual.{pair_set}
use Rattle.dmf_path.specs.Search.{Searched, with_pairs}
use Rattle.dmf_path.specs.Searching.{Sought, searched}
use Rattle.dmf_path.proofs.labels.Asides.{aside-none}
use Rattle.dmf_path.proofs.searches.Phases.{rooms-long}
use Rattle.dmf_links.proofs.rooms.PairRead.{place-within}
use Rattle.dmf_path.proofs.rooms.RoomsSet.{pairs-set, pairs-unset}
use Rattle.dmf_path.proofs.search.Search.set_rooms.Goals as goal
use Rattle.dmf_path.proofs.search.Search.set_rooms.Goals.{After-forget, In-Some}

-- What the search keeps with other rooms of the same links.
kept : (c : After-forget) (s : Sought) → s.residual.links ≡ (sought_by c.self.inside.phase).residual.links
    → IsSearch s c.self.inside.places.value c.self.inside.numbers c.clear.new.self.items
kept c s links =
    let of = c.self.inside in
    let i = c.self.invariant.0 in
    record {
      places_are = subst (λ (l : Links). ArePlaces l of.places.value) (sym links) i.places_are;
      numbers_are = subst (λ (l : Links). MayBeNumbered l of.places.value of.numbers) (sym links) i.numbers_are;
      asides_are = aside-none _ _ c.clear.ensures.items;
    }

-- the index is one of the places
index : (c : After-forget) → c.args.k < length c.self.inside.places.value
index c =
    let s = sought_by c.self.inside.phase in
    omega (
      arith,
      c.requires.number,
      ap (λ (x : Searched). length x.pairs) c.self.view_is,
      length-map c.self.inside.places.value (pair_at s.residual.links s.residual.rooms),
    )

pub forget-requires : goal.forget-requires
forget-requires c = c.self.invariant.1

pub invariant_of-self : goal.invariant_of-self
invariant_of-self c =
    let e = c.forget.ensures in
    (kept (goal.at.invariant_of-self c).After-forget (sought_by c.forget.new.self) (ap (λ (s : Sought). s.residual.links) e.same), fresh e.fresh.fresh)

pub returns-in_default : goal.returns-in_default
returns-in_default c =
    let of = c.self.inside in
    let s = sought_by of.phase in
    let unset = pairs-unset s.residual.links of.places.value s.residual.rooms c.args.k c.args.along c.args.against
    (index (goal.at.returns-in_default c).After-forget) (rw c.deref.ensures at c.in_default.ensures) in
    rw (← c.self.view_is) (ap (λ (x : Sought). searched x of.places.value) c.forget.ensures.same
    ∙ ap (with_pairs (searched s of.places.value)) (sym unset))

-- The place is that of the pair.
place : (c : In-Some) → IsPlaceOf c.self.inside.places.value c.args.k c.in-Some.place
place c = rw c.deref.ensures at c.in-Some.ensures

pub set_pair-requires : goal.set_pair-requires
set_pair-requires c =
    let at = goal.at.set_pair-requires c in
    let of = c.self.inside in
    let links = ap (λ (s : Sought). s.residual.links) c.forget.ensures.same in
    let are = subst (λ (l : Links). ArePlaces l of.places.value) (sym links) c.self.invariant.0.places_are in
    let is = place at.In-Some in
    let index = index at.After-forget in
    let within = place-within (sought_by c.forget.new.self).residual.links of.places.value c.args.k c.in-Some.place are index is in
    record {
      fresh = c.forget.ensures.fresh;
      within = within;
      fits = c.requires.fits;
      used = are.used c.in-Some.place c.args.k within (index, (λ none. is.there (is.is ∙ none)), inl (sym is.is));
    }

pub invariant_of-self-2 : goal.invariant_of-self-2
invariant_of-self-2 c =
    let e = c.set_pair.ensures in
    let links = ap (λ (s : Sought). s.residual.links) (e.set ∙ ap (λ (s : Sought). with_residual s (pair_set s.residual c.in-Some.place c.args.along c.args.against)) c.forget.ensures.same) in
    (kept (goal.at.invariant_of-self-2 c).After-forget (sought_by c.set_pair.new.self) links, fresh e.fresh)

pub returns : goal.returns
returns c =
    let at = goal.at.returns c in
    let of = c.self.inside in
    let places = of.places.value in
    let s = sought_by of.phase in
    let l = s.residual.links in
    let is = place at.In-Some in
    let set = pairs-set s.residual.rooms c.args.k c.args.along c.args.against of.phase.links.table.value.are c.self.invariant.0.places_are (rooms-long of.phase)
    (index at.After-forget) (λ none. is.there (is.is ∙ none)) in
    rw (← c.self.view_is) (ap (λ (x : Sought). searched x places) (c.set_pair.ensures.set
    ∙ ap (λ (x : Sought). with_residual x (pair_set x.residual c.in-Some.place c.args.along c.args.against)) c.forget.ensures.same)
    ∙ ap (with_pairs (searched s places)) (ap (λ q. pairs_at l places (rooms_set l q c.args.along c.args.against s.residual.rooms)) is.is ∙ set))
