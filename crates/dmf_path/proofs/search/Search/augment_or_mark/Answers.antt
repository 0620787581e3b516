-- The search finds a path, or none is left; the amount that is sent along it, and the split.
use Rattle.std.proofs.Common.{ℕ, ◌≡◌, length, List, Option, ap, sym, refl, ◌∙◌, subst, arith}
use Rattle.std.proofs.lemmas.List.{length-map}
use Rattle.std.proofs.lemmas.Option.{IfSome_then}
use Rattle.dmf_path.specs.declared.search.AugmentingPath.{AugmentingPath}
use Rattle.dmf_links.specs.declared.pair.Pair.{Pair}
use Rattle.dmf_links.specs.Links.{Links, ArePlaces, pair_at, pairs_at}
use Rattle.dmf_path.specs.Ball.{IsFit}
use Rattle.dmf_path.proofs.labels.InsideBall.{fit-falls}
use Rattle.dmf_path.specs.Held.{Way, way_of, filled_slots, settled}
use Rattle.dmf_path.specs.Residual.{ResidualLinks, residual_of, with_settled_rooms}
use Rattle.dmf_path.specs.Search.{Searched, Augments}
use Rattle.dmf_links.specs.Pair.{pair_number}
use Rattle.dmf_path.specs.Touched.{AreBelow, KeepsUntouched}
use Rattle.dmf_links.specs.Numbers.{MayBeNumbered}
use Rattle.dmf_path.specs.Touching.{Lists}
use Rattle.dmf_path.specs.Phase.{sought_by, HasEnds, IsSearch, begun}
use Rattle.dmf_path.specs.Searching.{Sought, sought, searched, labelling_of, AreAside, AreLasting, IsFound}
use Rattle.dmf_path.proofs.slots.WholePath.{slot-within}
use Rattle.dmf_path.proofs.slots.Splitting.{IsOn, middle-leaves, split-on}
use Rattle.dmf_path.proofs.labels.Asides.{aside-falls}
use Rattle.dmf_path.proofs.labels.Lasting.{lasting-opens}
use Rattle.dmf_path.proofs.searches.Searching.{sent_on, sent_along, CanAugment, can-augment}
use Rattle.dmf_path.proofs.labels.Parted.{closed-parted}
use Rattle.dmf_path.proofs.paths.Reaching.{no_path-separated}
use Rattle.dmf_path.proofs.rooms.PushedPairs.{trail-used}
use Rattle.dmf_path.proofs.slots.Settled.{AreRooms-settled}
use Rattle.dmf_path.proofs.pairs.Untouched.{AreWithin, HaveUsed, kept-untouched, touched-more, touched-below, used-each}
use Rattle.dmf_path.proofs.search.Search.augment_or_mark.Goals as goal
use Rattle.dmf_path.proofs.search.Search.augment_or_mark.Goals.{After-bottleneck-amount, After-split}

pub invariant_of-self : goal.invariant_of-self
invariant_of-self c =
    let of = c.self.inside in
    let e = c.find.ensures in
    (subst (λ (s : Sought). IsSearch s of.places.value of.numbers of.asides.items) (sym e.same) c.self.invariant.0, begun refl)

pub returns-then-not-find-clause-found : goal.returns-then-not-find-clause-found
returns-then-not-find-clause-found c =
    let of = c.self.inside in
    let s = sought_by of.phase in
    let e = c.find.ensures in
    let ends = subst HasEnds e.same e.ends in
    rw (← c.self.view_is) (
      no_path-separated s.residual.links of.places.value s.residual.rooms s.start s.goal of.phase.links.table.value.are c.self.invariant.0.places_are
          ends.start_is (e.none c.if-not-find.true).separated,
      ap (λ (s : Sought). searched s of.places.value) e.same,
    )

pub returns-then-not-find-clause-side : goal.returns-then-not-find-clause-side
returns-then-not-find-clause-side c = λ long none.
    let of = c.self.inside in
    let s = sought_by of.phase in
    let e = c.find.ensures in
    let ends = subst HasEnds e.same e.ends in
    rw (← c.self.view_is)
    (closed-parted s.residual.links of.places.value s.residual.rooms s.start s.goal c.find.new.marks of.phase.links.table.value.are
    c.self.invariant.0.places_are ends.start_is ends.goal_is
    (c.find.auto.marks ∙ long ∙ ap (λ (x : Searched). x.nodes) (sym c.self.view_is))
    (e.none c.if-not-find.true))

pub returns-then-not-find-clause-touched : goal.returns-then-not-find-clause-touched
returns-then-not-find-clause-touched c = record {
  more = λ k is. is;
  below = λ below. below;
  kept = λ k untouched. ap (λ (s : Searched). pair_number s.pairs k) (returns-then-not-find-clause-found c).1;
}

-- the links and the trail after the walk
abbrev r : After-bottleneck-amount → ResidualLinks
r c = residual_of c.phase.inside.links

abbrev w : After-bottleneck-amount → Way
w c = way_of c.phase.inside.trail

-- The network and the ends are the same then.
plain : (c : After-bottleneck-amount) → sought (r c) (w c) ≡ sought_by c.self.inside.phase
plain c = rw (← c.phase.view_is) at c.find.ensures.same

-- The places are those of the table after the walk, and so are the numbers of the links.
over : (c : After-bottleneck-amount) → IsSearch (sought (r c) (w c)) c.self.inside.places.value c.self.inside.numbers c.self.inside.asides.items
over c = subst (λ (s : Sought). IsSearch s c.self.inside.places.value c.self.inside.numbers c.self.inside.asides.items) (sym (plain c)) c.self.invariant.0

-- The walk has come to the rest of the last path.
found : (c : After-bottleneck-amount) → IsFound (r c) (w c)
found c = (rw (← c.phase.view_is) at c.find.ensures.found) c.if-not-find.false

-- So much can be sent along the path that was found.
can : (c : After-bottleneck-amount) → CanAugment (r c) c.self.inside.places.value (labelling_of c.phase.inside.levels) (w c) c.args.limit
    c.bottleneck-amount.result
can c = can-augment c.args.limit (over c).places_are c.phase.invariant.searching (found c) c.bottleneck-amount.ensures

-- The slots have links of the table.
within : (c : After-bottleneck-amount) → AreWithin (r c).links (w c).slots
within c = λ i inside. slot-within (r c).links c.phase.inside.levels.near.labels _ _ (w c).slots i (can c).descends inside

-- None of these links is spare.
used : (c : After-bottleneck-amount) → HaveUsed (r c).links (w c).slots
used c =
    let is = c.phase.invariant.searching in
    let fit = AreRooms-settled (r c).links (r c).takes_back (w c).sent (filled_slots (w c)) (r c).rooms is.aimed.links is.holding.rooms_are in
    used-each (r c).links (w c).slots (trail-used _ _ _ (w c).start _ is.aimed.links fit is.aimed.start_is (can c).whole.trail)

pub touch-requires : goal.touch-requires
touch-requires c =
    let at = (goal.at.touch-requires c).After-bottleneck-amount in
    rw c.deref.ensures.value (IfSome_then c.self.inside.numbers (over at).numbers_are
    (λ known are. λ i inside. let place = within at i inside in omega (arith, place, are.0)))

pub split-requires-clause-can : goal.split-requires-clause-can
split-requires-clause-can c =
    let at = (goal.at.split-requires-clause-can c).After-bottleneck-amount in
    λ first behind less within. (middle-leaves c.phase.invariant.searching (found at) (can at) first behind less).1.can

pub split-requires-clause-places : goal.split-requires-clause-places
split-requires-clause-places c = within (goal.at.split-requires-clause-places c).After-bottleneck-amount

-- The path is split, and the push along it is held.
split : (c : After-split) → IsOn (residual_of c.phase.inside.links) (labelling_of c.phase.inside.levels) (way_of c.phase.inside.trail)
    c.bottleneck-amount.result (residual_of c.split.new.links) (way_of c.split.new.self)
split c =
    let at = (goal.at.After-split c).After-bottleneck-amount in
    split-on c.phase.invariant.searching (found at) (can at) c.split.ensures c.split.new.links.rooms_are

-- the rooms once all of the push is put on
abbrev sent : After-bottleneck-amount → List ℕ
sent c = (sent_along (r c) (sent_on (w c) c.bottleneck-amount.result)).rooms

pub invariant_of-phase : goal.invariant_of-phase
invariant_of-phase c =
    let last = (goal.at.invariant_of-phase c).After-split in
    let at = (goal.at.After-split last).After-bottleneck-amount in
    let on = split last in
    let can = can at in
    let is = c.phase.invariant in
    let levels = c.phase.inside.levels in
    let ball = c.phase.inside.ball in
    let before = with_settled_rooms (r at) (w at) in
    record {
      searching = on.searching;
      ready = is.ready;
      lasting = λ all. subst (λ (s : Sought). AreLasting (labelling_of levels) levels.noted s.residual) (sym on.same)
          (lasting-opens (labelling_of levels) levels.noted before (sent at) can.opens (is.lasting all));
      fit = subst (λ (s : Sought). IsFit ball s.residual) (sym on.same) (fit-falls ball before (sent at) can.none is.fit);
    }

pub invariant_of-self-2 : goal.invariant_of-self-2
invariant_of-self-2 c =
    let last = (goal.at.invariant_of-self-2 c).After-split in
    let at = (goal.at.After-split last).After-bottleneck-amount in
    let on = split last in
    let links = sym (ap (λ (s : Sought). s.residual.links) on.same) in
    let of = c.self.inside in
    let over = over at in
    let asides = aside-falls of.asides.items (with_settled_rooms (r at) (w at)) (sent at) c.phase.invariant.searching.aimed.links (can at).none
    over.asides_are in (
      record {
        places_are = subst (λ (l : Links). ArePlaces l of.places.value) links over.places_are;
        numbers_are = subst (λ (l : Links). MayBeNumbered l of.places.value of.numbers) links over.numbers_are;
        asides_are = subst (λ (s : Sought). AreAside of.asides.items s.residual) (sym on.same) asides;
      },
      begun refl,
    )

pub returns-clause-found : goal.returns-clause-found
returns-clause-found c =
    let last = (goal.at.returns-clause-found c).After-split in
    let at = (goal.at.After-split last).After-bottleneck-amount in
    let seen : Sought → Searched = λ s. searched s c.self.inside.places.value in
    let slots = c.phase.inside.trail.slots in
    let found : AugmentingPath = record { amount = c.bottleneck-amount.result; links = length slots.items } in
    let links : c.len-links.result ≡ length slots.items = omega (arith, c.len-links.ensures, slots.ok.0) in
    rw (← c.self.view_is, links)
    (subst (λ (s : Sought). Augments c.args.limit found (seen s) (seen (sought (residual_of c.split.new.links) (way_of c.split.new.self)))) (plain at)
    (subst (λ (s : Sought). Augments c.args.limit found (seen (sought (r at) (w at))) (seen s)) (sym (split last).same) (can at).augments))

pub returns-clause-touched : goal.returns-clause-touched
returns-clause-touched c =
    let last = (goal.at.returns-clause-touched c).After-split in
    let at = (goal.at.After-split last).After-bottleneck-amount in
    let of = c.self.inside in
    let places = of.places.value in
    let old = c.args.touched.now in
    let touched = c.touch.new.self in
    let is = c.phase.invariant.searching in
    let pairs_of : Sought → List (Option Pair) = λ s. pairs_at s.residual.links places s.residual.rooms in
    let lists : Lists of.numbers (w at).slots old touched = rw c.deref.ensures.value at c.touch.ensures in
    let kept = kept-untouched (r at).takes_back (r at).rooms (w at).sent (sent_on (w at) c.bottleneck-amount.result).sent is.aimed.links (over at).places_are
    (over at).numbers_are is.holding.rooms_are.0 lists in
    let before = ap (λ ss. pairs_at (r at).links places (settled (r at).links (r at).takes_back (w at).sent ss (r at).rooms)) (sym (can at).whole.filled)
    ∙ ap pairs_of (plain at) in
    let from = subst (λ ps. KeepsUntouched touched ps (pairs_at (r at).links places (sent at))) before kept in
    let s = sought_by of.phase in
    let long = length-map places (pair_at s.residual.links s.residual.rooms) in
    rw (← c.self.view_is) (record {
      more = touched-more lists;
      below = subst (λ n. AreBelow n old → AreBelow n touched) (sym long) (touched-below (r at).links places (over at).numbers_are (within at) (used at) lists);
      kept = subst (λ (s : Sought). KeepsUntouched touched (pairs_of (sought_by of.phase)) (pairs_of s)) (sym (split last).same) from;
    })
