-- Both searches take in their pairs while the last ones have no room.
use Rattle.std.proofs.Common.{◌≡◌, ◌-◌, length, ap, sym, subst, arith}
use Rattle.std.proofs.lemmas.Option.{same_Some}
use Rattle.dmf_links.specs.LinkTable.{links_of}
use Rattle.dmf_path.specs.Apart.{IsApart, IsIdled}
use Rattle.dmf_path.specs.Search.{Searched, with_pairs}
use Rattle.dmf_path.proofs.pairs.Inserted.{has-inserted, idled-long, takes-in, two-long}
use Rattle.dmf_path.proofs.pairs.PairLists.{with_two}
use Rattle.dmf_path.proofs.pairs.PutApart.{pairs-long}
use Rattle.dmf_path.proofs.search.Search.insert.Goals.{After-begun-shared, In_ok-shared, In_ok-shared-2, In_ok-share}
use Rattle.dmf_path.proofs.search.Search.insert.Goals as goal

-- The search has no room at its last pair.
idled : (c : After-begun-shared) → IsIdled c.args.self (c.len-k.result - 1) c.in_ok-search-2.search c.in_ok-search-2.last.along c.in_ok-search-2.last.against
idled c = subst (λ (s : Searched). IsIdled s (c.len-k.result - 1) c.in_ok-search-2.search c.in_ok-search-2.last.along c.in_ok-search-2.last.against)
    c.in_ok-search.ensures.search c.in_ok-search-2.ensures

places : (c : After-begun-shared) → length c.begun-shared.result.0.places.value ≡ length c.args.self.pairs
places c =
    let i = idled c in
    omega (arith, pairs-long c.begun-shared.ensures.apart, idled-long i, i.count)

pub taking_in-requires-clause-some : goal.taking_in-requires-clause-some
taking_in-requires-clause-some c =
    omega (arith, places (goal.at.taking_in-requires-clause-some c).After-begun-shared, c.requires.some)

pub taking_in-requires-clause-few : goal.taking_in-requires-clause-few
taking_in-requires-clause-few c =
    omega (arith, places (goal.at.taking_in-requires-clause-few c).After-begun-shared, c.requires.few)

pub taking_in-requires-2-clause-some : goal.taking_in-requires-2-clause-some
taking_in-requires-2-clause-some c =
    omega (arith, places (goal.at.taking_in-requires-2-clause-some c).After-begun-shared, c.requires.some)

pub taking_in-requires-2-clause-few : goal.taking_in-requires-2-clause-few
taking_in-requires-2-clause-few c =
    omega (arith, places (goal.at.taking_in-requires-2-clause-few c).After-begun-shared, c.requires.few)

-- It takes in its pair, alone
alone : (c : In_ok-shared) → IsApart (links_of c.in_ok-shared.shared.table.value) c.in_ok-shared.shared.places.value c.begun-shared.result.1
    (with_pairs c.in_ok-search-2.search (with_two c.in_ok-search-2.search.pairs c.args.pair))
alone c = takes-in (idled (goal.at.In_ok-shared c).After-begun-shared) c.begun-shared.ensures.apart
    c.in_ok-shared.ensures.taken c.in_ok-shared.shared.table.value.are

-- or with the other search,
first : (c : In_ok-shared-2) → IsApart (links_of c.in_ok-shared-2.shared.table.value) c.in_ok-shared-2.shared.places.value c.begun-shared.result.1
    (with_pairs c.in_ok-search-2.search (with_two c.in_ok-search-2.search.pairs c.args.pair))
first c = takes-in (idled (goal.at.In_ok-shared-2 c).After-begun-shared) c.begun-shared.ensures.apart
    c.in_ok-shared-2.ensures.taken c.in_ok-shared-2.shared.table.value.are

-- which does so too.
second : (c : In_ok-share) → IsApart (links_of c.in_ok-share.field-0.table.value) c.in_ok-share.field-0.places.value c.in_ok-others.others
    (with_pairs c.in_ok-other.other (with_two c.in_ok-other.other.pairs c.args.pair))
second c =
    let shared = c.begun-shared.result.0 in
    let own = c.in_ok-others.ensures in
    let apart = subst (IsApart (links_of shared.table.value) shared.places.value c.in_ok-others.others) (sym (same_Some _ _ own.1.0)) own.1.1 in
    rw (c.in_ok-share.ensures.table, c.in_ok-share.ensures.places)
    (takes-in c.in_ok-other.ensures apart c.in_ok-shared-2.ensures.taken c.in_ok-shared-2.shared.table.value.are)

pub over-requires-clause-apart : goal.over-requires-clause-apart
over-requires-clause-apart c = (_, alone (goal.at.over-requires-clause-apart c).In_ok-shared)

pub with_last_rooms-requires : goal.with_last_rooms-requires
with_last_rooms-requires c =
    let at = (goal.at.with_last_rooms-requires c).In_ok-shared in
    omega (arith, ap (λ (s : Searched). length s.pairs) (c.over.ensures _ (alone at)), two-long (idled (goal.at.In_ok-shared at).After-begun-shared) c.args.pair)

pub returns-in_default-clause-search : goal.returns-in_default-clause-search
returns-in_default-clause-search c =
    let at = (goal.at.returns-in_default-clause-search c).In_ok-shared in
    has-inserted (idled (goal.at.In_ok-shared at).After-begun-shared) c.args.pair (c.over.ensures _ (alone at)) c.with_last_rooms.ensures

pub over-other-requires-clause-shared : goal.over-other-requires-clause-shared
over-other-requires-clause-shared c = c.in_ok-share.ensures.shared c.in_ok-shared-2.ensures.shared

pub over-other-requires-clause-apart : goal.over-other-requires-clause-apart
over-other-requires-clause-apart c = (_, second (goal.at.over-other-requires-clause-apart c).In_ok-share)

pub over-search-requires-clause-apart : goal.over-search-requires-clause-apart
over-search-requires-clause-apart c = (_, first (goal.at.over-search-requires-clause-apart c).In_ok-shared-2)

pub with_last_rooms-requires-2 : goal.with_last_rooms-requires-2
with_last_rooms-requires-2 c =
    let at = (goal.at.with_last_rooms-requires-2 c).In_ok-shared-2 in
    omega (arith, ap (λ (s : Searched). length s.pairs) (c.over-search.ensures _ (first at)), two-long (idled (goal.at.In_ok-shared-2 at).After-begun-shared) c.args.pair)

pub with_last_rooms-requires-3 : goal.with_last_rooms-requires-3
with_last_rooms-requires-3 c =
    let at = (goal.at.with_last_rooms-requires-3 c).In_ok-share in
    omega (arith, ap (λ (s : Searched). length s.pairs) (c.over-other.ensures _ (second at)), two-long c.in_ok-other.ensures c.args.pair)

pub returns-clause-search : goal.returns-clause-search
returns-clause-search c =
    let at = (goal.at.returns-clause-search c).In_ok-shared-2 in
    has-inserted (idled (goal.at.In_ok-shared-2 at).After-begun-shared) c.args.pair (c.over-search.ensures _ (first at)) c.with_last_rooms-2.ensures

pub returns-clause-other : goal.returns-clause-other
returns-clause-other c =
    let at = (goal.at.returns-clause-other c).In_ok-share in (
      c.in-Some.other,
      (
        rw c.in-Some.is at c.in_ok-search.ensures.other,
        has-inserted c.in_ok-other.ensures c.args.pair (c.over-other.ensures _ (second at)) c.with_last_rooms-3.ensures,
      ),
    )
