-- Both searches leave out their pairs while these and the last ones have no room.
use Rattle.std.proofs.Common.{◌≡◌, ◌+◌, ◌-◌, ◌≤◌, length, ap, sym, subst, arith}
use Rattle.std.proofs.lemmas.Option.{same_Some}
use Rattle.dmf_links.specs.LinkTable.{links_of}
use Rattle.dmf_path.specs.Apart.{IsApart, IsIdled}
use Rattle.dmf_path.specs.Search.{Searched, with_pairs}
use Rattle.dmf_path.proofs.pairs.Inserted.{bare-long, has-removed, leaves-out, one-long}
use Rattle.dmf_path.proofs.pairs.PairLists.{without_one}
use Rattle.dmf_path.proofs.pairs.PutApart.{pairs-long}
use Rattle.dmf_path.proofs.search.Search.remove.Goals.{After-begun-shared, In_ok-shared, In_ok-shared-2, In_ok-share}
use Rattle.dmf_path.proofs.search.Search.remove.Goals as goal

-- The search has no room at its last pair.
idled : (c : After-begun-shared) → IsIdled c.args.self (c.len-k.result - 1 - 1 + 1) c.in_ok-search.search c.in_ok-search.last.along c.in_ok-search.last.against
idled c =
    let i = c.in_ok-search.ensures in
    let last : c.len-k.result - 1 - 1 + 1 ≡ c.len-k.result - 1 = omega (arith, i.count, c.requires) in
    subst (λ k. IsIdled c.args.self k c.in_ok-search.search c.in_ok-search.last.along c.in_ok-search.last.against) (sym last) i

places : (c : After-begun-shared) → 2 ≤ length c.begun-shared.result.0.places.value
places c = omega (arith, pairs-long c.begun-shared.ensures.apart, bare-long (c.len-k.result - 1 - 1) (idled c) c.set_rooms.ensures)

pub leaving_out-requires-clause-two : goal.leaving_out-requires-clause-two
leaving_out-requires-clause-two c = places (goal.at.leaving_out-requires-clause-two c).After-begun-shared

pub leaving_out-requires-2-clause-two : goal.leaving_out-requires-2-clause-two
leaving_out-requires-2-clause-two c = places (goal.at.leaving_out-requires-2-clause-two c).After-begun-shared

-- It leaves out its pair, alone
alone : (c : In_ok-shared) → IsApart (links_of c.in_ok-shared.shared.table.value) c.in_ok-shared.shared.places.value c.begun-shared.result.1
    (with_pairs c.set_rooms.new.self (without_one c.set_rooms.new.self.pairs))
alone c = leaves-out (c.len-k.result - 1 - 1) (idled (goal.at.In_ok-shared c).After-begun-shared) c.set_rooms.ensures c.begun-shared.ensures.apart
    c.in_ok-shared.ensures.left c.in_ok-shared.shared.table.value.are

-- or with the other search,
first : (c : In_ok-shared-2) → IsApart (links_of c.in_ok-shared-2.shared.table.value) c.in_ok-shared-2.shared.places.value c.begun-shared.result.1
    (with_pairs c.set_rooms.new.self (without_one c.set_rooms.new.self.pairs))
first c = leaves-out (c.len-k.result - 1 - 1) (idled (goal.at.In_ok-shared-2 c).After-begun-shared) c.set_rooms.ensures c.begun-shared.ensures.apart
    c.in_ok-shared-2.ensures.left c.in_ok-shared-2.shared.table.value.are

-- which has no room at its last pair either,
others-idled : (c : In_ok-share) → IsIdled c.in-Some.other (c.len-k.result - 1 - 1 + 1) c.in_ok-other.other c.in_ok-other.other_last.along
    c.in_ok-other.other_last.against
others-idled c =
    let i = c.in_ok-other.ensures in
    let last : c.len-k.result - 1 - 1 + 1 ≡ c.len-k.result - 1 = omega (arith, c.in_ok-search.ensures.count, c.requires) in
    subst (λ k. IsIdled c.in-Some.other k c.in_ok-other.other c.in_ok-other.other_last.along c.in_ok-other.other_last.against) (sym last) i

-- and does so too.
second : (c : In_ok-share) → IsApart (links_of c.in_ok-share.field-0.table.value) c.in_ok-share.field-0.places.value c.in_ok-others.others
    (with_pairs c.set_rooms-2.new.self (without_one c.set_rooms-2.new.self.pairs))
second c =
    let shared = c.begun-shared.result.0 in
    let own = c.in_ok-others.ensures in
    let apart = subst (IsApart (links_of shared.table.value) shared.places.value c.in_ok-others.others) (sym (same_Some _ _ own.1.0)) own.1.1 in
    rw (c.in_ok-share.ensures.table, c.in_ok-share.ensures.places)
    (leaves-out (c.len-k.result - 1 - 1) (others-idled c) c.set_rooms-2.ensures apart c.in_ok-shared-2.ensures.left
    c.in_ok-shared-2.shared.table.value.are)

pub over-requires-clause-apart : goal.over-requires-clause-apart
over-requires-clause-apart c = (_, alone (goal.at.over-requires-clause-apart c).In_ok-shared)

pub with_last_rooms-requires : goal.with_last_rooms-requires
with_last_rooms-requires c =
    let at = (goal.at.with_last_rooms-requires c).In_ok-shared in
    omega (
      arith,
      ap (λ (s : Searched). length s.pairs) (c.over.ensures _ (alone at)),
      one-long (c.len-k.result - 1 - 1) (idled (goal.at.In_ok-shared at).After-begun-shared) c.set_rooms.ensures,
    )

pub returns-in_default-clause-search : goal.returns-in_default-clause-search
returns-in_default-clause-search c =
    let at = (goal.at.returns-in_default-clause-search c).In_ok-shared in
    has-removed (c.len-k.result - 1 - 1) (idled (goal.at.In_ok-shared at).After-begun-shared) c.set_rooms.ensures (c.over.ensures _ (alone at))
    c.with_last_rooms.ensures

pub over-other-requires-clause-shared : goal.over-other-requires-clause-shared
over-other-requires-clause-shared c = c.in_ok-share.ensures.shared c.in_ok-shared-2.ensures.shared

pub over-other-requires-clause-apart : goal.over-other-requires-clause-apart
over-other-requires-clause-apart c = (_, second (goal.at.over-other-requires-clause-apart c).In_ok-share)

pub over-search-requires-clause-apart : goal.over-search-requires-clause-apart
over-search-requires-clause-apart c = (_, first (goal.at.over-search-requires-clause-apart c).In_ok-shared-2)

pub with_last_rooms-requires-2 : goal.with_last_rooms-requires-2
with_last_rooms-requires-2 c =
    let at = (goal.at.with_last_rooms-requires-2 c).In_ok-shared-2 in
    omega (
      arith,
      ap (λ (s : Searched). length s.pairs) (c.over-search.ensures _ (first at)),
      one-long (c.len-k.result - 1 - 1) (idled (goal.at.In_ok-shared-2 at).After-begun-shared) c.set_rooms.ensures,
    )

pub with_last_rooms-requires-3 : goal.with_last_rooms-requires-3
with_last_rooms-requires-3 c =
    let at = (goal.at.with_last_rooms-requires-3 c).In_ok-share in
    omega (
      arith,
      ap (λ (s : Searched). length s.pairs) (c.over-other.ensures _ (second at)),
      one-long (c.len-k.result - 1 - 1) (others-idled at) c.set_rooms-2.ensures,
    )

pub returns-clause-search : goal.returns-clause-search
returns-clause-search c =
    let at = (goal.at.returns-clause-search c).In_ok-shared-2 in
    has-removed (c.len-k.result - 1 - 1) (idled (goal.at.In_ok-shared-2 at).After-begun-shared) c.set_rooms.ensures (c.over-search.ensures _ (first at))
    c.with_last_rooms-2.ensures

pub returns-clause-other : goal.returns-clause-other
returns-clause-other c =
    let at = (goal.at.returns-clause-other c).In_ok-share in (
      c.in-Some.other,
      (
        c.in-Some.is,
        has-removed (c.len-k.result - 1 - 1) (others-idled at) c.set_rooms-2.ensures (c.over-other.ensures _ (second at)) c.with_last_rooms-3.ensures,
      ),
    )
