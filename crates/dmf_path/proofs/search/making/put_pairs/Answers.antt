-- Each pair's rooms are put at the places of its links, where 0 stands.
use Rattle.std.proofs.Common.{◌≡◌, get_or, get_or-set_other, set, inl, inr, Some, None, ap, sym, ◌∙◌, arith}
use Rattle.std.proofs.lemmas.Option.{get_or_from_slice_get}
use Rattle.dmf_links.specs.declared.pair.Pair.{Pair}
use Rattle.dmf_links.specs.LinkTable.{links_of}
use Rattle.dmf_links.specs.Links.{IsPlaceOf}
use Rattle.dmf_links.proofs.building.Filling.{ArePut-none, ArePut-some, AreClear-zeros, AreClear-some, AreClear-none, clear-along, get_or-zeros}
use Rattle.dmf_links.proofs.rooms.PairRead.{has-place}
use Rattle.dmf_links.proofs.tables.Twins.{opposites_of, IsAt, is-read, apart-ends, pairs-put}
use Rattle.dmf_path.proofs.search.making.put_pairs.Goals as goal
use Rattle.dmf_path.proofs.search.making.put_pairs.Goals.{After-unwrap-place, in-Some, in_default}

pub loop-k-init : goal.loop-k-init
loop-k-init g c = record {
  put = λ j p h is. absurd (omega (arith, h));
  clear = AreClear-zeros (g.P.Pairs.pairs c.args.pairs.now) c.args.places.now (opposites_of (links_of c.args.table.now) c.args.places.now)
      c.args.rooms.now c.requires.zeros;
  spares = λ p h spare. get_or-zeros c.args.rooms.now p c.requires.zeros;
}

pub unwrap-place-requires : goal.unwrap-place-requires
unwrap-place-requires g c =
    has-place _ c.args.places.now c.loop-k.k c.place_of.ensures
    (is-read _ _ _ c.loop-k.k c.in-Some.pair c.args.table.now.are c.requires.places c.requires.same_ends c.in-Some.ensures).there

-- The place is that of the pair's link along.
place : (g : _) (c : After-unwrap-place g) → IsPlaceOf c.args.places.now c.loop-k.k c.unwrap-place.result
place g c = rw c.unwrap-place.ensures at c.place_of.ensures

at : (g : _) (c : After-unwrap-place g) → IsAt (links_of c.args.table.now) c.args.places.now c.loop-k.k
at g c = is-read _ _ _ c.loop-k.k c.in-Some.pair c.args.table.now.are c.requires.places c.requires.same_ends c.in-Some.ensures

pub put_pair-requires-clause-place : goal.put_pair-requires-clause-place
put_pair-requires-clause-place g c =
    let here = (goal.at.put_pair-requires-clause-place g c).After-unwrap-place in
    omega (arith, (place g here).is, (at g here).within)

pub put_pair-requires-clause-zero : goal.put_pair-requires-clause-zero
put_pair-requires-clause-zero g c =
    let here = (goal.at.put_pair-requires-clause-zero g c).After-unwrap-place in
    let apart = apart-ends _ _ _ c.args.table.now.are c.requires.places c.requires.same_ends in
    ap (λ q. get_or c.loop-k.rooms q 0) (place g here).is
    ∙ clear-along c.loop-k.k c.loop-k.rooms c.in-Some.pair apart c.in-Some.ensures c.loop-k.invariant.clear

pub put_pair-requires-clause-opposite_zero : goal.put_pair-requires-clause-opposite_zero
put_pair-requires-clause-opposite_zero g c =
    let here = (goal.at.put_pair-requires-clause-opposite_zero g c).After-unwrap-place in
    let l = links_of c.args.table.now in
    let is = get_or_from_slice_get (g.P.Pairs.pairs c.args.pairs.now) c.loop-k.k (Some c.in-Some.pair) None c.in-Some.ensures in
    ap (λ q. get_or c.loop-k.rooms q 0) (ap (λ p. get_or l.partners p 0) (place g here).is ∙ sym (at g here).opposite)
    ∙ (c.loop-k.invariant.clear c.loop-k.k c.in-Some.pair (omega arith) is).1

pub loop-k-preserved : goal.loop-k-preserved
loop-k-preserved g c =
    let l = links_of c.args.table.now in
    let places = c.args.places.now in
    let pairs = g.P.Pairs.pairs c.args.pairs.now in
    let k = c.loop-k.k in
    let rooms = c.loop-k.rooms in
    let apart = apart-ends l places pairs c.args.table.now.are c.requires.places c.requires.same_ends in
    elim c.match-pair.branch [
      | in-Some w ↦
          let pair = w.in-Some.pair in
          let of : IsPlaceOf places k w.unwrap-place.result = rw w.unwrap-place.ensures at w.place_of.ensures in
          let is_at = is-read l places pairs k pair c.args.table.now.are c.requires.places c.requires.same_ends w.in-Some.ensures in
          let put : c.match-pair.rooms ≡ set (set rooms (get_or places k 0) pair.along) (get_or (opposites_of l places) k 0) pair.against =
          w.rooms-is
          ∙ w.put_pair.ensures
          ∙ ap (λ p. set (set rooms p pair.along) (get_or l.partners p 0) pair.against) of.is
          ∙ ap (λ q. set (set rooms (get_or places k 0) pair.along) q pair.against) (sym is_at.opposite) in
          record {
            put = rw put (ArePut-some (λ (j : _) (p : Pair). p.along) (λ (j : _) (p : Pair). p.against) k rooms pair apart
                (c.loop-k.auto.rooms ∙ c.requires.one_room_each) w.in-Some.ensures c.loop-k.invariant.put);
            clear = rw put (AreClear-some k rooms pair pair.along pair.against apart w.in-Some.ensures c.loop-k.invariant.clear);
            spares = rw put (λ p h spare.
                let own = c.requires.places.used p k h in
                get_or-set_other (set rooms (get_or places k 0) pair.along) (get_or (opposites_of l places) k 0) p pair.against 0
                (λ e. own (is_at.index, is_at.there, inr (sym (e ∙ is_at.opposite))) spare)
                ∙ get_or-set_other rooms (get_or places k 0) p pair.along 0 (λ e. own (is_at.index, is_at.there, inl (sym e)) spare)
                ∙ c.loop-k.invariant.spares p h spare);
          }
      | in_default w ↦ record {
        put = rw w.rooms-is (ArePut-none (λ (j : _) (p : Pair). p.along) (λ (j : _) (p : Pair). p.against) k rooms c.pair.result apart
            c.pair.ensures w.in_default.is c.loop-k.invariant.put);
        clear = rw w.rooms-is (AreClear-none pairs places (opposites_of l places) k rooms c.loop-k.invariant.clear);
        spares = rw w.rooms-is c.loop-k.invariant.spares;
      }
    ]

pub returns-clause-pairs : goal.returns-clause-pairs
returns-clause-pairs g c =
    pairs-put (links_of c.args.table.now) c.args.places.now c.loop-k.rooms (g.P.Pairs.pairs c.args.pairs.now) c.args.table.now.are c.requires.places
    c.requires.same_ends (λ j p h is. c.loop-k.invariant.put j p (omega (arith, h, c.len-k-end.ensures, c.loop-k-test.false)) is)
