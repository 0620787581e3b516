-- A search that is apart, whose links become those of a pair more, or of a pair less.
use Rattle.std.proofs.Common.{ℕ, ◌≡◌, ◌-◌, ◌<◌, ◌≤◌, List, [], ◌∷◌, ◌++◌, length, get_or, take, drop, Option, Some, None, Vec, Global, ap, sym, ◌∙◌, subst, arith}
use Rattle.std.specs.declared.rc.Rc.{Rc}
use Rattle.std.proofs.lemmas.List.{get_or-take, length-map, length-take-le, take-append-drop, take-append-le}
use Rattle.dmf_node.specs.Node.{IsNode}
use Rattle.dmf_links.specs.declared.pair.Pair.{Pair}
use Rattle.dmf_path.specs.declared.search.apart.Own.{Own}
use Rattle.dmf_path.specs.Apart.{HasBegun, IsApart, LeavesOut, TakesIn}
use Rattle.dmf_links.specs.Links.{Links, AreLinks, IsOf, pair_at, pairs_at}
use Rattle.dmf_links.specs.Numbers.{AreOthersNumbered, MayBeNumbered}
use Rattle.dmf_links.specs.Pair.{without_room, pair_number}
use Rattle.dmf_links.specs.Stack.{IsIdle, IsPutOn, IsTakenOff}
use Rattle.dmf_path.specs.Search.{Searched, with_pairs}
use Rattle.dmf_path.specs.Walk.{AreCurrent}
use Rattle.dmf_path.proofs.pairs.PairLists.{emptied-twice, with_two, without_one}

-- It has as many pairs as there are places.
pub pairs-long : {l : Links} {places : List ℕ} {own : Own} {s : Searched} → IsApart l places own s → length s.pairs ≡ length places
pairs-long {l} {places} {own} apart = ap (λ (x : Searched). length x.pairs) (sym apart.same) ∙ length-map places (pair_at l own.rooms.items)

-- The links are numbered as before, but for those of a pair that was put on.
pub others-numbered : {l : Links} {places : List ℕ} {o : Option Pair} {n : Links} {after : List ℕ} (numbers : Option (Rc (Vec ℕ Global) Global))
    → IsPutOn l places o n after → MayBeNumbered l places numbers → AreOthersNumbered n after numbers
others-numbered None put known = tt
others-numbered {l} {places} {n = n} {after} (Some numbers) put known = (
  omega (arith, known.0, put.count),
  λ p h used other.
      let inside : p < length l.heads = omega (arith, h, put.count) in
      let last : length places ≡ length after - 1 = omega (arith, put.more) in
      let its = put.owners p inside used (λ of. other (subst (IsOf n after p) last of)) in
      its.1 (get_or numbers.value.items p 0) (known.1 p inside its.0),
)

pub numbered-off : {l : Links} {places : List ℕ} {n : Links} {after : List ℕ} (numbers : Option (Rc (Vec ℕ Global) Global)) → IsTakenOff l places n after
    → MayBeNumbered l places numbers → MayBeNumbered n after numbers
numbered-off None off known = tt
numbered-off (Some numbers) off known = off.numbers numbers.value.items known

-- There is one place less.
pub off-long : {l : Links} {places : List ℕ} {n : Links} {after : List ℕ} → IsTakenOff l places n after → 0 < length places → length after ≡ length places - 1
off-long {l} {places} {n} {after} off some =
    sym (length-map after (pair_at n [])) ∙ ap (λ (ps : List (Option Pair)). length ps) (off.pairs [])
    ∙ length-take-le (length places - 1) (pairs_at l places []) (omega (arith, length-map places (pair_at l [])))

-- The current links stay, where the links of nodes lie as before.
current-still : {l n : Links} {current : List ℕ} → n.nodes ≡ l.nodes → n.first ≡ l.first → AreCurrent l current → AreCurrent n current
current-still {l} {n} {current} nodes first is = record {
  one_each = omega (arith, is.one_each, nodes);
  from = λ v node. rw first (is.from v (subst (λ m. IsNode m v) nodes node));
  to = λ v node. rw first (is.to v (subst (λ m. IsNode m v) nodes node));
}

-- A pair is put on,
pub put-apart : {l : Links} {places : List ℕ} {own : Own} {s : Searched} {o : Option Pair} {n : Links} {after : List ℕ} → IsApart l places own s
    → IsPutOn l places o n after → AreLinks n → IsApart n after own (with_pairs s (s.pairs ++ o ∷ []))
put-apart {l} {places} {own} {o = o} {n} {after} apart put links = record {
  links = links;
  places_are = put.places_are;
  rooms = put.rooms own.rooms.items apart.rooms;
  flags = put.flags own.rooms.items own.flags.items apart.rooms apart.flags;
  begun = subst (λ nodes. HasBegun nodes own.levels own.trail) (sym put.nodes) apart.begun;
  current_is = current-still put.nodes put.first apart.current_is;
  tidy = apart.tidy;
  same = (λ i. record {
    nodes = put.nodes i;
    pairs = put.pairs own.rooms.items apart.rooms i;
    start = own.trail.start;
    goal = own.trail.goal;
    takes_back = own.takes_back;
  }) ∙ ap (λ (x : Searched). with_pairs x (x.pairs ++ o ∷ [])) apart.same;
}

-- and the last one is taken off, if it has no room.
pub off-apart : {l : Links} {places : List ℕ} {own : Own} {s : Searched} {n : Links} {after : List ℕ} → IsApart l places own s
    → IsIdle s.pairs (length s.pairs - 1) → IsTakenOff l places n after → AreLinks n → IsApart n after own (with_pairs s (take (length s.pairs - 1) s.pairs))
off-apart {l} {places} {own} {s} {n} {after} apart idle off links =
    let long = pairs-long apart in
    let count : length places - 1 ≡ length s.pairs - 1 = omega (arith, long) in
    let idle_there : IsIdle (pairs_at l places own.rooms.items) (length places - 1) =
    subst (λ k. IsIdle (pairs_at l places own.rooms.items) k) (sym count)
    (subst (λ (x : Searched). IsIdle x.pairs (length s.pairs - 1)) (sym apart.same) idle) in
    record {
      links = links;
      places_are = off.places_are;
      rooms = off.rooms own.rooms.items apart.rooms idle_there;
      flags = off.flags own.rooms.items own.flags.items apart.flags;
      begun = subst (λ nodes. HasBegun nodes own.levels own.trail) (sym off.nodes) apart.begun;
      current_is = current-still off.nodes off.first apart.current_is;
      tidy = apart.tidy;
      same = (λ i. record {
        nodes = off.nodes i;
        pairs = off.pairs own.rooms.items i;
        start = own.trail.start;
        goal = own.trail.goal;
        takes_back = own.takes_back;
      }) ∙ ap (λ (x : Searched). with_pairs x (take (length places - 1) x.pairs)) apart.same
          ∙ ap (λ k. with_pairs s (take k s.pairs)) count;
    }

-- Taking first the more and then the fewer is taking the fewer.
take-less : {A : Type 0} (k m : ℕ) (xs : List A) → k ≤ m → m ≤ length xs → take k (take m xs) ≡ take k xs
take-less k m xs less within =
    sym (ap (take k) (sym (take-append-drop m xs))
    ∙ take-append-le k (take m xs) (drop m xs) (omega (arith, less, length-take-le m xs within)))

-- So is one more of its last pairs.
pub off-again : {l : Links} {places : List ℕ} {own : Own} (s : Searched) {n : Links} {after : List ℕ} (m : ℕ)
    → IsApart l places own (with_pairs s (take m s.pairs)) → 0 < m → m ≤ length s.pairs → IsIdle s.pairs (m - 1) → IsTakenOff l places n after → AreLinks n
    → IsApart n after own (with_pairs s (take (m - 1) s.pairs))
off-again {own = own} s {n} {after} m apart some within idle off links =
    let ps : List (Option Pair) = s.pairs in
    let left : List (Option Pair) = take m ps in
    let last : length left - 1 ≡ m - 1 = omega (arith, length-take-le m ps within) in
    let read : pair_number left (m - 1) ≡ pair_number ps (m - 1) = get_or-take m ps (m - 1) None (omega (arith, some)) in
    let idle_left : IsIdle left (length left - 1) = subst (IsIdle left) (sym last) (ap without_room read ∙ idle ∙ sym read) in
    subst (λ qs. IsApart n after own (with_pairs s qs)) (ap (λ k. take k left) last ∙ take-less (m - 1) m ps (omega arith) within)
    (off-apart apart idle_left off links)

-- the last pair without its room
last-pair : {l : Links} {places : List ℕ} {own : Own} {s : Searched} {last : Option Pair} → IsApart l places own s
    → ((rooms : List ℕ) → last ≡ without_room (pair_number (pairs_at l places rooms) (length places - 1)))
    → without_room last ≡ without_room (pair_number s.pairs (length s.pairs - 1))
last-pair {places = places} {own} {s} apart is =
    let count : length places - 1 ≡ length s.pairs - 1 = omega (arith, pairs-long apart) in
    ap without_room (is own.rooms.items) ∙ emptied-twice _ ∙ ap (λ (x : Searched). without_room (pair_number x.pairs (length places - 1))) apart.same
    ∙ ap (λ k. without_room (pair_number s.pairs k)) count

-- So a pair is taken in before the last one,
pub taken-in : {l : Links} {places : List ℕ} {own : Own} {s : Searched} {o : Option Pair} {n : Links} {after : List ℕ} → IsApart l places own s
    → IsIdle s.pairs (length s.pairs - 1) → TakesIn l places o n after → AreLinks n → IsApart n after own (with_pairs s (with_two s.pairs o))
taken-in {s = s} {n = n} {after} apart idle t links =
    let last = subst (λ x. IsPutOn t.on t.more x n after) (last-pair apart t.last_is) t.last_on in
    put-apart (put-apart (off-apart apart idle t.taken_off t.off_links) t.put_on t.on_links) last links

-- and the one before the last one is left out.
pub left-out : {l : Links} {places : List ℕ} {own : Own} {s : Searched} {n : Links} {after : List ℕ} → IsApart l places own s
    → IsIdle s.pairs (length s.pairs - 1)
    → IsIdle (take (length s.pairs - 1) s.pairs) (length (take (length s.pairs - 1) s.pairs) - 1)
    → LeavesOut l places n after → AreLinks n → IsApart n after own (with_pairs s (without_one s.pairs))
left-out {s = s} {n = n} {after} apart idle next_idle t links =
    let last = subst (λ x. IsPutOn t.less t.fewer x n after) (last-pair apart t.last_is) t.last_on in
    put-apart (off-apart (off-apart apart idle t.taken_off t.off_links) next_idle t.next_off t.less_links) last links
