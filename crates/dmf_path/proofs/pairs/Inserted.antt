-- A search takes a pair in before its last one, or leaves out the one before it, while both have no room.
use Rattle.std.proofs.Common.{ℕ, ◌≡◌, ◌≢◌, ◌+◌, ◌-◌, ◌<◌, List, [], ◌∷◌, ◌++◌, length, take, Option, Some, None, refl, ap, sym, ◌∙◌, subst, arith, length-append, length-set}
use Rattle.std.proofs.Common.{get_or-set_same, get_or-set_other}
use Rattle.std.specs.Prelude.{insert, remove}
use Rattle.std.specs.Option.{option_map}
use Rattle.std.proofs.lemmas.List.{get_or-take, length-take-le}
use Rattle.dmf_links.specs.declared.pair.Pair.{Pair}
use Rattle.dmf_path.specs.declared.search.apart.Own.{Own}
use Rattle.dmf_path.specs.Apart.{IsApart, IsIdled, LeavesOut, TakesIn}
use Rattle.dmf_links.specs.Links.{Links, AreLinks}
use Rattle.dmf_links.specs.Pair.{without_room, pair_number}
use Rattle.dmf_links.specs.Stack.{IsIdle}
use Rattle.dmf_path.specs.Search.{Searched, pair_with, with_pairs, with_rooms}
use Rattle.dmf_path.proofs.pairs.PairLists.{inserted, removed, with_two, without_one}
use Rattle.dmf_path.proofs.pairs.PutApart.{taken-in, left-out}

bare-idle : (o : Option Pair) → without_room (option_map (pair_with 0 0) o) ≡ option_map (pair_with 0 0) o
bare-idle None = refl
bare-idle (Some p) = refl

-- A pair that lost its rooms has none.
idle-set : (ps : List (Option Pair)) (k : ℕ) → k < length ps → IsIdle (with_rooms ps k 0 0) k
idle-set ps k h =
    let bare : Option Pair = option_map (pair_with 0 0) (pair_number ps k) in
    let is : pair_number (with_rooms ps k 0 0) k ≡ bare = get_or-set_same ps k bare None h in
    ap without_room is ∙ bare-idle (pair_number ps k) ∙ sym is

-- A pair keeps having none where another loses its rooms.
idle-other : (ps : List (Option Pair)) (j k : ℕ) → k ≢ j → IsIdle ps k → IsIdle (with_rooms ps j 0 0) k
idle-other ps j k apart idle =
    let is : pair_number (with_rooms ps j 0 0) k ≡ pair_number ps k =
    get_or-set_other ps j k (option_map (pair_with 0 0) (pair_number ps j)) None apart in
    ap without_room is ∙ idle ∙ sym is

pub rooms-long : (ps : List (Option Pair)) (k a b : ℕ) → length (with_rooms ps k a b) ≡ length ps
rooms-long ps k a b = length-set ps k (option_map (pair_with a b) (pair_number ps k))

module _ {old : Searched} {k : ℕ} {s : Searched} {a b : ℕ} (idled : IsIdled old k s a b) where
  -- A search without room at its last pair has as many pairs,
  pub idled-long : length s.pairs ≡ k + 1
  idled-long = ap (λ (x : Searched). length x.pairs) idled.is ∙ rooms-long old.pairs k 0 0 ∙ idled.count

  pub idle-last : IsIdle s.pairs (length s.pairs - 1)
  idle-last =
      let last : length s.pairs - 1 ≡ k = omega (arith, idled-long) in
      subst (IsIdle s.pairs) (sym last) (subst (λ (x : Searched). IsIdle x.pairs k) (sym idled.is) (idle-set old.pairs k (omega (arith, idled.count))))

  -- and two more once a pair is taken in.
  pub two-long : (o : Option Pair) → length (with_two s.pairs o) ≡ k + 2
  two-long o =
      let ps : List (Option Pair) = s.pairs in
      let less = length-take-le (length ps - 1) ps (omega arith) in
      omega (
        arith,
        length-append (take (length ps - 1) ps ++ without_room o ∷ []) (without_room (pair_number ps (length ps - 1)) ∷ []),
        length-append (take (length ps - 1) ps) (without_room o ∷ []),
        less,
        idled-long,
      )

  -- It takes in a pair without room.
  pub takes-in : {l : Links} {places : List ℕ} {own : Own} {o : Option Pair} {n : Links} {after : List ℕ} → IsApart l places own s
      → TakesIn l places o n after → AreLinks n → IsApart n after own (with_pairs s (with_two s.pairs o))
  takes-in apart t links = taken-in apart idle-last t links

  -- With the rooms of its last pair it has the one before it.
  pub has-inserted : {with_pair final : Searched} (o : Option Pair) → with_pair ≡ with_pairs s (with_two s.pairs o)
      → final ≡ with_pairs with_pair (with_rooms with_pair.pairs (k + 1) a b)
      → final ≡ with_pairs old (insert old.pairs (length old.pairs - 1) (without_room o))
  has-inserted o with_is final_is =
      let last : k ≡ length old.pairs - 1 = omega (arith, idled.count) in
      final_is
      ∙ ap (λ (x : Searched). with_pairs x (with_rooms x.pairs (k + 1) a b)) with_is
      ∙ ap (λ (x : Searched). with_pairs x (with_rooms (with_two x.pairs o) (k + 1) a b)) idled.is
      ∙ ap (with_pairs old) (inserted old.pairs k o a b idled.count idled.along_is idled.against_is)
      ∙ ap (λ j. with_pairs old (insert old.pairs j (without_room o))) last

module _ {old : Searched} (k : ℕ) {first s : Searched} {a b : ℕ} (idled : IsIdled old (k + 1) first a b)
    (next : s ≡ with_pairs first (with_rooms first.pairs k 0 0)) where
  abbrev bared : List (Option Pair)
  bared = with_rooms (with_rooms old.pairs (k + 1) 0 0) k 0 0

  bared-is : s ≡ with_pairs old bared
  bared-is = next ∙ ap (λ (x : Searched). with_pairs x (with_rooms x.pairs k 0 0)) idled.is

  bared-long : length bared ≡ k + 2
  bared-long = rooms-long (with_rooms old.pairs (k + 1) 0 0) k 0 0 ∙ rooms-long old.pairs (k + 1) 0 0 ∙ omega (arith, idled.count)

  pub bare-long : length s.pairs ≡ k + 2
  bare-long = ap (λ (x : Searched). length x.pairs) bared-is ∙ bared-long

  -- One less is left.
  pub one-long : length (without_one s.pairs) ≡ k + 1
  one-long =
      let ps : List (Option Pair) = s.pairs in
      let some : List (Option Pair) = take (length ps - 1) ps in
      let less = length-take-le (length ps - 1) ps (omega arith) in
      omega (
        arith,
        length-append (take (length some - 1) some) (without_room (pair_number ps (length ps - 1)) ∷ []),
        length-take-le (length some - 1) some (omega arith),
        less,
        bare-long,
      )

  -- Where the last two pairs have no room, the one before the last one is left out.
  pub leaves-out : {l : Links} {places : List ℕ} {own : Own} {n : Links} {after : List ℕ} → IsApart l places own s → LeavesOut l places n after
      → AreLinks n → IsApart n after own (with_pairs s (without_one s.pairs))
  leaves-out {l} {places} {own} {n} {after} apart t links =
      let once : List (Option Pair) = with_rooms old.pairs (k + 1) 0 0 in
      let once_long : length once ≡ k + 2 = rooms-long old.pairs (k + 1) 0 0 ∙ omega (arith, idled.count) in
      let last : length bared - 1 ≡ k + 1 = omega (arith, bared-long) in
      let idle_last : IsIdle bared (length bared - 1) = subst (IsIdle bared) (sym last)
      (idle-other once k (k + 1) (omega arith) (idle-set old.pairs (k + 1) (omega (arith, idled.count)))) in
      let some : List (Option Pair) = take (length bared - 1) bared in
      let some_long : length some ≡ k + 1 = length-take-le (length bared - 1) bared (omega (arith, bared-long)) ∙ last in
      let before : length some - 1 ≡ k = omega (arith, some_long) in
      let read : pair_number some k ≡ pair_number bared k = get_or-take (length bared - 1) bared k None (omega (arith, last)) in
      let idle_before : IsIdle some (length some - 1) = subst (IsIdle some) (sym before)
      (ap without_room read ∙ idle-set once k (omega (arith, once_long)) ∙ sym read) in
      left-out apart
      (subst (λ (x : Searched). IsIdle x.pairs (length x.pairs - 1)) (sym bared-is) idle_last)
      (subst (λ (x : Searched). IsIdle (take (length x.pairs - 1) x.pairs) (length (take (length x.pairs - 1) x.pairs) - 1)) (sym bared-is) idle_before)
      t links

  -- With the rooms of the last pair it has the others as before.
  pub has-removed : {without final : Searched} → without ≡ with_pairs s (without_one s.pairs)
      → final ≡ with_pairs without (with_rooms without.pairs k a b) → final ≡ with_pairs old (remove old.pairs (length old.pairs - 2))
  has-removed without_is final_is =
      let last : k ≡ length old.pairs - 2 = omega (arith, idled.count) in
      final_is
      ∙ ap (λ (x : Searched). with_pairs x (with_rooms x.pairs k a b)) without_is
      ∙ ap (λ (x : Searched). with_pairs x (with_rooms (without_one x.pairs) k a b)) bared-is
      ∙ ap (with_pairs old) (removed old.pairs k a b (omega (arith, idled.count)) idled.along_is idled.against_is)
      ∙ ap (λ j. with_pairs old (remove old.pairs j)) last
