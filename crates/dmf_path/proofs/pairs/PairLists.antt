-- Lists of pairs whose last ones lose their rooms, are taken off and put on, and get their rooms back.
use Rattle.std.proofs.Common.{ℕ, ◌≡◌, ◌+◌, ◌-◌, List, [], ◌∷◌, ◌++◌, length, get_or, take, set, Option, Some, None, refl, ap, sym, ◌∙◌}
use Rattle.std.proofs.Common.{arith, length-append}
use Rattle.std.specs.Prelude.{insert, remove}
use Rattle.std.specs.Option.{option_map}
use Rattle.std.proofs.Math.Seq.{get_or-append_seam, set-append_seam, take-append_seam}
use Rattle.std.proofs.lemmas.List.{append_assoc, drop_all, drop_more, length-take-le, take-append-drop}
use Rattle.std.proofs.lemmas.List.Edits.{insert-append_right, remove-append_right}
use Rattle.dmf_links.specs.declared.pair.Pair.{Pair}
use Rattle.dmf_links.specs.Pair.{without_room, pair_number}
use Rattle.dmf_path.specs.Search.{pair_with, with_rooms}

-- The last one lies behind the others.
pub last-apart : {A : Type 0} (xs : List A) (k : ℕ) (d : A) → length xs ≡ k + 1 → xs ≡ take k xs ++ get_or xs k d ∷ []
last-apart xs k d long = sym (take-append-drop k xs)
    ∙ ap (λ ys. take k xs ++ ys) (drop_more xs k d (omega arith) ∙ ap (λ ys. get_or xs k d ∷ ys) (drop_all (k + 1) xs (omega arith)))

pub emptied-twice : (o : Option Pair) → without_room (without_room o) ≡ without_room o
emptied-twice None = refl
emptied-twice (Some p) = refl

-- The pair behind these ones,
number-here : (xs : List (Option Pair)) (y : Option Pair) (ys : List (Option Pair)) (k : ℕ) → length xs ≡ k → pair_number (xs ++ y ∷ ys) k ≡ y
number-here xs y ys k long = rw (← long) (get_or-append_seam xs y ys None)

-- with other rooms,
pub set-here : (xs : List (Option Pair)) (y : Option Pair) (ys : List (Option Pair)) (k a b : ℕ) → length xs ≡ k
    → with_rooms (xs ++ y ∷ ys) k a b ≡ xs ++ option_map (pair_with a b) y ∷ ys
set-here xs y ys k a b long =
    ap (λ o. set (xs ++ y ∷ ys) k (option_map (pair_with a b) o)) (number-here xs y ys k long)
    ∙ rw (← long) (set-append_seam xs y ys (option_map (pair_with a b) y))

-- and the one behind it.
set-next : (xs : List (Option Pair)) (x y : Option Pair) (k a b : ℕ) → length xs ≡ k
    → with_rooms (xs ++ x ∷ y ∷ []) (k + 1) a b ≡ xs ++ x ∷ option_map (pair_with a b) y ∷ []
set-next xs x y k a b long =
    let one : List (Option Pair) = xs ++ x ∷ [] in
    let longer : length one ≡ k + 1 = omega (arith, long, length-append xs (x ∷ [])) in
    ap (λ ys. with_rooms ys (k + 1) a b) (sym (append_assoc xs (x ∷ []) (y ∷ [])))
    ∙ set-here one y [] (k + 1) a b longer
    ∙ append_assoc xs (x ∷ []) (option_map (pair_with a b) y ∷ [])

-- A pair gets its rooms back.
restored : (o : Option Pair) (a b : ℕ) → ((q : Pair) → o ≡ Some q → q.along ≡ a) → ((q : Pair) → o ≡ Some q → q.against ≡ b)
    → option_map (pair_with a b) (without_room (option_map (pair_with 0 0) o)) ≡ o
restored None a b along against = refl
restored (Some q) a b along against =
    λ i. Some (record { tail = q.tail; head = q.head; along = sym (along q refl) i; against = sym (against q refl) i })

-- the pairs after the last one was taken off, and this one and the last one were put on, both without rooms
abbrev pub with_two : List (Option Pair) → Option Pair → List (Option Pair)
with_two ps o = (take (length ps - 1) ps ++ without_room o ∷ []) ++ without_room (pair_number ps (length ps - 1)) ∷ []

-- the pairs after the last two were taken off, and the last one was put on without rooms
abbrev pub without_one : List (Option Pair) → List (Option Pair)
without_one ps =
    take (length (take (length ps - 1) ps) - 1) (take (length ps - 1) ps) ++ without_room (pair_number ps (length ps - 1)) ∷ []

module _ (xs : List (Option Pair)) (y : Option Pair) (k a b : ℕ) (long : length xs ≡ k) (along : (q : Pair) → y ≡ Some q → q.along ≡ a)
    (against : (q : Pair) → y ≡ Some q → q.against ≡ b) where
  abbrev bare : Option Pair
  bare = option_map (pair_with 0 0) y

  off-bare : take (length (xs ++ bare ∷ []) - 1) (xs ++ bare ∷ []) ≡ xs
  off-bare =
      let less : length (xs ++ bare ∷ []) - 1 ≡ length xs = omega (arith, length-append xs (bare ∷ [])) in
      ap (λ n. take n (xs ++ bare ∷ [])) less ∙ take-append_seam xs (bare ∷ [])

  last-bare : pair_number (xs ++ bare ∷ []) (length (xs ++ bare ∷ []) - 1) ≡ bare
  last-bare =
      let less : length (xs ++ bare ∷ []) - 1 ≡ k = omega (arith, long, length-append xs (bare ∷ [])) in
      ap (pair_number (xs ++ bare ∷ [])) less ∙ number-here xs bare [] k long

  inserted-behind : (o : Option Pair) → with_rooms (with_two (with_rooms (xs ++ y ∷ []) k 0 0) o) (k + 1) a b ≡ insert (xs ++ y ∷ []) k (without_room o)
  inserted-behind o =
      let bare_list : with_rooms (xs ++ y ∷ []) k 0 0 ≡ xs ++ bare ∷ [] = set-here xs y [] k 0 0 long in
      let two : with_two (with_rooms (xs ++ y ∷ []) k 0 0) o ≡ xs ++ without_room o ∷ without_room bare ∷ [] =
      ap (λ ps. with_two ps o) bare_list
      ∙ (λ i. (off-bare i ++ without_room o ∷ []) ++ without_room (last-bare i) ∷ [])
      ∙ append_assoc xs (without_room o ∷ []) (without_room bare ∷ []) in
      let zero : k - length xs ≡ 0 = omega (arith, long) in
      ap (λ ps. with_rooms ps (k + 1) a b) two
      ∙ set-next xs (without_room o) (without_room bare) k a b long
      ∙ ap (λ p. xs ++ without_room o ∷ p ∷ []) (restored y a b along against)
      ∙ sym (insert-append_right xs (y ∷ []) (length xs) k (without_room o) refl (omega (arith, long))
      ∙ ap (λ n. xs ++ insert (y ∷ []) n (without_room o)) zero)

-- A pair goes in before the last one, which gets its rooms back.
pub inserted : (ps : List (Option Pair)) (k : ℕ) (o : Option Pair) (a b : ℕ) → length ps ≡ k + 1
    → ((q : Pair) → pair_number ps k ≡ Some q → q.along ≡ a) → ((q : Pair) → pair_number ps k ≡ Some q → q.against ≡ b)
    → with_rooms (with_two (with_rooms ps k 0 0) o) (k + 1) a b ≡ insert ps k (without_room o)
inserted ps k o a b long along against =
    let apart = last-apart ps k None long in
    let is = inserted-behind (take k ps) (pair_number ps k) k a b (length-take-le k ps (omega (arith, long))) along against o in
    ap (λ qs. with_rooms (with_two (with_rooms qs k 0 0) o) (k + 1) a b) apart ∙ is ∙ ap (λ qs. insert qs k (without_room o)) (sym apart)

module _ (xs : List (Option Pair)) (x y : Option Pair) (k a b : ℕ) (long : length xs ≡ k) (along : (q : Pair) → y ≡ Some q → q.along ≡ a)
    (against : (q : Pair) → y ≡ Some q → q.against ≡ b) where
  abbrev front : List (Option Pair)
  front = xs ++ option_map (pair_with 0 0) x ∷ []

  removed-behind : with_rooms (without_one (with_rooms (with_rooms (xs ++ x ∷ y ∷ []) (k + 1) 0 0) k 0 0)) k a b ≡ remove (xs ++ x ∷ y ∷ []) k
  removed-behind =
      let bare_y : Option Pair = option_map (pair_with 0 0) y in
      let bare_x : Option Pair = option_map (pair_with 0 0) x in
      let bare_list : with_rooms (with_rooms (xs ++ x ∷ y ∷ []) (k + 1) 0 0) k 0 0 ≡ front ++ bare_y ∷ [] =
      ap (λ ps. with_rooms ps k 0 0) (set-next xs x y k 0 0 long) ∙ set-here xs x (bare_y ∷ []) k 0 0 long
      ∙ sym (append_assoc xs (bare_x ∷ []) (bare_y ∷ [])) in
      let longer : length front ≡ k + 1 = omega (arith, long, length-append xs (bare_x ∷ [])) in
      let first_off = off-bare front y (k + 1) a b longer along against in
      let less : length front - 1 ≡ length xs = omega (arith, length-append xs (bare_x ∷ [])) in
      let next_off : take (length front - 1) front ≡ xs = ap (λ n. take n front) less ∙ take-append_seam xs (bare_x ∷ []) in
      let one : without_one (front ++ bare_y ∷ []) ≡ xs ++ without_room bare_y ∷ [] =
      (λ i. take (length (first_off i) - 1) (first_off i) ++ without_room (last-bare front y (k + 1) a b longer along against i) ∷ [])
      ∙ ap (λ ps. ps ++ without_room bare_y ∷ []) next_off in
      let zero : k - length xs ≡ 0 = omega (arith, long) in
      ap (λ ps. with_rooms (without_one ps) k a b) bare_list
      ∙ ap (λ ps. with_rooms ps k a b) one
      ∙ set-here xs (without_room bare_y) [] k a b long
      ∙ ap (λ o. xs ++ o ∷ []) (restored y a b along against)
      ∙ sym (remove-append_right xs (x ∷ y ∷ []) (length xs) k refl (omega (arith, long)) ∙ ap (λ n. xs ++ remove (x ∷ y ∷ []) n) zero)

-- The pair before the last one is left out, which gets its rooms back.
pub removed : (ps : List (Option Pair)) (k : ℕ) (a b : ℕ) → length ps ≡ k + 2 → ((q : Pair) → pair_number ps (k + 1) ≡ Some q → q.along ≡ a)
    → ((q : Pair) → pair_number ps (k + 1) ≡ Some q → q.against ≡ b)
    → with_rooms (without_one (with_rooms (with_rooms ps (k + 1) 0 0) k 0 0)) k a b ≡ remove ps k
removed ps k a b long along against =
    let y : Option Pair = pair_number ps (k + 1) in
    let some : List (Option Pair) = take (k + 1) ps in
    let count : length some ≡ k + 1 = length-take-le (k + 1) ps (omega (arith, long)) in
    let xs : List (Option Pair) = take k some in
    let x : Option Pair = get_or some k None in
    let apart : ps ≡ xs ++ x ∷ y ∷ [] =
    last-apart ps (k + 1) None (omega (arith, long)) ∙ ap (λ qs. qs ++ y ∷ []) (last-apart some k None count) ∙ append_assoc xs (x ∷ []) (y ∷ []) in
    let is = removed-behind xs x y k a b (length-take-le k some (omega (arith, count))) along against in
    ap (λ qs. with_rooms (without_one (with_rooms (with_rooms qs (k + 1) 0 0) k 0 0)) k a b) apart ∙ is ∙ ap (λ qs. remove qs k) (sym apart)
