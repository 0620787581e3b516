-- Sides that links with room leave over gates alone.
use Rattle.std.proofs.Common.{ℕ, ◌≡◌, ◌+◌, ◌*◌, ◌<◌, ◌≤◌, ◌⊎◌, ⊎_elim, inl, inr, Bool, true, false, List, [], ◌∷◌, ◌++◌, length, zero, suc, refl, sym}
use Rattle.std.proofs.Common.{◌∙◌, ◌≢◌, ◌-◌, subst, ap, arith, Option, Some, None, get_or, cond}
use Rattle.std.specs.Prelude.{◌&&◌, ◌||◌, not, nat_lt, IsTrue, IfSome, insert, remove}
use Rattle.std.specs.List.{Contains, filter}
use Rattle.std.proofs.lemmas.Bool.{false≢true, cases_eq, cases_lt}
use Rattle.std.proofs.lemmas.List.{get_or-set_other, get_or_past}
use Rattle.std.proofs.lemmas.List.Edits.{length-insert, get_or-insert_at, get_or-insert_below, length-remove, get_or-remove_below}
use Rattle.std.proofs.lemmas.Bool.Decides.{nat_tests}
use Rattle.std.proofs.lemmas.List.Elements.{Contains-append_cases, Contains-append_left, Contains-append_right}
use Rattle.dmf_links.specs.declared.pair.Pair.{Pair}
use Rattle.dmf_links.specs.Pair.{pair_number, without_room}
use Rattle.dmf_path.specs.ClosedSide.{is_marked, IsClosedSide}
use Rattle.dmf_path.specs.Pair.{pair_steps, steps_from, steps_of}
use Rattle.dmf_path.specs.Path.{IsPath, HasNoPath}
use Rattle.dmf_path.specs.Search.{Searched, with_pairs, with_rooms}
use Rattle.dmf_path.specs.Step.{Step}
use Rattle.dmf_path.proofs.pairs.PairLists.{emptied-twice}
use Rattle.dmf_solver.specs.declared.closed_side.ClosedSide.{ClosedSide}
use Rattle.dmf_solver.specs.Gates.{leads_out, leads_from, AreGuarded, IsClosedBut, IsGuarded, KeepsGates, MayBeGated}
use Rattle.dmf_solver.proofs.pairs.ByArc.{optional-each, optional-has}

-- ---- the tests

-- A link with room from a marked node that does not lead out leads to a marked node,
pub stays : (room inside target : Bool) → (room && (inside && not target)) ≡ false → IsTrue room → IsTrue inside → IsTrue target
stays true true true e r i = refl
stays true true false e r i = absurd (false≢true (sym e))
stays true false target e r i = absurd (false≢true i)
stays false inside target e r i = absurd (false≢true r)

-- and one that does leads out of no marked node.
pub shut : (room inside target : Bool) → (IsTrue room → IsTrue inside → IsTrue target) → (room && (inside && not target)) ≡ false
shut true true true f = refl
shut true true false f = absurd (false≢true (f refl refl))
shut true false target f = refl
shut false inside target f = refl

pub neither : (a b : Bool) → a ≡ false → b ≡ false → (a || b) ≡ false
neither true b e f = absurd (false≢true (sym e))
neither false b e f = f

pub first-not : (a b : Bool) → (a || b) ≡ false → a ≡ false
first-not true b e = e
first-not false b e = refl

pub second-not : (a b : Bool) → (a || b) ≡ false → b ≡ false
second-not true b e = absurd (false≢true (sym e))
second-not false b e = e

pub some-room : (room : ℕ) → 0 < room → IsTrue (nat_lt 0 room)
some-room room h = grind (arith, nat_tests)

pub has-room : (room : ℕ) → IsTrue (nat_lt 0 room) → 0 < room
has-room room h = grind (arith, nat_tests)

-- ---- the steps of pairs

-- What holds of both links of a pair, if they have room,
abbrev pub OfPair : (ℕ → ℕ → Type 0) → Pair → Type 0
OfPair P p = (0 < p.along → P p.tail p.head) × (0 < p.against → P p.head p.tail)

-- holds of its steps,
each-own : (P : ℕ → ℕ → Type 0) (j : ℕ) (pair : Option Pair) (s : Step) → ((p : Pair) → pair ≡ Some p → OfPair P p)
    → Contains (pair_steps j pair) s → P s.from s.to
each-own P j None s each c = absurd (omega (arith, c.1))
each-own P j (Some p) s each c =
    let along : Step = record { from = p.tail; to = p.head; rank = 2 * j; room = p.along } in
    let against : Step = record { from = p.head; to = p.tail; rank = 2 * j + 1; room = p.against } in
    let Is : Step → Type 0 = λ t. P t.from t.to in
    ⊎_elim
    (λ (own : Contains (cond (nat_lt 0 p.along) (along ∷ []) []) s).
    optional-each Is (nat_lt 0 p.along) along s (λ room. (each p refl).0 (has-room p.along room)) own)
    (λ (own : Contains (cond (nat_lt 0 p.against) (against ∷ []) []) s).
    optional-each Is (nat_lt 0 p.against) against s (λ room. (each p refl).1 (has-room p.against room)) own)
    (Contains-append_cases (cond (nat_lt 0 p.along) (along ∷ []) []) (cond (nat_lt 0 p.against) (against ∷ []) []) s c)

-- and if of all pairs, of all steps.
pub each-step : (P : ℕ → ℕ → Type 0) (j : ℕ) (pairs : List (Option Pair)) (s : Step)
    → ((k : ℕ) (p : Pair) → pair_number pairs k ≡ Some p → OfPair P p) → Contains (steps_from j pairs) s → P s.from s.to
each-step P j [] s each c = absurd (omega (arith, c.1))
each-step P j (q ∷ pairs) s each c = ⊎_elim
    (λ (own : Contains (pair_steps j q) s). each-own P j q s (λ p is. each 0 p is) own)
    (λ (later : Contains (steps_from (j + 1) pairs) s). each-step P (j + 1) pairs s (λ k p is. each (suc k) p is) later)
    (Contains-append_cases (pair_steps j q) (steps_from (j + 1) pairs) s c)

-- A step leads from one node to the other.
pub record HasStep (steps : List Step) (from to : ℕ) : Type 0 where
  pub step : Step
  pub there : Contains steps step
  pub from_is : step.from ≡ from
  pub to_is : step.to ≡ to

-- The steps of a pair are steps of the pairs.
pub has-step : (j : ℕ) (pairs : List (Option Pair)) (k : ℕ) (p : Pair) (from to : ℕ) → pair_number pairs k ≡ Some p
    → ((i : ℕ) → HasStep (pair_steps i (Some p)) from to) → HasStep (steps_from j pairs) from to
has-step j [] k p from to is has = absurd (cc)
has-step j (q ∷ pairs) zero p from to is has =
    let own : HasStep (pair_steps j q) from to = subst (λ pair. HasStep (pair_steps j pair) from to) (sym is) (has j) in
    record {
      step = own.step;
      there = Contains-append_left (pair_steps j q) (steps_from (j + 1) pairs) own.step own.there;
      from_is = own.from_is;
      to_is = own.to_is;
    }
has-step j (q ∷ pairs) (suc k) p from to is has =
    let later = has-step (j + 1) pairs k p from to is has in
    record {
      step = later.step;
      there = Contains-append_right (pair_steps j q) (steps_from (j + 1) pairs) later.step later.there;
      from_is = later.from_is;
      to_is = later.to_is;
    }

pub has-along : (p : Pair) → 0 < p.along → (i : ℕ) → HasStep (pair_steps i (Some p)) p.tail p.head
has-along p room i = record {
  step = _;
  there = Contains-append_left _ _ _ (optional-has (nat_lt 0 p.along) _ (some-room p.along room));
  from_is = refl;
  to_is = refl;
}

pub has-against : (p : Pair) → 0 < p.against → (i : ℕ) → HasStep (pair_steps i (Some p)) p.head p.tail
has-against p room i = record {
  step = _;
  there = Contains-append_right _ _ _ (optional-has (nat_lt 0 p.against) _ (some-room p.against room));
  from_is = refl;
  to_is = refl;
}

-- ---- closed sides

-- A closed side parts its start from its goal.
module _ (steps : List Step) (start goal : ℕ) (marks : List Bool) (is : IsClosedSide steps start goal marks) where
  stays-in : (path : List Step) (v : ℕ) → IsTrue (is_marked marks v) → ¬ IsPath steps v goal path
  stays-in [] v inside leads = is.goal_out (subst (λ w. IsTrue (is_marked marks w)) leads inside)
  stays-in (s ∷ path) v inside leads =
      stays-in path s.to (is.none_leaves s leads.0 (subst (λ w. IsTrue (is_marked marks w)) (sym leads.1) inside)) leads.2

  pub no_path-closed : HasNoPath steps start goal
  no_path-closed path = stays-in path start is.start_in

-- Nothing is one of no gates.
no-gate : (gates : List ℕ) (k : ℕ) → gates ≡ [] → ¬ Contains gates k
no-gate gates k none c = let c = subst (λ (xs : List ℕ). Contains xs k) none c in omega (arith, c.1)

-- Without gates, no path leads from the start to the goal.
pub no_path-without_gates : (search : Searched) (side : ClosedSide) → IsClosedBut search side → side.gates.items ≡ []
    → HasNoPath (steps_of search.pairs) search.start search.goal
no_path-without_gates search side is none =
    let marks = side.marks.items in
    let each : (k : ℕ) (p : Pair) → pair_number search.pairs k ≡ Some p → OfPair (λ from to. IsTrue (is_marked marks from) → IsTrue (is_marked marks to)) p
    = λ k p at. ⊎_elim
    (λ (gate : Contains side.gates.items k). absurd (no-gate side.gates.items k none gate))
    (λ (out : leads_out marks (pair_number search.pairs k) ≡ false).
    let out : leads_out marks (Some p) ≡ false = subst (λ pair. leads_out marks pair ≡ false) at out in (
      λ room. stays (nat_lt 0 p.along) (is_marked marks p.tail) (is_marked marks p.head)
          (first-not (leads_from marks p.tail p.head p.along) (leads_from marks p.head p.tail p.against) out) (some-room p.along room),
      λ room. stays (nat_lt 0 p.against) (is_marked marks p.head) (is_marked marks p.tail)
          (second-not (leads_from marks p.tail p.head p.along) (leads_from marks p.head p.tail p.against) out) (some-room p.against room),
    ))
    (is.guarded k)
    in
    no_path-closed (steps_of search.pairs) search.start search.goal marks (record {
      start_in = is.start_in;
      goal_out = is.goal_out;
      none_leaves = λ s c. each-step (λ from to. IsTrue (is_marked marks from) → IsTrue (is_marked marks to)) 1 search.pairs s each c;
    })

-- A closed side needs no gate.
pub closed-anew : (search : Searched) (marks : List Bool) (gates : List ℕ) → length marks ≡ search.nodes
    → IsClosedSide (steps_of search.pairs) search.start search.goal marks → AreGuarded search marks gates
closed-anew search marks gates long is =
    record { one_each = long; start_in = is.start_in; goal_out = is.goal_out; guarded = λ k. inr (out k (pair_number search.pairs k) refl) }
  where
    leads : (from to : ℕ) → HasStep (steps_of search.pairs) from to → IsTrue (is_marked marks from) → IsTrue (is_marked marks to)
    leads from to has inside =
        subst (λ v. IsTrue (is_marked marks v)) has.to_is
        (is.none_leaves has.step has.there (subst (λ v. IsTrue (is_marked marks v)) (sym has.from_is) inside))

    out : (k : ℕ) (pair : Option Pair) → pair_number search.pairs k ≡ pair → leads_out marks pair ≡ false
    out k None at = refl
    out k (Some p) at =
        neither (leads_from marks p.tail p.head p.along) (leads_from marks p.head p.tail p.against)
        (shut (nat_lt 0 p.along) (is_marked marks p.tail) (is_marked marks p.head)
        (λ room. leads p.tail p.head (has-step 1 search.pairs k p p.tail p.head at (has-along p (has-room p.along room)))))
        (shut (nat_lt 0 p.against) (is_marked marks p.head) (is_marked marks p.tail)
        (λ room. leads p.head p.tail (has-step 1 search.pairs k p p.head p.tail at (has-against p (has-room p.against room)))))

-- ---- changes of pairs

-- Without room no link leads out.
bare-out : (marks : List Bool) (o : Option Pair) → leads_out marks (without_room o) ≡ false
bare-out marks None = refl
bare-out marks (Some p) = refl

-- The search is between the same ends, and no pairs but those at these indices differ, unless they have no room, or are gone.
pub record ChangesAt (touched : List ℕ) (old new : Searched) : Type 0 where
  pub nodes_are : new.nodes ≡ old.nodes
  pub start_is : new.start ≡ old.start
  pub goal_is : new.goal ≡ old.goal
  pub others : (k : ℕ) → Contains touched k
      ⊎ ((pair_number new.pairs k ≡ pair_number old.pairs k) ⊎ (without_room (pair_number new.pairs k) ≡ pair_number new.pairs k))

-- If they are gates, the side stays closed.
closed-touched : (touched : List ℕ) (old new : Searched) (side after : ClosedSide) → IsClosedBut old side → ChangesAt touched old new
    → KeepsGates new side.marks.items (touched ++ side.gates.items) after → IsClosedBut new after
closed-touched touched old new side after is changes keeps =
    record {
      one_each = ap length keeps.marks_are ∙ is.one_each ∙ sym changes.nodes_are;
      start_in = subst (λ v. IsTrue (is_marked after.marks.items v)) (sym changes.start_is)
          (subst (λ marks. IsTrue (is_marked marks old.start)) (sym keeps.marks_are) is.start_in);
      goal_out = λ inside. is.goal_out (subst (λ marks. IsTrue (is_marked marks old.goal)) keeps.marks_are
          (subst (λ v. IsTrue (is_marked after.marks.items v)) changes.goal_is inside));
      guarded = λ k. subst (λ marks. IsGuarded new.pairs marks after.gates.items k) (sym keeps.marks_are) (still k);
    }
  where
    still : (k : ℕ) → IsGuarded new.pairs side.marks.items after.gates.items k
    still k = ⊎_elim
        (λ (one : Contains touched k). keeps.kept k (Contains-append_left touched side.gates.items k one))
        (λ (other : (pair_number new.pairs k ≡ pair_number old.pairs k) ⊎ (without_room (pair_number new.pairs k) ≡ pair_number new.pairs k)). ⊎_elim
        (λ (same : pair_number new.pairs k ≡ pair_number old.pairs k). ⊎_elim
        (λ (gate : Contains side.gates.items k). keeps.kept k (Contains-append_right touched side.gates.items k gate))
        (λ (out : leads_out side.marks.items (pair_number old.pairs k) ≡ false).
        inr (ap (leads_out side.marks.items) same ∙ out))
        (is.guarded k))
        (λ (bare : without_room (pair_number new.pairs k) ≡ pair_number new.pairs k).
        inr (ap (leads_out side.marks.items) (sym bare) ∙ bare-out side.marks.items (pair_number new.pairs k)))
        other)
        (changes.others k)

-- The side that is left, if one is, is closed after one pair changed.
pub closed-gated : (old new : Searched) (side result : Option ClosedSide) (k : ℕ) → IfSome side (IsClosedBut old) → ChangesAt (k ∷ []) old new
    → MayBeGated new side k result → IfSome result (IsClosedBut new)
closed-gated old new side None k is changes gated = tt
closed-gated old new side (Some after) k is changes gated =
    closed-touched (k ∷ []) old new gated.0 after (subst (λ s. IfSome s (IsClosedBut old)) gated.1 is) changes gated.2

-- As many nodes are marked or not as there are.
pub gated-long : (old new : Searched) (side : Option ClosedSide) → IfSome side (IsClosedBut old) → new.nodes ≡ old.nodes
    → IfSome side (λ side. length side.marks.items ≡ new.nodes)
gated-long old new None is same = tt
gated-long old new (Some side) is same = is.one_each ∙ sym same

-- ---- one pair

-- The only one of a list is this.
only : (x k : ℕ) → Contains (x ∷ []) k → x ≡ k
only x k c = subst (λ (i : ℕ). get_or (x ∷ []) i k ≡ k) (let first : c.0 ≡ 0 = omega (arith, c.1) in first) c.2

one : (x k : ℕ) → x ≡ k → Contains (x ∷ []) k
one x k same = (0, omega arith, same)

pub changes-set : (old new : Searched) (k along against : ℕ) → new ≡ with_pairs old (with_rooms old.pairs k along against)
    → ChangesAt (k ∷ []) old new
changes-set old new k along against is =
    record {
      nodes_are = ap (λ (s : Searched). s.nodes) is;
      start_is = ap (λ (s : Searched). s.start) is;
      goal_is = ap (λ (s : Searched). s.goal) is;
      others = λ j. ⊎_elim
          (λ (same : j ≡ k). inl (one k j (sym same)))
          (λ (other : j ≢ k). inr (inl (ap (λ (s : Searched). pair_number s.pairs j) is ∙ get_or-set_other old.pairs k j _ None other)))
          (cases_eq j k);
    }

-- No pair there has no room.
gone : (o : Option Pair) → o ≡ None → without_room o ≡ o
gone o none = ap without_room none ∙ sym none

pub changes-insert : (old new : Searched) (k : ℕ) (pair : Option Pair) → k + 1 ≡ length old.pairs
    → new ≡ with_pairs old (insert old.pairs (length old.pairs - 1) (without_room pair)) → ChangesAt ((k + 1) ∷ []) old new
changes-insert old new k pair last is =
    record {
      nodes_are = ap (λ (s : Searched). s.nodes) is;
      start_is = ap (λ (s : Searched). s.start) is;
      goal_is = ap (λ (s : Searched). s.goal) is;
      others = λ j. ⊎_elim
          (λ (below : j < k). inr (inl (at j ∙ get_or-insert_below old.pairs k bare None j below (omega (arith, last)))))
          (λ (not_below : k ≤ j). ⊎_elim
          (λ (here : k ≡ j). inr (inr (subst (λ i. without_room (pair_number new.pairs i) ≡ pair_number new.pairs i) here
          (ap without_room new_is ∙ emptied-twice pair ∙ sym new_is))))
          (λ (other : k ≢ j). ⊎_elim
          (λ (next : k + 1 ≡ j). inl (one (k + 1) j next))
          (λ (later : k + 1 ≢ j). inr (inr (gone _ (at j ∙ get_or_past _ j None
          (omega (arith, not_below, other, later, last, length-insert old.pairs k bare (omega (arith, last))))))))
          (cases_eq (k + 1) j))
          (cases_eq k j))
          (cases_lt j k);
    }
  where
    bare : Option Pair
    bare = without_room pair

    at : (j : ℕ) → pair_number new.pairs j ≡ pair_number (insert old.pairs k bare) j
    at j =
        let index : length old.pairs - 1 ≡ k = omega (arith, last) in
        ap (λ (s : Searched). pair_number s.pairs j) is ∙ ap (λ i. pair_number (insert old.pairs i bare) j) index

    new_is : pair_number new.pairs k ≡ bare
    new_is = at k ∙ get_or-insert_at old.pairs k bare None (omega (arith, last))

pub changes-remove : (old new : Searched) (k : ℕ) → k + 2 ≡ length old.pairs
    → new ≡ with_pairs old (remove old.pairs (length old.pairs - 2)) → ChangesAt (k ∷ []) old new
changes-remove old new k last is =
    record {
      nodes_are = ap (λ (s : Searched). s.nodes) is;
      start_is = ap (λ (s : Searched). s.start) is;
      goal_is = ap (λ (s : Searched). s.goal) is;
      others = λ j. ⊎_elim
          (λ (below : j < k). inr (inl (at j ∙ get_or-remove_below old.pairs k None j below (omega (arith, last)))))
          (λ (not_below : k ≤ j). ⊎_elim
          (λ (same : k ≡ j). inl (one k j same))
          (λ (other : k ≢ j). inr (inr (gone _ (at j ∙ get_or_past _ j None
          (omega (arith, other, not_below, last, length-remove old.pairs k (omega (arith, last))))))))
          (cases_eq k j))
          (cases_lt j k);
    }
  where
    at : (j : ℕ) → pair_number new.pairs j ≡ pair_number (remove old.pairs k) j
    at j =
        let index : length old.pairs - 2 ≡ k = omega (arith, last) in
        ap (λ (s : Searched). pair_number s.pairs j) is ∙ ap (λ i. pair_number (remove old.pairs i) j) index

-- ---- gates that are dropped

-- A filter keeps each one at which the test does not fail.
filtered : (test : ℕ → Bool) (xs : List ℕ) (k : ℕ) → Contains xs k → Contains (filter test xs) k ⊎ (test k ≡ false)
filtered test [] k c = absurd (omega (arith, c.1))
filtered test (x ∷ xs) k c = by (test x) refl (filtered test xs k) (Contains-append_cases (x ∷ []) xs k c)
  where
    by : (b : Bool) → test x ≡ b → (Contains xs k → Contains (filter test xs) k ⊎ (test k ≡ false)) → Contains (x ∷ []) k ⊎ Contains xs k
        → Contains (cond b (x ∷ filter test xs) (filter test xs)) k ⊎ (test k ≡ false)
    by true e rest (inl own) = inl (Contains-append_left (x ∷ []) (filter test xs) k own)
    by false e rest (inl own) = inr (subst (λ y. test y ≡ false) (only x k own) e)
    by true e rest (inr later) = ⊎_elim
        (λ (kept : Contains (filter test xs) k). inl (Contains-append_right (x ∷ []) (filter test xs) k kept))
        (λ (out : test k ≡ false). inr out)
        (rest later)
    by false e rest (inr later) = rest later

pub kept-filtered : (search : Searched) (marks : List Bool) (gates : List ℕ) (after : ClosedSide) → after.marks.items ≡ marks
    → after.gates.items ≡ filter (λ k. leads_out marks (pair_number search.pairs k)) gates → KeepsGates search marks gates after
kept-filtered search marks gates after same is = record {
  marks_are = same;
  kept = λ k c. subst (λ left. IsGuarded search.pairs marks left k) (sym is) (filtered (λ i. leads_out marks (pair_number search.pairs i)) gates k c);
}

-- ---- a gate that is added

-- The pair at index `k` comes to the gates that are left.
pub kept-pushed : (search : Searched) (marks : List Bool) (gates left : List ℕ) (k : ℕ) (after : ClosedSide) → after.marks.items ≡ marks
    → ((j : ℕ) → Contains gates j → IsGuarded search.pairs marks left j) → after.gates.items ≡ left ++ k ∷ []
    → KeepsGates search marks (k ∷ gates) after
kept-pushed search marks gates left k after same kept is = record {
  marks_are = same;
  kept = λ j c. subst (λ now. IsGuarded search.pairs marks now j) (sym is) (⊎_elim
      (λ (own : Contains (k ∷ []) j). inl (Contains-append_right left (k ∷ []) j own))
      (λ (early : Contains gates j). ⊎_elim
      (λ (gate : Contains left j). inl (Contains-append_left left (k ∷ []) j gate))
      (λ (out : leads_out marks (pair_number search.pairs j) ≡ false). inr out)
      (kept j early))
      (Contains-append_cases (k ∷ []) gates j c));
}

-- The side that was there is the one with the new gate.
pub gated-some : (search : Searched) (side : Option ClosedSide) (before : ClosedSide) (k : ℕ) (result : Option ClosedSide) → side ≡ Some before
    → IfSome result (KeepsGates search before.marks.items (k ∷ before.gates.items)) → MayBeGated search side k result
gated-some search side before k None was keeps = tt
gated-some search side before k (Some after) was keeps = (before, was, keeps)

-- ---- looks at the gates

-- All gates stay,
pub kept-all : (search : Searched) (side : ClosedSide) → KeepsGates search side.marks.items side.gates.items side
kept-all search side = record { marks_are = refl; kept = λ k c. inl c }

-- or some are dropped: the side is still closed.
pub closed-kept : (search : Searched) (side after : ClosedSide) → IsClosedBut search side → KeepsGates search side.marks.items side.gates.items after
    → IsClosedBut search after
closed-kept search side after is keeps = closed-touched [] search search side after is
    (record { nodes_are = refl; start_is = refl; goal_is = refl; others = λ k. inr (inl refl) }) keeps

-- A list without length has nothing.
pub nothing : (xs : List ℕ) → length xs ≡ 0 → xs ≡ []
nothing [] none = refl
nothing (x ∷ xs) none = absurd (omega (arith, none))
