-- The moves of an edit: making them, listing them, and what they say about the flows.
use Rattle.std.proofs.Common.{ℕ, ◌≡◌, ◌≢◌, ◌+◌, ◌-◌, ◌<◌, ◌≤◌, ◌==◌, List, [], ◌∷◌, ◌++◌, length, get_or, set, take, drop, true, false, cond, if◌then◌else◌}
use Rattle.std.proofs.Common.{◌^◌, refl, ap, ◌∙◌, sym, subst, arith, suc, zero, Some, Bool, add-zero, append_assoc, length-append, ⊎_elim, eq-eqb}
use Rattle.std.specs.List.{slice_get}
use Rattle.std.proofs.lemmas.Bool.Decides.{eqb_tells}
use Rattle.std.proofs.lemmas.List.{get_or-set_same, get_or-set_other, set-set, set-get_or, length-set}
use Rattle.std.proofs.lemmas.Option.{slice_get-get_or, slice_get_within, get_or_from_slice_get}
use Rattle.dmf_state.specs.declared.edit.Move.{Move}
use Rattle.std.proofs.Math.Numerals.{add-one, one-add}
use Rattle.std.proofs.Math.Seq.{drop-cons, set-append_seam}
use Rattle.std.proofs.Math.ListN.{drop_of_length-le}
use Rattle.std.proofs.lemmas.Slice.Zip.{AllZip-long}
use Rattle.dmf_state.specs.declared.arc.Arc.{Arc}
use Rattle.dmf_state.specs.declared.flow_sums.NodeFlow.{NodeFlow}
use Rattle.dmf_state.specs.Arc.{capacity_sum}
use Rattle.dmf_state.specs.Flow.{flow_at, AreWithinCapacities}
use Rattle.dmf_state.specs.FlowSums.{IsNodeFlow}
use Rattle.dmf_state.specs.NetworkState.{NetworkState, IsState, with_flows}
use Rattle.dmf_state.specs.Arc.{no_arc}
use Rattle.dmf_state.proofs.Changing.{flow_at-set, flow_at-le, flow_at-part, within-set, within-at}
use Rattle.dmf_state.specs.Edit.{moved, MovesFit, differences}

-- a read of a move past the end of a list
abbrev pub no_move : Move
no_move = record { arc = 0; from = 0; to = 0 }

-- a write to an arc before those that the moves name keeps what the moves say
pub MovesFit-set : (last k y : ℕ) (moves : List Move) (flows : List ℕ) → k < last → MovesFit last moves flows → MovesFit last moves (set flows k y)
MovesFit-set last k y [] flows h fit = tt
MovesFit-set last k y (m ∷ moves) flows h fit =
    let i : ℕ = m.arc - 1 in
    let within = slice_get_within flows i m.from fit.1 in
    let other : i ≢ k = λ e. omega (arith, fit.0, h, e) in
    let read : slice_get (set flows k y) i ≡ Some m.from =
    slice_get-get_or (set flows k y) i 0 (rw length-set within) ∙ ap Some
    (get_or-set_other flows k i y 0 other ∙ get_or_from_slice_get flows i m.from 0 fit.1) in
    (fit.0, read, MovesFit-set m.arc k y moves flows (omega (arith, fit.0, h)) fit.2)

-- what is true of moves past an arc is true of them past each arc before it
pub MovesFit-earlier : (last first : ℕ) (moves : List Move) (flows : List ℕ) → first ≤ last → MovesFit last moves flows → MovesFit first moves flows
MovesFit-earlier last first [] flows h fit = tt
MovesFit-earlier last first (m ∷ moves) flows h fit = (omega (arith, fit.0, h), fit.1, fit.2)

-- one move is made, and the others still fit
pub MovesFit-made : (last : ℕ) (m : Move) (moves : List Move) (flows : List ℕ) → MovesFit last (m ∷ moves) flows
    → MovesFit m.arc moves (set flows (m.arc - 1) m.to)
MovesFit-made last m moves flows fit = MovesFit-set m.arc (m.arc - 1) m.to moves flows (omega (arith, fit.0)) fit.2

-- moves past an arc leave its flow
pub moved-other : (last k : ℕ) (moves : List Move) (flows : List ℕ) → k < last → MovesFit last moves flows → get_or (moved moves flows) k 0 ≡ get_or flows k 0
moved-other last k [] flows h fit = refl
moved-other last k (m ∷ moves) flows h fit =
    let other : k ≢ m.arc - 1 = λ e. omega (arith, fit.0, h, e) in
    moved-other m.arc k moves (set flows (m.arc - 1) m.to) (omega (arith, fit.0, h)) (MovesFit-made last m moves flows fit)
    ∙ get_or-set_other flows (m.arc - 1) k m.to 0 other

-- the first arc that the moves name gets the flow that its move gives it
pub moved-first : (last : ℕ) (m : Move) (moves : List Move) (flows : List ℕ) → MovesFit last (m ∷ moves) flows
    → get_or (moved (m ∷ moves) flows) (m.arc - 1) 0 ≡ m.to
moved-first last m moves flows fit =
    let within = slice_get_within flows (m.arc - 1) m.from fit.1 in
    moved-other m.arc (m.arc - 1) moves (set flows (m.arc - 1) m.to) (omega (arith, fit.0)) (MovesFit-made last m moves flows fit)
    ∙ get_or-set_same flows (m.arc - 1) m.to 0 within

-- a read of a value that was overwritten
pub unset : (flows : List ℕ) (m : Move) → slice_get flows (m.arc - 1) ≡ Some m.from → set (set flows (m.arc - 1) m.to) (m.arc - 1) m.from ≡ flows
unset flows m read =
    set-set flows (m.arc - 1) m.to m.from
    ∙ ap (λ x. set flows (m.arc - 1) x) (sym (get_or_from_slice_get flows (m.arc - 1) m.from 0 read))
    ∙ set-get_or flows (m.arc - 1) 0

-- The first `i` moves are made, and the sums at the node are those of the flows since.
pub record AreMoved (arcs : List Arc) (moves : List Move) (last_flows : List ℕ) (v i : ℕ) (flows : List ℕ) (sums : NodeFlow) : Type 0 where
  pub last : ℕ
  pub fit : MovesFit last (drop i moves) flows
  pub rest : moved (drop i moves) flows ≡ last_flows
  pub within : AreWithinCapacities arcs flows
  pub at_node : IsNodeFlow arcs flows v sums

-- before the first move
pub moved-none : (arcs : List Arc) (moves : List Move) (v : ℕ) (flows : List ℕ) (sums : NodeFlow) → MovesFit 0 moves flows → AreWithinCapacities arcs flows
    → IsNodeFlow arcs flows v sums → AreMoved arcs moves (moved moves flows) v 0 flows sums
moved-none arcs moves v flows sums fit within at_node = record { last = 0; fit = fit; rest = refl; within = within; at_node = at_node }

-- the move at this index
pub record IsMoveAt (moves : List Move) (i : ℕ) (m : Move) : Type 0 where
  pub within : i < length moves
  pub is : get_or moves i no_move ≡ m

-- The next move names an arc of the network, its flow now, and its flow after the move.
pub record IsNextMove (arcs : List Arc) (last_flows flows : List ℕ) (m : Move) : Type 0 where
  pub from_one : 1 ≤ m.arc
  pub in_flows : m.arc - 1 < length flows
  pub in_arcs : m.arc - 1 < length arcs
  pub same : length flows ≡ length arcs
  pub was : get_or flows (m.arc - 1) 0 ≡ m.from
  pub will_be : get_or last_flows (m.arc - 1) 0 ≡ m.to

module _ {arcs : List Arc} {moves : List Move} {last_flows : List ℕ} {v i : ℕ} {flows : List ℕ} {sums : NodeFlow} {m : Move}
    (next : IsMoveAt moves i m) (a : AreMoved arcs moves last_flows v i flows sums) where
  split : drop i moves ≡ m ∷ drop (i + 1) moves
  split = rw (add-one i, drop-cons moves i no_move next.within, next.is) refl

  fit : MovesFit a.last (m ∷ drop (i + 1) moves) flows
  fit = subst (λ ms. MovesFit a.last ms flows) split a.fit

  rest : moved (m ∷ drop (i + 1) moves) flows ≡ last_flows
  rest = subst (λ ms. moved ms flows ≡ last_flows) split a.rest

  -- The next move is of an arc, and moves its flow.
  pub next-move : IsNextMove arcs last_flows flows m
  next-move =
      let within = slice_get_within flows (m.arc - 1) m.from fit.1 in
      let same = AllZip-long _ arcs flows a.within in
      record {
        from_one = omega (arith, fit.0);
        in_flows = within;
        in_arcs = omega (arith, within, same);
        same = same;
        was = get_or_from_slice_get flows (m.arc - 1) m.from 0 fit.1;
        will_be = ap (λ xs. get_or xs (m.arc - 1) 0) (sym rest) ∙ moved-first a.last m (drop (i + 1) moves) flows fit;
      }

  -- the capacity allows the flow after the move
  to-le : AreWithinCapacities arcs last_flows → m.to ≤ (get_or arcs (m.arc - 1) no_arc).cap
  to-le within = omega (arith, within-at arcs last_flows (m.arc - 1) within, next-move.will_be)

  -- Where the arc is at the node, the move's flow is part of the sum there,
  pub part-of_sum : (end : Arc → ℕ) → (end (get_or arcs (m.arc - 1) no_arc) == v) ≡ true → m.from ≤ flow_at end arcs flows v
  part-of_sum end here =
      let part = flow_at-part end arcs flows (m.arc - 1) v next-move.same next-move.in_arcs in
      omega (arith, rw here at part, next-move.was)

  -- which becomes that of the flows after the move,
  pub sum-after : (end : Arc → ℕ) (old : ℕ) → old ≡ flow_at end arcs flows v → (new : ℕ)
      → new + cond (end (get_or arcs (m.arc - 1) no_arc) == v) m.from 0 ≡ old + cond (end (get_or arcs (m.arc - 1) no_arc) == v) m.to 0
      → new ≡ flow_at end arcs (set flows (m.arc - 1) m.to) v
  sum-after end old was new e =
      let changed = flow_at-set end arcs flows (m.arc - 1) m.to v next-move.same next-move.in_arcs in
      let changed-from = rw next-move.was at changed in
      omega (arith, was, e, changed-from)

  -- and fits 64 bits.
  pub small-after : (end : Arc → ℕ) → AreWithinCapacities arcs last_flows → capacity_sum arcs < 2 ^ 64 → (end (get_or arcs (m.arc - 1) no_arc) == v) ≡ true
      → flow_at end arcs flows v - m.from + m.to < 2 ^ 64
  small-after end within capacities here =
      let set_is = flow_at-set end arcs flows (m.arc - 1) m.to v next-move.same next-move.in_arcs in
      let changed = rw (here, next-move.was) at set_is in
      let le = flow_at-le end arcs (set flows (m.arc - 1) m.to) v (within-set arcs flows (m.arc - 1) m.to a.within (to-le within)) in
      omega (arith, changed, le, capacities, part-of_sum end here)

  -- So one more is made.
  pub moved-more : (after : NodeFlow) → AreWithinCapacities arcs last_flows → IsNodeFlow arcs (set flows (m.arc - 1) m.to) v after
      → AreMoved arcs moves last_flows v (i + 1) (set flows (m.arc - 1) m.to) after
  moved-more after within at_node = record {
    last = m.arc;
    fit = MovesFit-made a.last m (drop (i + 1) moves) flows fit;
    rest = rest;
    within = within-set arcs flows (m.arc - 1) m.to a.within (to-le within);
    at_node = at_node;
  }

-- after the last move
pub moved-all : (arcs : List Arc) (moves : List Move) (last_flows : List ℕ) (v i : ℕ) (flows : List ℕ) (sums : NodeFlow) → length moves ≤ i
    → AreMoved arcs moves last_flows v i flows sums → flows ≡ last_flows
moved-all arcs moves last_flows v i flows sums long a = subst (λ ms. moved ms flows ≡ last_flows) (drop_of_length-le moves long) a.rest

-- the move of one arc, where its flow differs
abbrev pub move_of : ℕ → ℕ → ℕ → List Move
move_of j x y = if x == y then [] else record { arc = j; from = x; to = y } ∷ []

-- It is there where the flows differ,
pub move_of-differ : (j x y : ℕ) → x ≢ y → move_of j x y ≡ record { arc = j; from = x; to = y } ∷ []
move_of-differ j x y d = ⊎_elim
    (λ (e : ((x == y) ≡ true) × (x ≡ y)). absurd (d e.1))
    (λ (e : ((x == y) ≡ false) × (x ≢ y)). rw e.0 refl)
    (eqb_tells x y)

-- and else not.
pub move_of-same : (j x y : ℕ) → x ≡ y → move_of j x y ≡ []
move_of-same j x y e = rw (eq-eqb x y e) refl

one-more : (b : Bool) (m : Move) (after moves more : List Move) → after ≡ moves ++ more
    → (if b then after else m ∷ after) ≡ (if b then moves else m ∷ moves) ++ more
one-more true m after moves more e = e
one-more false m after moves more e = ap (λ ms. m ∷ ms) e

differences-next : (j i : ℕ) (xs ys : List ℕ) → i < length xs → length ys ≡ length xs
    → differences j (take (suc i) xs) (take (suc i) ys) ≡ differences j (take i xs) (take i ys) ++ move_of (j + i) (get_or xs i 0) (get_or ys i 0)
differences-next j i [] ys h same = absurd (omega (arith, h))
differences-next j i (x ∷ xs) [] h same = absurd (omega (arith, same))
differences-next j zero (x ∷ xs) (y ∷ ys) h same = ap (λ k. move_of k x y) (sym (add-zero j))
differences-next j (suc i) (x ∷ xs) (y ∷ ys) h same =
    let place : j + suc i ≡ j + 1 + i = omega arith in
    one-more (x == y) (record { arc = j; from = x; to = y }) _ _ _
    (rw place (differences-next (j + 1) i xs ys (omega (arith, h)) (omega (arith, same))))

-- the moves, with the move of the next arc
pub differences-more : (i : ℕ) (xs ys : List ℕ) → i < length xs → length ys ≡ length xs
    → differences 1 (take (i + 1) xs) (take (i + 1) ys) ≡ differences 1 (take i xs) (take i ys) ++ move_of (i + 1) (get_or xs i 0) (get_or ys i 0)
differences-more i xs ys h same =
    rw (add-one i) (rw (one-add i) at (differences-next 1 i xs ys h same))

read-middle : (done : List ℕ) (x : ℕ) (xs : List ℕ) → slice_get (done ++ x ∷ xs) (length done) ≡ Some x
read-middle [] x xs = refl
read-middle (d ∷ done) x xs = read-middle done x xs

fit-cases : (b : Bool) (n x y : ℕ) (moves : List Move) (flows : List ℕ) → slice_get flows (n + 1 - 1) ≡ Some x → MovesFit (n + 1) moves flows
    → MovesFit n (if b then moves else record { arc = n + 1; from = x; to = y } ∷ moves) flows
fit-cases true n x y moves flows read rest = MovesFit-earlier (n + 1) n moves flows (omega arith) rest
fit-cases false n x y moves flows read rest = (omega arith, read, rest)

-- The moves between two lists of flows fit the first.
pub differences-fit : (done xs ys : List ℕ) → length ys ≡ length xs → MovesFit (length done) (differences (length done + 1) xs ys) (done ++ xs)
differences-fit done [] ys same = tt
differences-fit done (x ∷ xs) [] same = tt
differences-fit done (x ∷ xs) (y ∷ ys) same =
    let one_more : length (done ++ x ∷ []) ≡ length done + 1 = length-append done (x ∷ []) in
    let rest : MovesFit (length done + 1) (differences (length done + 1 + 1) xs ys) (done ++ x ∷ xs) =
    rw (one_more, append_assoc done (x ∷ []) xs) at (differences-fit (done ++ x ∷ []) xs ys (omega (arith, same))) in
    let place : length done + 1 - 1 ≡ length done = omega arith in
    fit-cases (x == y) (length done) x y _ (done ++ x ∷ xs) (rw place (read-middle done x xs)) rest

-- and make the first into the second
pub moved-differences : (done xs ys : List ℕ) → length ys ≡ length xs → moved (differences (length done + 1) xs ys) (done ++ xs) ≡ done ++ ys
moved-differences done [] [] same = refl
moved-differences done (x ∷ xs) (y ∷ ys) same =
    let one_more : length (done ++ y ∷ []) ≡ length done + 1 = length-append done (y ∷ []) in
    let rest : moved (differences (length done + 1 + 1) xs ys) (done ++ y ∷ xs) ≡ done ++ y ∷ ys =
    rw (one_more, append_assoc done (y ∷ []) xs, append_assoc done (y ∷ []) ys) at (moved-differences (done ++ y ∷ []) xs ys (omega (arith, same))) in
    let place : length done + 1 - 1 ≡ length done = omega arith in
    ⊎_elim
    (λ (e : ((x == y) ≡ true) × (x ≡ y)). rw (e.0, e.1) rest)
    (λ (d : ((x == y) ≡ false) × (x ≢ y)). rw d.0
    (ap (moved (differences (length done + 1 + 1) xs ys)) (ap (λ k. set (done ++ x ∷ xs) k y) place ∙ set-append_seam done x xs y) ∙ rest))
    (eqb_tells x y)
moved-differences done xs ys same = absurd (omega (arith, same))

-- The moves turn the first flows into the second, and name just the arcs whose flow differs.
pub record AreMovesBetween (moves : List Move) (before after : List ℕ) : Type 0 where
  pub fit : MovesFit 0 moves before
  pub makes : moved moves before ≡ after
  pub differ : moves ≡ differences 1 before (moved moves before)

-- Such are the differences of two lists of flows.
pub moves-between : (moves : List Move) (before after : List ℕ) → length after ≡ length before → moves ≡ differences 1 before after
    → AreMovesBetween moves before after
moves-between moves before after same is =
    let makes : moved moves before ≡ after = rw is (moved-differences [] before after same) in
    record {
      fit = rw is (differences-fit [] before after same);
      makes = makes;
      differ = is ∙ ap (differences 1 before) (sym makes);
    }

-- Two flows of one network have the same length.
pub flows-long : (s : NetworkState) (flows : List ℕ) → IsState s → IsState (with_flows s flows) → length flows ≡ length s.flows
flows-long s flows before after =
    let long_before = AllZip-long _ s.network.arcs s.flows before.flow.within in
    let long_after = AllZip-long _ s.network.arcs flows after.flow.within in
    omega (arith, long_before, long_after)
