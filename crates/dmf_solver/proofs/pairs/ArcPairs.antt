-- Lists that have a pair of links for each arc with its flow, and after them the pair of the return link.
use Rattle.std.proofs.Common.{ℕ, ◌≡◌, ◌≢◌, ◌+◌, ◌*◌, ◌^◌, ◌<◌, ◌≤◌, ◌==◌, true, false, cond, List, [], ◌∷◌, ◌++◌, length, get_or, set, zero, suc, refl, ap, sym}
use Rattle.std.proofs.Common.{◌∙◌, subst, map, arith, ⊎_elim, eq-eqb, length-append, Option, Some, None}
use Rattle.std.proofs.Common.{Bool, ltb}
use Rattle.std.specs.List.{Contains, slice_get}
use Rattle.std.specs.Option.{option_map}
use Rattle.std.proofs.lemmas.Bool.{ne_eqb, cases_lt}
use Rattle.std.proofs.lemmas.Bool.Decides.{eqb_tells}
use Rattle.std.proofs.lemmas.Grind.{same_number_lists}
use Rattle.std.proofs.lemmas.List.{append-nil, get_or_push, length_push}
use Rattle.std.proofs.lemmas.List.Edits.{insert_end, insert-append_left, remove-append_left, remove-append_right}
use Rattle.std.specs.Prelude.{insert, remove}
use Rattle.std.proofs.Common.{◌-◌}
use Rattle.std.proofs.lemmas.List.Elements.{All-get_or, Contains-append_cases}
use Rattle.std.proofs.lemmas.List.Sums.{get_or-le-sum_by}
use Rattle.std.proofs.lemmas.Option.{get_or_from_slice_get, slice_get-get_or, slice_get_within}
use Rattle.std.proofs.lemmas.Slice.Zip.{AllZip-long}
use Rattle.dmf_links.specs.declared.pair.Pair.{Pair}
use Rattle.dmf_links.specs.Pair.{without_room, pair_number, IsPair, ArePairs}
use Rattle.dmf_path.specs.Step.{Step}
use Rattle.dmf_path.specs.Path.{IsPath, has_rank}
use Rattle.dmf_path.specs.Pair.{pair_steps, steps_from, steps_of}
use Rattle.dmf_path.specs.Search.{pair_with, with_rooms}
use Rattle.dmf_path.proofs.paths.Loops.{AreWithoutLoops}
use Rattle.dmf_state.specs.declared.arc.Arc.{Arc}
use Rattle.dmf_state.specs.Arc.{IsArc, no_arc}
use Rattle.dmf_state.specs.Flow.{AreWithinCapacities}
use Rattle.dmf_state.specs.Network.{Network, IsNetwork}
use Rattle.dmf_state.specs.NetworkState.{NetworkState, IsState}
use Rattle.dmf_state.proofs.Changing.{within-at}
use Rattle.dmf_solver.specs.CarryingNetwork.{return_of}
use Rattle.dmf_solver.specs.Pairs.{PairLink, room_of, flow_read, flows_read, IsArcAt, KeepLoops}
use Rattle.dmf_solver.proofs.pairs.ByArc.{ByArc, step-at, has-step, optional-each}
use Rattle.dmf_solver.proofs.pairs.FlowsRead.{length-flows_read, get_or-flows_read}

-- the pair of an arc with its flow; a self loop has none
abbrev arc_pair : (Arc → ℕ → Pair) → Arc → ℕ → Option Pair
arc_pair pair arc flow = cond (arc.tail == arc.head) None (Some (pair arc flow))

-- The list `all` has the pair of each arc, from its tail to its head. The room of one link of a pair is the flow, and both rooms together
-- are at most the capacity.
pub record PairsByArc : Type 0 where
  pub along : Arc → ℕ → ℕ
  pub against : Arc → ℕ → ℕ
  pub all : List Arc → List ℕ → List (Option Pair)
  pub none : (flows : List ℕ) → all [] flows ≡ []
  pub short : (arc : Arc) (arcs : List Arc) → all (arc ∷ arcs) [] ≡ []
  pub more : (arc : Arc) (arcs : List Arc) (flow : ℕ) (flows : List ℕ) → all (arc ∷ arcs) (flow ∷ flows)
      ≡ arc_pair (λ a x. record { tail = a.tail; head = a.head; along = along a x; against = against a x }) arc flow ∷ all arcs flows
  pub link : PairLink
  pub reads : (arc : Arc) (flow : ℕ)
      → room_of link (record { tail = arc.tail; head = arc.head; along = along arc flow; against = against arc flow }) ≡ flow
  pub fits : (arc : Arc) (flow : ℕ) → flow ≤ arc.cap → along arc flow + against arc flow ≤ arc.cap

-- ---- the ranks of a pair's steps

rank-of_pair : (j : ℕ) (p : Option Pair) (s : Step) → Contains (pair_steps j p) s → (2 * j ≤ s.rank) × (s.rank ≤ 2 * j + 1)
rank-of_pair j None s c = absurd (omega (arith, c.1))
rank-of_pair j (Some p) s c =
    let between : Step → Type 0 = λ t. (2 * j ≤ t.rank) × (t.rank ≤ 2 * j + 1) in
    let first : Step = record { from = p.tail; to = p.head; rank = 2 * j; room = p.along } in
    let second : Step = record { from = p.head; to = p.tail; rank = 2 * j + 1; room = p.against } in
    ⊎_elim
    (optional-each between (ltb 0 p.along) first s (λ _. (omega arith, omega arith)))
    (optional-each between (ltb 0 p.against) second s (λ _. (omega arith, omega arith)))
    (Contains-append_cases (cond (ltb 0 p.along) (first ∷ []) []) (cond (ltb 0 p.against) (second ∷ []) []) s c)

rank-first : (j : ℕ) (pairs : List (Option Pair)) (s : Step) → Contains (steps_from j pairs) s → 2 * j ≤ s.rank
rank-first j [] s c = absurd (omega (arith, c.1))
rank-first j (p ∷ pairs) s c =
    ⊎_elim
    (λ (own : Contains (pair_steps j p) s). (rank-of_pair j p s own).0)
    (λ (later : Contains (steps_from (j + 1) pairs) s). omega (arith, rank-first (j + 1) pairs s later))
    (Contains-append_cases (pair_steps j p) (steps_from (j + 1) pairs) s c)

-- No step has a rank of an index without a pair,
rank-missing : (j : ℕ) (pairs : List (Option Pair)) (s : Step) (k : ℕ) → Contains (steps_from j pairs) s → pair_number pairs k ≡ None → 2 * (j + k) ≤ s.rank
    → s.rank ≤ 2 * (j + k) + 1 → ⊥
rank-missing j [] s k c none from to = omega (arith, c.1)
rank-missing j (p ∷ pairs) s zero c none from to =
    ⊎_elim
    (λ (own : Contains (pair_steps j p) s). let empty = rw none at own in omega (arith, empty.1))
    (λ (later : Contains (steps_from (j + 1) pairs) s). omega (arith, to, rank-first (j + 1) pairs s later))
    (Contains-append_cases (pair_steps j p) (steps_from (j + 1) pairs) s c)
rank-missing j (p ∷ pairs) s (suc k) c none from to =
    ⊎_elim
    (λ (own : Contains (pair_steps j p) s). let last = (rank-of_pair j p s own).1 in omega (arith, from, last))
    (λ (later : Contains (steps_from (j + 1) pairs) s). rank-missing (j + 1) pairs s k later none (omega (arith, from)) (omega (arith, to)))
    (Contains-append_cases (pair_steps j p) (steps_from (j + 1) pairs) s c)

-- and so has no path.
path-missing : (pairs : List (Option Pair)) (a b k rank : ℕ) (path : List Step) → IsPath (steps_of pairs) a b path → pair_number pairs k ≡ None
    → 2 * (1 + k) ≤ rank → rank ≤ 2 * (1 + k) + 1 → has_rank path rank ≡ false
path-missing pairs a b k rank [] leads none from to = refl
path-missing pairs a b k rank (s ∷ path) leads none from to =
    rw (ne_eqb s.rank rank (λ e. rank-missing 1 pairs s k leads.0 none (omega (arith, e, from)) (omega (arith, e, to))))
    (path-missing pairs s.to b k rank path leads.2 none from to)

-- the element before the last one is taken out
last-removed : {A : Type 0} (xs : List A) (x last : A) → remove ((xs ++ x ∷ []) ++ last ∷ []) (length ((xs ++ x ∷ []) ++ last ∷ []) - 2) ≡ xs ++ last ∷ []
last-removed xs x last =
    let at : length ((xs ++ x ∷ []) ++ last ∷ []) - 2 ≡ length xs = omega (arith, length_push (xs ++ x ∷ []) last, length_push xs x) in
    let here : length xs - length xs ≡ 0 = omega arith in
    ap (remove ((xs ++ x ∷ []) ++ last ∷ [])) at
    ∙ remove-append_left (xs ++ x ∷ []) (last ∷ []) (length xs) (omega (arith, length_push xs x))
    ∙ ap (λ left. left ++ last ∷ [])
    (remove-append_right xs (x ∷ []) (length xs) (length xs) refl (omega arith) ∙ ap (λ i. xs ++ remove (x ∷ []) i) here ∙ append-nil xs)

module _ (by : PairsByArc) where
  abbrev pair : Arc → ℕ → Pair
  pair a x = record { tail = a.tail; head = a.head; along = by.along a x; against = by.against a x }

  abbrev own : Arc → ℕ → Option Pair
  own = arc_pair pair

  -- ---- how many pairs there are, and which

  -- one for each arc
  pub length-pairs : (arcs : List Arc) (flows : List ℕ) → length flows ≡ length arcs → length (by.all arcs flows) ≡ length arcs
  length-pairs [] flows same = ap length (by.none flows)
  length-pairs (arc ∷ arcs) [] same = absurd (omega (arith, same))
  length-pairs (arc ∷ arcs) (flow ∷ flows) same =
      ap length (by.more arc arcs flow flows) ∙ ap suc (length-pairs arcs flows (omega (arith, same)))

  -- and one more
  pub length-with_last : (arcs : List Arc) (flows : List ℕ) (last : Option Pair) → length flows ≡ length arcs
      → length (by.all arcs flows ++ last ∷ []) ≡ length arcs + 1
  length-with_last arcs flows last same = omega (arith, length_push (by.all arcs flows) last, length-pairs arcs flows same)

  -- The pair of each arc is at its index,
  pub pair-of_arc : (arcs : List Arc) (flows : List ℕ) (rest : List (Option Pair)) (k : ℕ) → length flows ≡ length arcs → k < length arcs
      → slice_get (by.all arcs flows ++ rest) k ≡ Some (own (get_or arcs k no_arc) (get_or flows k 0))
  pair-of_arc [] flows rest k same h = absurd (omega (arith, h))
  pair-of_arc (arc ∷ arcs) [] rest k same h = absurd (omega (arith, same))
  pair-of_arc (arc ∷ arcs) (flow ∷ flows) rest zero same h = ap (λ ps. slice_get (ps ++ rest) 0) (by.more arc arcs flow flows)
  pair-of_arc (arc ∷ arcs) (flow ∷ flows) rest (suc k) same h =
      ap (λ ps. slice_get (ps ++ rest) (suc k)) (by.more arc arcs flow flows) ∙ pair-of_arc arcs flows rest k (omega (arith, same)) (omega (arith, h))

  -- so reading the list there gives the pair,
  pub pair_number-of_arc : (arcs : List Arc) (flows : List ℕ) (rest : List (Option Pair)) (k : ℕ) → length flows ≡ length arcs → k < length arcs
      → pair_number (by.all arcs flows ++ rest) k ≡ own (get_or arcs k no_arc) (get_or flows k 0)
  pair_number-of_arc arcs flows rest k same h = get_or_from_slice_get _ k _ None (pair-of_arc arcs flows rest k same h)

  -- and past the arcs there is the last pair.
  pair-of_last : (arcs : List Arc) (flows : List ℕ) (last : Option Pair) (k : ℕ) → length flows ≡ length arcs → k < length (by.all arcs flows ++ last ∷ [])
      → length arcs ≤ k → slice_get (by.all arcs flows ++ last ∷ []) k ≡ Some last
  pair-of_last arcs flows last k same within past =
      let here : length (by.all arcs flows) ≡ k = omega (arith, within, past, length-pairs arcs flows same, length_push (by.all arcs flows) last) in
      slice_get-get_or (by.all arcs flows ++ last ∷ []) k last within ∙ ap Some (get_or_push (by.all arcs flows) last last k here)

  module _ (s : NetworkState) (state : IsState s) (last : Option Pair) (k : ℕ) where
    -- In a state the pair of an arc is that of the arc with its flow,
    pub pair-at : (at : Arc × ℕ) → IsArcAt s k at → slice_get (by.all s.network.arcs s.flows ++ last ∷ []) k ≡ Some (own at.0 at.1)
    pair-at at is =
        pair-of_arc s.network.arcs s.flows (last ∷ []) k (AllZip-long _ s.network.arcs s.flows state.flow.within) is.within
        ∙ (λ t. Some (own (sym is.arc_is t) (sym is.flow_is t)))

    -- and past the arcs there is the last pair.
    pub pair-past : k < length (by.all s.network.arcs s.flows ++ last ∷ []) → length s.network.arcs ≤ k
        → slice_get (by.all s.network.arcs s.flows ++ last ∷ []) k ≡ Some last
    pair-past = pair-of_last s.network.arcs s.flows last k (AllZip-long _ s.network.arcs s.flows state.flow.within)

  -- ---- the pairs are valid pairs

  -- If the flow on an arc is at most its capacity, the arc has a valid pair.
  pub pair-is : (nodes : ℕ) (arc : Arc) (flow : ℕ) (p : Pair) → IsArc nodes arc → flow ≤ arc.cap → arc.cap < 2 ^ 64 → own arc flow ≡ Some p → IsPair nodes p
  pair-is nodes arc flow p is within small has =
      ⊎_elim
      (λ (loop : ((arc.tail == arc.head) ≡ true) × (arc.tail ≡ arc.head)). absurd (let none : None ≡ Some p = rw loop.0 at has in cc))
      (λ (apart : ((arc.tail == arc.head) ≡ false) × (arc.tail ≢ arc.head)).
      let made : pair arc flow ≡ p = let some : Some (pair arc flow) ≡ Some p = rw apart.0 at has in cc in
      subst (IsPair nodes) made
      (record { tail = is.tail; head = is.head; no_loop = apart.1; fits = omega (arith, by.fits arc flow within, small) }))
      (eqb_tells arc.tail arc.head)

  -- So all are pairs, and so is that of the return link.
  pub ArePairs-by_arc : (n : Network) (flows : List ℕ) (room : ℕ) → IsNetwork n → AreWithinCapacities n.arcs flows → room < 2 ^ 64
      → ArePairs n.nodes (by.all n.arcs flows ++ return_of n room ∷ [])
  ArePairs-by_arc n flows room network within small =
      let pairs = by.all n.arcs flows ++ return_of n room ∷ [] in
      let same = AllZip-long _ n.arcs flows within in
      record {
        each = λ k p has.
            ⊎_elim
            (λ (inside : k < length n.arcs).
            let le = get_or-le-sum_by (λ (a : Arc). a.cap) n.arcs k no_arc inside in
            let read = pair-of_arc n.arcs flows (return_of n room ∷ []) k same inside in
            pair-is n.nodes (get_or n.arcs k no_arc) (get_or flows k 0) p (All-get_or (IsArc n.nodes) n.arcs k no_arc inside network.arcs)
            (within-at n.arcs flows k within) (omega (arith, le, network.capacities))
            (let told : own (get_or n.arcs k no_arc) (get_or flows k 0) ≡ Some p = cc in told))
            (λ (past : length n.arcs ≤ k).
            let read = pair-of_last n.arcs flows (return_of n room) k same (slice_get_within pairs k (Some p) has) past in
            let made : record { tail = n.sink; head = n.source; along = room; against = 0 } ≡ p = cc in
            subst (IsPair n.nodes) made
            (record { tail = network.sink; head = network.source; no_loop = λ e. network.two_terminals (sym e); fits = omega (arith, small) }))
            (cases_lt k (length n.arcs));
        at_most = omega (arith, length-with_last n.arcs flows (return_of n room) same, network.at_most_arcs);
      }

  -- ---- one arc or flow differs

  -- With one arc more there is its pair behind those of the arcs before.
  pub pairs-added : (arcs : List Arc) (flows : List ℕ) (arc : Arc) → length flows ≡ length arcs
      → by.all (arcs ++ arc ∷ []) (flows ++ 0 ∷ []) ≡ by.all arcs flows ++ own arc 0 ∷ []
  pairs-added [] [] arc same = rw (by.more arc [] 0 [], by.none []) refl
  pairs-added [] (flow ∷ flows) arc same = absurd (omega (arith, same))
  pairs-added (a ∷ arcs) [] arc same = absurd (omega (arith, same))
  pairs-added (a ∷ arcs) (flow ∷ flows) arc same =
      rw (by.more a (arcs ++ arc ∷ []) flow (flows ++ 0 ∷ []), by.more a arcs flow flows)
      (ap (λ pairs. own a flow ∷ pairs) (pairs-added arcs flows arc (omega (arith, same))))

  -- The pair of one more arc goes in before the last pair,
  pub pairs-inserted : (arcs : List Arc) (flows : List ℕ) (arc : Arc) (p last : Option Pair) → length flows ≡ length arcs → own arc 0 ≡ p
      → insert (by.all arcs flows ++ last ∷ []) (length (by.all arcs flows ++ last ∷ []) - 1) p ≡ by.all (arcs ++ arc ∷ []) (flows ++ 0 ∷ []) ++ last ∷ []
  pairs-inserted arcs flows arc p last same is =
      let pairs = by.all arcs flows in
      let at : length (pairs ++ last ∷ []) - 1 ≡ length pairs = omega (arith, length_push pairs last) in
      ap (λ k. insert (pairs ++ last ∷ []) k p) at
      ∙ insert-append_left pairs (last ∷ []) (length pairs) p (omega arith)
      ∙ ap (λ made. made ++ last ∷ []) (insert_end pairs p ∙ ap (λ x. pairs ++ x ∷ []) (sym is) ∙ sym (pairs-added arcs flows arc same))

  -- and is taken out from there.
  pub pairs-removed : (arcs : List Arc) (flows : List ℕ) (arc : Arc) (last : Option Pair) → length flows ≡ length arcs
      → remove (by.all (arcs ++ arc ∷ []) (flows ++ 0 ∷ []) ++ last ∷ []) (length (by.all (arcs ++ arc ∷ []) (flows ++ 0 ∷ []) ++ last ∷ []) - 2)
      ≡ by.all arcs flows ++ last ∷ []
  pairs-removed arcs flows arc last same =
      ap (λ ps. remove (ps ++ last ∷ []) (length (ps ++ last ∷ []) - 2)) (pairs-added arcs flows arc same)
      ∙ last-removed (by.all arcs flows) (own arc 0) last

  flow-pair : (arc : Arc) (first flow : ℕ) (loop : Bool) → (arc.tail == arc.head) ≡ loop
      → own arc flow ≡ option_map (pair_with (by.along arc flow) (by.against arc flow)) (own arc first)
  flow-pair arc first flow true e = rw e refl
  flow-pair arc first flow false e = rw e refl

  -- A new flow on an arc gives the links of its pair new rooms.
  pub pairs-flow : (arcs : List Arc) (flows : List ℕ) (rest : List (Option Pair)) (k flow : ℕ) → length flows ≡ length arcs → k < length arcs
      → by.all arcs (set flows k flow) ++ rest
      ≡ with_rooms (by.all arcs flows ++ rest) k (by.along (get_or arcs k no_arc) flow) (by.against (get_or arcs k no_arc) flow)
  pairs-flow [] flows rest k flow same h = absurd (omega (arith, h))
  pairs-flow (arc ∷ arcs) [] rest k flow same h = absurd (omega (arith, same))
  pairs-flow (arc ∷ arcs) (first ∷ flows) rest zero flow same h =
      rw (by.more arc arcs flow flows, by.more arc arcs first flows)
      (ap (λ (p : Option Pair). p ∷ by.all arcs flows ++ rest) (flow-pair arc first flow (arc.tail == arc.head) refl))
  pairs-flow (arc ∷ arcs) (first ∷ flows) rest (suc k) flow same h =
      rw (by.more arc arcs first (set flows k flow), by.more arc arcs first flows)
      (ap (λ (ps : List (Option Pair)). own arc first ∷ ps) (pairs-flow arcs flows rest k flow (omega (arith, same)) (omega (arith, h))))

  -- ---- the flows are read from the pairs

  -- The flow that is read from an arc's pair is the flow on the arc, if what is read without a pair is the flow on a self loop.
  pub read-flow : (arc : Arc) (first flow : ℕ) → (arc.tail ≡ arc.head → flow ≡ first) → flow_read by.link first (own arc flow) ≡ flow
  read-flow arc first flow kept =
      ⊎_elim
      (λ (loop : ((arc.tail == arc.head) ≡ true) × (arc.tail ≡ arc.head)). rw loop.0 (sym (kept loop.1)))
      (λ (apart : ((arc.tail == arc.head) ≡ false) × (arc.tail ≢ arc.head)). rw apart.0 (by.reads arc flow))
      (eqb_tells arc.tail arc.head)

  -- So the flows are read from the pairs.
  pub read-flows : (n : Network) (firsts flows : List ℕ) (rest : List (Option Pair)) → length firsts ≡ length n.arcs → length flows ≡ length n.arcs
      → KeepLoops n firsts flows → flows_read by.link firsts (by.all n.arcs flows ++ rest) ≡ flows
  read-flows n firsts flows rest below same kept =
      let pairs = by.all n.arcs flows in
      let long : length firsts ≤ length (pairs ++ rest) = omega (arith, length-append pairs rest, length-pairs n.arcs flows same, below) in
      let count = length-flows_read by.link firsts (pairs ++ rest) long in
      same_number_lists (flows_read by.link firsts (pairs ++ rest)) flows (omega (arith, count, below, same)) (λ k h.
      let within : k < length n.arcs = omega (arith, h, count, below) in
      get_or-flows_read by.link firsts (pairs ++ rest) k long (omega (arith, h, count))
      ∙ ap (flow_read by.link (get_or firsts k 0)) (pair_number-of_arc n.arcs flows rest k same within)
      ∙ read-flow (get_or n.arcs k no_arc) (get_or firsts k 0) (get_or flows k 0) (kept k within))

  -- ---- self loops

  -- A path of the pairs' steps has no step of a self loop.
  pub loop-unranked : (arcs : List Arc) (flows : List ℕ) (rest : List (Option Pair)) (a b k rank : ℕ) (path : List Step) → length flows ≡ length arcs
      → k < length arcs → (get_or arcs k no_arc).tail ≡ (get_or arcs k no_arc).head → IsPath (steps_of (by.all arcs flows ++ rest)) a b path
      → 2 * (1 + k) ≤ rank → rank ≤ 2 * (1 + k) + 1 → has_rank path rank ≡ false
  loop-unranked arcs flows rest a b k rank path same h loop leads from to =
      let none : own (get_or arcs k no_arc) (get_or flows k 0) ≡ None = rw (eq-eqb _ _ loop) refl in
      path-missing (by.all arcs flows ++ rest) a b k rank path leads (pair_number-of_arc arcs flows rest k same h ∙ none) from to

  -- the steps of the pairs, arc by arc
  abbrev steps_by : ByArc
  steps_by = record {
    own = λ j arc flow. pair_steps j (own arc flow);
    all = λ j arcs flows. steps_from j (by.all arcs flows);
    none = λ j flows. ap (steps_from j) (by.none flows);
    short = λ j arc arcs. ap (steps_from j) (by.short arc arcs);
    more = λ j arc arcs flow flows. ap (steps_from j) (by.more arc arcs flow flows);
  }

  -- If the steps of each arc's pair are those of the arc, but for self loops, all steps are.
  pub without_loops-by_arc : (steps : ByArc) → ((j : ℕ) (arc : Arc) (flow : ℕ) → pair_steps j (Some (pair arc flow)) ≡ steps.own j arc flow)
      → ((j : ℕ) (arc : Arc) (flow : ℕ) (s : Step) → arc.tail ≡ arc.head → Contains (steps.own j arc flow) s → s.from ≡ s.to)
      → (arcs : List Arc) (flows : List ℕ) → AreWithoutLoops (steps.all 1 arcs flows) (steps_of (by.all arcs flows))
  without_loops-by_arc steps same loops arcs flows = record {
    within = λ s c.
        let at = step-at steps_by 1 arcs flows s c in
        let arc : Arc = get_or arcs at.index no_arc in
        has-step steps 1 arcs flows s at.index at.within at.long
        (⊎_elim
        (λ (loop : ((arc.tail == arc.head) ≡ true) × (arc.tail ≡ arc.head)). let none = rw loop.0 at at.has in absurd (omega (arith, none.1)))
        (λ (apart : ((arc.tail == arc.head) ≡ false) × (arc.tail ≢ arc.head)).
        rw (← same (1 + at.index) arc (get_or flows at.index 0)) (rw apart.0 at at.has))
        (eqb_tells arc.tail arc.head));
    others = λ s c differ.
        let at = step-at steps 1 arcs flows s c in
        let arc : Arc = get_or arcs at.index no_arc in
        has-step steps_by 1 arcs flows s at.index at.within at.long
        (⊎_elim
        (λ (loop : ((arc.tail == arc.head) ≡ true) × (arc.tail ≡ arc.head)). absurd (differ (loops (1 + at.index) arc _ s loop.1 at.has)))
        (λ (apart : ((arc.tail == arc.head) ≡ false) × (arc.tail ≢ arc.head)).
        rw (apart.0, same (1 + at.index) arc (get_or flows at.index 0)) at.has)
        (eqb_tells arc.tail arc.head));
  }

-- The pairs of both kinds have the same ends.
pub same-ends : (by other : PairsByArc) (arcs : List Arc) (flows : List ℕ) (last end : Option Pair) → without_room last ≡ without_room end
    → map without_room (by.all arcs flows ++ last ∷ []) ≡ map without_room (other.all arcs flows ++ end ∷ [])
same-ends by other [] flows last end same = rw (by.none flows, other.none flows) (ap (λ p. p ∷ []) same)
same-ends by other (arc ∷ arcs) [] last end same = rw (by.short arc arcs, other.short arc arcs) (ap (λ p. p ∷ []) same)
same-ends by other (arc ∷ arcs) (flow ∷ flows) last end same =
    rw (by.more arc arcs flow flows, other.more arc arcs flow flows)
    (λ t. ends arc flow (arc.tail == arc.head) refl t ∷ same-ends by other arcs flows last end same t)
  where
    ends : (arc : Arc) (flow : ℕ) (loop : Bool) → (arc.tail == arc.head) ≡ loop → without_room (own by arc flow) ≡ without_room (own other arc flow)
    ends arc flow true e = rw e refl
    ends arc flow false e = rw e refl
