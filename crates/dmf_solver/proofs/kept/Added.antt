-- The residual network of a state with one more arc: the pair of the arc comes before that of the return link.
use Rattle.std.proofs.Common.{◌≡◌, ◌+◌, ◌-◌, ◌≤◌, ◌<◌, ◌^◌, ◌==◌, Bool, true, false, [], ◌∷◌, ◌++◌, length, take, drop, Option, Some, None}
use Rattle.std.proofs.Common.{refl, ap, sym, ◌∙◌, subst, arith}
use Rattle.std.specs.Option.{option_map}
use Rattle.std.specs.Prelude.{insert, IfSome}
use Rattle.std.proofs.lemmas.List.{get_or_push, length-take-le, length_push}
use Rattle.std.proofs.lemmas.List.Edits.{length-insert}
use Rattle.std.proofs.lemmas.List.Elements.{All-get_or}
use Rattle.std.proofs.lemmas.List.Sums.{get_or-le-sum_by}
use Rattle.std.proofs.lemmas.Slice.Zip.{AllZip-long}
use Rattle.dmf_links.specs.declared.pair.Pair.{Pair}
use Rattle.dmf_links.specs.Pair.{IsPair, without_room}
use Rattle.dmf_path.specs.Search.{Searched, pair_with, with_pairs, with_rooms}
use Rattle.dmf_path.proofs.pairs.PairLists.{set-here}
use Rattle.dmf_state.specs.declared.arc.Arc.{Arc}
use Rattle.dmf_state.specs.Arc.{IsArc, no_arc}
use Rattle.dmf_state.specs.NetworkState.{NetworkState, IsState, with_last_arc, with_idle_arc}
use Rattle.dmf_solver.specs.ResidualNetwork.{residual_pair, closed_return, residual_search}
use Rattle.dmf_solver.proofs.pairs.ArcPairs.{pairs-inserted, pair-is}
use Rattle.dmf_solver.proofs.pairs.NetworkPairs.{length-network_pairs}
use Rattle.dmf_solver.proofs.pairs.ResidualPairs.{by_residual_pair}

-- The link along the arc's pair gets the room for its capacity.
opened : (arc : Arc) (loop : Bool) → (arc.tail == arc.head) ≡ loop
    → option_map (pair_with arc.cap 0) (without_room (residual_pair arc 0)) ≡ residual_pair arc 0
opened arc true e = rw e refl
opened arc false e =
    let full : arc.cap ≡ arc.cap - 0 = omega arith in
    rw e (ap (λ room. Some (record { tail = arc.tail; head = arc.head; along = room; against = 0 })) full)

-- One number for each arc before,
module _ (s : NetworkState) (arc : Arc) (state : IsState (with_idle_arc s arc)) where
  one_each : length s.flows ≡ length s.network.arcs
  one_each =
      omega (arith, AllZip-long _ (s.network.arcs ++ arc ∷ []) (s.flows ++ 0 ∷ []) state.flow.within, length_push s.network.arcs arc, length_push s.flows 0)

  -- and as many pairs; with the new one they are not too many.
  pub pairs-before : (search : Searched) → search ≡ residual_search s.network s.flows → length search.pairs ≡ length s.network.arcs + 1
  pairs-before search is = ap (λ (x : Searched). length x.pairs) is ∙ length-network_pairs s.network s.flows one_each

  -- The arcs that there were, and one more, are not too many.
  pub few-before : length s.network.arcs + 1 ≤ 2 ^ 27
  few-before = omega (arith, state.network.at_most_arcs, length_push s.network.arcs arc)

  -- The entry for the arc is a pair, unless the arc is a self loop.
  pub pair-added : (o : Option Pair) → o ≡ residual_pair arc 0 → IfSome o (IsPair s.network.nodes)
  pair-added None is = tt
  pair-added (Some p) is =
      let arcs = s.network.arcs ++ arc ∷ [] in
      let k = length s.network.arcs in
      let within : k < length arcs = omega (arith, length_push s.network.arcs arc) in
      let last = get_or_push s.network.arcs arc no_arc k refl in
      let valid = subst (IsArc s.network.nodes) last (All-get_or (IsArc s.network.nodes) arcs k no_arc within state.network.arcs) in
      let least = get_or-le-sum_by (λ (a : Arc). a.cap) arcs k no_arc within in
      let small : arc.cap < 2 ^ 64 = omega (arith, least, ap (λ (a : Arc). a.cap) last, state.network.capacities) in
      pair-is by_residual_pair s.network.nodes arc 0 p valid (omega arith) small (sym is)

  -- There is one more pair then.
  pub pairs-longer : (o : Option Pair) (before between : Searched) → before ≡ residual_search s.network s.flows
      → between ≡ with_pairs before (insert before.pairs (length before.pairs - 1) (without_room o))
      → length s.network.arcs < length between.pairs
  pairs-longer o before between is made =
      omega (
        arith,
        ap (λ (x : Searched). length x.pairs) made,
        length-insert before.pairs (length before.pairs - 1) (without_room o) (omega arith),
        pairs-before before is,
      )

  -- With it, once its link along has room, the search is the search of the state with the arc.
  pub search-added : (o : Option Pair) (before between after : Searched) → o ≡ residual_pair arc 0 → before ≡ residual_search s.network s.flows
      → between ≡ with_pairs before (insert before.pairs (length before.pairs - 1) (without_room o))
      → after ≡ with_pairs between (with_rooms between.pairs (length s.network.arcs) arc.cap 0)
      → after ≡ residual_search (with_last_arc s.network arc) (s.flows ++ 0 ∷ [])
  search-added o before between after has is made roomy =
      let k = length s.network.arcs in
      let ps = before.pairs in
      let last : length ps - 1 ≡ k = omega (arith, pairs-before before is) in
      let long : length (take (length ps - 1) ps) ≡ k = length-take-le (length ps - 1) ps (omega arith) ∙ last in
      let here = set-here (take (length ps - 1) ps) (without_room o) (drop (length ps - 1) ps) k arc.cap 0 long in
      roomy
      ∙ ap (λ (x : Searched). with_pairs x (with_rooms x.pairs k arc.cap 0)) made
      ∙ ap (with_pairs before) here
      ∙ ap (λ p. with_pairs before (insert ps (length ps - 1) p))
      (ap (λ p. option_map (pair_with arc.cap 0) (without_room p)) has ∙ opened arc (arc.tail == arc.head) refl)
      ∙ ap (λ (x : Searched). with_pairs x (insert x.pairs (length x.pairs - 1) (residual_pair arc 0))) is
      ∙ ap (with_pairs (residual_search s.network s.flows))
      (pairs-inserted by_residual_pair s.network.arcs s.flows arc (residual_pair arc 0) (closed_return s.network) one_each refl)
