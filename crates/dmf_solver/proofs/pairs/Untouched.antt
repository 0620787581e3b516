-- An arc keeps its flow if no path used its pair.
use Rattle.std.proofs.Common.{ℕ, ◌≡◌, ◌+◌, ◌<◌, ◌≤◌, ◌↔◌, List, [], ◌∷◌, length, get_or, refl, ap, sym, ◌∙◌}
use Rattle.std.proofs.Common.{⊎_elim, subst, arith, Option, None}
use Rattle.std.proofs.lemmas.List.{get_or-set_other}
use Rattle.std.proofs.lemmas.Bool.{cases_lt}
use Rattle.std.proofs.lemmas.Slice.Zip.{AllZip-long}
use Rattle.dmf_links.specs.declared.pair.Pair.{Pair}
use Rattle.dmf_path.specs.Search.{Searched, Covers, lowered_along}
use Rattle.dmf_links.specs.Pair.{pair_number}
use Rattle.dmf_path.specs.Touched.{IsTouched, AreBelow, KeepsUntouched, Touches}
use Rattle.dmf_path.proofs.pairs.Covering.{Covers-weaker}
use Rattle.dmf_state.specs.NetworkState.{NetworkState, IsState}
use Rattle.dmf_solver.specs.declared.solve.SolvedSearch.{SolvedSearch}
use Rattle.dmf_solver.specs.Moves.{CoverDifferences, UntouchedStay}
use Rattle.dmf_solver.specs.Pairs.{PairLink, Along, Against, flow_read, flows_read, reached_flows, IsCarryingSearch, HasSolved}
use Rattle.dmf_solver.specs.ResidualNetwork.{closed_return, network_pairs}
use Rattle.dmf_solver.proofs.pairs.ArcPairs.{read-flows}
use Rattle.dmf_solver.proofs.draining.DrainingSearch.{length-carries}
use Rattle.dmf_solver.proofs.pairs.NetworkPairs.{length-network_pairs}
use Rattle.dmf_solver.proofs.pairs.ResidualPairs.{by_residual_pair}
use Rattle.dmf_solver.proofs.pairs.FlowsRead.{get_or-flows_read, length-flows_read}
use Rattle.dmf_solver.proofs.pairs.ListedMoves.{stays-past}
use Rattle.dmf_solver.proofs.solving.SolvingSearch.{IsSolving, solving-long, pairs-long}

-- At first each pair is as it was,
pub keeps-same : (touched : Option (List ℕ)) (first pairs : List (Option Pair)) → pairs ≡ first → KeepsUntouched touched first pairs
keeps-same touched first pairs same = λ k untouched. ap (λ ps. pair_number ps k) same

-- after one more path each pair that it does not touch is as it was,
pub keeps-next : (old new : Option (List ℕ)) (first before after : List (Option Pair)) → KeepsUntouched old first before → Touches old new before after
    → KeepsUntouched new first after
keeps-next old new first before after keeps touches = λ k untouched.
    touches.kept k untouched ∙ keeps k (λ was. untouched (touches.more k was))

-- and this does not depend on the order in which the pairs are listed.
pub keeps-sorted : (old new : Option (List ℕ)) (first pairs : List (Option Pair)) → KeepsUntouched old first pairs
    → ((k : ℕ) → IsTouched new k ↔ IsTouched old k) → KeepsUntouched new first pairs
keeps-sorted old new first pairs keeps same = λ k untouched. keeps k (λ was. untouched ((same k).1 was))

-- The list has indices of arcs, and the index after them.
pub below-next : (s : NetworkState) (value : ℕ) (search : Searched) (old new : Option (List ℕ)) → IsSolving s search value
    → (AreBelow (length search.pairs) old → AreBelow (length search.pairs) new)
    → AreBelow (length s.network.arcs + 1) old → AreBelow (length s.network.arcs + 1) new
below-next s value search old new is next = subst (λ n. AreBelow n old → AreBelow n new) (solving-long s search value is) next

-- The flows that are read from the pairs stay where the pairs do,
pub untouched-stay : (link : PairLink) (firsts : List ℕ) (old new : List (Option Pair)) (touched : Option (List ℕ)) → length firsts ≤ length old
    → length firsts ≤ length new → KeepsUntouched touched old new → UntouchedStay touched (flows_read link firsts old) (flows_read link firsts new)
untouched-stay link firsts old new touched old_long new_long keeps = λ k untouched.
    let first = length-flows_read link firsts old old_long in
    let last = length-flows_read link firsts new new_long in
    ⊎_elim
    (λ (inside : k < length firsts).
    get_or-flows_read link firsts old k old_long inside
    ∙ ap (flow_read link (get_or firsts k 0)) (sym (keeps k untouched))
    ∙ sym (get_or-flows_read link firsts new k new_long inside))
    (λ (past : length firsts ≤ k).
    stays-past (flows_read link firsts old) (flows_read link firsts new) (last ∙ sym first) k (omega (arith, past, first)))
    (cases_lt k (length firsts))

-- and then the touched indices cover all arcs whose flows differ:
pub changed-cover : (count : ℕ) (touched : Option (List ℕ)) (before after indices : List ℕ) → length before ≤ count → UntouchedStay touched before after
    → Covers count (λ k. ¬ IsTouched touched k) indices → CoverDifferences before after indices
changed-cover count touched before after indices most stay covers = record {
  count = count;
  most = most;
  covers = Covers-weaker count _ _ indices (λ k h untouched. stay k untouched) covers;
}

-- after a solve,
pub touched-cover : (s : NetworkState) (solved : SolvedSearch) (indices : List ℕ) → IsState s → HasSolved s solved
    → Covers (length s.network.arcs + 1) (λ k. ¬ IsTouched solved.touched k) indices → CoverDifferences s.flows (reached_flows s solved.search) indices
touched-cover s solved indices state is covers =
    let flows_long = AllZip-long _ s.network.arcs s.flows state.flow.within in
    let old = length-network_pairs s.network s.flows flows_long in
    let pairs = pairs-long s solved.search state is.search_is is.state.flow.within in
    let first = read-flows by_residual_pair s.network s.flows s.flows (closed_return s.network ∷ []) flows_long flows_long (λ k h loop. refl) in
    let stay = untouched-stay Against s.flows (network_pairs s.network s.flows) solved.search.pairs solved.touched (omega (arith, old, flows_long))
    (omega (arith, pairs)) is.kept in
    changed-cover (length s.network.arcs + 1) solved.touched s.flows (reached_flows s solved.search) indices (omega (arith, flows_long))
    (subst (λ flows. UntouchedStay solved.touched flows (reached_flows s solved.search)) first stay) covers

-- and after a drain.
pub drained-stay : (s : NetworkState) (unpaired : List ℕ) (old new : Searched) (touched : Option (List ℕ)) → IsCarryingSearch s unpaired old
    → IsCarryingSearch s unpaired new → KeepsUntouched touched old.pairs new.pairs
    → UntouchedStay touched (flows_read Along unpaired old.pairs) (flows_read Along unpaired new.pairs)
drained-stay s unpaired old new touched before after keeps =
    untouched-stay Along unpaired old.pairs new.pairs touched (omega (arith, length-carries s unpaired _ old before, before.listed))
    (omega (arith, length-carries s unpaired _ new after, after.listed)) keeps

-- One more path is drained: it touches its pairs, and the pair of the drained arc counts as touched.
pub touches-lowered : (first old new : Option (List ℕ)) (pairs before after : List (Option Pair)) (i amount : ℕ) → length before ≡ length pairs
    → IsTouched old i → Touches first old pairs before → Touches old new before after → Touches first new pairs (lowered_along after i amount)
touches-lowered first old new pairs before after i amount long own so_far step = record {
  more = λ k was. step.more k (so_far.more k was);
  below = λ were. subst (λ count. AreBelow count new) long (step.below (subst (λ count. AreBelow count old) (sym long) (so_far.below were)));
  kept = λ k untouched.
      get_or-set_other after i k _ None (λ is. untouched (step.more k (subst (IsTouched old) (sym is) own)))
      ∙ step.kept k untouched ∙ so_far.kept k (λ was. untouched (step.more k was));
}
