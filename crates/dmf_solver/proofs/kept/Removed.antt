-- The residual network of a state without its last arc: the pair before that of the return link is gone.
use Rattle.std.proofs.Common.{◌≡◌, ◌+◌, ◌-◌, ◌≤◌, [], ◌∷◌, ◌++◌, length, ap, sym, ◌∙◌, arith}
use Rattle.std.specs.Prelude.{remove}
use Rattle.std.proofs.lemmas.List.{length_push}
use Rattle.std.proofs.lemmas.Slice.Zip.{AllZip-long}
use Rattle.dmf_path.specs.Search.{Searched, with_pairs}
use Rattle.dmf_state.specs.declared.arc.Arc.{Arc}
use Rattle.dmf_state.specs.Direction.{HasIdleLast}
use Rattle.dmf_state.specs.NetworkState.{NetworkState, IsState, with_last_arc}
use Rattle.dmf_state.specs.Revert.{without_last}
use Rattle.dmf_state.proofs.Reverting.{without_last-idle}
use Rattle.dmf_solver.specs.ResidualNetwork.{closed_return, residual_search}
use Rattle.dmf_solver.proofs.pairs.ArcPairs.{pairs-removed}
use Rattle.dmf_solver.proofs.pairs.NetworkPairs.{length-network_pairs}
use Rattle.dmf_solver.proofs.pairs.ResidualPairs.{by_residual_pair}

module _ (s : NetworkState) (arc : Arc) (state : IsState s) where
  one_each : length s.flows ≡ length s.network.arcs
  one_each = AllZip-long _ s.network.arcs s.flows state.flow.within

  pub pairs-after : (search : Searched) → search ≡ residual_search (with_last_arc s.network arc) (s.flows ++ 0 ∷ [])
      → length search.pairs ≡ length s.network.arcs + 2
  pairs-after search is =
      let long = length-network_pairs (with_last_arc s.network arc) (s.flows ++ 0 ∷ [])
      (omega (arith, one_each, length_push s.flows 0, length_push s.network.arcs arc)) in
      omega (arith, ap (λ (x : Searched). length x.pairs) is, long, length_push s.network.arcs arc)

  -- Without it the search is that of the state without the arc.
  pub search-removed : (before after : Searched) → before ≡ residual_search (with_last_arc s.network arc) (s.flows ++ 0 ∷ [])
      → after ≡ with_pairs before (remove before.pairs (length before.pairs - 2)) → after ≡ residual_search s.network s.flows
  search-removed before after is made =
      let old = residual_search (with_last_arc s.network arc) (s.flows ++ 0 ∷ []) in
      made ∙ ap (λ (x : Searched). with_pairs x (remove x.pairs (length x.pairs - 2))) is
      ∙ ap (with_pairs old) (pairs-removed by_residual_pair s.network.arcs s.flows arc (closed_return s.network) one_each)

-- There is a pair for each arc, and one more.
pub long-network : (s : NetworkState) (search : Searched) → IsState s → search ≡ residual_search s.network s.flows
    → length search.pairs ≡ length s.network.arcs + 1
long-network s search state is =
    ap (λ (x : Searched). length x.pairs) is ∙ length-network_pairs s.network s.flows (AllZip-long _ s.network.arcs s.flows state.flow.within)

-- A state that has an idle last arc.
module _ (t : NetworkState) (has : HasIdleLast t) where
  with-last : (search : Searched) → search ≡ residual_search t.network t.flows
      → search ≡ residual_search (with_last_arc has.before.network has.arc) (has.before.flows ++ 0 ∷ [])
  with-last search is = is ∙ ap (λ (u : NetworkState). residual_search u.network u.flows) (sym has.gives)

  -- There are the pairs of the last arc and of the return link.
  pub some-pairs : (search : Searched) → search ≡ residual_search t.network t.flows → 2 ≤ length search.pairs
  some-pairs search is = omega (arith, pairs-after has.before has.arc has.state search (with-last search is))

  -- Without the pair of the last arc, the search is that of the state before.
  pub search-before : (before after : Searched) → before ≡ residual_search t.network t.flows
      → after ≡ with_pairs before (remove before.pairs (length before.pairs - 2))
      → after ≡ residual_search (without_last t).network (without_last t).flows
  search-before before after is made =
      let same : without_last t ≡ has.before = ap without_last (sym has.gives) ∙ without_last-idle has.before has.arc in
      search-removed has.before has.arc has.state before after (with-last before is) made
      ∙ ap (λ (u : NetworkState). residual_search u.network u.flows) (sym same)
