-- No path is left: solving moves nothing.
use Rattle.std.proofs.Common.{ℕ, ◌≡◌, [], refl, ap, sym, subst, arith, pos, Some}
use Rattle.dmf_path.specs.Pair.{steps_of}
use Rattle.dmf_path.specs.Path.{HasNoPath}
use Rattle.dmf_path.specs.Search.{Searched}
use Rattle.dmf_solver.specs.declared.solve.SolvedSearch.{SolvedSearch}
use Rattle.dmf_state.specs.Edit.{differences}
use Rattle.dmf_state.specs.Flow.{flow_value}
use Rattle.dmf_state.specs.NetworkState.{NetworkState, IsState}
use Rattle.dmf_solver.specs.Pairs.{reached_flows, IsAtEnd, HasSolved}
use Rattle.dmf_solver.specs.ResidualNetwork.{IsResidualOf}
use Rattle.dmf_solver.proofs.draining.DrainingWalk.{differences-none}
use Rattle.dmf_solver.proofs.solving.SolvingSearch.{IsSolving, solving-done, solving-read}
use Rattle.dmf_solver.proofs.pairs.Untouched.{keeps-same}

module _ (s : NetworkState) (search : Searched) (value : ℕ) (state : IsState s) (is : IsResidualOf s search)
    (value_is : pos value ≡ flow_value s.network s.flows) (none : HasNoPath (steps_of search.pairs) search.start search.goal) where
  abbrev solving : IsSolving s search value
  solving = record {
    flows = s.flows;
    reached = record { state = state; paths = []; augments = refl };
    kept = λ k h loop. refl;
    search_is = is;
    value_is = value_is;
  }

  -- the search, which no path has touched
  abbrev pub at_once : SolvedSearch
  at_once = record { search = search; value = value; touched = Some [] }

  -- It has reached the outcome of solving,
  pub solved-at_once : HasSolved s at_once
  solved-at_once = solving-done s at_once search state solving none refl (keeps-same (Some []) _ _ (ap (λ (o : Searched). o.pairs) is))
      (λ k c. absurd (omega (arith, c.1)))
      (λ k h. absurd (omega (arith, h)))

  pub end-at_once : IsAtEnd s search value
  end-at_once = (Some [], solved-at_once)

  -- and no flow differs.
  pub listed-at_once : [] ≡ differences 1 s.flows (reached_flows s search)
  listed-at_once = subst (λ flows. [] ≡ differences 1 s.flows flows) (solving-read s value search search state solving none refl)
      (sym (differences-none 1 s.flows))
