-- What is written of a solved state.
-- Public: a public contract says no more than this.
use Rattle.std.specs.Prelude.{ℕ, List, [], ◌∷◌, ◌++◌, Option, Some, None, codes, decimal, nat_abs}
use Rattle.dmf_state.specs.NetworkState.{NetworkState}
use Rattle.dmf_state.specs.Side.{CutSide}
use Rattle.dmf_state.specs.Flow.{flow_value}
use Rattle.dmf_text.specs.Written.{solution_text, cut_text, written_line}

-- this cut, if there is one
abbrev pub side_text : Option CutSide → List ℕ
side_text None = []
side_text (Some side) = cut_text side

-- the solution of a state, and this cut after it, if there is one
abbrev pub solved_text : NetworkState → Option CutSide → List ℕ
solved_text s side = solution_text s ++ side_text side

-- `c solve value V`
abbrev pub solve_value_line : ℕ → List ℕ
solve_value_line value = written_line (codes "c" ∷ codes "solve" ∷ codes "value" ∷ decimal value ∷ [])

-- the value of a state's flow, which is not negative, and this cut after it, if there is one
abbrev pub brief_text : NetworkState → Option CutSide → List ℕ
brief_text s side = solve_value_line (nat_abs (flow_value s.network s.flows)) ++ side_text side
