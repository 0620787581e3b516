use Rattle.std.proofs.Common.{◌≡◌, length}
use Rattle.dmf_path.specs.Search.{indices_of}
use Rattle.dmf_path.proofs.pairs.Covering.{index_behind}
use Rattle.dmf_solver.proofs.pairs.ListedMoves.{moves_before}
use Rattle.dmf_solver.proofs.moves.list_moves.Given as goal

abbrev pub invariant-loop-k : goal.invariant-loop-k
invariant-loop-k g l = l.moves.items ≡ moves_before l.state.flows (g.F.Flows.flows l.after) (index_behind (indices_of l.fn.indices) (length l.yielded))
