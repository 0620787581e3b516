use Rattle.std.proofs.Common.{◌≡◌, length}
use Rattle.dmf_path.specs.Search.{indices_of}
use Rattle.dmf_path.proofs.pairs.Covering.{index_behind}
use Rattle.dmf_solver.proofs.pairs.ListedOpen.{open_before}
use Rattle.dmf_solver.proofs.shut.open_arcs_at.Given as goal

abbrev pub invariant-loop-k : goal.invariant-loop-k
invariant-loop-k l = l.open.items ≡ open_before l.state.network.arcs l.v (index_behind (indices_of l.initial.k-iterator) (length l.yielded))
