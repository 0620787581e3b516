use Rattle.std.proofs.Common.{ap, pos, sym, ◌∙◌}
use Rattle.dmf_state.specs.Side.{has_node}
use Rattle.dmf_solver.proofs.cuts.LargerFlow.{surpassed-from_path}
use Rattle.dmf_solver.proofs.cuts.GreatestFlow.{greatest-from_no_path}
use Rattle.dmf_solver.proofs.cuts.SmallestSide.{reached-by_search, no_path-by_search, IsSmallestSide-by_search}
use Rattle.dmf_solver.proofs.side.side_along.Goals as goal

pub returns-then-contains : goal.returns-then-contains
returns-then-contains c =
    let n = c.args.state.now.network in
    let state = c.sink.ensures.state in
    let inside = ap (has_node c.in_ok-side.side.ids) (sym c.sink.ensures.value) ∙ sym c.contains.ensures ∙ c.if-contains.true in
    let reached = reached-by_search n c.args.state.now.flows c.args.search.now c.value.result c.in_ok-side.side c.requires c.in_ok-side.ensures in
    let path = reached.reached n.sink inside in
    record { side = tt; value = tt; greatest = tt; fault = λ same. surpassed-from_path n c.args.state.now.flows path.0 state.network state.flow path.1 }

pub returns : goal.returns
returns c =
    let n = c.args.state.now.network in
    let flows = c.args.state.now.flows in
    let state = c.sink.ensures.state in
    let outside = ap (has_node c.in_ok-side.side.ids) (sym c.sink.ensures.value) ∙ sym c.contains.ensures ∙ c.if-contains.false in
    let reached = reached-by_search n flows c.args.search.now c.value.result c.in_ok-side.side c.requires c.in_ok-side.ensures in
    let none = no_path-by_search n flows (has_node c.in_ok-side.side.ids) state.network reached outside in
    record {
      side = IsSmallestSide-by_search n flows c.args.search.now c.value.result c.in_ok-side.side state.network state.flow none c.requires c.value.ensures.value
          c.in_ok-side.ensures;
      value = ap pos c.in_ok-side.ensures.capacity_is ∙ c.value.ensures.value;
      greatest = greatest-from_no_path n flows state.network state.flow none;
      fault = tt;
    }
