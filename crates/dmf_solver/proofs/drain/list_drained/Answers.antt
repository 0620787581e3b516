use Rattle.std.proofs.Common.{◌+◌, ◌∙◌, length, sym, arith}
use Rattle.std.proofs.lemmas.Slice.Zip.{AllZip-long}
use Rattle.dmf_path.specs.Search.{indices_of}
use Rattle.dmf_solver.specs.Pairs.{drained_flows, flows_without}
use Rattle.dmf_solver.proofs.draining.DrainingSearch.{carries-moved, one_each}
use Rattle.dmf_solver.proofs.pairs.Untouched.{changed-cover}
use Rattle.dmf_solver.proofs.drain.list_drained.Goals as goal

pub indices-indices-requires-clause-below : goal.indices-indices-requires-clause-below
indices-indices-requires-clause-below c = rw c.flows.ensures.value (c.sort.ensures.below _ c.requires.below)

pub list_moves-requires-clause-one_each : goal.list_moves-requires-clause-one_each
list_moves-requires-clause-one_each c =
    let s = c.args.state.now in
    one_each s (flows_without c.args.shut.now s.flows) _ c.args.carrying c.requires.carrying
    ∙ sym (AllZip-long _ s.network.arcs s.flows c.flows.ensures.state.flow.within)

pub list_moves-requires-clause-others_stay : goal.list_moves-requires-clause-others_stay
list_moves-requires-clause-others_stay c =
    let s = c.args.state.now in
    changed-cover (length s.flows + 1) c.sort.new.self s.flows (drained_flows s c.args.shut.now c.args.carrying) (indices_of c.indices-indices.result) (omega arith)
    (λ k untouched. c.requires.others_stay k (λ was. untouched ((c.sort.ensures.same k).1 was))) (rw c.flows.ensures.value at c.indices-indices.ensures)

pub returns-clause-carrying : goal.returns-clause-carrying
returns-clause-carrying c =
    let s = c.args.state.now in
    carries-moved s (flows_without c.args.shut.now s.flows) c.in_ok-moves.moves.items c.args.carrying c.flows.ensures.state c.requires.carrying c.in_ok-moves.ensures
