use Rattle.std.proofs.Common.{◌≡◌, length, subst, arith}
use Rattle.std.proofs.lemmas.Result.{IfOk-weaker}
use Rattle.std.proofs.lemmas.Slice.Zip.{AllZip-long}
use Rattle.dmf_path.specs.Touched.{AreBelow}
use Rattle.dmf_solver.specs.Moves.{UntouchedStay}
use Rattle.dmf_solver.specs.Pairs.{Along, IsCarryingSearch, flows_read}
use Rattle.dmf_solver.proofs.draining.DrainingSearch.{carrying-first, length-carries}
use Rattle.dmf_solver.proofs.draining.DrainingWalk.{draining-moves}
use Rattle.dmf_solver.proofs.pairs.Untouched.{drained-stay}
use Rattle.dmf_solver.proofs.drain.drain_by.Goals as goal
use Rattle.dmf_solver.proofs.drain.drain_by.Goals.{In_ok-touched, After-drain_along}

-- The search carries the state's flow.
begun : (g : _) (c : In_ok-touched g) → IsCarryingSearch c.args.state.now c.args.state.now.flows c.args.carrying
    × (flows_read Along c.args.state.now.flows c.args.carrying.pairs ≡ c.args.state.now.flows)
begun g c =
    let s = c.args.state.now in
    carrying-first s c.args.carrying c.most_touched.ensures c.requires.carrying

pub drain_along-requires-clause-carrying : goal.drain_along-requires-clause-carrying
drain_along-requires-clause-carrying g c = (c.args.state.now.flows, (begun g (goal.at.drain_along-requires-clause-carrying g c).In_ok-touched).0)

-- It carries the flow that draining leaves.
drained : (g : _) (c : After-drain_along g) → IsCarryingSearch c.args.state.now c.args.state.now.flows c.drain_along.new.search
drained g c = (c.drain_along.ensures.drains c.args.state.now.flows (begun g (goal.at.After-drain_along g c).In_ok-touched).0).0

pub list_drained-requires-clause-carrying : goal.list_drained-requires-clause-carrying
list_drained-requires-clause-carrying g c = drained g (goal.at.list_drained-requires-clause-carrying g c).After-drain_along

pub list_drained-requires-clause-below : goal.list_drained-requires-clause-below
list_drained-requires-clause-below g c =
    let s = c.args.state.now in
    let here = begun g (goal.at.list_drained-requires-clause-below g c).In_ok-touched in
    let pairs = length-carries s s.flows _ c.args.carrying here.0 in
    let flows = AllZip-long _ s.network.arcs s.flows c.most_touched.ensures.flow.within in
    subst (λ count. AreBelow count c.drain_along.new.touched) (omega (arith, pairs, flows))
    (c.drain_along.ensures.touched.below (c.in_ok-touched.ensures (length c.args.carrying.pairs)))

pub list_drained-requires-clause-others_stay : goal.list_drained-requires-clause-others_stay
list_drained-requires-clause-others_stay g c =
    let s = c.args.state.now in
    let here = begun g (goal.at.list_drained-requires-clause-others_stay g c).In_ok-touched in
    subst (λ flows. UntouchedStay c.drain_along.new.touched flows (flows_read Along s.flows c.drain_along.new.search.pairs)) here.1
    (drained-stay s s.flows c.args.carrying c.drain_along.new.search c.drain_along.new.touched here.0
    (drained g (goal.at.list_drained-requires-clause-others_stay g c).After-drain_along) c.drain_along.ensures.touched.kept)

pub returns-clause-moves : goal.returns-clause-moves
returns-clause-moves g c =
    let s = c.args.state.now in
    let last = flows_read Along s.flows c.drain_along.new.search.pairs in
    let here = begun g (goal.at.returns-clause-moves g c).In_ok-touched in
    let drains = rw here.1 at (c.drain_along.ensures.drains s.flows here.0).1 in
    IfOk-weaker c.list_drained.result _ _ (λ drained listed. draining-moves s c.args.turn.arc c.args.turn.limit last drained.moves.items
    c.most_touched.ensures c.requires.is_there drains listed) c.list_drained.ensures.moves
