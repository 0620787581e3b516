use Rattle.std.proofs.Common.{◌≡◌, ◌+◌, ◌-◌, ◌∙◌, sym, ap, get_or, set, drop, take, length, List, ℕ, subst, arith}
use Rattle.std.proofs.lemmas.List.{take_all}
use Rattle.std.proofs.lemmas.Result.{IfOk-weaker}
use Rattle.std.proofs.lemmas.Slice.Zip.{AllZip-long}
use Rattle.dmf_path.specs.Touched.{AreBelow}
use Rattle.dmf_state.specs.Edit.{numbers}
use Rattle.dmf_state.specs.declared.edit.Shutting.{Shutting}
use Rattle.dmf_solver.specs.Moves.{DrainsInTurn, UntouchedStay}
use Rattle.dmf_solver.specs.Pairs.{Along, IsCarryingSearch, drained_flows, flows_without, flows_read}
use Rattle.dmf_state.proofs.ClosedArcs.{no_shutting, open-at, numbers-next, numbers-end, HasArcs-open}
use Rattle.dmf_solver.proofs.draining.DrainedInTurn.{AreDrainedUpTo, drained-next_arc, drained-every_arc, shutting-moves}
use Rattle.dmf_solver.proofs.Emptied.{emptied-before, emptied-next}
use Rattle.dmf_solver.proofs.draining.DrainingSearch.{carrying-first, length-carries}
use Rattle.dmf_solver.proofs.shut.drain_all_by.Goals as goal
use Rattle.dmf_solver.proofs.shut.drain_all_by.Goals.{After-loop-i}

pub loop-i-init : goal.loop-i-init
loop-i-init g c =
    let s = c.args.state.now in
    let first = carrying-first s c.args.search c.most_touched.ensures c.requires.carrying in
    record {
      up_to = record {
        carrying = first.0;
        onward = λ last more. subst (λ flows. DrainsInTurn s.network (numbers c.args.arcs.now) flows last) first.1 more;
      };
      others_stay = λ k untouched. ap (λ flows. get_or flows k 0) (sym first.1);
      below = c.in_ok-touched.ensures (length s.flows + 1);
    }

pub drain_in_turn-requires-clause-carrying : goal.drain_in_turn-requires-clause-carrying
drain_in_turn-requires-clause-carrying g c = (flows_without (take c.loop-i.i c.args.arcs.now) c.args.state.now.flows, c.loop-i.invariant.up_to.carrying)

pub drain_in_turn-requires-clause-is_there : goal.drain_in_turn-requires-clause-is_there
drain_in_turn-requires-clause-is_there g c =
    (open-at 0 c.args.arcs.now c.args.state.now.network c.loop-i.i c.requires.arcs c.loop-i-test.true).is_there

pub loop-i-preserved : goal.loop-i-preserved
loop-i-preserved g c =
    let s = c.args.state.now in
    let arcs = c.args.arcs.now in
    let js = numbers arcs in
    let i = c.loop-i.i in
    let is = c.loop-i.invariant in
    let search = c.drain_in_turn.new.search in
    let touched = c.drain_in_turn.new.touched in
    let touches = c.drain_in_turn.ensures.touched in
    let rest : List ℕ = numbers (drop (i + 1) arcs) in
    let unpaired : List ℕ = flows_without (take i arcs) s.flows in
    let next : List ℕ = set unpaired ((get_or arcs i no_shutting).arc - 1) 0 in
    let same : flows_without (take (i + 1) arcs) s.flows ≡ next = emptied-next arcs s.flows i c.loop-i-test.true in
    let drains = c.drain_in_turn.ensures.drains unpaired is.up_to.carrying (emptied-before 0 arcs s.network s.flows i c.requires.arcs c.loop-i-test.true) in
    let pairs = length-carries s unpaired _ c.loop-i.search is.up_to.carrying in
    let long : length c.loop-i.search.pairs ≡ length s.flows + 1 =
    omega (arith, pairs, AllZip-long _ s.network.arcs s.flows c.most_touched.ensures.flow.within) in
    record {
      up_to = subst (λ (list : List ℕ). AreDrainedUpTo s js rest list search) (sym same)
          (drained-next_arc s js (numbers (drop i arcs)) unpaired next _ rest c.loop-i.search search (numbers-next arcs i c.loop-i-test.true)
          drains.carrying drains.drains is.up_to);
      others_stay = subst (λ list. UntouchedStay touched s.flows (flows_read Along list search.pairs)) (sym same)
          (λ k untouched. is.others_stay k (λ was. untouched (touches.more k was)) ∙ drains.others_stay k untouched);
      below = subst (λ n. AreBelow n touched) long (touches.below (subst (λ n. AreBelow n c.loop-i.touched) (sym long) is.below));
    }

-- All arcs are passed.
all : (g : _) (c : After-loop-i g) → flows_without (take c.loop-i.i c.args.arcs.now) c.args.state.now.flows ≡ flows_without c.args.arcs.now c.args.state.now.flows
all g c = ap (λ (arcs : List Shutting). flows_without arcs c.args.state.now.flows) (take_all c.loop-i.i c.args.arcs.now c.loop-i-test.false)

carrying : (g : _) (c : After-loop-i g) → IsCarryingSearch c.args.state.now (flows_without c.args.arcs.now c.args.state.now.flows) c.loop-i.search
carrying g c = subst (λ unpaired. IsCarryingSearch c.args.state.now unpaired c.loop-i.search) (all g c) c.loop-i.invariant.up_to.carrying

pub list_drained-requires-clause-carrying : goal.list_drained-requires-clause-carrying
list_drained-requires-clause-carrying g c = carrying g (goal.at.list_drained-requires-clause-carrying g c).After-loop-i

pub list_drained-requires-clause-below : goal.list_drained-requires-clause-below
list_drained-requires-clause-below g c = c.loop-i.invariant.below

pub list_drained-requires-clause-others_stay : goal.list_drained-requires-clause-others_stay
list_drained-requires-clause-others_stay g c =
    subst (λ unpaired. UntouchedStay c.loop-i.touched c.args.state.now.flows (flows_read Along unpaired c.loop-i.search.pairs))
    (all g (goal.at.list_drained-requires-clause-others_stay g c).After-loop-i) c.loop-i.invariant.others_stay

-- All arcs were drained.
drains : (g : _) (c : After-loop-i g) → DrainsInTurn c.args.state.now.network (numbers c.args.arcs.now) c.args.state.now.flows
    (drained_flows c.args.state.now c.args.arcs.now c.loop-i.search)
drains g c =
    let s = c.args.state.now in
    let arcs = c.args.arcs.now in
    subst (λ unpaired. DrainsInTurn s.network (numbers arcs) s.flows (flows_read Along unpaired c.loop-i.search.pairs)) (all g c)
    (drained-every_arc s _ _ (flows_without (take c.loop-i.i arcs) s.flows) c.loop-i.search (numbers-end arcs c.loop-i.i c.loop-i-test.false)
    c.loop-i.invariant.up_to)

pub returns-clause-moves : goal.returns-clause-moves
returns-clause-moves g c =
    let s = c.args.state.now in
    let arcs = c.args.arcs.now in
    let js = numbers arcs in
    let last = drained_flows s arcs c.loop-i.search in
    let drained = drains g (goal.at.returns-clause-moves g c).After-loop-i in
    IfOk-weaker c.list_drained.result _ _ (λ answer listed. shutting-moves s js last answer.moves.items c.most_touched.ensures
    (HasArcs-open 0 arcs s.network c.requires.arcs) drained listed) c.list_drained.ensures.moves
