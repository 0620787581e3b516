use Rattle.std.proofs.Common.{ℕ, ◌≡◌, ◌<◌, ◌-◌, true, List, get_or, length, ap, sym, ◌∙◌, subst, arith, Result, Ok, Err, IfOk}
use Rattle.std.proofs.lemmas.List.{get_or_read}
use Rattle.std.specs.List.{All}
use Rattle.dmf_node.specs.Node.{IsNode}
use Rattle.dmf_state.specs.declared.arc.Arc.{Arc}
use Rattle.dmf_state.specs.Arc.{IsArc, no_arc}
use Rattle.dmf_state.specs.Network.{Network, arc_number, has_arc}
use Rattle.dmf_state.proofs.ChangedArc.{has_arc-within}
use Rattle.dmf_vital.specs.declared.hop.Hop.{Hop}
use Rattle.dmf_vital.specs.declared.tree.Reached.{Reached}
use Rattle.dmf_vital.specs.Hop.{from_of}
use Rattle.dmf_vital.specs.Tree.{IsBridge, IsStepped, not_reached, at_node}
use Rattle.dmf_vital.proofs.Chained.{node-from, has-arc}
use Rattle.dmf_vital.proofs.Crossing.{turned-false}
use Rattle.dmf_vital.proofs.search.look_over.Goals.{After-from_of-v, After-index-from}
use Rattle.dmf_vital.proofs.search.look_over.Goals as goal

-- the node from which a step leads, as the code sees it
from-node : (n : Network) (hop : Hop) (v : ℕ) (arc : Arc) → All (IsArc n.nodes) n.arcs → has_arc n hop.arc ≡ true → arc ≡ arc_number n hop.arc
    → v ≡ from_of hop.against arc → IsNode n.nodes v
from-node n hop v arc arcs there is from =
    let good = arcs (hop.arc - 1) no_arc (has_arc-within n hop.arc there).1 in
    subst (IsNode n.nodes) (sym (from ∙ ap (from_of hop.against) is)) (node-from hop.against n.nodes (arc_number n hop.arc) good)

-- and what is read of it
from-read : (n : Network) (hop : Hop) (v : ℕ) (arc : Arc) (nodes : List Reached) (entry : Reached) → All (IsArc n.nodes) n.arcs → length nodes ≡ n.nodes
    → has_arc n hop.arc ≡ true → arc ≡ arc_number n hop.arc → v ≡ from_of hop.against arc → entry ≡ get_or nodes (v - 1) entry
    → entry ≡ at_node nodes (from_of hop.against (arc_number n hop.arc))
from-read n hop v arc nodes entry arcs one_each there is from read =
    let node = from-node n hop v arc arcs there is from in
    let within : v - 1 < length nodes = omega (arith, node.from_one, node.to_last, one_each) in
    get_or_read nodes (v - 1) entry within read not_reached ∙ ap (at_node nodes) (from ∙ ap (from_of hop.against) is)

pub arc-requires : goal.arc-requires
arc-requires c =
    has-arc c.args.steps.now.state.now.network c.args.hop.arc (omega (arith, c.requires.some))
    (omega (arith, c.if-hop-arcs.false, ap length c.arcs.ensures.value))

node : (c : After-from_of-v) → IsNode c.args.steps.now.state.now.network.nodes c.from_of-v.result
node c =
    let n = c.args.steps.now.state.now.network in
    from-node n c.args.hop c.from_of-v.result c.arc.result c.arc.ensures.state.network.arcs
    (has-arc n c.args.hop.arc (omega (arith, c.requires.some)) (omega (arith, c.if-hop-arcs.false, ap length c.arcs.ensures.value)))
    c.arc.ensures.value c.from_of-v.ensures

pub overflow_sub-v : goal.overflow_sub-v
overflow_sub-v c = (node (goal.at.overflow_sub-v c).After-from_of-v).from_one

pub index-from-requires : goal.index-from-requires
index-from-requires c =
    let at = node (goal.at.index-from-requires c).After-from_of-v in
    omega (arith, at.from_one, at.to_last, c.requires.grown.are.one_each, c.args.tree.now.nodes.ok.0)

there : (c : After-index-from) → has_arc c.args.steps.now.state.now.network c.args.hop.arc ≡ true
there c =
    has-arc c.args.steps.now.state.now.network c.args.hop.arc (omega (arith, c.requires.some))
    (omega (arith, c.if-hop-arcs.false, ap length c.arcs.ensures.value))

entry : (c : After-index-from)
    → c.index-from.result.now ≡ at_node c.args.tree.now.nodes.items (from_of c.args.hop.against (arc_number c.args.steps.now.state.now.network c.args.hop.arc))
entry c = from-read c.args.steps.now.state.now.network c.args.hop c.from_of-v.result c.arc.result c.args.tree.now.nodes.items c.index-from.result.now
    c.arc.ensures.state.network.arcs c.requires.grown.are.one_each (there c) c.arc.ensures.value c.from_of-v.ensures c.index-from.ensures

pub step_over-requires-clause-is_there : goal.step_over-requires-clause-is_there
step_over-requires-clause-is_there c = there (goal.at.step_over-requires-clause-is_there c).After-index-from

pub step_over-requires-clause-reached : goal.step_over-requires-clause-reached
step_over-requires-clause-reached c =
    let is = entry (goal.at.step_over-requires-clause-reached c).After-index-from in
    omega (arith, ap (λ (r : Reached). r.place) is, c.if-from-eq0.false)

pub step_over-requires-clause-end : goal.step_over-requires-clause-end
step_over-requires-clause-end c =
    let is = entry (goal.at.step_over-requires-clause-end c).After-index-from in
    sym (ap (λ (r : Reached). r.back) is) ∙ turned-false c.args.back c.index-from.result.now.back (sym c.turned.ensures ∙ c.if-turned.false)

pub step_over-requires-clause-wide : goal.step_over-requires-clause-wide
step_over-requires-clause-wide c =
    ap (λ (r : Reached). r.width) (entry (goal.at.step_over-requires-clause-wide c).After-index-from)

mapped : {A E : Type 0} (result : Result A E) (P Q : A → Type 0) → IfOk result P → ((x : A) → P x → Q x) → IfOk result Q
mapped (Ok x) P Q ok f = f x ok
mapped (Err e) P Q ok f = tt

-- If the node was reached from the other end, the step is a bridge.
pub returns-clause-bridge : goal.returns-clause-bridge
returns-clause-bridge c =
    let s = c.args.steps.now in
    let stepped = IsStepped s.state.now.network s.flows.now s.exits c.step_over.new.tree.nodes.items c.args.back c.args.hop in
    mapped c.step_over.result stepped (λ met. met ≡ true → IsBridge s.state.now.network s.flows.now s.exits c.step_over.new.tree.nodes.items c.args.back c.args.hop)
    c.step_over.ensures.stepped (λ met is yes. subst stepped yes is)
