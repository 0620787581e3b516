use Rattle.std.proofs.Common.{ℕ, ◌≡◌, ◌<◌, ◌-◌, Bool, true, false, List, get_or, ap, sym, ◌∙◌, arith}
use Rattle.std.proofs.lemmas.Bool.{both_ways}
use Rattle.std.proofs.lemmas.List.{get_or_read}
use Rattle.dmf_node.specs.Node.{IsNode}
use Rattle.dmf_state.specs.Network.{Network}
use Rattle.dmf_vital.specs.declared.tree.Reached.{Reached}
use Rattle.dmf_vital.specs.Hop.{turned}
use Rattle.dmf_vital.specs.Tree.{IsExpanded, LeadsToReached, not_reached, back_of, place_of}
use Rattle.dmf_vital.proofs.Keeping.{back-kept, kept-in_turn, kept-none, leads-kept, place-kept}
use Rattle.dmf_vital.proofs.Expanding.{expanded-more, found-next, longer-kept}
use Rattle.dmf_vital.proofs.Crossing.{turned-false, turned-same}
use Rattle.dmf_vital.proofs.search.look_at.Goals.{After-index}
use Rattle.dmf_vital.proofs.search.look_at.Goals as goal

-- the next node is reached
next : (c : After-index) → IsNode c.args.steps.now.state.now.network.nodes c.index-v.result.now
    × (0 < place_of c.args.tree.now.nodes.items c.index-v.result.now) × (c.index-v.result.now ≡ get_or c.args.tree.now.found.items c.args.next 0)
next c =
    let s = c.args.steps.now in
    found-next s.state.now.network s.flows.now s.exits c.args.next c.index-v.result.now c.args.tree.now.nodes.items c.args.tree.now.found.items
    c.requires.grown c.requires.is_there c.index-v.ensures

-- what is read of it is that
side : (c : After-index) → c.index.result.now.back ≡ back_of c.args.tree.now.nodes.items c.index-v.result.now
side c =
    let at = (next c).0 in
    let nodes = c.args.tree.now.nodes.items in
    ap (λ (r : Reached). r.back)
    (get_or_read nodes (c.index-v.result.now - 1) c.index.result.now (omega (arith, at.from_one, at.to_last, c.requires.grown.are.one_each)) c.index.ensures not_reached)

pub returns-then-other-clause-none : goal.returns-then-other-clause-none
returns-then-other-clause-none c =
    let at = (goal.at.returns-then-other-clause-none c).After-index in
    let s = c.args.steps.now in
    let nodes = c.args.tree.now.nodes.items in
    let found = c.args.tree.now.found.items in
    λ _. expanded-more s.state.now.network s.flows.now s.exits c.args.back c.args.next c.index-v.result.now nodes nodes found found
    c.requires.grown c.requires.grown (kept-none nodes) c.requires.is_there (next at).2 c.requires.expanded
    (λ same. absurd (both_ways (turned c.args.back c.index.result.now.back)
    (ap (turned c.args.back) (side at ∙ same) ∙ turned-same c.args.back) (sym c.turned-other.ensures ∙ c.if-other.true)))

pub returns-in_err-met-clause-longer : goal.returns-in_err-met-clause-longer
returns-in_err-met-clause-longer c =
    let s = c.args.steps.now in
    longer-kept s.state.now.network s.flows.now s.exits c.args.tree.now.nodes.items c.expand.new.tree.nodes.items c.args.tree.now.found.items
    c.expand.new.tree.found.items c.requires.grown c.expand.ensures.grown c.expand.ensures.kept

pub returns-then-met-ne0-clause-longer : goal.returns-then-met-ne0-clause-longer
returns-then-met-ne0-clause-longer c =
    let s = c.args.steps.now in
    longer-kept s.state.now.network s.flows.now s.exits c.args.tree.now.nodes.items c.expand.new.tree.nodes.items c.args.tree.now.found.items
    c.expand.new.tree.found.items c.requires.grown c.expand.ensures.grown c.expand.ensures.kept

pub expand-requires-2-clause-node : goal.expand-requires-2-clause-node
expand-requires-2-clause-node c = (next (goal.at.expand-requires-2-clause-node c).After-index).0

pub expand-requires-2-clause-reached : goal.expand-requires-2-clause-reached
expand-requires-2-clause-reached c =
    let some = (next (goal.at.expand-requires-2-clause-reached c).After-index).1 in
    omega (arith, some, place-kept c.args.tree.now.nodes.items c.expand.new.tree.nodes.items c.index-v.result.now c.expand.ensures.kept some)

pub expand-requires-2-clause-end : goal.expand-requires-2-clause-end
expand-requires-2-clause-end c =
    let at = (goal.at.expand-requires-2-clause-end c).After-index in
    back-kept c.args.tree.now.nodes.items c.expand.new.tree.nodes.items c.index-v.result.now c.expand.ensures.kept (next at).1
    ∙ sym (side at) ∙ turned-false c.args.back c.index.result.now.back (sym c.turned-other.ensures ∙ c.if-other.false)

pub returns-in_err-met_against-clause-longer : goal.returns-in_err-met_against-clause-longer
returns-in_err-met_against-clause-longer c =
    let s = c.args.steps.now in
    longer-kept s.state.now.network s.flows.now s.exits c.args.tree.now.nodes.items c.expand-2.new.tree.nodes.items c.args.tree.now.found.items
    c.expand-2.new.tree.found.items c.requires.grown c.expand-2.ensures.grown
    (kept-in_turn c.args.tree.now.nodes.items c.expand.new.tree.nodes.items c.expand-2.new.tree.nodes.items c.expand.ensures.kept c.expand-2.ensures.kept)

pub returns-clause-longer : goal.returns-clause-longer
returns-clause-longer c =
    let s = c.args.steps.now in
    longer-kept s.state.now.network s.flows.now s.exits c.args.tree.now.nodes.items c.expand-2.new.tree.nodes.items c.args.tree.now.found.items
    c.expand-2.new.tree.found.items c.requires.grown c.expand-2.ensures.grown
    (kept-in_turn c.args.tree.now.nodes.items c.expand.new.tree.nodes.items c.expand-2.new.tree.nodes.items c.expand.ensures.kept c.expand-2.ensures.kept)

pub returns-clause-none : goal.returns-clause-none
returns-clause-none c =
    let at = (goal.at.returns-clause-none c).After-index in
    let s = c.args.steps.now in
    let n : Network = s.state.now.network in
    let flows : List ℕ = s.flows.now in
    let back : Bool = c.args.back in
    let v : ℕ = c.index-v.result.now in
    let old = c.args.tree.now.nodes.items in
    let middle = c.expand.new.tree.nodes.items in
    let nodes = c.expand-2.new.tree.nodes.items in
    let kept = kept-in_turn old middle nodes c.expand.ensures.kept c.expand-2.ensures.kept in
    λ none.
    let expanded : IsExpanded n flows s.exits nodes back v = λ against i. elim against as (λ b. LeadsToReached n flows s.exits nodes back b v i) [
      | true ↦ c.in_ok-met_against.ensures.looked.none none i
      | false ↦ leads-kept n flows s.exits middle nodes back false v i c.expand-2.ensures.kept (c.in_ok-met.ensures.looked.none c.if-met-ne0.false i)
    ] in
    expanded-more n flows s.exits back c.args.next v old nodes c.args.tree.now.found.items c.expand-2.new.tree.found.items c.requires.grown
    c.expand-2.ensures.grown kept c.requires.is_there (next at).2 c.requires.expanded (λ _. expanded)
