use Rattle.std.proofs.Common.{ℕ, ◌<◌, ◌-◌, length, ◌∙◌, arith, refl}
use Rattle.std.proofs.lemmas.List.{get_or_read}
use Rattle.dmf_state.proofs.ChangedArc.{has_arc-within}
use Rattle.dmf_vital.proofs.Entering.{entering-none, entering-next}
use Rattle.dmf_vital.proofs.search.enter.Goals.{then-only-eq0, else-only-eq0}
use Rattle.dmf_vital.proofs.search.enter.Goals as goal

pub loop-arc-init : goal.loop-arc-init
loop-arc-init c =
    let s = c.args.steps.now in
    let n = s.state.now.network in
    let e = s.exits in
    let last = c.args.along.now.last.items in
    let node = c.requires.exits.node in
    let inside : e.node - 1 < length last = omega (arith, node.from_one, node.to_last, c.requires.along.one_a_node) in
    let nodes = c.args.tree.now.nodes.items in
    let found = c.args.tree.now.found.items in
    elim c.if-only-eq0.branch [
      | then-only-eq0 w ↦
          entering-none n s.flows.now e c.requires.exits last c.args.along.now.before.items c.requires.along nodes found c.if-only-eq0.arc c.requires.grown
          c.requires.behind (λ _. w.arc-is ∙ get_or_read last (e.node - 1) w.index.result.now inside w.index.ensures 0) (λ some. absurd (some w.if-only-eq0.true))
      | else-only-eq0 w ↦
          entering-none n s.flows.now e c.requires.exits last c.args.along.now.before.items c.requires.along nodes found c.if-only-eq0.arc c.requires.grown
          c.requires.behind (λ none. absurd (w.if-only-eq0.false none)) (λ _. w.arc-is)
    ]

pub loop-arc-smaller-then-only-eq0-2 : goal.loop-arc-smaller-then-only-eq0-2
loop-arc-smaller-then-only-eq0-2 c =
    let s = c.args.steps.now in
    let before = c.args.along.now.before.items in
    let arc : ℕ = c.loop-arc.arc in
    let next : ℕ = c.index-then-only-eq0-2.result.now in
    let inside : arc - 1 < length before = omega (arith, c.loop-arc.invariant.within, c.loop-arc-test.true, c.requires.along.one_an_arc) in
    let is = get_or_read before (arc - 1) next inside c.index-then-only-eq0-2.ensures 0 in
    let chain = c.requires.along.before_is (arc - 1) (omega (arith, inside, c.requires.along.one_an_arc)) in
    omega (arith, is, chain.below, c.loop-arc-test.true)

pub loop-arc-preserved-then-only-eq0-2 : goal.loop-arc-preserved-then-only-eq0-2
loop-arc-preserved-then-only-eq0-2 c =
    let s = c.args.steps.now in
    let before = c.args.along.now.before.items in
    let arc : ℕ = c.loop-arc.arc in
    let next : ℕ = c.index-then-only-eq0-2.result.now in
    let inside : arc - 1 < length before = omega (arith, c.loop-arc.invariant.within, c.loop-arc-test.true, c.requires.along.one_an_arc) in
    let is = get_or_read before (arc - 1) next inside c.index-then-only-eq0-2.ensures 0 in
    (entering-next s.state.now.network s.flows.now s.exits c.requires.exits c.args.along.now.last.items before c.requires.along
    c.loop-arc.tree.nodes.items c.enter_over.new.tree.nodes.items c.loop-arc.tree.found.items c.enter_over.new.tree.found.items arc next c.loop-arc.invariant
    c.loop-arc-test.true c.enter_over.ensures.kept c.enter_over.ensures.grown c.enter_over.ensures.behind c.in_ok-enter_over.ensures.entered
    (λ _. is) (λ some. absurd (some c.if-only-eq0-2.true))).0

pub loop-arc-preserved : goal.loop-arc-preserved
loop-arc-preserved c =
    let s = c.args.steps.now in
    (entering-next s.state.now.network s.flows.now s.exits c.requires.exits c.args.along.now.last.items c.args.along.now.before.items c.requires.along
    c.loop-arc.tree.nodes.items c.enter_over.new.tree.nodes.items c.loop-arc.tree.found.items c.enter_over.new.tree.found.items c.loop-arc.arc 0 c.loop-arc.invariant
    c.loop-arc-test.true c.enter_over.ensures.kept c.enter_over.ensures.grown c.enter_over.ensures.behind c.in_ok-enter_over.ensures.entered
    (λ none. absurd (c.if-only-eq0-2.false none)) (λ _. refl)).0

pub returns-clause-entered : goal.returns-clause-entered
returns-clause-entered c = λ i there exit carries.
    let at = has_arc-within c.args.steps.now.state.now.network i there in
    c.loop-arc.invariant.looked i (omega (arith, at.0, c.loop-arc-test.false)) there exit carries
