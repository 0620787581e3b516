use Rattle.std.proofs.Common.{ℕ, false, [], ◌∷◌, ◌++◌, ◌+◌, ◌-◌, length, set, refl, ap, ◌∙◌, arith}
use Rattle.dmf_vital.specs.declared.tree.Reached.{Reached}
use Rattle.dmf_vital.proofs.Keeping.{entered-kept}
use Rattle.dmf_vital.proofs.Growing.{grown-root, grown-same}
use Rattle.dmf_vital.proofs.Listed.{listed-stay}
use Rattle.dmf_vital.proofs.search.search.Goals as goal

pub returns-in_err-reach-clause-tree : goal.returns-in_err-reach-clause-tree
returns-in_err-reach-clause-tree c =
    let n = c.args.steps.now.state.now.network in
    listed-stay n.nodes c.forget.new.tree.nodes.items c.reach.new.tree.nodes.items c.reach.new.tree.found.items c.in_err-reach.ensures.nodes_stay
    (c.in_err-reach.ensures.found_stay ∙ c.forget.ensures.empty) (c.forget.ensures.one_each ∙ c.requires.tree.one_each)
    (λ v node. c.forget.ensures.none v (rw c.requires.tree.one_each node))

pub enter-requires-clause-grown : goal.enter-requires-clause-grown
enter-requires-clause-grown c =
    let s = c.args.steps.now in
    let n = s.state.now.network in
    let v : ℕ = s.exits.node in
    let now : Reached = record {
      place = length c.forget.new.tree.found.items + 1;
      hop = c.no_hop.result;
      width = 18446744073709551615;
      back = false;
    } in
    let grown = grown-root n s.flows.now s.exits v c.forget.new.tree.nodes.items now refl c.requires.exits.node
    (c.forget.ensures.one_each ∙ c.requires.tree.one_each) (λ u other. c.forget.ensures.none u (rw c.requires.tree.one_each other))
    (omega (arith, ap length c.forget.ensures.empty)) (omega arith) refl in
    grown-same n s.flows.now s.exits (set c.forget.new.tree.nodes.items (v - 1) now) c.reach.new.tree.nodes.items (v ∷ []) c.reach.new.tree.found.items
    c.in_ok-reach.ensures.nodes (c.in_ok-reach.ensures.found ∙ ap (λ xs. xs ++ v ∷ []) c.forget.ensures.empty) grown

-- Both ends have met in turns.
pub returns-then-met-ne0-clause-ended : goal.returns-then-met-ne0-clause-ended
returns-then-met-ne0-clause-ended c =
    let s = c.args.steps.now in
    record {
      entered = λ i. entered-kept s.state.now.network s.flows.now s.exits c.enter.new.tree.nodes.items c.meet.new.tree.nodes.items i c.meet.ensures.kept
          (c.in_ok-enter.ensures.entered i);
      some = c.in_ok-met.ensures.crossing;
      none = λ none. absurd (c.if-met-ne0.true none);
    }

pub exhaust-requires-clause-entered : goal.exhaust-requires-clause-entered
exhaust-requires-clause-entered c = λ i.
    let s = c.args.steps.now in
    entered-kept s.state.now.network s.flows.now s.exits c.enter.new.tree.nodes.items c.meet.new.tree.nodes.items i c.meet.ensures.kept
    (c.in_ok-enter.ensures.entered i)
