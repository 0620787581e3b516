use Rattle.std.proofs.Common.{◌≡◌, ◌+◌, ◌<◌, List, [], ◌∷◌, ◌++◌, length, get_or, refl, ap, sym, ◌∙◌, subst, arith}
use Rattle.std.proofs.lemmas.List.{append-nil, get_or_default, length_push}
use Rattle.std.proofs.lemmas.Iterator.Consumers.{YieldsList-turn, YieldsList-end, YieldsList-from_first}
use Rattle.dmf_path.specs.declared.touched.Indices.{Indices}
use Rattle.dmf_path.specs.Search.{indices_of}
use Rattle.dmf_path.proofs.pairs.Covering.{index_behind}
use Rattle.dmf_state.specs.declared.edit.Shutting.{Shutting}
use Rattle.dmf_state.specs.Arc.{no_arc}
use Rattle.dmf_state.proofs.OpenArcs.{listed, listed_from, numbers-listed, open-listed}
use Rattle.dmf_solver.specs.Moves.{CoverOpen}
use Rattle.dmf_solver.proofs.pairs.ListedOpen.{open_before, open-more, open-whole}
use Rattle.dmf_solver.proofs.shut.open_arcs_at.Goals as goal
use Rattle.dmf_solver.proofs.shut.open_arcs_at.Goals.{In-Some, In-None}

pub loop-k-init : goal.loop-k-init
loop-k-init c = c.new-open.ensures.items

-- the index that comes next
next : (c : In-Some) → (length c.loop-k.yielded < length (indices_of c.into_iter-k-iterator.result))
    × (c.in-Some.k ≡ get_or (indices_of c.into_iter-k-iterator.result) (length c.loop-k.yielded) 0)
next c =
    let indices = indices_of c.into_iter-k-iterator.result in
    let turn = YieldsList-turn (YieldsList-from_first (λ k. k) indices_of _ refl) c.loop-k.yielded
    c.loop-k.k-iterator c.loop-k.yielded_by c.next.result c.next.new.self c.in-Some.k c.in-Some.is c.next.ensures.steps in
    (turn.0, turn.1 ∙ get_or_default indices (length c.loop-k.yielded) _ 0 turn.0)

-- what is listed once more of them are
more : (c : In-Some) (found : List Shutting) → found ≡ listed c.args.v (c.in-Some.k + 1) (get_or c.args.state.now.network.arcs c.in-Some.k no_arc)
    → c.loop-k.open.items ++ found ≡ open_before c.args.state.now.network.arcs c.args.v
    (index_behind (indices_of c.into_iter-k-iterator.result) (length (c.loop-k.yielded ++ c.in-Some.k ∷ [])))
more c found is =
    let arcs = c.args.state.now.network.arcs in
    let cover = subst (λ (i : Indices). CoverOpen arcs c.args.v (indices_of i)) (sym c.into_iter-k-iterator.ensures.into_iter_gives) c.indices_at-indices.ensures in
    let at = next c in
    rw (length_push c.loop-k.yielded c.in-Some.k)
    (open-more arcs c.args.v c.requires.node.from_one (indices_of c.into_iter-k-iterator.result) cover (length c.loop-k.yielded) c.loop-k.open.items found at.0
    c.loop-k.invariant (rw (← at.1) is))

pub loop-k-preserved : goal.loop-k-preserved
loop-k-preserved c =
    sym (append-nil c.loop-k.open.items) ∙ more (goal.at.loop-k-preserved c).In-Some [] (rw c.in_default.ensures refl)

pub loop-k-preserved-in-Continue-1 : goal.loop-k-preserved-in-Continue-1
loop-k-preserved-in-Continue-1 c =
    let is = c.in-Some-open_at.ensures in
    c.in_ok-push.ensures.items
    ∙ more (goal.at.loop-k-preserved-in-Continue-1 c).In-Some (c.in-Some-open_at.shutting ∷ []) (rw is.at (ap (λ s. s ∷ []) is.is))

-- After the last index they are all.
whole : (c : In-None) → c.loop-k.open.items ≡ listed_from c.args.v 1 c.args.state.now.network.arcs
whole c =
    let arcs = c.args.state.now.network.arcs in
    let indices = indices_of c.into_iter-k-iterator.result in
    let cover = subst (λ (i : Indices). CoverOpen arcs c.args.v (indices_of i)) (sym c.into_iter-k-iterator.ensures.into_iter_gives) c.indices_at-indices.ensures in
    let end = YieldsList-end (YieldsList-from_first (λ k. k) indices_of _ refl) c.loop-k.yielded
    c.loop-k.k-iterator c.loop-k.yielded_by c.next.result c.next.new.self c.in-None.is c.next.ensures.steps in
    open-whole arcs c.args.v c.requires.node.from_one indices cover (length c.loop-k.yielded) c.loop-k.open.items (omega (arith, end.1)) (omega (arith, end.1))
    c.loop-k.invariant

pub returns-clause-are_open : goal.returns-clause-are_open
returns-clause-are_open c =
    rw (whole (goal.at.returns-clause-are_open c).In-None) (open-listed c.args.v c.args.state.now.network)

pub returns-clause-numbers : goal.returns-clause-numbers
returns-clause-numbers c =
    rw (whole (goal.at.returns-clause-numbers c).In-None) (numbers-listed c.args.v 1 c.args.state.now.network.arcs)
