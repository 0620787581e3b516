use Rattle.std.proofs.Common.{◌≡◌, ◌+◌, ◌<◌, List, [], ◌∷◌, length, get_or, ap, sym, ◌∙◌, arith, ◌++◌}
use Rattle.std.proofs.lemmas.List.{append-nil, get_or_default, length_push}
use Rattle.std.proofs.lemmas.Iterator.Consumers.{YieldsList-turn, YieldsList-end, YieldsList-from_first}
use Rattle.dmf_path.specs.Search.{indices_of}
use Rattle.dmf_path.proofs.pairs.Covering.{index_behind}
use Rattle.dmf_state.specs.declared.edit.Move.{Move}
use Rattle.dmf_solver.proofs.pairs.ListedMoves.{moves_before, moves-listed, moves-whole}
use Rattle.dmf_state.proofs.Moving.{move_of, move_of-differ, move_of-same}
use Rattle.dmf_solver.proofs.moves.list_moves.Goals as goal
use Rattle.dmf_solver.proofs.moves.list_moves.Goals.{In-Some}

pub loop-k-init : goal.loop-k-init
loop-k-init g c = c.new-moves.ensures.items

-- the index that comes next
next : (g : _) (c : In-Some g) → (length c.loop-k.yielded < length (indices_of c.args.indices))
    × (c.in-Some.k ≡ get_or (indices_of c.args.indices) (length c.loop-k.yielded) 0)
next g c =
    let turn = YieldsList-turn (YieldsList-from_first (λ k. k) indices_of _ (ap indices_of c.into_iter-k-iterator.ensures.into_iter_gives)) c.loop-k.yielded
    c.loop-k.k-iterator c.loop-k.yielded_by c.next.result c.next.new.self c.in-Some.k c.in-Some.is c.next.ensures.steps in
    (turn.0, turn.1 ∙ get_or_default (indices_of c.args.indices) (length c.loop-k.yielded) _ 0 turn.0)

-- the moves once more of them are listed
listed : (g : _) (c : In-Some g) (more : List Move)
    → more ≡ move_of (c.in-Some.k + 1) (get_or c.args.state.now.flows c.in-Some.k 0) (get_or (g.F.Flows.flows c.args.after.now) c.in-Some.k 0)
    → c.loop-k.moves.items ++ more ≡ moves_before c.args.state.now.flows (g.F.Flows.flows c.args.after.now)
    (index_behind (indices_of c.args.indices) (length (c.loop-k.yielded ++ c.in-Some.k ∷ [])))
listed g c more is =
    let cover = c.requires.others_stay in
    let at = next g c in
    rw (length_push c.loop-k.yielded c.in-Some.k)
    (moves-listed c.args.state.now.flows (g.F.Flows.flows c.args.after.now) c.requires.one_each cover.count cover.most (indices_of c.args.indices) cover.covers
    (length c.loop-k.yielded) c.loop-k.moves.items more at.0 c.loop-k.invariant (rw (← at.1) is))

pub loop-k-preserved : goal.loop-k-preserved
loop-k-preserved g c =
    sym (append-nil c.loop-k.moves.items)
    ∙ listed g (goal.at.loop-k-preserved g c).In-Some [] (sym (move_of-same (c.in-Some.k + 1) _ _ c.in_default.ensures))

pub loop-k-preserved-in-Continue-1 : goal.loop-k-preserved-in-Continue-1
loop-k-preserved-in-Continue-1 g c =
    let is = c.in-Some-move_at.ensures in
    c.in_ok-push.ensures.items
    ∙ listed g (goal.at.loop-k-preserved-in-Continue-1 g c).In-Some (c.in-Some-move_at.m ∷ [])
    (ap (λ m. m ∷ []) is.is ∙ sym (move_of-differ (c.in-Some.k + 1) _ _ is.differs))

pub returns : goal.returns
returns g c =
    let cover = c.requires.others_stay in
    let indices = indices_of c.args.indices in
    let end = YieldsList-end (YieldsList-from_first (λ k. k) indices_of _ (ap indices_of c.into_iter-k-iterator.ensures.into_iter_gives)) c.loop-k.yielded
    c.loop-k.k-iterator c.loop-k.yielded_by c.next.result c.next.new.self c.in-None.is c.next.ensures.steps in
    moves-whole c.args.state.now.flows (g.F.Flows.flows c.args.after.now) c.requires.one_each cover.count cover.most indices cover.covers
    (length c.loop-k.yielded) c.loop-k.moves.items (omega (arith, end.1)) (omega (arith, end.1)) c.loop-k.invariant
