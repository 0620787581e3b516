-- The moves of the arcs at some indices, where the flow on every other arc stays.
use Rattle.std.proofs.Common.{ℕ, ◌≡◌, ◌+◌, ◌<◌, ◌≤◌, List, [], ◌++◌, length, get_or, take, refl, ap, sym, ◌∙◌, ⊎_elim, arith}
use Rattle.std.proofs.lemmas.Bool.{cases_lt}
use Rattle.std.proofs.lemmas.List.{append-nil, get_or_past, take_all}
use Rattle.dmf_path.specs.Search.{Covers}
use Rattle.dmf_path.proofs.pairs.Collecting.{collected-more, collected-whole}
use Rattle.dmf_path.proofs.pairs.Covering.{index_behind}
use Rattle.dmf_state.specs.declared.edit.Move.{Move}
use Rattle.dmf_state.specs.Edit.{differences}
use Rattle.dmf_solver.specs.Moves.{Stays}
use Rattle.dmf_state.proofs.Moving.{differences-more, move_of, move_of-same}

-- the moves of the first `k` arcs
abbrev pub moves_before : List ℕ → List ℕ → ℕ → List Move
moves_before before after k = differences 1 (take k before) (take k after)

module _ (before after : List ℕ) (same : length after ≡ length before) where
  -- what a read past the last arc gives
  pub stays-past : (k : ℕ) → length before ≤ k → Stays before after k
  stays-past k past = get_or_past before k 0 past ∙ sym (get_or_past after k 0 (omega (arith, past, same)))

  moves-all : (k : ℕ) → length before ≤ k → moves_before before after k ≡ differences 1 before after
  moves-all k past = rw (take_all k before past, take_all k after (omega (arith, past, same))) refl

  -- the move of the arc at index `k`, if there is one
  abbrev here : ℕ → List Move
  here k = move_of (k + 1) (get_or before k 0) (get_or after k 0)

  -- the moves, with the move of the next arc
  moves-next : (k : ℕ) → moves_before before after (k + 1) ≡ moves_before before after k ++ here k
  moves-next k =
      ⊎_elim
      (λ (within : k < length before). differences-more k before after within same)
      (λ (past : length before ≤ k).
      moves-all (k + 1) (omega (arith, past)) ∙ sym (moves-all k past) ∙ sym (append-nil _) ∙ ap (λ ms. moves_before before after k ++ ms)
      (sym (move_of-same (k + 1) _ _ (stays-past k past))))
      (cases_lt k (length before))

  module _ (count : ℕ) (long : length before ≤ count) (indices : List ℕ) (covers : Covers count (Stays before after) indices) where
    -- Where a flow stays, there is no move.
    none : (k : ℕ) → Stays before after k → here k ≡ []
    none k stays = move_of-same (k + 1) _ _ stays

    -- The moves, with the move of the arc at the next index.
    pub moves-listed : (i : ℕ) (moves more : List Move) → i < length indices → moves ≡ moves_before before after (index_behind indices i)
        → more ≡ here (get_or indices i 0) → moves ++ more ≡ moves_before before after (index_behind indices (i + 1))
    moves-listed i moves more h are is =
        collected-more (moves_before before after) here moves-next count (Stays before after) indices covers none i moves more h are is

    -- after the last index
    pub moves-whole : (i : ℕ) (moves : List Move) → i ≤ length indices → length indices ≤ i → moves ≡ moves_before before after (index_behind indices i)
        → moves ≡ differences 1 before after
    moves-whole i moves most whole are =
        collected-whole (moves_before before after) here moves-next count (Stays before after) indices covers none i moves most whole
        (λ k past. none k (stays-past k (omega (arith, long, past)))) are
        ∙ moves-all (index_behind indices i + count) (omega (arith, long))
