-- Arrays that are filled with the moves that change a flow, one after another.
use Rattle.std.proofs.Common.{ℕ, ◌≡◌, ◌≢◌, ◌+◌, ◌<◌, ◌≤◌, ◌==◌, if◌then◌else◌, Bool, true, false, List, [], ◌∷◌, ◌++◌, length, take, get_or, set}
use Rattle.std.proofs.Common.{refl, ap, ◌∙◌, sym, arith, ⊎_elim, suc}
use Rattle.std.proofs.lemmas.Bool.{cases_lt, eq-eqb, ne_eqb}
use Rattle.std.proofs.lemmas.List.{get_or-set_same, get_or-set_other, length-set, length_push, get_or_append_left, get_or_push, take_more}
use Rattle.dmf_state.specs.declared.edit.Move.{Move}
use Rattle.dmf_c.specs.Arrays.{BeginsWith}
use Rattle.dmf_c.specs.Differing.{differing}
use Rattle.dmf_c.specs.Moved.{HasMoves, no_move}

-- one item more
begins-more : {A : Type 0} (number : A → ℕ) (none : A) (items : List A) (before after : List ℕ) → BeginsWith number none items before after → (item : A)
    → BeginsWith number none (items ++ item ∷ []) before (set after (length items) (number item))
begins-more {A} number none items before after h item =
    let n : ℕ = length items in
    let long : length (set after n (number item)) ≡ length after = length-set after n (number item) in
    record {
      size = long ∙ h.size;
      first = λ k low within. ⊎_elim
          (λ (early : k < n).
          get_or-set_other after n k (number item) 0 (λ e. omega (arith, early, e))
          ∙ h.first k early (omega (arith, within, long))
          ∙ ap number (sym (get_or_append_left items (item ∷ []) none k early)))
          (λ (late : n ≤ k).
          let last : k ≡ n = omega (arith, late, low, length_push items item) in
          let there : n < length after = omega (arith, within, long, last) in
          ap (λ j. get_or (set after n (number item)) j 0) last ∙ get_or-set_same after n (number item) 0 there
          ∙ ap number (sym (get_or_push items item none k (sym last))))
          (cases_lt k n);
      others = λ k past within.
          get_or-set_other after n k (number item) 0 (λ e. omega (arith, e, past, length_push items item))
          ∙ h.others k (omega (arith, past, length_push items item)) (omega (arith, within, long));
    }

-- a test before another
pushed : (b c : Bool) (n m : Move) (moves all : List Move) → all ≡ (if c then moves else moves ++ m ∷ [])
    → (if b then all else n ∷ all) ≡ (if c then (if b then moves else n ∷ moves) else (if b then moves else n ∷ moves) ++ m ∷ [])
pushed true true n m moves all e = e
pushed true false n m moves all e = e
pushed false true n m moves all e = ap (λ ms. n ∷ ms) e
pushed false false n m moves all e = ap (λ ms. n ∷ ms) e

one-longer : (b : Bool) (m : Move) (moves : List Move) (k : ℕ) → length moves ≤ k → length (if b then moves else m ∷ moves) ≤ suc k
one-longer true m moves k h = omega (arith, h)
one-longer false m moves k h = omega (arith, h)

-- the moves that change a flow, with one move more
differing-push : (moves : List Move) (m : Move) → differing (moves ++ m ∷ []) ≡ (if m.from == m.to then differing moves else differing moves ++ m ∷ [])
differing-push [] m = refl
differing-push (n ∷ moves) m = pushed (n.from == n.to) (m.from == m.to) n m (differing moves) (differing (moves ++ m ∷ [])) (differing-push moves m)

-- They are not more than all.
pub length-differing : (moves : List Move) → length (differing moves) ≤ length moves
length-differing [] = omega arith
length-differing (m ∷ moves) = one-longer (m.from == m.to) m (differing moves) (length moves) (length-differing moves)

module _ (moves : List Move) (i : ℕ) (within : i < length moves) where
  abbrev m : Move
  m = get_or moves i no_move

  -- with the move at the index
  with-next : (b : Bool) → (m.from == m.to) ≡ b → differing (take (i + 1) moves) ≡ (if b then differing (take i moves) else differing (take i moves) ++ m ∷ [])
  with-next b test =
      ap differing (take_more moves i no_move within) ∙ differing-push (take i moves) m
      ∙ ap (λ (c : Bool). if c then differing (take i moves) else differing (take i moves) ++ m ∷ []) test

  -- A move that changes no flow is left out,
  pub left-out : m.from ≡ m.to → differing (take (i + 1) moves) ≡ differing (take i moves)
  left-out same = with-next true (eq-eqb m.from m.to same)

  -- and any other is the last one.
  pub put-last : m.from ≢ m.to → differing (take (i + 1) moves) ≡ differing (take i moves) ++ m ∷ []
  put-last other = with-next false (ne_eqb m.from m.to other)

-- One move more is put into each array.
pub has-more : (moves : List Move) (arcs_before arcs froms_before froms tos_before tos : List ℕ) (count : ℕ)
    → HasMoves moves arcs_before arcs froms_before froms tos_before tos count → (m : Move)
    → HasMoves (moves ++ m ∷ []) arcs_before (set arcs count m.arc) froms_before (set froms count m.from) tos_before (set tos count m.to) (count + 1)
has-more moves arcs_before arcs froms_before froms tos_before tos count h m =
    rw h.count (record {
      arcs = begins-more (λ m. m.arc) no_move moves arcs_before arcs h.arcs m;
      froms = begins-more (λ m. m.from) no_move moves froms_before froms h.froms m;
      tos = begins-more (λ m. m.to) no_move moves tos_before tos h.tos m;
      count = sym (length_push moves m);
    })
