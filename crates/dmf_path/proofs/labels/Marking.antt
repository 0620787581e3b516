-- The nodes of a queue get a mark, one after the other.
use Rattle.std.proofs.Common.{ℕ, ◌≡◌, ◌≢◌, ◌+◌, ◌-◌, ◌<◌, ◌≤◌, ◌⊎◌, inl, inr, Bool, false, cond, List, length, get_or, set, ap, sym, ◌∙◌, arith}
use Rattle.std.proofs.lemmas.Bool.{cases_eq}
use Rattle.std.proofs.lemmas.List.{get_or_default, get_or-set_other, get_or-set_same, length-set}
use Rattle.dmf_path.specs.ClosedSide.{is_marked}
use Rattle.dmf_path.specs.Labels.{no_label, AreQueued}
use Rattle.dmf_path.specs.Through.{AreMarked}
use Rattle.dmf_path.proofs.paths.Reaching.{label-none, label-to}

-- The first `k` nodes have the mark. Another mark is as before, unless it is that of a node with a label.
pub record AreMarking (labels nodes : List ℕ) (mark : Bool) (before : List Bool) (k : ℕ) (marks : List Bool) : Type 0 where
  pub one_each : length marks ≡ length before
  pub done : (i : ℕ) → i < k → is_marked marks (get_or nodes i 0) ≡ mark
  pub others : (v : ℕ) → 1 ≤ v → (is_marked marks v ≡ is_marked before v) ⊎ ((is_marked marks v ≡ mark) × (get_or labels v 0 ≢ no_label))

module _ {labels nodes : List ℕ} {mark : Bool} {before : List Bool} {k : ℕ} {marks : List Bool} (so_far : AreMarking labels nodes mark before k marks) where
  -- The next node gets it.
  pub marking-next : 1 ≤ get_or nodes k 0 → get_or nodes k 0 - 1 < length marks → get_or labels (get_or nodes k 0) 0 ≢ no_label
      → AreMarking labels nodes mark before (k + 1) (set marks (get_or nodes k 0 - 1) mark)
  marking-next from_one within has =
      let v : ℕ = get_or nodes k 0 in
      let here : (u : ℕ) → u - 1 ≡ v - 1 → is_marked (set marks (v - 1) mark) u ≡ mark = λ u same.
      ap (λ i. get_or (set marks (v - 1) mark) i false) same ∙ get_or-set_same marks (v - 1) mark false within in
      let there : (u : ℕ) → u - 1 ≢ v - 1 → is_marked (set marks (v - 1) mark) u ≡ is_marked marks u = λ u apart.
      get_or-set_other marks (v - 1) (u - 1) mark false apart in
      record {
        one_each = length-set marks (v - 1) mark ∙ so_far.one_each;
        done = λ i low. elim (cases_eq (get_or nodes i 0 - 1) (v - 1)) [
          | inl same ↦ here (get_or nodes i 0) same
          | inr apart ↦
              let other : i ≢ k = λ same. apart (ap (λ j. get_or nodes j 0 - 1) same) in
              there (get_or nodes i 0) apart ∙ so_far.done i (omega arith)
        ];
        others = λ u one. elim (cases_eq (u - 1) (v - 1)) [
          | inl same ↦
              let is : u ≡ v = omega (arith, same, one, from_one) in
              inr (here u same, λ none. has (sym (ap (λ w. get_or labels w 0) is) ∙ none))
          | inr apart ↦ elim (so_far.others u one) [
            | inl was ↦ inl (there u apart ∙ was)
            | inr is ↦ inr (there u apart ∙ is.0, is.1)
          ]
        ];
      }

  -- Once all nodes of the queue have it, the nodes with labels do.
  pub marking-last : length nodes ≤ k → AreQueued labels nodes → length labels ≡ length before + 1 → AreMarked labels mark before marks
  marking-last all queued long = record {
    one_each = so_far.one_each;
    each = λ v node. elim (cases_eq (get_or labels v 0) no_label) [
      | inl none ↦ elim (so_far.others v node.from_one) [
        | inl was ↦ was ∙ sym (ap (λ b. cond b mark (is_marked before v)) (label-none (get_or labels v 0) none))
        | inr is ↦ absurd (is.1 none)
      ]
      | inr has ↦
          let at = queued.listed v (omega (arith, node.to_last, long)) has in
          (rw (get_or_default nodes at.0 0 v at.1 ∙ at.2) at (so_far.done at.0 (omega (arith, at.1, all))))
          ∙ sym (ap (λ b. cond b mark (is_marked before v)) (label-to (get_or labels v 0) has))
    ];
  }
