-- The labels of both searches are joined, node by node of the start's side.
use Rattle.std.proofs.Common.{ℕ, ◌≡◌, ◌≢◌, ◌+◌, ◌≤◌, ◌<◌, ◌⊎◌, ◌++◌, inl, inr, List, [], ◌∷◌, length, get_or, set, ap, sym, refl, ◌∙◌, arith, eq-eqb}
use Rattle.std.proofs.lemmas.Bool.{cases_eq, cases_lt, ne_eqb}
use Rattle.std.proofs.lemmas.Bool.Decides.{nat_tests}
use Rattle.std.proofs.lemmas.List.{get_or_append_left, get_or_push, get_or_default, length-set, length_push}
use Rattle.std.proofs.lemmas.List.Elements.{Contains-append_left, Contains-push}
use Rattle.dmf_path.specs.Labels.{no_label, unlabelled_count, AreQueued}
use Rattle.dmf_path.specs.BothEnds.{AreJoinedBy, joined_by}
use Rattle.dmf_path.proofs.labels.Spreading.{unlabelled_count-set, cases-set}

-- The labels of the first `k` nodes are joined; those of the others may be.
pub record AreJoining (made : ℕ → ℕ) (old others nodes : List ℕ) (k : ℕ) (new queue : List ℕ) (capacity : ℕ) : Type 0 where
  pub one_each : length new ≡ length old
  pub each : (v : ℕ) → v < length new → (get_or new v 0 ≡ get_or old v 0) ⊎ (get_or new v 0 ≡ joined_by made (get_or old v 0) (get_or others v 0))
  pub done : (i : ℕ) → i < k → get_or new (get_or nodes i 0) 0 ≡ joined_by made (get_or old (get_or nodes i 0) 0) (get_or others (get_or nodes i 0) 0)
  pub queued : AreQueued new queue
  pub room : length queue + unlabelled_count new ≤ capacity

-- A label that may be joined is, where there is one, or where the start's side has none.
joined-has : (made : ℕ → ℕ) (g s label : ℕ) → (label ≢ no_label) ⊎ (s ≡ no_label) → (label ≡ g) ⊎ (label ≡ joined_by made g s) → label ≡ joined_by made g s
joined-has made g s label has either = grind (arith, nat_tests)

-- If there is none, it is made of the other one.
joined-rest : (made : ℕ → ℕ) (g s label : ℕ) → label ≡ no_label → s ≢ no_label → (label ≡ g) ⊎ (label ≡ joined_by made g s)
    → made s ≢ no_label → made s ≡ joined_by made g s
joined-rest made g s label none has either some = elim (cases_eq g no_label) [
  | inl unset ↦ rw (eq-eqb g no_label unset, ne_eqb s no_label has) refl
  | inr set ↦ elim either [
    | inl own ↦ absurd (set (sym own ∙ none))
    | inr is ↦ absurd (set (sym (rw (ne_eqb g no_label set) at is) ∙ none))
  ]
]

pub queued-next : (labels queue : List ℕ) (v label : ℕ) → AreQueued labels queue → v < length labels → AreQueued (set labels v label) (queue ++ v ∷ [])
queued-next labels queue v label queued inside =
    let long : length (set labels v label) ≡ length labels = length-set labels v label in
    record {
      within = λ k before. elim (cases_lt k (length queue)) [
        | inl less ↦ omega (arith, long, get_or_append_left queue (v ∷ []) 0 k less, queued.within k less)
        | inr more ↦ omega (arith, long, inside, get_or_push queue v 0 k (omega (arith, before, more, length_push queue v)))
      ];
      listed = λ u within has. elim (cases-set labels v u label inside) [
        | inl here ↦ rw here.0 (Contains-push queue v)
        | inr other ↦ Contains-append_left queue (v ∷ []) u (queued.listed u (omega (arith, within, long)) (λ none. has (other.1 ∙ none)))
      ];
    }

module _ {made : ℕ → ℕ} {old others nodes : List ℕ} {k : ℕ} {new queue : List ℕ} {capacity : ℕ}
    (so_far : AreJoining made old others nodes k new queue capacity) where
  -- A node that already has a label,
  pub joining-skip : get_or nodes k 0 < length new → get_or new (get_or nodes k 0) 0 ≢ no_label → AreJoining made old others nodes (k + 1) new queue capacity
  joining-skip within has = record {
    one_each = so_far.one_each;
    each = so_far.each;
    done = λ i before. elim (cases_eq i k) [
      | inl same ↦ let v = get_or nodes k 0 in rw same (joined-has made (get_or old v 0) (get_or others v 0) (get_or new v 0) (inl has) (so_far.each v within))
      | inr other ↦ so_far.done i (omega arith)
    ];
    queued = so_far.queued;
    room = so_far.room;
  }

  -- and a node without one, which gets what is made of the other.
  pub joining-next : get_or nodes k 0 < length new → get_or new (get_or nodes k 0) 0 ≡ no_label → get_or others (get_or nodes k 0) 0 ≢ no_label
      → made (get_or others (get_or nodes k 0) 0) ≢ no_label
      → AreJoining made old others nodes (k + 1) (set new (get_or nodes k 0) (made (get_or others (get_or nodes k 0) 0)))
      (queue ++ get_or nodes k 0 ∷ []) capacity
  joining-next within unset has some =
      let v : ℕ = get_or nodes k 0 in
      let label : ℕ = made (get_or others v 0) in
      let is = joined-rest made (get_or old v 0) (get_or others v 0) (get_or new v 0) unset has (so_far.each v within) some in
      let joined : (u : ℕ) → u ≡ v → label ≡ joined_by made (get_or old u 0) (get_or others u 0) = λ u same. rw same is in
      record {
        one_each = length-set new v label ∙ so_far.one_each;
        each = λ u inside. elim (cases-set new v u label within) [
          | inl here ↦ inr (here.1 ∙ joined u here.0)
          | inr other ↦ rw other.1 (so_far.each u (omega (arith, inside, length-set new v label)))
        ];
        done = λ i before. elim (cases-set new v (get_or nodes i 0) label within) [
          | inl here ↦ here.1 ∙ joined (get_or nodes i 0) here.0
          | inr other ↦
              let apart : i ≢ k = λ same. other.0 (ap (λ j. get_or nodes j 0) same) in
              other.1 ∙ so_far.done i (omega arith)
        ];
        queued = queued-next new queue v label so_far.queued within;
        room = omega (arith, so_far.room, length_push queue v, unlabelled_count-set new v label within unset some);
      }

  -- Once this is done for all nodes, the labels are joined.
  pub joining-last : length nodes ≤ k → length old ≡ length others → AreQueued others nodes → AreJoinedBy made old others new
  joining-last all one_each queued = record {
    one_each = so_far.one_each;
    each = λ v within. elim (cases_eq (get_or others v 0) no_label) [
      | inl unset ↦ joined-has made (get_or old v 0) (get_or others v 0) (get_or new v 0) (inr unset) (so_far.each v within)
      | inr has ↦
          let at = queued.listed v (omega (arith, within, so_far.one_each, one_each)) has in
          rw (get_or_default nodes at.0 0 v at.1 ∙ at.2) at (so_far.done at.0 (omega (arith, at.1, all)))
    ];
  }
