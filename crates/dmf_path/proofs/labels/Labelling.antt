-- Spreading labels from roots, node by node in the order of a queue.
use Rattle.std.proofs.Common.{ℕ, ◌≡◌, ◌≢◌, ◌+◌, ◌≤◌, ◌<◌, ◌⊎◌, inl, inr, List, [], ◌∷◌, length, set, replicate, slice_index, refl, ap, sym, ◌∙◌}
use Rattle.std.proofs.Common.{arith, ◌==◌, cond, subst, Contains}
use Rattle.std.proofs.lemmas.Bool.{cases_eq, cases_lt}
use Rattle.std.proofs.lemmas.List.{get_or-replicate, get_or-set_same, length-set, length-replicate, get_or_default, ext_get_or}
use Rattle.std.proofs.lemmas.List.Folds.{sum_by-replicate}
use Rattle.dmf_node.specs.Node.{IsNode}
use Rattle.dmf_links.specs.Links.{Links, AreLinks}
use Rattle.dmf_path.specs.Labels.{no_label, AreLabelsFrom, AreQueued}
use Rattle.dmf_path.specs.Frontier.{AreSpread, IsSpread, begun_at}
use Rattle.dmf_path.specs.Reach.{Reach}
use Rattle.dmf_path.proofs.labels.Roots.{first-root, one-root}
use Rattle.dmf_path.proofs.labels.Spreading.{unlabelled_count-set, cases-set}

module _ {l : Links} {opens roots labels queue : List ℕ} {done : ℕ} (so_far : AreSpread l opens roots labels queue done) where
  -- Number 0 is never in the queue, so the queue has room for all nodes.
  pub queue-short : length queue ≤ l.nodes
  queue-short =
      let one = unlabelled_count-set labels 0 0 (omega (arith, so_far.one_each)) so_far.zero (λ e. absurd (omega arith)) in
      omega (arith, one, so_far.counted)

  -- A node with a label stands in the queue, at a place not below its label.
  pub queued-at : (v : ℕ) → IsNode l.nodes v → slice_index labels v ≢ no_label → (k : ℕ) × (k < length queue) × (slice_index queue k ≡ v)
      × (slice_index labels v ≤ k) × (slice_index labels (slice_index queue k) ≡ slice_index labels v)
  queued-at v node has =
      let here = so_far.listed v node has in
      let is : slice_index queue here.0 ≡ v = get_or_default queue here.0 0 v here.1 ∙ here.2 in
      let same = ap (λ u. slice_index labels u) is in
      (here.0, here.1, is, omega (arith, same, (so_far.queued here.0 here.1).small), same)

  -- The label of a node in the queue is below the number that stands for none.
  pub label-below : (k : ℕ) → AreLinks l → k < length queue → slice_index labels (slice_index queue k) < no_label
  label-below k are within = omega (arith, (so_far.queued k within).small, queue-short, are.at_most_nodes)

  -- A number with a label is a node.
  label-node : (v : ℕ) → v ≤ l.nodes → slice_index labels v ≢ no_label → IsNode l.nodes v
  label-node v within has = elim (cases_eq v 0) [
    | inl zero ↦ absurd (has (rw zero so_far.zero))
    | inr other ↦ record { from_one = omega arith; to_last = within }
  ]

  -- No label exceeds the number that stands for none.
  label-most : (v : ℕ) → AreLinks l → v ≤ l.nodes → slice_index labels v ≤ no_label
  label-most v are within = elim (cases_eq (slice_index labels v) no_label) [
    | inl none ↦ omega arith
    | inr has ↦ let at = queued-at v (label-node v within has) has in omega (arith, at.1, at.3, queue-short, are.at_most_nodes)
  ]

  -- All nodes with labels are in the queue.
  pub spread-queued : AreQueued labels queue
  spread-queued = record {
    within = λ k before. omega (arith, (so_far.queued k before).node.to_last, so_far.one_each);
    listed = λ v within has. so_far.listed v (label-node v (omega (arith, within, so_far.one_each)) has) has;
  }

  -- The labels after the queue is used up, or after the node `stop` has a label.
  pub labels-spread : (stop : ℕ) → AreLinks l → stop ≤ l.nodes → (done ≡ length queue) ⊎ (slice_index labels stop ≢ no_label)
      → AreLabelsFrom l opens roots stop labels
  labels-spread stop are within ended = record {
    one_each = so_far.one_each;
    roots_are = so_far.roots_are;
    zero = so_far.zero;
    small = λ v node. elim (cases_eq (slice_index labels v) no_label) [
      | inl none ↦ inl none
      | inr has ↦ let at = queued-at v node has in inr (omega (arith, at.1, at.3, queue-short))
    ];
    near = λ v p node lies opened below. elim (cases_eq (slice_index labels v) no_label) [
      | inl none ↦ absurd (omega (arith, none, below, label-most stop are within))
      | inr has ↦
          let at = queued-at v node has in
          elim (cases_lt at.0 done) [
            | inl before ↦ omega (arith, at.4, so_far.scanned at.0 p before (rw at.2 lies) opened)
            | inr behind ↦ elim ended [
              | inl all ↦ absurd (omega (arith, at.1))
              | inr some ↦
                  let last = queued-at stop (label-node stop within some) some in
                  absurd (omega (arith, at.4, last.4, below, so_far.close at.0 last.0 (omega arith) at.1 last.1))
            ]
          ]
    ];
    backed = so_far.backed;
  }

-- A search begins at its root.
pub starts-spread : {l : Links} {opens : List ℕ} {root : ℕ} {clean : List ℕ} {f : Reach} → IsNode l.nodes root → length opens ≡ length l.heads
    → clean ≡ replicate (l.nodes + 1) no_label → f ≡ begun_at root clean → IsSpread l opens f
starts-spread {l = l} {root = root} node flags clean_is begun_is =
    let none : List ℕ = replicate (l.nodes + 1) no_label in
    let f : ℕ → ℕ = λ x. cond (x == no_label) 1 0 in
    let long : length none ≡ l.nodes + 1 = length-replicate (l.nodes + 1) no_label in
    let inside : root < length none = omega (arith, node.to_last) in
    let unset : (v : ℕ) → v ≤ l.nodes → slice_index none v ≡ no_label = λ v within. get_or-replicate (l.nodes + 1) v no_label 0 (omega arith) in
    let at_root : slice_index (set none root 0) root ≡ 0 = get_or-set_same none root 0 0 inside in
    let only : (k : ℕ) → k < 1 → slice_index (root ∷ []) k ≡ root = λ k first. let e : k ≡ 0 = omega arith in rw e refl in
    let same : (k : ℕ) → k < 1 → slice_index (set none root 0) (slice_index (root ∷ []) k) ≡ 0 = λ k first. rw (only k first) at_root in
    let only_root : (v : ℕ) → v ≤ l.nodes → slice_index (set none root 0) v ≢ no_label → v ≡ root = λ v within has.
    elim (cases-set none root v 0 inside) [ inl here ↦ here.0 | inr other ↦ absurd (has (other.1 ∙ unset v within)) ] in
    rw (begun_is, clean_is) (record {
      one_flag_each = flags;
      one_each = length-set none root 0 ∙ long;
      roots_are = λ v c. ap (λ u. slice_index (set none root 0) u) (one-root c) ∙ at_root;
      zero = omega (arith, cases-set none root 0 0 inside, node.from_one, unset 0 (omega arith));
      counted = omega (arith, unlabelled_count-set none root 0 inside (unset root node.to_last) (omega arith), sum_by-replicate f (l.nodes + 1) no_label);
      come = omega arith;
      queued = λ k first. record { node = rw (only k first) node; small = omega (arith, same k first) };
      listed = λ v is has. (0, omega arith, sym (only_root v is.to_last has));
      ascending = λ i j to first. omega (arith, same i (omega arith), same j first);
      close = λ i j from first_i first_j. omega (arith, same i first_i, same j first_j);
      scanned = λ k p none lies opened. absurd (omega arith);
      backed = λ v is other has. absurd (other (subst (Contains (root ∷ [])) (sym (only_root v is.to_last has)) (first-root root)));
    })

-- The nodes with labels stand in the queue from place `k` on.
abbrev pub AreLeft : List ℕ → List ℕ → ℕ → Type 0
AreLeft labels queue k =
    (v : ℕ) → v < length labels → slice_index labels v ≢ no_label → (i : ℕ) × (k ≤ i) × (i < length queue) × (slice_index queue i ≡ v)

-- At first all nodes with labels are left in the queue.
pub left-first : (labels queue : List ℕ) → AreQueued labels queue → AreLeft labels queue 0
left-first labels queue queued v within has =
    let here = queued.listed v within has in
    (here.0, omega arith, here.1, get_or_default queue here.0 0 v here.1 ∙ here.2)

-- The label of the next node is removed.
pub left-next : (labels queue : List ℕ) (k : ℕ) → slice_index queue k < length labels → AreLeft labels queue k
    → AreLeft (set labels (slice_index queue k) no_label) queue (k + 1)
left-next labels queue k inside left v within has = elim (cases-set labels (slice_index queue k) v no_label inside) [
  | inl here ↦ absurd (has here.1)
  | inr other ↦
      let at = left v (omega (arith, within, length-set labels (slice_index queue k) no_label)) (λ none. has (other.1 ∙ none)) in
      let apart : at.0 ≢ k = λ same. other.0 (sym at.3 ∙ ap (λ i. slice_index queue i) same) in
      (at.0, omega (arith, at.1, apart), at.2, at.3)
]

-- Once none is left in the queue, no node has a label.
pub left-last : (labels queue : List ℕ) (k : ℕ) → length queue ≤ k → AreLeft labels queue k → labels ≡ replicate (length labels) no_label
left-last labels queue k all left =
    ext_get_or 0 labels (replicate (length labels) no_label) (sym (length-replicate (length labels) no_label))
    (λ v within. rw (get_or-replicate (length labels) v no_label 0 within) (elim (cases_eq (slice_index labels v) no_label) [
      | inl none ↦ none
      | inr has ↦ let at = left v within has in absurd (omega (arith, all, at.1, at.2))
    ]))
