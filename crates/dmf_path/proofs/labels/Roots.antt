-- Searches that begin at one root, or at several.
use Rattle.std.proofs.Common.{ℕ, ◌≡◌, ◌≢◌, ◌+◌, ◌-◌, ◌<◌, inl, inr, List, [], ◌∷◌, ◌++◌, length, set, replicate, slice_index, get_or, refl, ap, sym, subst, ◌∙◌}
use Rattle.std.proofs.Common.{arith, ◌==◌, ◌≤◌, ◌↔◌, cond, Contains}
use Rattle.std.proofs.lemmas.Bool.{cases_eq, cases_lt}
use Rattle.std.proofs.lemmas.List.{get_or-replicate, get_or-set_same, length-set, length-replicate, length_push, get_or_append_left, get_or-append_right, get_or_default}
use Rattle.std.proofs.lemmas.List.Elements.{Contains-append_left, Contains-get_or, Contains-push, Contains-push_cases}
use Rattle.std.proofs.lemmas.List.Folds.{sum_by-replicate}
use Rattle.dmf_node.specs.Node.{IsNode}
use Rattle.dmf_links.specs.Links.{Links}
use Rattle.dmf_path.specs.Labels.{no_label, AreQueued}
use Rattle.dmf_path.specs.Frontier.{AreRoots, HasBegun, IsSpread}
use Rattle.dmf_path.specs.Reach.{Reach}
use Rattle.dmf_path.proofs.labels.Spreading.{unlabelled_count-set, cases-set}

-- One root is among the roots, and no other node.
pub first-root : (root : ℕ) → Contains (root ∷ []) root
first-root root = (0, omega arith, refl)

pub one-root : {root v : ℕ} → Contains (root ∷ []) v → v ≡ root
one-root c = let first : c.0 ≡ 0 = omega (arith, c.1) in sym (rw first at c.2)

-- A search without labels has one place for each node, and one for number 0.
pub nodes-of : {nodes : ℕ} {labels : List ℕ} → labels ≡ replicate (nodes + 1) no_label → length labels - 1 ≡ nodes
nodes-of {nodes = nodes} clean = omega (arith, ap length clean, length-replicate (nodes + 1) no_label)

-- At first no node is a root,
pub roots-none : {nodes : ℕ} {labels : List ℕ} → labels ≡ replicate (nodes + 1) no_label → AreRoots nodes labels []
roots-none {nodes = nodes} clean =
    let f : ℕ → ℕ = λ x. cond (x == no_label) 1 0 in
    rw clean (record {
      one_each = length-replicate (nodes + 1) no_label;
      zero = get_or-replicate (nodes + 1) 0 no_label 0 (omega arith);
      counted = omega (arith, sum_by-replicate f (nodes + 1) no_label);
      queued = λ k none. absurd (omega (arith, none));
      listed = λ v node has. absurd (has (get_or-replicate (nodes + 1) v no_label 0 (omega (arith, node.to_last))));
    })

-- and then one more is.
pub roots-next : {nodes : ℕ} {labels queue : List ℕ} {root : ℕ} → AreRoots nodes labels queue → IsNode nodes root → slice_index labels root ≡ no_label
    → AreRoots nodes (set labels root 0) (queue ++ root ∷ [])
roots-next {labels = labels} {queue = queue} {root = root} are node none =
    let inside : root < length labels = omega (arith, node.to_last, are.one_each) in
    let kept : (v : ℕ) → slice_index labels v ≡ 0 → slice_index (set labels root 0) v ≡ 0 = λ v zero.
    elim (cases-set labels root v 0 inside) [ inl here ↦ here.1 | inr other ↦ other.1 ∙ zero ] in
    record {
      one_each = length-set labels root 0 ∙ are.one_each;
      zero = omega (arith, cases-set labels root 0 0 inside, node.from_one, are.zero);
      counted = omega (arith, unlabelled_count-set labels root 0 inside none (omega arith), are.counted, length_push queue root);
      queued = λ k within. elim (cases_lt k (length queue)) [
        | inl before ↦
            let same = get_or_append_left queue (root ∷ []) 0 k before in
            let was = are.queued k before in
            (rw same was.0, rw same (kept (slice_index queue k) was.1))
        | inr behind ↦
            let last : k - length queue ≡ 0 = omega (arith, within, length_push queue root) in
            let same : slice_index (queue ++ root ∷ []) k ≡ root =
            get_or-append_right queue (root ∷ []) (length queue) k 0 refl behind ∙ ap (λ i. get_or (root ∷ []) i 0) last in
            (rw same node, rw same (get_or-set_same labels root 0 0 inside))
      ];
      listed = λ v is has. elim (cases-set labels root v 0 inside) [
        | inl here ↦ subst (Contains (queue ++ root ∷ [])) (sym here.0) (Contains-push queue root)
        | inr other ↦ Contains-append_left queue (root ∷ []) v (are.listed v is (λ unset. has (other.1 ∙ unset)))
      ];
    }

-- What stands in the queue has the label 0.
pub root-label : {nodes : ℕ} {labels queue : List ℕ} {v : ℕ} → AreRoots nodes labels queue → Contains queue v → slice_index labels v ≡ 0
root-label {labels = labels} {queue = queue} {v = v} are c =
    ap (λ u. slice_index labels u) (sym (get_or_default queue c.0 0 v c.1 ∙ c.2)) ∙ (are.queued c.0 c.1).1

pub roots-queued : {nodes : ℕ} {labels queue : List ℕ} → AreRoots nodes labels queue → AreQueued labels queue
roots-queued are = record {
  within = λ k before. omega (arith, (are.queued k before).0.to_last, are.one_each);
  listed = λ v within has. elim (cases_eq v 0) [
    | inl none ↦ absurd (has (rw none are.zero))
    | inr other ↦ are.listed v (record { from_one = omega (arith, other); to_last = omega (arith, within, are.one_each) }) has
  ];
}

-- So the search goes on from there, over any links.
pub begun-spread : {l : Links} {opens : List ℕ} {f : Reach} → length opens ≡ length l.heads → HasBegun l.nodes f → IsSpread l opens f
begun-spread {f = f} flags begun =
    let are = begun.are in
    let zero = λ (k : ℕ) (within : k < length f.queue). (are.queued k within).1 in
    record {
      one_flag_each = flags;
      one_each = are.one_each;
      roots_are = λ v c. root-label are (subst (λ (vs : List ℕ). Contains vs v) begun.roots_are c);
      zero = are.zero;
      counted = are.counted;
      come = omega (arith, begun.done);
      queued = λ k within. record { node = (are.queued k within).0; small = omega (arith, zero k within) };
      listed = are.listed;
      ascending = λ i j to within. omega (arith, zero i (omega (arith, to, within)), zero j within);
      close = λ i j from first second. omega (arith, zero i first, zero j second);
      scanned = λ k p before lies opened. absurd (omega (arith, before, begun.done));
      backed = λ v node other has. absurd (other (subst (λ (vs : List ℕ). Contains vs v) (sym begun.roots_are) (are.listed v node has)));
    }

-- ---- root by root

-- The first `k` of these nodes are roots, and no others.
pub record AreBeginning (nodes : ℕ) (given : List ℕ) (k : ℕ) (labels queue : List ℕ) : Type 0 where
  pub are : AreRoots nodes labels queue
  pub from : (v : ℕ) → Contains queue v → Contains given v
  pub covered : (i : ℕ) → i < k → Contains queue (slice_index given i)

module _ {nodes : ℕ} {given : List ℕ} {k : ℕ} {labels queue : List ℕ} (so_far : AreBeginning nodes given k labels queue) (ahead : k < length given)
    (node : IsNode nodes (slice_index given k)) where
  -- The next one is one already,
  pub beginning-skip : slice_index labels (slice_index given k) ≢ no_label → AreBeginning nodes given (k + 1) labels queue
  beginning-skip has = record {
    are = so_far.are;
    from = so_far.from;
    covered = λ i low. elim (cases_lt i k) [
      | inl before ↦ so_far.covered i before
      | inr last ↦
          let same : i ≡ k = omega (arith, low, last) in
          rw same (so_far.are.listed (slice_index given k) node has)
    ];
  }

  -- or becomes one.
  pub beginning-next : slice_index labels (slice_index given k) ≡ no_label
      → AreBeginning nodes given (k + 1) (set labels (slice_index given k) 0) (queue ++ slice_index given k ∷ [])
  beginning-next none =
      let root : ℕ = slice_index given k in
      record {
        are = roots-next so_far.are node none;
        from = λ v c. elim (Contains-push_cases queue root v c) [
          | inl before ↦ so_far.from v before
          | inr here ↦ subst (Contains given) here (Contains-get_or given k 0 ahead)
        ];
        covered = λ i low. elim (cases_lt i k) [
          | inl before ↦ Contains-append_left queue (root ∷ []) (slice_index given i) (so_far.covered i before)
          | inr last ↦
              let same : i ≡ k = omega (arith, low, last) in
              rw same (Contains-push queue root)
        ];
      }

-- After all of them they are the roots.
pub beginning-last : {nodes : ℕ} {given : List ℕ} {k : ℕ} {labels queue : List ℕ} → AreBeginning nodes given k labels queue → length given ≤ k
    → (v : ℕ) → Contains queue v ↔ Contains given v
beginning-last {given = given} {queue = queue} so_far all v = (
  so_far.from v,
  λ c. subst (λ u. Contains queue u) (get_or_default given c.0 0 v c.1 ∙ c.2) (so_far.covered c.0 (omega (arith, c.1, all))),
)
