-- Labels of nodes: how many links a node is away from the nearest root, where that is known.
-- Private: only contracts inside the crate and proofs use this.
use Rattle.std.specs.Prelude.{ℕ, ◌≡◌, ◌≢◌, ◌+◌, ◌<◌, ◌≤◌, ◌⊎◌, ◌==◌, not, Bool, List, [], ◌∷◌, length, slice_index, count_by, Contains}
use Rattle.dmf_node.specs.Node.{IsNode}
use Rattle.dmf_path.specs.ClosedSide.{is_marked}
use Rattle.dmf_links.specs.Links.{Links, LiesAt, tail_of}

-- the number that stands for no label; it exceeds any label
abbrev pub no_label : ℕ
no_label = 4294967295

-- whether the number is a label
abbrev pub is_label : ℕ → Bool
is_label label = not (label == no_label)

-- An open link leads to the node from a node whose label is lower by one.
pub record IsBacked (l : Links) (opens labels : List ℕ) (v : ℕ) : Type 0 where
  pub place : ℕ
  pub within : place < length l.heads
  pub leads : slice_index l.heads place ≡ v
  pub opened : slice_index opens place ≡ 1
  pub label : slice_index labels (tail_of l place) + 1 ≡ slice_index labels v

-- The labels of the nodes that open links reach from the roots, at least up to the label of the node `stop`. Number 0, which is no node,
-- has none.
pub record AreLabelsFrom (l : Links) (opens roots : List ℕ) (stop : ℕ) (labels : List ℕ) : Type 0 where
  pub one_each : length labels ≡ l.nodes + 1
  pub roots_are : (v : ℕ) → Contains roots v → slice_index labels v ≡ 0
  pub zero : slice_index labels 0 ≡ no_label
  pub small : (v : ℕ) → IsNode l.nodes v → (slice_index labels v ≡ no_label) ⊎ (slice_index labels v < l.nodes)
  pub near : (v p : ℕ) → IsNode l.nodes v → LiesAt l v p → slice_index opens p ≡ 1
      → slice_index labels v + 1 < slice_index labels stop
      → slice_index labels (slice_index l.heads p) ≤ slice_index labels v + 1
  pub backed : (v : ℕ) → IsNode l.nodes v → ¬ Contains roots v → slice_index labels v ≢ no_label → IsBacked l opens labels v

-- The labels of the nodes that open links reach from one root, at least up to the label of the node `stop`.
abbrev pub AreLabels : Links → List ℕ → ℕ → ℕ → List ℕ → Type 0
AreLabels l opens root = AreLabelsFrom l opens (root ∷ [])

-- The queue has the nodes with labels.
pub record AreQueued (labels queue : List ℕ) : Type 0 where
  pub within : (k : ℕ) → k < length queue → slice_index queue k < length labels
  pub listed : (v : ℕ) → v < length labels → slice_index labels v ≢ no_label → Contains queue v

-- how many numbers stand for no label
abbrev pub unlabelled_count : List ℕ → ℕ
unlabelled_count labels = count_by (λ label. label == no_label) labels

-- An open link at a place from `from` up to `end` leads to node `v`.
pub record IsLedTo (heads opens : List ℕ) (from end v : ℕ) : Type 0 where
  pub place : ℕ
  pub from_first : from ≤ place
  pub to_last : place < end
  pub leads : slice_index heads place ≡ v
  pub opened : slice_index opens place ≡ 1

-- The open links at the places from `from` up to `end` give this label to the nodes without one to which they lead. That turns the
-- labels `old` into `new`; `fresh` are these nodes.
pub record Spreads (heads opens : List ℕ) (from end label : ℕ) (old new fresh : List ℕ) : Type 0 where
  pub kept : (v : ℕ) → slice_index old v ≢ no_label → slice_index new v ≡ slice_index old v
  pub done : (p : ℕ) → from ≤ p → p < end → slice_index opens p ≡ 1 → slice_index new (slice_index heads p) ≢ no_label
  pub listed : (v : ℕ) → v < length old → slice_index old v ≡ no_label → slice_index new v ≢ no_label → Contains fresh v
  pub labelled : (v : ℕ) → Contains fresh v → slice_index new v ≡ label
  pub led_to : (v : ℕ) → Contains fresh v → IsLedTo heads opens from end v
  pub counted : length fresh + unlabelled_count new ≡ unlabelled_count old

-- If there is a mark for each node, the first for node 1, those of the nodes with a label say so.
abbrev pub MarksLabelled : List ℕ → List Bool → Type 0
MarksLabelled labels marks =
    length labels ≡ length marks + 1 → (v : ℕ) → IsNode (length marks) v → is_marked marks v ≡ is_label (slice_index labels v)

-- If there is a mark for each node, those of the nodes without a label say so.
abbrev pub MarksUnlabelled : List ℕ → List Bool → Type 0
MarksUnlabelled labels marks =
    length labels ≡ length marks + 1 → (v : ℕ) → IsNode (length marks) v → is_marked marks v ≡ (slice_index labels v == no_label)
