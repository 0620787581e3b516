-- A breadth-first search that goes on where it stopped.
-- Private: only contracts inside the crate and proofs use this.
use Rattle.std.specs.Prelude.{ℕ, ◌≡◌, ◌≢◌, ◌+◌, ◌≤◌, ◌<◌, ◌⊎◌, ◌++◌, List, [], ◌∷◌, length, replicate, slice_index, slice_set, Contains}
use Rattle.dmf_node.specs.Node.{IsNode}
use Rattle.dmf_links.specs.Links.{Links, LiesAt}
use Rattle.dmf_path.specs.Reach.{Reach}
use Rattle.dmf_path.specs.Labels.{no_label, unlabelled_count, IsBacked, Spreads}

-- At this place of the queue stands a node whose label is at most the place.
pub record IsQueued (l : Links) (labels queue : List ℕ) (k : ℕ) : Type 0 where
  pub node : IsNode l.nodes (slice_index queue k)
  pub small : slice_index labels (slice_index queue k) ≤ k

-- The queue lists the nodes with labels, in the order of the labels. The search has looked at the open links of the nodes before place
-- `done`, and no label exceeds the label of the last of these nodes by more than one.
pub record AreSpread (l : Links) (opens roots labels queue : List ℕ) (done : ℕ) : Type 0 where
  pub one_flag_each : length opens ≡ length l.heads
  pub one_each : length labels ≡ l.nodes + 1
  pub roots_are : (v : ℕ) → Contains roots v → slice_index labels v ≡ 0
  pub zero : slice_index labels 0 ≡ no_label
  pub counted : length queue + unlabelled_count labels ≡ l.nodes + 1
  pub come : done ≤ length queue
  pub queued : (k : ℕ) → k < length queue → IsQueued l labels queue k
  pub listed : (v : ℕ) → IsNode l.nodes v → slice_index labels v ≢ no_label → Contains queue v
  pub ascending : (i j : ℕ) → i ≤ j → j < length queue → slice_index labels (slice_index queue i) ≤ slice_index labels (slice_index queue j)
  pub close : (i j : ℕ) → done ≤ i + 1 → i < length queue → j < length queue
      → slice_index labels (slice_index queue j) ≤ slice_index labels (slice_index queue i) + 1
  pub scanned : (k p : ℕ) → k < done → LiesAt l (slice_index queue k) p → slice_index opens p ≡ 1
      → slice_index labels (slice_index l.heads p) ≤ slice_index labels (slice_index queue k) + 1
  pub backed : (v : ℕ) → IsNode l.nodes v → ¬ Contains roots v → slice_index labels v ≢ no_label → IsBacked l opens labels v

-- The search looks at the links of the node at place `done`: the nodes without a label to which open ones lead get the next label.
pub record Expands (l : Links) (opens old queue : List ℕ) (done : ℕ) (new after : List ℕ) : Type 0 where
  pub fresh : List ℕ
  pub queued : after ≡ queue ++ fresh
  pub spreads : Spreads l.heads opens (slice_index l.first (slice_index queue done)) (slice_index l.first (slice_index queue done + 1))
      (slice_index old (slice_index queue done) + 1) old new fresh

-- Every node with a label is on the level of the next node in the queue, or before it.
abbrev pub IsAtRest : List ℕ → List ℕ → ℕ → Type 0
IsAtRest labels queue done =
    (j : ℕ) → done < length queue → j < length queue → slice_index labels (slice_index queue j) ≤ slice_index labels (slice_index queue done)

-- No node has a label of both searches.
abbrev pub AreApart : List ℕ → List ℕ → Type 0
AreApart labels others = (v : ℕ) → v < length labels → (slice_index labels v ≡ no_label) ⊎ (slice_index others v ≡ no_label)

-- A node that has a label of both searches is one level beyond this one.
abbrev pub MeetBeyond : ℕ → List ℕ → List ℕ → Type 0
MeetBeyond level labels others =
    (v : ℕ) → v < length labels → slice_index labels v ≢ no_label → slice_index others v ≢ no_label → slice_index labels v ≡ level + 1

-- The nodes in the queue, and no others, have the label 0.
pub record AreRoots (nodes : ℕ) (labels queue : List ℕ) : Type 0 where
  pub one_each : length labels ≡ nodes + 1
  pub zero : slice_index labels 0 ≡ no_label
  pub counted : length queue + unlabelled_count labels ≡ nodes + 1
  pub queued : (k : ℕ) → k < length queue → IsNode nodes (slice_index queue k) × (slice_index labels (slice_index queue k) ≡ 0)
  pub listed : (v : ℕ) → IsNode nodes v → slice_index labels v ≢ no_label → Contains queue v

-- The search has begun at several nodes, and has looked at no links.
pub record HasBegun (nodes : ℕ) (f : Reach) : Type 0 where
  pub are : AreRoots nodes f.labels f.queue
  pub roots_are : f.roots ≡ f.queue
  pub done : f.done ≡ 0

-- No node has a label.
abbrev pub IsClean : ℕ → Reach → Type 0
IsClean nodes f = f.labels ≡ replicate (nodes + 1) no_label

-- the search at its root, which alone has a label
abbrev pub begun_at : ℕ → List ℕ → Reach
begun_at root labels = record { roots = root ∷ []; labels = slice_set labels root 0; queue = root ∷ []; done = 0 }

-- the search without labels
abbrev pub unlabelled : Reach → Reach
unlabelled f = record { roots = []; labels = replicate (length f.labels) no_label; queue = []; done = 0 }

-- the search with another label of one node
abbrev pub with_label : Reach → ℕ → ℕ → Reach
with_label f v label = record { roots = f.roots; labels = slice_set f.labels v label; queue = f.queue; done = f.done }

-- the label of the next node in the queue
abbrev pub next_label : Reach → ℕ
next_label f = slice_index f.labels (slice_index f.queue f.done)

-- The search has come so far over these links.
abbrev pub IsSpread : Links → List ℕ → Reach → Type 0
IsSpread l opens f = AreSpread l opens f.roots f.labels f.queue f.done

-- The search has looked at the links of the next node.
pub record HasExpanded (l : Links) (opens : List ℕ) (old new : Reach) : Type 0 where
  pub so_far : IsSpread l opens new
  pub expands : Expands l opens old.labels old.queue old.done new.labels new.queue
  pub done : new.done ≡ old.done + 1
  pub roots : new.roots ≡ old.roots
