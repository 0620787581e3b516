-- Arcs and sums over them.
-- Public: a public contract says no more than this.
use Rattle.std.specs.Prelude.{ℕ, ◌≡◌, ◌+◌, ◌==◌, ◌&&◌, ◌||◌, if◌then◌else◌, Bool, List, [], ◌∷◌, true, false, not, sum_by, count_by}
use Rattle.dmf_state.specs.declared.arc.Arc.{Arc}
use Rattle.dmf_node.specs.Node.{IsNode}

-- Both ends are nodes, and a closed arc has capacity 0.
pub record IsArc (nodes : ℕ) (arc : Arc) : Type 0 where
  pub tail : IsNode nodes arc.tail
  pub head : IsNode nodes arc.head
  pub closed : arc.closed ≡ true → arc.cap ≡ 0

-- an open arc from `tail` to `head` of capacity `cap`
abbrev pub open_arc : ℕ → ℕ → ℕ → Arc
open_arc tail head cap = record { tail = tail; head = head; cap = cap; closed = false }

-- what a read past the last arc gives
abbrev pub no_arc : Arc
no_arc = record { tail = 0; head = 0; cap = 0; closed = false }

-- the arc with another capacity
abbrev pub with_cap : ℕ → Arc → Arc
with_cap cap arc = record { tail = arc.tail; head = arc.head; cap = cap; closed = arc.closed }

-- the arc, closed
abbrev pub closed_arc : Arc → Arc
closed_arc arc = record { tail = arc.tail; head = arc.head; cap = 0; closed = true }

-- the sum of the capacities
abbrev pub capacity_sum : List Arc → ℕ
capacity_sum arcs = sum_by (λ arc. arc.cap) arcs

-- how many of the arcs are open
abbrev pub open_count : List Arc → ℕ
open_count arcs = count_by (λ arc. not arc.closed) arcs

-- whether the arc is open and has node `v` as its tail or its head
abbrev pub is_open_at : ℕ → Arc → Bool
is_open_at v arc = not arc.closed && (arc.tail == v || arc.head == v)

-- the numbers of the open arcs that have node `v` as their tail or their head, ascending; the first arc of the list has number `j`
abbrev pub open_arcs_at : ℕ → ℕ → List Arc → List ℕ
open_arcs_at v j [] = []
open_arcs_at v j (arc ∷ arcs) =
    if is_open_at v arc then j ∷ open_arcs_at v (j + 1) arcs
    else open_arcs_at v (j + 1) arcs
