-- Closing arcs one after the other: the network that this gives, and how opening them restores the network before.
use Rattle.std.proofs.Common.{ℕ, ◌≡◌, ◌≢◌, ◌-◌, ◌<◌, ◌≤◌, List, [], ◌∷◌, length, true, false, refl, ap, sym, ◌∙◌, subst, arith}
use Rattle.std.proofs.lemmas.List.{get_or-set_same, get_or-set_other, length-set, set-set, set-get_or, set_comm}
use Rattle.dmf_state.specs.declared.arc.Arc.{Arc}
use Rattle.dmf_state.specs.declared.edit.Shutting.{Shutting}
use Rattle.dmf_state.specs.Arc.{no_arc, open_arc, closed_arc, open_arcs_at}
use Rattle.dmf_state.specs.Edit.{AreOpenWith, IsOpenWith, with_closed}
use Rattle.dmf_state.specs.Network.{Network, IsNetwork, arc_number, has_arc, with_arc}
use Rattle.dmf_state.specs.Revert.{with_open, with_opened}
use Rattle.dmf_state.proofs.ChangedArc.{has_arc-within, IsNetwork-with_arc}
use Rattle.dmf_state.proofs.ClosedArcs.{closed_at, HasArcs-open, HasArcs}
use Rattle.dmf_state.proofs.OpenArcs.{listed_from, numbers-listed, open-listed}

-- ---- one of them

-- A network with an arc closed is a network.
pub IsNetwork-closed : (n : Network) (j : ℕ) → IsNetwork n → has_arc n j ≡ true → IsNetwork (closed_at n j)
IsNetwork-closed n j network has = IsNetwork-with_arc n j (closed_arc (arc_number n j)) network has refl refl (λ closed. refl)
    (omega (arith, network.capacities))

-- A network with as many arcs as another has arcs of the same numbers.
pub HasArcs-long : (n m : Network) (js : List ℕ) → length m.arcs ≡ length n.arcs → HasArcs n js → HasArcs m js
HasArcs-long n m [] long has = tt
HasArcs-long n m (j ∷ js) long has = (rw long has.0, HasArcs-long n m js long has.1)

-- Closing an arc leaves the arcs' numbers.
pub HasArcs-closed : (n : Network) (j : ℕ) (js : List ℕ) → HasArcs n js → HasArcs (closed_at n j) js
HasArcs-closed n j js has = HasArcs-long n (closed_at n j) js (length-set n.arcs (j - 1) (closed_arc (arc_number n j))) has

-- The network has the arcs that are open at a node.
pub HasArcs-at : (v : ℕ) (n : Network) → HasArcs n (open_arcs_at v 1 n.arcs)
HasArcs-at v n = subst (HasArcs n) (numbers-listed v 1 n.arcs) (HasArcs-open 0 (listed_from v 1 n.arcs) n (open-listed v n))

-- ---- what stays

-- Closing arcs leaves as many as there were.
pub length-closed : (arcs : List Shutting) (n : Network) → length (with_closed arcs n).arcs ≡ length n.arcs
length-closed [] n = refl
length-closed (a ∷ arcs) n = length-closed arcs (closed_at n a.arc) ∙ length-set n.arcs (a.arc - 1) (closed_arc (arc_number n a.arc))

-- ---- opened again

-- An open arc is determined by its ends and its capacity.
open_arc-same : (a : Arc) (cap : ℕ) → a.closed ≡ false → a.cap ≡ cap → open_arc a.tail a.head cap ≡ a
open_arc-same a cap is_open is_cap = λ i. record { tail = a.tail; head = a.head; cap = sym is_cap i; closed = sym is_open i }

-- Putting the open arc back in place of one with its ends restores the network.
pub with_open-replaced : (n : Network) (j cap : ℕ) (arc : Arc) → IsOpenWith n j cap → arc.tail ≡ (arc_number n j).tail → arc.head ≡ (arc_number n j).head
    → with_open (with_arc n j arc) j cap ≡ n
with_open-replaced n j cap arc is tail head =
    let k : ℕ = j - 1 in
    let put : arc_number (with_arc n j arc) j ≡ arc = get_or-set_same n.arcs k arc no_arc (has_arc-within n j is.is_there).1 in
    let back : open_arc arc.tail arc.head cap ≡ arc_number n j = rw (tail, head) (open_arc-same (arc_number n j) cap is.is_open is.has_cap) in
    let arcs : (with_open (with_arc n j arc) j cap).arcs ≡ n.arcs =
    rw (put, back, set-set n.arcs k arc (arc_number n j)) (set-get_or n.arcs k no_arc) in
    λ i. record { nodes = n.nodes; source = n.source; sink = n.sink; arcs = arcs i }

-- Opening one arc and closing another may be done in either order.
open-apart : (n : Network) (b j cap : ℕ) → j - 1 ≢ b - 1 → with_open (closed_at n b) j cap ≡ closed_at (with_open n j cap) b
open-apart n b j cap apart =
    let closed : Arc = closed_arc (arc_number n b) in
    let old : Arc = arc_number n j in
    let opened : Arc = open_arc old.tail old.head cap in
    let other : b - 1 ≢ j - 1 = λ e. apart (sym e) in
    let arcs : (with_open (closed_at n b) j cap).arcs ≡ (closed_at (with_open n j cap) b).arcs =
    rw (get_or-set_other n.arcs (b - 1) (j - 1) closed no_arc apart, get_or-set_other n.arcs (j - 1) (b - 1) opened no_arc other)
    (set_comm n.arcs (b - 1) (j - 1) closed opened other) in
    λ i. record { nodes = n.nodes; source = n.source; sink = n.sink; arcs = arcs i }

-- So is opening one arc, where several with larger numbers are closed.
pub open-before : (last : ℕ) (arcs : List Shutting) (m n : Network) (j cap : ℕ) → 1 ≤ j → j ≤ last → AreOpenWith last arcs m
    → with_open (with_closed arcs n) j cap ≡ with_closed arcs (with_open n j cap)
open-before last [] m n j cap first le are = refl
open-before last (b ∷ arcs) m n j cap first le are =
    let past : j < b.arc = omega (arith, le, are.0) in
    open-before b.arc arcs m (closed_at n b.arc) j cap first (omega (arith, past)) are.2
    ∙ ap (with_closed arcs) (open-apart n b.arc j cap (λ e. omega (arith, e, first, past)))

-- Opening these arcs restores the network.
pub with_opened-closed : (last : ℕ) (arcs : List Shutting) (n : Network) → AreOpenWith last arcs n → with_opened arcs (with_closed arcs n) ≡ n
with_opened-closed last [] n are = refl
with_opened-closed last (a ∷ arcs) n are =
    ap (with_opened arcs)
    (open-before a.arc arcs n (closed_at n a.arc) a.arc a.old (omega (arith, are.0)) (omega arith) are.2
    ∙ ap (with_closed arcs) (with_open-replaced n a.arc a.old (closed_arc (arc_number n a.arc)) are.1 refl refl))
    ∙ with_opened-closed a.arc arcs n are.2
