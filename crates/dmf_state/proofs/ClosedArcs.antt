-- Closing several arcs without flow.
use Rattle.std.proofs.Common.{ℕ, ◌≡◌, ◌≢◌, ◌+◌, ◌-◌, ◌<◌, ◌≤◌, true, List, [], ◌∷◌, length, get_or, drop, zero, suc, ap, ◌∙◌, arith}
use Rattle.std.proofs.lemmas.List.{length-set, get_or-set_other}
use Rattle.std.proofs.Math.Numerals.{add-one}
use Rattle.std.proofs.Math.ListN.{drop_of_length-le}
use Rattle.std.proofs.Math.Seq.{drop-cons}
use Rattle.dmf_state.specs.declared.arc.Arc.{Arc}
use Rattle.dmf_state.specs.declared.edit.Shutting.{Shutting}
use Rattle.dmf_state.specs.Arc.{no_arc, closed_arc}
use Rattle.dmf_state.specs.Edit.{AreOpenWith, IsOpenWith, numbers, with_closed}
use Rattle.dmf_state.specs.Flow.{flow_on}
use Rattle.dmf_state.specs.Network.{Network, arc_number, has_arc, with_arc}
use Rattle.dmf_state.specs.NetworkState.{IsState}
use Rattle.dmf_state.proofs.ChangedState.{IsState-closed}

-- the network with arc number `j` closed
abbrev pub closed_at : Network → ℕ → Network
closed_at n j = with_arc n j (closed_arc (arc_number n j))

-- There is an arc of each of these numbers.
abbrev pub HasArcs : Network → List ℕ → Type 0
HasArcs n [] = Unit {0}
HasArcs n (j ∷ js) = (has_arc n j ≡ true) × HasArcs n js

-- Nothing flows on these arcs.
abbrev pub AreWithoutFlow : List ℕ → List ℕ → Type 0
AreWithoutFlow flows [] = Unit {0}
AreWithoutFlow flows (j ∷ js) = (flow_on flows j ≤ 0) × AreWithoutFlow flows js

-- ---- arcs that can be closed

-- what a read past the last of them gives
abbrev pub no_shutting : Shutting
no_shutting = record { arc = 0; old = 0 }

-- Each of them is an open arc.
pub open-at : (last : ℕ) (arcs : List Shutting) (n : Network) (i : ℕ) → AreOpenWith last arcs n → i < length arcs
    → IsOpenWith n (get_or arcs i no_shutting).arc (get_or arcs i no_shutting).old
open-at last [] n i are h = absurd (omega (arith, h))
open-at last (a ∷ arcs) n zero are h = are.1
open-at last (a ∷ arcs) n (suc i) are h = open-at a.arc arcs n i are.2 (omega (arith, h))

-- The remaining arcs are the next one and the arcs after it.
pub left-next : (arcs : List Shutting) (i : ℕ) → i < length arcs → drop i arcs ≡ get_or arcs i no_shutting ∷ drop (i + 1) arcs
left-next arcs i h = rw (add-one i) (drop-cons arcs i no_shutting h)

-- Their numbers are that of the next one and those of the rest.
pub numbers-next : (arcs : List Shutting) (i : ℕ) → i < length arcs → numbers (drop i arcs) ≡ (get_or arcs i no_shutting).arc ∷ numbers (drop (i + 1) arcs)
numbers-next arcs i h = ap numbers (left-next arcs i h)

-- Once all are passed, no numbers are left.
pub numbers-end : (arcs : List Shutting) (i : ℕ) → length arcs ≤ i → numbers (drop i arcs) ≡ []
numbers-end arcs i long = ap numbers (drop_of_length-le arcs long)

-- Arcs that are open are arcs of the network.
pub HasArcs-open : (last : ℕ) (arcs : List Shutting) (n : Network) → AreOpenWith last arcs n → HasArcs n (numbers arcs)
HasArcs-open last [] n are = tt
HasArcs-open last (a ∷ arcs) n are = (are.1.is_there, HasArcs-open a.arc arcs n are.2)

-- Closing one arc leaves those with larger numbers as they are.
open-past : (last j : ℕ) (arcs : List Shutting) (n : Network) → 1 ≤ j → j ≤ last → AreOpenWith last arcs n → AreOpenWith last arcs (closed_at n j)
open-past last j [] n from_one past are = tt
open-past last j (a ∷ arcs) n from_one past are =
    let other : a.arc - 1 ≢ j - 1 = λ e. omega (arith, are.0, past, from_one, e) in
    let same : arc_number (closed_at n j) a.arc ≡ arc_number n a.arc = get_or-set_other n.arcs (j - 1) (a.arc - 1) (closed_arc (arc_number n j)) no_arc other in
    let has : has_arc (closed_at n j) a.arc ≡ true = rw length-set are.1.is_there in (
      are.0,
      record { is_there = has; is_open = ap (λ (b : Arc). b.closed) same ∙ are.1.is_open; has_cap = ap (λ (b : Arc). b.cap) same ∙ are.1.has_cap },
      open-past a.arc j arcs n from_one (omega (arith, past, are.0)) are.2,
    )

-- Once the first of them is closed, the others are still open.
pub open-rest : (last : ℕ) (a : Shutting) (arcs : List Shutting) (n : Network) → AreOpenWith last (a ∷ arcs) n → AreOpenWith a.arc arcs (closed_at n a.arc)
open-rest last a arcs n are = open-past a.arc a.arc arcs n (omega (arith, are.0)) (omega arith) are.2

-- ---- states

-- Closing arcs without flow gives a state.
pub IsState-all_closed : (last : ℕ) (arcs : List Shutting) (n : Network) (flows : List ℕ) → IsState (record { network = n; flows = flows })
    → AreOpenWith last arcs n → AreWithoutFlow flows (numbers arcs) → IsState (record { network = with_closed arcs n; flows = flows })
IsState-all_closed last [] n flows state are none = state
IsState-all_closed last (a ∷ arcs) n flows state are none =
    IsState-all_closed a.arc arcs (closed_at n a.arc) flows
    (IsState-closed (record { network = n; flows = flows }) a.arc state are.1.is_there none.0)
    (open-rest last a arcs n are) none.1
