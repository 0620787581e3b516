-- Listing the open arcs at a node in one pass over the arcs.
use Rattle.std.proofs.Common.{ℕ, ◌≡◌, ◌+◌, ◌-◌, ◌<◌, ◌==◌, ◌&&◌, ◌||◌, not, Bool, true, false, cond, List, [], ◌∷◌, ◌++◌, length, get_or, take, zero, suc, refl}
use Rattle.std.proofs.Common.{ap, sym, ◌∙◌, subst, arith, append_assoc, add-zero, append-nil}
use Rattle.std.proofs.Math.Numerals.{add-one, one-add}
use Rattle.std.proofs.lemmas.Bool.{both_ways}
use Rattle.std.proofs.lemmas.Bool.Decides.{nat_tests}
use Rattle.dmf_state.specs.declared.arc.Arc.{Arc}
use Rattle.dmf_state.specs.declared.edit.Shutting.{Shutting}
use Rattle.dmf_state.specs.Arc.{no_arc, is_open_at, open_arcs_at}
use Rattle.dmf_state.specs.Edit.{AreOpenWith, numbers}
use Rattle.dmf_state.specs.Network.{Network, arc_number, has_arc}

-- the arc of number `j`, where it is open and at the node
abbrev pub listed : ℕ → ℕ → Arc → List Shutting
listed v j arc = cond (is_open_at v arc) (record { arc = j; old = arc.cap } ∷ []) []

-- these arcs from number `j` on
abbrev pub listed_from : ℕ → ℕ → List Arc → List Shutting
listed_from v j [] = []
listed_from v j (arc ∷ arcs) = listed v j arc ++ listed_from v (j + 1) arcs

-- one arc more
listed-next : (v j i : ℕ) (arcs : List Arc) → i < length arcs → listed_from v j (take (suc i) arcs) ≡ listed_from v j (take i arcs) ++ listed v (j + i)
    (get_or arcs i no_arc)
listed-next v j i [] h = absurd (omega (arith, h))
listed-next v j zero (arc ∷ arcs) h = append-nil (listed v j arc) ∙ ap (λ k. listed v k arc) (sym (add-zero j))
listed-next v j (suc i) (arc ∷ arcs) h =
    let place : j + suc i ≡ j + 1 + i = omega arith in
    rw (place, listed-next v (j + 1) i arcs (omega (arith, h)))
    (sym (append_assoc (listed v j arc) (listed_from v (j + 1) (take i arcs)) (listed v (j + 1 + i) (get_or arcs i no_arc))))

-- With one arc more, what is listed of it comes last.
pub listed-more : (v i : ℕ) (arcs : List Arc) → i < length arcs → listed_from v 1 (take (i + 1) arcs) ≡ listed_from v 1 (take i arcs) ++ listed v (i + 1)
    (get_or arcs i no_arc)
listed-more v i arcs h = rw (add-one i) (rw (one-add i) at (listed-next v 1 i arcs h))

-- Their numbers are those of the open arcs at the node.
pub numbers-listed : (v j : ℕ) (arcs : List Arc) → numbers (listed_from v j arcs) ≡ open_arcs_at v j arcs
numbers-listed v j [] = refl
numbers-listed v j (arc ∷ arcs) =
    let rest = numbers-listed v (j + 1) arcs in
    let js : List ℕ = open_arcs_at v (j + 1) arcs in
    elim (is_open_at v arc) as (λ b. numbers (cond b (record { arc = j; old = arc.cap } ∷ []) [] ++ listed_from v (j + 1) arcs) ≡ cond b (j ∷ js) js)
    [ true ↦ ap (λ ks. j ∷ ks) rest | false ↦ rest ]

-- The list has arcs of the network from number `j` on.
abbrev AreFrom : Network → ℕ → List Arc → Type 0
AreFrom n j arcs = (k : ℕ) → k < length arcs → (has_arc n (j + k) ≡ true) × (arc_number n (j + k) ≡ get_or arcs k no_arc)

closed-not : (closed at : Bool) → (not closed && at) ≡ true → closed ≡ false
closed-not true at e = absurd (both_ways false refl e)
closed-not false at e = refl

is-open : (v : ℕ) (arc : Arc) → is_open_at v arc ≡ true → arc.closed ≡ false
is-open v arc e = closed-not arc.closed (arc.tail == v || arc.head == v) e

open-step : (v last j : ℕ) (n : Network) (arc : Arc) (rest : List Shutting) (is_listed : Bool) → is_open_at v arc ≡ is_listed → last < j → has_arc n j ≡ true
    → arc_number n j ≡ arc → AreOpenWith j rest n → AreOpenWith last rest n → AreOpenWith last (listed v j arc ++ rest) n
open-step v last j n arc rest true e below has is later earlier =
    rw e (below, record { is_there = has; is_open = ap (λ (a : Arc). a.closed) is ∙ is-open v arc e; has_cap = ap (λ (a : Arc). a.cap) is }, later)
open-step v last j n arc rest false e below has is later earlier = rw e earlier

open-from : (v last j : ℕ) (n : Network) (arcs : List Arc) → last < j → AreFrom n j arcs → AreOpenWith last (listed_from v j arcs) n
open-from v last j n [] below from = tt
open-from v last j n (arc ∷ arcs) below from =
    let first = from 0 (omega arith) in
    let here : j + 0 ≡ j = omega arith in
    let rest : AreFrom n (j + 1) arcs = λ k h.
    let place : j + suc k ≡ j + 1 + k = omega arith in
    subst (λ i. (has_arc n i ≡ true) × (arc_number n i ≡ get_or arcs k no_arc)) place (from (suc k) (omega (arith, h))) in
    open-step v last j n arc (listed_from v (j + 1) arcs) (is_open_at v arc) refl below (rw here at first.0) (rw here at first.1)
    (open-from v j (j + 1) n arcs (omega arith) rest)
    (open-from v last (j + 1) n arcs (omega (arith, below)) rest)

-- So these are open arcs of the network.
pub open-listed : (v : ℕ) (n : Network) → AreOpenWith 0 (listed_from v 1 n.arcs) n
open-listed v n = open-from v 0 1 n n.arcs (omega arith) (λ k h.
    let index : 1 + k - 1 ≡ k = omega arith in
    (grind (arith, nat_tests), ap (λ i. get_or n.arcs i no_arc) index))
