-- The open arcs at a node, listed from indices that leave none of them out.
use Rattle.std.proofs.Common.{ℕ, ◌≡◌, ◌≢◌, ◌+◌, ◌-◌, ◌<◌, ◌≤◌, ◌==◌, ◌&&◌, ◌||◌, not, Bool, true, false, List, [], ◌∷◌, ◌++◌, length, get_or, take, refl, ap, sym, ◌∙◌, subst}
use Rattle.std.proofs.Common.{⊎_elim, arith, Some, None}
use Rattle.std.specs.List.{range_with_len}
use Rattle.std.proofs.lemmas.Bool.{cases_lt, ne_eqb}
use Rattle.std.proofs.lemmas.Bool.Decides.{eqb_tells}
use Rattle.std.proofs.lemmas.List.{append-nil, get_or_past, take_all}
use Rattle.std.proofs.lemmas.Slice.Zip.{AllZip-long}
use Rattle.dmf_links.specs.declared.pair.Pair.{Pair}
use Rattle.dmf_path.specs.Search.{Covers, IsElsewhere, Searched}
use Rattle.dmf_path.proofs.pairs.Collecting.{collected-more, collected-whole}
use Rattle.dmf_path.proofs.pairs.Covering.{covers-below, Covers-weaker, index_behind}
use Rattle.dmf_state.specs.declared.arc.Arc.{Arc}
use Rattle.dmf_state.specs.declared.edit.Shutting.{Shutting}
use Rattle.dmf_state.specs.Arc.{is_open_at, no_arc}
use Rattle.dmf_state.specs.Network.{Network}
use Rattle.dmf_state.specs.NetworkState.{NetworkState, IsState}
use Rattle.dmf_state.proofs.OpenArcs.{listed, listed_from, listed-more}
use Rattle.dmf_solver.specs.Moves.{CoverOpen, IsNotOpenAt}
use Rattle.dmf_solver.specs.ResidualNetwork.{closed_return, network_pairs, IsResidualOf}
use Rattle.dmf_solver.proofs.pairs.ArcPairs.{pair_number-of_arc}
use Rattle.dmf_solver.proofs.pairs.NetworkPairs.{length-network_pairs}
use Rattle.dmf_solver.proofs.pairs.ResidualPairs.{by_residual_pair}

-- those among the first `k` arcs
abbrev pub open_before : List Arc → ℕ → ℕ → List Shutting
open_before arcs v k = listed_from v 1 (take k arcs)

-- Nothing is open that is at no node.
not-open : (closed : Bool) → (not closed && false) ≡ false
not-open true = refl
not-open false = refl

-- An arc whose ends are other nodes is not open at this one.
pub apart-not_open : (v : ℕ) (arc : Arc) → (arc.tail == v) ≡ false → (arc.head == v) ≡ false → is_open_at v arc ≡ false
apart-not_open v arc tail head = ap (λ b. not arc.closed && (b || arc.head == v)) tail ∙ ap (λ b. not arc.closed && b) head ∙ not-open arc.closed

module _ (arcs : List Arc) (v : ℕ) (node : 1 ≤ v) where
  -- the arc at index `k`, if it is open at the node
  abbrev here : ℕ → List Shutting
  here k = listed v (k + 1) (get_or arcs k no_arc)

  -- Past the last arc there is none.
  pub past-not_open : (k : ℕ) → length arcs ≤ k → IsNotOpenAt arcs v k
  past-not_open k past =
      let other : (0 == v) ≡ false = ne_eqb 0 v (λ same. omega (arith, node, same)) in
      rw (get_or_past arcs k no_arc past) (apart-not_open v no_arc other other)

  none : (k : ℕ) → IsNotOpenAt arcs v k → here k ≡ []
  none k not_open = rw not_open refl

  open-all : (k : ℕ) → length arcs ≤ k → open_before arcs v k ≡ listed_from v 1 arcs
  open-all k past = ap (listed_from v 1) (take_all k arcs past)

  open-next : (k : ℕ) → open_before arcs v (k + 1) ≡ open_before arcs v k ++ here k
  open-next k =
      ⊎_elim
      (λ (within : k < length arcs). listed-more v k arcs within)
      (λ (past : length arcs ≤ k).
      open-all (k + 1) (omega (arith, past)) ∙ sym (open-all k past) ∙ sym (append-nil _) ∙ ap (λ ss. open_before arcs v k ++ ss)
      (sym (none k (past-not_open k past))))
      (cases_lt k (length arcs))

  module _ (indices : List ℕ) (cover : CoverOpen arcs v indices) where
    -- With the arc at the next index, if it is open at the node, they are those before the index behind.
    pub open-more : (i : ℕ) (found more : List Shutting) → i < length indices → found ≡ open_before arcs v (index_behind indices i)
        → more ≡ here (get_or indices i 0) → found ++ more ≡ open_before arcs v (index_behind indices (i + 1))
    open-more = collected-more (open_before arcs v) here open-next cover.count (IsNotOpenAt arcs v) indices cover.covers none

    -- After the last index they are all.
    pub open-whole : (i : ℕ) (found : List Shutting) → i ≤ length indices → length indices ≤ i → found ≡ open_before arcs v (index_behind indices i)
        → found ≡ listed_from v 1 arcs
    open-whole i found most whole are =
        collected-whole (open_before arcs v) here open-next cover.count (IsNotOpenAt arcs v) indices cover.covers none i found most whole
        (λ k past. none k (past-not_open k (omega (arith, cover.most, past)))) are
        ∙ open-all (index_behind indices i + cover.count) (omega (arith, cover.most))

-- the pair of an arc that is no self loop, with this flow on it
abbrev residual_of_arc : Arc → ℕ → Pair
residual_of_arc arc flow = record { tail = arc.tail; head = arc.head; along = arc.cap - flow; against = flow }

-- An arc whose pair is elsewhere is not open at the node.
elsewhere-not_open : (n : Network) (flows : List ℕ) (v k : ℕ) → 1 ≤ v → length flows ≡ length n.arcs → IsElsewhere (network_pairs n flows) v k
    → IsNotOpenAt n.arcs v k
elsewhere-not_open n flows v k node same e =
    ⊎_elim
    (λ (within : k < length n.arcs).
    let arc : Arc = get_or n.arcs k no_arc in
    let has = sym (pair_number-of_arc by_residual_pair n.arcs flows (closed_return n ∷ []) k same within) ∙ e.is in
    ⊎_elim
    (λ (loop : ((arc.tail == arc.head) ≡ true) × (arc.tail ≡ arc.head)). absurd (let none : None ≡ Some e.pair = rw loop.0 at has in cc))
    (λ (apart : ((arc.tail == arc.head) ≡ false) × (arc.tail ≢ arc.head)).
    let made : residual_of_arc arc (get_or flows k 0) ≡ e.pair = let some : Some (residual_of_arc arc (get_or flows k 0)) ≡ Some e.pair = rw apart.0 at has in cc in
    apart-not_open v arc (ne_eqb arc.tail v (λ at. e.tail (ap (λ (p : Pair). p.tail) (sym made) ∙ at)))
    (ne_eqb arc.head v (λ at. e.head (ap (λ (p : Pair). p.head) (sym made) ∙ at))))
    (eqb_tells arc.tail arc.head))
    (λ (past : length n.arcs ≤ k). past-not_open n.arcs v node k past)
    (cases_lt k (length n.arcs))

-- So the indices of the pairs at the node leave no open arc at it out.
pub pairs-cover_open : (s : NetworkState) (residual : Searched) (v : ℕ) (indices : List ℕ) → 1 ≤ v → IsState s → IsResidualOf s residual
    → Covers (length residual.pairs) (IsElsewhere residual.pairs v) indices → CoverOpen s.network.arcs v indices
pairs-cover_open s residual v indices node state is covers =
    let n = s.network in
    let same = AllZip-long _ n.arcs s.flows state.flow.within in
    let long = length-network_pairs n s.flows same in
    let over : Covers (length (network_pairs n s.flows)) (IsElsewhere (network_pairs n s.flows) v) indices =
    subst (λ (r : Searched). Covers (length r.pairs) (IsElsewhere r.pairs v) indices) is covers in
    record {
      count = length (network_pairs n s.flows);
      most = omega (arith, long);
      covers = Covers-weaker _ _ (IsNotOpenAt n.arcs v) indices (λ k h. elsewhere-not_open n s.flows v k node same) over;
    }

-- All indices leave none out.
pub all-cover_open : (arcs : List Arc) (v : ℕ) → CoverOpen arcs v (range_with_len 0 (length arcs - 0))
all-cover_open arcs v = record { count = length arcs; most = omega arith; covers = covers-below (length arcs) (IsNotOpenAt arcs v) }
