-- A search that has ended without a meeting: of the nodes of its rank those that were reached ahead, or those that were not reached from behind,
-- and all of lower ranks, hold the exits.
use Rattle.std.proofs.Common.{ℕ, ◌≡◌, ◌≢◌, ◌+◌, ◌-◌, ◌*◌, ◌<◌, ◌≤◌, ◌==◌, ◌&&◌, ◌||◌, ◌⊎◌, not, Bool, true, false, List, get_or, ap, sym, ◌∙◌, subst, arith, nat_lt, nat_le, lt-ltb, ltb-true}
use Rattle.std.proofs.Common.{⊎_elim, inl, inr}
use Rattle.std.proofs.lemmas.Bool.{and_parts, and_from, both_ways, cases_lt, eqb-true, eq-eqb, false_from_ne_true, le-leb, not-true, or_cases, or_from, or_left, or_right}
use Rattle.dmf_node.specs.Node.{IsNode, is_node}
use Rattle.dmf_path.specs.Step.{Step}
use Rattle.dmf_state.specs.declared.arc.Arc.{Arc}
use Rattle.dmf_state.specs.Arc.{no_arc}
use Rattle.dmf_state.specs.Flow.{flow_on}
use Rattle.dmf_state.specs.Network.{Network, IsNetwork, arc_number, has_arc}
use Rattle.dmf_state.proofs.IdleArc.{IsNode-is_node}
use Rattle.dmf_solver.proofs.solving.ResidualSteps.{IsResidual, along, against, residual-contained, IsStep-residual}
use Rattle.dmf_vital.specs.declared.exits.Exits.{Exits}
use Rattle.dmf_vital.specs.declared.tree.Reached.{Reached}
use Rattle.dmf_vital.specs.Exits.{AreExits, is_barred, is_exit}
use Rattle.dmf_vital.specs.Hop.{from_of, to_of, room_of}
use Rattle.dmf_vital.specs.Ranks.{AreRanks, is_across, rank_of}
use Rattle.dmf_vital.specs.Shifted.{HoldsExits}
use Rattle.dmf_vital.specs.Tree.{place_of, back_of, AreEntered, IsExpanded, IsGrown}
use Rattle.dmf_vital.proofs.Chained.{has-arc}
use Rattle.dmf_vital.proofs.Level.{same-level}
use Rattle.dmf_vital.proofs.Summed.{exit-tail}

-- A node is one by the test.
is_node-from : (nodes v : ℕ) → IsNode nodes v → is_node nodes v ≡ true
is_node-from nodes v node = and_from (nat_le 1 v) (nat_le v nodes) (le-leb 1 v node.from_one) (le-leb v nodes node.to_last)

-- whether node `v` was reached ahead, or from behind
abbrev pub is_ahead : List Reached → ℕ → Bool
is_ahead nodes v = nat_lt 0 (place_of nodes v) && not (back_of nodes v)

abbrev pub is_behind : List Reached → ℕ → Bool
is_behind nodes v = nat_lt 0 (place_of nodes v) && back_of nodes v

-- What a residual step leads from and to, and that it has room, over an arc that is there.
pub record IsOver (n : Network) (flows : List ℕ) (step : Step) (reverse : Bool) (i : ℕ) : Type 0 where
  pub there : has_arc n i ≡ true
  pub from : from_of reverse (arc_number n i) ≡ step.from
  pub to : to_of reverse (arc_number n i) ≡ step.to
  pub room : 0 < room_of reverse (arc_number n i) (flow_on flows i)
  pub rank : (step.rank ≡ 2 * i) ⊎ (step.rank ≡ 2 * i + 1)

over : (n : Network) (flows : List ℕ) (step : Step) → IsResidual 1 n.arcs flows step → (reverse : Bool) × (i : ℕ) × IsOver n flows step reverse i
over n flows step (along k leads room some) =
    let index : 1 + k - 1 ≡ k = omega arith in
    let arc : arc_number n (1 + k) ≡ get_or n.arcs k no_arc = ap (λ i. get_or n.arcs i no_arc) index in
    let flow : flow_on flows (1 + k) ≡ get_or flows k 0 = ap (λ i. get_or flows i 0) index in (
      false,
      1 + k,
      record {
        there = has-arc n (1 + k) (omega arith) (omega (arith, leads.within));
        from = ap (λ (a : Arc). a.tail) arc ∙ sym leads.tail;
        to = ap (λ (a : Arc). a.head) arc ∙ sym leads.head;
        room = subst (λ m. 0 < m) (λ i. room_of false (sym arc i) (sym flow i))
            (let l : 0 < (get_or n.arcs k no_arc).cap - get_or flows k 0 = omega (arith, room, some) in l);
        rank = inl leads.rank_is;
      },
    )
over n flows step (against k leads room some) =
    let index : 1 + k - 1 ≡ k = omega arith in
    let arc : arc_number n (1 + k) ≡ get_or n.arcs k no_arc = ap (λ i. get_or n.arcs i no_arc) index in
    let flow : flow_on flows (1 + k) ≡ get_or flows k 0 = ap (λ i. get_or flows i 0) index in (
      true,
      1 + k,
      record {
        there = has-arc n (1 + k) (omega arith) (omega (arith, leads.within));
        from = ap (λ (a : Arc). a.head) arc ∙ sym leads.head;
        to = ap (λ (a : Arc). a.tail) arc ∙ sym leads.tail;
        room = omega (arith, flow, room, some);
        rank = inr leads.rank_is;
      },
    )

-- The same step, as the search from behind goes over it.
over-turned : (n : Network) (flows : List ℕ) (step : Step) (reverse : Bool) (i : ℕ) → IsOver n flows step reverse i
    → (from_of (not reverse) (arc_number n i) ≡ step.to) × (to_of (not reverse) (arc_number n i) ≡ step.from)
    × (0 < room_of (not (not reverse)) (arc_number n i) (flow_on flows i))
over-turned n flows step true i is = (is.to, is.from, is.room)
over-turned n flows step false i is = (is.to, is.from, is.room)

module _ (n : Network) (flows : List ℕ) (e : Exits) (network : IsNetwork n) (exits : AreExits n e) (ranks : AreRanks n flows e.ranks.now) where
  abbrev pub rank : ℕ → ℕ
  rank v = rank_of e.ranks.now v

  -- No step is over an exit.
  abbrev pub IsFree : Step → Type 0
  IsFree step = (i : ℕ) → has_arc n i ≡ true → is_exit n e i ≡ true → (step.rank ≢ 2 * i) × (step.rank ≢ 2 * i + 1)

  -- An arc over which such a step leads is no exit.
  no-exit : (step : Step) (reverse : Bool) (i : ℕ) → IsOver n flows step reverse i → IsFree step → is_exit n e i ≡ false
  no-exit step reverse i is other = false_from_ne_true (is_exit n e i) (λ exit. ⊎_elim
      (λ (even : step.rank ≡ 2 * i). (other i is.there exit).0 even)
      (λ (odd : step.rank ≡ 2 * i + 1). (other i is.there exit).1 odd)
      is.rank)

  -- If it leads between nodes of one rank, the arc is not barred.
  not-barred : (step : Step) (reverse : Bool) (i : ℕ) → IsOver n flows step reverse i → IsFree step → rank step.from ≡ rank step.to → is_barred n e i ≡ false
  not-barred step reverse i is other same =
      or_from (is_exit n e i) (is_across e.ranks.now (arc_number n i)) (no-exit step reverse i is other)
      (same-level e.ranks.now reverse (arc_number n i) (ap rank is.from ∙ same ∙ sym (ap rank is.to)))

  -- ---- a set of nodes of the rank of the exits, and all of lower ranks
  module _ (own : ℕ → Bool) where
    abbrev pub held : ℕ → Bool
    held v = is_node n.nodes v && (nat_lt (rank v) (rank e.node) || (rank v == rank e.node && own v))

    held-parts : (v : ℕ) → held v ≡ true → IsNode n.nodes v × ((rank v < rank e.node) ⊎ ((rank v ≡ rank e.node) × (own v ≡ true)))
    held-parts v inside =
        let low : Bool = nat_lt (rank v) (rank e.node) in
        let same : Bool = rank v == rank e.node in
        let parts = and_parts (is_node n.nodes v) (low || (same && own v)) inside in (
          IsNode-is_node n.nodes v parts.0,
          ⊎_elim
              (λ (less : low ≡ true). inl (ltb-true (rank v) (rank e.node) less))
              (λ (both : (same && own v) ≡ true). let each = and_parts same (own v) both in inr (eqb-true (rank v) (rank e.node) each.0, each.1))
              (or_cases low (same && own v) parts.1),
        )

    held-low : (v : ℕ) → IsNode n.nodes v → rank v < rank e.node → held v ≡ true
    held-low v node less =
        let low : Bool = nat_lt (rank v) (rank e.node) in
        let same : Bool = rank v == rank e.node in
        and_from (is_node n.nodes v) (low || (same && own v)) (is_node-from n.nodes v node)
        (or_left low (same && own v) (lt-ltb (rank v) (rank e.node) less))

    held-own : (v : ℕ) → IsNode n.nodes v → rank v ≡ rank e.node → own v ≡ true → held v ≡ true
    held-own v node is inside =
        let low : Bool = nat_lt (rank v) (rank e.node) in
        let same : Bool = rank v == rank e.node in
        and_from (is_node n.nodes v) (low || (same && own v)) (is_node-from n.nodes v node)
        (or_right low (same && own v) (and_from same (own v) (eq-eqb (rank v) (rank e.node) is) inside))

    pub holds-own : own e.node ≡ true
        → ((i : ℕ) → has_arc n i ≡ true → is_exit n e i ≡ true → 0 < flow_on flows i → is_across e.ranks.now (arc_number n i) ≡ false
        → own (arc_number n i).head ≡ false)
        → ((step : Step) (reverse : Bool) (i : ℕ) → IsNode n.nodes step.from → IsNode n.nodes step.to → IsOver n flows step reverse i → is_barred n e i ≡ false
        → own step.from ≡ true → own step.to ≡ true)
        → HoldsExits n flows e held
    holds-own root out closed = record {
      of_nodes = λ v inside. (held-parts v inside).0;
      node = held-own e.node exits.node (let own_rank : rank e.node ≡ rank e.node = omega arith in own_rank) root;
      heads = λ i there exit some.
          let head : ℕ = (arc_number n i).head in
          let tail = ap rank (exit-tail n e i exits exit) in
          let rises = ranks.none_rises true i there some in
          false_from_ne_true (held head) (λ inside. ⊎_elim
          (λ (less : rank head < rank e.node). let no : ⊥ = omega (arith, less, rises, tail) in no)
          (λ (both : (rank head ≡ rank e.node) × (own head ≡ true)).
          both_ways (own head) (out i there exit some (same-level e.ranks.now false (arc_number n i) (tail ∙ sym both.0))) both.1)
          (held-parts head inside).1);
      none_leaves = λ step listed other inside.
          let is = residual-contained 1 n.arcs flows step listed in
          let at = over n flows step is in
          let to = (IsStep-residual n.nodes 1 n.arcs flows step network.arcs is).1 in
          let from = held-parts step.from inside in
          let first = ap rank at.2.from in
          let second = ap rank at.2.to in
          let rises = ranks.none_rises at.0 at.1 at.2.there at.2.room in
          let most : rank step.to ≤ rank step.from = omega (arith, rises, first, second) in
          ⊎_elim
          (λ (less : rank step.from < rank e.node). held-low step.to to (omega (arith, less, most)))
          (λ (both : (rank step.from ≡ rank e.node) × (own step.from ≡ true)). ⊎_elim
          (λ (less : rank step.to < rank e.node). held-low step.to to less)
          (λ (no_less : rank e.node ≤ rank step.to).
          let same : rank step.from ≡ rank step.to = omega (arith, both.0, most, no_less) in
          held-own step.to to (sym same ∙ both.0)
          (closed step at.0 at.1 from.0 to at.2 (not-barred step at.0 at.1 at.2 other same) both.1))
          (cases_lt (rank step.to) (rank e.node)))
          from.1;
    }

  module _ (nodes : List Reached) (found : List ℕ) (grown : IsGrown n flows e nodes found) (entered : AreEntered n flows e nodes) where
    -- ---- all nodes that were reached ahead are expanded
    module _ (expanded : (v : ℕ) → IsNode n.nodes v → 0 < place_of nodes v → back_of nodes v ≡ false → IsExpanded n flows e nodes false v) where
      ahead-parts : (v : ℕ) → is_ahead nodes v ≡ true → (0 < place_of nodes v) × (back_of nodes v ≡ false)
      ahead-parts v e =
          let both = and_parts (nat_lt 0 (place_of nodes v)) (not (back_of nodes v)) e in
          (ltb-true 0 (place_of nodes v) both.0, not-true (back_of nodes v) both.1)

      ahead-from : (v : ℕ) → 0 < place_of nodes v → back_of nodes v ≡ false → is_ahead nodes v ≡ true
      ahead-from v some end = and_from (nat_lt 0 (place_of nodes v)) (not (back_of nodes v)) (lt-ltb 0 (place_of nodes v) some) (ap not end)

      pub holds-ahead : HoldsExits n flows e (held (is_ahead nodes))
      holds-ahead = holds-own (is_ahead nodes) (ahead-from e.node grown.root grown.ahead)
          (λ i there exit some level.
          let head : ℕ = (arc_number n i).head in
          false_from_ne_true (is_ahead nodes head)
          (λ inside. both_ways (back_of nodes head) (ahead-parts head inside).1 (entered i there exit some level).1))
          (λ step reverse i from_node to_node at free inside.
          let from = ahead-parts step.from inside in
          let to = expanded step.from from_node from.0 from.1 reverse i at.there free at.from at.room in
          ahead-from step.to (subst (λ w. 0 < place_of nodes w) at.to to.0) (subst (λ w. back_of nodes w ≡ false) at.to to.1))

    -- ---- all nodes that were reached from behind are expanded
    module _ (expanded : (v : ℕ) → IsNode n.nodes v → 0 < place_of nodes v → back_of nodes v ≡ true → IsExpanded n flows e nodes true v) where
      -- whether node `v` was not reached from behind
      abbrev pub is_outside : ℕ → Bool
      is_outside v = not (is_behind nodes v)

      behind-parts : (v : ℕ) → is_behind nodes v ≡ true → (0 < place_of nodes v) × (back_of nodes v ≡ true)
      behind-parts v e =
          let both = and_parts (nat_lt 0 (place_of nodes v)) (back_of nodes v) e in
          (ltb-true 0 (place_of nodes v) both.0, both.1)

      behind-from : (v : ℕ) → 0 < place_of nodes v → back_of nodes v ≡ true → is_behind nodes v ≡ true
      behind-from v some end = and_from (nat_lt 0 (place_of nodes v)) (back_of nodes v) (lt-ltb 0 (place_of nodes v) some) end

      outside-from : (v : ℕ) → (is_behind nodes v ≡ true → ⊥) → is_outside v ≡ true
      outside-from v out = ap not (false_from_ne_true (is_behind nodes v) out)

      pub holds-behind : HoldsExits n flows e (held is_outside)
      holds-behind = holds-own is_outside
          (outside-from e.node (λ behind. both_ways (back_of nodes e.node) grown.ahead (behind-parts e.node behind).1))
          (λ i there exit some level.
          let head : ℕ = (arc_number n i).head in
          let at = entered i there exit some level in
          ap not (behind-from head at.0 at.1))
          (λ step reverse i from_node to_node at free inside.
          let out = not-true (is_behind nodes step.from) inside in
          outside-from step.to (λ behind.
          let parts = behind-parts step.to behind in
          let turn = over-turned n flows step reverse i at in
          let from = expanded step.to to_node parts.0 parts.1 (not reverse) i at.there free turn.0 turn.2 in
          both_ways (is_behind nodes step.from) out
          (behind-from step.from (subst (λ w. 0 < place_of nodes w) turn.1 from.0) (subst (λ w. back_of nodes w ≡ true) turn.1 from.1))))

-- Either way there is a set that holds them.
pub holds-exits : (n : Network) (flows : List ℕ) (e : Exits) (nodes : List Reached) (found : List ℕ) → IsNetwork n → AreExits n e → AreRanks n flows e.ranks.now
    → IsGrown n flows e nodes found → AreEntered n flows e nodes → (back : Bool)
    → ((v : ℕ) → IsNode n.nodes v → 0 < place_of nodes v → back_of nodes v ≡ back → IsExpanded n flows e nodes back v)
    → (has : ℕ → Bool) × HoldsExits n flows e has
holds-exits n flows e nodes found network exits ranks grown entered true expanded = (
  held n flows e network exits ranks (is_outside n flows e network exits ranks nodes found grown entered expanded),
  holds-behind n flows e network exits ranks nodes found grown entered expanded,
)
holds-exits n flows e nodes found network exits ranks grown entered false expanded = (
  held n flows e network exits ranks (is_ahead nodes),
  holds-ahead n flows e network exits ranks nodes found grown entered expanded,
)
