-- The nodes that exits enter are reached, one after the other along a chain.
use Rattle.std.proofs.Common.{ℕ, ◌≡◌, ◌≢◌, ◌+◌, ◌-◌, ◌<◌, ◌≤◌, false, List, length, get_or, sym, ◌∙◌, subst, arith, ⊎_elim}
use Rattle.std.proofs.lemmas.Bool.{cases_eq, cases_lt}
use Rattle.dmf_state.specs.Network.{Network, arc_number}
use Rattle.dmf_state.proofs.ChangedArc.{has_arc-within}
use Rattle.dmf_vital.specs.declared.exits.Exits.{Exits}
use Rattle.dmf_vital.specs.declared.tree.Reached.{Reached}
use Rattle.dmf_vital.specs.Chains.{AreChains}
use Rattle.dmf_vital.specs.Exits.{AreExits}
use Rattle.dmf_vital.specs.Tree.{IsGrown, AreBehind, IsEntered, KeepsReached}
use Rattle.dmf_vital.proofs.Keeping.{entered-kept}
use Rattle.dmf_vital.proofs.Summed.{exit-only, exit-tail}

-- The exits past the present arc enter reached nodes.
pub record IsEntering (n : Network) (flows : List ℕ) (e : Exits) (nodes : List Reached) (found : List ℕ) (arc : ℕ) : Type 0 where
  pub grown : IsGrown n flows e nodes found
  pub behind : AreBehind n e nodes
  pub within : arc ≤ length n.arcs
  pub own : 0 < arc → (arc_number n arc).tail ≡ e.node
  pub lone : e.arc ≢ 0 → arc ≢ 0 → arc ≡ e.arc
  pub looked : (i : ℕ) → arc < i → IsEntered n flows e nodes i

module _ (n : Network) (flows : List ℕ) (e : Exits) (exits : AreExits n e) (last before : List ℕ) (chains : AreChains false n.nodes n.arcs last before) where
  -- At first none is past it.
  pub entering-none : (nodes : List Reached) (found : List ℕ) (arc : ℕ) → IsGrown n flows e nodes found → AreBehind n e nodes
      → (e.arc ≡ 0 → arc ≡ get_or last (e.node - 1) 0) → (e.arc ≢ 0 → arc ≡ e.arc) → IsEntering n flows e nodes found arc
  entering-none nodes found arc grown behind all one =
      let chain = chains.last_is e.node exits.node in
      record {
        grown = grown;
        behind = behind;
        within = ⊎_elim
            (λ (none : e.arc ≡ 0). omega (arith, all none, chain.below))
            (λ (some : e.arc ≢ 0). omega (arith, one some, (has_arc-within n e.arc (exits.is_there some)).1))
            (cases_eq e.arc 0);
        own = λ positive. ⊎_elim
            (λ (none : e.arc ≡ 0).
            subst (λ m. (arc_number n m).tail ≡ e.node) (sym (all none)) (chain.own (omega (arith, positive, all none))))
            (λ (some : e.arc ≢ 0). subst (λ m. (arc_number n m).tail ≡ e.node) (sym (one some)) (exits.tail some))
            (cases_eq e.arc 0);
        lone = λ some _. one some;
        looked = λ i past there exit carries. absurd (⊎_elim
            (λ (none : e.arc ≡ 0).
            chain.none_between i (omega (arith, past, all none)) (omega (arith, has_arc-within n i there)) (exit-tail n e i exits exit))
            (λ (some : e.arc ≢ 0). omega (arith, past, one some, exit-only n e i some exit))
            (cases_eq e.arc 0));
      }

  -- The next arc, when the present one is looked at.
  pub entering-next : (old nodes : List Reached) (old_found found : List ℕ) (arc next : ℕ) → IsEntering n flows e old old_found arc → arc ≢ 0
      → KeepsReached old nodes → IsGrown n flows e nodes found → AreBehind n e nodes → IsEntered n flows e nodes arc
      → (e.arc ≡ 0 → next ≡ get_or before (arc - 1) 0) → (e.arc ≢ 0 → next ≡ 0) → IsEntering n flows e nodes found next × (next < arc)
  entering-next old nodes old_found found arc next entering some kept grown behind here all one =
      let h : arc - 1 < length n.arcs = omega (arith, some, entering.within) in
      let index : arc - 1 + 1 ≡ arc = omega (arith, some) in
      let own = entering.own (omega (arith, some)) in
      let chain = chains.before_is (arc - 1) h in
      let smaller : next < arc = ⊎_elim
      (λ (none : e.arc ≡ 0). omega (arith, all none, chain.below, index))
      (λ (lone : e.arc ≢ 0). omega (arith, one lone, some))
      (cases_eq e.arc 0) in (
        record {
          grown = grown;
          behind = behind;
          within = omega (arith, smaller, entering.within);
          own = λ positive. ⊎_elim
              (λ (none : e.arc ≡ 0).
              subst (λ m. (arc_number n m).tail ≡ e.node) (sym (all none)) (chain.own (omega (arith, positive, all none)) ∙ own))
              (λ (lone : e.arc ≢ 0). absurd (omega (arith, positive, one lone)))
              (cases_eq e.arc 0);
          lone = λ some positive. absurd (positive (one some));
          looked = λ i past. ⊎_elim
              (λ (later : arc < i). entered-kept n flows e old nodes i kept (entering.looked i later))
              (λ (most : i ≤ arc). ⊎_elim
              (λ (same : i ≡ arc). subst (IsEntered n flows e nodes) (sym same) here)
              (λ (apart : i ≢ arc). λ there exit carries. absurd (⊎_elim
              (λ (none : e.arc ≡ 0).
              chain.none_between i (omega (arith, past, all none)) (omega (arith, most, apart, index)) (exit-tail n e i exits exit ∙ sym own))
              (λ (lone : e.arc ≢ 0). apart (exit-only n e i lone exit ∙ sym (entering.lone lone some)))
              (cases_eq e.arc 0)))
              (cases_eq i arc))
              (cases_lt arc i);
        },
        smaller,
      )
