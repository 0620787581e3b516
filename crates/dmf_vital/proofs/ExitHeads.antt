-- The nodes that exits enter: a search begins with them from behind.
use Rattle.std.proofs.Common.{ℕ, ◌≡◌, ◌≢◌, ◌+◌, ◌-◌, ◌<◌, true, false, List, [], ◌∷◌, ◌++◌, length, set, refl, ap, sym, ◌∙◌, subst, arith, ⊎_elim, inl, Result, OnOk, OnErr}
use Rattle.std.proofs.lemmas.Bool.{both_ways, cases_eq}
use Rattle.dmf_node.specs.Node.{IsNode}
use Rattle.dmf_state.specs.Flow.{flow_on}
use Rattle.dmf_state.specs.Network.{Network, arc_number, has_arc}
use Rattle.dmf_vital.specs.declared.exits.Exits.{Exits}
use Rattle.dmf_vital.specs.declared.tree.Reached.{Reached}
use Rattle.dmf_vital.specs.Exits.{is_exit}
use Rattle.dmf_vital.specs.Ranks.{is_across}
use Rattle.dmf_vital.specs.Tree.{at_node, place_of, back_of, IsGrown, IsEntered, AreBehind, KeepsReached}
use Rattle.dmf_vital.proofs.Listed.{at-same, at-other}
use Rattle.dmf_vital.proofs.Keeping.{kept-none, kept-set}
use Rattle.dmf_vital.proofs.Growing.{either, grown-same, grown-with}

module _ (n : Network) (flows : List ℕ) (e : Exits) (j v : ℕ) (nodes after : List Reached) (found longer : List ℕ) (there : has_arc n j ≡ true)
    (exit : is_exit n e j ≡ true) (carries : 0 < flow_on flows j)
    (level : is_across e.ranks.now (arc_number n j) ≡ false) (leads : (arc_number n j).head ≡ v) (node : IsNode n.nodes v)
    (apart : v ≢ e.node) (new : place_of nodes v ≡ 0) (grown : IsGrown n flows e nodes found) (behind : AreBehind n e nodes) where
  abbrev begun : Reached
  begun = record { place = length found + 1; hop = record { arc = j; against = false }; width = flow_on flows j; back = true }

  entered-ok : after ≡ set nodes (v - 1) begun → longer ≡ found ++ v ∷ [] → IsGrown n flows e after longer
  entered-ok first second =
      grown-same n flows e (set nodes (v - 1) begun) after (found ++ v ∷ []) longer first second
      (grown-with n flows e v nodes found begun node new refl carries
      (inl (record {
        ahead = λ back. absurd (both_ways true back refl);
        is_there = λ _. there;
        exit = λ _. exit;
        level = λ _. level;
        enters = λ _. leads;
        carries = λ _. omega arith;
      }))
      grown)

  pub entered-grown : {A E : Type 0} (result : Result A E) → OnOk result ((after ≡ set nodes (v - 1) begun) × (longer ≡ found ++ v ∷ []))
      → OnErr result ((after ≡ nodes) × (longer ≡ found)) → IsGrown n flows e after longer
  entered-grown result ok err = either result _ _ (IsGrown n flows e after longer) ok err (λ s. entered-ok s.0 s.1)
      (λ s. grown-same n flows e nodes after found longer s.0 s.1 grown)

  pub entered-keeps : {A E : Type 0} (result : Result A E) → OnOk result (after ≡ set nodes (v - 1) begun) → OnErr result (after ≡ nodes) → KeepsReached nodes after
  entered-keeps result ok err = either result (after ≡ set nodes (v - 1) begun) (after ≡ nodes) (KeepsReached nodes after) ok err
      (λ first. subst (KeepsReached nodes) (sym first) (kept-set nodes v begun new))
      (λ same. subst (KeepsReached nodes) (sym same) (kept-none nodes))

  behind-set : AreBehind n e (set nodes (v - 1) begun)
  behind-set u other some ahead =
      let here : IsNode (length nodes) v = rw grown.are.one_each node in
      ⊎_elim
      (λ (same : u ≡ v).
      let entry : at_node (set nodes (v - 1) begun) u ≡ begun = ap (at_node (set nodes (v - 1) begun)) same ∙ at-same nodes v begun here in
      absurd (both_ways true (sym (ap (λ (r : Reached). r.back) entry) ∙ ahead) refl))
      (λ (other_node : u ≢ v).
      let entry = at-other nodes v begun here u (rw grown.are.one_each other) other_node in
      let place = ap (λ (r : Reached). r.place) entry in
      behind u other (omega (arith, some, place)) (sym (ap (λ (r : Reached). r.back) entry) ∙ ahead))
      (cases_eq u v)

  pub entered-behind : {A E : Type 0} (result : Result A E) → OnOk result (after ≡ set nodes (v - 1) begun) → OnErr result (after ≡ nodes) → AreBehind n e after
  entered-behind result ok err = either result (after ≡ set nodes (v - 1) begun) (after ≡ nodes) (AreBehind n e after) ok err
      (λ first. subst (AreBehind n e) (sym first) behind-set)
      (λ same. subst (AreBehind n e) (sym same) behind)

  pub entered-now : after ≡ set nodes (v - 1) begun → IsEntered n flows e after j
  entered-now first _ _ _ _ =
      let entry = at-same nodes v begun (rw grown.are.one_each node) in
      let place : place_of after v ≡ length found + 1 = ap (λ m. place_of m v) first ∙ ap (λ (r : Reached). r.place) entry in
      let end : back_of after v ≡ true = ap (λ m. back_of m v) first ∙ ap (λ (r : Reached). r.back) entry in
      (subst (λ u. 0 < place_of after u) (sym leads) (omega (arith, place)), ap (back_of after) leads ∙ end)
