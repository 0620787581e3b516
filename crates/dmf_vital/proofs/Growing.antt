-- A search grows from both ends: it reaches one node after the other.
use Rattle.std.proofs.Common.{ℕ, ◌≡◌, ◌≢◌, ◌⊎◌, ◌+◌, ◌-◌, ◌<◌, ◌≤◌, Bool, true, false, List, [], ◌∷◌, ◌++◌, length, get_or, set, min, refl, ap, sym, ◌∙◌, subst, arith, ⊎_elim, inl, inr, Result, Ok, Err, OnOk, OnErr}
use Rattle.std.proofs.lemmas.Bool.{both_ways, cases_eq}
use Rattle.std.specs.List.{All}
use Rattle.std.proofs.lemmas.List.{get_or_read}
use Rattle.dmf_node.specs.Node.{IsNode}
use Rattle.dmf_state.specs.declared.arc.Arc.{Arc}
use Rattle.dmf_state.specs.Arc.{IsArc, no_arc}
use Rattle.dmf_state.specs.Network.{Network, arc_number, has_arc}
use Rattle.dmf_state.proofs.ChangedArc.{has_arc-within}
use Rattle.dmf_vital.specs.declared.exits.Exits.{Exits}
use Rattle.dmf_vital.specs.declared.hop.Hop.{Hop}
use Rattle.dmf_vital.specs.declared.tree.Reached.{Reached}
use Rattle.dmf_vital.specs.Exits.{is_barred}
use Rattle.dmf_vital.specs.Hop.{from_of, to_of}
use Rattle.dmf_vital.specs.Tree.{not_reached, at_node, place_of, back_of, room_over, IsBegun, IsReachedBy, IsGrown, KeepsReached}
use Rattle.dmf_vital.proofs.Chained.{node-from, node-to}
use Rattle.dmf_vital.proofs.Listed.{at-same, at-other, listed-none, listed-more}
use Rattle.dmf_vital.proofs.Keeping.{back-kept, by-kept, kept-none, kept-set, place-kept}

-- ---- the node that the exits leave

-- It is reached first.
pub grown-root : (n : Network) (flows : List ℕ) (e : Exits) (v : ℕ) (nodes : List Reached) (now : Reached) → v ≡ e.node → IsNode n.nodes v
    → length nodes ≡ n.nodes → ((u : ℕ) → IsNode n.nodes u → place_of nodes u ≡ 0) → now.place ≡ 1 → 0 < now.width → now.back ≡ false
    → IsGrown n flows e (set nodes (v - 1) now) (v ∷ [])
grown-root n flows e v nodes now is node one_each none first wide ahead =
    let here : IsNode (length nodes) v = rw one_each node in
    let at = at-same nodes v now here in
    let own : place_of (set nodes (v - 1) now) v ≡ 1 = ap (λ (r : Reached). r.place) at ∙ first in
    let only : (u : ℕ) → IsNode n.nodes u → 0 < place_of (set nodes (v - 1) now) u → u ≡ v = λ u other some. ⊎_elim
    (λ (same : u ≡ v). same)
    (λ (apart : u ≢ v).
    let old : place_of (set nodes (v - 1) now) u ≡ place_of nodes u = ap (λ (r : Reached). r.place) (at-other nodes v now here u (rw one_each other) apart) in
    absurd (omega (arith, some, old, none u other)))
    (cases_eq u v) in
    let begun : IsBegun n flows e v now = record {
      ahead = λ _. is;
      is_there = λ behind. absurd (both_ways now.back ahead behind);
      exit = λ behind. absurd (both_ways now.back ahead behind);
      level = λ behind. absurd (both_ways now.back ahead behind);
      enters = λ behind. absurd (both_ways now.back ahead behind);
      carries = λ behind. absurd (both_ways now.back ahead behind);
    } in
    record {
      are = listed-more n.nodes nodes [] v now node (none v node) first (listed-none n.nodes nodes one_each none);
      root = subst (λ u. 0 < place_of (set nodes (v - 1) now) u) is (omega (arith, own));
      ahead = subst (λ u. back_of (set nodes (v - 1) now) u ≡ false) is (ap (λ (r : Reached). r.back) at ∙ ahead);
      wide = λ u other some.
          let width : (at_node (set nodes (v - 1) now) u).width ≡ now.width =
          ap (λ w. (at_node (set nodes (v - 1) now) w).width) (only u other some) ∙ ap (λ (r : Reached). r.width) at in
          omega (arith, width, wide);
      steps = λ u other some.
          let same : u ≡ v = only u other some in
          let entry : at_node (set nodes (v - 1) now) u ≡ now = ap (at_node (set nodes (v - 1) now)) same ∙ at in
          inl (subst (λ w. IsBegun n flows e w (at_node (set nodes (v - 1) now) u)) (sym same) (subst (IsBegun n flows e v) (sym entry) begun));
    }

-- ---- one more node

-- One that was not reached is reached, in one of the two ways.
pub grown-with : (n : Network) (flows : List ℕ) (e : Exits) (v : ℕ) (nodes : List Reached) (found : List ℕ) (now : Reached) → IsNode n.nodes v
    → place_of nodes v ≡ 0 → now.place ≡ length found + 1 → 0 < now.width → IsBegun n flows e v now ⊎ IsReachedBy n flows e (set nodes (v - 1) now) v now
    → IsGrown n flows e nodes found → IsGrown n flows e (set nodes (v - 1) now) (found ++ v ∷ [])
grown-with n flows e v nodes found now to_node new last wide how grown =
    let here : IsNode (length nodes) v = rw grown.are.one_each to_node in
    let at = at-same nodes v now here in
    let kept = kept-set nodes v now new in
    let after : List Reached = set nodes (v - 1) now in
    let other : (w : ℕ) → IsNode n.nodes w → w ≢ v → at_node after w ≡ at_node nodes w = λ w node apart.
    at-other nodes v now here w (rw grown.are.one_each node) apart in
    record {
      are = listed-more n.nodes nodes found v now to_node new last grown.are;
      root = omega (arith, grown.root, place-kept nodes after e.node kept grown.root);
      ahead = back-kept nodes after e.node kept grown.root ∙ grown.ahead;
      wide = λ w node some. ⊎_elim
          (λ (same : w ≡ v).
          let width : (at_node after w).width ≡ now.width = ap (λ x. (at_node after x).width) same ∙ ap (λ (r : Reached). r.width) at in
          omega (arith, width, wide))
          (λ (apart : w ≢ v).
          let is = other w node apart in
          let place : place_of after w ≡ place_of nodes w = ap (λ (r : Reached). r.place) is in
          let width : (at_node after w).width ≡ (at_node nodes w).width = ap (λ (r : Reached). r.width) is in
          omega (arith, width, grown.wide w node (omega (arith, some, place))))
          (cases_eq w v);
      steps = λ w node some. ⊎_elim
          (λ (same : w ≡ v).
          let is : at_node after w ≡ now = ap (at_node after) same ∙ at in
          subst (λ x. IsBegun n flows e x (at_node after w) ⊎ IsReachedBy n flows e after x (at_node after w)) (sym same)
          (subst (λ by. IsBegun n flows e v by ⊎ IsReachedBy n flows e after v by) (sym is) how))
          (λ (apart : w ≢ v).
          let is = other w node apart in
          let place : place_of after w ≡ place_of nodes w = ap (λ (r : Reached). r.place) is in
          ⊎_elim
          (λ (begun : IsBegun n flows e w (at_node nodes w)). inl (subst (IsBegun n flows e w) (sym is) begun))
          (λ (old : IsReachedBy n flows e nodes w (at_node nodes w)).
          inr (subst (IsReachedBy n flows e after w) (sym is) (by-kept n flows e nodes after w (at_node nodes w) kept old)))
          (grown.steps w node (omega (arith, some, place))))
          (cases_eq w v);
    }

-- A step with room leads from a reached node to one that is not.
pub record LeadsOn (n : Network) (e : Exits) (nodes : List Reached) (back : Bool) (hop : Hop) (v : ℕ) : Type 0 where
  pub is_there : has_arc n hop.arc ≡ true
  pub other : is_barred n e hop.arc ≡ false
  pub from_reached : 0 < place_of nodes (from_of hop.against (arc_number n hop.arc))
  pub from_end : back_of nodes (from_of hop.against (arc_number n hop.arc)) ≡ back
  pub leads_to : to_of hop.against (arc_number n hop.arc) ≡ v
  pub from_node : IsNode n.nodes (from_of hop.against (arc_number n hop.arc))
  pub to_node : IsNode n.nodes v
  pub new : place_of nodes v ≡ 0

pub grown-more : (n : Network) (flows : List ℕ) (e : Exits) (v : ℕ) (nodes : List Reached) (found : List ℕ) (now : Reached)
    → LeadsOn n e nodes now.back now.hop v → now.place ≡ length found + 1 → 0 < now.width
    → now.width ≤ (at_node nodes (from_of now.hop.against (arc_number n now.hop.arc))).width
    → now.width ≤ room_over n flows now.back now.hop.against now.hop.arc → IsGrown n flows e nodes found
    → IsGrown n flows e (set nodes (v - 1) now) (found ++ v ∷ [])
grown-more n flows e v nodes found now leads last wide narrows fits grown =
    let u : ℕ = from_of now.hop.against (arc_number n now.hop.arc) in
    let kept = kept-set nodes v now leads.new in
    let after : List Reached = set nodes (v - 1) now in
    let same_from = kept u leads.from_reached in
    let place_from : place_of after u ≡ place_of nodes u = ap (λ (r : Reached). r.place) same_from in
    let width_from : (at_node after u).width ≡ (at_node nodes u).width = ap (λ (r : Reached). r.width) same_from in
    let placed = grown.are.placed u leads.from_node leads.from_reached in
    grown-with n flows e v nodes found now leads.to_node leads.new last wide
    (inr (record {
      is_there = leads.is_there;
      other = leads.other;
      leads_to = leads.leads_to;
      from_reached = omega (arith, leads.from_reached, place_from);
      from_before = omega (arith, place_from, placed.0, last);
      same_end = back-kept nodes after u kept leads.from_reached ∙ leads.from_end;
      narrows = omega (arith, narrows, width_from);
      fits = fits;
    }))
    grown

-- ---- one step, whatever comes of it

-- Two lists that are set or stay as they are.
pub grown-same : (n : Network) (flows : List ℕ) (e : Exits) (nodes after : List Reached) (found longer : List ℕ) → after ≡ nodes → longer ≡ found
    → IsGrown n flows e nodes found → IsGrown n flows e after longer
grown-same n flows e nodes after found longer first second grown =
    subst (λ f. IsGrown n flows e after f) (sym second) (subst (λ m. IsGrown n flows e m found) (sym first) grown)

pub either : {A E : Type 0} (result : Result A E) (P Q R : Type 0) → OnOk result P → OnErr result Q → (P → R) → (Q → R) → R
either (Ok x) P Q R ok err first second = first ok
either (Err e) P Q R ok err first second = second err

pub both-ok : {A E : Type 0} (result : Result A E) (P Q : Type 0) → OnOk result P → OnOk result Q → OnOk result (P × Q)
both-ok (Ok x) P Q p q = (p, q)
both-ok (Err e) P Q p q = tt

pub both-err : {A E : Type 0} (result : Result A E) (P Q : Type 0) → OnErr result P → OnErr result Q → OnErr result (P × Q)
both-err (Ok x) P Q p q = tt
both-err (Err e) P Q p q = (p, q)

pub on-ok : {A E : Type 0} (result : Result A E) (P R : Type 0) → OnOk result P → (P → R) → OnOk result R
on-ok (Ok x) P R p f = f p
on-ok (Err e) P R p f = tt

-- A step leads on, as the code sees it.
pub leads-on : (n : Network) (e : Exits) (v : ℕ) (back : Bool) (hop : Hop) (arc : Arc) (nodes : List Reached) (entry : Reached) → All (IsArc n.nodes) n.arcs
    → length nodes ≡ n.nodes → has_arc n hop.arc ≡ true → is_barred n e hop.arc ≡ false → 0 < place_of nodes (from_of hop.against (arc_number n hop.arc))
    → back_of nodes (from_of hop.against (arc_number n hop.arc)) ≡ back
    → arc ≡ arc_number n hop.arc → v ≡ to_of hop.against arc → entry ≡ get_or nodes (v - 1) entry → entry.place ≤ 0 → LeadsOn n e nodes back hop v
leads-on n e v back hop arc nodes entry arcs one_each there other reached end is to read none =
    let good = arcs (hop.arc - 1) no_arc (has_arc-within n hop.arc there).1 in
    let leads : v ≡ to_of hop.against (arc_number n hop.arc) = to ∙ ap (to_of hop.against) is in
    let node : IsNode n.nodes v = subst (IsNode n.nodes) (sym leads) (node-to hop.against n.nodes (arc_number n hop.arc) good) in
    let within : v - 1 < length nodes = omega (arith, node.from_one, node.to_last, one_each) in
    record {
      is_there = there;
      other = other;
      from_reached = reached;
      from_end = end;
      leads_to = sym leads;
      from_node = node-from hop.against n.nodes (arc_number n hop.arc) good;
      to_node = node;
      new = let place = ap (λ (r : Reached). r.place) (get_or_read nodes (v - 1) entry within read not_reached) in omega (arith, place, none);
    }

-- The node to which a step with room leads is reached, or memory is refused and nothing changes.
module _ (n : Network) (flows : List ℕ) (e : Exits) (back : Bool) (v width room amount : ℕ) (hop : Hop) (nodes after : List Reached) (found longer : List ℕ)
    (leads : LeadsOn n e nodes back hop v) (grown : IsGrown n flows e nodes found)
    (own : width ≡ (at_node nodes (from_of hop.against (arc_number n hop.arc))).width)
    (fits : room ≡ room_over n flows back hop.against hop.arc) (some : room ≢ 0) (least : amount ≡ min room width) where
  abbrev now : Reached
  now = record { place = length found + 1; hop = hop; width = amount; back = back }

  pub stepped-ok : after ≡ set nodes (v - 1) now → longer ≡ found ++ v ∷ [] → IsGrown n flows e after longer
  stepped-ok first second =
      let wide = grown.wide (from_of hop.against (arc_number n hop.arc)) leads.from_node leads.from_reached in
      let positive : 0 < amount = omega (arith, least, some, wide, own) in
      let narrow : amount ≤ (at_node nodes (from_of hop.against (arc_number n hop.arc))).width = omega (arith, least, own) in
      let within : amount ≤ room_over n flows back hop.against hop.arc = omega (arith, least, fits) in
      grown-same n flows e (set nodes (v - 1) now) after (found ++ v ∷ []) longer first second
      (grown-more n flows e v nodes found now leads refl positive narrow within grown)

  pub stepped-kept : after ≡ set nodes (v - 1) now → KeepsReached nodes after
  stepped-kept first = subst (KeepsReached nodes) (sym first) (kept-set nodes v now leads.new)

  pub stepped-leads : after ≡ set nodes (v - 1) now → (0 < place_of after v) × (back_of after v ≡ back)
  stepped-leads first =
      let at = at-same nodes v now (rw grown.are.one_each leads.to_node) in
      let place : place_of after v ≡ length found + 1 = ap (λ m. place_of m v) first ∙ ap (λ (r : Reached). r.place) at in
      (omega (arith, place), ap (λ m. back_of m v) first ∙ ap (λ (r : Reached). r.back) at)

  pub stepped-grown : {A E : Type 0} (result : Result A E) → OnOk result ((after ≡ set nodes (v - 1) now) × (longer ≡ found ++ v ∷ []))
      → OnErr result ((after ≡ nodes) × (longer ≡ found)) → IsGrown n flows e after longer
  stepped-grown result ok err = either result _ _ (IsGrown n flows e after longer) ok err (λ s. stepped-ok s.0 s.1)
      (λ s. grown-same n flows e nodes after found longer s.0 s.1 grown)

  pub stepped-keeps : {A E : Type 0} (result : Result A E) → OnOk result (after ≡ set nodes (v - 1) now) → OnErr result (after ≡ nodes) → KeepsReached nodes after
  stepped-keeps result ok err = either result (after ≡ set nodes (v - 1) now) (after ≡ nodes) (KeepsReached nodes after) ok err stepped-kept
      (λ same. subst (KeepsReached nodes) (sym same) (kept-none nodes))
