-- Walking from the start towards the goal: the trail goes on along an admissible link, or steps back.
use Rattle.std.proofs.Common.{ℕ, ◌≡◌, ◌≢◌, ◌+◌, ◌<◌, ◌≤◌, inl, inr, List, [], ◌∷◌, ◌++◌, length, set, slice_index, refl, ap, sym, subst, ◌∙◌, arith}
use Rattle.std.proofs.lemmas.Bool.{cases_lt}
use Rattle.std.proofs.lemmas.List.{get_or-set_other, length-set}
use Rattle.dmf_node.specs.Node.{IsNode}
use Rattle.dmf_links.specs.Links.{Links, AreLinks, tail_of}
use Rattle.dmf_path.specs.Walk.{IsAdmissible, IsWalk, ArePassed, AreCurrent, IsTrail, end_of, IsWalking}
use Rattle.dmf_links.proofs.tables.LinkPlaces.{lies-within}
use Rattle.dmf_path.proofs.labels.Spreading.{cases-set}

-- A walk has come to a node: its trail leads there from the start.
pub record HasCome (l : Links) (labels rooms : List ℕ) (start goal : ℕ) (current trail : List ℕ) (node : ℕ) : Type 0 where
  pub walking : IsWalking l labels rooms start goal current trail
  pub arrives : end_of l start trail ≡ node
  pub is_node : IsNode l.nodes node

-- A path that goes on ends where what comes after it ends.
pub end_of-append : (l : Links) (v : ℕ) (ps qs : List ℕ) → end_of l v (ps ++ qs) ≡ end_of l (end_of l v ps) qs
end_of-append l v [] qs = refl
end_of-append l v (p ∷ ps) qs = end_of-append l (slice_index l.heads p) ps qs

-- A trail is as long as its labels fall.
pub label-trail : (l : Links) (labels rooms current : List ℕ) (v : ℕ) (ps : List ℕ) → IsTrail l labels rooms current v ps
    → length ps + slice_index labels (end_of l v ps) ≡ slice_index labels v
label-trail l labels rooms current v [] trail = omega arith
label-trail l labels rooms current v (p ∷ ps) trail = omega (arith, trail.0.falls, label-trail l labels rooms current (slice_index l.heads p) ps trail.2)

-- A trail leads to a node.
pub end-node : {l : Links} (labels rooms current : List ℕ) (v : ℕ) (ps : List ℕ) → AreLinks l → IsNode l.nodes v → IsTrail l labels rooms current v ps
    → IsNode l.nodes (end_of l v ps)
end-node labels rooms current v [] are node trail = node
end-node {l} labels rooms current v (p ∷ ps) are node trail =
    end-node labels rooms current (slice_index l.heads p) ps are (are.each p (lies-within l v p are node trail.0.lies)).head trail.2

-- a trail followed by another
pub IsTrail-append : (l : Links) (labels rooms current : List ℕ) (v : ℕ) (ps qs : List ℕ) → IsTrail l labels rooms current v ps
    → IsTrail l labels rooms current (end_of l v ps) qs → IsTrail l labels rooms current v (ps ++ qs)
IsTrail-append l labels rooms current v [] qs first later = later
IsTrail-append l labels rooms current v (p ∷ ps) qs first later =
    (first.0, first.1, IsTrail-append l labels rooms current (slice_index l.heads p) ps qs first.2 later)

-- The two parts of such a trail are trails.
pub IsTrail-split : (l : Links) (labels rooms current : List ℕ) (v : ℕ) (ps qs : List ℕ) → IsTrail l labels rooms current v (ps ++ qs)
    → IsTrail l labels rooms current v ps × IsTrail l labels rooms current (end_of l v ps) qs
IsTrail-split l labels rooms current v [] qs trail = (tt, trail)
IsTrail-split l labels rooms current v (p ∷ ps) qs trail =
    let later = IsTrail-split l labels rooms current (slice_index l.heads p) ps qs trail.2 in
    ((trail.0, trail.1, later.0), later.1)

-- Changing a current link at the end of the trail or lower leaves the trail.
IsTrail-set : (l : Links) (labels rooms current : List ℕ) (v : ℕ) (ps : List ℕ) (x y : ℕ) → IsTrail l labels rooms current v ps
    → slice_index labels x ≤ slice_index labels (end_of l v ps) → IsTrail l labels rooms (set current x y) v ps
IsTrail-set l labels rooms current v [] x y trail low = tt
IsTrail-set l labels rooms current v (p ∷ ps) x y trail low =
    let falls = label-trail l labels rooms current (slice_index l.heads p) ps trail.2 in
    let other : v ≢ x = λ same. absurd (omega (arith, ap (λ u. slice_index labels u) same, trail.0.falls, falls, low)) in
    (trail.0, get_or-set_other current x v y 0 other ∙ trail.1, IsTrail-set l labels rooms current (slice_index l.heads p) ps x y trail.2 low)

-- Another current link of a node: one of its own links, or the place after them.
pub AreCurrent-set : (l : Links) (current : List ℕ) (x y : ℕ) → AreCurrent l current → IsNode l.nodes x → slice_index l.first x ≤ y
    → y ≤ slice_index l.first (x + 1) → AreCurrent l (set current x y)
AreCurrent-set l current x y are node from to =
    let within : x < length current = omega (arith, are.one_each, node.to_last) in
    record {
      one_each = length-set current x y ∙ are.one_each;
      from = λ v node_v. elim (cases-set current x v y within) [
        | inl here ↦ omega (arith, here.1, ap (λ u. slice_index l.first u) here.0, from)
        | inr elsewhere ↦ omega (arith, elsewhere.1, are.from v node_v)
      ];
      to = λ v node_v. elim (cases-set current x v y within) [
        | inl here ↦ omega (arith, here.1, ap (λ u. slice_index l.first (u + 1)) here.0, to)
        | inr elsewhere ↦ omega (arith, elsewhere.1, are.to v node_v)
      ];
    }

-- Links from the current one on may be passed, if no walk begins with them.
ArePassed-set : (l : Links) (labels rooms current : List ℕ) (goal x y : ℕ) → ArePassed l labels rooms goal current → x < length current
    → ((p : ℕ) (ps : List ℕ) → slice_index current x ≤ p → p < y → ¬ IsWalk l labels rooms goal x (p ∷ ps)) → ArePassed l labels rooms goal (set current x y)
ArePassed-set l labels rooms current goal x y passed within none v p ps node lies before walk = elim (cases-set current x v y within) [
  | inl here ↦ elim (cases_lt p (slice_index current v)) [
    | inl old ↦ passed v p ps node lies old walk
    | inr next ↦ none p ps (omega (arith, next, ap (λ u. slice_index current u) here.0)) (omega (arith, before, here.1))
        (subst (λ u. IsWalk l labels rooms goal u (p ∷ ps)) here.0 walk)
  ]
  | inr elsewhere ↦ passed v p ps node lies (omega (arith, before, elsewhere.1)) walk
]

-- No walk leads on from a node whose links are all passed.
pub dead-end : (l : Links) (labels rooms current : List ℕ) (goal : ℕ) {v : ℕ} → ArePassed l labels rooms goal current → IsNode l.nodes v → v ≢ goal
    → slice_index l.first (v + 1) ≤ slice_index current v → (ps : List ℕ) → ¬ IsWalk l labels rooms goal v ps
dead-end l labels rooms current goal passed node other all [] walk = other walk
dead-end l labels rooms current goal {v} passed node other all (p ∷ ps) walk = passed v p ps node walk.0.lies (omega (arith, walk.0.lies.below, all)) walk

-- The current link of the node to which the trail leads moves on over links with which no walk begins.
pub walking-set : {l : Links} {labels rooms : List ℕ} {start goal : ℕ} {current trail : List ℕ} {node : ℕ} (place : ℕ)
    → HasCome l labels rooms start goal current trail node → slice_index current node ≤ place → place ≤ slice_index l.first (node + 1)
    → ((p : ℕ) (ps : List ℕ) → slice_index current node ≤ p → p < place → ¬ IsWalk l labels rooms goal node (p ∷ ps))
    → HasCome l labels rooms start goal (set current node place) trail node
walking-set {l} {labels} {rooms} {start} {goal} {current} {trail} {node} place come from to none = record {
  walking = record {
    current_is = AreCurrent-set l current node place come.walking.current_is come.is_node
        (omega (arith, from, come.walking.current_is.from node come.is_node)) to;
    passed = ArePassed-set l labels rooms current goal node place come.walking.passed (omega (arith, come.walking.current_is.one_each, come.is_node.to_last))
        none;
    trail_is = IsTrail-set l labels rooms current start trail node place come.walking.trail_is (omega (arith, ap (λ u. slice_index labels u) come.arrives));
  };
  arrives = come.arrives;
  is_node = come.is_node;
}

-- The trail goes on along the current link.
pub come-next : {l : Links} {labels rooms : List ℕ} {start goal : ℕ} {current trail : List ℕ} {node place : ℕ} → AreLinks l
    → HasCome l labels rooms start goal current trail node → slice_index current node ≡ place → IsAdmissible l labels rooms node place
    → HasCome l labels rooms start goal current (trail ++ place ∷ []) (slice_index l.heads place)
come-next {l} {labels} {rooms} {start} {current} {trail} {node} {place} are come is can = record {
  walking = record {
    current_is = come.walking.current_is;
    passed = come.walking.passed;
    trail_is = IsTrail-append l labels rooms current start trail (place ∷ []) come.walking.trail_is (rw come.arrives can, rw come.arrives is, tt);
  };
  arrives = end_of-append l start trail (place ∷ []);
  is_node = (are.each place (lies-within l node place are come.is_node can.lies)).head;
}

-- The trail steps back over its last link, from which no walk leads on.
pub come-back : {l : Links} {labels rooms : List ℕ} {start goal : ℕ} {current : List ℕ} (trail : List ℕ) {node : ℕ} (back : ℕ) → AreLinks l
    → IsNode l.nodes start
    → HasCome l labels rooms start goal current (trail ++ back ∷ []) node → node ≢ goal → slice_index l.first (node + 1) ≤ slice_index current node
    → HasCome l labels rooms start goal (set current (tail_of l back) (back + 1)) trail (tail_of l back)
come-back {l} {labels} {rooms} {start} {goal} {current} trail {node} back are at_start come other all =
    let before = IsTrail-split l labels rooms current start trail (back ∷ []) come.walking.trail_is in
    let u : ℕ = end_of l start trail in
    let at_u : IsNode l.nodes u = end-node labels rooms current start trail are at_start before.0 in
    let tail : tail_of l back ≡ u = are.at_tail u back at_u before.1.0.lies in
    let head : slice_index l.heads back ≡ node = sym (end_of-append l start trail (back ∷ [])) ∙ come.arrives in
    let P : ℕ → Type 0 = λ t. HasCome l labels rooms start goal (set current t (back + 1)) trail t in
    subst P (sym tail)
    (record {
      walking = record {
        current_is = AreCurrent-set l current u (back + 1) come.walking.current_is at_u (omega (arith, before.1.0.lies.from))
            (omega (arith, before.1.0.lies.below));
        passed = ArePassed-set l labels rooms current goal u (back + 1) come.walking.passed (omega (arith, come.walking.current_is.one_each, at_u.to_last))
            (λ p ps after until walk.
            let is : p ≡ back = omega (arith, after, until, before.1.1) in
            let Q : ℕ → Type 0 = λ v. IsWalk l labels rooms goal v ps in
            dead-end l labels rooms current goal come.walking.passed come.is_node other all ps (subst Q (ap (λ q. slice_index l.heads q) is ∙ head) walk.1));
        trail_is = IsTrail-set l labels rooms current start trail u (back + 1) before.0 (omega arith);
      };
      arrives = refl;
      is_node = at_u;
    })
