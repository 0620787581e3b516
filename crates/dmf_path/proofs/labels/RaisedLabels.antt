-- The label of a node is raised to one above the least label to which a link with room leads from it: the labels stay whole, no walk to the
-- goal begins with a passed link, and the noted links stay enough.
use Rattle.std.proofs.Common.{ℕ, ◌≡◌, ◌≢◌, ◌+◌, ◌<◌, ◌≤◌, inl, inr, List, [], ◌∷◌, length, get_or, set, min, refl, ap, sym, ◌∙◌, subst, arith}
use Rattle.std.proofs.lemmas.Bool.{cases_eq, cases_lt}
use Rattle.std.proofs.lemmas.List.{length-set, get_or-set_other}
use Rattle.dmf_node.specs.Node.{IsNode}
use Rattle.dmf_links.specs.Links.{Links, LiesAt, AreLinks, AreRooms}
use Rattle.dmf_path.specs.Labels.{no_label}
use Rattle.dmf_path.specs.BothEnds.{AreWhole}
use Rattle.dmf_path.specs.Residual.{ResidualLinks}
use Rattle.dmf_path.specs.Raising.{AreRaised, MayBeRaised}
use Rattle.dmf_path.specs.Searching.{Labelling}
use Rattle.dmf_path.specs.Walk.{AreValid, IsAdmissible, IsWalk}
use Rattle.dmf_links.proofs.tables.LinkPlaces.{lies-within, room-used}
use Rattle.dmf_path.proofs.labels.Spreading.{cases-set}
use Rattle.dmf_path.proofs.walks.Walking.{AreCurrent-set}

-- Where raised labels are raised once more, they are raised.
pub raised-again : {r : ResidualLinks} {goal : ℕ} {a b c : Labelling} → AreRaised r goal a b → AreRaised r goal b c → AreRaised r goal a c
raised-again first next = record {
  further = next.further;
  noted = λ noted are. next.noted noted (first.noted noted are);
  more = λ v. omega (arith, first.more v, next.more v);
  labelled = λ v some. next.labelled v (first.labelled v some);
  goal_is = next.goal_is ∙ first.goal_is;
}

-- Another link of the node `x` is its current one, and no further admissible link lies before it.
pub moved : {r : ResidualLinks} {goal : ℕ} {v : Labelling} {x now : ℕ} → MayBeRaised r goal v → IsNode r.links.nodes x → get_or r.links.first x 0 ≤ now
    → now ≤ get_or r.links.first (x + 1) 0
    → ((p : ℕ) → LiesAt r.links x p → p < now → IsAdmissible r.links v.labels r.rooms x p → p < get_or v.current x 0)
    → AreRaised r goal v (record { labels = v.labels; current = set v.current x now })
moved {r = r} {goal = goal} {v = v} {x = x} {now = now} may node from to before =
    let long : x < length v.current = omega (arith, node.to_last, may.current_is.one_each) in
    let was : (u p : ℕ) → LiesAt r.links u p → p < get_or (set v.current x now) u 0 → IsAdmissible r.links v.labels r.rooms u p
    → p < get_or v.current u 0 =
    λ u p lies low is. elim (cases-set v.current x u now long) [
      | inl here ↦ rw here.0 (before p (rw here.0 at lies) (omega (arith, low, here.1)) (rw here.0 at is))
      | inr other ↦ omega (arith, low, other.1)
    ] in
    record {
      further = record {
        whole = may.whole;
        current_is = AreCurrent-set r.links v.current x now may.current_is node from to;
        passed = λ u p ps is_node lies low walk. may.passed u p ps is_node lies (was u p lies low walk.0) walk;
      };
      noted = λ noted are. record {
        within = are.within;
        each = λ u p is_node lies low is. are.each u p is_node lies (was u p lies low is) is;
      };
      more = λ u. omega arith;
      labelled = λ u some. some;
      goal_is = refl;
    }

-- The label of the node `x`, which is not the goal, rises to `label`. No link of the node is passed, and each one with room leads to a node
-- that is at most one lower than that.
pub record MayRise (l : Links) (rooms : List ℕ) (goal : ℕ) (v : Labelling) (x label : ℕ) : Type 0 where
  pub links : AreLinks l
  pub roomy : AreRooms l rooms
  pub whole : AreWhole l v.labels rooms
  pub node : IsNode l.nodes x
  pub other : x ≢ goal
  pub current : get_or v.current x 0 ≡ get_or l.first x 0
  pub higher : get_or v.labels x 0 < label
  pub small : label ≤ l.nodes
  pub low : (p : ℕ) → LiesAt l x p → 0 < get_or rooms p 0 → label ≤ get_or v.labels (get_or l.heads p 0) 0 + 1

module _ {l : Links} {rooms : List ℕ} {goal : ℕ} {v : Labelling} {x label : ℕ} (may : MayRise l rooms goal v x label) where
  inside : x < length v.labels
  inside = omega (arith, may.node.to_last, may.whole.small.0)

  -- A link with room does not lead to its own node.
  no-loop : (u p : ℕ) → IsNode l.nodes u → LiesAt l u p → 0 < get_or rooms p 0 → get_or l.heads p 0 ≢ u
  no-loop u p node lies room same =
      let within = lies-within l u p may.links node lies in
      (may.links.each p within).no_loop (room-used l rooms p may.roomy within room) (may.links.at_tail u p node lies ∙ sym same)

  -- A link with room that leads to the node comes from one that was at most one higher.
  was-low : (u p : ℕ) → IsNode l.nodes u → LiesAt l u p → 0 < get_or rooms p 0 → get_or l.heads p 0 ≡ x → get_or v.labels u 0 ≤ get_or v.labels x 0 + 1
  was-low u p node lies room leads =
      let at = ap (λ w. get_or v.labels w 0) leads in
      omega (arith, at, may.whole.valid u p node lies room (omega (arith, at, may.higher, may.small, may.links.at_most_nodes)))

  -- No link with room falls by more than one then.
  valid-risen : AreValid l (set v.labels x label) rooms no_label
  valid-risen u p node lies room below =
      let h : ℕ = get_or l.heads p 0 in
      let apart = no-loop u p node lies room in
      elim (cases-set v.labels x h label inside) [
        | inl head ↦ elim (cases-set v.labels x u label inside) [
          | inl tail ↦ absurd (apart (head.0 ∙ sym tail.0))
          | inr other ↦ omega (arith, head.1, other.1, was-low u p node lies room head.0, may.higher)
        ]
        | inr far ↦ elim (cases-set v.labels x u label inside) [
          | inl tail ↦ omega (arith, far.1, tail.1, may.low p (subst (λ w. LiesAt l w p) tail.0 lies) room)
          | inr other ↦ omega (arith, far.1, other.1, may.whole.valid u p node lies room (omega (arith, below, far.1)))
        ]
      ]

  -- So the labels stay whole.
  whole-risen : AreWhole l (set v.labels x label) rooms
  whole-risen = record {
    small = (
      length-set v.labels x label ∙ may.whole.small.0,
      λ u is. grind (arith, cases-set v.labels x u label inside, may.whole.small.1 u is, may.small),
    );
    valid = valid-risen;
  }

  -- A link of another node that is admissible then does not lead to this node, and was admissible before.
  was-admissible : (u p : ℕ) → u ≢ x → IsNode l.nodes u → IsAdmissible l (set v.labels x label) rooms u p
      → (get_or l.heads p 0 ≢ x) × IsAdmissible l v.labels rooms u p
  was-admissible u p apart node is =
      let h : ℕ = get_or l.heads p 0 in
      let own = get_or-set_other v.labels x u label 0 apart in
      elim (cases-set v.labels x h label inside) [
        | inl head ↦ absurd (omega (arith, head.1, own, is.falls, was-low u p node is.lies is.room head.0, may.higher))
        | inr far ↦ (far.0, record { lies = is.lies; room = is.room; falls = omega (arith, far.1, own, is.falls) })
      ]

  -- So a walk from another node was one before.
  was-walk : (u : ℕ) (ps : List ℕ) → u ≢ x → IsNode l.nodes u → IsWalk l (set v.labels x label) rooms goal u ps → IsWalk l v.labels rooms goal u ps
  was-walk u [] apart node walk = walk
  was-walk u (p ∷ ps) apart node walk =
      let was = was-admissible u p apart node walk.0 in
      let head = (may.links.each p (lies-within l u p may.links node walk.0.lies)).head in
      (was.1, was-walk (get_or l.heads p 0) ps was.0 head walk.1)

  -- A passed link is one of another node.
  passed-other : (u p : ℕ) → LiesAt l u p → p < get_or v.current u 0 → u ≢ x
  passed-other u p lies before same =
      omega (arith, before, may.current, lies.from, ap (λ w. get_or v.current w 0) same, ap (λ w. get_or l.first w 0) same)

-- So it has risen.
pub risen : {r : ResidualLinks} {goal : ℕ} {v : Labelling} {x label : ℕ} → MayRise r.links r.rooms goal v x label → MayBeRaised r goal v
    → AreRaised r goal v (record { labels = set v.labels x label; current = v.current })
risen {r = r} {goal = goal} {v = v} {x = x} {label = label} may is =
    let within = inside may in
    record {
      further = record {
        whole = whole-risen may;
        current_is = is.current_is;
        passed = λ u p ps node lies before walk.
            is.passed u p ps node lies before (was-walk may u (p ∷ ps) (passed-other may u p lies before) node walk);
      };
      noted = λ noted are. record {
        within = are.within;
        each = λ u p node lies before admissible.
            are.each u p node lies before (was-admissible may u p (passed-other may u p lies before) node admissible).1;
      };
      more = λ u. grind (arith, cases-set v.labels x u label within, may.higher);
      labelled = λ u some none. elim (cases-set v.labels x u label within) [
        | inl here ↦ omega (arith, here.1, none, may.small, may.links.at_most_nodes)
        | inr other ↦ some (sym other.1 ∙ none)
      ];
      goal_is = get_or-set_other v.labels x goal label 0 (λ same. may.other (sym same));
    }

-- Of the labels to which links with room from `from` up to `place` lead this is the least one, or no label if there are none.
pub record IsLeastOf (l : Links) (labels rooms : List ℕ) (from place label : ℕ) : Type 0 where
  pub most : (p : ℕ) → from ≤ p → p < place → 0 < get_or rooms p 0 → label ≤ get_or labels (get_or l.heads p 0) 0
  pub one : label ≢ no_label
      → (p : ℕ) × (from ≤ p) × (p < place) × (0 < get_or rooms p 0) × (get_or labels (get_or l.heads p 0) 0 ≡ label)

module _ {l : Links} {labels rooms : List ℕ} {from place label : ℕ} (so_far : IsLeastOf l labels rooms from place label) where
  -- The next link has no room.
  pub least-kept : ¬ (0 < get_or rooms place 0) → IsLeastOf l labels rooms from (place + 1) label
  least-kept closed = record {
    most = λ p after before room. elim (cases_eq p place) [
      | inl here ↦ absurd (closed (rw (← here) room))
      | inr earlier ↦ so_far.most p after (omega arith) room
    ];
    one = λ some. let is = so_far.one some in (is.0, is.1, omega (arith, is.2), is.3, is.4);
  }

  -- It has.
  pub least-next : {next : ℕ} → from ≤ place → 0 < get_or rooms place 0 → next ≡ min label (get_or labels (get_or l.heads place 0) 0)
      → IsLeastOf l labels rooms from (place + 1) next
  least-next {next = next} after room is = record {
    most = λ p behind before roomy. elim (cases_eq p place) [
      | inl here ↦ rw here (omega (arith, is))
      | inr earlier ↦ omega (arith, is, so_far.most p behind (omega arith) roomy)
    ];
    one = λ some. elim (cases_lt (get_or labels (get_or l.heads place 0) 0) label) [
      | inl lower ↦ (place, after, omega arith, room, omega (arith, is, lower))
      | inr higher ↦
          let same : next ≡ label = omega (arith, is, higher) in
          let was = so_far.one (λ none. some (same ∙ none)) in
          (was.0, was.1, omega (arith, was.2), was.3, was.4 ∙ sym same)
    ];
  }
