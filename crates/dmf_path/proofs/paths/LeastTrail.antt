-- A trail to the goal is the least path: no path is shorter than the labels fall, paths of that length are walks, and none of them
-- begins with a passed link.
use Rattle.std.proofs.Common.{ℕ, ◌≡◌, ◌≢◌, ◌+◌, ◌<◌, ◌≤◌, ◌⊎◌, List, [], ◌∷◌, length, get_or, ap, sym, subst, ◌∙◌, inl, inr, arith}
use Rattle.std.proofs.lemmas.Bool.{cases_order}
use Rattle.std.proofs.lemmas.List.{length-map}
use Rattle.dmf_path.specs.Step.{Step}
use Rattle.dmf_node.specs.Node.{IsNode}
use Rattle.dmf_path.specs.Path.{IsPath, ComesBefore, ranks, IsLeastPath}
use Rattle.dmf_path.specs.Pair.{steps_of}
use Rattle.dmf_links.specs.Links.{Links, LiesAt, AreLinks, ArePlaces, AreRooms, IsSpare, pairs_at}
use Rattle.dmf_path.specs.Labels.{no_label}
use Rattle.dmf_path.specs.BothEnds.{AreSound, AreSoundBetween, IsLabelled}
use Rattle.dmf_path.specs.Walk.{IsWalk, AreValid, ArePassed, IsTrail, end_of, IsWalking}
use Rattle.dmf_links.proofs.tables.LinkPlaces.{lies-within, room-used}
use Rattle.dmf_path.proofs.labels.Gated.{walk-labels}
use Rattle.dmf_path.proofs.paths.Steps.{rank_of, step_on, path_on}
use Rattle.dmf_path.proofs.paths.Ranks.{rank_of-ascends}
use Rattle.dmf_path.proofs.paths.OpenPaths.{IsOpenPath, IsPathOn, head-node, path-of_links, links-of_path}

module _ (l : Links) (rooms labels : List ℕ) (goal : ℕ) where
  module _ (top : ℕ) (links : AreLinks l) (valid : AreValid l labels rooms top) where
    -- No path to the goal is shorter than the label, if the labels are valid.
    label-at_most : (v : ℕ) (ps : List ℕ) → IsNode l.nodes v → IsOpenPath l rooms goal v ps → length ps + get_or labels goal 0 < top
        → get_or labels v 0 ≤ length ps + get_or labels goal 0
    label-at_most v [] node leads below = omega (arith, ap (λ u. get_or labels u 0) leads)
    label-at_most v (p ∷ ps) node leads below =
        let next = label-at_most (get_or l.heads p 0) ps (head-node l v p links node leads.0) leads.2 (omega (arith, below)) in
        omega (arith, next, below, valid v p node leads.0 leads.1 (omega (arith, next, below)))

    -- A path to the goal that is as long as the label is a walk.
    walk-from_label : (v : ℕ) (ps : List ℕ) → IsNode l.nodes v → IsOpenPath l rooms goal v ps → length ps + get_or labels goal 0 ≡ get_or labels v 0
        → get_or labels v 0 ≤ top → IsWalk l labels rooms goal v ps
    walk-from_label v [] node leads long below = leads
    walk-from_label v (p ∷ ps) node leads long below =
        let head : ℕ = get_or l.heads p 0 in
        let head_is = head-node l v p links node leads.0 in
        let at_most = label-at_most head ps head_is leads.2 (omega (arith, long, below)) in
        let falls : get_or labels head 0 + 1 ≡ get_or labels v 0 = grind (arith, at_most, valid v p node leads.0 leads.1) in (
          record { lies = leads.0; room = leads.1; falls = falls },
          walk-from_label head ps head_is leads.2 (omega (arith, long, falls)) (omega (arith, falls, below)),
        )

  -- A walk is a path that is as long as its first label.
  pub walk-path : (v : ℕ) (ps : List ℕ) → IsWalk l labels rooms goal v ps
      → IsOpenPath l rooms goal v ps × (length ps + get_or labels goal 0 ≡ get_or labels v 0)
  walk-path v [] walk = (walk, omega (arith, ap (λ u. get_or labels u 0) walk))
  walk-path v (p ∷ ps) walk =
      let rest = walk-path (get_or l.heads p 0) ps walk.1 in ((walk.0.lies, walk.0.room, rest.0), omega (arith, rest.1, walk.0.falls))

  module _ (places current : List ℕ) (links : AreLinks l) (are : ArePlaces l places) (fit : AreRooms l rooms) (passed : ArePassed l labels rooms goal current) where
    -- A trail that ends at the goal is a walk.
    walk-trail : (v : ℕ) (trail : List ℕ) → IsTrail l labels rooms current v trail → end_of l v trail ≡ goal → IsWalk l labels rooms goal v trail
    walk-trail v [] is ends = ends
    walk-trail v (p ∷ ps) is ends = (is.0, walk-trail (get_or l.heads p 0) ps is.2 ends)

    -- A link with room is not spare.
    used : (v p : ℕ) → IsNode l.nodes v → LiesAt l v p → 0 < get_or rooms p 0 → ¬ IsSpare l p
    used v p node lies room = room-used l rooms p fit (lies-within l v p links node lies) room

    -- The rank of a link determines it, and the links of a node lie in the order of their ranks.
    rank-cases : (v q p : ℕ) → IsNode l.nodes v → LiesAt l v q → LiesAt l v p → 0 < get_or rooms q 0 → 0 < get_or rooms p 0 → ((q < p) × (rank_of l places q < rank_of l places p))
        ⊎ (((q ≡ p) × (rank_of l places q ≡ rank_of l places p)) ⊎ ((p < q) × (rank_of l places p < rank_of l places q)))
    rank-cases v q p node at_q at_p q_room p_room = elim (cases_order q p) [
      | inl same ↦ inr (inl (same, ap (rank_of l places) same))
      | inr (inl less) ↦ inl (less, rank_of-ascends l places v q p links are node at_q at_p (used v q node at_q q_room) (used v p node at_p p_room) less)
      | inr (inr more) ↦ inr (inr (more, rank_of-ascends l places v p q links are node at_p at_q (used v p node at_p p_room) (used v q node at_q q_room) more))
    ]

    -- No walk comes before the trail: where it leaves the trail, it takes a link after the current one.
    none-before : (v : ℕ) (trail qs : List ℕ) → IsNode l.nodes v → IsTrail l labels rooms current v trail → IsWalk l labels rooms goal v qs
        → ¬ ComesBefore (ranks (path_on l places rooms qs)) (ranks (path_on l places rooms trail))
    none-before v [] [] node is walk before = before
    none-before v [] (q ∷ qs) node is walk before = before
    none-before v (p ∷ ps) [] node is walk before = before
    none-before v (p ∷ ps) (q ∷ qs) node is walk before =
        let order = rank-cases v q p node walk.0.lies is.0.lies walk.0.room is.0.room in
        elim before [
          | inl lower ↦ passed v q qs node walk.0.lies (omega (arith, order, lower, is.1)) walk
          | inr tails ↦
              let same : q ≡ p = omega (arith, order, tails.0) in
              let rest : IsWalk l labels rooms goal (get_or l.heads p 0) qs = rw same at walk.1 in
              none-before (get_or l.heads p 0) ps qs (head-node l v p links node is.0.lies) is.2 rest tails.1
        ]

-- A path that is as long as sound labels fall is a walk along them.
pub walk-of_path : (l : Links) (places rooms labels : List ℕ) (start goal : ℕ) (path : List Step) → AreLinks l → ArePlaces l places
    → IsNode l.nodes start → IsNode l.nodes goal → AreSoundBetween l rooms labels start goal
    → IsPath (steps_of (pairs_at l places rooms)) start goal path → length path + get_or labels goal 0 ≡ get_or labels start 0
    → (on : IsPathOn l places rooms goal start path) × IsWalk l labels rooms goal start on.on
walk-of_path l places rooms labels start goal path links are node goal_is between leads long =
    let sound = between.sound in
    let counts : List ℕ = sound.counts in
    let on = links-of_path l places rooms goal start path links are leads in
    let count : length on.on ≡ length path = sym (length-map on.on (step_on l places rooms)) ∙ ap length on.steps in
    let has : get_or labels start 0 ≢ no_label = λ none. omega (arith, none, between.start_label, links.at_most_nodes) in
    let at_start : get_or counts start 0 ≡ get_or labels start 0 = sound.filled_are start node has in
    let at_goal : get_or counts goal 0 ≡ get_or labels goal 0 = sound.filled_are goal goal_is
    (λ none. omega (arith, none, between.low, between.start_label, links.at_most_nodes)) in
    let counted = walk-from_label l rooms counts goal (get_or labels start 0) links sound.valid start on.on node on.leads
    (omega (arith, long, count, at_start, at_goal)) (omega (arith, at_start)) in
    (on, walk-labels l labels rooms counts goal start on.on links sound.filled_are sound.gated node has counted)

-- Labels along which a walk leads to the goal are sound, and the start is not below the goal.
pub between-labelled : {l : Links} {rooms labels : List ℕ} {start goal : ℕ} → IsLabelled l rooms labels start goal
    → AreSoundBetween l rooms labels start goal
between-labelled {l = l} {rooms = rooms} {labels = labels} {start = start} {goal = goal} labelled = record {
  sound = labelled.sound;
  start_label = labelled.start_label;
  low = omega (arith, (walk-path l rooms labels goal start labelled.walk.0 labelled.walk.1).1);
}

-- A trail from the start to the goal is the least path.
pub least-trail : (l : Links) (places rooms labels current trail : List ℕ) (start goal : ℕ) → AreLinks l → ArePlaces l places → AreRooms l rooms
    → IsNode l.nodes start → IsNode l.nodes goal
    → AreSound l labels rooms (get_or labels start 0) → get_or labels start 0 ≤ l.nodes
    → IsWalking l labels rooms start goal current trail → end_of l start trail ≡ goal
    → IsLeastPath (steps_of (pairs_at l places rooms)) start goal (path_on l places rooms trail)
least-trail l places rooms labels current trail start goal links are fit node goal_is sound start_label walking ends =
    let path : List Step = path_on l places rooms trail in
    let walk = walk-path l rooms labels goal start trail
    (walk-trail l rooms labels goal places current links are fit walking.passed start trail walking.trail_is ends) in
    let on = λ (other : List Step) (leads : IsPath (steps_of (pairs_at l places rooms)) start goal other).
    links-of_path l places rooms goal start other links are leads in
    let count = λ (other : List Step) (leads : IsPath (steps_of (pairs_at l places rooms)) start goal other).
    sym (length-map (on other leads).on (step_on l places rooms)) ∙ ap length (on other leads).steps in
    let trail_count : length path ≡ length trail = length-map trail (step_on l places rooms) in
    let counts : List ℕ = sound.counts in
    let has : get_or labels start 0 ≢ no_label = λ none. omega (arith, none, start_label, links.at_most_nodes) in
    let at_start : get_or counts start 0 ≡ get_or labels start 0 = sound.filled_are start node has in
    let at_goal : get_or counts goal 0 ≡ get_or labels goal 0 = sound.filled_are goal goal_is
    (λ none. omega (arith, none, walk.1, start_label, links.at_most_nodes)) in
    let top : ℕ = get_or labels start 0 in
    record {
      leads = path-of_links l places rooms goal start trail links are fit node walk.0;
      shortest = λ other leads.
          let most = label-at_most l rooms counts goal top links sound.valid start (on other leads).on node (on other leads).leads in
          grind (arith, walk.1, trail_count, count other leads, at_start, at_goal, most);
      first = λ other leads same before.
          let between : AreSoundBetween l rooms labels start goal = record { sound = sound; start_label = start_label; low = omega (arith, walk.1) } in
          let found = walk-of_path l places rooms labels start goal other links are node goal_is between leads (omega (arith, walk.1, trail_count, same)) in
          none-before l rooms labels goal places current links are fit walking.passed start trail found.0.on node walking.trail_is found.1
          (subst (λ (p : List Step). ComesBefore (ranks p) (ranks path)) (sym found.0.steps) before);
    }
