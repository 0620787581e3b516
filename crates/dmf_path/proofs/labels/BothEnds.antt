-- After two searches have met, their joined labels are valid, and a walk leads from the start to the goal.
use Rattle.std.proofs.Common.{ℕ, ◌≡◌, ◌≢◌, ◌+◌, ◌-◌, ◌<◌, ◌≤◌, ◌⊎◌, List, ◌∷◌, get_or, zero, suc, inl, inr, ap, refl, sym, subst, ◌∙◌, arith}
use Rattle.std.proofs.lemmas.Bool.{cases_eq, ne_eqb, eq-eqb}
use Rattle.std.proofs.lemmas.Bool.Decides.{nat_tests}
use Rattle.std.proofs.lemmas.List.{get_or-map}
use Rattle.dmf_node.specs.Node.{IsNode}
use Rattle.dmf_links.specs.Links.{Links, LiesAt, AreLinks, AreFlags, tail_of}
use Rattle.dmf_path.specs.Labels.{no_label}
use Rattle.dmf_path.specs.Walk.{IsWalk, AreValid}
use Rattle.dmf_path.specs.BothEnds.{AreLevels, HaveMet, HasMetAt, AreJoined, IsLabelled, joined_label, filled_label, filled}
use Rattle.dmf_links.proofs.tables.LinkPlaces.{lies-within}
use Rattle.dmf_links.proofs.rooms.Flags.{room-of_flag, flag-of_room}
use Rattle.dmf_path.proofs.labels.Labelled.{opposite, walk-down}
use Rattle.dmf_path.proofs.paths.Reaching.{AreOpen}

-- The labels `g` and `s` of a node: their bounds where they are labels, and their sum.
record AreNear (near far g s : ℕ) : Type 0 where
  goal : (g ≡ no_label) ⊎ (g ≤ near + 1)
  start : (s ≡ no_label) ⊎ (s ≤ far + 1)
  both : (g ≡ no_label) ⊎ ((s ≡ no_label) ⊎ (g + s ≡ near + far + 1))

-- the joined label of a node that has a label of the goal's side
joined-goal : (long g s : ℕ) → g ≢ no_label → joined_label long g s ≡ g
joined-goal long g s other = rw (ne_eqb g no_label other) refl

-- and of a node that has a label of the start's side, with or without one of the goal's
joined-both : (long g s : ℕ) → s ≢ no_label → (g ≡ no_label) ⊎ ((s ≡ no_label) ⊎ (g + s ≡ long)) → joined_label long g s ≡ long - s
joined-both long g s has both = grind (arith, nat_tests)

filled-has : (beyond label : ℕ) → label ≢ no_label → filled_label beyond label ≡ label
filled-has beyond label has = rw (ne_eqb label no_label has) refl

filled-none : (beyond label : ℕ) → label ≡ no_label → filled_label beyond label ≡ beyond
filled-none beyond label none = rw (eq-eqb label no_label none) refl

small-near : (near far g s nodes : ℕ) → near + far < nodes → AreNear near far g s
    → (joined_label (near + far + 1) g s ≡ no_label) ⊎ (joined_label (near + far + 1) g s ≤ nodes)
small-near near far g s nodes few is = grind (arith, nat_tests)

-- No step falls by more than one label.
falls-by_one : (near far gv sv gw sw : ℕ) → near + far + 2 < no_label → AreNear near far gv sv → AreNear near far gw sw → (gw < near → gv ≤ gw + 1)
    → (sv < far → sw ≤ sv + 1)
    → filled_label (near + 1) (joined_label (near + far + 1) gv sv) ≤ filled_label (near + 1) (joined_label (near + far + 1) gw sw) + 1
falls-by_one near far gv sv gw sw small v w on_goal on_start = grind (arith, nat_tests)

-- From a node whose joined label is one more than the label of a node without one, each step leads to a node with a label.
closed-joined : (near far gv sv gw sw : ℕ) → near + far + 2 < no_label → AreNear near far gv sv → AreNear near far gw sw → (sv < far → sw ≤ sv + 1)
    → joined_label (near + far + 1) gv sv ≡ near + 2 → joined_label (near + far + 1) gw sw ≢ no_label
closed-joined near far gv sv gw sw small v w on_start is = grind (arith, nat_tests)

-- the length of a shortest path, after the searches have met
pub met-sum : {nodes near far at : ℕ} {g s : List ℕ} → HaveMet nodes near far at g s → get_or g at 0 + get_or s at 0 ≡ near + far + 1
met-sum {at = at} met = omega (arith, met.goal_label, met.start_label, met.both at met.node)

-- Two searches over the links with room have met: one backwards from the goal, by flags, one forwards from the start.
module _ {l : Links} (rooms flags : List ℕ) {opens : List ℕ} {start goal near far at : ℕ} {g s labels : List ℕ} (links : AreLinks l)
    (flagged : AreFlags l rooms flags) (opened : AreOpen l rooms opens) (goal_side : AreLevels l flags goal near g)
    (start_side : AreLevels l opens start far s) (met : HaveMet l.nodes near far at g s) (joined : AreJoined (near + far + 1) g s labels)
    (few : near + far < l.nodes) where
  small : near + far + 2 < no_label
  small = omega (arith, few, links.at_most_nodes)

  near-of : (v : ℕ) → IsNode l.nodes v → AreNear near far (get_or g v 0) (get_or s v 0)
  near-of v node = record { goal = goal_side.small v node; start = start_side.small v node; both = met.both v node }

  label-of : (v : ℕ) → IsNode l.nodes v → get_or labels v 0 ≡ joined_label (near + far + 1) (get_or g v 0) (get_or s v 0)
  label-of v node = joined.each v (omega (arith, node.to_last, joined.one_each, goal_side.one_each))

  -- the label of a node that has one of the goal's side, and of one that has one of the start's side
  label-goal : (v : ℕ) → IsNode l.nodes v → get_or g v 0 ≢ no_label → get_or labels v 0 ≡ get_or g v 0
  label-goal v node has = label-of v node ∙ joined-goal (near + far + 1) (get_or g v 0) (get_or s v 0) has

  label-start : (v : ℕ) → IsNode l.nodes v → get_or s v 0 ≢ no_label → get_or labels v 0 ≡ near + far + 1 - get_or s v 0
  label-start v node has = label-of v node ∙ joined-both (near + far + 1) (get_or g v 0) (get_or s v 0) has (met.both v node)

  filled-of : (v : ℕ) → IsNode l.nodes v
      → get_or (filled (near + 1) labels) v 0 ≡ filled_label (near + 1) (joined_label (near + far + 1) (get_or g v 0) (get_or s v 0))
  filled-of v node =
      get_or-map (filled_label (near + 1)) labels v 0 0 (omega (arith, node.to_last, joined.one_each, goal_side.one_each))
      ∙ ap (filled_label (near + 1)) (label-of v node)

  -- what a link with room says about the labels of the goal's side
  near-goal : (v p : ℕ) → IsNode l.nodes v → LiesAt l v p → 0 < get_or rooms p 0 → get_or g (get_or l.heads p 0) 0 < near
      → get_or g v 0 ≤ get_or g (get_or l.heads p 0) 0 + 1
  near-goal v p node lies room below =
      let other = opposite rooms flags links flagged (record { is_node = node; lies = lies; leads = refl; room = room }) in
      omega (arith, goal_side.near _ _ (links.each p (lies-within l v p links node lies)).head other.lies other.flag below, ap (λ u. get_or g u 0) other.head)

  -- and about the labels of the start's side
  near-start : (v p : ℕ) → IsNode l.nodes v → LiesAt l v p → 0 < get_or rooms p 0 → get_or s v 0 < far → get_or s (get_or l.heads p 0) 0 ≤ get_or s v 0 + 1
  near-start v p node lies room =
      start_side.near v p node lies (opened p (lies-within l v p links node lies) ∙ flag-of_room (get_or rooms p 0) room)

  -- The joined labels are valid, where a node without one counts as one level beyond the goal's side.
  valid-joined : (top : ℕ) → AreValid l (filled (near + 1) labels) rooms top
  valid-joined top v p node lies room below =
      let head : ℕ = get_or l.heads p 0 in
      let head_is = (links.each p (lies-within l v p links node lies)).head in
      let falls = falls-by_one near far (get_or g v 0) (get_or s v 0) (get_or g head 0) (get_or s head 0) small (near-of v node) (near-of head head_is)
      (near-goal v p node lies room) (near-start v p node lies room) in
      omega (arith, falls, filled-of v node, filled-of head head_is)

  -- From a node that has a label of the goal's side a walk leads to the goal.
  walk-goal : (v : ℕ) → IsNode l.nodes v → get_or g v 0 ≢ no_label → (ps : List ℕ) × IsWalk l labels rooms goal v ps
  walk-goal v = walk-down rooms flags g labels links flagged goal_side.backed (λ u node. omega (arith, small, goal_side.small u node)) label-goal
      (get_or g v 0 + 1) v (omega arith)

  -- If a walk leads to the goal from a node whose joined label is its label of the start's side, one leads from the start.
  walk-start : (n v : ℕ) (ps : List ℕ) → get_or s v 0 < n → IsNode l.nodes v → get_or s v 0 ≢ no_label → IsWalk l labels rooms goal v ps
      → (qs : List ℕ) × IsWalk l labels rooms goal start qs
  walk-start zero v ps low node has walk = absurd (omega (arith, low))
  walk-start (suc n) v ps low node has walk = elim (cases_eq v start) [
    | inl here ↦ (ps, subst (λ u. IsWalk l labels rooms goal u ps) here walk)
    | inr other ↦
        let back = start_side.backed v node other has in
        let p : ℕ = back.place in
        let x : ℕ = tail_of l p in
        let link = links.each p back.within in
        let room : 0 < get_or rooms p 0 = room-of_flag (get_or rooms p 0) (sym (opened p back.within) ∙ back.opened) in
        let set : get_or s x 0 ≢ no_label = λ unset. omega (arith, unset, has, back.label, start_side.small v node, small) in
        let head = ap (λ u. get_or labels u 0) back.leads in
        let falls : get_or labels (get_or l.heads p 0) 0 + 1 ≡ get_or labels x 0 =
        omega (arith, head, label-start v node has, label-start x link.tail set, back.label, start_side.small v node) in
        walk-start n x (p ∷ ps) (omega (arith, low, back.label)) link.tail set (record { lies = link.lies; room = room; falls = falls }, rw back.leads walk)
  ]

  -- The start has a label.
  labelled-joined : IsNode l.nodes start → IsNode l.nodes goal → IsLabelled l rooms labels start goal
  labelled-joined start_is goal_is =
      let to_goal = walk-goal at met.node met.goal_label in
      let first = label-start start start_is (λ none. omega (arith, none, start_side.root_is)) in
      let last = label-goal goal goal_is (λ none. omega (arith, none, goal_side.root_is)) in
      record {
        sound = record {
          counts = filled (near + 1) labels;
          small = (
            joined.one_each ∙ goal_side.one_each,
            λ v node. rw (label-of v node)
                (small-near near far (get_or g v 0) (get_or s v 0) l.nodes few (near-of v node)),
          );
          filled_are = λ v node has. filled-of v node ∙ ap (filled_label (near + 1)) (sym (label-of v node)) ∙ filled-has (near + 1) (get_or labels v 0) has;
          valid = valid-joined (get_or labels start 0);
          gated = λ v p node lies room label none.
              let head : ℕ = get_or l.heads p 0 in
              let head_is = (links.each p (lies-within l v p links node lies)).head in
              let level : get_or (filled (near + 1) labels) head 0 ≡ near + 1 =
              filled-of head head_is ∙ ap (filled_label (near + 1)) (sym (label-of head head_is)) ∙ filled-none (near + 1) (get_or labels head 0) none in
              (closed-joined near far (get_or g v 0) (get_or s v 0) (get_or g head 0) (get_or s head 0) small (near-of v node)
              (near-of head head_is) (near-start v p node lies room) (omega (arith, label, level, label-of v node))) (sym (label-of head head_is) ∙ none);
        };
        start_label = omega (arith, first, few);
        walk = walk-start (get_or s at 0 + 1) at to_goal.0 (omega arith) met.node met.start_label to_goal.1;
      }

-- After two searches have met, the start has a joined label.
pub labelled-met : {l : Links} (rooms flags : List ℕ) {opens : List ℕ} {start goal at long : ℕ} {g s labels : List ℕ} → AreLinks l → AreFlags l rooms flags
    → AreOpen l rooms opens → IsNode l.nodes start → IsNode l.nodes goal
    → HasMetAt l flags opens start goal at g s → long ≡ get_or g at 0 + get_or s at 0 → AreJoined long g s labels → IsLabelled l rooms labels start goal
labelled-met rooms flags {g = g} {s = s} {labels = labels} links flagged opened start_is goal_is met sum joined =
    let is = sum ∙ met-sum met.met in
    labelled-joined rooms flags links flagged opened met.goal_side met.start_side met.met (rw is at joined) met.long start_is goal_is
