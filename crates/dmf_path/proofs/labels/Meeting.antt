-- Two searches meet: what their labels say then, and that a path has no more links than there are nodes.
use Rattle.std.proofs.Common.{Bool, ℕ, ◌≡◌, ◌≢◌, ◌+◌, ◌≤◌, ◌<◌, ◌⊎◌, inl, inr, List, [], ◌∷◌, Option, None, length, get_or, set, replicate, map, suc, refl, ap, sym, ◌∙◌, arith}
use Rattle.std.proofs.Common.{◌==◌, cond}
use Rattle.std.proofs.lemmas.Bool.{cases_lt}
use Rattle.std.proofs.lemmas.Bool.Decides.{nat_tests}
use Rattle.std.proofs.lemmas.List.{get_or-replicate, length-replicate, length-set}
use Rattle.std.proofs.lemmas.List.Sums.{sum_by-cons}
use Rattle.dmf_node.specs.Node.{IsNode}
use Rattle.dmf_path.specs.Reach.{Reach, root_of}
use Rattle.dmf_path.specs.declared.residual.Residual.{Residual}
use Rattle.dmf_links.specs.Links.{Links, LiesAt, AreLinks, open_flag, tail_of}
use Rattle.dmf_links.specs.LinkTable.{links_of}
use Rattle.dmf_path.specs.Labels.{no_label, unlabelled_count, MarksLabelled, MarksUnlabelled}
use Rattle.dmf_path.specs.BothEnds.{AreLevels, AreNearing, HasMetAt, HaveGoneOn}
use Rattle.dmf_path.specs.Searching.{IsParted}
use Rattle.dmf_path.specs.Frontier.{AreSpread, IsAtRest, AreApart, MeetBeyond, next_label}
use Rattle.dmf_links.proofs.tables.LinkPlaces.{lies-partner}
use Rattle.dmf_path.proofs.labels.Labelling.{queued-at, labels-spread}
use Rattle.dmf_path.proofs.labels.Roots.{first-root}
use Rattle.dmf_path.proofs.labels.Spreading.{cases-set}
use Rattle.dmf_path.proofs.labels.Expanding.{level-first, level-labels}
use Rattle.dmf_path.proofs.paths.Reaching.{AreOpen-map, parted-unlabelled, parted-labelled}

-- Where a search goes on and meets another one, which is at rest on level `far` and comes over the same links from their other ends, the
-- node has that label of the latter.
sum-met : {l : Links} {a b roots : List ℕ} {root other near far : ℕ} {xs ys queue : List ℕ} {done : ℕ} (v : ℕ) → AreLinks l
    → ((p : ℕ) → p < length l.heads → get_or a p 0 ≡ 1 → get_or b (get_or l.partners p 0) 0 ≡ 1)
    → AreLevels l a root near xs → AreSpread l b roots ys queue done → AreLevels l b other far ys → done < length queue → IsAtRest ys queue done
    → get_or ys (get_or queue done 0) 0 ≡ far → MeetBeyond near xs ys → IsNode l.nodes v → near + far + 2 < no_label
    → get_or xs v 0 ≢ no_label → get_or ys v 0 ≢ no_label → get_or xs v 0 + get_or ys v 0 ≡ near + far + 1
sum-met {l = l} {root = root} {far = far} {xs = xs} {ys = ys} v are mirrored levels so_far behind ahead rest is beyond node small has_x has_y =
    let at = queued-at so_far v node has_y in
    let most = rest at.0 ahead at.1 in
    let label = beyond v (omega (arith, node.to_last, levels.one_each)) has_x has_y in
    let back = levels.backed v node (λ same. omega (arith, label, levels.root_is, ap (λ u. get_or xs u 0) same)) has_x in
    let tail = (are.each back.place back.within).tail in
    let lies : LiesAt l v (get_or l.partners back.place 0) = rw back.leads at (lies-partner l back.place are back.within) in
    elim (cases_lt (get_or ys v 0) far) [
      | inl before ↦
          let near_x = behind.near v (get_or l.partners back.place 0) node lies (mirrored back.place back.within back.opened) before in
          let both = beyond (tail_of l back.place) (omega (arith, tail.to_last, levels.one_each)) (λ none. omega (arith, none, back.label, label, small))
          (λ none. omega (arith, none, near_x, before, small)) in
          absurd (omega (arith, both, back.label, label))
      | inr last ↦ omega (arith, last, most, is, at.4, label)
    ]

-- ---- how long a path can be

one-of : (g s : ℕ) → (g ≡ no_label) ⊎ (s ≡ no_label) → 1 ≤ cond (g == no_label) 1 0 + cond (s == no_label) 1 0
one-of g s either = grind (arith, nat_tests)

-- In two lists of labels that are apart, at least as many numbers stand for no label as each list is long.
pub apart-count : (g s : List ℕ) → length g ≡ length s → AreApart g s → length g ≤ unlabelled_count g + unlabelled_count s
apart-count [] s long apart = omega arith
apart-count (x ∷ g) [] long apart = absurd (omega (arith, long))
apart-count (x ∷ g) (y ∷ s) long apart =
    let rest = apart-count g s (omega (arith, long)) (λ v within. apart (suc v) (omega (arith, within))) in
    let f : ℕ → ℕ = λ label. cond (label == no_label) 1 0 in
    omega (arith, rest, one-of x y (apart 0 (omega arith)), sum_by-cons f x g, sum_by-cons f y s)

-- the open links of the search from the start
abbrev opens_of : Residual → List ℕ
opens_of links = map open_flag links.rooms.items

-- A flag of the search from the goal is that of the opposite link in the search from the start.
flag-opposite : (links : Residual) (p : ℕ) → p < length (links_of links.table.value).heads
    → get_or links.flags.items p 0 ≡ get_or (opens_of links) (get_or (links_of links.table.value).partners p 0) 0
flag-opposite links p within =
    links.flags_are.1 p within
    ∙ sym (AreOpen-map (links_of links.table.value) links.rooms.items (opens_of links) links.rooms_are refl _ (links.table.value.are.each p within).partner)

module _ (links : Residual) (g s : Reach) (are : AreNearing links g s) (ahead_g : g.done < length g.queue) (ahead_s : s.done < length s.queue) where
  -- As long as both searches are apart, they queue no more nodes together than there are. So they have few levels.
  few-levels : next_label g + next_label s < links.table.value.nodes
  few-levels =
      let goal = are.goal_side in
      let start = are.start_side in
      let small = (goal.queued g.done ahead_g).small in
      let small_s = (start.queued s.done ahead_s).small in
      let apart = apart-count g.labels s.labels (goal.one_each ∙ sym start.one_each) are.apart in
      omega (arith, small, small_s, ahead_g, ahead_s, goal.counted, start.counted, goal.one_each, apart)

  -- Two searches have met if the labels of each node that has both add up to the length of a path across their two levels.
  has-met : {at : ℕ} (to_goal from_start : List ℕ) → AreLevels (links_of links.table.value) links.flags.items (root_of g) (next_label g) to_goal
      → AreLevels (links_of links.table.value) (opens_of links) (root_of s) (next_label s) from_start → IsNode links.table.value.nodes at
      → get_or to_goal at 0 ≢ no_label → get_or from_start at 0 ≢ no_label → ((v : ℕ) → IsNode links.table.value.nodes v → get_or to_goal v 0 ≢ no_label
      → get_or from_start v 0 ≢ no_label → get_or to_goal v 0 + get_or from_start v 0 ≡ next_label g + next_label s + 1)
      → HasMetAt (links_of links.table.value) links.flags.items (opens_of links) (root_of s) (root_of g) at to_goal from_start
  has-met to_goal from_start goal_side start_side node has_g has_s sum = record {
    near = next_label g;
    far = next_label s;
    goal_side = goal_side;
    start_side = start_side;
    met = record {
      node = node;
      goal_label = has_g;
      start_label = has_s;
      both = λ v is. grind (arith, sum v is);
    };
    long = few-levels;
  }

  -- The goal's side has met the start's.
  pub has-met_goal : {at : ℕ} {new : List ℕ} → AreLevels (links_of links.table.value) links.flags.items (root_of g) (next_label g) new
      → MeetBeyond (next_label g) new s.labels → IsNode links.table.value.nodes at → get_or new at 0 ≢ no_label → get_or s.labels at 0 ≢ no_label
      → HasMetAt (links_of links.table.value) links.flags.items (opens_of links) (root_of s) (root_of g) at new s.labels
  has-met_goal {new = new} levels beyond node has_g has_s =
      let whole = links.table.value.are in
      let side = level-labels whole (level-first are.start_side ahead_s are.start_rest refl) are.start.alone in
      has-met new s.labels levels side node has_g has_s
      (λ v is. sum-met v whole (λ p within one. sym (flag-opposite links p within) ∙ one) levels are.start_side side ahead_s are.start_rest refl beyond is
      (omega (arith, few-levels, whole.at_most_nodes)))

  -- The start's side has met the goal's.
  pub has-met_start : {at : ℕ} {new : List ℕ} → AreLevels (links_of links.table.value) (opens_of links) (root_of s) (next_label s) new
      → MeetBeyond (next_label s) new g.labels → IsNode links.table.value.nodes at → get_or new at 0 ≢ no_label → get_or g.labels at 0 ≢ no_label
      → HasMetAt (links_of links.table.value) links.flags.items (opens_of links) (root_of s) (root_of g) at g.labels new
  has-met_start {new = new} levels beyond node has_s has_g =
      let whole = links.table.value.are in
      let side = level-labels whole (level-first are.goal_side ahead_g are.goal_rest refl) are.goal.alone in
      has-met g.labels new side levels node has_g has_s (λ v is has_x has_y.
      let sum = sum-met v whole (λ p within one.
      let link = whole.each p within in
      flag-opposite links _ link.partner ∙ ap (λ q. get_or (opens_of links) q 0) link.partner_back ∙ one)
      levels are.goal_side side ahead_g are.goal_rest refl beyond is (omega (arith, few-levels, whole.at_most_nodes)) has_y has_x in
      omega (arith, sum))

-- ---- the beginning

-- A search that begins is at rest,
pub begun-rest : (root : ℕ) (labels : List ℕ) → IsAtRest (set labels root 0) (root ∷ []) 0
begun-rest root labels j ahead within = let first : j ≡ 0 = omega (arith, within) in rw first (omega arith)

-- and two that begin at two nodes are apart.
pub begun-apart : (n goal start : ℕ) → start ≢ goal → goal < n → start < n → AreApart (set (replicate n no_label) goal 0) (set (replicate n no_label) start 0)
begun-apart n goal start apart below_goal below_start v within =
    let none : List ℕ = replicate n no_label in
    let long : length none ≡ n = length-replicate n no_label in
    let unset : get_or none v 0 ≡ no_label = get_or-replicate n v no_label 0 (omega (arith, within, length-set none goal 0, long)) in
    elim (cases-set none goal v 0 (omega (arith, below_goal, long))) [
      | inr other ↦ inl (other.1 ∙ unset)
      | inl here ↦ elim (cases-set none start v 0 (omega (arith, below_start, long))) [
        | inr other ↦ inr (other.1 ∙ unset)
        | inl too ↦ absurd (apart (sym too.0 ∙ here.0))
      ]
    ]

-- ---- one level after the other

-- Two searches that have not met are as far as they are,
pub on-from : {links : Residual} {g s : Reach} → AreNearing links g s → HaveGoneOn links g s g s None
on-from are = record {
  goal_side = are.goal_side;
  start_side = are.start_side;
  met = λ v none. absurd (cc);
  goal_roots = refl;
  start_roots = refl;
}

-- and where they have gone on and go on again, they have gone on.
pub on-again : {links : Residual} {g s a b c d : Reach} {at : Option ℕ} → HaveGoneOn links g s a b None → HaveGoneOn links a b c d at
    → HaveGoneOn links g s c d at
on-again on next = record {
  goal_side = next.goal_side;
  start_side = next.start_side;
  met = rw (← on.goal_roots, ← on.start_roots) next.met;
  goal_roots = next.goal_roots ∙ on.goal_roots;
  start_roots = next.start_roots ∙ on.start_roots;
}

-- ---- no path is left

module _ {links : Residual} {g s : Reach} (are : AreNearing links g s) where
  -- All nodes that lead to the goal have labels, and the start has none.
  pub goal-used_up : length g.queue ≤ g.done → (marks : List Bool) → MarksUnlabelled g.labels marks
      → IsParted (links_of links.table.value) links.rooms.items (root_of s) (root_of g) marks
  goal-used_up all marks marked =
      let side = are.goal_side in
      let whole = links.table.value.are in
      let root : ℕ = root_of s in
      let has = are.start_side.roots_are root (rw are.start.alone (first-root root)) in
      let unset : get_or g.labels root 0 ≡ no_label = omega (arith, are.apart root (omega (arith, are.start.node.to_last, side.one_each)), has) in
      parted-unlabelled links.rooms.items links.flags.items whole links.flags_are
      (rw are.goal.alone at (labels-spread side root whole are.start.node.to_last (inl (omega (arith, all, side.come))))) unset unset marks marked

  -- All nodes to which the start leads have labels, and the goal has none.
  pub start-used_up : length s.queue ≤ s.done → (marks : List Bool) → MarksLabelled s.labels marks
      → IsParted (links_of links.table.value) links.rooms.items (root_of s) (root_of g) marks
  start-used_up all marks marked =
      let side = are.start_side in
      let whole = links.table.value.are in
      let root : ℕ = root_of g in
      let has = are.goal_side.roots_are root (rw are.goal.alone (first-root root)) in
      let either = are.apart root (omega (arith, are.goal.node.to_last, are.goal_side.one_each)) in
      parted-labelled links.rooms.items whole (AreOpen-map (links_of links.table.value) links.rooms.items (opens_of links) links.rooms_are refl)
      (rw are.start.alone at (labels-spread side root whole are.goal.node.to_last (inl (omega (arith, all, side.come))))) (omega (arith, either, has)) marks marked
