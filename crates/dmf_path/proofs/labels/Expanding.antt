-- A level of a breadth-first search is expanded, node by node.
use Rattle.std.proofs.Common.{ℕ, ◌≡◌, ◌≢◌, ◌+◌, ◌-◌, ◌≤◌, ◌<◌, take, drop, inl, inr, List, [], ◌∷◌, length, get_or, refl, ap, sym, ◌∙◌, arith, Contains}
use Rattle.std.proofs.lemmas.Bool.{cases_eq, cases_lt}
use Rattle.std.proofs.lemmas.List.{get_or_append_left, get_or_default, get_or-append_right, length-append, length-drop, take_all}
use Rattle.dmf_links.specs.Links.{Links, AreLinks}
use Rattle.dmf_path.specs.Labels.{no_label}
use Rattle.dmf_path.specs.BothEnds.{AreLevels}
use Rattle.dmf_path.specs.Frontier.{AreSpread, Expands, IsAtRest, AreApart, MeetBeyond}
use Rattle.dmf_path.proofs.labels.Labelling.{queue-short, queued-at, label-below}
use Rattle.dmf_path.proofs.labels.Roots.{first-root, one-root}

-- The nodes of a level are expanded in turn. The waiting nodes are on that level or one beyond it, and no other node is further.
pub record IsLevel (l : Links) (opens roots : List ℕ) (level : ℕ) (labels queue : List ℕ) (done : ℕ) : Type 0 where
  pub so_far : AreSpread l opens roots labels queue done
  pub from : (k : ℕ) → done ≤ k → k < length queue → level ≤ get_or labels (get_or queue k 0) 0
  pub most : (j : ℕ) → j < length queue → get_or labels (get_or queue j 0) 0 ≤ level + 1
  pub small : level < l.nodes

-- A search at rest is at the beginning of a level.
pub level-first : {l : Links} {opens roots : List ℕ} {level : ℕ} {labels queue : List ℕ} {done : ℕ} → AreSpread l opens roots labels queue done
    → done < length queue → IsAtRest labels queue done → get_or labels (get_or queue done 0) 0 ≡ level → IsLevel l opens roots level labels queue done
level-first {done = done} so_far ahead rest is = record {
  small = omega (arith, (so_far.queued done ahead).small, ahead, queue-short so_far, is);
  so_far = so_far;
  from = λ k after within. omega (arith, so_far.ascending done k after within, is);
  most = λ j within. omega (arith, rest j ahead within, is);
}

-- A level stays one where its next node is expanded.
pub level-next : {l : Links} {opens roots : List ℕ} {level : ℕ} {labels queue : List ℕ} {done : ℕ} {new after : List ℕ} → AreLinks l
    → IsLevel l opens roots level labels queue done → done < length queue → get_or labels (get_or queue done 0) 0 ≡ level
    → AreSpread l opens roots new after (done + 1) → Expands l opens labels queue done new after → IsLevel l opens roots level new after (done + 1)
level-next {queue = queue} {done = done} {new = new} are so_far ahead is next expands =
    let same = ap (λ q. get_or q done 0) expands.queued ∙ get_or_append_left queue expands.fresh 0 done ahead in
    let below = label-below so_far.so_far done are ahead in
    let kept = ap (λ v. get_or new v 0) same ∙ expands.spreads.kept (get_or queue done 0) (omega (arith, below)) in
    let long = ap length expands.queued ∙ length-append queue expands.fresh in
    record {
      small = so_far.small;
      so_far = next;
      from = λ k behind within. omega (arith, next.ascending done k (omega (arith, behind)) within, kept, is);
      most = λ j within. omega (arith, next.close done j (omega arith) (omega (arith, long, ahead)) within, kept, is);
    }

-- All nodes up to the level have labels.
pub level-labels : {l : Links} {opens roots : List ℕ} {root level : ℕ} {labels queue : List ℕ} {done : ℕ} → AreLinks l
    → IsLevel l opens roots level labels queue done → roots ≡ root ∷ [] → AreLevels l opens root level labels
level-labels {root = root} {labels = labels} {done = done} are so_far alone =
    let spread = so_far.so_far in
    record {
      one_each = spread.one_each;
      root_is = spread.roots_are root (rw alone (first-root root));
      small = λ v node. elim (cases_eq (get_or labels v 0) no_label) [
        | inl none ↦ inl none
        | inr has ↦ let at = queued-at spread v node has in inr (omega (arith, so_far.most at.0 at.1, at.4))
      ];
      near = λ v p node lies opened below. elim (cases_eq (get_or labels v 0) no_label) [
        | inl none ↦ absurd (omega (arith, none, below, so_far.small, are.at_most_nodes))
        | inr has ↦
            let at = queued-at spread v node has in
            elim (cases_lt at.0 done) [
              | inl before ↦ omega (arith, at.4, spread.scanned at.0 p before (rw at.2 lies) opened)
              | inr behind ↦ absurd (omega (arith, at.4, below, so_far.from at.0 behind at.1))
            ]
      ];
      backed = λ v node other. spread.backed v node (λ among. other (one-root (rw alone at among)));
    }

-- A turn, beside another search.
module _ {l : Links} {opens labels queue : List ℕ} {done : ℕ} {new after : List ℕ} (others : List ℕ) (expands : Expands l opens labels queue done new after)
    (apart : AreApart labels others) (long : length new ≡ length labels) where
  -- A node that has labels of both searches then has one from this turn.
  met-given : (v : ℕ) → v < length new → get_or new v 0 ≢ no_label → get_or others v 0 ≢ no_label → Contains expands.fresh v
  met-given v within has other = elim (apart v (omega arith)) [ inl none ↦ expands.spreads.listed v (omega arith) none has | inr none ↦ absurd (other none) ]

  -- Where that meets another search, it does so one beyond the level.
  pub beyond-next : {level : ℕ} → get_or labels (get_or queue done 0) 0 ≡ level → MeetBeyond level new others
  beyond-next is v within has other = omega (arith, expands.spreads.labelled v (met-given v within has other), is)

  -- If no node that a turn queues has a label of the other search, the searches are still apart.
  pub apart-next : ((i : ℕ) → i < length after - length queue → get_or others (get_or after (length queue + i) 0) 0 ≡ no_label) → AreApart new others
  apart-next none v within = elim (cases_eq (get_or new v 0) no_label) [
    | inl unset ↦ inl unset
    | inr has ↦ elim (cases_eq (get_or others v 0) no_label) [
      | inl unset ↦ inr unset
      | inr other ↦
          let given = met-given v within has other in
          let i = length queue + given.0 in
          let place : i - length queue ≡ given.0 = omega arith in
          let at = ap (λ q. get_or q i 0) expands.queued ∙ get_or-append_right queue expands.fresh (length queue) i 0 refl (omega arith)
          ∙ ap (λ k. get_or expands.fresh k 0) place ∙ get_or_default expands.fresh given.0 0 v given.1 ∙ given.2 in
          inr (ap (λ u. get_or others u 0) (sym at) ∙ none given.0 (omega (arith, given.1, ap length expands.queued, length-append queue expands.fresh)))
    ]
  ]

-- Where no node has labels of both searches, none that has is anywhere else.
pub apart-beyond : (level : ℕ) (labels others : List ℕ) → AreApart labels others → MeetBeyond level labels others
apart-beyond level labels others apart v within has other = elim (apart v within) [ inl none ↦ absurd (has none) | inr none ↦ absurd (other none) ]

-- The slice of the queue from a place on is what stands there.
pub behind-is : (queue : List ℕ) (before : ℕ) → take (length queue - before) (drop before queue) ≡ drop before queue
behind-is queue before = take_all (length queue - before) (drop before queue) (omega (arith, length-drop before queue))
