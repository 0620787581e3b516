-- Labels with a level for each node without one: a walk along these counts is a walk along the labels, and pushes keep both facts.
use Rattle.std.proofs.Common.{ℕ, ◌≡◌, ◌≢◌, inl, inr, List, [], ◌∷◌, get_or, arith}
use Rattle.std.proofs.lemmas.Bool.{cases_eq}
use Rattle.dmf_node.specs.Node.{IsNode}
use Rattle.dmf_links.specs.Links.{Links, AreLinks}
use Rattle.dmf_path.specs.Labels.{no_label}
use Rattle.dmf_path.specs.Walk.{IsWalk}
use Rattle.dmf_path.specs.BothEnds.{IsGated, AreSmall, AreSound}
use Rattle.dmf_links.proofs.tables.LinkPlaces.{lies-within}
use Rattle.dmf_path.proofs.rooms.Pushed.{OpensUpwards, AreValid-opens}

-- The node with a label counts as that.
abbrev pub AreCounted : ℕ → List ℕ → List ℕ → Type 0
AreCounted nodes labels counts = (v : ℕ) → IsNode nodes v → get_or labels v 0 ≢ no_label → get_or counts v 0 ≡ get_or labels v 0

-- A walk along the counts is a walk along the labels, if it begins at a node with a label.
pub walk-labels : (l : Links) (labels rooms counts : List ℕ) (goal v : ℕ) (ps : List ℕ) → AreLinks l → AreCounted l.nodes labels counts
    → IsGated l labels rooms counts → IsNode l.nodes v → get_or labels v 0 ≢ no_label → IsWalk l counts rooms goal v ps
    → IsWalk l labels rooms goal v ps
walk-labels l labels rooms counts goal v [] links filled gated node has walk = walk
walk-labels l labels rooms counts goal v (p ∷ ps) links filled gated node has walk =
    let head_is = (links.each p (lies-within l v p links node walk.0.lies)).head in
    let head : ℕ = get_or l.heads p 0 in
    let is = filled v node has in
    elim (cases_eq (get_or labels head 0) no_label) [
      | inl none ↦ absurd (gated v p node walk.0.lies walk.0.room (omega (arith, walk.0.falls, is)) none)
      | inr there ↦ (
        record { lies = walk.0.lies; room = walk.0.room; falls = omega (arith, walk.0.falls, is, filled head head_is there) },
        walk-labels l labels rooms counts goal head ps links filled gated head_is there walk.1,
      )
    ]

-- ---- what a push keeps

module _ (l : Links) (labels old new : List ℕ) (links : AreLinks l) (small : AreSmall l.nodes labels) (opens : OpensUpwards l labels old new) where
  -- Both ends of a link that gets room have labels.
  opens-counts : (counts : List ℕ) → AreCounted l.nodes labels counts → OpensUpwards l counts old new
  opens-counts counts filled v p node lies room = elim (opens v p node lies room) [
    | inl had ↦ inl had
    | inr up ↦
        let head : ℕ = get_or l.heads p 0 in
        let head_is = (links.each p (lies-within l v p links node lies)).head in
        let here : get_or labels v 0 ≢ no_label = λ none. omega (arith, none, up, small.1 head head_is, links.at_most_nodes) in
        let there : get_or labels head 0 ≢ no_label = λ none. omega (arith, none, up, small.1 v node, links.at_most_nodes) in
        inr (omega (arith, up, filled v node here, filled head head_is there))
  ]

  gated-opens : (counts : List ℕ) → AreCounted l.nodes labels counts → IsGated l labels old counts → IsGated l labels new counts
  gated-opens counts filled gated v p node lies room is = elim (opens v p node lies room) [
    | inl had ↦ gated v p node lies had is
    | inr up ↦ λ none. omega (arith, none, up, small.1 v node, links.at_most_nodes)
  ]

-- Labels stay sound.
pub sound-opens : (l : Links) (labels old new : List ℕ) (top : ℕ) → AreLinks l → OpensUpwards l labels old new → AreSound l labels old top
    → AreSound l labels new top
sound-opens l labels old new top links opens sound = record {
  counts = sound.counts;
  small = sound.small;
  filled_are = sound.filled_are;
  valid = AreValid-opens l sound.counts old new top (opens-counts l labels old new links sound.small opens sound.counts sound.filled_are) sound.valid;
  gated = gated-opens l labels old new links sound.small opens sound.counts sound.filled_are sound.gated;
}
