-- What labels found backwards from the goal say about links with room: no link falls by more than one, and from each node with a label
-- a walk leads to the goal.
use Rattle.std.proofs.Common.{ℕ, ◌≡◌, ◌≢◌, ◌+◌, ◌<◌, ◌≤◌, inl, inr, List, [], ◌∷◌, length, get_or, zero, suc, ap, sym, refl, ◌∙◌, arith}
use Rattle.std.proofs.lemmas.Bool.{cases_eq}
use Rattle.dmf_node.specs.Node.{IsNode}
use Rattle.dmf_links.specs.Links.{Links, LiesAt, AreLinks, AreFlags, open_flag, tail_of}
use Rattle.dmf_path.specs.Labels.{no_label, AreLabels, IsBacked}
use Rattle.dmf_path.specs.Walk.{IsWalk, AreValid}
use Rattle.dmf_path.specs.BothEnds.{AreSmall, AreSound, AreWhole, IsLabelled}
use Rattle.dmf_links.proofs.tables.LinkPlaces.{lies-within, lies-partner}
use Rattle.dmf_links.proofs.rooms.Flags.{room-of_flag, flag-of_room}
use Rattle.dmf_path.proofs.labels.Roots.{one-root}

-- The link at place `p` has room, and leads from node `v` to this node.
pub record LeadsTo (l : Links) (rooms : List ℕ) (node v p : ℕ) : Type 0 where
  pub is_node : IsNode l.nodes v
  pub lies : LiesAt l v p
  pub leads : get_or l.heads p 0 ≡ node
  pub room : 0 < get_or rooms p 0

-- the opposite of such a link
pub record IsOpposite (l : Links) (flags : List ℕ) (node v p q : ℕ) : Type 0 where
  pub lies : LiesAt l node q
  pub flag : get_or flags q 0 ≡ 1
  pub head : get_or l.heads q 0 ≡ v
  pub back : get_or l.partners q 0 ≡ p

-- The opposite of a link that leads to a node lies there.
pub opposite : {l : Links} (rooms flags : List ℕ) {node v p : ℕ} → AreLinks l → AreFlags l rooms flags → LeadsTo l rooms node v p
    → IsOpposite l flags node v p (get_or l.partners p 0)
opposite {l = l} rooms flags {v = v} {p = p} links flagged leads =
    let within : p < length l.heads = lies-within l v p links leads.is_node leads.lies in
    let link = links.each p within in
    record {
      lies = rw leads.leads at (lies-partner l p links within);
      flag = flagged.1 _ link.partner ∙ ap (λ r. open_flag (get_or rooms r 0)) link.partner_back ∙ flag-of_room (get_or rooms p 0) leads.room;
      head = links.at_tail v p leads.is_node leads.lies;
      back = link.partner_back;
    }

-- If each node with a label in `lower` is backed by a link from a node whose label is lower by one, a walk leads from it to the goal,
-- along all labels that are the same there.
pub walk-down : {l : Links} (rooms flags lower labels : List ℕ) {goal : ℕ} → AreLinks l → AreFlags l rooms flags
    → ((v : ℕ) → IsNode l.nodes v → v ≢ goal → get_or lower v 0 ≢ no_label → IsBacked l flags lower v)
    → ((v : ℕ) → IsNode l.nodes v → get_or lower v 0 ≤ no_label)
    → ((v : ℕ) → IsNode l.nodes v → get_or lower v 0 ≢ no_label → get_or labels v 0 ≡ get_or lower v 0)
    → (n v : ℕ) → get_or lower v 0 < n → IsNode l.nodes v → get_or lower v 0 ≢ no_label → (ps : List ℕ) × IsWalk l labels rooms goal v ps
walk-down rooms flags lower labels links flagged backed most same zero v low node has = absurd (omega (arith, low))
walk-down {l = l} rooms flags lower labels {goal = goal} links flagged backed most same (suc n) v low node has = elim (cases_eq v goal) [
  | inl here ↦ ([], here)
  | inr other ↦
      let back = backed v node other has in
      let tail = (links.each back.place back.within).tail in
      let x : ℕ = tail_of l back.place in
      let p : ℕ = get_or l.partners back.place 0 in
      let lies : LiesAt l v p = rw back.leads at (lies-partner l back.place links back.within) in
      let room : 0 < get_or rooms p 0 = room-of_flag (get_or rooms p 0) (sym (flagged.1 back.place back.within) ∙ back.opened) in
      let set : get_or lower x 0 ≢ no_label = λ none. omega (arith, none, most v node, back.label) in
      let on = walk-down rooms flags lower labels links flagged backed most same n x (omega (arith, low, back.label)) tail set in
      (p ∷ on.0, (record { lies = lies; room = room; falls = omega (arith, same v node has, same x tail set, back.label) }, on.1))
]

-- Labels that are valid without being filled are sound.
sound-valid : (l : Links) (labels rooms : List ℕ) (top : ℕ) → AreLinks l → AreSmall l.nodes labels → AreValid l labels rooms top → AreSound l labels rooms top
sound-valid l labels rooms top links small valid = record {
  counts = labels;
  small = small;
  filled_are = λ v is has. refl;
  valid = valid;
  gated = λ v p is lies room label none. omega (arith, label, none, small.1 v is, links.at_most_nodes);
}

-- Labels that are whole are sound.
pub sound-whole : (l : Links) (labels rooms : List ℕ) → AreLinks l → AreWhole l labels rooms → AreSound l labels rooms no_label
sound-whole l labels rooms links whole = sound-valid l labels rooms no_label links whole.small whole.valid

-- Labels that are sound below a label are sound below each smaller one.
pub sound-below : (l : Links) (labels rooms : List ℕ) (low top : ℕ) → low ≤ top → AreSound l labels rooms top → AreSound l labels rooms low
sound-below l labels rooms low top less sound = record {
  counts = sound.counts;
  small = sound.small;
  filled_are = sound.filled_are;
  valid = λ v p node lies room below. sound.valid v p node lies room (omega (arith, below, less));
  gated = sound.gated;
}

-- Labels found backwards from the goal.
module _ {l : Links} (rooms flags : List ℕ) {labels : List ℕ} {stop goal : ℕ} (links : AreLinks l) (flagged : AreFlags l rooms flags)
    (labelled : AreLabels l flags goal stop labels) where
  -- No link with room falls by more than one.
  pub valid-labelled : AreValid l labels rooms (get_or labels stop 0)
  valid-labelled v p node lies room below =
      let other = opposite rooms flags links flagged (record { is_node = node; lies = lies; leads = refl; room = room }) in
      let head = (links.each p (lies-within l v p links node lies)).head in
      omega (arith, labelled.near _ _ head other.lies other.flag below, ap (λ u. get_or labels u 0) other.head)

  small-labelled : AreSmall l.nodes labels
  small-labelled = (labelled.one_each, λ v is. grind (arith, labelled.small v is))

  -- They are whole, if they stop at no node.
  pub whole-labelled : get_or labels stop 0 ≡ no_label → AreWhole l labels rooms
  whole-labelled none = record { small = small-labelled; valid = rw none at valid-labelled }

  -- A start that has a label is labelled.
  pub labelled-one : {start : ℕ} → IsNode l.nodes start → get_or labels start 0 ≢ no_label → get_or labels start 0 ≤ get_or labels stop 0
      → IsLabelled l rooms labels start goal
  labelled-one {start = start} node has low = record {
    sound = sound-below l labels rooms (get_or labels start 0) (get_or labels stop 0) low
        (sound-valid l labels rooms (get_or labels stop 0) links small-labelled valid-labelled);
    start_label = omega (arith, has, labelled.small start node);
    walk = walk-down rooms flags labels labels links flagged (λ v is other. labelled.backed v is (λ among. other (one-root among))) (λ v is. omega (arith, labelled.small v is, links.at_most_nodes))
        (λ v is set. refl) (get_or labels start 0 + 1) start (omega arith) node has;
  }
