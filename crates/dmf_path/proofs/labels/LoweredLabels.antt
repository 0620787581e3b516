-- One label is lowered as far as the labels of the nodes before it allow: the labels stay whole, and once the links that fall to the node
-- are current again, the noted links stay enough.
use Rattle.std.proofs.Common.{ℕ, ◌≡◌, ◌≢◌, ◌+◌, ◌<◌, ◌≤◌, inl, inr, List, length, get_or, set, min, ap, sym, ◌∙◌, arith}
use Rattle.std.proofs.lemmas.Bool.{cases_eq}
use Rattle.std.proofs.lemmas.List.{length-set, get_or-set_same}
use Rattle.dmf_node.specs.Node.{IsNode}
use Rattle.dmf_links.specs.Links.{Links, LiesAt, AreLinks, AreFlags, AreRooms}
use Rattle.dmf_path.specs.Labels.{no_label}
use Rattle.dmf_path.specs.BothEnds.{AreWhole}
use Rattle.dmf_path.specs.Residual.{ResidualLinks}
use Rattle.dmf_path.specs.Searching.{Labelling, AreLowered, AreNoted, MayBeLowered}
use Rattle.dmf_path.specs.Walk.{AreCurrent, AreValid}
use Rattle.dmf_links.proofs.tables.LinkPlaces.{lies-within, lies-partner, room-used}
use Rattle.dmf_path.proofs.labels.Labelled.{opposite}
use Rattle.dmf_path.proofs.labels.Spreading.{cases-set}
use Rattle.dmf_path.proofs.walks.Walking.{AreCurrent-set}

-- Each open link of the node up to this place leads to a node whose label is at most `top`.
pub record IsTop (l : Links) (flags labels : List ℕ) (from place top : ℕ) : Type 0 where
  pub most : (p : ℕ) → from ≤ p → p < place → get_or flags p 0 ≡ 1 → get_or labels (get_or l.heads p 0) 0 ≤ top

-- The opposite of each open link from `from` up to `place` that leads to a node with this label is current, or a link before it is.
pub record AreAgain (l : Links) (flags labels old : List ℕ) (label from place : ℕ) (current : List ℕ) : Type 0 where
  pub current_is : AreCurrent l current
  pub less : (v : ℕ) → get_or current v 0 ≤ get_or old v 0
  pub back : (p : ℕ) → from ≤ p → p < place → get_or flags p 0 ≡ 1 → get_or labels (get_or l.heads p 0) 0 ≡ label
      → get_or current (get_or l.heads p 0) 0 ≤ get_or l.partners p 0

module _ {l : Links} {flags labels old : List ℕ} {label from place : ℕ} {current : List ℕ}
    (so_far : AreAgain l flags labels old label from place current) where
  -- The next link is not one of them.
  pub again-kept : (get_or flags place 0 ≡ 1 → get_or labels (get_or l.heads place 0) 0 ≢ label)
      → AreAgain l flags labels old label from (place + 1) current
  again-kept other = record {
    current_is = so_far.current_is;
    less = so_far.less;
    back = λ p after before opened is. elim (cases_eq p place) [
      | inl here ↦ absurd (other (rw (← here) opened) (rw (← here) is))
      | inr earlier ↦ so_far.back p after (omega arith) opened is
    ];
  }

  -- Its opposite is made current.
  pub again-set : {v now : ℕ} → AreLinks l → place < length l.heads → get_or l.heads place 0 ≡ v
      → now ≡ min (get_or current v 0) (get_or l.partners place 0) → AreAgain l flags labels old label from (place + 1) (set current v now)
  again-set {v = v} {now = now} links within leads least =
      let node : IsNode l.nodes v = rw leads at (links.each place within).head in
      let lies : LiesAt l v (get_or l.partners place 0) = rw leads at (lies-partner l place links within) in
      let inside : v < length current = omega (arith, node.to_last, so_far.current_is.one_each) in
      let less : (u : ℕ) → get_or (set current v now) u 0 ≤ get_or current u 0 = λ u. grind (arith, cases-set current v u now inside, least) in
      record {
        current_is = AreCurrent-set l current v now so_far.current_is node (omega (arith, least, so_far.current_is.from v node, lies.from))
            (omega (arith, least, lies.below));
        less = λ u. omega (arith, less u, so_far.less u);
        back = λ p after before opened is. elim (cases_eq p place) [
          | inl here ↦ rw (here, leads) (omega (arith, least, get_or-set_same current v now 0 inside))
          | inr earlier ↦ omega (arith, less (get_or l.heads p 0), so_far.back p after (omega arith) opened is)
        ];
      }

-- The label of the node `x` falls to `label`, and that of no node from which a link with room leads to it is more than one higher.
pub record MayFall (l : Links) (rooms flags labels : List ℕ) (x label : ℕ) : Type 0 where
  pub links : AreLinks l
  pub roomy : AreRooms l rooms
  pub flagged : AreFlags l rooms flags
  pub whole : AreWhole l labels rooms
  pub node : IsNode l.nodes x
  pub lower : label < get_or labels x 0
  pub labelled : get_or labels x 0 ≢ no_label
  pub top : (p : ℕ) → LiesAt l x p → get_or flags p 0 ≡ 1 → get_or labels (get_or l.heads p 0) 0 ≤ label + 1

module _ {l : Links} {rooms flags labels : List ℕ} {x label : ℕ} (may : MayFall l rooms flags labels x label) where
  inside : x < length labels
  inside = omega (arith, may.node.to_last, may.whole.small.0)

  -- A link with room that leads to the node comes from one that is at most one higher.
  top-opposite : (v p : ℕ) → IsNode l.nodes v → LiesAt l v p → 0 < get_or rooms p 0 → get_or l.heads p 0 ≡ x → get_or labels v 0 ≤ label + 1
  top-opposite v p node lies room leads =
      let other = opposite rooms flags may.links may.flagged (record { is_node = node; lies = lies; leads = leads; room = room }) in
      omega (arith, may.top (get_or l.partners p 0) other.lies other.flag, ap (λ u. get_or labels u 0) other.head)

  -- A link with room does not lead to its own node.
  no-loop : (v p : ℕ) → IsNode l.nodes v → LiesAt l v p → 0 < get_or rooms p 0 → get_or l.heads p 0 ≢ v
  no-loop v p node lies room same =
      let within = lies-within l v p may.links node lies in
      (may.links.each p within).no_loop (room-used l rooms p may.roomy within room) (may.links.at_tail v p node lies ∙ sym same)

  -- No link with room falls by more than one then.
  valid-fallen : AreValid l (set labels x label) rooms no_label
  valid-fallen v p node lies room below =
      let h : ℕ = get_or l.heads p 0 in
      let was = may.whole.valid v p node lies room in
      let apart = no-loop v p node lies room in
      elim (cases-set labels x h label inside) [
        | inl head ↦ elim (cases-set labels x v label inside) [
          | inl tail ↦ absurd (apart (head.0 ∙ sym tail.0))
          | inr other ↦ omega (arith, head.1, other.1, top-opposite v p node lies room head.0)
        ]
        | inr far ↦ elim (cases-set labels x v label inside) [
          | inl tail ↦ omega (arith, far.1, tail.1, was (omega (arith, below, far.1)), may.lower, ap (λ u. get_or labels u 0) tail.0)
          | inr other ↦ omega (arith, far.1, other.1, was (omega (arith, below, far.1)))
        ]
      ]

  -- So the labels stay whole.
  pub whole-fallen : AreWhole l (set labels x label) rooms
  whole-fallen = record {
    small = (
      length-set labels x label ∙ may.whole.small.0,
      λ v is. grind (arith, cases-set labels x v label inside, may.whole.small.1 v is, may.lower, may.labelled),
    );
    valid = valid-fallen;
  }

  pub less-fallen : (v : ℕ) → get_or (set labels x label) v 0 ≤ get_or labels v 0
  less-fallen v = grind (arith, cases-set labels x v label inside, may.lower)

  -- The noted links stay enough, once the links that fall to the node are current again, or ones before them.
  pub noted-fallen : {old current noted : List ℕ} → ((v : ℕ) → get_or current v 0 ≤ get_or old v 0)
      → ((p : ℕ) → LiesAt l x p → get_or flags p 0 ≡ 1 → get_or (set labels x label) (get_or l.heads p 0) 0 ≡ label + 1
      → get_or current (get_or l.heads p 0) 0 ≤ get_or l.partners p 0)
      → AreNoted l labels rooms old noted → AreNoted l (set labels x label) rooms current noted
  noted-fallen {old = old} {current = current} {noted = noted} less back were = record {
    within = were.within;
    each = λ v p node lies before falls.
        let h : ℕ = get_or l.heads p 0 in
        elim (cases-set labels x h label inside) [
          | inl head ↦
              let other = opposite rooms flags may.links may.flagged (record { is_node = node; lies = lies; leads = head.0; room = falls.room }) in
              let passed = back (get_or l.partners p 0) other.lies other.flag
              (ap (λ u. get_or (set labels x label) u 0) other.head ∙ sym falls.falls ∙ ap (λ n. n + 1) head.1) in
              absurd (omega (arith, passed, before, other.back, ap (λ u. get_or current u 0) other.head))
          | inr far ↦ elim (cases-set labels x v label inside) [
            | inl tail ↦
                let low : get_or labels h 0 + 1 < get_or labels x 0 = omega (arith, falls.falls, far.1, tail.1, may.lower) in
                let most = may.whole.small.1 x may.node in
                let was = may.whole.valid v p node lies falls.room (omega (arith, low, most, may.labelled, may.links.at_most_nodes)) in
                absurd (omega (arith, low, was, ap (λ u. get_or labels u 0) tail.0))
            | inr other ↦ were.each v p node lies (omega (arith, before, less v))
                (record { lies = lies; room = falls.room; falls = sym (ap (λ n. n + 1) far.1) ∙ falls.falls ∙ other.1 })
          ]
        ];
  }

-- Labels are lowered as far as they are,
pub lowered-from : {r : ResidualLinks} {v : Labelling} → MayBeLowered r v → AreLowered r v v
lowered-from may = record { whole = may.whole; current_is = may.current_is; noted = λ noted is. is; less = λ v. omega arith }

-- and where they are lowered once more, they are lowered.
pub lowered-again : {r : ResidualLinks} {a b c : Labelling} → AreLowered r a b → AreLowered r b c → AreLowered r a c
lowered-again first next = record {
  whole = next.whole;
  current_is = next.current_is;
  noted = λ noted is. next.noted noted (first.noted noted is);
  less = λ v. omega (arith, first.less v, next.less v);
}
