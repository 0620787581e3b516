-- The first link of a node that leads to another node, the head, found among the links of the head.
use Rattle.std.proofs.Common.{ℕ, ◌≡◌, ◌≢◌, ◌+◌, ◌<◌, ◌≤◌, ◌⊎◌, inl, inr, List, length, get_or, ap, sym, ◌∙◌, arith}
use Rattle.std.proofs.lemmas.Bool.{cases_eq}
use Rattle.dmf_node.specs.Node.{IsNode}
use Rattle.dmf_links.specs.Links.{Links, LiesAt, AreLinks, AreFlags}
use Rattle.dmf_links.proofs.tables.LinkPlaces.{lies-within}
use Rattle.dmf_links.proofs.rooms.Flags.{room-of_flag}
use Rattle.dmf_path.proofs.labels.Labelled.{opposite}

-- Among the head's links from `start` up to `place`, no opposite one from the node is at `from` or after it, and before `first`.
pub record IsFirst (l : Links) (rooms flags : List ℕ) (head node from end start place first : ℕ) : Type 0 where
  pub from_is : from ≤ first
  pub to : first ≤ end
  pub found : first < end → (0 < get_or rooms first 0) × (get_or l.heads first 0 ≡ head)
  pub least : (q : ℕ) → LiesAt l head q → start ≤ q → q < place → get_or flags q 0 ≡ 1 → get_or l.heads q 0 ≡ node → from ≤ get_or l.partners q 0
      → first ≤ get_or l.partners q 0

module _ {l : Links} {rooms flags : List ℕ} {head node from end start place first : ℕ} (so_far : IsFirst l rooms flags head node from end start place first) where
  -- The next one is not open, or leads to another node.
  pub first-kept : (get_or flags place 0 ≡ 1 → get_or l.heads place 0 ≢ node) → IsFirst l rooms flags head node from end start (place + 1) first
  first-kept other = record {
    from_is = so_far.from_is;
    to = so_far.to;
    found = so_far.found;
    least = λ q lies after before flag leads later. elim (cases_eq q place) [
      | inl same ↦ absurd (other (ap (λ p. get_or flags p 0) (sym same) ∙ flag) (ap (λ p. get_or l.heads p 0) (sym same) ∙ leads))
      | inr apart ↦ so_far.least q lies after (omega (arith, before, apart)) flag leads later
    ];
  }

  -- It is looked at.
  pub first-set : {new : ℕ} → AreLinks l → AreFlags l rooms flags → IsNode l.nodes head → LiesAt l head place → get_or flags place 0 ≡ 1 → new ≤ first
      → (from ≤ get_or l.partners place 0 → new ≤ get_or l.partners place 0)
      → (new ≡ first) ⊎ ((new ≡ get_or l.partners place 0) × (from ≤ get_or l.partners place 0))
      → IsFirst l rooms flags head node from end start (place + 1) new
  first-set {new = new} links flagged head_is lies flag low lower one =
      let within : place < length l.heads = lies-within l head place links head_is lies in
      let room : 0 < get_or rooms (get_or l.partners place 0) 0 =
      room-of_flag (get_or rooms (get_or l.partners place 0) 0) (sym (flagged.1 place within) ∙ flag) in
      let leads : get_or l.heads (get_or l.partners place 0) 0 ≡ head = links.at_tail head place head_is lies in
      record {
        from_is = omega (arith, one, so_far.from_is);
        to = omega (arith, low, so_far.to);
        found = λ below. elim one [
          | inl same ↦ rw same (so_far.found (omega (arith, below, same)))
          | inr at ↦ rw at.0 (room, leads)
        ];
        least = λ q lies_q after before flag_q leads_q later. elim (cases_eq q place) [
          | inl same ↦ omega (arith, lower (omega (arith, later, ap (λ p. get_or l.partners p 0) same)), ap (λ p. get_or l.partners p 0) same)
          | inr apart ↦ omega (arith, low, so_far.least q lies_q after (omega (arith, before, apart)) flag_q leads_q later)
        ];
      }

  -- At the last one no link of the node before the one found leads to the head, but where the opposite one is left out.
  pub first-last : {LeftOut : ℕ → Type 0} → AreLinks l → AreFlags l rooms flags → IsNode l.nodes node → (until : ℕ) → until ≤ place
      → ((q : ℕ) → LiesAt l head q → ((start ≤ q) × (q < until)) ⊎ LeftOut q) → get_or l.first node 0 ≤ from
      → end ≤ get_or l.first (node + 1) 0 → (p : ℕ) → from ≤ p → p < first → 0 < get_or rooms p 0
      → (get_or l.heads p 0 ≢ head) ⊎ ((get_or l.heads p 0 ≡ head) × LeftOut (get_or l.partners p 0))
  first-last links flagged node_is until all covered low high p later before room = elim (cases_eq (get_or l.heads p 0) head) [
    | inr other ↦ inl other
    | inl leads ↦
        let o = opposite rooms flags links flagged (record {
          is_node = node_is;
          lies = record { from = omega (arith, low, later); below = omega (arith, before, so_far.to, high) };
          leads = leads;
          room = room;
        }) in
        elim (covered (get_or l.partners p 0) o.lies) [
          | inl within ↦
              let least = so_far.least (get_or l.partners p 0) o.lies within.0 (omega (arith, within.1, all)) o.flag o.head (omega (arith, later, o.back)) in
              absurd (omega (arith, before, o.back, least))
          | inr out ↦ inr (leads, out)
        ]
  ]
