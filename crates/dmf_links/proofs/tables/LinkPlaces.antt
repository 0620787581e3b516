-- Where the links of a node lie.
use Rattle.std.proofs.Common.{ℕ, ◌≡◌, ◌≢◌, ◌+◌, ◌<◌, ◌≤◌, List, length, get_or, ap, subst, sym, ◌∙◌, arith}
use Rattle.std.proofs.lemmas.List.{get_or_default}
use Rattle.dmf_node.specs.Node.{IsNode}
use Rattle.dmf_links.specs.Links.{Links, LiesAt, AreLinks, AreRooms, IsSpare}
use Rattle.dmf_links.proofs.building.Rising.{rising}

-- The links of a later node begin later.
pub first-later : (l : Links) (v w : ℕ) → AreLinks l → v ≤ w → w ≤ l.nodes + 1 → get_or l.first v 0 ≤ get_or l.first w 0
first-later l v w are = rising (λ u. get_or l.first u 0) (l.nodes + 1) v w (λ u h. are.ascending u (omega (arith, h)))

-- The links of a node end within the links.
pub last-within : (l : Links) (v : ℕ) → AreLinks l → v ≤ l.nodes → get_or l.first (v + 1) 0 ≤ length l.heads
last-within l v are within = omega (arith, first-later l (v + 1) (l.nodes + 1) are (omega arith) (omega arith), are.last)

-- The same, with another name for the end.
pub end-within : (l : Links) (v end : ℕ) → AreLinks l → v ≤ l.nodes → end ≡ get_or l.first (v + 1) end → end ≤ length l.heads
end-within l v end are within read =
    let is : get_or l.first (v + 1) 0 ≡ end = get_or_default l.first (v + 1) 0 end (omega (arith, are.first_long)) ∙ sym read in
    omega (arith, is, last-within l v are within)

-- A link of a node is a link.
pub lies-within : (l : Links) (v p : ℕ) → AreLinks l → IsNode l.nodes v → LiesAt l v p → p < length l.heads
lies-within l v p are node lies = omega (arith, last-within l v are node.to_last, lies.below)

-- A link is not its own opposite.
pub partner-other : (l : Links) (p : ℕ) → AreLinks l → p < length l.heads → get_or l.partners p 0 ≢ p
partner-other l p are within = (are.each p within).partner_other

-- The opposite of a link lies at the node to which the link leads.
pub lies-partner : (l : Links) (p : ℕ) → AreLinks l → p < length l.heads → LiesAt l (get_or l.heads p 0) (get_or l.partners p 0)
lies-partner l p are within =
    let link = are.each p within in
    let P : ℕ → Type 0 = λ v. LiesAt l v (get_or l.partners p 0) in
    subst P (ap (λ q. get_or l.heads q 0) link.partner_back) (are.each (get_or l.partners p 0) link.partner).lies

-- A link with room is not spare.
pub room-used : (l : Links) (rooms : List ℕ) (p : ℕ) → AreRooms l rooms → p < length l.heads → 0 < get_or rooms p 0 → ¬ IsSpare l p
room-used l rooms p are within room spare = omega (arith, room, are.2 p within spare)
