-- The nodes near a goal: what a breadth-first search from it knows before it has looked through all levels.
use Rattle.std.proofs.Common.{ℕ, ◌≡◌, ◌≢◌, ◌≤◌, ◌<◌, inl, inr, false, List, length, get_or, ap, refl, arith, Contains}
use Rattle.std.proofs.lemmas.Bool.{cases_eq, cases_lt}
use Rattle.dmf_node.specs.Node.{IsNode}
use Rattle.dmf_links.specs.Links.{Links, AreLinks, AreFlags}
use Rattle.dmf_links.proofs.tables.LinkPlaces.{lies-within}
use Rattle.dmf_path.specs.declared.ball.Ball.{Ball}
use Rattle.dmf_path.specs.Ball.{AreListed, AreNear, AreNodes, IsFit}
use Rattle.dmf_path.specs.Frontier.{AreSpread}
use Rattle.dmf_path.specs.Labels.{no_label}
use Rattle.dmf_path.specs.Residual.{ResidualLinks, roomed}
use Rattle.dmf_path.proofs.labels.Labelled.{opposite}
use Rattle.dmf_path.proofs.labels.Labelling.{queued-at}
use Rattle.dmf_path.proofs.rooms.Pushed.{NoneOpens}

-- The level that the search has not looked through: that of the next node, or that of none if there is no next one.
pub data IsLevel (labels queue : List ℕ) (done radius : ℕ) : Type 0 where
  next : done < length queue → radius ≡ get_or labels (get_or queue done 0) 0 → IsLevel labels queue done radius
  last : length queue ≤ done → radius ≡ no_label → IsLevel labels queue done radius

module _ {l : Links} {flags roots labels queue : List ℕ} {done radius : ℕ} (so_far : AreSpread l flags roots labels queue done)
    (level : IsLevel labels queue done radius) where
  -- A node below that level has been looked at.
  pub looked-below : (v : ℕ) → IsNode l.nodes v → get_or labels v 0 < radius → get_or labels v 0 ≢ no_label
      → (k : ℕ) × ((k < done) × (get_or queue k 0 ≡ v))
  looked-below v node low has =
      let at = queued-at so_far v node has in
      elim (cases_lt at.0 done) [
        | inl before ↦ (at.0, (before, at.2))
        | inr behind ↦ elim level [
          | next more is ↦ absurd (omega (arith, low, is, at.4, so_far.ascending done at.0 behind at.1))
          | last all is ↦ absurd (omega (arith, at.1, all, behind))
        ]
      ]

  -- No label exceeds the number that stands for none, so a node below the level has a label.
  has-below : (v : ℕ) → get_or labels v 0 < radius → radius ≤ no_label → get_or labels v 0 ≢ no_label
  has-below v low most none = omega (arith, low, most, none)

  module _ (most : radius ≤ no_label) where
    pub near-spread : {rooms : List ℕ} {goal : ℕ} → AreLinks l → AreFlags l rooms flags → Contains roots goal → AreNear l rooms goal radius labels
    near-spread {rooms = rooms} {goal = goal} are flagged root = record {
      one_each = so_far.one_each;
      goal_is = so_far.roots_are goal root;
      near = λ v p node lies room low.
          let w : ℕ = get_or l.heads p 0 in
          let head = (are.each p (lies-within l v p are node lies)).head in
          let at = looked-below w head low (has-below w low most) in
          let o = opposite rooms flags are flagged (record { is_node = node; lies = lies; leads = refl; room = room }) in
          let near = so_far.scanned at.0 (get_or l.partners p 0) at.1.0 (rw at.1.1 o.lies) o.flag in
          omega (arith, near, ap (λ u. get_or labels u 0) o.head, ap (λ u. get_or labels u 0) at.1.1);
    }

-- The nodes with labels are those of the queue.
pub listed-spread : {l : Links} {flags roots labels queue : List ℕ} {done : ℕ} → AreSpread l flags roots labels queue done → AreListed labels queue
listed-spread {l = l} {labels = labels} so_far v within low = elim (cases_eq v 0) [
  | inl zero ↦ absurd (omega (arith, low, ap (λ u. get_or labels u 0) zero, so_far.zero))
  | inr other ↦
      let node : IsNode l.nodes v = record { from_one = omega (arith, other); to_last = omega (arith, within, so_far.one_each) } in
      let at = queued-at so_far v node (λ none. omega (arith, low, none)) in
      (at.0, (at.1, at.2))
]

pub nodes-spread : {l : Links} {flags roots labels queue : List ℕ} {done : ℕ} → AreSpread l flags roots labels queue done → AreNodes l.nodes queue
nodes-spread so_far i within = (so_far.queued i within).node

-- What is known stays right where no link gets room that had none.
pub fit-falls : (ball : Ball) (r : ResidualLinks) (rooms : List ℕ) → (r.takes_back ≡ false → NoneOpens r.rooms rooms) → IsFit ball r → IsFit ball (roomed r rooms)
fit-falls ball r rooms none is = record {
  tidy = is.tidy;
  known = λ some.
      let k = is.known some in
      record {
        falls = k.falls;
        nodes = k.nodes;
        near = record {
          one_each = k.near.one_each;
          goal_is = k.near.goal_is;
          near = λ v p node lies room. k.near.near v p node lies (none k.falls p room);
        };
      };
  windows = λ known.
      let w = is.windows known in
      record {
        falls = w.falls;
        ranges = w.ranges;
        open_links = λ v p node lies room. w.open_links v p node lies (none w.falls (get_or r.links.partners p 0) room);
      };
}
