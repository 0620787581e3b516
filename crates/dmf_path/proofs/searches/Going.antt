-- What a search has between two looks for a path, and while it looks, once all links have left.
use Rattle.std.proofs.Common.{ℕ, ◌≡◌, ◌≢◌, ◌+◌, ◌≤◌, false, List, [], length, get_or, ap, sym, subst, ◌∙◌, arith, inl, inr}
use Rattle.dmf_node.specs.Node.{IsNode}
use Rattle.dmf_links.specs.LinkTable.{links_of}
use Rattle.dmf_path.specs.declared.ball.Ball.{Ball}
use Rattle.dmf_path.specs.declared.levels.Levels.{Levels}
use Rattle.dmf_path.specs.declared.residual.Residual.{Residual}
use Rattle.dmf_path.specs.declared.trail.Slot.{Slot}
use Rattle.dmf_path.specs.declared.trail.Trail.{Trail}
use Rattle.dmf_path.specs.Ball.{IsFit}
use Rattle.dmf_path.specs.Going.{Goes, IsBetweenLooks}
use Rattle.dmf_path.specs.Held.{Way, emptied, way_of, with_slots}
use Rattle.dmf_path.specs.Labels.{no_label}
use Rattle.dmf_path.specs.Residual.{ResidualLinks, residual_of, with_settled_rooms}
use Rattle.dmf_path.specs.Searching.{Labelling, labelling_of, AreLasting, IsAimed, IsFresh, IsReady, IsSearching, Lead, MayLead, fresh_labels}
use Rattle.dmf_path.specs.Walk.{AreCurrent}
use Rattle.dmf_path.proofs.labels.Labelled.{sound-below, sound-whole}
use Rattle.dmf_path.proofs.searches.SearchTurns.{plainly, searching-anew, searching-free, searching-settled, told-settled}
use Rattle.dmf_path.proofs.slots.Settling.{told-free}

module _ {links next : Residual} {levels : Levels} {ball : Ball} {trail new : Trail} where
  -- After all links have left, a search has what it had between two looks.
  pub keeps-settled : IsBetweenLooks links levels ball trail → residual_of next ≡ with_settled_rooms (residual_of links) (way_of trail)
      → way_of new ≡ emptied (way_of trail) → IsBetweenLooks next levels ball new
  keeps-settled is rooms way =
      let same = told-settled (way_of trail) (residual_of next) way ∙ rooms in
      record {
        searching = searching-settled is.searching rooms way;
        ready = is.ready;
        lasting = λ all. subst (AreLasting (labelling_of levels) levels.noted) (sym same) (is.lasting all);
        fit = subst (IsFit ball) (sym same) is.fit;
      }

  -- So it goes on in the same way.
  pub goes-settled : Goes links levels ball trail → residual_of next ≡ with_settled_rooms (residual_of links) (way_of trail)
      → way_of new ≡ emptied (way_of trail) → Goes next levels ball new
  goes-settled is rooms way = record {
    keeps = keeps-settled is.keeps rooms way;
    around = λ some. is.around some ∙ sym (ap (λ (w : Way). w.goal) way);
  }

-- a trail between these nodes
abbrev pub between : Trail → ℕ → ℕ → Way
between trail start goal = record (way_of trail) { start = start; goal = goal }

-- The label of a start from which labels may lead to the goal is a small one.
pub small-start : {levels : Levels} {ball : Ball} {r : ResidualLinks} {start goal : ℕ} → MayLead levels ball r start goal
    → get_or levels.near.labels start 0 ≤ r.links.nodes
small-start {start = start} may = elim (may.lasting.whole.small.1 start may.start_is) [
  | inl none ↦ absurd (may.labelled none)
  | inr small ↦ small
]

module _ {links : Residual} {v : Labelling} {levels : Levels} {ball : Ball} (trail : Trail) {free : Trail} {start goal : ℕ}
    (is : IsSearching (residual_of links) v (way_of trail)) (apart : start ≢ goal) where
  -- With fresh labels between two nodes, and no slots, a search begins anew.
  pub keeps-fresh : IsNode links.table.value.nodes start → IsNode links.table.value.nodes goal → IsFit ball (residual_of links)
      → IsReady links.table.value.nodes levels.near levels.far → levels.all ≡ false
      → levels.near.labels ≡ fresh_labels links.table.value.nodes start goal
      → AreCurrent (links_of links.table.value) levels.current.items → way_of free ≡ with_slots (between trail start goal) []
      → IsBetweenLooks links levels ball free × IsFresh (links_of links.table.value) levels.near.labels free.start
  keeps-fresh start_is goal_is fit ready none labels current way =
      let r = residual_of links in
      let told : with_settled_rooms r (way_of free) ≡ r = ap (with_settled_rooms r) way ∙ told-free r (between trail start goal) [] in
      let anew = searching-anew (labelling_of levels) is start_is goal_is apart labels current way in
      (record { searching = anew.0; ready = (links.table.value.nodes, ready); lasting = λ all. absurd (cc); fit = subst (IsFit ball) (sym told) fit }, anew.1)

  -- With labels that lead to the goal, and a slot for each step, a search goes on from the start.
  pub keeps-free : Lead levels ball (residual_of links) start goal → (slots : List Slot) → way_of free ≡ with_slots (between trail start goal) slots
      → length slots + get_or levels.near.labels goal 0 ≡ get_or levels.near.labels start 0 → IsBetweenLooks links levels ball free
  keeps-free led slots way count =
      let r = residual_of links in
      let w = between trail start goal in
      let labels : List ℕ = levels.near.labels in
      let may = led.may in
      let small = small-start may in
      let told : with_settled_rooms r (way_of free) ≡ r = ap (with_settled_rooms r) way ∙ told-free r w slots in
      let aimed : IsAimed (plainly r w) labels w.capacity = record {
        links = is.aimed.links;
        one_label_each = may.lasting.whole.small.0;
        start_label = small;
        sound = sound-below r.links labels r.rooms (get_or labels start 0) no_label (omega (arith, small, is.aimed.links.at_most_nodes))
            (sound-whole r.links labels r.rooms is.aimed.links may.lasting.whole);
        start_is = may.start_is;
        goal_is = may.goal_is;
        apart = apart;
        capacity_is = is.aimed.capacity_is;
      } in
      record {
        searching = rw way (searching-free r (labelling_of levels) w slots aimed links.rooms_are is.holding.small may.current_is led.passed count);
        ready = (links.table.value.nodes, may.ready);
        lasting = λ all. subst (AreLasting (labelling_of levels) levels.noted) (sym told) may.lasting;
        fit = subst (IsFit ball) (sym told) may.fit;
      }
