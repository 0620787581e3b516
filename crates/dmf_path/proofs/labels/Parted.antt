-- A set of nodes that no link with room leaves, by its marks, is a closed side. Ways out of marked nodes for steps are so for links with
-- room.
use Rattle.std.proofs.Common.{ℕ, ◌≡◌, ◌∙◌, inl, inr, Bool, true, false, List, length, get_or, ap, sym, subst, Contains}
use Rattle.std.proofs.lemmas.Bool.{cases_Bool, false≢true}
use Rattle.dmf_links.specs.Links.{Links, AreLinks, ArePlaces, AreRooms, pairs_at, tail_of}
use Rattle.dmf_node.specs.Node.{IsNode}
use Rattle.dmf_path.specs.ClosedSide.{is_marked, HasWaysOut, IsClosedSide}
use Rattle.dmf_path.specs.Pair.{steps_of}
use Rattle.dmf_path.specs.Searching.{IsParted}
use Rattle.dmf_path.specs.Step.{Step}
use Rattle.dmf_path.specs.Through.{AreWaysOut}
use Rattle.dmf_path.specs.declared.through.WaysOut.{WaysOut}
use Rattle.dmf_links.proofs.tables.LinkPlaces.{lies-within, room-used}
use Rattle.dmf_path.proofs.paths.LinkSteps.{link-of_step, step-of_link}
use Rattle.dmf_path.proofs.paths.Steps.{step_on}

pub closed-parted : (l : Links) (places rooms : List ℕ) (start goal : ℕ) (marks : List Bool) → AreLinks l → ArePlaces l places → IsNode l.nodes start
    → IsNode l.nodes goal → length marks ≡ l.nodes → IsParted l rooms start goal marks → IsClosedSide (steps_of (pairs_at l places rooms)) start goal marks
closed-parted l places rooms start goal marks links are start_is goal_is long parted =
    let set = parted.separated in
    let marked = parted.marked long in
    record {
      start_in = marked start start_is ∙ set.start_in;
      goal_out = λ inside. false≢true (sym set.goal_out ∙ sym (marked goal goal_is) ∙ inside);
      none_leaves = λ s c from.
          let on = link-of_step l places rooms links are s c in
          let link = links.each on.place on.within in
          let tail : is_marked marks (tail_of l on.place) ≡ true = ap (λ (t : Step). is_marked marks t.from) on.step ∙ from in
          let head = set.closed (tail_of l on.place) on.place link.tail link.lies on.room (sym (marked (tail_of l on.place) link.tail) ∙ tail) in
          ap (λ (t : Step). is_marked marks t.to) (sym on.step) ∙ marked (get_or l.heads on.place 0) link.head ∙ head;
    }

pub ways-out : (l : Links) (places rooms : List ℕ) (start goal : ℕ) (ways : WaysOut) (marks : List Bool) → AreLinks l → ArePlaces l places
    → AreRooms l rooms → HasWaysOut l.nodes (steps_of (pairs_at l places rooms)) start goal ways marks → AreWaysOut l rooms start goal ways marks
ways-out l places rooms start goal ways marks links are fit out =
    let off : (v : ℕ) → ¬ (is_marked marks v ≡ true) → is_marked marks v ≡ false = λ v off_it.
    elim (cases_Bool (is_marked marks v)) [ inl in_it ↦ absurd (off_it in_it) | inr outside ↦ outside ] in
    record {
      one_each = out.one_each;
      start_in = out.start_in;
      goal_out = off goal out.goal_out;
      tails_in = out.tails_in;
      heads_out = λ v among. let is = out.heads_out v among in (is.0, off v is.1);
      leaves = λ v p is lies room inside outside.
          let within = lies-within l v p links is lies in
          let there = step-of_link l places rooms links are p within (room-used l rooms p fit within room) room in
          let tail = links.at_tail v p is lies in
          let way = out.leaves (step_on l places rooms p) there (ap (is_marked marks) tail ∙ inside) (λ in_it. false≢true (sym outside ∙ in_it)) in
          (subst (λ u. Contains ways.tails.items u) tail way.0, way.1);
    }
