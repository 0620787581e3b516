-- Labels that lead to one goal lead to another, once the noted links are current again.
use Rattle.std.proofs.Common.{ℕ, ◌≡◌, ◌+◌, ◌<◌, ◌≤◌, inl, inr, List, [], length, get_or, set, ap, ◌∙◌, arith}
use Rattle.std.proofs.lemmas.List.{get_or-set_same, get_or_default}
use Rattle.std.proofs.lemmas.Bool.{cases_eq}
use Rattle.dmf_links.specs.Links.{Links, AreLinks, tail_of}
use Rattle.dmf_path.specs.Walk.{AreCurrent, ArePassed}
use Rattle.dmf_path.specs.Searching.{AreNoted, IsNoted}
use Rattle.dmf_path.proofs.labels.Spreading.{cases-set}
use Rattle.dmf_path.proofs.walks.Walking.{AreCurrent-set}

-- The current link of each node is one of the first `k` of these places, or lies before it, where one of them is the node's.
pub record AreBack (l : Links) (old places : List ℕ) (k : ℕ) (current : List ℕ) : Type 0 where
  pub current_is : AreCurrent l current
  pub less : (v : ℕ) → get_or current v 0 ≤ get_or old v 0
  pub back : (i : ℕ) → i < k → get_or current (tail_of l (get_or places i 0)) 0 ≤ get_or places i 0

module _ {l : Links} {old places : List ℕ} {k : ℕ} {current : List ℕ} (so_far : AreBack l old places k current) where
  -- The next one is so already.
  pub back-kept : get_or current (tail_of l (get_or places k 0)) 0 ≤ get_or places k 0 → AreBack l old places (k + 1) current
  back-kept next = record {
    current_is = so_far.current_is;
    less = so_far.less;
    back = λ i before. elim (cases_eq i k) [
      | inl same ↦ rw same next
      | inr other ↦ so_far.back i (omega arith)
    ];
  }

  -- Now it is.
  pub back-set : AreLinks l → get_or places k 0 < length l.heads → get_or places k 0 < get_or current (tail_of l (get_or places k 0)) 0
      → AreBack l old places (k + 1) (set current (tail_of l (get_or places k 0)) (get_or places k 0))
  back-set links within lower =
      let place : ℕ = get_or places k 0 in
      let tail : ℕ = tail_of l place in
      let link = links.each place within in
      let inside : tail < length current = omega (arith, link.tail.to_last, so_far.current_is.one_each) in
      let less : (v : ℕ) → get_or (set current tail place) v 0 ≤ get_or current v 0 =
      λ v. grind (arith, cases-set current tail v place inside, lower) in
      record {
        current_is = AreCurrent-set l current tail place so_far.current_is link.tail link.lies.from (omega (arith, link.lies.below));
        less = λ v. omega (arith, less v, so_far.less v);
        back = λ i before. elim (cases_eq i k) [
          | inl same ↦ rw same (omega (arith, get_or-set_same current tail place 0 inside))
          | inr other ↦ omega (arith, less (tail_of l (get_or places i 0)), so_far.back i (omega arith))
        ];
      }

-- Nothing is noted in an empty list.
pub not-noted : {l : Links} (v p : ℕ) → ¬ IsNoted l [] v p
not-noted v p is = omega (arith, is.noted_is.1)

-- Once all noted links are current again, no admissible link is passed.
pub none-noted : {l : Links} {labels rooms old noted : List ℕ} (current : List ℕ) → AreNoted l labels rooms old noted
    → ((v : ℕ) → get_or current v 0 ≤ get_or old v 0)
    → ((i : ℕ) → i < length noted → get_or current (tail_of l (get_or noted i 0)) 0 ≤ get_or noted i 0) → AreNoted l labels rooms current []
none-noted {l = l} {noted = noted} current are less back = record {
  within = λ i x none. absurd (omega (arith, none));
  each = λ v p node lies before admissible.
      let is = are.each v p node lies (omega (arith, before, less v)) admissible in
      let at = is.noted_is in
      let place : get_or noted at.0 0 ≡ is.place = get_or_default noted at.0 0 is.place at.1 ∙ at.2 in
      let low = back at.0 at.1 in
      absurd (omega (arith, before, low, place, is.before, ap (λ q. get_or current (tail_of l q) 0) place, ap (λ u. get_or current u 0) is.tail));
}

-- So no walk to any goal begins with a passed link.
pub none-passed : {l : Links} {labels rooms current : List ℕ} (goal : ℕ) → AreNoted l labels rooms current [] → ArePassed l labels rooms goal current
none-passed goal are v p ps node lies before walk = not-noted v p (are.each v p node lies before walk.0)
