-- Ranks: the arcs between nodes of one rank, and what keeps the ranks valid.
use Rattle.std.proofs.Common.{ℕ, ◌≡◌, ◌-◌, ◌==◌, Bool, true, false, not, List, set, refl, ap, sym, ◌∙◌, subst, arith}
use Rattle.std.proofs.lemmas.Bool.{both_ways, eqb-true, eq-eqb, or_left, or_parts, or_right, true_from_ne_false}
use Rattle.std.proofs.lemmas.List.{get_or-set_other}
use Rattle.dmf_state.specs.declared.arc.Arc.{Arc}
use Rattle.dmf_state.specs.Flow.{flow_on}
use Rattle.dmf_state.specs.Network.{Network, arc_number, has_arc}
use Rattle.dmf_state.proofs.ChangedArc.{has_arc-within}
use Rattle.dmf_vital.specs.declared.exits.Exits.{Exits}
use Rattle.dmf_vital.specs.Exits.{is_barred, is_exit}
use Rattle.dmf_vital.specs.Hop.{from_of, to_of}
use Rattle.dmf_vital.specs.Ranks.{AreRanks, StaysLow, is_across, rank_of}

-- ---- what a search leaves out

pub barred-exit : (n : Network) (e : Exits) (i : ℕ) → is_exit n e i ≡ true → is_barred n e i ≡ true
barred-exit n e i exit = or_left (is_exit n e i) (is_across e.ranks.now (arc_number n i)) exit

pub barred-across : (n : Network) (e : Exits) (i : ℕ) → is_across e.ranks.now (arc_number n i) ≡ true → is_barred n e i ≡ true
barred-across n e i across = or_right (is_exit n e i) (is_across e.ranks.now (arc_number n i)) across

pub barred-parts : (n : Network) (e : Exits) (i : ℕ) → is_barred n e i ≡ false → (is_exit n e i ≡ false) × (is_across e.ranks.now (arc_number n i) ≡ false)
barred-parts n e i free = or_parts (is_exit n e i) (is_across e.ranks.now (arc_number n i)) free

-- ---- arcs between nodes of one rank

pub level-same : (ranks : List ℕ) (arc : Arc) → is_across ranks arc ≡ false → rank_of ranks arc.tail ≡ rank_of ranks arc.head
level-same ranks arc level =
    let same : Bool = rank_of ranks arc.tail == rank_of ranks arc.head in
    eqb-true (rank_of ranks arc.tail) (rank_of ranks arc.head) (true_from_ne_false same (λ apart. both_ways (not same) level (ap not apart)))

pub same-level : (ranks : List ℕ) (against : Bool) (arc : Arc) → rank_of ranks (from_of against arc) ≡ rank_of ranks (to_of against arc)
    → is_across ranks arc ≡ false
same-level ranks true arc same = ap not (eq-eqb (rank_of ranks arc.tail) (rank_of ranks arc.head) (sym same))
same-level ranks false arc same = ap not (eq-eqb (rank_of ranks arc.tail) (rank_of ranks arc.head) same)

-- No step over one leads to a node of a higher rank.
level-low : (ranks : List ℕ) (against : Bool) (arc : Arc) (flow : ℕ) → is_across ranks arc ≡ false → StaysLow ranks against arc flow
level-low ranks true arc flow level some = let same = level-same ranks arc level in omega (arith, same)
level-low ranks false arc flow level some = let same = level-same ranks arc level in omega (arith, same)

-- ---- ranks stay valid

either_way : (b : Bool) (P : Type 0) → (b ≡ true → P) → (b ≡ false → P) → P
either_way true P first second = first refl
either_way false P first second = second refl

-- Where only the flow on arcs between nodes of one rank changes, the ranks are ranks for the new flows as well.
pub ranks-taken : (n : Network) (e : Exits) (j left : ℕ) (before after : List ℕ) → has_arc n j ≡ true → is_across e.ranks.now (arc_number n j) ≡ false
    → ((i : ℕ) → has_arc n i ≡ true → is_barred n e i ≡ true → flow_on after i ≡ flow_on before i) → AreRanks n before e.ranks.now
    → AreRanks n (set after (j - 1) left) e.ranks.now
ranks-taken n e j left before after has level kept ranks = record {
  none_rises = λ against i there.
      let numbers : List ℕ = e.ranks.now in
      let arc : Arc = arc_number n i in
      either_way (is_across numbers arc) (StaysLow numbers against arc (flow_on (set after (j - 1) left) i))
      (λ across.
      let at = has_arc-within n j has in
      let own = has_arc-within n i there in
      let other : flow_on (set after (j - 1) left) i ≡ flow_on after i = get_or-set_other after (j - 1) (i - 1) left 0 (λ same.
      let is : i ≡ j = omega (arith, same, at.0, own.0) in
      both_ways (is_across numbers arc) (ap (λ m. is_across numbers (arc_number n m)) is ∙ level) across) in
      subst (StaysLow numbers against arc) (sym (other ∙ kept i there (barred-across n e i across))) (ranks.none_rises against i there))
      (λ flat. level-low numbers against arc (flow_on (set after (j - 1) left) i) flat);
}
