-- Flow is moved from an exit to the path on which a search has met.
use Rattle.std.proofs.Common.{ℕ, ◌≡◌, ◌≢◌, ◌+◌, ◌-◌, ◌≤◌, Bool, true, false, List, length, set, ap, sym, ◌∙◌, subst, arith, ⊎_elim, inl, inr}
use Rattle.std.proofs.lemmas.Bool.{both_ways}
use Rattle.std.proofs.lemmas.List.{get_or-set_other}
use Rattle.std.proofs.lemmas.Slice.Zip.{AllZip-long}
use Rattle.dmf_state.specs.declared.arc.Arc.{Arc}
use Rattle.dmf_state.specs.Flow.{flow_on}
use Rattle.dmf_state.specs.Network.{Network, arc_number, has_arc}
use Rattle.dmf_state.proofs.ChangedArc.{has_arc-within}
use Rattle.dmf_solver.specs.Greatest.{IsGreatest}
use Rattle.dmf_vital.specs.declared.exits.Exits.{Exits}
use Rattle.dmf_vital.specs.declared.hop.Hop.{Hop}
use Rattle.dmf_vital.specs.declared.tree.Reached.{Reached}
use Rattle.dmf_vital.specs.Exits.{AreExits, is_barred, is_exit, exit_flow}
use Rattle.dmf_vital.specs.Hop.{from_of, to_of, room_of, sent, turned}
use Rattle.dmf_vital.specs.Ranks.{AreRanks}
use Rattle.dmf_vital.specs.Shifted.{AreShifted, HasSteps, IsClimbed, KeepsOthers}
use Rattle.dmf_vital.specs.Tree.{at_node, back_of, room_over, IsBegun, IsCrossing, IsGrown, IsReachedBy}
use Rattle.dmf_vital.proofs.Level.{barred-exit, ranks-taken}
use Rattle.dmf_vital.proofs.Pushed.{ends-of, greatest-taken, shifted-after, shifted-before, shifted-step}
use Rattle.dmf_vital.proofs.Summed.{exit-tail, exit_flow-taken}

-- Where the flow on the barred arcs and between nodes of one end is the same, the steps from that end still have room.
steps-moved : (n : Network) (e : Exits) (nodes : List Reached) (found : List ℕ) (back : Bool) (before after : List ℕ) → IsGrown n before e nodes found
    → ((i : ℕ) → has_arc n i ≡ true → back_of nodes (arc_number n i).tail ≡ back → back_of nodes (arc_number n i).head ≡ back → flow_on after i ≡ flow_on before i)
    → ((i : ℕ) → has_arc n i ≡ true → is_barred n e i ≡ true → flow_on after i ≡ flow_on before i) → HasSteps n after e nodes back
steps-moved n e nodes found back before after grown between kept v node some end = ⊎_elim
    (λ (begun : IsBegun n before e v (at_node nodes v)). inl (record {
      ahead = begun.ahead;
      is_there = begun.is_there;
      exit = begun.exit;
      level = begun.level;
      enters = begun.enters;
      carries = λ behind.
          let exit : ℕ = (at_node nodes v).hop.arc in
          omega (arith, begun.carries behind, kept exit (begun.is_there behind) (barred-exit n e exit (begun.exit behind)));
    }))
    (λ (by : IsReachedBy n before e nodes v (at_node nodes v)).
    let hop : Hop = (at_node nodes v).hop in
    let side : Bool = (at_node nodes v).back in
    let arc : Arc = arc_number n hop.arc in
    let ends = ends-of (λ w. back_of nodes w ≡ back) hop.against arc (by.same_end ∙ end) (ap (back_of nodes) by.leads_to ∙ end) in
    let same = between hop.arc by.is_there ends.0 ends.1 in
    let room : room_over n after side hop.against hop.arc ≡ room_over n before side hop.against hop.arc = ap (room_of (turned side hop.against) arc) same in
    inr (record {
      is_there = by.is_there;
      other = by.other;
      leads_to = by.leads_to;
      from_reached = by.from_reached;
      from_before = by.from_before;
      same_end = by.same_end;
      narrows = by.narrows;
      fits = omega (arith, room, by.fits);
    }))
    (grown.steps v node some)

-- Ends of an arc that are alike are so in each direction.
from-ends : (nodes : List Reached) (against : Bool) (arc : Arc) → back_of nodes arc.tail ≡ back_of nodes arc.head
    → back_of nodes (from_of against arc) ≡ back_of nodes (to_of against arc)
from-ends nodes true arc same = sym same
from-ends nodes false arc same = same

module _ (n : Network) (e : Exits) (nodes : List Reached) (found before : List ℕ) (hop : Hop) (amount : ℕ) (exits : AreExits n e) (greatest : IsGreatest n before)
    (grown : IsGrown n before e nodes found) (crossing : IsCrossing n before e nodes hop)
    (room : amount ≤ room_of hop.against (arc_number n hop.arc) (flow_on before hop.arc)) where
  abbrev pub start : ℕ
  start = from_of hop.against (arc_number n hop.arc)

  abbrev pub end : ℕ
  end = to_of hop.against (arc_number n hop.arc)

  abbrev pub over : List ℕ
  over = set before (hop.arc - 1) (sent hop.against amount (flow_on before hop.arc))

  -- The amount is sent over the step in which they met,
  pub shifted-over : AreShifted n e start end amount before over
  shifted-over = shifted-step n e hop.arc amount hop.against before crossing.is_there crossing.other greatest.flow.within room

  -- which is not between nodes of one end.
  between-over : (side : Bool) (i : ℕ) → has_arc n i ≡ true → back_of nodes (arc_number n i).tail ≡ side → back_of nodes (arc_number n i).head ≡ side
      → flow_on over i ≡ flow_on before i
  between-over side i there tail head =
      let at = has_arc-within n hop.arc crossing.is_there in
      let own = has_arc-within n i there in
      get_or-set_other before (hop.arc - 1) (i - 1) (sent hop.against amount (flow_on before hop.arc)) 0 (λ same.
      let is : i ≡ hop.arc = omega (arith, same, at.0, own.0) in
      let first = ap (λ m. back_of nodes (arc_number n m).tail) (sym is) ∙ tail in
      let second = ap (λ m. back_of nodes (arc_number n m).head) (sym is) ∙ head in
      let both : back_of nodes start ≡ back_of nodes end = from-ends nodes hop.against (arc_number n hop.arc) (first ∙ sym second) in
      both_ways (back_of nodes start) crossing.from_ahead (both ∙ crossing.to_behind))

  pub steps-over : (side : Bool) → HasSteps n over e nodes side
  steps-over side = steps-moved n e nodes found side before over grown (between-over side) shifted-over.kept

  -- It is sent up to the node that the exits leave,
  module _ (middle : List ℕ) (none : ℕ) (first : IsClimbed n e nodes start amount over middle none) (others : KeepsOthers n nodes (back_of nodes start) over middle) where
    pub shifted-middle : AreShifted n e e.node end amount before middle
    shifted-middle = shifted-before n e start end e.node amount before over middle shifted-over (first.ahead crossing.from_ahead)

    pub steps-middle : HasSteps n middle e nodes (back_of nodes end)
    steps-middle =
        steps-moved n e nodes found (back_of nodes end) before middle grown
        (λ i there tail head.
        let apart : back_of nodes (arc_number n i).tail ≢ back_of nodes start = λ same.
        both_ways (back_of nodes (arc_number n i).tail) (same ∙ crossing.from_ahead) (tail ∙ crossing.to_behind) in
        others i there (inl apart) ∙ between-over (back_of nodes end) i there tail head)
        shifted-middle.kept

    -- and from behind down to an exit.
    module _ (after : List ℕ) (exit : ℕ) (second : IsClimbed n e nodes end amount middle after exit) where
      abbrev left : ℕ
      left = flow_on after exit - amount

      abbrev taken : List ℕ
      taken = set after (exit - 1) left

      pub exit-there : has_arc n exit ≡ true
      exit-there = second.is_there crossing.to_behind

      pub exit-is : is_exit n e exit ≡ true
      exit-is = second.is_exit crossing.to_behind

      pub exit-carries : amount ≤ flow_on after exit
      exit-carries = second.carries crossing.to_behind

      shifted-all : AreShifted n e (arc_number n exit).tail (arc_number n exit).head amount before after
      shifted-all = subst (λ u. AreShifted n e u (arc_number n exit).head amount before after) (sym (exit-tail n e exit exits exit-is))
          (shifted-after n e e.node end (arc_number n exit).head amount before middle after shifted-middle (second.behind crossing.to_behind))

      all : left + amount ≡ flow_on before exit
      all = omega (arith, exit-carries, shifted-all.kept exit exit-there (barred-exit n e exit exit-is))

      pub long-after : length after ≡ length n.arcs
      long-after = AllZip-long _ n.arcs after shifted-all.within

      pub moved-taken : exit_flow n e taken + amount ≡ exit_flow n e before
      moved-taken = exit_flow-taken n e exit amount left before after exit-there exit-is (AllZip-long _ n.arcs before greatest.flow.within) long-after
          (λ i there is. shifted-all.kept i there (barred-exit n e i is)) all

      pub taken-greatest : IsGreatest n taken
      taken-greatest = greatest-taken n e exit amount left before after exit-there greatest shifted-all exit-is all

      pub taken-ranks : AreRanks n before e.ranks.now → AreRanks n taken e.ranks.now
      taken-ranks = ranks-taken n e exit left before after exit-there (second.level crossing.to_behind) shifted-all.kept
