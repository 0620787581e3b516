use Rattle.std.proofs.Common.{ℕ, ◌≡◌, ◌<◌, Bool, true, false, length, get_or, sym, ◌∙◌, subst, arith, refl}
use Rattle.std.proofs.lemmas.List.{get_or_read, length-set}
use Rattle.dmf_state.specs.Arc.{no_arc}
use Rattle.dmf_state.specs.Network.{Network}
use Rattle.dmf_vital.specs.Extended.{ArePlaced, IsExtended}
use Rattle.dmf_vital.specs.Loss.{IsGainOfArc}
use Rattle.dmf_vital.specs.Ranks.{AreRanks}
use Rattle.dmf_vital.proofs.Gained.{marked, unmarked, up-to, one-more}
use Rattle.dmf_vital.proofs.gain.find_gains.Goals as goal
use Rattle.dmf_vital.proofs.gain.find_gains.Goals.{then-k-arcs+in_ok-gains-2, else-k-arcs, then-not-index+in_ok-gains-3, else-not-index}

pub loop-i-preserved : goal.loop-i-preserved
loop-i-preserved g c =
    let arcs = c.args.arcs.now in
    let k : ℕ = c.index_of-k.result in
    let old = c.loop-i.gains.items in
    let found = c.loop-i.found.items in
    elim c.if-k-arcs.branch [
      | then-k-arcs+in_ok-gains-2 w ↦
          let gain : ℕ = w.in_ok-gains-2.field-0 in
          let inside : k < length old = omega (arith, w.if-k-arcs.true, c.loop-i.invariant.one_each) in
          rw (w.rerouting-is, w.gains-is, w.found-is) (record {
            ready = w.gain_of.ensures.ready;
            ranks = subst (AreRanks c.args.more.now.network w.gain_of.new.rerouting.flows.items) w.deref.ensures.value w.gain_of.ensures.ranks;
            one_each = length-set old k gain ∙ c.loop-i.invariant.one_each;
            marks = length-set found k true ∙ c.loop-i.invariant.marks;
            gains = λ n extended placed. marked (λ j g. IsGainOfArc n (get_or arcs j no_arc) g) old k gain inside
                (w.in_ok-gains-2.ensures.gain n (get_or arcs k no_arc) extended (placed k (omega (arith, w.if-k-arcs.true))) refl)
                found (c.loop-i.invariant.gains n extended placed);
          })
      | else-k-arcs w ↦ rw (w.rerouting-is, w.gains-is, w.found-is) c.loop-i.invariant
    ]

pub loop-k-preserved : goal.loop-k-preserved
loop-k-preserved g c =
    let arcs = c.args.arcs.now in
    let k : ℕ = c.loop-k.k in
    let old = c.loop-k.gains.items in
    let found = c.loop-i.found.items in
    let within : k < length arcs = omega (arith, c.loop-k-test.true) in
    let mark : Bool = c.index-in-loop-k.result.now in
    let is : get_or found k false ≡ mark = sym (get_or_read found k mark (omega (arith, within, c.loop-k.invariant.marks)) c.index-in-loop-k.ensures false) in
    elim c.if-not-index.branch [
      | then-not-index+in_ok-gains-3 w ↦
          let gain : ℕ = w.in_ok-gains-3.field-0 in
          let inside : k < length old = omega (arith, within, c.loop-k.invariant.one_each) in
          let more = c.args.more.now.network in
          let own : (n : Network) → IsExtended n more (length n.arcs) → ArePlaced n more arcs c.args.firsts.now (length arcs) → IsGainOfArc n (get_or arcs k no_arc) gain =
          λ n extended placed. w.in_ok-gains-3.ensures.gain n (get_or arcs k no_arc) extended (placed k within) refl in
          rw (w.rerouting-is, w.gains-is) (record {
            ready = w.gain_of-then-not-index.ensures.ready;
            ranks = subst (AreRanks c.args.more.now.network w.gain_of-then-not-index.new.rerouting.flows.items) w.deref-then-not-index.ensures.value
                w.gain_of-then-not-index.ensures.ranks;
            one_each = length-set old k gain ∙ c.loop-k.invariant.one_each;
            marks = c.loop-k.invariant.marks;
            gains = λ n extended placed. unmarked (λ j g. IsGainOfArc n (get_or arcs j no_arc) g) old k gain inside (own n extended placed) found
                (c.loop-k.invariant.gains n extended placed);
            before = λ n extended placed. up-to (λ j g. IsGainOfArc n (get_or arcs j no_arc) g) old k gain inside (own n extended placed)
                (c.loop-k.invariant.before n extended placed);
          })
      | else-not-index w ↦ rw (w.rerouting-is, w.gains-is) (record {
        ready = c.loop-k.invariant.ready;
        ranks = c.loop-k.invariant.ranks;
        one_each = c.loop-k.invariant.one_each;
        marks = c.loop-k.invariant.marks;
        gains = c.loop-k.invariant.gains;
        before = λ n extended placed. one-more (λ j g. IsGainOfArc n (get_or arcs j no_arc) g) old k
            (c.loop-k.invariant.gains n extended placed k (is ∙ w.if-not-index.false)) (c.loop-k.invariant.before n extended placed);
      })
    ]
