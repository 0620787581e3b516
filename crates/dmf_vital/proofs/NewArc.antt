-- What the greatest value gains by a new arc, told by what is lost of two arcs of an extended network: one from the source to its tail, and
-- one from its head to the sink.
use Rattle.std.proofs.Common.{length, ℕ, ◌≡◌, ◌+◌, ◌-◌, ◌≤◌, ◌&&◌, ◌⊎◌, inl, inr, Bool, true, false, not, cond, [], ◌∷◌, ◌++◌, refl, ap, sym, ◌∙◌}
use Rattle.std.proofs.Common.{subst, arith, ⊎_elim}
use Rattle.std.proofs.lemmas.Int.{ints}
use Rattle.std.proofs.lemmas.List.{take_all}
use Rattle.std.proofs.lemmas.List.Sums.{sum_by_push, sum_by-set}
use Rattle.std.proofs.lemmas.Slice.Zip.{AllZip-long}
use Rattle.dmf_node.specs.Node.{IsNode}
use Rattle.dmf_state.specs.declared.arc.Arc.{Arc}
use Rattle.dmf_state.specs.Arc.{closed_arc, no_arc, open_arc}
use Rattle.dmf_state.specs.Cut.{IsCut, cut_capacity}
use Rattle.dmf_state.specs.Network.{Network, IsNetwork, arc_number, has_arc}
use Rattle.dmf_state.proofs.ChangedArc.{has_arc-within}
use Rattle.dmf_state.proofs.IdleArc.{IsFlow-idle, flow_value-idle}
use Rattle.dmf_state.proofs.Summing.{part-le}
use Rattle.dmf_solver.proofs.cuts.GreatestFlow.{max_flow-min_cut}
use Rattle.dmf_solver.proofs.cuts.MaxFlowMinCut.{value-le_capacity}
use Rattle.dmf_vital.specs.Extended.{IsExtended, HasDetours}
use Rattle.dmf_vital.specs.GreatestValue.{IsGreatestValue}
use Rattle.dmf_vital.specs.Loss.{IsLossOfArc, IsGainOfArc}
use Rattle.dmf_vital.specs.Without.{with_new_arc, without_arc}
use Rattle.dmf_vital.proofs.Closing.{network-without}

-- ---- greatest values and cuts

-- what an arc brings to a cut
abbrev pub part : (ℕ → Bool) → Arc → ℕ
part has arc = cond (has arc.tail && not (has arc.head)) arc.cap 0

-- A cut that has the greatest value as its capacity.
pub record IsTight (n : Network) (value : ℕ) : Type 0 where
  pub has : ℕ → Bool
  pub cut : IsCut n has
  pub capacity : cut_capacity n.arcs has ≡ value

pub some-tight : (n : Network) (value : ℕ) → IsNetwork n → IsGreatestValue n value → IsTight n value
some-tight n value network is =
    let least = max_flow-min_cut n is.flows network is.greatest in
    record { has = least.has; cut = least.least.cut; capacity = omega (arith, ints, least.capacity, is.value_is) }

pub value-le_cut : (n : Network) (value : ℕ) (has : ℕ → Bool) → IsNetwork n → IsGreatestValue n value → IsCut n has → value ≤ cut_capacity n.arcs has
value-le_cut n value has network is cut =
    omega (arith, ints, value-le_capacity n is.flows has network is.greatest.flow cut, is.value_is)

-- ---- cuts of networks with one arc more or less

pub cut-new : (n : Network) (arc : Arc) (has : ℕ → Bool)
    → cut_capacity (with_new_arc n arc).arcs has ≡ cut_capacity n.arcs has + part has (open_arc arc.tail arc.head arc.cap)
cut-new n arc has = sum_by_push (part has) n.arcs (open_arc arc.tail arc.head arc.cap)

pub cut-closed : (m : Network) (i : ℕ) (has : ℕ → Bool) → has_arc m i ≡ true
    → cut_capacity (without_arc m i).arcs has + part has (arc_number m i) ≡ cut_capacity m.arcs has
cut-closed m i has there =
    let arc : Arc = arc_number m i in
    let sum = sum_by-set (part has) m.arcs (i - 1) (closed_arc arc) no_arc (has_arc-within m i there).1 in
    let none = part-le (has arc.tail && not (has arc.head)) 0 in
    omega (arith, sum, none)

-- ---- of two arcs in a row at most one leads out of a set

one-out : (x y z : Bool) (c : ℕ) → cond (x && not y) c 0 + cond (y && not z) c 0 ≤ c
one-out true true true c = omega arith
one-out true true false c = omega arith
one-out true false z c = omega arith
one-out false true true c = omega arith
one-out false true false c = omega arith
one-out false false z c = omega arith

-- Of three in a row, from one inside to one outside, one does.
some-out : (x y : Bool) (c : ℕ)
    → (cond (true && not x) c 0 ≡ c) ⊎ ((cond (y && not false) c 0 ≡ c) ⊎ (cond (x && not y) c 0 ≡ c))
some-out false y c = inl refl
some-out true true c = inr (inl refl)
some-out true false c = inr (inr refl)

-- ---- an extended network

module _ (n m : Network) (extended : IsExtended n m (length n.arcs)) (value : ℕ) (network : IsNetwork n) (wide : IsNetwork m) (is : IsGreatestValue n value) where
  cuts : (has : ℕ → Bool) → has n.source ≡ true → has n.sink ≡ false → cut_capacity m.arcs has ≡ cut_capacity n.arcs has + extended.total
  cuts has inside outside =
      extended.cuts has inside outside ∙ ap (λ arcs. cut_capacity arcs has + extended.total) (take_all (length n.arcs) n.arcs (omega arith))

  -- A cut of one network is one of the other.
  cut-there : (has : ℕ → Bool) → IsCut n has → IsCut m has
  cut-there has cut = record {
    of_nodes = λ v h. subst (λ k. IsNode k v) (sym extended.nodes) (cut.of_nodes v h);
    source = ap has extended.source ∙ cut.source;
    sink = ap has extended.sink ∙ cut.sink;
  }

  cut-back : (has : ℕ → Bool) → IsCut m has → IsCut n has
  cut-back has cut = record {
    of_nodes = λ v h. subst (λ k. IsNode k v) extended.nodes (cut.of_nodes v h);
    source = ap has (sym extended.source) ∙ cut.source;
    sink = ap has (sym extended.sink) ∙ cut.sink;
  }

  -- Its greatest value is larger by as much as each cut.
  pub value-extended : (whole : ℕ) → IsGreatestValue m whole → whole ≡ value + extended.total
  value-extended whole also =
      let tight = some-tight n value network is in
      let most = value-le_cut m whole tight.has wide also (cut-there tight.has tight.cut) in
      let other = some-tight m whole wide also in
      let back = cut-back other.has other.cut in
      let least = value-le_cut n value other.has network is back in
      omega (
        arith,
        most,
        least,
        tight.capacity,
        other.capacity,
        cuts tight.has tight.cut.source tight.cut.sink,
        cuts other.has back.source back.sink,
      )

  module _ (i loss : ℕ) (lost : IsLossOfArc m i loss) where
    -- No cut of the network has less than the value, the loss of an arc and what that arc brings.
    pub loss-le_cut : (has : ℕ → Bool) → IsCut n has → value + part has (arc_number m i) ≤ cut_capacity n.arcs has + loss
    loss-le_cut has cut =
        let there = cut-there has cut in
        let own : IsCut (without_arc m i) has = record { of_nodes = there.of_nodes; source = there.source; sink = there.sink } in
        let least = value-le_cut (without_arc m i) lost.1.after has (network-without m i lost.0 wide) lost.1.greatest_after own in
        omega (
          arith,
          least,
          cut-closed m i has lost.0,
          cuts has cut.source cut.sink,
          value-extended lost.1.before lost.1.greatest_before,
          lost.1.difference,
        )

    -- Some cut has that.
    pub record IsCutOfLoss : Type 0 where
      pub has : ℕ → Bool
      pub cut : IsCut n has
      pub capacity : value + part has (arc_number m i) ≡ cut_capacity n.arcs has + loss

    pub cut-of_loss : IsCutOfLoss
    cut-of_loss =
        let tight = some-tight (without_arc m i) lost.1.after (network-without m i lost.0 wide) lost.1.greatest_after in
        let back = cut-back tight.has (record { of_nodes = tight.cut.of_nodes; source = tight.cut.source; sink = tight.cut.sink }) in
        record {
          has = tight.has;
          cut = back;
          capacity = omega (
            arith,
            tight.capacity,
            cut-closed m i tight.has lost.0,
            cuts tight.has back.source back.sink,
            value-extended lost.1.before lost.1.greatest_before,
            lost.1.difference,
          );
        }

-- ---- with any new arc

-- The flow that the network has is one with the new arc idle, so the greatest value falls for none,
pub value-le_new : (n : Network) (arc : Arc) (value more : ℕ) → IsGreatestValue n value → IsGreatestValue (with_new_arc n arc) more → value ≤ more
value-le_new n arc value more is now =
    let new : Arc = open_arc arc.tail arc.head arc.cap in
    let flow = is.greatest.flow in
    let same = flow_value-idle n is.flows new (AllZip-long _ n.arcs is.flows flow.within) in
    let best = now.greatest.none_larger (is.flows ++ 0 ∷ []) (IsFlow-idle n is.flows new flow) in
    omega (arith, ints, best, same, is.value_is, now.value_is)

-- and a minimum cut has at most its capacity more, so it rises by no more.
pub new-le_capacity : (n : Network) (arc : Arc) (value more : ℕ) → IsNetwork n → IsNetwork (with_new_arc n arc) → IsGreatestValue n value
    → IsGreatestValue (with_new_arc n arc) more → more ≤ value + arc.cap
new-le_capacity n arc value more network fits is now =
    let tight = some-tight n value network is in
    let most = value-le_cut (with_new_arc n arc) more tight.has fits now
    (record { of_nodes = tight.cut.of_nodes; source = tight.cut.source; sink = tight.cut.sink }) in
    omega (arith, most, cut-new n arc tight.has, tight.capacity, part-le (tight.has arc.tail && not (tight.has arc.head)) arc.cap)

-- If it does not lead out of a minimum cut, it gains nothing.
pub none-inside : (n : Network) (arc : Arc) (value more : ℕ) (has : ℕ → Bool) → IsNetwork (with_new_arc n arc) → IsCut n has
    → cut_capacity n.arcs has ≡ value → part has (open_arc arc.tail arc.head arc.cap) ≡ 0 → IsGreatestValue n value → IsGreatestValue (with_new_arc n arc) more → more ≡ value
none-inside n arc value more has fits cut capacity none is now =
    let most = value-le_cut (with_new_arc n arc) more has fits now (record { of_nodes = cut.of_nodes; source = cut.source; sink = cut.sink }) in
    omega (arith, most, cut-new n arc has, capacity, none, value-le_new n arc value more is now)

-- ---- the gain

module _ (n m : Network) (arc : Arc) (first tail_loss head_loss : ℕ) (network : IsNetwork n) (wide : IsNetwork m)
    (fits : IsNetwork (with_new_arc n arc)) (extended : IsExtended n m (length n.arcs)) (detours : HasDetours n m first arc) (tail : IsLossOfArc m first tail_loss) (head : IsLossOfArc m (first + 3) head_loss)
    (value more : ℕ) (is : IsGreatestValue n value) (now : IsGreatestValue (with_new_arc n arc) more) where
  as-new : (has : ℕ → Bool) → IsCut n has → IsCut (with_new_arc n arc) has
  as-new has cut = record { of_nodes = cut.of_nodes; source = cut.source; sink = cut.sink }

  to-tail : (has : ℕ → Bool) → part has (arc_number m first) ≡ cond (has n.source && not (has arc.tail)) arc.cap 0
  to-tail has = ap (part has) detours.to_tail

  from-head : (has : ℕ → Bool) → part has (arc_number m (first + 3)) ≡ cond (has arc.head && not (has n.sink)) arc.cap 0
  from-head has = ap (part has) detours.from_head

  -- It is at most the capacity without either loss,
  pub gain-le_tail : more + tail_loss ≤ value + arc.cap
  gain-le_tail =
      let cut = cut-of_loss n m extended value network wide is first tail_loss tail in
      let most = value-le_cut (with_new_arc n arc) more cut.has fits now (as-new cut.has cut.cut) in
      omega (
        arith,
        most,
        cut-new n arc cut.has,
        cut.capacity,
        to-tail cut.has,
        one-out (cut.has n.source) (cut.has arc.tail) (cut.has arc.head) arc.cap,
      )

  pub gain-le_head : more + head_loss ≤ value + arc.cap
  gain-le_head =
      let cut = cut-of_loss n m extended value network wide is (first + 3) head_loss head in
      let most = value-le_cut (with_new_arc n arc) more cut.has fits now (as-new cut.has cut.cut) in
      omega (
        arith,
        most,
        cut-new n arc cut.has,
        cut.capacity,
        from-head cut.has,
        one-out (cut.has arc.tail) (cut.has arc.head) (cut.has n.sink) arc.cap,
      )

  -- and a minimum cut of the network with the new arc says that it is at least the capacity, or that without one of the losses.
  pub some-gain_whole : (value + arc.cap ≤ more) ⊎ ((value + arc.cap ≤ more + tail_loss) ⊎ (value + arc.cap ≤ more + head_loss))
  some-gain_whole =
      let tight = some-tight (with_new_arc n arc) more fits now in
      let has : ℕ → Bool = tight.has in
      let cut : IsCut n has = record { of_nodes = tight.cut.of_nodes; source = tight.cut.source; sink = tight.cut.sink } in
      let plain = value-le_cut n value has network is cut in
      let at_tail = loss-le_cut n m extended value network wide is first tail_loss tail has cut in
      let at_head = loss-le_cut n m extended value network wide is (first + 3) head_loss head has cut in
      let new = cut-new n arc has in
      let before : part has (arc_number m first) ≡ cond (true && not (has arc.tail)) arc.cap 0 =
      to-tail has ∙ ap (λ b. cond (b && not (has arc.tail)) arc.cap 0) cut.source in
      let after : part has (arc_number m (first + 3)) ≡ cond (has arc.head && not false) arc.cap 0 =
      from-head has ∙ ap (λ b. cond (has arc.head && not b) arc.cap 0) cut.sink in
      ⊎_elim
      (λ out. inr (inl (omega (arith, at_tail, before, out, new, tight.capacity))))
      (⊎_elim
      (λ out. inr (inr (omega (arith, at_head, after, out, new, tight.capacity))))
      (λ out. inl (omega (arith, plain, new, out, tight.capacity))))
      (some-out (has arc.tail) (has arc.head) arc.cap)

  -- So it is the less of the capacity without one and without the other.
  pub gain-is : (gain : ℕ) → (gain ≡ arc.cap - tail_loss) ⊎ (gain ≡ arc.cap - head_loss) → gain ≤ arc.cap - tail_loss → gain ≤ arc.cap - head_loss
      → IsGainOfArc n arc gain
  gain-is gain one by_tail by_head =
      let none_falls = value-le_new n arc value more is now in
      let upper : more ≤ value + gain =
      ⊎_elim (λ e. omega (arith, e, gain-le_tail, none_falls)) (λ e. omega (arith, e, gain-le_head, none_falls)) one in
      let lower : value + gain ≤ more =
      ⊎_elim
      (λ least. omega (arith, least, by_tail))
      (⊎_elim (λ least. omega (arith, least, by_tail, gain-le_tail, none_falls)) (λ least. omega (arith, least, by_head, gain-le_head, none_falls)))
      some-gain_whole in
      record {
        before = more;
        after = value;
        greatest_before = now;
        greatest_after = is;
        difference = omega (arith, upper, lower);
      }
