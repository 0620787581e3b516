-- Flow that is sent along the steps of a path and taken back.
use Rattle.std.proofs.Common.{ℕ, zero, suc, ◌≡◌, ◌+◌, ◌-◌, ◌<◌, ◌≤◌, List, [], ◌∷◌, length, get_or, set, true, false, refl, ap, sym, ◌∙◌, subst, arith}
use Rattle.std.proofs.lemmas.List.{get_or-set_same, get_or-set_other, set-set}
use Rattle.std.proofs.lemmas.Slice.Zip.{AllZip-long}
use Rattle.dmf_state.specs.Flow.{flow_on, AreWithinCapacities}
use Rattle.dmf_state.specs.Network.{Network, arc_number, has_arc}
use Rattle.dmf_state.proofs.ChangedArc.{has_arc-within}
use Rattle.dmf_vital.specs.declared.along.Carried.{Carried}
use Rattle.dmf_vital.specs.declared.exits.Exits.{Exits}
use Rattle.dmf_vital.specs.declared.hop.Hop.{Hop}
use Rattle.dmf_solver.specs.Greatest.{IsGreatest}
use Rattle.dmf_vital.specs.Exits.{AreExits, exit_flow, is_exit}
use Rattle.dmf_vital.specs.Hop.{sent, to_of}
use Rattle.dmf_vital.specs.Ranks.{AreRanks, is_across}
use Rattle.dmf_vital.specs.Sent.{nothing_carried, taken_back, GoesOn, IsTakenBack}
use Rattle.dmf_vital.specs.Shifted.{AreShifted}
use Rattle.dmf_vital.proofs.Level.{barred-exit, ranks-taken}
use Rattle.dmf_vital.proofs.Pushed.{greatest-taken, shifted-after, shifted-step}
use Rattle.dmf_vital.proofs.Summed.{exit-tail, exit_flow-taken}

-- Setting an element past the last changes nothing.
pub set-past : (xs : List ℕ) (k x : ℕ) → length xs ≤ k → set xs k x ≡ xs
set-past [] k x h = refl
set-past (y ∷ ys) zero x h = absurd (omega (arith, h))
set-past (y ∷ ys) (suc k) x h = ap (λ (zs : List ℕ). y ∷ zs) (set-past ys k x (omega (arith, h)))

-- Setting an element to what it is changes nothing.
pub set-own : (xs : List ℕ) (k d : ℕ) → set xs k (get_or xs k d) ≡ xs
set-own [] k d = refl
set-own (y ∷ ys) zero d = refl
set-own (y ∷ ys) (suc k) d = ap (λ (zs : List ℕ). y ∷ zs) (set-own ys k d)

-- What was noted of later changes does not matter.
pub back-earlier : (before : List Carried) (i : ℕ) (one : Carried) (k : ℕ) (flows : List ℕ) → k ≤ i → taken_back (set before i one) k flows ≡ taken_back before k flows
unfolding taken_back
back-earlier before i one zero flows h = refl
back-earlier before i one (suc k) flows h =
    let same : get_or (set before i one) k nothing_carried ≡ get_or before k nothing_carried =
    get_or-set_other before i k one nothing_carried (λ e. omega (arith, e, h)) in
    ap (λ (c : Carried). taken_back (set before i one) k (set flows c.index c.flow)) same
    ∙ back-earlier before i one k (set flows (get_or before k nothing_carried).index (get_or before k nothing_carried).flow) (omega (arith, h))

-- One more change is noted, and the flow changes there.
pub back-next : (before : List Carried) (k i x y : ℕ) (flows : List ℕ) → k < length before → y ≡ get_or flows i 0
    → taken_back (set before k (record { index = i; flow = y })) (suc k) (set flows i x) ≡ taken_back before k flows
unfolding taken_back
back-next before k i x y flows h is =
    let one : Carried = record { index = i; flow = y } in
    ap (λ (c : Carried). taken_back (set before k one) k (set (set flows i x) c.index c.flow)) (get_or-set_same before k one nothing_carried h)
    ∙ ap (taken_back (set before k one) k) (set-set flows i x y ∙ ap (set flows i) is ∙ set-own flows i 0)
    ∙ back-earlier before k one k flows (omega arith)

-- One more step is sent over.
pub sent-on : (n : Network) (e : Exits) (a at amount : ℕ) (before now : List ℕ) (hop : Hop) → AreShifted n e a at amount before now
    → GoesOn n e at hop amount now
    → AreShifted n e a (to_of hop.against (arc_number n hop.arc)) amount before (set now (hop.arc - 1) (sent hop.against amount (flow_on now hop.arc)))
sent-on n e a at amount before now hop was goes =
    let after : List ℕ = set now (hop.arc - 1) (sent hop.against amount (flow_on now hop.arc)) in
    let to : ℕ = to_of hop.against (arc_number n hop.arc) in
    let step = shifted-step n e hop.arc amount hop.against now goes.is_there goes.other was.within goes.room in
    shifted-after n e a at to amount before now after was (subst (λ u. AreShifted n e u to amount now after) goes.from step)

-- There is an arc for the step, and its flow.
pub goes-within : (n : Network) (e : Exits) (at amount : ℕ) (now : List ℕ) (hop : Hop) → AreWithinCapacities n.arcs now → GoesOn n e at hop amount now
    → (1 ≤ hop.arc) × (hop.arc ≤ length now)
goes-within n e at amount now hop within goes =
    let is = has_arc-within n hop.arc goes.is_there in
    (omega (arith, is.0), omega (arith, is.0, is.1, AllZip-long _ n.arcs now within))

-- At first nothing is sent.
pub sent-nothing : (n : Network) (e : Exits) (v amount : ℕ) (flows : List ℕ) → AreWithinCapacities n.arcs flows → AreShifted n e v v amount flows flows
sent-nothing n e v amount flows within = record { within = within; balance = λ u. refl; kept = λ i there barred. refl }

-- What was sent so far can be taken back, and so can what is sent over one more step.
pub back-more : (before : List Carried) (k i x y : ℕ) (flows first : List ℕ) → k < length before → y ≡ get_or flows i 0 → IsTakenBack before k flows first
    → IsTakenBack (set before k (record { index = i; flow = y })) (k + 1) (set flows i x) first
back-more before k i x y flows first h is back = record {
  is = let next = back-next before k i x y flows h is in
      ap (λ m. taken_back (set before k (record { index = i; flow = y })) m (set flows i x)) (let e : k + 1 ≡ suc k = omega arith in e) ∙ next ∙ back.is;
}

-- What is left to be taken back, where something is.
pub back-unfold : (before : List Carried) (k : ℕ) (flows : List ℕ) → 0 < k
    → taken_back before k flows ≡ taken_back before (k - 1) (set flows (get_or before (k - 1) nothing_carried).index (get_or before (k - 1) nothing_carried).flow)
unfolding taken_back
back-unfold before zero flows some = absurd (omega (arith, some))
back-unfold before (suc k) flows some =
    let e : k ≡ suc k - 1 = omega arith in
    ap (λ m. taken_back before m (set flows (get_or before m nothing_carried).index (get_or before m nothing_carried).flow)) e

-- ---- the flow is taken off the exit

module _ (n : Network) (e : Exits) (exit amount : ℕ) (before after : List ℕ) (exits : AreExits n e) (greatest : IsGreatest n before) (there : has_arc n exit ≡ true)
    (is : is_exit n e exit ≡ true) (level : is_across e.ranks.now (arc_number n exit) ≡ false) (fits : amount ≤ flow_on before exit)
    (sent : AreShifted n e e.node (arc_number n exit).head amount before after) where
  pub along-carries : amount ≤ flow_on after exit
  along-carries = omega (arith, fits, sent.kept exit there (barred-exit n e exit is))

  abbrev left : ℕ
  left = flow_on after exit - amount

  shifted : AreShifted n e (arc_number n exit).tail (arc_number n exit).head amount before after
  shifted = subst (λ u. AreShifted n e u (arc_number n exit).head amount before after) (sym (exit-tail n e exit exits is)) sent

  all : left + amount ≡ flow_on before exit
  all = omega (arith, along-carries, sent.kept exit there (barred-exit n e exit is))

  pub along-long : exit - 1 < length after
  along-long = omega (arith, (has_arc-within n exit there).1, AllZip-long _ n.arcs after sent.within)

  pub along-moves : exit_flow n e (set after (exit - 1) left) + amount ≡ exit_flow n e before
  along-moves = exit_flow-taken n e exit amount left before after there is (AllZip-long _ n.arcs before greatest.flow.within)
      (AllZip-long _ n.arcs after sent.within) (λ i has exits. sent.kept i has (barred-exit n e i exits)) all

  pub along-greatest : IsGreatest n (set after (exit - 1) left)
  along-greatest = greatest-taken n e exit amount left before after there greatest shifted is all

  pub along-ranks : AreRanks n before e.ranks.now → AreRanks n (set after (exit - 1) left) e.ranks.now
  along-ranks = ranks-taken n e exit left before after there level sent.kept
