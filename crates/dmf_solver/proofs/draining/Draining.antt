-- Draining an arc has one outcome, which is a flow.
use Rattle.std.proofs.Common.{ℕ, ◌≡◌, ◌+◌, ◌-◌, ◌<◌, ◌≤◌, zero, suc, true, List, [], ◌∷◌, refl, ap, sym, ◌∙◌, subst, arith, ⊎_elim}
use Rattle.std.specs.List.{AllZip}
use Rattle.std.proofs.lemmas.Bool.{cases_lt}
use Rattle.std.proofs.lemmas.Int.{ints}
use Rattle.dmf_path.specs.Step.{Step}
use Rattle.dmf_state.specs.Network.{Network, IsNetwork, arc_number, has_arc}
use Rattle.dmf_state.specs.Flow.{flow_on, IsFlow}
use Rattle.dmf_state.specs.NetworkState.{NetworkState, IsState, with_flows}
use Rattle.dmf_solver.specs.Drain.{carrying_steps, lowered, Lowers, Drains, TakesOff}
use Rattle.dmf_path.proofs.paths.OneLeast.{one-least}
use Rattle.dmf_path.proofs.paths.SomeLeast.{SomeLeast}
use Rattle.dmf_solver.proofs.draining.CarryingSteps.{AreSteps-carrying, carrying-least}
use Rattle.dmf_solver.proofs.draining.Lowering.{CanLower, lowered-amount, lowered-no_more, lowered-on, lowered-flow, lowered-value}

-- No number of the second list exceeds the number at its place in the first.
abbrev pub IsNoMore : List ℕ → List ℕ → Type 0
IsNoMore xs ys = AllZip (λ x y. y ≤ x) xs ys

pub no_more-same : (xs : List ℕ) → IsNoMore xs xs
no_more-same [] = tt
no_more-same (x ∷ xs) = (omega arith, no_more-same xs)

-- What is no more than what is no more is no more.
pub no_more-in_turn : (xs ys zs : List ℕ) → IsNoMore xs ys → IsNoMore ys zs → IsNoMore xs zs
no_more-in_turn [] [] zs first second = second
no_more-in_turn [] (y ∷ ys) zs first second = absurd first
no_more-in_turn (x ∷ xs) [] zs first second = absurd first
no_more-in_turn (x ∷ xs) (y ∷ ys) [] first second = absurd second
no_more-in_turn (x ∷ xs) (y ∷ ys) (z ∷ zs) first second = (omega (arith, first.0, second.0), no_more-in_turn xs ys zs first.1 second.1)

-- If the flows stay, nothing is taken off.
pub TakesOff-none : (n : Network) (amount : ℕ) (flows : List ℕ) → IsFlow n flows → TakesOff n amount flows flows
TakesOff-none n amount flows flow = record {
  no_more = no_more-same flows;
  flow = flow;
  value = omega (arith, ints);
  untouched = λ none. refl;
}

-- Lowering an arc leaves a state,
pub lowered-state : (s : NetworkState) (j limit : ℕ) (flows : List ℕ) (path : List Step) → IsState (with_flows s flows)
    → CanLower s.network j limit flows path → IsState (with_flows s (lowered j limit path flows))
lowered-state s j limit flows path state can = record {
  network = state.network;
  flow = lowered-flow s.network j limit flows path can;
  value_from_zero = (lowered-value s.network j limit flows path can state.value_from_zero).1;
}

-- and so does lowering it along paths in turn.
lowers-state : (s : NetworkState) (j limit : ℕ) (flows last : List ℕ) (paths : List (List Step)) → IsState (with_flows s flows)
    → has_arc s.network j ≡ true → Lowers s.network j limit flows paths last
    → TakesOff s.network (flow_on flows j - limit) flows last × IsState (with_flows s last)
lowers-state s j limit flows last [] state has is =
    subst (λ xs. TakesOff s.network (flow_on flows j - limit) flows xs × IsState (with_flows s xs)) is
    (TakesOff-none s.network (flow_on flows j - limit) flows state.flow, state)
lowers-state s j limit flows last (path ∷ paths) state has goes =
    let next : List ℕ = lowered j limit path flows in
    let can : CanLower s.network j limit flows path =
    record { network = state.network; flow = state.flow; has = has; above = goes.0; least = goes.1 } in
    let amount = lowered-amount s.network j limit flows path can in
    let on = lowered-on s.network j limit flows path can in
    let value = lowered-value s.network j limit flows path can state.value_from_zero in
    let rest = lowers-state s j limit next last paths (lowered-state s j limit flows path state can) has goes.2 in (
      record {
        no_more = no_more-in_turn flows next last (lowered-no_more j limit path flows) rest.0.no_more;
        flow = rest.0.flow;
        value = omega (arith, ints, amount.1, on, value.0, rest.0.value);
        untouched = λ none. absurd (omega (arith, none, goes.0));
      },
      rest.1,
    )

-- Draining leaves a state.
pub drains-state : (s : NetworkState) (j limit : ℕ) (flows last : List ℕ) → IsState (with_flows s flows) → has_arc s.network j ≡ true
    → Drains s.network j limit flows last → TakesOff s.network (flow_on flows j - limit) flows last × IsState (with_flows s last)
drains-state s j limit flows last state has drains = lowers-state s j limit flows last drains.paths state has drains.lowers

-- Lowering the same flows in turn ends at the same flows.
one-lowered : (n : Network) (j limit : ℕ) → IsNetwork n → (a b : List ℕ) → flow_on a j ≤ limit → flow_on b j ≤ limit
    → (flows : List ℕ) (paths more : List (List Step)) → Lowers n j limit flows paths a → Lowers n j limit flows more b → a ≡ b
one-lowered n j limit network a b a_within b_within flows [] [] is same = sym is ∙ same
one-lowered n j limit network a b a_within b_within flows [] (path ∷ more) is goes =
    absurd (omega (arith, goes.0, a_within, ap (λ xs. flow_on xs j) is))
one-lowered n j limit network a b a_within b_within flows (path ∷ paths) [] goes is =
    absurd (omega (arith, goes.0, b_within, ap (λ xs. flow_on xs j) is))
one-lowered n j limit network a b a_within b_within flows (path ∷ paths) (second ∷ more) goes moves =
    let ascend = (AreSteps-carrying n flows network).ascending in
    let same : path ≡ second = one-least (carrying_steps n flows) ascend (arc_number n j).head (arc_number n j).tail path second goes.1 moves.1 in
    one-lowered n j limit network a b a_within b_within (lowered j limit path flows) paths more goes.2
    (subst (λ p. Lowers n j limit (lowered j limit p flows) more b) (sym same) moves.2)

-- Draining the same flows ends at the same flows.
pub one-drained : (n : Network) (j limit : ℕ) (flows a b : List ℕ) → IsNetwork n → Drains n j limit flows a → Drains n j limit flows b → a ≡ b
one-drained n j limit flows a b network drains other =
    one-lowered n j limit network a b drains.within other.within flows drains.paths other.paths drains.lowers other.lowers

-- The flows at which draining ends.
pub record SomeDrained (n : Network) (j limit : ℕ) (flows : List ℕ) : Type 0 where
  pub last : List ℕ
  pub drains : Drains n j limit flows last

-- if no more than the limit flows on the arc
already : (n : Network) (j limit : ℕ) (flows : List ℕ) → flow_on flows j ≤ limit → SomeDrained n j limit flows
already n j limit flows within = record { last = flows; drains = record { paths = []; lowers = refl; within = within } }

-- one more path in front
one-more : (n : Network) (j limit : ℕ) (flows : List ℕ) → limit < flow_on flows j
    → (found : SomeLeast (carrying_steps n flows) (arc_number n j).head (arc_number n j).tail) → SomeDrained n j limit (lowered j limit found.path flows)
    → SomeDrained n j limit flows
one-more n j limit flows above found rest = record {
  last = rest.last;
  drains = record {
    paths = found.path ∷ rest.drains.paths;
    lowers = (above, found.least, rest.drains.lowers);
    within = rest.drains.within;
  };
}

-- Draining ends: each path takes some flow off the arc.
drained : (s : NetworkState) (j limit : ℕ) → has_arc s.network j ≡ true → (left : ℕ) (flows : List ℕ) → IsState (with_flows s flows)
    → flow_on flows j ≤ limit + left → SomeDrained s.network j limit flows
drained s j limit has zero flows state bound = already s.network j limit flows (omega (arith, bound))
drained s j limit has (suc left) flows state bound = ⊎_elim
    (λ (above : limit < flow_on flows j).
    let n : Network = s.network in
    let found : SomeLeast (carrying_steps n flows) (arc_number n j).head (arc_number n j).tail =
    carrying-least n flows j state.network state.flow state.value_from_zero has (omega (arith, above)) in
    let can : CanLower n j limit flows found.path =
    record { network = state.network; flow = state.flow; has = has; above = above; least = found.least } in
    let amount = lowered-amount n j limit flows found.path can in
    let on = lowered-on n j limit flows found.path can in
    one-more n j limit flows above found
    (drained s j limit has left (lowered j limit found.path flows) (lowered-state s j limit flows found.path state can) (omega (arith, amount.0, on, bound))))
    (λ (within : flow_on flows j ≤ limit). already s.network j limit flows within)
    (cases_lt limit (flow_on flows j))

-- Every arc can be drained to a limit.
pub some-drained : (s : NetworkState) (j limit : ℕ) → IsState s → has_arc s.network j ≡ true → SomeDrained s.network j limit s.flows
some-drained s j limit state has = drained s j limit has (flow_on s.flows j) s.flows state (omega arith)
