-- What flows on the exits, summed along a chain, and how it changes.
use Rattle.std.proofs.Common.{ℕ, zero, suc, ◌≡◌, ◌≢◌, ◌+◌, ◌-◌, ◌<◌, ◌≤◌, ◌==◌, ◌&&◌, not, Bool, true, false, cond, List, [], ◌∷◌, length, get_or, set, take, refl, ap, sym, ◌∙◌, subst}
use Rattle.std.proofs.Common.{arith, sum_by, ⊎_elim}
use Rattle.std.specs.List.{zip}
use Rattle.std.proofs.lemmas.Bool.{and_parts, both_ways, cases_eq, eqb-true, ne_eqb, not-true}
use Rattle.std.proofs.lemmas.Bool.Decides.{eqb_tells}
use Rattle.std.proofs.lemmas.List.{get_or-set_same, take_all}
use Rattle.std.proofs.lemmas.List.Sums.{sum_by-cons, sum_by-set, sum_by_more}
use Rattle.std.proofs.lemmas.Slice.Zip.{AllZip-long, get_or-zip, length-zip}
use Rattle.dmf_node.specs.Node.{IsNode}
use Rattle.dmf_state.specs.declared.arc.Arc.{Arc}
use Rattle.dmf_state.specs.Arc.{capacity_sum, no_arc}
use Rattle.dmf_state.specs.Flow.{flow_on, AreWithinCapacities}
use Rattle.dmf_state.specs.Network.{Network, arc_number, has_arc}
use Rattle.dmf_state.proofs.ChangedArc.{has_arc-within}
use Rattle.dmf_state.proofs.Changing.{zip-set}
use Rattle.dmf_state.proofs.Summing.{part-le}
use Rattle.dmf_vital.specs.declared.exits.Exits.{Exits}
use Rattle.dmf_vital.specs.Chains.{AreChains}
use Rattle.dmf_vital.specs.Exits.{AreExits, is_exit, exit_flow}
use Rattle.dmf_vital.specs.Through.{flow_through, part_off}
use Rattle.dmf_vital.proofs.Chained.{has-arc}

-- ---- the ends of an exit

-- whether the arc leads from node `v` to another
abbrev pub leads_off : ℕ → Arc → Bool
leads_off v arc = arc.tail == v && not (arc.head == v)

pub off-tail : (v : ℕ) (arc : Arc) → leads_off v arc ≡ true → arc.tail ≡ v
off-tail v arc e = eqb-true arc.tail v (and_parts (arc.tail == v) (not (arc.head == v)) e).0

pub off-head : (v : ℕ) (arc : Arc) → leads_off v arc ≡ true → arc.head ≢ v
off-head v arc e same = ⊎_elim
    (λ (here : ((arc.head == v) ≡ true) × (arc.head ≡ v)).
    both_ways (arc.head == v) (not-true (arc.head == v) (and_parts (arc.tail == v) (not (arc.head == v)) e).1) here.0)
    (λ (elsewhere : ((arc.head == v) ≡ false) × (arc.head ≢ v)). elsewhere.1 same)
    (eqb_tells arc.head v)

module _ (n : Network) (e : Exits) where
  -- If they are all arcs from a node to others, an exit is one of these,
  pub exit-off : (i : ℕ) → e.arc ≡ 0 → is_exit n e i ≡ leads_off e.node (arc_number n i)
  exit-off i all = ap (λ m. cond (m == 0) (leads_off e.node (arc_number n i)) (i == m)) all

  -- and else it is the only one.
  pub exit-only : (i : ℕ) → e.arc ≢ 0 → is_exit n e i ≡ true → i ≡ e.arc
  exit-only i one exit = eqb-true i e.arc (rw (ne_eqb e.arc 0 one) at exit)

  pub exit-tail : (i : ℕ) → AreExits n e → is_exit n e i ≡ true → (arc_number n i).tail ≡ e.node
  exit-tail i are exit = ⊎_elim
      (λ (all : e.arc ≡ 0). off-tail e.node (arc_number n i) (sym (exit-off i all) ∙ exit))
      (λ (one : e.arc ≢ 0). ap (λ m. (arc_number n m).tail) (exit-only i one exit) ∙ are.tail one)
      (cases_eq e.arc 0)

  pub exit-head : (i : ℕ) → AreExits n e → is_exit n e i ≡ true → (arc_number n i).head ≢ e.node
  exit-head i are exit same = ⊎_elim
      (λ (all : e.arc ≡ 0). off-head e.node (arc_number n i) (sym (exit-off i all) ∙ exit) same)
      (λ (one : e.arc ≢ 0). are.head one (ap (λ m. (arc_number n m).head) (sym (exit-only i one exit)) ∙ same))
      (cases_eq e.arc 0)

-- ---- the sum changes

same_part : (b : Bool) (x y : ℕ) → (b ≡ true → x ≡ y) → cond b x 0 ≡ cond b y 0
same_part true x y same = same refl
same_part false x y same = refl

-- Flows that are the same on these arcs have the same sum.
through-same : (v : ℕ) (arcs : List Arc) (xs ys : List ℕ) → length xs ≡ length arcs → length ys ≡ length arcs
    → ((k : ℕ) → k < length arcs → leads_off v (get_or arcs k no_arc) ≡ true → get_or xs k 0 ≡ get_or ys k 0)
    → sum_by (part_off v) (zip arcs xs) ≡ sum_by (part_off v) (zip arcs ys)
through-same v [] xs ys long also same = refl
through-same v (arc ∷ arcs) [] ys long also same = absurd (omega (arith, long))
through-same v (arc ∷ arcs) (x ∷ xs) [] long also same = absurd (omega (arith, also))
through-same v (arc ∷ arcs) (x ∷ xs) (y ∷ ys) long also same = omega (
  arith,
  same_part (leads_off v arc) x y (same 0 (omega arith)),
  through-same v arcs xs ys (omega (arith, long)) (omega (arith, also)) (λ k h off. same (suc k) (omega (arith, h)) off),
  sum_by-cons (part_off v) (arc, x) (zip arcs xs),
  sum_by-cons (part_off v) (arc, y) (zip arcs ys),
)

-- One of them changes.
through-set : (v : ℕ) (arcs : List Arc) (flows : List ℕ) (k y : ℕ) → length flows ≡ length arcs → k < length arcs
    → sum_by (part_off v) (zip arcs (set flows k y)) + cond (leads_off v (get_or arcs k no_arc)) (get_or flows k 0) 0
    ≡ sum_by (part_off v) (zip arcs flows) + cond (leads_off v (get_or arcs k no_arc)) y 0
through-set v arcs flows k y same h =
    let long : k < length (zip arcs flows) = rw length-zip (omega arith) in
    let old : part_off v (get_or (zip arcs flows) k (no_arc, 0)) ≡ cond (leads_off v (get_or arcs k no_arc)) (get_or flows k 0) 0 =
    ap (part_off v) (get_or-zip arcs flows k (no_arc, 0) h (omega arith)) in
    rw (← old, zip-set arcs flows k y) (sum_by-set (part_off v) (zip arcs flows) k (get_or arcs k no_arc, y) (no_arc, 0) long)

-- The flow on one exit falls by an amount, and stays the same on the others: so does the flow on all.
pub exit_flow-taken : (n : Network) (e : Exits) (j amount left : ℕ) (before after : List ℕ) → has_arc n j ≡ true → is_exit n e j ≡ true
    → length before ≡ length n.arcs → length after ≡ length n.arcs
    → ((i : ℕ) → has_arc n i ≡ true → is_exit n e i ≡ true → flow_on after i ≡ flow_on before i) → left + amount ≡ flow_on before j
    → exit_flow n e (set after (j - 1) left) + amount ≡ exit_flow n e before
exit_flow-taken n e j amount left before after there exit long also kept all = ⊎_elim
    (λ (none : e.arc ≡ 0).
    let v : ℕ = e.node in
    let at = has_arc-within n j there in
    let off : leads_off v (arc_number n j) ≡ true = sym (exit-off n e j none) ∙ exit in
    let same = through-same v n.arcs after before also long (λ k h leads.
    let index : k + 1 - 1 ≡ k = omega arith in
    let has : has_arc n (k + 1) ≡ true = has-arc n (k + 1) (omega arith) (omega (arith, h)) in
    let is : is_exit n e (k + 1) ≡ true = exit-off n e (k + 1) none ∙ ap (λ i. leads_off v (get_or n.arcs i no_arc)) index ∙ leads in
    ap (λ i. get_or after i 0) (sym index) ∙ kept (k + 1) has is ∙ ap (λ i. get_or before i 0) index) in
    let now = rw off at (through-set v n.arcs after (j - 1) left also at.1) in
    let first : exit_flow n e (set after (j - 1) left) ≡ flow_through n (set after (j - 1) left) v =
    ap (λ m. cond (m == 0) (flow_through n (set after (j - 1) left) v) (flow_on (set after (j - 1) left) m)) none in
    let second : exit_flow n e before ≡ flow_through n before v = ap (λ m. cond (m == 0) (flow_through n before v) (flow_on before m)) none in
    omega (arith, first, second, same, now, kept j there exit, all))
    (λ (one : e.arc ≢ 0).
    let at = has_arc-within n j there in
    let is = exit-only n e j one exit in
    let test = ne_eqb e.arc 0 one in
    let first : exit_flow n e (set after (j - 1) left) ≡ flow_on (set after (j - 1) left) e.arc = rw test refl in
    let second : exit_flow n e before ≡ flow_on before e.arc = rw test refl in
    let own : flow_on (set after (j - 1) left) j ≡ left = get_or-set_same after (j - 1) left 0 (omega (arith, at.1, also)) in
    let third = ap (flow_on (set after (j - 1) left)) is in
    let fourth = ap (flow_on before) is in
    omega (arith, first, second, own, third, fourth, all))
    (cases_eq e.arc 0)

-- ---- the sum along a chain

-- the sum over the first arcs
abbrev pub sum_first : ℕ → List Arc → List ℕ → ℕ → ℕ
sum_first v arcs flows k = sum_by (part_off v) (take k (zip arcs flows))

first-more : (v : ℕ) (arcs : List Arc) (flows : List ℕ) (i : ℕ) → length flows ≡ length arcs → i < length arcs
    → sum_first v arcs flows (i + 1) ≡ sum_first v arcs flows i + cond (leads_off v (get_or arcs i no_arc)) (get_or flows i 0) 0
first-more v arcs flows i same h =
    let long : i < length (zip arcs flows) = rw length-zip (omega arith) in
    sum_by_more (part_off v) (zip arcs flows) i (no_arc, 0) long
    ∙ ap (λ p. sum_by (part_off v) (take i (zip arcs flows)) + part_off v p) (get_or-zip arcs flows i (no_arc, 0) h (omega arith))

-- Arcs that are not from the node add nothing.
first-skip : (v : ℕ) (arcs : List Arc) (flows : List ℕ) (next more : ℕ) → length flows ≡ length arcs → next + more ≤ length arcs
    → ((i : ℕ) → next ≤ i → i < next + more → (get_or arcs i no_arc).tail ≢ v) → sum_first v arcs flows (next + more) ≡ sum_first v arcs flows next
first-skip v arcs flows next zero same h none = ap (sum_first v arcs flows) (omega arith)
first-skip v arcs flows next (suc more) same h none =
    let i : ℕ = next + more in
    let before = first-skip v arcs flows next more same (omega (arith, h)) (λ m from to. none m from (omega (arith, to))) in
    let index : next + suc more ≡ i + 1 = omega arith in
    let off : leads_off v (get_or arcs i no_arc) ≡ false = ap (λ b. b && not ((get_or arcs i no_arc).head == v)) (ne_eqb (get_or arcs i no_arc).tail v (none i (omega arith) (omega arith))) in
    let now = rw off at (first-more v arcs flows i same (omega (arith, h))) in
    ap (sum_first v arcs flows) index ∙ omega (arith, now, before)

-- All is summed.
first-all : (v : ℕ) (arcs : List Arc) (flows : List ℕ) (k : ℕ) → length flows ≡ length arcs → length arcs ≤ k
    → sum_first v arcs flows k ≡ sum_by (part_off v) (zip arcs flows)
first-all v arcs flows k same long = ap (sum_by (part_off v)) (take_all k (zip arcs flows) (rw length-zip (omega (arith, same, long))))

-- The sum so far, and what is left to sum up to the present arc of the chain, are all.
pub record IsSummed (n : Network) (flows : List ℕ) (v sum arc : ℕ) : Type 0 where
  pub all : sum + sum_first v n.arcs flows arc ≡ flow_through n flows v
  pub within : arc ≤ length n.arcs
  pub own : 0 < arc → (arc_number n arc).tail ≡ v

module _ (n : Network) (flows : List ℕ) (last before : List ℕ) (chains : AreChains false n.nodes n.arcs last before) (v : ℕ) (node : IsNode n.nodes v)
    (long : length flows ≡ length n.arcs) where
  pub summed-none : (arc : ℕ) → arc ≡ get_or last (v - 1) 0 → IsSummed n flows v 0 arc
  summed-none arc is =
      let chain = chains.last_is v node in
      let gap : ℕ = length n.arcs - arc in
      let whole : arc + gap ≡ length n.arcs = omega (arith, is, chain.below) in
      let skip = first-skip v n.arcs flows arc gap long (omega (arith, whole)) (λ i from to.
      let index : i + 1 - 1 ≡ i = omega arith in
      let none = chain.none_between (i + 1) (omega (arith, is, from)) (omega (arith, to, whole)) in
      λ tail. none (ap (λ m. (get_or n.arcs m no_arc).tail) index ∙ tail)) in
      let all = first-all v n.arcs flows (arc + gap) long (omega (arith, whole)) in
      record {
        all = omega (arith, skip, all);
        within = omega (arith, is, chain.below);
        own = λ some. subst (λ m. (arc_number n m).tail ≡ v) (sym is) (chain.own (omega (arith, some, is)));
      }

  -- The next arc of the chain.
  pub summed-more : (sum more arc next : ℕ) → arc ≢ 0 → next ≡ get_or before (arc - 1) 0 → IsSummed n flows v sum arc
      → more ≡ sum + cond (leads_off v (arc_number n arc)) (flow_on flows arc) 0 → IsSummed n flows v more next × (next < arc)
  summed-more sum more arc next some is summed adds =
      let h : arc - 1 < length n.arcs = omega (arith, some, summed.within) in
      let chain = chains.before_is (arc - 1) h in
      let own = summed.own (omega (arith, some)) in
      let gap : ℕ = arc - 1 - next in
      let whole : next + gap ≡ arc - 1 = omega (arith, is, chain.below, some) in
      let skip = first-skip v n.arcs flows next gap long (omega (arith, whole, h)) (λ i from to.
      let index : i + 1 - 1 ≡ i = omega arith in
      let none = chain.none_between (i + 1) (omega (arith, is, from)) (omega (arith, to, whole)) in
      λ tail. none (ap (λ m. (get_or n.arcs m no_arc).tail) index ∙ tail ∙ sym own)) in
      let now = first-more v n.arcs flows (arc - 1) long h in
      let last : sum_first v n.arcs flows arc ≡ sum_first v n.arcs flows (arc - 1 + 1) = ap (sum_first v n.arcs flows) (omega (arith, some)) in
      let first : sum_first v n.arcs flows (next + gap) ≡ sum_first v n.arcs flows (arc - 1) = ap (sum_first v n.arcs flows) whole in (
        record {
          all = omega (arith, summed.all, last, now, skip, first, adds);
          within = omega (arith, is, chain.below, summed.within);
          own = λ left. subst (λ m. (arc_number n m).tail ≡ v) (sym is) (chain.own (omega (arith, left, is)) ∙ own);
        },
        omega (arith, is, chain.below, some),
      )

  -- At the end of the chain it is what flows through the node.
  pub summed-all : (sum arc : ℕ) → arc ≤ 0 → IsSummed n flows v sum arc → sum ≡ flow_through n flows v
  summed-all sum arc end summed =
      let none : sum_first v n.arcs flows arc ≡ 0 = ap (sum_first v n.arcs flows) (let z : arc ≡ 0 = omega (arith, end) in z) in
      omega (arith, summed.all, none)

-- What flows through a node is at most all capacities.
pub through-le : (v : ℕ) (arcs : List Arc) (flows : List ℕ) → AreWithinCapacities arcs flows → sum_by (part_off v) (zip arcs flows) ≤ capacity_sum arcs
through-le v [] [] w = omega arith
through-le v (a ∷ arcs) (x ∷ flows) w =
    let g : Arc → ℕ = λ b. b.cap in
    omega (arith, w.0, part-le (leads_off v a) x, through-le v arcs flows w.1, sum_by-cons (part_off v) (a, x) (zip arcs flows), sum_by-cons g a arcs)
through-le v arcs flows w = absurd w

-- A part of the sum and the next arc's flow are too.
pub first-le : (v : ℕ) (arcs : List Arc) (flows : List ℕ) (sum arc : ℕ) → AreWithinCapacities arcs flows → arc ≢ 0 → arc ≤ length arcs
    → sum + sum_first v arcs flows arc ≡ sum_by (part_off v) (zip arcs flows)
    → sum + cond (leads_off v (get_or arcs (arc - 1) no_arc)) (get_or flows (arc - 1) 0) 0 ≤ capacity_sum arcs
first-le v arcs flows sum arc within some most all =
    let long = AllZip-long _ arcs flows within in
    let now = first-more v arcs flows (arc - 1) long (omega (arith, some, most)) in
    let last : sum_first v arcs flows arc ≡ sum_first v arcs flows (arc - 1 + 1) = ap (sum_first v arcs flows) (omega (arith, some)) in
    omega (arith, all, now, last, through-le v arcs flows within)
