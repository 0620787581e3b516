-- The flow across the border of a set of nodes. A set is given by its test: whether it has a node.
use Rattle.std.proofs.Common.{ℕ, zero, suc, ◌≡◌, ◌≢◌, ◌+◌, ◌<◌, ◌==◌, ◌&&◌, List, [], ◌∷◌, Bool, true, false, not, cond, refl, ap, sym, ◌∙◌, sum_by, arith}
use Rattle.std.proofs.Common.{⊎_elim, pos, ◌-ℤ◌, ◌≤◌, length, get_or}
use Rattle.std.specs.List.{zip, All}
use Rattle.std.proofs.lemmas.Bool.{ne_eqb, both_ways, cases_lt}
use Rattle.std.proofs.lemmas.Bool.Decides.{eqb_tells}
use Rattle.std.proofs.lemmas.Int.{ints}
use Rattle.std.proofs.lemmas.List.Sums.{sum_by-cons, get_or-le-sum_by}
use Rattle.std.proofs.lemmas.Slice.Zip.{get_or-zip, length-zip}
use Rattle.std.proofs.lemmas.List.Elements.{All-head, All-tail}
use Rattle.dmf_state.specs.declared.arc.Arc.{Arc}
use Rattle.dmf_node.specs.Node.{IsNode}
use Rattle.dmf_state.specs.Arc.{IsArc, no_arc}
use Rattle.dmf_state.specs.Network.{Network, IsNetwork}
use Rattle.dmf_state.specs.Flow.{flow_at, outflow, inflow, IsInnerNode, IsConservedAt, flow_value}
use Rattle.dmf_state.proofs.Summing.{at_node}

-- the sum of these numbers at the nodes of the set, among the nodes 1 to `last`
abbrev pub sum_in : (ℕ → Bool) → (ℕ → ℕ) → ℕ → ℕ
sum_in has f zero = 0
sum_in has f (suc last) = sum_in has f last + cond (has (suc last)) (f (suc last)) 0

-- the amount on the arcs with the one end in the set and the other one outside
abbrev pub across : (Arc → ℕ) → (Arc → ℕ) → (Arc × ℕ → ℕ) → List Arc → List ℕ → (ℕ → Bool) → ℕ
across inner outer amount arcs flows has = sum_by (λ p. cond (has (inner p.0) && not (has (outer p.0))) (amount p) 0) (zip arcs flows)

-- the flow on the arcs that lead out of the set
abbrev pub leaving : List Arc → List ℕ → (ℕ → Bool) → ℕ
leaving arcs flows has = across (λ arc. arc.tail) (λ arc. arc.head) (λ p. p.1) arcs flows has

-- the flow on the arcs that lead into the set
abbrev pub entering : List Arc → List ℕ → (ℕ → Bool) → ℕ
entering arcs flows has = across (λ arc. arc.head) (λ arc. arc.tail) (λ p. p.1) arcs flows has

-- the flow on the arcs that have this end in the set
abbrev pub flow_in : (Arc → ℕ) → List Arc → List ℕ → (ℕ → Bool) → ℕ
flow_in end arcs flows has = sum_by (λ p. cond (has (end p.0)) p.1 0) (zip arcs flows)

-- a number that is at most `last` is at most the next one
wider : (last v : ℕ) → IsNode last v → IsNode (suc last) v
wider last v node = record { from_one = node.from_one; to_last = omega (arith, node.to_last) }

last_node : (last : ℕ) → IsNode (suc last) (suc last)
last_node last = record { from_one = omega arith; to_last = omega arith }

same_part : (b : Bool) (x y : ℕ) → (b ≡ true → x ≡ y) → cond b x 0 ≡ cond b y 0
same_part true x y same = same refl
same_part false x y same = refl

-- Numbers that are the same at each node of the set have the same sum.
pub sum_in-same : (has : ℕ → Bool) (f g : ℕ → ℕ) (last : ℕ) → ((v : ℕ) → IsNode last v → has v ≡ true → f v ≡ g v) → sum_in has f last ≡ sum_in has g last
sum_in-same has f g zero same = refl
sum_in-same has f g (suc last) same =
    let before = sum_in-same has f g last (λ v node inside. same v (wider last v node) inside) in
    let here = same_part (has (suc last)) (f (suc last)) (g (suc last)) (same (suc last) (last_node last)) in
    omega (arith, before, here)

-- Both are counted, or none.
pub sum_of_parts : (b : Bool) (x y : ℕ) → cond b (x + y) 0 ≡ cond b x 0 + cond b y 0
sum_of_parts true x y = refl
sum_of_parts false x y = refl

-- The sum of two sums is the sum over both.
pub sum_in-add : (has : ℕ → Bool) (f g : ℕ → ℕ) (last : ℕ) → sum_in has (λ v. f v + g v) last ≡ sum_in has f last + sum_in has g last
sum_in-add has f g zero = refl
sum_in-add has f g (suc last) =
    omega (arith, sum_in-add has f g last, sum_of_parts (has (suc last)) (f (suc last)) (g (suc last)))

-- Counted or not, 0 adds nothing.
pub no_part : (b : Bool) → ◌≡◌ {A = ℕ} (cond b 0 0) 0
no_part true = refl
no_part false = refl

-- A sum of zeros is 0.
pub sum_in-none : (has : ℕ → Bool) (last : ℕ) → sum_in has (λ v. 0) last ≡ 0
sum_in-none has zero = refl
sum_in-none has (suc last) = omega (arith, sum_in-none has last, no_part (has (suc last)))

-- A number at a node past the last does not count.
sum_in-past : (has : ℕ → Bool) (u x last : ℕ) → last < u → sum_in has (λ v. cond (u == v) x 0) last ≡ 0
sum_in-past has u x zero past = refl
sum_in-past has u x (suc last) past = ⊎_elim
    (λ (here : ((u == suc last) ≡ true) × (u ≡ suc last)). absurd (omega (arith, here.1, past)))
    (λ (elsewhere : ((u == suc last) ≡ false) × (u ≢ suc last)).
    rw (elsewhere.0, no_part (has (suc last))) (omega (arith, sum_in-past has u x last (omega (arith, past)))))
    (eqb_tells u (suc last))

-- A number at one node counts if the set has the node.
pub sum_in-at : (has : ℕ → Bool) (u x last : ℕ) → IsNode last u → sum_in has (λ v. cond (u == v) x 0) last ≡ cond (has u) x 0
sum_in-at has u x zero node = absurd (omega (arith, node.from_one, node.to_last))
sum_in-at has u x (suc last) node = ⊎_elim
    (λ (here : ((u == suc last) ≡ true) × (u ≡ suc last)).
    let past = sum_in-past has u x last (omega (arith, here.1)) in
    rw (here.0, here.1) (omega (arith, rw here.1 at past)))
    (λ (elsewhere : ((u == suc last) ≡ false) × (u ≢ suc last)).
    let before : IsNode last u = record { from_one = node.from_one; to_last = omega (arith, node.to_last, elsewhere.1) } in
    rw (elsewhere.0, no_part (has (suc last))) (omega (arith, sum_in-at has u x last before)))
    (eqb_tells u (suc last))

-- Summing the flow at each node of the set gives the flow on the arcs that have this end in the set.
pub sum_in-flow_at : (end : Arc → ℕ) (nodes : ℕ) (arcs : List Arc) (flows : List ℕ) (has : ℕ → Bool) → All (λ arc. IsNode nodes (end arc)) arcs
    → sum_in has (flow_at end arcs flows) nodes ≡ flow_in end arcs flows has
sum_in-flow_at end nodes [] flows has ends = sum_in-none has nodes
sum_in-flow_at end nodes (arc ∷ arcs) [] has ends = sum_in-none has nodes
sum_in-flow_at end nodes (arc ∷ arcs) (flow ∷ flows) has ends =
    let f : ℕ → ℕ = flow_at end (arc ∷ arcs) (flow ∷ flows) in
    let here : ℕ → ℕ = λ v. cond (end arc == v) flow 0 in
    let after : ℕ → ℕ = flow_at end arcs flows in
    let each : (v : ℕ) → IsNode nodes v → has v ≡ true → f v ≡ here v + after v = λ v node inside. sum_by-cons (at_node end v) (arc, flow) (zip arcs flows) in
    let whole = sum_in-same has f (λ v. here v + after v) nodes each in
    let parts = sum_in-add has here after nodes in
    let first = sum_in-at has (end arc) flow nodes (All-head (λ a. IsNode nodes (end a)) arc arcs ends) in
    let rest = sum_in-flow_at end nodes arcs flows has (All-tail (λ a. IsNode nodes (end a)) arc arcs ends) in
    let add : Arc × ℕ → ℕ = λ p. cond (has (end p.0)) p.1 0 in
    let cons = sum_by-cons add (arc, flow) (zip arcs flows) in
    omega (arith, whole, parts, first, rest, cons)

-- an arc's flow, by which of its ends are in the set
by_ends : (a b : Bool) (x : ℕ) → cond a x 0 + cond (b && not a) x 0 ≡ cond b x 0 + cond (a && not b) x 0
by_ends true true x = refl
by_ends true false x = omega arith
by_ends false true x = omega arith
by_ends false false x = refl

flow_in-both : (arcs : List Arc) (flows : List ℕ) (has : ℕ → Bool)
    → flow_in (λ arc. arc.tail) arcs flows has + entering arcs flows has ≡ flow_in (λ arc. arc.head) arcs flows has + leaving arcs flows has
flow_in-both [] flows has = refl
flow_in-both (arc ∷ arcs) [] has = refl
flow_in-both (arc ∷ arcs) (flow ∷ flows) has =
    let ends : (Arc → ℕ) → Arc × ℕ → ℕ = λ end p. cond (has (end p.0)) p.1 0 in
    let crosses : (Arc → ℕ) → (Arc → ℕ) → Arc × ℕ → ℕ = λ inner outer p. cond (has (inner p.0) && not (has (outer p.0))) p.1 0 in
    let sum = λ (f : Arc × ℕ → ℕ). sum_by-cons f (arc, flow) (zip arcs flows) in
    let tails = sum (ends (λ a. a.tail)) in
    let heads = sum (ends (λ a. a.head)) in
    let out = sum (crosses (λ a. a.tail) (λ a. a.head)) in
    let into = sum (crosses (λ a. a.head) (λ a. a.tail)) in
    omega (arith, by_ends (has arc.tail) (has arc.head) flow, flow_in-both arcs flows has, tails, heads, out, into)

-- The crossing lemma: the outflow of the nodes of a set plus the flow that enters the set is the inflow of its nodes plus the flow that
-- leaves it.
pub crossing : (nodes : ℕ) (arcs : List Arc) (flows : List ℕ) (has : ℕ → Bool) → All (IsArc nodes) arcs
    → sum_in has (outflow arcs flows) nodes + entering arcs flows has ≡ sum_in has (inflow arcs flows) nodes + leaving arcs flows has
crossing nodes arcs flows has fits =
    let tails = sum_in-flow_at (λ arc. arc.tail) nodes arcs flows has (λ k d h. (fits k d h).tail) in
    let heads = sum_in-flow_at (λ arc. arc.head) nodes arcs flows has (λ k d h. (fits k d h).head) in
    omega (arith, tails, heads, flow_in-both arcs flows has)

-- Two sums over a set, whose numbers differ only at two nodes.
sum_in-same_but_two : (has : ℕ → Bool) (f g : ℕ → ℕ) (last s t : ℕ) → IsNode last s → IsNode last t → s ≢ t
    → ((v : ℕ) → IsNode last v → v ≢ s → v ≢ t → f v ≡ g v) → sum_in has f last + cond (has s) (g s) 0 + cond (has t) (g t) 0 ≡ sum_in has g last + cond (has s)
    (f s) 0 + cond (has t) (f t) 0
sum_in-same_but_two has f g last s t at_s at_t apart same =
    let only : ℕ → ℕ → ℕ → ℕ = λ u x v. cond (u == v) x 0 in
    let left : ℕ → ℕ = λ v. f v + (only s (g s) v + only t (g t) v) in
    let right : ℕ → ℕ = λ v. g v + (only s (f s) v + only t (f t) v) in
    let each : (v : ℕ) → IsNode last v → has v ≡ true → left v ≡ right v = λ v node inside. ⊎_elim
    (λ (is_s : ((s == v) ≡ true) × (s ≡ v)).
    let other : (t == v) ≡ false = ne_eqb t v (λ e. apart (is_s.1 ∙ sym e)) in
    rw (is_s.0, other) (omega (arith, ap f is_s.1, ap g is_s.1)))
    (λ (not_s : ((s == v) ≡ false) × (s ≢ v)). ⊎_elim
    (λ (is_t : ((t == v) ≡ true) × (t ≡ v)). rw (not_s.0, is_t.0) (omega (arith, ap f is_t.1, ap g is_t.1)))
    (λ (not_t : ((t == v) ≡ false) × (t ≢ v)). rw (not_s.0, not_t.0) (omega (arith, same v node (λ e. not_s.1 (sym e)) (λ e. not_t.1 (sym e)))))
    (eqb_tells t v))
    (eqb_tells s v) in
    let two : ℕ → ℕ → (ℕ → ℕ) = λ x y v. only s x v + only t y v in
    let parts = λ (x y : ℕ). sum_in-add has (only s x) (only t y) last in
    let at = λ (u x : ℕ) (node : IsNode last u). sum_in-at has u x last node in
    let first = sum_in-add has f (two (g s) (g t)) last in
    let second = sum_in-add has g (two (f s) (f t)) last in
    let whole = sum_in-same has left right last each in
    omega (arith, whole, first, second, parts (g s) (g t), parts (f s) (f t), at s (g s) at_s, at t (g t) at_t, at s (f s) at_s, at t (f t) at_t)

sum_by-none : {X : Type 0} (xs : List X) → ◌≡◌ {A = ℕ} (sum_by (λ x. 0) xs) 0
sum_by-none {X} [] = refl
sum_by-none {X} (x ∷ xs) = let none : X → ℕ = λ y. 0 in omega (arith, sum_by-cons none x xs, sum_by-none xs)

-- A network, where flows are conserved at each inner node.
module _ (n : Network) (flows : List ℕ) where
  crossing-terminals : (has : ℕ → Bool) → IsNetwork n → ((v : ℕ) → IsInnerNode n v → IsConservedAt n flows v)
      → leaving n.arcs flows has + cond (has n.source) (inflow n.arcs flows n.source) 0 + cond (has n.sink)
      (inflow n.arcs flows n.sink) 0 ≡ entering n.arcs flows has + cond (has n.source) (outflow n.arcs flows n.source) 0 + cond (has n.sink)
      (outflow n.arcs flows n.sink) 0
  crossing-terminals has network conserved =
      let same = sum_in-same_but_two has (outflow n.arcs flows) (inflow n.arcs flows) n.nodes n.source n.sink network.source network.sink network.two_terminals
      (λ v node not_source not_sink. conserved v (record { node = node; not_source = not_source; not_sink = not_sink })) in
      omega (arith, crossing n.nodes n.arcs flows has network.arcs, same)

  module _ (has : ℕ → Bool) (network : IsNetwork n) (conserved : (v : ℕ) → IsInnerNode n v → IsConservedAt n flows v) where
    -- The flow that leaves a cut minus the flow that enters it is the value.
    pub value-across : has n.source ≡ true → has n.sink ≡ false → pos (leaving n.arcs flows has) -ℤ pos (entering n.arcs flows has) ≡ flow_value n flows
    value-across source sink = let terminals = rw (source, sink) at (crossing-terminals has network conserved) in omega (arith, ints, terminals)

    -- The flow that leaves a set with neither source nor sink is the flow that enters it.
    pub none-across : has n.source ≡ false → has n.sink ≡ false → leaving n.arcs flows has ≡ entering n.arcs flows has
    none-across source sink = let terminals = rw (source, sink) at (crossing-terminals has network conserved) in omega (arith, terminals)

    -- The outflow of source and sink together is their inflow.
    terminals-balance : outflow n.arcs flows n.source + outflow n.arcs flows n.sink ≡ inflow n.arcs flows n.source + inflow n.arcs flows n.sink
    terminals-balance = omega (arith, crossing-terminals (λ v. true) network conserved, sum_by-none (zip n.arcs flows))

    -- The flow that leaves a set with both source and sink is the flow that enters it.
    pub none-across_both : has n.source ≡ true → has n.sink ≡ true → leaving n.arcs flows has ≡ entering n.arcs flows has
    none-across_both source sink =
        let terminals = rw (source, sink) at (crossing-terminals has network conserved) in
        omega (arith, terminals, terminals-balance)

    -- If a set has the sink and not the source, the flow that enters it minus the flow that leaves it is the value.
    pub value-across_back : has n.source ≡ false → has n.sink ≡ true → pos (entering n.arcs flows has) -ℤ pos (leaving n.arcs flows has) ≡ flow_value n flows
    value-across_back source sink =
        let terminals = rw (source, sink) at (crossing-terminals has network conserved) in
        omega (arith, ints, terminals, terminals-balance)

-- ---- amounts across the border of a set

none_out : (a b : Bool) (x : ℕ) → (0 < x → a ≡ true → b ≡ true) → cond (a && not b) x 0 ≡ 0
none_out true true x keeps = refl
none_out true false x keeps = ⊎_elim (λ (some : 0 < x). absurd (both_ways false refl (keeps some refl))) (λ (none : x ≤ 0). omega (arith, none)) (cases_lt 0 x)
none_out false b x keeps = refl

module _ (inner outer : Arc → ℕ) (amount : Arc × ℕ → ℕ) (has : ℕ → Bool) where
  abbrev part : Arc × ℕ → ℕ
  part p = cond (has (inner p.0) && not (has (outer p.0))) (amount p) 0

  -- There is none, if each arc with an amount and the one end in the set has the other end in it.
  pub across-none : (arcs : List Arc) (flows : List ℕ)
      → ((k : ℕ) → k < length arcs → 0 < amount (get_or arcs k no_arc, get_or flows k 0) → has (inner (get_or arcs k no_arc)) ≡ true
      → has (outer (get_or arcs k no_arc)) ≡ true) → across inner outer amount arcs flows has ≡ 0
  across-none [] flows keeps = refl
  across-none (arc ∷ arcs) [] keeps = refl
  across-none (arc ∷ arcs) (flow ∷ flows) keeps = omega (
    arith,
    none_out (has (inner arc)) (has (outer arc)) (amount (arc, flow)) (keeps 0 (omega arith)),
    across-none arcs flows (λ k h. keeps (suc k) (omega (arith, h))),
    sum_by-cons part (arc, flow) (zip arcs flows),
  )

  -- The amount of one arc across the border is part of all.
  pub across-at : (arcs : List Arc) (flows : List ℕ) (k : ℕ) → length flows ≡ length arcs → k < length arcs → has (inner (get_or arcs k no_arc)) ≡ true
      → has (outer (get_or arcs k no_arc)) ≡ false → amount (get_or arcs k no_arc, get_or flows k 0) ≤ across inner outer amount arcs flows has
  across-at arcs flows k same h inside outside =
      let long : k < length (zip arcs flows) = rw length-zip (omega arith) in
      let some = get_or-le-sum_by part (zip arcs flows) k (no_arc, 0) long in
      rw (inside, outside) at (rw (get_or-zip arcs flows k (no_arc, 0) h (omega arith)) at some)
