use Rattle.std.proofs.Common.{◌≡◌, ◌<◌, ◌+◌, ◌^◌, ◌&&◌, ◌⊎◌, ◌∷◌, ◌++◌, [], ℕ}
use Rattle.std.proofs.Common.{List, Bool, true, false, Some, None, Result, Ok, Err, MatchOption, MatchResult}
use Rattle.std.proofs.Common.{IsOkUnless, arith, codes, length, refl, sym, ap, inl, inr, if◌then◌else◌, nat_lt}
use Rattle.std.proofs.lemmas.Bool.{lt-ltb}
use Rattle.std.proofs.lemmas.Result.{err_from_is_err_and}
use Rattle.dmf_node.specs.Node.{is_node}
use Rattle.dmf_state.specs.declared.fault.ArcFault.TheVariants as arc
use Rattle.dmf_state.specs.declared.fault.NetFault.{NetFault}
use Rattle.dmf_state.specs.declared.fault.NetFault.TheVariants as net
use Rattle.dmf_state.specs.Arc.{open_arc, capacity_sum}
use Rattle.dmf_state.specs.ArcFault.{arc_fault, net_fault}
use Rattle.dmf_text.specs.declared.fault.ProblemFaultKind.{ProblemFaultKind}
use Rattle.dmf_text.specs.declared.fault.ProblemFaultKind.TheVariants.{NodeOutOfRange, SumTooLarge, NoMemory}
use Rattle.dmf_text.specs.declared.reading.Body.{Body}
use Rattle.dmf_text.specs.Numbers.{AreSpelled}
use Rattle.dmf_text.specs.Judging.{◌>>◌, expect}
use Rattle.dmf_text.specs.Problem.{judged_arc}
use Rattle.dmf_text.specs.Reading.{arc_kind, facts_in_body, with_line}
use Rattle.dmf_text.proofs.reading.Body.push.Goals as goal

-- whether the ends of an arc are nodes, and its capacity fits
abbrev judgement : Bool → Bool → Bool → Result (Unit {0}) ProblemFaultKind
judgement from to fits = expect from NodeOutOfRange >> (expect to NodeOutOfRange >> expect fits SumTooLarge)

-- the network takes such an arc, or fails with the same fault
same-told : (from to fits : Bool) (outcome : Result (Unit {0}) NetFault)
    → MatchOption (if from && to then (if fits then None else Some arc.SumTooLarge) else Some arc.NoSuchNode) (IsOkUnless outcome net.NoMemory)
    (λ fault. outcome ≡ Err (net_fault fault))
    → MatchResult outcome (λ _. judgement from to fits ≡ Ok tt) (λ fault. (arc_kind fault ≡ NoMemory) ⊎ (judgement from to fits ≡ Err (arc_kind fault)))
same-told true true true (Ok done) told = refl
same-told true true true (Err fault) told = inl (ap arc_kind told)
same-told true true false outcome told = rw told (inr refl)
same-told true false fits outcome told = rw told (inr refl)
same-told false to fits outcome told = rw told (inr refl)

-- an arc line whose numbers are these
module _ (body : Body) (behind : List (List ℕ)) (tail head cap : ℕ) (fewer : length body.state.network.arcs < body.arcs)
    (three : AreSpelled behind tail head cap) where
  line-judged : judged_arc (facts_in_body body) behind
      ≡ judgement (is_node body.state.network.nodes tail) (is_node body.state.network.nodes head) (nat_lt (capacity_sum body.state.network.arcs + cap) (2 ^ 64))
  unfolding judged_arc
  line-judged = rw (three.are, lt-ltb _ _ fewer, three.first_is, three.second_is, three.third_is) refl

  line-says : with_line (facts_in_body body) (codes "a" ∷ behind)
      ≡ record (facts_in_body body) { arcs = body.state.network.arcs ++ open_arc tail head cap ∷ [] }
  line-says = rw (three.are, three.first_is, three.second_is, three.third_is) refl

  line-told : (outcome : Result (Unit {0}) NetFault)
      → MatchOption (arc_fault body.state.network tail head cap) (IsOkUnless outcome net.NoMemory) (λ fault. outcome ≡ Err (net_fault fault))
      → MatchResult outcome (λ _. judged_arc (facts_in_body body) behind ≡ Ok tt)
      (λ fault. (arc_kind fault ≡ NoMemory) ⊎ (judged_arc (facts_in_body body) behind ≡ Err (arc_kind fault)))
  line-told outcome told =
      let few : nat_lt (length body.state.network.arcs) (2 ^ 27) ≡ true = lt-ltb _ _ (omega (arith, fewer, body.at_most_arcs)) in
      rw line-judged
      (same-told (is_node body.state.network.nodes tail) (is_node body.state.network.nodes head)
      (nat_lt (capacity_sum body.state.network.arcs + cap) (2 ^ 64)) outcome (rw few at told))

pub returns-in_err-push_arc : goal.returns-in_err-push_arc
returns-in_err-push_arc c = λ behind three.
    let failed = err_from_is_err_and c.from_residual.result c.from_residual.ensures.1 in
    rw (failed.1, failed.2)
    (line-told c.args.self.now behind c.args.arc.tail c.args.arc.head c.args.arc.cap c.requires three (Err c.in_err-push_arc.field-0.0)
    c.in_err-push_arc.ensures.refused)

pub returns : goal.returns
returns c = λ behind three. (
  line-told c.args.self.now behind c.args.arc.tail c.args.arc.head c.args.arc.cap c.requires three (Ok tt) c.in_ok-push_arc.ensures.refused,
  rw c.in_ok-push_arc.ensures.ok (sym (line-says c.args.self.now behind c.args.arc.tail c.args.arc.head c.args.arc.cap c.requires three)),
)
