use Rattle.std.proofs.Common.{ℕ, ◌≡◌, ◌-◌, ◌^◌, ◌<◌, ◌≤◌, length, subst, sym, arith}
use Rattle.std.proofs.Math.Nat.{le-min}
use Rattle.std.proofs.lemmas.List.{get_or_read}
use Rattle.dmf_state.specs.Flow.{flow_on}
use Rattle.dmf_state.proofs.ChangedArc.{has_arc-within}
use Rattle.dmf_vital.proofs.Both.{less-at_most, long-rest, pair-at_most, pair-at_most_whole}
use Rattle.dmf_vital.proofs.rest.largest_with.Goals as goal

pub overflow_sub-lost : goal.overflow_sub-lost
overflow_sub-lost c = less-at_most c.args.state.now c.args.rest.now c.value.result c.value-2.result c.value.ensures.state c.requires.greatest c.requires.rest
    c.value.ensures.value c.value-2.ensures.value

pub index-requires : goal.index-requires
index-requires c =
    let at = has_arc-within c.args.state.now.network c.args.j c.requires.is_there in
    let long = long-rest c.args.state.now c.args.rest.now c.value.result c.value-2.result c.value.ensures.state c.requires.greatest c.requires.rest
    c.value.ensures.value c.value-2.ensures.value in
    omega (arith, at.1, long, c.args.rest.now.rerouting.flows.ok.0)

pub returns : goal.returns
returns c = λ loss pair.
    let s = c.args.state.now in
    let rest = c.args.rest.now in
    let j : ℕ = c.args.j in
    let at = has_arc-within s.network j c.requires.is_there in
    let long = long-rest s rest c.value.result c.value-2.result c.value.ensures.state c.requires.greatest c.requires.rest c.value.ensures.value
    c.value-2.ensures.value in
    let inside : j - 1 < length rest.rerouting.flows.items = omega (arith, at.1, long) in
    let flow : c.index.result.now ≡ flow_on rest.rerouting.flows.items j =
    get_or_read rest.rerouting.flows.items (j - 1) c.index.result.now inside c.index.ensures 0 in
    let most = pair-at_most s rest c.value.result c.value-2.result c.value.ensures.state c.requires.greatest c.requires.rest c.value.ensures.value
    c.value-2.ensures.value j loss pair in
    let whole = pair-at_most_whole s rest.without j loss c.value-3.result c.requires.greatest c.value-3.ensures.value pair in
    let large : loss < 2 ^ 64 = omega (arith, whole, c.value-3.type_inv) in
    let bound : loss ≤ c.saturating_add-bound.result =
    subst (λ m. loss ≤ m) (sym c.saturating_add-bound.ensures) (le-min (omega (arith, most, flow)) (omega (arith, large))) in
    subst (λ m. loss ≤ m) (sym c.min.ensures) (le-min bound whole)
