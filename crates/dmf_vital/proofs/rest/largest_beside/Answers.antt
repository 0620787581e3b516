use Rattle.std.proofs.Common.{ℕ, ◌≡◌, ◌-◌, ◌^◌, ◌<◌, ◌≤◌, length, subst, sym, arith}
use Rattle.std.proofs.Math.Nat.{le-min}
use Rattle.std.proofs.lemmas.List.{get_or_read}
use Rattle.std.proofs.lemmas.Slice.Zip.{AllZip-long}
use Rattle.dmf_state.specs.Flow.{flow_on}
use Rattle.dmf_state.proofs.ChangedArc.{has_arc-within}
use Rattle.dmf_vital.proofs.Both.{pair-at_most_flow, pair-at_most_whole}
use Rattle.dmf_vital.proofs.rest.largest_beside.Goals as goal

pub index-requires : goal.index-requires
index-requires c =
    let n = c.args.state.now.network in
    let flows = c.args.whole.now.rerouting.flows in
    let at = has_arc-within n c.args.i c.requires.is_there in
    omega (arith, at.1, AllZip-long _ n.arcs flows.items c.requires.whole.ready.greatest.flow.within, flows.ok.0)

pub returns : goal.returns
returns c = λ j loss apart pair.
    let s = c.args.state.now in
    let n = s.network in
    let i : ℕ = c.args.i in
    let flows = c.args.whole.now.rerouting.flows.items in
    let long = AllZip-long _ n.arcs flows c.requires.whole.ready.greatest.flow.within in
    let at_i = has_arc-within n i c.requires.is_there in
    let at_j = has_arc-within n j pair.1 in
    let inside : i - 1 < length flows = omega (arith, at_i.1, long) in
    let flow : c.index.result.now ≡ flow_on flows i = get_or_read flows (i - 1) c.index.result.now inside c.index.ensures 0 in
    let other : flow_on flows j ≤ c.args.whole.now.largest = c.requires.whole.largest (j - 1) (omega (arith, at_j.1, long)) in
    let most = pair-at_most_flow n flows i j c.requires.whole.ready.network c.requires.whole.ready.greatest pair.0 pair.1 apart loss pair in
    let all = pair-at_most_whole s i j loss c.value.result c.requires.greatest c.value.ensures.value pair in
    let large : loss < 2 ^ 64 = omega (arith, all, c.value.type_inv) in
    let bound : loss ≤ c.saturating_add-bound.result =
    subst (λ m. loss ≤ m) (sym c.saturating_add-bound.ensures) (le-min (omega (arith, most, flow, other)) (omega (arith, large))) in
    subst (λ m. loss ≤ m) (sym c.min.ensures) (le-min bound all)
