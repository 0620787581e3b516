use Rattle.std.proofs.Common.{ℕ, ◌≡◌, ◌-◌, ◌<◌, length, subst, sym, arith}
use Rattle.std.proofs.lemmas.List.{get_or_read}
use Rattle.std.proofs.lemmas.Slice.Zip.{AllZip-long}
use Rattle.dmf_state.specs.Flow.{flow_on}
use Rattle.dmf_state.proofs.ChangedArc.{has_arc-within}
use Rattle.dmf_vital.specs.Loss.{IsLossOfArc}
use Rattle.dmf_vital.proofs.rerouting.loss_of_lowered.Goals as goal

pub index-requires : goal.index-requires
index-requires c =
    let n = c.args.state.now.network in
    let flows = c.args.rerouting.now.flows in
    let at = has_arc-within n c.args.j c.requires.is_there in
    omega (arith, at.1, AllZip-long _ n.arcs flows.items c.requires.ready.greatest.flow.within, flows.ok.0)

pub returns-then-stuck-clause-loss : goal.returns-then-stuck-clause-loss
returns-then-stuck-clause-loss c =
    let n = c.args.state.now.network in
    let j : ℕ = c.args.j in
    let flows = c.args.rerouting.now.flows in
    let at = has_arc-within n j c.requires.is_there in
    let inside : j - 1 < length flows.items = omega (arith, at.1, AllZip-long _ n.arcs flows.items c.requires.ready.greatest.flow.within) in
    let is : c.index.result.now ≡ flow_on flows.items j = get_or_read flows.items (j - 1) c.index.result.now inside c.index.ensures 0 in
    subst (IsLossOfArc n j) (sym is) (c.requires.stuck c.if-stuck.true)
