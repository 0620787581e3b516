use Rattle.std.proofs.Common.{◌≡◌, ◌-◌, length, take, get_or, ap, sym, subst, arith}
use Rattle.std.proofs.lemmas.List.{get_or_read}
use Rattle.std.proofs.lemmas.Slice.Zip.{AllZip-long}
use Rattle.dmf_state.specs.contracts.state.State.{the_view}
use Rattle.dmf_state.specs.Arc.{no_arc}
use Rattle.dmf_state.specs.Direction.{HasIdleLast}
use Rattle.dmf_state.specs.Revert.{without_last_arc}
use Rattle.dmf_state.proofs.Reverting.{KeepsTotals-without_last, length-idle_last}
use Rattle.dmf_state.proofs.state.State.drop_last.Goals as goal

pub invariant_of-self : goal.invariant_of-self
invariant_of-self c =
    let s = the_view c.self.inside in
    let has = subst HasIdleLast (sym c.self.view_is) c.requires in
    let long : length s.flows ≡ length s.network.arcs = AllZip-long _ s.network.arcs s.flows c.self.invariant.state.flow.within in
    let some = length-idle_last s has in
    let count : c.len-last.result ≡ length s.network.arcs = omega (arith, c.len-last.ensures, c.self.inside.arcs.ok.0) in
    let kept = KeepsTotals-without_last s _ _ _ has c.self.invariant in
    let last : c.index.result.now ≡ get_or s.network.arcs (c.len-last.result - 1) no_arc =
    get_or_read s.network.arcs _ _ (omega (arith, count, some)) c.index.ensures no_arc in
    rw (c.truncate.ensures.items, c.truncate-2.ensures.items, last, count) (rw long at kept)

pub returns : goal.returns
returns c =
    let s = the_view c.self.inside in
    let long : length s.flows ≡ length s.network.arcs = AllZip-long _ s.network.arcs s.flows c.self.invariant.state.flow.within in
    let flows : take (length s.network.arcs - 1) s.flows ≡ take (length s.flows - 1) s.flows = ap (λ n. take (n - 1) s.flows) (sym long) in
    let count : c.len-last.result ≡ length s.network.arcs = omega (arith, c.len-last.ensures, c.self.inside.arcs.ok.0) in
    rw (← c.self.view_is, c.truncate.ensures.items, c.truncate-2.ensures.items, count)
    (λ i. record { network = without_last_arc s.network; flows = flows i })
