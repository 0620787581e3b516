use Rattle.std.proofs.Common.{ℕ, ◌≡◌, ◌+◌, ◌-◌, length, ap, sym, ◌∙◌, subst, arith}
use Rattle.dmf_state.specs.Arc.{open_arc}
use Rattle.dmf_state.specs.Network.{Network}
use Rattle.dmf_state.specs.Side.{has_node}
use Rattle.dmf_vital.specs.Extended.{IsExtended, IsPlaced, KeepsArcs, with_detour, with_detours}
use Rattle.dmf_vital.proofs.Extending.{extended-detours, keeps-detours, long-detours, placed-none, placed-some}
use Rattle.dmf_vital.proofs.gain.place.Goals as goal
use Rattle.dmf_vital.proofs.gain.place.Goals.{After-arcs}

pub returns-then-not-leads_out-clause-placed : goal.returns-then-not-leads_out-clause-placed
returns-then-not-leads_out-clause-placed c =
    let arc = c.args.arc in
    let same = c.in-Ok.ensures.arc ∙ ap (λ v. open_arc v c.from-2.result arc.cap) c.from.ensures ∙ ap (λ v. open_arc arc.tail v arc.cap) c.from-2.ensures in
    placed-none c.args.state.now.network c.args.more.now.network c.args.state.now.flows (has_node c.args.side.now.ids) arc
    c.in-Ok.field-0 c.requires.greatest c.requires.least c.requires.capacity same c.in-Ok.ensures.fits.network
    c.if-not-leads_out.ensures

after : (c : After-arcs) → c.add_detour-2.new.more.network ≡ with_detours c.args.more.now.network c.args.arc
after c = c.in_ok-add_detour-2.ensures ∙ ap (λ m. with_detour m c.args.arc.head c.args.arc.cap) c.in_ok-add_detour.ensures

long : (c : After-arcs) → length c.arcs.result.now ≡ length c.args.more.now.network.arcs + 4
long c = ap length c.arcs.ensures.value ∙ ap (λ (m : Network). length m.arcs) (after c)
    ∙ long-detours c.args.state.now.network c.args.more.now.network c.args.arc 0 c.requires.extended

pub returns-clause-extended : goal.returns-clause-extended
returns-clause-extended c =
    let n = c.args.state.now.network in
    subst (λ m. IsExtended n m 0) (sym (after c))
    (extended-detours n c.args.more.now.network c.args.arc 0 c.requires.extended)

pub returns-clause-keeps : goal.returns-clause-keeps
returns-clause-keeps c = subst (KeepsArcs c.args.more.now.network) (sym (after c)) (keeps-detours c.args.more.now.network c.args.arc)

pub returns-clause-placed : goal.returns-clause-placed
returns-clause-placed c =
    let n = c.args.state.now.network in
    let arc = c.args.arc in
    let same = c.in-Ok.ensures.arc ∙ ap (λ v. open_arc v c.from-2.result arc.cap) c.from.ensures ∙ ap (λ v. open_arc arc.tail v arc.cap) c.from-2.ensures in
    let first : ℕ = length c.arcs.result.now - 3 in
    subst (λ m. IsPlaced n m arc first) (sym (after c))
    (placed-some n c.args.more.now.network arc c.in-Ok.field-0 first 0 c.requires.extended same c.in-Ok.ensures.fits.network
    (omega (arith, long c)))
