use Rattle.std.proofs.Common.{ℕ, ◌≡◌, ◌-◌, ◌<◌, Bool, true, false, refl, ap, ◌∙◌, sym, arith, set, subst}
use Rattle.std.proofs.lemmas.Bool.{both_ways}
use Rattle.std.proofs.lemmas.List.Sums.{get_or-le-sum_by}
use Rattle.std.proofs.lemmas.Slice.Zip.{AllZip-long}
use Rattle.dmf_state.specs.declared.arc.Arc.{Arc}
use Rattle.dmf_state.specs.Arc.{no_arc}
use Rattle.dmf_state.specs.Flow.{flow_on}
use Rattle.dmf_state.specs.Network.{arc_number}
use Rattle.dmf_state.proofs.ChangedArc.{has_arc-within}
use Rattle.dmf_state.proofs.Changing.{within-at}
use Rattle.dmf_vital.specs.Exits.{is_exit_arc}
use Rattle.dmf_vital.specs.Hop.{from_of, sent, turned}
use Rattle.dmf_vital.specs.Shifted.{AreShifted}
use Rattle.dmf_vital.specs.Tree.{back_of, place_of}
use Rattle.dmf_vital.proofs.Level.{barred-exit}
use Rattle.dmf_vital.proofs.Pushed.{IsPushedFrom, IsSent, StepsBack, above-begun, above-step, above-there, entry-width, pushed-none, room-less, room-more, sent-within}
use Rattle.dmf_vital.proofs.push.climb.Goals.{After-is_exit, After-turned-against}
use Rattle.dmf_vital.proofs.push.climb.Goals as goal

pub loop-u-init : goal.loop-u-init
loop-u-init c =
    let nodes = c.args.tree.now.nodes.items in
    pushed-none c.args.state.now.network c.args.exits (back_of nodes c.args.v) c.args.v c.args.amount nodes c.args.flows.now c.requires.within c.requires.node
    c.requires.reached refl c.requires.fits

pub arc-arc-requires : goal.arc-arc-requires
arc-arc-requires c =
    let n = c.args.state.now.network in
    above-there n c.args.exits (back_of c.args.tree.now.nodes.items c.args.v) c.loop-u.u c.args.v c.args.amount c.args.tree.now.nodes.items
    c.args.tree.now.found.items c.args.flows.now c.loop-u.flows c.index-by.result.now c.requires.listed c.requires.steps c.loop-u.invariant c.loop-u-test.true
    c.index-by.ensures

-- The search began here, from behind.
pub returns-then-is_exit-clause-climbed : goal.returns-then-is_exit-clause-climbed
returns-then-is_exit-clause-climbed c =
    let n = c.args.state.now.network in
    let nodes = c.args.tree.now.nodes.items in
    let e = c.args.exits in
    let v : ℕ = c.args.v in
    let u : ℕ = c.loop-u.u in
    let exit : ℕ = c.index-by.result.now.hop.arc in
    let is = c.loop-u.invariant in
    let begun = above-begun n e (back_of nodes v) u v c.args.amount nodes c.args.tree.now.found.items c.args.flows.now c.loop-u.flows c.index-by.result.now
    c.requires.listed c.requires.steps is c.loop-u-test.true c.index-by.ensures
    (ap (is_exit_arc e exit) (sym c.arc-arc.ensures.value) ∙ sym c.is_exit.ensures ∙ c.if-is_exit.true) in
    let sent : IsSent n e true u v c.args.amount c.args.flows.now c.loop-u.flows =
    subst (λ b. IsSent n e b u v c.args.amount c.args.flows.now c.loop-u.flows) begun.behind is.sent in
    record {
      ahead = λ ahead. absurd (both_ways (back_of nodes v) ahead begun.behind);
      behind = λ _. subst (λ w. AreShifted n e v w c.args.amount c.args.flows.now c.loop-u.flows) (sym begun.enters) sent;
      is_there = λ _. begun.there;
      is_exit = λ _. begun.exit;
      level = λ _. begun.level;
      carries = λ _.
          let kept = sent.kept exit begun.there (barred-exit n e exit begun.exit) in
          let width = entry-width n e (back_of nodes v) u v c.args.amount nodes c.args.tree.now.found.items c.args.flows.now c.loop-u.flows c.index-by.result.now
          c.requires.listed c.requires.steps is c.loop-u-test.true c.index-by.ensures in
          omega (arith, kept, begun.carries, is.fits, width);
    }

-- There is a step.
back : (c : After-is_exit) → c.is_exit.result ≡ false → StepsBack c.args.state.now.network c.args.exits (back_of c.args.tree.now.nodes.items c.args.v) c.loop-u.u c.args.v
    c.args.amount c.args.tree.now.nodes.items c.args.flows.now c.loop-u.flows c.index-by.result.now
back c other =
    let e = c.args.exits in
    above-step c.args.state.now.network e (back_of c.args.tree.now.nodes.items c.args.v) c.loop-u.u c.args.v c.args.amount c.args.tree.now.nodes.items
    c.args.tree.now.found.items c.args.flows.now c.loop-u.flows c.index-by.result.now c.requires.listed c.requires.steps c.loop-u.invariant c.loop-u-test.true
    c.index-by.ensures c.arc-arc.ensures.state.network.arcs
    (ap (is_exit_arc e c.index-by.result.now.hop.arc) (sym c.arc-arc.ensures.value) ∙ sym c.is_exit.ensures ∙ other)

pub send-requires-clause-from_one : goal.send-requires-clause-from_one
send-requires-clause-from_one c =
    let is = back (goal.at.send-requires-clause-from_one c).After-is_exit c.if-is_exit.false in
    (has_arc-within c.args.state.now.network c.index-by.result.now.hop.arc is.there).0

pub send-requires-clause-to_last : goal.send-requires-clause-to_last
send-requires-clause-to_last c =
    let n = c.args.state.now.network in
    let is = back (goal.at.send-requires-clause-to_last c).After-is_exit c.if-is_exit.false in
    let within = sent-within n c.args.exits (back_of c.args.tree.now.nodes.items c.args.v) c.loop-u.u c.args.v c.args.amount c.args.flows.now c.loop-u.flows
    c.loop-u.invariant.sent in
    omega (arith, has_arc-within n c.index-by.result.now.hop.arc is.there, AllZip-long _ n.arcs c.loop-u.flows within)

pub send-requires-clause-less : goal.send-requires-clause-less
send-requires-clause-less c = λ against.
    let n = c.args.state.now.network in
    let by = c.index-by.result.now in
    let is = back (goal.at.send-requires-clause-less c).After-is_exit c.if-is_exit.false in
    room-less (turned by.back by.hop.against) (arc_number n by.hop.arc) (flow_on c.loop-u.flows by.hop.arc) c.args.amount
    (sym c.turned-against.ensures ∙ against) is.room

pub send-requires-clause-more : goal.send-requires-clause-more
send-requires-clause-more c = λ along.
    let n = c.args.state.now.network in
    let by = c.index-by.result.now in
    let is = back (goal.at.send-requires-clause-more c).After-is_exit c.if-is_exit.false in
    let within = sent-within n c.args.exits (back_of c.args.tree.now.nodes.items c.args.v) c.loop-u.u c.args.v c.args.amount c.args.flows.now c.loop-u.flows
    c.loop-u.invariant.sent in
    let most = room-more (turned by.back by.hop.against) (arc_number n by.hop.arc) (flow_on c.loop-u.flows by.hop.arc) c.args.amount
    (sym c.turned-against.ensures ∙ along) (within-at n.arcs c.loop-u.flows (by.hop.arc - 1) within) is.room in
    let cap = get_or-le-sum_by (λ (a : Arc). a.cap) n.arcs (by.hop.arc - 1) no_arc (has_arc-within n by.hop.arc is.there).1 in
    omega (arith, most, cap, c.arc-arc.ensures.state.network.capacities)

pub loop-u-smaller : goal.loop-u-smaller
loop-u-smaller c =
    let by = c.index-by.result.now in
    let nodes = c.args.tree.now.nodes.items in
    let leads = c.from_of-u.ensures ∙ ap (from_of by.hop.against) c.arc-arc.ensures.value in
    let is = back (goal.at.loop-u-smaller c).After-is_exit c.if-is_exit.false in
    subst (λ w. place_of nodes w < place_of nodes c.loop-u.u) (sym leads) is.smaller

pub loop-u-preserved : goal.loop-u-preserved
loop-u-preserved c =
    let n = c.args.state.now.network in
    let by = c.index-by.result.now in
    let nodes = c.args.tree.now.nodes.items in
    let side : Bool = back_of nodes c.args.v in
    let leads = c.from_of-u.ensures ∙ ap (from_of by.hop.against) c.arc-arc.ensures.value in
    let wrote = c.send.ensures ∙ ap (λ t. set c.loop-u.flows (by.hop.arc - 1) (sent t c.args.amount (flow_on c.loop-u.flows by.hop.arc))) c.turned-against.ensures in
    let is = back (goal.at.loop-u-preserved c).After-is_exit c.if-is_exit.false in
    subst (λ w. IsPushedFrom n c.args.exits side w c.args.v c.args.amount nodes c.args.flows.now c.send.new.flows) (sym leads)
    (subst (λ xs. IsPushedFrom n c.args.exits side (from_of by.hop.against (arc_number n by.hop.arc)) c.args.v c.args.amount nodes c.args.flows.now xs) (sym wrote) is.next)

-- The node that the exits leave is reached ahead.
pub returns-clause-climbed : goal.returns-clause-climbed
returns-clause-climbed c =
    let n = c.args.state.now.network in
    let nodes = c.args.tree.now.nodes.items in
    let e = c.args.exits in
    let v : ℕ = c.args.v in
    let u : ℕ = c.loop-u.u in
    let is = c.loop-u.invariant in
    let ahead : back_of nodes v ≡ false = sym is.end ∙ ap (back_of nodes) c.loop-u-test.false ∙ c.requires.ahead in
    let sent : IsSent n e false u v c.args.amount c.args.flows.now c.loop-u.flows =
    subst (λ b. IsSent n e b u v c.args.amount c.args.flows.now c.loop-u.flows) ahead is.sent in
    record {
      ahead = λ _. subst (λ w. AreShifted n e w v c.args.amount c.args.flows.now c.loop-u.flows) c.loop-u-test.false sent;
      behind = λ behind. absurd (both_ways (back_of nodes v) ahead behind);
      is_there = λ behind. absurd (both_ways (back_of nodes v) ahead behind);
      is_exit = λ behind. absurd (both_ways (back_of nodes v) ahead behind);
      level = λ behind. absurd (both_ways (back_of nodes v) ahead behind);
      carries = λ behind. absurd (both_ways (back_of nodes v) ahead behind);
    }
