use Rattle.std.proofs.Common.{Some, IfOk, sym, subst, ◌∙◌}
use Rattle.std.proofs.lemmas.Result.{IfOk-weaker}
use Rattle.dmf_solver.specs.KeptNetwork.{KeptNetwork, IsNetworkOf}
use Rattle.dmf_session.specs.Kept.{KeepsPresent}
use Rattle.dmf_session.proofs.Keeping.{KeepsPresent-one}
use Rattle.dmf_session.proofs.session.Session.take_network.Goals.{in-Some, in-None}
use Rattle.dmf_session.proofs.session.Session.take_network.Goals as goal

pub returns-clause-network : goal.returns-clause-network
returns-clause-network g c =
    let t = g.H.History.timeline c.self.inside.history in
    let kept = λ (network : KeptNetwork). KeepsPresent t (Some network) in
    subst (λ h. IfOk c.match-take.result (λ network. KeepsPresent (g.H.History.timeline h) (Some network))) c.self.view_is
    elim c.match-take.branch [
      | in-Some w ↦ subst (λ r. IfOk r kept) (sym w.result-is) (subst (KeepsPresent t) (sym c.take.ensures.value ∙ w.in-Some.is) c.self.invariant)
      | in-None w ↦
          let s = w.present.result.now in
          subst (λ r. IfOk r kept) (sym w.result-is) (IfOk-weaker w.new.result (IsNetworkOf s) kept
          (λ network is. KeepsPresent-one t s network w.present.ensures.state is) w.new.ensures)
    ]
