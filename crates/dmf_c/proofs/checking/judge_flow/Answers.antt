use Rattle.std.proofs.Common.{rules, inl, inr}
use Rattle.dmf_c.proofs.Judging.{judged}
use Rattle.dmf_c.proofs.checking.judge_flow.Goals as goal

pub returns-in-Ok : goal.returns-in-Ok
returns-in-Ok c =
    elim c.in-Ok.ensures.refused [
      | inl bad ↦ search rules
      | inr none ↦ judged c.args.state.now c.in-Ok.judged c.args.flows.items c.greatest.result c.in-Ok.ensures.ok none c.greatest.ensures
    ]
