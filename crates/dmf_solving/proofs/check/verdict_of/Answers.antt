use Rattle.std.proofs.Common.{◌≡◌, ◌↔◌, Bool, true, false, Result, Ok, Err, IfOk, refl}
use Rattle.std.specs.Bool.{IsTrue}
use Rattle.dmf_state.specs.NetworkState.{NetworkState}
use Rattle.dmf_solver.specs.Greatest.{IsGreatest, IsSurpassed}
use Rattle.dmf_solving.specs.CheckRun.{IsVerdict}
use Rattle.dmf_solving.proofs.check.verdict_of.Goals as goal

-- the meaning of the answer
verdict-is : {E : Type 0} (s : NetworkState) (answer : Result Bool E) → IfOk answer (λ b. IsTrue b ↔ IsGreatest s.network s.flows)
    → IfOk answer (λ b. (b ≡ false) ↔ IsSurpassed s.network s.flows) → IfOk answer (IsVerdict s)
verdict-is s (Ok true) greatest surpassed = greatest.0 refl
verdict-is s (Ok false) greatest surpassed = surpassed.0 refl
verdict-is s (Err e) greatest surpassed = tt

pub returns : goal.returns
returns c = verdict-is c.args.state.now c.is_greatest.result c.is_greatest.ensures.greatest c.is_greatest.ensures.surpassed
