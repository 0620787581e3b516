use Rattle.std.proofs.Common.{◌≡◌, true}
use Rattle.dmf_path.specs.Residual.{residual_of}
use Rattle.dmf_path.specs.Windows.{AreWindows}
use Rattle.dmf_path.proofs.ball.narrow_at.Given as goal

abbrev pub invariant-loop-node : goal.invariant-loop-node
invariant-loop-node l = l.windows.known ≡ true → AreWindows l.windows (residual_of l.links)
