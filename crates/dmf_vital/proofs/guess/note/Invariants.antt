use Rattle.std.proofs.Common.{◌≤◌, length}
use Rattle.dmf_vital.proofs.guess.note.Given as goal

abbrev pub invariant-loop-place : goal.invariant-loop-place
invariant-loop-place l = l.place ≤ length l.greatest.items

abbrev pub decreases-loop-place : goal.decreases-loop-place
decreases-loop-place l = l.place
