use Rattle.std.proofs.Common.{◌≡◌, ◌-◌, ℕ, List}
use Rattle.dmf_streams.specs.Input.{HasNoLineFeed}
use Rattle.dmf_streams.specs.KeptLine.{IsKept}
use Rattle.dmf_streams.specs.Input.{input_over, TakesBytes}
use Rattle.dmf_streams.proofs.input.Input.next_line.Given as goal

-- no byte taken so far is a line feed, and the buffer keeps its part of them
abbrev pub invariant-loop-byte : goal.invariant-loop-byte
invariant-loop-byte g l =
    let reader = g.C.Source.left in
    (line : List ℕ) × HasNoLineFeed line × IsKept l.line line
    × TakesBytes (input_over l.fn.self (reader l.fn.source)) (input_over l.self (reader l.source)) line
    × ((reader l.source).has_failed ≡ (reader l.fn.source).has_failed)

abbrev pub decreases-loop-byte : goal.decreases-loop-byte
decreases-loop-byte g l = 1073741824 - l.self.count
