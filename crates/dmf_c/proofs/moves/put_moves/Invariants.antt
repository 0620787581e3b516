use Rattle.std.proofs.Common.{take}
use Rattle.dmf_c.specs.Differing.{differing}
use Rattle.dmf_c.specs.Moved.{HasMoves}
use Rattle.dmf_c.proofs.moves.put_moves.Given as goal

-- the moves before the index are there
abbrev pub invariant-loop-m : goal.invariant-loop-m
invariant-loop-m l = HasMoves (differing (take l.m-index l.moves)) l.fn.arcs l.arcs l.fn.before l.before l.fn.after l.after l.count
