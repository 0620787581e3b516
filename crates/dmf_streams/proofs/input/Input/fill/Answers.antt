use Rattle.std.proofs.Common.{[], refl, sym}
use Rattle.std.proofs.KnownBytes.{Consumes-nil, Consumes-kept}
use Rattle.dmf_streams.proofs.TakingLemmas.{nothing-pending, Takes-read}
use Rattle.dmf_streams.proofs.input.Input.fill.Goals as goal

-- no byte was pending, and none was read
pub returns-in_default : goal.returns-in_default
returns-in_default g c =
    let a = c.self.inside in
    let none = nothing-pending a.piece a.start a.end c.if-self.false in
    let left = g.C.Source.left in
    let read = Consumes-kept _ _ (left c.read.new.self).known [] (Consumes-nil (left c.args.source.now).known) (rw c.in_default.is at c.read.ensures.bytes) in (
      rw (sym c.self.view_is) (Takes-read _ _ _ _ none (refl {a = a.count}) read),
      record { none_pending = refl; mark = rw c.in_default.is at c.read.ensures.mark },
    )
