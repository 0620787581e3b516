use Rattle.std.proofs.Common.{◌<◌, arith, refl}
use Rattle.std.proofs.lemmas.Bool.{lt-leb}
use Rattle.dmf_session.proofs.session.Session.undo.Goals as goal

pub returns-then-steps-from : goal.returns-then-steps-from
returns-then-steps-from g c want_cut =
    let t = g.H.History.timeline c.args.self.now in
    let past : t.place < c.args.steps = omega (arith, c.if-steps-from.true, c.from.ensures, c.past.ensures.count) in
    rw (lt-leb c.args.steps t.place past) (record { told = refl; unchanged = refl })
