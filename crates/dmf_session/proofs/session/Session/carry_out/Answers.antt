use Rattle.dmf_session.proofs.session.Session.carry_out.Goals as goal

pub returns-in-Undo-clause-answer : goal.returns-in-Undo-clause-answer
returns-in-Undo-clause-answer g c = rw c.in-Undo.is (c.undo.ensures c.args.want_cut)

pub returns-in-Undo-clause-optimal : goal.returns-in-Undo-clause-optimal
returns-in-Undo-clause-optimal g c = λ solves. let is = c.in-Undo.is in absurd (cc)
