use Rattle.std.proofs.Common.{refl, sym, ◌∙◌}
use Rattle.dmf_c.proofs.Gaining.{found, of-fault, no-zero}
use Rattle.dmf_c.proofs.gains.put_gains.Goals as goal

pub returns-in-Ok-clause-filled : goal.returns-in-Ok-clause-filled
returns-in-Ok-clause-filled g c =
    λ ok. found c.args.state.now.network c.args.arcs.now c.in-Ok.found.items c.copy_from_slice.new.self (c.copy_from_slice.ensures.after ∙ c.deref.ensures.value)
    c.in-Ok.ensures.one_each c.in-Ok.ensures.gains

pub returns-in-Err-clause-answer : goal.returns-in-Err-clause-answer
returns-in-Err-clause-answer g c = of-fault c.args.state.now c.args.arcs.now c.in-Err.fault c.fault_code.result c.fault_code.ensures c.in-Err.ensures.refused

pub returns-in-Err-clause-filled : goal.returns-in-Err-clause-filled
returns-in-Err-clause-filled g c = λ ok. absurd (no-zero c.in-Err.fault (sym c.fault_code.ensures ∙ ok))

pub returns-in-Err-clause-refused : goal.returns-in-Err-clause-refused
returns-in-Err-clause-refused g c = λ not_ok. refl
