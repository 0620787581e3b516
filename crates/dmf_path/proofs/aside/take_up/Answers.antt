-- The labels in use and the first ones set aside change places.
use Rattle.std.proofs.Common.{◌<◌, length, sym, ◌∙◌, arith}
use Rattle.std.proofs.lemmas.Bool.{eqb-false}
use Rattle.dmf_path.specs.declared.aside.Aside.{Aside}
use Rattle.dmf_path.proofs.labels.Asides.{aside-exchanged}
use Rattle.dmf_path.proofs.aside.take_up.Goals as goal

pub returns : goal.returns
returns c = λ r usable are.
    let b : Aside = c.index-asides-0.result in
    let a : Aside = record { levels = c.args.levels.now; ends = c.args.used } in
    let some : 0 < length c.args.asides.now = omega (arith, eqb-false (length c.args.asides.now) 0 (sym c.is_empty.ensures ∙ c.if-is_empty.false)) in
    let both = aside-exchanged c.args.asides.now a b r some c.index-asides-0.is usable are in
    rw (c.swap.ensures.x_after, c.swap.ensures.y_after, c.replace.ensures.value, c.replace.ensures.after) (rw (← c.index-asides-0.is) both.0, both.1)
