use Rattle.std.proofs.Common.{subst, sym}
use Rattle.dmf_valuing.specs.PartRows.{ArePartRows}
use Rattle.dmf_valuing.proofs.FromLosses.{losses-fit, rows-are}
use Rattle.dmf_valuing.proofs.finding.find_rows.Goals as goal

pub second_rows-requires-clause-losses : goal.second_rows-requires-clause-losses
second_rows-requires-clause-losses g c = rw c.deref.ensures.value (rw c.in-Seconds.is at c.in_ok-losses.ensures)

pub returns-in-Seconds-clause-rows : goal.returns-in-Seconds-clause-rows
returns-in-Seconds-clause-rows g c = rw c.in-Seconds.is c.second_rows.ensures.rows

pub loss_rows-requires : goal.loss_rows-requires
loss_rows-requires g c =
    let n = c.args.state.now.network in
    let losses = c.deref-in_default.result.now in
    losses-fit n c.args.state.now.flows c.value.result c.requires c.value.ensures.value c.args.parts losses
    (rw c.deref-in_default.ensures.value c.in_ok-losses.ensures)

pub returns : goal.returns
returns g c =
    let n = c.args.state.now.network in
    let losses = c.deref-in_default.result.now in
    let are = rows-are n c.args.state.now.flows c.value.result c.requires c.value.ensures.value c.args.parts losses c.in_default.not-Seconds
    (rw c.deref-in_default.ensures.value c.in_ok-losses.ensures) in
    record { rows = subst (ArePartRows c.args.parts n) (sym c.in_ok-loss_rows-in_default.ensures) are; refused = tt }
