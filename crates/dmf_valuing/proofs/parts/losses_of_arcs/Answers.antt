use Rattle.std.proofs.Common.{◌≡◌, ◌∙◌, ap, arith, length, subst, sym}
use Rattle.std.specs.List.{range_with_len}
use Rattle.dmf_vital.specs.Worst.{IsArcLoss}
use Rattle.dmf_valuing.specs.PartRows.{AreLossesOf}
use Rattle.dmf_valuing.proofs.Numbered.{numbered_losses, of-arcs, one-more}
use Rattle.dmf_valuing.proofs.parts.losses_of_arcs.Goals as goal

pub loop-k-preserved : goal.loop-k-preserved
loop-k-preserved c =
    rw (c.in_ok-push.ensures.items, c.loop-k.invariant, c.single.ensures) (sym (one-more c.args.losses.now c.loop-k.k))

pub returns : goal.returns
returns c =
    let n = c.args.state.now.network in
    let losses = c.args.losses.now in
    let all : c.loop-k.k ≡ length n.arcs = omega (arith, c.loop-k-test.false, ap length c.arcs-k-end.ensures.value, c.loop-k.auto.k-end) in
    subst (AreLossesOf (IsArcLoss n) (range_with_len 1 (length n.arcs))) (sym (c.loop-k.invariant ∙ ap (numbered_losses losses) all))
    (of-arcs losses n c.requires.one_each c.requires.losses)
