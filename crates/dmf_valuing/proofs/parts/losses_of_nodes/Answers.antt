use Rattle.std.proofs.Common.{◌≡◌, ◌∙◌, ap, arith, append-nil, filter, refl, subst, sym}
use Rattle.dmf_vital.specs.Worst.{IsNodeLoss}
use Rattle.dmf_valuing.specs.PartRows.{AreLossesOf}
use Rattle.dmf_valuing.specs.Rows.{inner_nodes}
use Rattle.dmf_valuing.proofs.Numbered.{is_of_inner, numbered_losses, of-nodes, one-more_inner}
use Rattle.dmf_valuing.proofs.parts.losses_of_nodes.Goals as goal
use Rattle.dmf_valuing.proofs.parts.losses_of_nodes.Goals.{then-is_inner+in_ok-push, else-is_inner}

pub loop-k-preserved : goal.loop-k-preserved
loop-k-preserved c =
    let losses = c.args.losses.now in
    let k = c.loop-k.k in
    elim c.if-is_inner.branch [
      | then-is_inner+in_ok-push w ↦
          rw (
            w.numbered-is,
            w.in_ok-push.ensures.items,
            c.loop-k.invariant,
            w.single.ensures,
            one-more_inner losses c.args.state.now.network k,
            sym c.is_inner.ensures,
            w.if-is_inner.true,
          ) refl
      | else-is_inner w ↦
          rw (w.numbered-is, c.loop-k.invariant, one-more_inner losses c.args.state.now.network k, sym c.is_inner.ensures, w.if-is_inner.false)
          (sym (append-nil _))
    ]

pub returns : goal.returns
returns c =
    let n = c.args.state.now.network in
    let losses = c.args.losses.now in
    let all : c.loop-k.k ≡ n.nodes = omega (arith, c.loop-k-test.false, c.nodes-k-end.ensures.value, c.loop-k.auto.k-end) in
    subst (AreLossesOf (IsNodeLoss n) (inner_nodes n))
    (sym (c.loop-k.invariant ∙ ap (λ count. filter (is_of_inner n) (numbered_losses losses count)) all))
    (of-nodes losses n c.requires.one_each c.requires.losses)
