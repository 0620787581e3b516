use Rattle.std.proofs.Common.{ℕ, ◌≡◌, ◌+◌, ◌-◌, ◌<◌, ◌≤◌, arith, inl, inr, ⊎_elim}
use Rattle.std.proofs.Math.Nat.{le-max_left, le-max_right, max-eq_left, max-eq_right}
use Rattle.std.proofs.lemmas.Bool.{cases_lt}
use Rattle.dmf_state.specs.Arc.{open_arc}
use Rattle.dmf_state.proofs.ChangedArc.{has_arc-within}
use Rattle.dmf_vital.specs.Without.{with_new_arc}
use Rattle.dmf_vital.proofs.Bounds.{some-loss}
use Rattle.dmf_vital.proofs.Extending.{network-before}
use Rattle.dmf_vital.proofs.NewArc.{gain-is}
use Rattle.dmf_vital.proofs.Values.{some-value}
use Rattle.dmf_vital.proofs.gain.gain_of.Goals as goal

pub overflow_add-first : goal.overflow_add-first
overflow_add-first c =
    let last = has_arc-within c.args.more.now.network (c.args.first + 3) (c.requires.there c.if-first-eq0.false).1 in
    omega (arith, last, c.requires.ready.network.at_most_arcs)

pub loss_of_arc-requires-clause-is_there : goal.loss_of_arc-requires-clause-is_there
loss_of_arc-requires-clause-is_there c = (c.requires.there c.if-first-eq0.false).1

pub returns-then-head_loss-cap-clause-gain : goal.returns-then-head_loss-cap-clause-gain
returns-then-head_loss-cap-clause-gain c n arc extended placed same =
    let m = c.args.more.now.network in
    let first = c.args.first in
    let wide = c.requires.ready.network in
    let network = network-before n (open_arc arc.tail arc.head arc.cap) placed.fits in
    let detours = placed.detours c.if-first-eq0.false in
    let tail = some-loss m first wide detours.first_there in
    let value = some-value n network in
    let more = some-value (with_new_arc n arc) placed.fits in
    let none : 0 ≡ arc.cap - c.in_ok-head_loss.head_loss = omega (arith, same, c.if-head_loss-cap.true) in
    gain-is n m arc first tail.0 c.in_ok-head_loss.head_loss network wide placed.fits extended detours tail.1 c.in_ok-head_loss.ensures.loss
    value.0 more.0 value.1 more.1 0 (inr none) (omega arith) (omega arith)

pub returns-clause-gain : goal.returns-clause-gain
returns-clause-gain c n arc extended placed same =
    let m = c.args.more.now.network in
    let first = c.args.first in
    let wide = c.requires.ready.network in
    let network = network-before n (open_arc arc.tail arc.head arc.cap) placed.fits in
    let detours = placed.detours c.if-first-eq0.false in
    let value = some-value n network in
    let more = some-value (with_new_arc n arc) placed.fits in
    let at_tail : ℕ = c.in_ok-tail_loss.tail_loss in
    let at_head : ℕ = c.in_ok-head_loss.head_loss in
    gain-is n m arc first c.in_ok-tail_loss.tail_loss c.in_ok-head_loss.head_loss network wide placed.fits extended detours
    c.in_ok-tail_loss.ensures.loss c.in_ok-head_loss.ensures.loss value.0 more.0 value.1 more.1 c.saturating_sub.result
    (⊎_elim
    (λ (less : at_tail < at_head). inr (omega (arith, same, c.max.ensures, c.saturating_sub.ensures, max-eq_right {n = at_tail} {m = at_head} (omega (arith, less)))))
    (λ (least : at_head ≤ at_tail). inl (omega (arith, same, c.max.ensures, c.saturating_sub.ensures, max-eq_left {n = at_tail} {m = at_head} least)))
    (cases_lt at_tail at_head))
    (omega (arith, same, c.max.ensures, c.saturating_sub.ensures, le-max_left at_tail at_head))
    (omega (arith, same, c.max.ensures, c.saturating_sub.ensures, le-max_right at_tail at_head))
