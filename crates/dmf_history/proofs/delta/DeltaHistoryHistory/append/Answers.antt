use Rattle.dmf_history.proofs.Edits.{fits-present, put-within_bound, put-appends, put-forgets-within_bound, put-forgets}
use Rattle.dmf_history.proofs.delta.DeltaHistoryHistory.append.Goals as goal

pub apply-requires : goal.apply-requires
apply-requires c =
    fits-present c.self.invariant c.args.edit _ c.self.view_is c.requires.fits

pub invariant_of-self-in_err-apply : goal.invariant_of-self-in_err-apply
invariant_of-self-in_err-apply c = rw (c.in_err-apply.ensures.err, c.reserve.ensures.items) c.self.invariant

pub invariant_of-self-then-self : goal.invariant_of-self-then-self
invariant_of-self-then-self c =
    rw (c.push_back_reserved.ensures.items, c.truncate.ensures.items, c.reserve.ensures.items, c.in_ok-apply.ensures.ok)
    (put-within_bound c.self.invariant c.args.edit _ c.self.view_is c.requires.fits c.reverting_gives_back.ensures c.if-self.true)

pub invariant_of-self-else-self : goal.invariant_of-self-else-self
invariant_of-self-else-self c =
    rw (c.forget_oldest.ensures, c.push_back_reserved.ensures.items, c.truncate.ensures.items, c.reserve.ensures.items, c.in_ok-apply.ensures.ok)
    (put-forgets-within_bound c.self.invariant c.args.edit _ c.self.view_is c.requires.fits c.reverting_gives_back.ensures)

pub returns-then-self-clause-ok : goal.returns-then-self-clause-ok
returns-then-self-clause-ok c =
    rw (c.push_back_reserved.ensures.items, c.truncate.ensures.items, c.reserve.ensures.items, c.in_ok-apply.ensures.ok)
    (put-appends c.self.invariant c.args.edit _ c.self.view_is c.requires.fits c.reverting_gives_back.ensures c.if-self.true)

pub returns-else-self-clause-ok : goal.returns-else-self-clause-ok
returns-else-self-clause-ok c =
    rw (
      c.forget_oldest.ensures,
      c.push_back_reserved.ensures.items,
      c.truncate.ensures.items,
      c.reserve.ensures.items,
      c.in_ok-apply.ensures.ok,
    )
    (put-forgets c.self.invariant c.args.edit _ c.self.view_is c.requires.fits c.reverting_gives_back.ensures c.if-self.false)
