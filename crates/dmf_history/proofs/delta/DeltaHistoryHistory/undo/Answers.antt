use Rattle.std.proofs.Common.{◌≡◌, ◌+◌, ◌-◌, Some, arith}
use Rattle.std.proofs.lemmas.Option.{slice_get_read}
use Rattle.std.specs.List.{slice_get}
use Rattle.dmf_history.proofs.Edits.{stands, undone, undone-back}
use Rattle.dmf_history.proofs.delta.DeltaHistoryHistory.undo.Goals as goal
use Rattle.dmf_history.proofs.delta.DeltaHistoryHistory.undo.Goals.{After-index}

-- the edit that is undone, and its place
last : (c : After-index) → (c.self.inside.place ≡ c.self.inside.place - 1 + 1)
    × (slice_get c.self.inside.edits.items (c.self.inside.place - 1) ≡ Some c.index.result.now)
last c =
    let a = c.self.inside in
    let last : a.place ≡ a.place - 1 + 1 = omega (arith, c.if-self-eq0.false) in (
      last,
      slice_get_read a.edits.items _ (a.place - 1) c.index.result.now a.edits.ok.0
          (omega (arith, last, c.self.invariant.are.within, a.edits.ok.0)) c.index.ensures,
    )

pub revert-requires : goal.revert-requires
revert-requires c =
    let last = last (goal.at.revert-requires c).After-index in
    stands c.self.invariant _ c.index.result.now last.0 last.1

pub invariant_of-self : goal.invariant_of-self
invariant_of-self c =
    let last = last (goal.at.invariant_of-self c).After-index in
    rw c.revert.ensures (undone c.self.invariant _ c.index.result.now last.0 last.1 c.reverting_gives_back.ensures)

pub returns-clause-ok : goal.returns-clause-ok
returns-clause-ok c =
    let last = last (goal.at.returns-clause-ok c).After-index in
    rw (← c.self.view_is, c.revert.ensures)
    (undone-back c.self.invariant _ c.index.result.now last.0 last.1)
