-- A trial goes on over an admissible link, or raises a label.
use Rattle.std.proofs.Common.{◌≡◌, ◌+◌, ◌<◌, ◌≤◌, [], ◌∷◌, inl, inr, length, get_or, set, sym, subst, ◌∙◌, arith}
use Rattle.std.proofs.lemmas.Bool.{cases_lt}
use Rattle.std.proofs.lemmas.List.{get_or_default}
use Rattle.dmf_node.specs.Node.{IsNode}
use Rattle.dmf_links.specs.Links.{LiesAt}
use Rattle.dmf_links.specs.LinkTable.{links_of}
use Rattle.dmf_path.specs.Raising.{AreRaised}
use Rattle.dmf_path.specs.Residual.{residual_of}
use Rattle.dmf_path.specs.Walk.{IsWalk}
use Rattle.dmf_links.proofs.tables.LinkPlaces.{end-within}
use Rattle.dmf_path.proofs.labels.RaisedLabels.{moved, raised-again}
use Rattle.dmf_path.proofs.raise.raise.Goals as goal
use Rattle.dmf_path.proofs.raise.raise.Goals.{After-label, After-first_admissible-place, After-deref-then-place-end}

pub returns-then-not-is_raised-clause-walk : goal.returns-then-not-is_raised-clause-walk
returns-then-not-is_raised-clause-walk c true_is = c.loop.invariant.back c.if-not-is_raised.true [] c.if-node-ends.true

-- The links of the node end where the end is,
within : (c : After-label) → c.index-end.result.now ≤ length c.args.links.now.table.value.heads.items
within c = end-within (links_of c.args.links.now.table.value) c.loop.node c.index-end.result.now c.args.links.now.table.value.are
    c.loop.invariant.node.to_last (rw c.deref.ensures at c.index-end.ensures)

end : (c : After-label) → get_or c.args.links.now.table.value.first.items (c.loop.node + 1) 0 ≡ c.index-end.result.now
end c =
    let table = c.args.links.now.table.value in
    get_or_default table.first.items (c.loop.node + 1) 0 c.index-end.result.now (omega (arith, c.loop.invariant.node.to_last, table.are.first_long))
    ∙ sym (rw c.deref.ensures at c.index-end.ensures)

pub first_admissible-place-requires-clause-links : goal.first_admissible-place-requires-clause-links
first_admissible-place-requires-clause-links c = within (goal.at.first_admissible-place-requires-clause-links c).After-label

-- The links before the one that is found are passed.
on : (c : After-first_admissible-place) → AreRaised (residual_of c.args.links.now) c.args.ends.goal
    (record { labels = c.args.near.now.labels; current = c.args.current.now })
    (record { labels = c.loop.near.labels; current = set c.loop.current c.loop.node c.first_admissible-place.result })
on c =
    let at = (goal.at.After-first_admissible-place c).After-label in
    let is = c.loop.invariant in
    let found = rw c.labels.ensures at c.first_admissible-place.ensures in
    raised-again is.raised (moved is.raised.further is.node (omega (arith, found.from, is.raised.further.current_is.from c.loop.node is.node))
    (omega (arith, found.to, end at)) (λ p lies before admissible. elim (cases_lt p (get_or c.loop.current c.loop.node 0)) [
      | inl passed ↦ passed
      | inr next ↦ absurd (found.first p next before admissible.room (admissible.falls ∙ sym c.label.ensures))
    ]))

pub index-node-requires : goal.index-node-requires
index-node-requires c =
    rw c.deref-then-place-end.ensures (omega (arith, c.if-place-end.true, within (goal.at.index-node-requires c).After-label))

pub loop-preserved-then-place-end : goal.loop-preserved-then-place-end
loop-preserved-then-place-end c =
    let at = (goal.at.loop-preserved-then-place-end c).After-label in
    let l = links_of c.args.links.now.table.value in
    let is = c.loop.invariant in
    let place = c.first_admissible-place.result in
    let found = rw c.labels.ensures at c.first_admissible-place.ensures in
    let inside : place < length l.heads = omega (arith, c.if-place-end.true, within at) in
    let head = get_or_default l.heads place 0 c.index-node.result.now inside ∙ sym (rw c.deref-then-place-end.ensures at c.index-node.ensures) in
    let lies : LiesAt l c.loop.node place = record {
      from = omega (arith, found.from, is.raised.further.current_is.from c.loop.node is.node);
      below = omega (arith, c.if-place-end.true, end at);
    } in
    record {
      raised = on (goal.at.loop-preserved-then-place-end c).After-first_admissible-place;
      node = subst (IsNode l.nodes) head (c.args.links.now.table.value.are.each place inside).head;
      back = λ none ps walk. is.back none (place ∷ ps) (
        record { lies = lies; room = found.room c.if-place-end.true; falls = found.falls c.if-place-end.true ∙ c.label.ensures },
        subst (λ u. IsWalk l c.loop.near.labels c.args.links.now.rooms.items c.args.ends.goal u ps) (sym head) walk,
      );
    }

pub returns-then-not-raise_node-clause-raised : goal.returns-then-not-raise_node-clause-raised
returns-then-not-raise_node-clause-raised c =
    raised-again (on (goal.at.returns-then-not-raise_node-clause-raised c).After-first_admissible-place) c.raise_node.ensures.raised

pub loop-preserved : goal.loop-preserved
loop-preserved c = record {
  raised = raised-again (on (goal.at.loop-preserved c).After-first_admissible-place) c.raise_node.ensures.raised;
  node = c.loop.invariant.node;
  back = λ e. absurd (cc);
}
