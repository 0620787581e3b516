-- The window leaves out only links whose opposites have no room.
use Rattle.std.proofs.Common.{◌≡◌, get_or, length, refl, sym, ap, ◌∙◌, arith}
use Rattle.std.proofs.lemmas.List.{get_or_default}
use Rattle.dmf_links.specs.LinkTable.{links_of}
use Rattle.dmf_links.proofs.tables.LinkPlaces.{last-within}
use Rattle.dmf_path.proofs.labels.Narrowed.{narrowed}
use Rattle.dmf_path.proofs.windows.Windows.narrow.Goals as goal
use Rattle.dmf_path.proofs.windows.Windows.narrow.Goals.{After-deref}

-- where the window begins and ends
from-is : (c : After-deref) → c.index-from.result.now ≡ get_or c.args.self.now.from.items c.args.node 0
from-is c =
    let ranges = (c.requires.known c.if-not-self.false).ranges in
    c.index-from.ensures ∙ sym (get_or_default c.args.self.now.from.items c.args.node 0 _ (omega (arith, c.requires.node.to_last, ranges.from_each)))

end-is : (c : After-deref) → c.index-end.result.now ≡ get_or c.args.self.now.end.items c.args.node 0
end-is c =
    let ranges = (c.requires.known c.if-not-self.false).ranges in
    c.index-end.ensures ∙ sym (get_or_default c.args.self.now.end.items c.args.node 0 _ (omega (arith, c.requires.node.to_last, ranges.end_each)))

pub first_flagged-first-requires-clause-range : goal.first_flagged-first-requires-clause-range
first_flagged-first-requires-clause-range c =
    omega (arith, from-is c, end-is c, (c.requires.known c.if-not-self.false).ranges.order c.args.node c.requires.node)

pub first_flagged-first-requires-clause-within : goal.first_flagged-first-requires-clause-within
first_flagged-first-requires-clause-within c =
    let ranges = (c.requires.known c.if-not-self.false).ranges in
    let table = c.args.links.now.table.value in
    omega (
      arith,
      end-is c,
      ranges.last c.args.node c.requires.node,
      last-within (links_of table) c.args.node table.are c.requires.node.to_last,
      c.args.links.now.flags_are.0,
      ap length c.deref.ensures.value,
    )

pub behind_flagged-behind-requires-clause-within : goal.behind_flagged-behind-requires-clause-within
behind_flagged-behind-requires-clause-within c =
    let at = (goal.at.behind_flagged-behind-requires-clause-within c).After-deref in
    omega (arith, first_flagged-first-requires-clause-within at, ap length c.deref.ensures.value, ap length c.deref-2.ensures.value)

pub returns : goal.returns
returns c =
    let at = (goal.at.returns c).After-deref in
    let first = c.first_flagged-first.ensures in
    let behind = c.behind_flagged-behind.ensures in
    let early = rw c.deref.ensures.value at first.none in
    let late = rw c.deref-2.ensures.value at behind.none in
    record {
      known = λ known. narrowed {first = c.first_flagged-first.result} {behind = c.behind_flagged-behind.result} c.args.links.now.table.value.are
          c.args.links.now.flags_are c.requires.node (c.requires.known known)
          (record {
            from_is = refl;
            end_is = refl;
            first_is = omega (arith, from-is at, first.from);
            order = behind.from;
            behind_is = omega (arith, end-is at, behind.to);
            before = λ p from below. early p (omega (arith, from-is at, from)) below;
            after = λ p from below. late p from (omega (arith, end-is at, below));
          });
    }
