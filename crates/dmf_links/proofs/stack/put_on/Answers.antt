-- The first spare links of both ends become those of the pair.
use Rattle.std.proofs.Common.{arith}
use Rattle.dmf_links.specs.Pair.{IsPair}
use Rattle.dmf_links.proofs.spares.PutOn.{none-put, put-links, put-pair, spare-at, spares-apart}
use Rattle.dmf_links.proofs.stack.put_on.Goals.{After-couple, In-Some-spare-2}
use Rattle.dmf_links.proofs.stack.put_on.Goals as goal

pub returns-in_default : goal.returns-in_default
returns-in_default c done =
    let none = none-put c.args.table.now.are c.requires.places c.requires.few in
    rw (c.put_on.ensures done, c.in_default.is) none

-- the pair is one
its : (c : In-Some-spare-2) → IsPair c.args.table.now.nodes c.in-Some.pair
its c = rw c.in-Some.is at c.requires.pair

pub couple-requires-clause-a_within : goal.couple-requires-clause-a_within
couple-requires-clause-a_within c =
    (spare-at _ _ c.args.table.now.are (its (goal.at.couple-requires-clause-a_within c).In-Some-spare-2).tail c.in-Some-spare.ensures).within

pub couple-requires-clause-b_within : goal.couple-requires-clause-b_within
couple-requires-clause-b_within c =
    (spare-at _ _ c.args.table.now.are (its (goal.at.couple-requires-clause-b_within c).In-Some-spare-2).head c.in-Some-spare-2.ensures).within

pub couple-requires-clause-apart : goal.couple-requires-clause-apart
couple-requires-clause-apart c =
    let pair = its (goal.at.couple-requires-clause-apart c).In-Some-spare-2 in
    spares-apart (spare-at _ _ c.args.table.now.are pair.tail c.in-Some-spare.ensures)
    (spare-at _ _ c.args.table.now.are pair.head c.in-Some-spare-2.ensures) pair.no_loop

pub overflow_add-along : goal.overflow_add-along
overflow_add-along c =
    let at = (goal.at.overflow_add-along c).In-Some-spare-2 in
    let a = spare-at _ _ c.args.table.now.are (its at).tail c.in-Some-spare.ensures in
    omega (arith, a.within, c.args.table.now.are.at_most)

pub set_ends-requires-clause-within : goal.set_ends-requires-clause-within
set_ends-requires-clause-within c =
    let at = (goal.at.set_ends-requires-clause-within c).In-Some-spare-2 in
    let a = spare-at _ _ c.args.table.now.are (its at).tail c.in-Some-spare.ensures in
    omega (arith, a.within, c.couple.ensures.count)

pub set_ends-requires-clause-links : goal.set_ends-requires-clause-links
set_ends-requires-clause-links c =
    put-links c.args.table.now.are (its (goal.at.set_ends-requires-clause-links c).In-Some-spare-2) c.in-Some-spare.ensures c.in-Some-spare-2.ensures
    c.couple.ensures

pub returns-then-set_ends : goal.returns-then-set_ends
returns-then-set_ends c done =
    let put = put-pair c.args.table.now.are c.requires.places c.requires.few (its (goal.at.returns-then-set_ends c).In-Some-spare-2)
    c.in-Some-spare.ensures c.in-Some-spare-2.ensures c.couple.ensures in
    rw (c.put_on-then-set_ends.ensures done, c.if-set_ends.ensures, c.in-Some.is) put
