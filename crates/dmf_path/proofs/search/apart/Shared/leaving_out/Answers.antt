-- The last two pairs are taken off, and the last one is put on again.
use Rattle.std.proofs.Common.{arith}
use Rattle.std.proofs.lemmas.Option.{IfSome_then}
use Rattle.dmf_links.specs.LinkTable.{links_of}
use Rattle.dmf_path.proofs.pairs.PutApart.{off-long}
use Rattle.dmf_path.proofs.search.apart.Shared.leaving_out.Goals as goal

pub without_last-requires-2-clause-some : goal.without_last-requires-2-clause-some
without_last-requires-2-clause-some c = omega (arith, off-long c.in_ok-off.ensures.off (omega (arith, c.requires.two)), c.requires.two)

pub with_last-requires-clause-few : goal.with_last-requires-clause-few
with_last-requires-clause-few c =
    let one = off-long c.in_ok-off.ensures.off (omega (arith, c.requires.two)) in
    let two = off-long c.in_ok-less.ensures.off (omega (arith, one, c.requires.two)) in
    omega (arith, one, two, c.requires.two, c.requires.shared.places.at_most)

pub returns-clause-left : goal.returns-clause-left
returns-clause-left c = IfSome_then c.with_last.result c.with_last.ensures.on (λ after on. record {
  off = links_of c.in_ok-off.off.table.value;
  left = c.in_ok-off.off.places.value;
  off_links = c.in_ok-off.off.table.value.are;
  taken_off = c.in_ok-off.ensures.off;
  less = links_of c.in_ok-less.less.table.value;
  fewer = c.in_ok-less.less.places.value;
  less_links = c.in_ok-less.less.table.value.are;
  next_off = c.in_ok-less.ensures.off;
  last = c.idle_pair-last.result;
  last_is = λ rooms. rw (c.deref.ensures, c.deref-2.ensures, c.len.ensures, c.deref-3.ensures) at (c.idle_pair-last.ensures.is rooms);
  last_on = on;
})
