-- The last pair is taken off, and put on again behind the new one.
use Rattle.std.proofs.Common.{arith}
use Rattle.std.proofs.lemmas.Option.{IfSome_then}
use Rattle.dmf_links.specs.LinkTable.{links_of}
use Rattle.dmf_path.proofs.pairs.PutApart.{off-long}
use Rattle.dmf_path.proofs.search.apart.Shared.taking_in.Goals as goal

pub with_last-requires-clause-few : goal.with_last-requires-clause-few
with_last-requires-clause-few c = omega (arith, off-long c.in_ok-off.ensures.off c.requires.some, c.requires.few)

pub with_last-requires-2-clause-few : goal.with_last-requires-2-clause-few
with_last-requires-2-clause-few c =
    omega (arith, off-long c.in_ok-off.ensures.off c.requires.some, c.in_ok-on.ensures.on.more, c.requires.some, c.requires.few)

pub returns-clause-taken : goal.returns-clause-taken
returns-clause-taken c = IfSome_then c.with_last-2.result c.with_last-2.ensures.on (λ after on. record {
  off = links_of c.in_ok-off.off.table.value;
  left = c.in_ok-off.off.places.value;
  off_links = c.in_ok-off.off.table.value.are;
  taken_off = c.in_ok-off.ensures.off;
  on = links_of c.in_ok-on.on.table.value;
  more = c.in_ok-on.on.places.value;
  on_links = c.in_ok-on.on.table.value.are;
  put_on = c.in_ok-on.ensures.on;
  last = c.idle_pair-last.result;
  last_is = λ rooms. rw (c.deref.ensures, c.deref-2.ensures, c.len.ensures, c.deref-3.ensures) at (c.idle_pair-last.ensures.is rooms);
  last_on = on;
})
