-- One pair after the other is taken off, the last one first.
use Rattle.std.proofs.Common.{ℕ, ◌≡◌, ◌+◌, ◌-◌, length, take, ap, ◌∙◌, subst, arith}
use Rattle.std.proofs.lemmas.List.{length-take-le}
use Rattle.dmf_links.specs.LinkTable.{links_of}
use Rattle.dmf_path.specs.Apart.{IsApart}
use Rattle.dmf_path.specs.Search.{with_pairs}
use Rattle.dmf_path.proofs.pairs.PutApart.{off-again, pairs-long}
use Rattle.dmf_path.proofs.search.Search.without_last.Goals as goal

pub without_last-requires-clause-some : goal.without_last-requires-clause-some
without_last-requires-clause-some c =
    let ps = c.args.self.pairs in
    omega (
      arith,
      pairs-long c.loop.invariant.apart,
      length-take-le (length ps - c.loop.counter) ps (omega arith),
      c.loop-test.true,
      c.requires.many,
    )

pub loop-preserved : goal.loop-preserved
loop-preserved c =
    let s = c.args.self in
    let m : ℕ = length s.pairs - c.loop.counter in
    let next : m - 1 ≡ length s.pairs - (c.loop.counter + 1) = omega arith in
    let after = c.in_ok-left.left in
    record {
      shared = c.in_ok-left.ensures.shared;
      apart = subst (λ k. IsApart (links_of after.table.value) after.places.value c.begun-shared.result.1 (with_pairs s (take k s.pairs))) next
          (off-again s m c.loop.invariant.apart (omega (arith, c.loop-test.true, c.requires.many)) (omega arith)
          (c.requires.idle (m - 1) (omega (arith, c.loop-test.true, c.requires.many))) c.in_ok-left.ensures.off after.table.value.are);
    }

pub returns : goal.returns
returns c =
    let s = c.args.self in
    let all : c.loop.counter ≡ c.args.count = omega (arith, c.loop.auto.counter-end, c.loop-test.false) in
    c.over.ensures _ c.loop.invariant.apart ∙ ap (λ k. with_pairs s (take (length s.pairs - k) s.pairs)) all
