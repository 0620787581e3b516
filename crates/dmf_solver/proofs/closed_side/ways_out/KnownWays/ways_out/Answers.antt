-- Gate by gate the ends of its link that leads out join the others.
use Rattle.std.proofs.Common.{◌≡◌, ◌++◌, ◌∷◌, [], ◌∙◌, length, arith, rules, ap}
use Rattle.dmf_solver.proofs.cuts.WaysOut.{ends-last, ends-next, ends-skip}
use Rattle.dmf_solver.proofs.closed_side.ways_out.KnownWays.ways_out.Goals as goal
use Rattle.dmf_solver.proofs.closed_side.ways_out.KnownWays.ways_out.Goals.{in-Some+in_ok-ok+in_ok-ok-2, in_default}

pub loop-k-init : goal.loop-k-init
loop-k-init c = record {
  ends = rw (c.new-tails.ensures.items, c.new-heads.ensures.items) (record {
    tails_in = λ v none. absurd (omega (arith, none.1));
    heads_out = λ v none. absurd (omega (arith, none.1));
    each = λ i from to none. absurd (omega (arith, none));
  });
}

pub loop-k-preserved : goal.loop-k-preserved
loop-k-preserved c = elim c.match-link_out.branch [
  | in-Some+in_ok-ok+in_ok-ok-2 w ↦
      let out = w.in-Some.ensures in
      let tails : w.push.new.self.items ≡ c.loop-k.tails.items ++ w.in-Some.link.from ∷ [] = search rules in
      let heads : w.push-in-Some.new.self.items ≡ c.loop-k.heads.items ++ w.in-Some.link.to ∷ [] = search rules in
      record {
        ends = rw (ap (λ v. v.items) w.tails-is ∙ tails, ap (λ v. v.items) w.heads-is ∙ heads)
            (ends-next c.loop-k.invariant.ends out.0 out.1 out.2);
      }
  | in_default w ↦ record {
    ends = rw (ap (λ v. v.items) w.tails-is, ap (λ v. v.items) w.heads-is)
        (ends-skip c.loop-k.invariant.ends w.in_default.ensures);
  }
]

pub returns : goal.returns
returns c = ends-last (record { tails = c.loop-k.tails; heads = c.loop-k.heads }) c.requires
    (rw c.deref-k-items.ensures.value at c.loop-k.invariant.ends) (omega (arith, c.loop-k-test.false, ap length c.deref-k-items.ensures.value))
