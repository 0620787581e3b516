-- The held pushes of the walk are applied, then those of the rest.
use Rattle.std.proofs.Common.{◌≡◌, length, drop, ap, sym, ◌∙◌, subst, arith}
use Rattle.std.proofs.lemmas.List.{take_rest}
use Rattle.dmf_path.specs.Held.{CanPut, way_of, emptied}
use Rattle.dmf_path.specs.Residual.{ResidualLinks, residual_of, roomed, put_each_on}
use Rattle.dmf_path.proofs.trail.Trail.settle.Goals as goal

pub put_each_on-requires : goal.put_each_on-requires
put_each_on-requires c = record { can = rw c.deref.ensures.value c.requires.can.walked }

pub put_each_on-requires-2 : goal.put_each_on-requires-2
put_each_on-requires-2 c =
    let t = c.args.self.now in
    let put = rw c.deref.ensures.value at c.put_each_on.ensures in
    record {
      can = rw (c.deref-2.ensures.value, take_rest) (subst (λ (x : ResidualLinks). CanPut x.links x.takes_back t.sent (drop t.rest t.slots.items) x.rooms)
          (sym put) c.requires.can.rest);
    }

pub returns : goal.returns
returns c =
    let t = c.args.self.now in
    let r = residual_of c.args.links.now in
    let rest = drop t.rest t.slots.items in
    let len : c.len-self.result ≡ length t.slots.items = omega (arith, c.len-self.ensures, t.slots.ok.0) in
    let put = rw c.deref.ensures.value at c.put_each_on.ensures in
    let later = rw (c.deref-2.ensures.value, take_rest) at c.put_each_on-2.ensures in
    record {
      way = λ i. record (emptied (way_of t)) { rest = len i };
      links = later ∙ ap (λ (x : ResidualLinks). put_each_on x t.sent rest) put ∙ ap (roomed r) (sym c.requires.can.same);
    }
