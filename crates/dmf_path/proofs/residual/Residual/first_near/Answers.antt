use Rattle.std.proofs.Common.{inl, inr, arith}
use Rattle.std.proofs.lemmas.Bool.{cases_lt}
use Rattle.dmf_links.specs.LinkTable.{links_of}
use Rattle.dmf_links.proofs.tables.LinkPlaces.{last-within}
use Rattle.dmf_path.proofs.residual.Residual.first_near.Goals as goal

pub look-look-requires-clause-links : goal.look-look-requires-clause-links
look-look-requires-clause-links c =
    let are = c.args.self.now.table.value.are in
    omega (
      arith,
      c.few-few.ensures.to,
      c.requires.links.to_last,
      last-within (links_of c.args.self.now.table.value) c.args.range.node are
          c.requires.links.node_is.to_last,
    )

pub returns : goal.returns
returns c =
    let look = c.look-look.ensures in
    let across = c.first_across.ensures in
    record {
      from_first = look.from_first;
      order = omega (arith, look.order, look.to, across.from_first);
      to = across.to;
      room = across.room;
      falls = across.falls;
      first = look.first;
      only = λ p from before room falls. elim (cases_lt p c.few-few.result) [
        | inl near ↦ look.only p from (omega (arith, near, c.if-look-few.false)) room falls
        | inr past ↦ across.only p past before room falls
      ];
    }
