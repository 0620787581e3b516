-- The links of the other pairs keep their numbers.
use Rattle.dmf_path.proofs.pairs.PutApart.{numbered-off}
use Rattle.dmf_path.proofs.search.apart.Shared.without_last.Goals as goal

pub returns-clause-shared : goal.returns-clause-shared
returns-clause-shared c =
    let off = rw (c.in_ok-get_mut.ensures.value, c.in_ok-get_mut-2.ensures.value) at (c.take_off.ensures c.if-not-take_off.false) in
    record { places = off.places_are; numbers = numbered-off c.args.self.numbers off c.requires.shared.numbers }
