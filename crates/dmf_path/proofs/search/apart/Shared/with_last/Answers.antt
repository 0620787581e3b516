-- The links of the other pairs keep their numbers.
use Rattle.dmf_path.proofs.pairs.PutApart.{others-numbered}
use Rattle.dmf_path.proofs.search.apart.Shared.with_last.Goals as goal

pub number_last-numbers-requires-clause-others : goal.number_last-numbers-requires-clause-others
number_last-numbers-requires-clause-others c =
    let put = rw (c.in_ok-get_mut.ensures.value, c.in_ok-get_mut-2.ensures.value) at (c.put_on.ensures c.if-not-put_on.false) in
    rw (c.deref.ensures, c.deref-2.ensures) (others-numbered c.args.self.numbers put c.requires.shared.numbers)
