use Rattle.dmf_streams.proofs.input.Input.expect_end.Goals as goal

pub returns-in-None : goal.returns-in-None
returns-in-None g c = rw c.in-None.is at c.in_ok-next_byte.ensures
