use Rattle.dmf_streams.proofs.writing.write_line.Goals as goal

pub returns : goal.returns
returns g c = rw c.as_bytes.ensures at c.put_all.ensures
