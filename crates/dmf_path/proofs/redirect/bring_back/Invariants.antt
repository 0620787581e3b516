use Rattle.dmf_links.specs.LinkTable.{links_of}
use Rattle.dmf_path.proofs.labels.Redirected.{AreBack}
use Rattle.dmf_path.proofs.redirect.bring_back.Given as goal

abbrev pub invariant-loop-place : goal.invariant-loop-place
invariant-loop-place l = AreBack (links_of l.table) l.fn.current l.places l.place-index l.current
