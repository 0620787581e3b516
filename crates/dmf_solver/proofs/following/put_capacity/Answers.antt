use Rattle.std.proofs.Common.{◌-◌, ap, ◌∙◌, sym}
use Rattle.dmf_path.specs.Search.{with_pairs}
use Rattle.dmf_solver.proofs.kept.Followed.{rooms-told}
use Rattle.dmf_solver.proofs.following.put_capacity.Goals as goal

pub returns-in-Some : goal.returns-in-Some
returns-in-Some c =
    let old = c.args.search.now in
    (rw c.saturating_sub.ensures at c.set_rooms.ensures) ∙ ap (with_pairs old)
    (rooms-told old.pairs (c.args.j - 1) c.args.cap c.in-Some.flow (sym (rw c.as_search.ensures at c.against.ensures) ∙ c.in-Some.is))
