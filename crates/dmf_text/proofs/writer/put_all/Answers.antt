use Rattle.std.proofs.Common.{◌++◌, take, ◌∙◌}
use Rattle.std.proofs.KnownBytes.{Appends-trans}
use Rattle.dmf_text.proofs.WritingLemmas.{front-more}
use Rattle.dmf_text.proofs.writer.put_all.Goals as goal

pub loop-rest-preserved : goal.loop-rest-preserved
loop-rest-preserved g c =
    let before = c.loop-rest.invariant in (
      before.0 ++ take c.in-Ok.taken c.loop-rest.rest.now,
      record {
        front = front-more c.args.text.now before.0 c.loop-rest.rest.now c.in-Ok.taken before.1.front;
        held = Appends-trans _ _ _ _ _ before.1.held c.in-Ok.ensures.bytes;
        mark = c.in-Ok.ensures.mark ∙ before.1.mark;
      },
    )
