use Rattle.std.proofs.Common.{[], ◌++◌, ◌<◌, length, take, arith, refl, sym, ◌∙◌, append-nil}
use Rattle.std.proofs.KnownBytes.{Consumes-kept, Consumes-nil, Consumes-trans}
use Rattle.std.proofs.lemmas.Result.{err_from_is_err_and}
use Rattle.std.proofs.lemmas.List.{length-append, length-take-le}
use Rattle.dmf_streams.proofs.whole_text.read_all.Goals as goal

pub returns-then-len-given : goal.returns-then-len-given
returns-then-len-given g c =
    let told = c.in-Ok.ensures in
    let front = take c.in-Ok.given c.read.new.buffer in
    let long = length-take-le c.in-Ok.given c.read.new.buffer told.bound in
    record {
      text = c.loop.text.items ++ front;
      consumes = Consumes-trans _ _ _ c.loop.text.items front c.loop.invariant.consumes told.bytes.0;
      is_so = record {
        past = omega (arith, long, length-append c.loop.text.items front, c.loop.text.ok.0);
        mark = told.mark ∙ c.loop.invariant.mark;
      };
    }

-- memory was refused for the bytes that were read
pub returns-in_err-extend_from_slice : goal.returns-in_err-extend_from_slice
returns-in_err-extend_from_slice g c =
    let failed = err_from_is_err_and c.from_residual-in_err-extend_from_slice.result c.from_residual-in_err-extend_from_slice.ensures.1 in
    let told = c.in-Ok.ensures in
    let front = take c.in-Ok.given c.read.new.buffer in
    record {
      text = c.loop.text.items ++ front;
      consumes = Consumes-trans _ _ _ c.loop.text.items front c.loop.invariant.consumes told.bytes.0;
      is_so = rw (failed.1, failed.2) (told.mark ∙ c.loop.invariant.mark);
    }

pub returns-in_err-buffer : goal.returns-in_err-buffer
returns-in_err-buffer g c =
    let failed = err_from_is_err_and c.from_residual.result c.from_residual.ensures.1 in
    record { text = []; consumes = Consumes-nil _; is_so = rw (failed.1, failed.2) refl }

pub returns-in_default : goal.returns-in_default
returns-in_default g c =
    let told = c.in_default.ensures in
    record { text = c.loop.text.items; consumes = Consumes-kept _ _ _ c.loop.text.items c.loop.invariant.consumes told.bytes; is_so = told.mark }

pub returns-then-given-eq0 : goal.returns-then-given-eq0
returns-then-given-eq0 g c =
    let told = c.in-Ok.ensures in
    let all = Consumes-trans (g.P.Source.left c.args.source.now).known (g.P.Source.left c.loop.source).known (g.P.Source.left c.read.new.self).known
    c.loop.text.items (take c.in-Ok.given c.read.new.buffer) c.loop.invariant.consumes told.bytes.0 in
    let some : 0 < length c.read.new.buffer = omega (arith, c.read.auto.buffer, c.loop.auto.piece, c.as_mut_slice-piece.ensures.len, c.in_ok-buffer.ensures) in
    let end = told.bytes.1 c.if-given-eq0.true some in
    record {
      text = c.loop.text.items;
      consumes = rw (c.if-given-eq0.true, append-nil) at all;
      is_so = (record { at_end = end; within = c.loop.invariant.within; mark = told.mark ∙ c.loop.invariant.mark }, refl);
    }

-- each turn read some bytes, so there are more turns than the limit has bytes
pub returns : goal.returns
returns g c = absurd (omega (arith, c.loop-test.false, c.loop.invariant.some, c.loop.invariant.within))

pub loop-preserved : goal.loop-preserved
loop-preserved g c =
    let told = c.in-Ok.ensures in
    let front = take c.in-Ok.given c.read.new.buffer in
    let long = length-take-le c.in-Ok.given c.read.new.buffer told.bound in
    rw c.in_ok-extend_from_slice.ensures.items (record {
      consumes = Consumes-trans (g.P.Source.left c.args.source.now).known (g.P.Source.left c.loop.source).known (g.P.Source.left c.read.new.self).known
          c.loop.text.items front c.loop.invariant.consumes told.bytes.0;
      mark = told.mark ∙ c.loop.invariant.mark;
      some = omega (arith, long, length-append c.loop.text.items front, c.loop.invariant.some, c.if-given-eq0.false);
      within = omega (arith, long, length-append c.loop.text.items front, c.if-len-given.false, c.len.ensures);
    })

pub slice_bounds-extend_from_slice-end : goal.slice_bounds-extend_from_slice-end
slice_bounds-extend_from_slice-end g c = c.in-Ok.ensures.bound

pub slice_bounds-extend_from_slice-end-in-loop : goal.slice_bounds-extend_from_slice-end-in-loop
slice_bounds-extend_from_slice-end-in-loop g c = sym (length-take-le c.in-Ok.given c.read.new.buffer c.in-Ok.ensures.bound)

pub overflow_add-len : goal.overflow_add-len
overflow_add-len g c = omega (arith, c.len.ensures, c.loop.invariant.within, c.in-Ok.ensures.bound)
