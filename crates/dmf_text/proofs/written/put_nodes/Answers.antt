use Rattle.std.proofs.Common.{◌≡◌, [], ◌∷◌, ◌++◌, refl, ◌∙◌, ap, sym, append-nil, append_assoc}
use Rattle.std.proofs.lemmas.Result.{err_from_is_err_and}
use Rattle.std.proofs.KnownBytes.{Appends-nil, Appends-trans}
use Rattle.dmf_text.specs.Written.{nodes_text, side_fields, written_line}
use Rattle.dmf_text.proofs.WrittenLemmas.{all-nil, all-last, all-split}
use Rattle.dmf_text.proofs.WritingLemmas.{front-of, front-after}
use Rattle.dmf_text.proofs.written.put_nodes.Goals as goal

pub loop-id-init : goal.loop-id-init
loop-id-init g c = record {
  given = c.into_iter-id-iterator.ensures.into_iter_gives;
  held = rw (all-nil side_fields) (Appends-nil _);
  mark = refl;
}

pub returns-in_err-put_line : goal.returns-in_err-put_line
returns-in_err-put_line g c =
    let failed = err_from_is_err_and c.from_residual.result c.from_residual.ensures.1 in
    let id = c.in-Some.id in
    let given = c.loop-id.yielded in
    let left = c.next.new.self in
    let all : given ++ (id ∷ left) ≡ c.args.ids = ap (λ ids. given ++ ids) (sym c.in-Some.ensures.steps) ∙ c.loop-id.invariant.given in
    let put_front = rw c.from.ensures at c.in_err-put_line.ensures in
    rw (failed.1, sym all, all-split side_fields given id left)
    (front-after (g.W.Sink.written c.args.out.now) (g.W.Sink.written c.loop-id.out) _ (nodes_text given) _ c.loop-id.invariant.held
    (front-of (g.W.Sink.written c.loop-id.out) _ (written_line (side_fields id)) (nodes_text left) put_front))

pub loop-id-preserved : goal.loop-id-preserved
loop-id-preserved g c =
    let put = rw c.from.ensures at c.in_ok-put_line.ensures.0 in
    record {
      given = append_assoc c.loop-id.yielded (c.in-Some.id ∷ []) c.next.new.self
          ∙ ap (λ ids. c.loop-id.yielded ++ ids) (sym c.in-Some.ensures.steps) ∙ c.loop-id.invariant.given;
      held = rw (all-last side_fields c.loop-id.yielded c.in-Some.id) (Appends-trans _ _ _ _ _ c.loop-id.invariant.held put);
      mark = c.in_ok-put_line.ensures.1 ∙ c.loop-id.invariant.mark;
    }

pub returns : goal.returns
returns g c =
    let all : c.loop-id.yielded ≡ c.args.ids =
    sym (append-nil c.loop-id.yielded) ∙ ap (λ ids. c.loop-id.yielded ++ ids) (sym c.in-None.ensures.steps.0) ∙ c.loop-id.invariant.given in
    rw (← all) (c.loop-id.invariant.held, c.loop-id.invariant.mark)
