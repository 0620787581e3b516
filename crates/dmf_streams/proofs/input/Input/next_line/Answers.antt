use Rattle.std.proofs.Common.{◌≡◌, ◌<◌, ◌∷◌, [], ◌++◌, length, subst, sym, ◌∙◌, ℕ}
use Rattle.std.proofs.lemmas.Bool.{false≢true}
use Rattle.std.proofs.lemmas.List.Elements.{All-push}
use Rattle.dmf_streams.specs.Input.{input_over, TakesBytes}
use Rattle.dmf_streams.proofs.TakingLemmas.{Takes-trans, Takes-nil, some-length}
use Rattle.dmf_streams.proofs.input.Input.next_line.Goals as goal

pub returns-then-byte-eq10 : goal.returns-then-byte-eq10
returns-then-byte-eq10 g c =
    let reader = g.C.Source.left in
    let so_far = c.loop-byte.invariant in
    let gave = rw c.in-Some.is at c.in_ok-byte.ensures in
    let all = Takes-trans _ _ _ so_far.0 (c.in-Some.byte ∷ []) so_far.3 gave.0 in
    record {
      line = so_far.0;
      no_line_feed = so_far.1;
      takes = subst (λ b. TakesBytes (input_over c.args.self.now (reader c.args.source.now)) (input_over c.next_byte.new.self (reader c.next_byte.new.source))
          (so_far.0 ++ b ∷ [])) c.if-byte-eq10.true all;
      keeps = so_far.2;
      mark = gave.1 ∙ so_far.4;
      last = λ no. absurd (false≢true (sym no));
    }

pub loop-byte-preserved : goal.loop-byte-preserved
loop-byte-preserved g c =
    let so_far = c.loop-byte.invariant in
    let gave = rw c.in-Some.is at c.in_ok-byte.ensures in (
      so_far.0 ++ c.in-Some.byte ∷ [],
      All-push (λ (b : ℕ). b ≡ 10 → ⊥) so_far.0 c.in-Some.byte so_far.1 c.if-byte-eq10.false,
      c.push.ensures so_far.0 so_far.2,
      Takes-trans _ _ _ so_far.0 (c.in-Some.byte ∷ []) so_far.3 gave.0,
      gave.1 ∙ so_far.4,
    )

pub returns : goal.returns
returns g c =
    let so_far = c.loop-byte.invariant in
    let gave = rw c.in_default.is at c.in_ok-byte.ensures in
    let test = c.is_empty.ensures so_far.0 so_far.2 in
    let some : 0 < length so_far.0 = some-length so_far.0 (λ empty. absurd (false≢true (sym c.if-is_empty.false ∙ test.1 empty))) in
    record {
      line = so_far.0;
      no_line_feed = so_far.1;
      takes = Takes-nil _ _ _ so_far.0 so_far.3 gave.0;
      keeps = so_far.2;
      mark = gave.1.mark ∙ so_far.4;
      last = λ _. (some, record { none_pending = gave.1.none_pending; at_end = gave.1.at_end; within = gave.1.within; mark = gave.1.mark ∙ so_far.4 });
    }
