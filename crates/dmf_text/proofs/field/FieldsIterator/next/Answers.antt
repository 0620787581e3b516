use Rattle.std.proofs.Common.{length, take, drop, ap, ◌∙◌, sym, arith, rules}
use Rattle.dmf_text.proofs.FieldLemmas.{IsSplit, fields-split, fields-split_none}
use Rattle.dmf_text.proofs.field.FieldsIterator.next.Goals as goal
use Rattle.dmf_text.proofs.field.FieldsIterator.next.Goals.{After-is_empty}

split : (c : After-is_empty) → IsSplit c.self.inside.rest.now c.split_at-2.result.0.now c.split_at-2.result.1.now
split c = record {
  rest = c.split_at.result.1.now;
  skipped = c.split_at.ensures.back ∙ ap (λ n. drop n c.self.inside.rest.now) c.leading_blanks.ensures.count;
  front = c.split_at-2.ensures.front ∙ ap (λ n. take n c.split_at.result.1.now) c.first_blank.ensures.place;
  back = c.split_at-2.ensures.back ∙ ap (λ n. drop n c.split_at.result.1.now) c.first_blank.ensures.place;
}

pub returns-then-is_empty-clause-steps : goal.returns-then-is_empty-clause-steps
returns-then-is_empty-clause-steps c =
    let none = fields-split_none _ _ _ (split (goal.at.returns-then-is_empty-clause-steps c).After-is_empty) (search rules) in
    (sym c.self.view_is ∙ none.0, none.1)

pub returns-clause-steps : goal.returns-clause-steps
returns-clause-steps c =
    sym c.self.view_is ∙ fields-split _ _ _ (split (goal.at.returns-clause-steps c).After-is_empty) (search rules)

pub returns-clause-goes : goal.returns-clause-goes
returns-clause-goes c =
    let step = ap length (sym c.self.view_is ∙ fields-split _ _ _ (split (goal.at.returns-clause-goes c).After-is_empty) (search rules)) in
    record { on = λ _. (tt, tt, omega (arith, step)); keeps = tt; rests = λ _. tt }
