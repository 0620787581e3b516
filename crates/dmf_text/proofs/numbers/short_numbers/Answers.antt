use Rattle.std.proofs.Common.{◌≡◌, ◌∷◌, length, rules, ap, ◌∙◌}
use Rattle.dmf_text.proofs.FieldLemmas.{fields-nil}
use Rattle.dmf_text.proofs.numbers.short_numbers.Goals as goal

pub returns : goal.returns
returns c =
    let first = c.in_ok-first.ensures in
    let second = c.in_ok-second.ensures in
    let third = c.in_ok-third.ensures in
    let end : length c.in_ok-third.line.now ≡ 0 = search rules in
    record {
      first = first.first;
      second = second.first;
      third = third.first;
      are = first.splits ∙ ap (λ more. first.first ∷ more) (second.splits ∙ ap (λ more. second.first ∷ more)
          (third.splits ∙ ap (λ more. third.first ∷ more) (fields-nil _ end)));
      first_is = first.spells;
      second_is = second.spells;
      third_is = third.spells;
    }
