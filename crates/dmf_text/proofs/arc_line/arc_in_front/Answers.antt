use Rattle.std.proofs.Common.{◌≡◌, ℕ, ◌-◌, ◌≤◌, List, [], ◌∷◌, ◌++◌, length, take, drop, get_or, arith, codes, refl, sym, ap, ◌∙◌, take_all, append_assoc}
use Rattle.std.specs.List.{join_with_byte}
use Rattle.std.specs.Str.Lines.{lines}
use Rattle.dmf_text.specs.Numbers.{IsNumberBefore}
use Rattle.dmf_text.specs.ProblemLine.{IsArcInFront}
use Rattle.dmf_text.proofs.WrittenLines.{IsField, AreFields, fields-join, inner-join, lines-line, plain-digits}
use Rattle.dmf_text.proofs.arc_line.arc_in_front.Goals as goal

-- the first two bytes, and those behind them
two-first : (text : List ℕ) → 2 ≤ length text → get_or text 0 0 ≡ 97 → get_or text 1 0 ≡ 32 → text ≡ 97 ∷ 32 ∷ take (length text - 2) (drop 2 text)
two-first [] long first second = absurd (omega arith)
two-first (a ∷ []) long first second = absurd (omega arith)
two-first (a ∷ b ∷ more) long first second =
    ap (λ x. x ∷ b ∷ more) first ∙ ap (λ x. 97 ∷ x ∷ more) second
    ∙ ap (λ l. 97 ∷ 32 ∷ l) (sym (take_all (length (a ∷ b ∷ more) - 2) more (omega arith)))

-- A number can stand as a field.
number-field : (end n : ℕ) (bytes behind : List ℕ) (is : IsNumberBefore end bytes n behind) → IsField is.digits
number-field end n bytes behind is = record { some = is.some; all = plain-digits is.digits is.are_digits }

module _ (text first second third behind : List ℕ) (tail head cap : ℕ) (start : text ≡ 97 ∷ 32 ∷ first) (is_tail : IsNumberBefore 32 first tail second)
    (is_head : IsNumberBefore 32 second head third) (is_cap : IsNumberBefore 10 third cap behind) where
  abbrev three : List (List ℕ)
  three = is_tail.digits ∷ is_head.digits ∷ is_cap.digits ∷ []

  abbrev line : List ℕ
  line = join_with_byte 32 (codes "a" ∷ three)

  are-fields : AreFields (codes "a" ∷ three)
  are-fields = (record { some = omega arith; all = refl }, (number-field _ _ _ _ is_tail, (number-field _ _ _ _ is_head, (number-field _ _ _ _ is_cap, tt))))

  text-is : text ≡ line ++ 10 ∷ behind
  text-is =
      let end = 10 ∷ behind in
      start ∙ ap (λ l. 97 ∷ 32 ∷ l) (is_tail.parts ∙ ap (λ l. is_tail.digits ++ 32 ∷ l) (is_head.parts ∙ ap (λ l. is_head.digits ++ 32 ∷ l) is_cap.parts)
      ∙ sym (append_assoc is_tail.digits (32 ∷ is_head.digits ++ 32 ∷ is_cap.digits) end
      ∙ ap (λ l. is_tail.digits ++ 32 ∷ l) (append_assoc is_head.digits (32 ∷ is_cap.digits) end)))

  -- An `a` and three numbers are an arc line.
  in-front : IsArcInFront text tail head cap behind
  in-front = record {
    line = line;
    first = ap lines text-is ∙ lines-line line behind (inner-join (codes "a" ∷ three) are-fields);
    is_arc = record {
      behind = three;
      fields_are = fields-join (codes "a" ∷ three) are-fields;
      spelled = record {
        first = is_tail.digits;
        second = is_head.digits;
        third = is_cap.digits;
        are = refl;
        first_is = is_tail.spells;
        second_is = is_head.spells;
        third_is = is_cap.spells;
      };
    };
  }

pub returns : goal.returns
returns c =
    in-front c.args.text.now _ _ _ _ _ _ _ (two-first c.args.text.now c.if-text-lt2.false c.if-text-ne97.false c.if-text-ne32.false)
    c.in_ok-tail.ensures c.in_ok-head.ensures c.in_ok-cap.ensures
