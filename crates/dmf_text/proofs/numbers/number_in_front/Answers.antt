use Rattle.std.proofs.Common.{◌≡◌, ℕ, ◌<◌, true, List, length, get_or, arith, sym, ◌∙◌}
use Rattle.std.proofs.lemmas.Bool.{not-false}
use Rattle.std.proofs.lemmas.List.Sums.{position_or_len_is}
use Rattle.dmf_text.specs.Fields.{is_blank}
use Rattle.dmf_text.specs.Numbers.{AreDigitsInFront, IsNumberInFront}
use Rattle.dmf_text.proofs.NumberLemmas.{digits-spell, digit-no_blank, digit-at}
use Rattle.dmf_text.proofs.numbers.number_in_front.Goals as goal
use Rattle.dmf_text.proofs.numbers.number_in_front.Goals.{then-count-bytes, else-count-bytes}

-- Digits up to a blank or the end of the bytes are the number in front.
in-front : (bytes : List ℕ) (value count : ℕ) → AreDigitsInFront bytes value count → 0 < count
    → (count < length bytes → is_blank (get_or bytes count 0) ≡ true) → IsNumberInFront bytes value count
in-front bytes value count are some stops = record {
  some = some;
  within = are.within;
  ends = sym (position_or_len_is is_blank bytes count 0 are.within
      (λ k below. digit-no_blank (get_or bytes k 0) (digit-at bytes value count are k below)) stops);
  spells = digits-spell bytes value count are some;
}

pub returns : goal.returns
returns c =
    let bytes = c.args.bytes.now in
    let count = c.digits_in_front-value.result.1 in
    let stops : count < length bytes → is_blank (get_or bytes count 0) ≡ true = elim c.if-count-bytes.branch [
      | then-count-bytes w ↦ λ _. sym w.is_blank.ensures ∙ not-false _ (sym w.value-is ∙ c.if-not-is_blank.false)
      | else-count-bytes w ↦ λ below. absurd (omega (arith, below, w.if-count-bytes.false))
    ] in
    in-front bytes _ count c.digits_in_front-value.ensures (grind (arith, c.if-count-eq0.false)) stops
