use Rattle.std.proofs.Common.{◌≡◌, ℕ, suc, ◌+◌, ◌<◌, List, ◌∷◌, ◌++◌, length, take, drop, get_or, arith}
use Rattle.std.proofs.Common.{sym, ap, ◌∙◌, take_all, take-append-drop, length-drop, length-take-le}
use Rattle.std.proofs.Math.Numerals.{add-one}
use Rattle.std.proofs.Math.Seq.{drop-cons}
use Rattle.dmf_text.specs.Numbers.{AreDigitsInFront, IsNumberBefore}
use Rattle.dmf_text.proofs.NumberLemmas.{digits-spell}
use Rattle.dmf_text.proofs.numbers.number_before.Goals as goal

-- Digits up to this byte are the number before it.
before : (end value count : ℕ) (bytes behind : List ℕ) → AreDigitsInFront bytes value count → 0 < count → count < length bytes
    → get_or bytes count 0 ≡ end → behind ≡ drop (count + 1) bytes → IsNumberBefore end bytes value behind
before end value count bytes behind are some inside is behind_is = record {
  digits = take count bytes;
  parts = sym (take-append-drop count bytes) ∙ ap (λ l. take count bytes ++ l)
      (drop-cons bytes count 0 inside ∙ ap (λ b. b ∷ drop (suc count) bytes) is
      ∙ ap (λ l. end ∷ l) (ap (λ k. drop k bytes) (sym (add-one count)) ∙ sym behind_is));
  some = omega (arith, length-take-le count bytes are.within, some);
  are_digits = are.digits;
  spells = digits-spell bytes value count are some;
}

pub returns : goal.returns
returns c =
    let bytes = c.args.bytes.now in
    let are = c.digits_in_front-value.ensures in
    let count = c.digits_in_front-value.result.1 in
    let inside : count < length bytes = grind (arith, are.within, c.if-count-bytes.false) in
    before c.args.end _ count bytes _ are (grind (arith, c.if-count-eq0.false)) inside c.if-bytes-count.false
    (take_all _ (drop (count + 1) bytes) (omega (arith, length-drop (count + 1) bytes, inside)))
