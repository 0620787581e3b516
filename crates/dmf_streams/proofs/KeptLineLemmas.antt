-- A line as far as it is kept.
use Rattle.std.proofs.Common.{ℕ, ◌≡◌, ◌<◌, ◌≤◌, List, [], ◌∷◌, ◌++◌, length, true, false, arith, sym, ap, ◌∙◌}
use Rattle.std.proofs.lemmas.List.{length-take, length_push, take_all, take-append-le}
use Rattle.std.proofs.lemmas.Bool.{lt-ltb, le-ltb, ltb-false}
use Rattle.dmf_streams.specs.KeptLine.{Kept, IsKept}

-- one more byte, if the buffer keeps it
pub IsKept-push : (kept : Kept) (line : List ℕ) (byte : ℕ) → length kept.bytes < 4096 → IsKept kept line
    → IsKept (record { bytes = kept.bytes ++ byte ∷ []; is_long = kept.is_long }) (line ++ byte ∷ [])
IsKept-push kept line byte space is =
    let short : length line < 4096 = omega (arith, ap length is.bytes_are, length-take 4096 line) in
    record {
      bytes_are = ap (λ l. l ++ byte ∷ []) (is.bytes_are ∙ take_all 4096 line (omega arith))
          ∙ sym (take_all 4096 (line ++ byte ∷ []) (omega (arith, length_push line byte)));
      long_is = is.long_is ∙ le-ltb _ _ (omega arith) ∙ sym (le-ltb _ _ (omega (arith, length_push line byte)));
    }

-- and if it does not
pub IsKept-full : (kept : Kept) (line : List ℕ) (byte : ℕ) → length kept.bytes ≡ 4096 → IsKept kept line
    → IsKept (record { bytes = kept.bytes; is_long = true }) (line ++ byte ∷ [])
IsKept-full kept line byte full is =
    let long : 4096 ≤ length line = omega (arith, ap length is.bytes_are, length-take 4096 line) in
    record {
      bytes_are = is.bytes_are ∙ sym (take-append-le 4096 line (byte ∷ []) long);
      long_is = sym (lt-ltb _ _ (omega (arith, length_push line byte)));
    }

-- the buffer keeps a line whole that is not too long
pub whole-line : (kept : Kept) (line : List ℕ) → kept.is_long ≡ false → IsKept kept line → kept.bytes ≡ line
whole-line kept line short is =
    let le : length line ≤ 4096 = ltb-false 4096 (length line) (sym is.long_is ∙ short) in
    is.bytes_are ∙ take_all 4096 line le
