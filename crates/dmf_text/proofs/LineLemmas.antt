-- bstr and std cut a text into the same lines.
use Rattle.std.proofs.Common.{◌≡◌, ℕ, zero, suc, ◌+◌, ◌-◌, ◌<◌, ◌≤◌, ◌==◌, ◌≢◌, List, [], ◌∷◌, length, take, drop, slice_index, map, Bool, false, cond, not}
use Rattle.std.proofs.Common.{arith, refl, sym, ap, ◌∙◌, ⊎_elim, take_all, length-take-le, length-drop, get_or-take, ◌&&◌}
use Rattle.std.proofs.lemmas.Bool.{cond-true, cond-false, cond_both, cases_lt, lt-ltb, not-false, not-true, eqb-true, eqb-false, eq-eqb, ne_eqb, and_from}
use Rattle.std.proofs.lemmas.Bool.{and_right}
use Rattle.std.proofs.lemmas.List.{drop_all, take-take}
use Rattle.std.proofs.lemmas.List.Sums.{prefix_len_passes, prefix_len_stops}
use Rattle.std.proofs.lemmas.List.Splits.{slice_split_first, slice_split_none}
use Rattle.std.specs.List.{slice_split, position_or_len, All, onto_first}
use Rattle.std.specs.Str.Lines.{lines, lines_of_parts, strip_carriage_return}
use Rattle.bstr.specs.Text.{lines_of, no_cr, without_terminator}
use Rattle.bstr.proofs.lemmas.LineLemmas.{lines-empty, lines-step, line_len-at, line_len-none}

abbrev is_feed : ℕ → Bool
is_feed b = b == 10

-- the length of the first line
abbrev width : List ℕ → ℕ
width text = position_or_len is_feed text

-- a list of parts after a part
pub parts-more : (x : List ℕ) (text : List ℕ) → lines_of_parts (x ∷ slice_split is_feed text) ≡ strip_carriage_return x ∷ lines text
parts-more x [] = refl
parts-more x (b ∷ bs) =
    let P : List (List ℕ) → Type 0 = λ parts. lines_of_parts (x ∷ parts) ≡ strip_carriage_return x ∷ lines_of_parts parts in
    cond_both (is_feed b) ([] ∷ slice_split is_feed bs) (onto_first b (slice_split is_feed bs)) P (λ _. refl)
    (λ _. elim (slice_split is_feed bs) as (λ parts. P (onto_first b parts)) [ [] ↦ refl | y ∷ ys ↦ refl ])

-- the first line and its line feed
lines-ended : (text : List ℕ) → width text < length text → lines text ≡ strip_carriage_return (take (width text) text) ∷ lines (drop (width text + 1) text)
lines-ended text inside = ap lines_of_parts (slice_split_first is_feed text 0 inside) ∙ parts-more (take (width text) text) (drop (width text + 1) text)

lines-whole : (text : List ℕ) → 0 < length text → length text ≤ width text → lines text ≡ text ∷ []
lines-whole text some whole =
    let none : All (λ b. is_feed b ≡ false) text = λ k d below. not-true _ (prefix_len_passes (λ b. not (is_feed b)) text k d (omega arith)) in
    ap lines_of_parts (slice_split_none is_feed text none) ∙ cond-false _ _ _ (ne_eqb (length text) 0 (omega arith))

-- bstr drops a carriage return at the end
no_cr-is : (line : List ℕ) → no_cr line ≡ strip_carriage_return line
no_cr-is [] = refl
no_cr-is (b ∷ bs) =
    let line = b ∷ bs in
    ap (λ t. cond (t && slice_index line (length line - 1) == 13) (take (length line - 1) line) line) (lt-ltb 0 (length line) (omega arith))

-- what bstr leaves of a line that ends in a line feed
without-feed : (text : List ℕ) (n : ℕ) → n < length text → slice_index text n ≡ 10
    → without_terminator (take (n + 1) text) ≡ strip_carriage_return (take n text)
without-feed text n inside feed =
    let piece = take (n + 1) text in
    let long : length piece ≡ n + 1 = length-take-le (n + 1) text (omega arith) in
    let last : length piece - 1 ≡ n = omega arith in
    let ends : slice_index piece (length piece - 1) ≡ 10 = ap (slice_index piece) last ∙ get_or-take (n + 1) text n 0 (omega arith) ∙ feed in
    let front : take (length piece - 1) piece ≡ take n text = ap (λ k. take k piece) last ∙ take-take n (n + 1) text (omega arith) in
    cond-true _ _ _ (and_from _ _ (lt-ltb 0 (length piece) (omega arith)) (eq-eqb _ _ ends))
    ∙ ap no_cr front ∙ no_cr-is (take n text)

-- what bstr leaves of a line that has no line feed
without-none : (text : List ℕ) → slice_index text (length text - 1) ≢ 10 → without_terminator text ≡ text
without-none text other = cond-false _ _ _ (and_right _ _ (ne_eqb _ _ other))

-- no byte of the first line is a line feed, and the byte after it is one
before-width : (text : List ℕ) (k : ℕ) → k < width text → slice_index text k ≢ 10
before-width text k below = eqb-false _ _ (not-true _ (prefix_len_passes (λ b. not (is_feed b)) text k 0 below))

at-width : (text : List ℕ) → width text < length text → slice_index text (width text) ≡ 10
at-width text inside = eqb-true _ _ (not-false _ (prefix_len_stops (λ b. not (is_feed b)) text 0 inside))

-- the two agree
lines-agree : (fuel : ℕ) (text : List ℕ) → length text ≤ fuel → map without_terminator (lines_of text) ≡ lines text
lines-agree fuel [] le = ap (map without_terminator) (lines-empty [] refl)
lines-agree zero (b ∷ bs) le = absurd (omega arith)
lines-agree (suc fuel) (b ∷ bs) le =
    let text = b ∷ bs in
    let w = width text in
    ⊎_elim
    (λ inside.
    let feed = at-width text inside in
    let left = length-drop (w + 1) text in
    rw (
      lines-step text (omega arith),
      line_len-at text w inside feed (before-width text),
      without-feed text w inside feed,
      lines-agree fuel (drop (w + 1) text) (omega arith),
    )
    (sym (lines-ended text inside)))
    (λ whole.
    let n = length text in
    let none : (k : ℕ) → k < n → slice_index text k ≢ 10 = λ k below. before-width text k (omega arith) in
    rw (lines-step text (omega arith), line_len-none text none, lines-empty (drop n text) (ap length (drop_all n text (omega arith))))
    (ap (λ line. line ∷ []) (ap without_terminator (take_all n text (omega arith)) ∙ without-none text (none (n - 1) (omega arith)))
    ∙ sym (lines-whole text (omega arith) whole)))
    (cases_lt w (length text))

-- The lines of a text are those of `bstr` without their terminators.
pub lines-bstr : (text : List ℕ) → map without_terminator (lines_of text) ≡ lines text
lines-bstr text = lines-agree (length text) text (omega arith)
