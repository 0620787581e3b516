-- The fields of a line, one after the other.
use Rattle.std.proofs.Common.{◌≡◌, ℕ, suc, ◌+◌, ◌<◌, ◌≤◌, List, [], ◌∷◌, length, take, drop, get_or, Bool, true, false, not, filter, nat_lt, arith, refl}
use Rattle.std.proofs.Common.{sym, ap, ◌∙◌, ⊎_elim, take_all, length-take-le, length-take, length-drop, get_or-drop, add-zero}
use Rattle.std.proofs.Math.Numerals.{one-add, add-one}
use Rattle.std.proofs.Math.Seq.{drop-cons}
use Rattle.std.proofs.lemmas.Bool.{cond-true, cond_both, cases_lt, lt-ltb, not-false, not-true, both_ways}
use Rattle.std.proofs.lemmas.List.{drop_all}
use Rattle.std.proofs.lemmas.List.Sums.{prefix_len-le-length, prefix_len_passes, prefix_len_stops}
use Rattle.std.proofs.lemmas.List.Splits.{slice_split-cons_yes, slice_split_first, slice_split_none}
use Rattle.std.specs.List.{prefix_len, position_or_len, All}
use Rattle.dmf_text.specs.Fields.{is_blank, fields}

-- whether a piece has a byte
abbrev has_byte : List ℕ → Bool
has_byte piece = nat_lt 0 (length piece)

-- a leading blank belongs to no field
fields-blank : (b : ℕ) (bs : List ℕ) → is_blank b ≡ true → fields (b ∷ bs) ≡ fields bs
unfolding fields
fields-blank b bs blank = ap (filter has_byte) (slice_split-cons_yes is_blank b bs blank)

-- No bytes have no fields.
pub fields-nil : (bytes : List ℕ) → length bytes ≡ 0 → fields bytes ≡ []
unfolding fields
fields-nil [] none = refl
fields-nil (b ∷ bs) none = absurd (omega arith)

pub fields-skip : (bytes : List ℕ) → fields bytes ≡ fields (drop (prefix_len is_blank bytes) bytes)
fields-skip [] = refl
fields-skip (b ∷ bs) =
    cond_both (is_blank b) (1 + prefix_len is_blank bs) 0 (λ k. fields (b ∷ bs) ≡ fields (drop k (b ∷ bs)))
    (λ blank. rw one-add (fields-blank b bs blank ∙ fields-skip bs)) (λ _. refl)

-- the first field ends at the first blank
fields-ended : (bytes : List ℕ) → 0 < position_or_len is_blank bytes → position_or_len is_blank bytes < length bytes
    → fields bytes ≡ take (position_or_len is_blank bytes) bytes ∷ fields (drop (position_or_len is_blank bytes) bytes)
unfolding fields
fields-ended bytes some inside =
    let n = position_or_len is_blank bytes in
    let field = take n bytes in
    let long : length field ≡ n = length-take-le n bytes (omega arith) in
    let blank = not-false _ (prefix_len_stops (λ b. not (is_blank b)) bytes 0 inside) in
    ap (filter has_byte) (slice_split_first is_blank bytes 0 inside)
    ∙ cond-true _ _ _ (lt-ltb 0 (length field) (omega arith))
    ∙ ap (λ k. field ∷ fields (drop k bytes)) (add-one n)
    ∙ ap (λ more. field ∷ more) (sym (ap fields (drop-cons bytes n 0 inside) ∙ fields-blank (get_or bytes n 0) (drop (suc n) bytes) blank))

-- or the first field is the whole line
fields-whole : (bytes : List ℕ) → 0 < length bytes → length bytes ≤ position_or_len is_blank bytes → fields bytes ≡ bytes ∷ []
unfolding fields
fields-whole bytes some whole =
    let none : All (λ b. is_blank b ≡ false) bytes = λ k d below. not-true _ (prefix_len_passes (λ b. not (is_blank b)) bytes k d (omega arith)) in
    ap (filter has_byte) (slice_split_none is_blank bytes none) ∙ cond-true _ _ _ (lt-ltb 0 (length bytes) some)

-- the first field, and the rest of the line
pub fields-first : (bytes : List ℕ) → 0 < position_or_len is_blank bytes
    → fields bytes ≡ take (position_or_len is_blank bytes) bytes ∷ fields (drop (position_or_len is_blank bytes) bytes)
fields-first bytes some =
    let n = position_or_len is_blank bytes in
    let most = prefix_len-le-length (λ b. not (is_blank b)) bytes in
    ⊎_elim
    (λ inside. fields-ended bytes some inside)
    (λ whole. rw (take_all n bytes whole, drop_all n bytes whole, fields-nil [] refl) (fields-whole bytes (omega arith) whole))
    (cases_lt n (length bytes))

-- past the leading blanks stands a field, or nothing
pub skipped-empty : (bytes : List ℕ) → position_or_len is_blank (drop (prefix_len is_blank bytes) bytes) ≡ 0
    → length (drop (prefix_len is_blank bytes) bytes) ≡ 0
skipped-empty bytes none =
    let n = prefix_len is_blank bytes in
    let rest = drop n bytes in
    let long = length-drop n bytes in
    ⊎_elim
    (λ inside.
    let other : is_blank (get_or bytes n 0) ≡ false = prefix_len_stops is_blank bytes 0 inside in
    let first : get_or rest 0 0 ≡ get_or bytes n 0 = get_or-drop n bytes 0 0 ∙ ap (λ k. get_or bytes k 0) (add-zero n) in
    let stop : position_or_len is_blank rest < length rest = omega arith in
    let blank : is_blank (get_or rest 0 0) ≡ true =
    ap (λ k. is_blank (get_or rest k 0)) (sym none) ∙ not-false _ (prefix_len_stops (λ b. not (is_blank b)) rest 0 stop) in
    absurd (both_ways _ other (ap is_blank (sym first) ∙ blank)))
    (λ gone. omega arith)
    (cases_lt n (length bytes))

-- the bytes of a line past its leading blanks, cut at the next blank
pub record IsSplit (line field after : List ℕ) : Type 0 where
  pub rest : List ℕ
  pub skipped : rest ≡ drop (prefix_len is_blank line) line
  pub front : field ≡ take (position_or_len is_blank rest) rest
  pub back : after ≡ drop (position_or_len is_blank rest) rest

-- The field before the cut is the first one,
pub fields-split : (line field after : List ℕ) → IsSplit line field after → 0 < length field → fields line ≡ field ∷ fields after
fields-split line field after split some =
    let rest = split.rest in
    let m = position_or_len is_blank rest in
    let long = ap length split.front ∙ length-take m rest in
    rw (split.front, split.back) (fields-skip line ∙ ap fields (sym split.skipped) ∙ fields-first rest (omega arith))

-- and without one there are no fields.
pub fields-split_none : (line field after : List ℕ) → IsSplit line field after → length field ≡ 0 → (fields line ≡ []) × (fields after ≡ [])
fields-split_none line field after split none =
    let rest = split.rest in
    let m = position_or_len is_blank rest in
    let most = prefix_len-le-length (λ b. not (is_blank b)) rest in
    let long = ap length split.front ∙ length-take m rest in
    let empty : length rest ≡ 0 =
    ap length split.skipped ∙ skipped-empty line (sym (ap (position_or_len is_blank) split.skipped) ∙ (let zero : m ≡ 0 = omega arith in zero)) in
    let gone = ap length split.back ∙ length-drop m rest in
    (fields-skip line ∙ ap fields (sym split.skipped) ∙ fields-nil rest empty, fields-nil after (omega arith))
