-- The fields of a line, one after the other.
use Rattle.std.proofs.Common.{ℕ, ◌≡◌, ◌+◌, ◌-◌, ◌<◌, ◌≤◌, List, [], ◌∷◌, Some, zero, suc, length, drop, arith, nat_lt, ap, subst, ⊎_elim, length-drop}
use Rattle.std.proofs.lemmas.Option.{slice_get_within}
use Rattle.std.specs.List.{slice_get, slice_split}
use Rattle.std.proofs.lemmas.Bool.{cases_lt}
use Rattle.std.proofs.lemmas.List.Splits.{length-slice_split}
use Rattle.std.proofs.lemmas.List.Sums.{length-filter, count_by-le-length}
use Rattle.dmf_text.specs.declared.digits.NumberFault.{NumberFault}
use Rattle.dmf_text.specs.Fields.{fields, is_blank}
use Rattle.dmf_explain.specs.declared.fields.FieldRange.{FieldRange}
use Rattle.dmf_explain.specs.Fields.{IsFaulty}

-- A line has at most one field more than bytes.
pub fields-few : (line : List ℕ) → length (fields line) ≤ length line + 1
unfolding fields
fields-few line =
    let has_byte = λ (piece : List ℕ). nat_lt 0 (length piece) in
    let pieces = slice_split is_blank line in
    omega (arith, length-filter has_byte pieces, count_by-le-length has_byte pieces, length-slice_split is_blank line, count_by-le-length is_blank line)

-- What stands at index `n` of a list, and what is left behind it.
pub record IsNext (xs : List (List ℕ)) (n : ℕ) (x : List ℕ) (rest : List (List ℕ)) : Type 0 where
  pub is : slice_get xs n ≡ Some x
  pub left : drop (n + 1) xs ≡ rest
  pub within : n < length xs

-- the first of those that are left
pub next-of : (xs : List (List ℕ)) (n : ℕ) (x : List ℕ) (rest : List (List ℕ)) → drop n xs ≡ x ∷ rest → IsNext xs n x rest
next-of [] zero x rest is = absurd (let no : ⊥ = cc in no)
next-of [] (suc n) x rest is = absurd (let no : ⊥ = cc in no)
next-of (y ∷ xs) zero x rest is = record { is = cc; left = cc; within = omega arith }
next-of (y ∷ xs) (suc n) x rest is =
    let next = next-of xs n x rest is in
    let more : suc n + 1 ≡ suc (n + 1) = omega arith in
    record { is = next.is; left = rw more next.left; within = omega (arith, next.within) }

-- Fields up to this place have no such fault, and the next one has none: so have the fields up to the next place.
pub none-next : (line : List ℕ) (places : FieldRange) (fault : NumberFault) (n : ℕ) (x : List ℕ) → slice_get (fields line) n ≡ Some x
    → ¬ IsFaulty line places fault (n + 1) x → ((place : ℕ) (field : List ℕ) → place ≤ n → ¬ IsFaulty line places fault place field)
    → (place : ℕ) (field : List ℕ) → place ≤ n + 1 → ¬ IsFaulty line places fault place field
none-next line places fault n x is not_here none place field most faulty = ⊎_elim
    (λ (later : n < place).
    let here : place ≡ n + 1 = omega (arith, later, most) in
    let index : place - 1 ≡ n = omega (arith, here) in
    let read : slice_get (fields line) n ≡ Some field = rw index at faulty.at.is in
    let same : field ≡ x = cc in
    not_here (subst (λ f. IsFaulty line places fault (n + 1) f) same (subst (λ p. IsFaulty line places fault p field) here faulty)))
    (λ (earlier : place ≤ n). none place field earlier faulty)
    (cases_lt n place)

-- Past the last field no field has it.
pub none-left : (line : List ℕ) (places : FieldRange) (fault : NumberFault) (n : ℕ) → drop n (fields line) ≡ []
    → ((place : ℕ) (field : List ℕ) → place ≤ n → ¬ IsFaulty line places fault place field)
    → (place : ℕ) (field : List ℕ) → ¬ IsFaulty line places fault place field
none-left line places fault n ended none place field faulty =
    let within = slice_get_within (fields line) (place - 1) field faulty.at.is in
    let long = length-drop n (fields line) in
    let nothing = ap (λ (xs : List (List ℕ)). length xs) ended in
    none place field (omega (arith, within, long, nothing, faulty.at.from_one)) faulty
