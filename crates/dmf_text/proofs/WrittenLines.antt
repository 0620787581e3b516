-- Reading written lines again.
use Rattle.std.proofs.Common.{◌≡◌, ◌≢◌, ℕ, ◌-◌, ◌^◌, ◌<◌, ◌==◌, ◌&&◌, List, [], ◌∷◌, ◌++◌, length, slice_index, map, filter, nat_lt, Bool, true, false}
use Rattle.std.proofs.Common.{not, Ok, ok_or, decimal, arith, refl, ap, ◌∙◌, append_assoc}
use Rattle.std.proofs.lemmas.Bool.{cond-true, cond-false, and_parts, and_from, not-true, lt-ltb, le-leb, leb-true}
use Rattle.std.proofs.lemmas.Bool.{eqb-false, ne_eqb}
use Rattle.std.proofs.lemmas.List.Folds.{list_all-append}
use Rattle.std.proofs.lemmas.List.Splits.{slice_split_none, slice_split_at}
use Rattle.std.proofs.lemmas.Fmt.{decimal_is_IsNumeral, decimal_nonempty}
use Rattle.std.proofs.lemmas.Str.Parse.{digit_from_value}
use Rattle.std.specs.List.{All, AllByRecursion, list_all, join_with_byte}
use Rattle.std.specs.Char.{is_ascii_digit}
use Rattle.std.specs.Int.{IsInRange}
use Rattle.std.specs.Str.Lines.{lines, lines_of_parts}
use Rattle.std.specs.Str.Parse.{AllDigits}
use Rattle.dmf_text.specs.declared.digits.NumberFault.TheVariants.{TooLarge}
use Rattle.dmf_text.specs.Fields.{is_blank, fields}
use Rattle.dmf_text.specs.Number.{within, number_of}
use Rattle.dmf_text.specs.Judging.{Line}
use Rattle.dmf_text.specs.Written.{written_line, written}
use Rattle.dmf_text.proofs.LineLemmas.{parts-more}
use Rattle.dmf_text.proofs.NumberLemmas.{within-below, number_of-digits, all-at}

-- a byte that ends no line, and that no reader drops at the end of one
abbrev pub inner : ℕ → Bool
inner b = not (b == 10) && not (b == 13)

-- and that ends no field
abbrev pub plain : ℕ → Bool
plain b = not (is_blank b) && inner b

-- a text that can be a field
pub record IsField (text : List ℕ) : Type 0 where
  pub some : 0 < length text
  pub all : list_all plain text ≡ true

-- A line all of whose texts can stand as fields.
abbrev pub AreFields : Line → Type 0
AreFields line = AllByRecursion IsField line

-- ---- fields

not-blank : (text : List ℕ) → list_all plain text ≡ true → All (λ b. is_blank b ≡ false) text
not-blank text all = λ k d below. not-true _ (and_parts _ _ (all-at plain text k d all below)).0

-- Fields that are joined by spaces are the fields of the line.
pub fields-join : (line : Line) → AreFields line → fields (join_with_byte 32 line) ≡ line
unfolding fields
fields-join [] are = refl
fields-join (f ∷ []) are =
    ap (filter (λ piece. nat_lt 0 (length piece))) (slice_split_none is_blank f (not-blank f are.0.all)) ∙ cond-true _ _ _ (lt-ltb 0 (length f) are.0.some)
fields-join (f ∷ g ∷ more) are =
    ap (filter (λ piece. nat_lt 0 (length piece))) (slice_split_at is_blank f 32 (join_with_byte 32 (g ∷ more)) (not-blank f are.0.all) refl)
    ∙ cond-true _ _ _ (lt-ltb 0 (length f) are.0.some) ∙ ap (λ l. f ∷ l) (fields-join (g ∷ more) are.1)

-- ---- lines

inner-all : (text : List ℕ) → list_all plain text ≡ true → list_all inner text ≡ true
inner-all [] all = refl
inner-all (b ∷ bs) all =
    let parts = and_parts _ _ all in
    and_from _ _ (and_parts _ _ parts.0).1 (inner-all bs parts.1)

-- No byte of such a line ends it.
pub inner-join : (line : Line) → AreFields line → list_all inner (join_with_byte 32 line) ≡ true
inner-join [] are = refl
inner-join (f ∷ []) are = inner-all f are.0.all
inner-join (f ∷ g ∷ more) are =
    list_all-append inner f (32 ∷ join_with_byte 32 (g ∷ more)) ∙ and_from _ _ (inner-all f are.0.all) (inner-join (g ∷ more) are.1)

no-return : (text : List ℕ) → list_all inner text ≡ true → slice_index text (length text - 1) ≢ 13
no-return [] all is = absurd (let no : ⊥ = cc in no)
no-return (b ∷ bs) all is =
    let last = all-at inner (b ∷ bs) (length (b ∷ bs) - 1) 0 all (omega arith) in
    eqb-false _ _ (not-true _ (and_parts _ _ last).1) is

-- A line that stands in front is the first one.
pub lines-line : (text rest : List ℕ) → list_all inner text ≡ true → lines (text ++ 10 ∷ rest) ≡ text ∷ lines rest
lines-line text rest all =
    let none : All (λ b. (b == 10) ≡ false) text = λ k d below. not-true _ (and_parts _ _ (all-at inner text k d all below)).0 in
    ap lines_of_parts (slice_split_at (λ b. b == 10) text 10 rest none refl) ∙ parts-more text rest
    ∙ ap (λ l. l ∷ lines rest) (cond-false _ _ _ (ne_eqb _ 13 (no-return text all)))

-- Written and read again, such lines have the same fields.
pub lines-written : (ls : List Line) → AllByRecursion AreFields ls → map fields (lines (written ls)) ≡ ls
unfolding written written_line
lines-written [] are = refl
lines-written (l ∷ ls) are =
    ap (λ t. map fields (lines t)) (append_assoc (join_with_byte 32 l) (10 ∷ []) (written ls))
    ∙ ap (map fields) (lines-line (join_with_byte 32 l) (written ls) (inner-join l are.0))
    ∙ ap (λ f. f ∷ map fields (lines (written ls))) (fields-join l are.0)
    ∙ ap (λ more. l ∷ more) (lines-written ls are.1)

-- ---- numbers

plain-digit : (c : ℕ) → IsInRange 48 57 c → plain c ≡ true
plain-digit c range =
    let low = range.0 in
    rw (ne_eqb c 32 (λ e. omega arith), ne_eqb c 9 (λ e. omega arith), ne_eqb c 10 (λ e. omega arith), ne_eqb c 13 (λ e. omega arith)) refl

-- Digits can stand in a field.
pub plain-digits : (ds : List ℕ) → list_all is_ascii_digit ds ≡ true → list_all plain ds ≡ true
plain-digits [] are = refl
plain-digits (c ∷ cs) are =
    let parts = and_parts _ _ are in
    let range = and_parts _ _ parts.0 in
    and_from _ _ (plain-digit c (leb-true _ _ range.0, leb-true _ _ range.1)) (plain-digits cs parts.1)

ascii-digits : (ds : List ℕ) → AllDigits 10 ds → list_all is_ascii_digit ds ≡ true
ascii-digits [] are = refl
ascii-digits (c ∷ cs) are =
    let range = digit_from_value c are.0 in
    and_from _ _ (and_from _ _ (le-leb 48 c range.0) (le-leb c 57 range.1)) (ascii-digits cs are.1)

-- A decimal number can stand as a field, and is read as the number.
pub record IsWritten (n : ℕ) : Type 0 where
  pub field : IsField (decimal n)
  pub reads : number_of (decimal n) ≡ Ok n

-- Each number of 64 bits is.
pub is-written : (n : ℕ) → n < 2 ^ 64 → IsWritten n
is-written n small =
    let numeral = decimal_is_IsNumeral n small in
    let digits = ascii-digits (decimal n) numeral.0.1 in
    record {
      field = record { some = decimal_nonempty n small; all = plain-digits (decimal n) digits };
      reads = number_of-digits (decimal n) numeral.0.0 digits ∙ ap (λ o. ok_or o TooLarge) (ap within numeral.1 ∙ within-below n small);
    }
