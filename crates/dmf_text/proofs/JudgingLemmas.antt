-- Judging a text line by line, with a reader that takes one line after the other.
use Rattle.std.proofs.Common.{◌≡◌, ℕ, ◌+◌, ◌≤◌, List, [], ◌∷◌, ◌++◌, length, map, Option, Some, None, Result, Ok, Err, refl, sym, ap, ◌∙◌, arith, length-append}
use Rattle.std.proofs.lemmas.List.FromFn.{length-enumerate_from}
use Rattle.std.proofs.lemmas.List.Elements.{filter_map-append}
use Rattle.std.specs.Option.{option_or, option_to_list}
use Rattle.std.specs.List.{cons_option, enumerate_from, filter_map}
use Rattle.std.specs.Str.Lines.{lines}
use Rattle.dmf_text.specs.Lines.{numbered_lines}
use Rattle.dmf_text.specs.Fields.{fields}
use Rattle.dmf_text.specs.Judging.{Line, first_fact, at_line, outcome_after}

-- ---- what lines say first

-- An absent value adds nothing.
pub or-none : {X : Type 0} (o : Option X) → option_or o None ≡ o
or-none None = refl
or-none (Some x) = refl

-- What lines say first is what they say without the last one, or else what that says.
pub first_fact-push : {X : Type 0} (say : Line → Option X) (lines : List Line) (line : Line)
    → first_fact say (lines ++ line ∷ []) ≡ option_or (first_fact say lines) (say line)
first_fact-push say [] line = or-none (say line)
first_fact-push say (l ∷ lines) line =
    let P : Option _ → Type 0 = λ o. option_or o (first_fact say (lines ++ line ∷ [])) ≡ option_or (option_or o (first_fact say lines)) (say line) in
    elim (say l) as P [ None ↦ first_fact-push say lines line | Some x ↦ refl ]

-- What lines say in turn is what they say without the last one, and then what that says.
pub filter_map-push : {X : Type 0} (say : Line → Option X) (lines : List Line) (line : Line)
    → filter_map say (lines ++ line ∷ []) ≡ filter_map say lines ++ option_to_list (say line)
filter_map-push say lines line =
    filter_map-append say lines (line ∷ [])
    ∙ ap (λ more. filter_map say lines ++ more) (elim (say line) as (λ o. cons_option o [] ≡ option_to_list o) [ None ↦ refl | Some x ↦ refl ])

-- ---- numbered lines

-- the first of some numbered lines
pub record IsFirst (number : ℕ) (line : List ℕ) (after : List (ℕ × List ℕ)) (n : ℕ) (lines : List (List ℕ)) : Type 0 where
  pub others : List (List ℕ)
  pub lines_are : lines ≡ line ∷ others
  pub number_is : number ≡ n
  pub after_is : after ≡ enumerate_from (n + 1) others

first-numbered : (number : ℕ) (line : List ℕ) (after : List (ℕ × List ℕ)) (n : ℕ) (lines : List (List ℕ)) → enumerate_from n lines ≡ (number, line) ∷ after
    → IsFirst number line after n lines
first-numbered number line after n [] is = absurd (let no : ⊥ = cc in no)
first-numbered number line after n (l ∷ others) is =
    let first : ◌≡◌ {A = ℕ × List ℕ} (n, l) (number, line) = cc in
    let line_is : l ≡ line = ap (λ p. p.1) first in
    let number_is : number ≡ n = sym (ap (λ p. p.0) first) in
    let after_is : after ≡ enumerate_from (n + 1) others = cc in
    record { others = others; lines_are = ap (λ x. x ∷ others) line_is; number_is = number_is; after_is = after_is }

none-numbered : (n : ℕ) (lines : List (List ℕ)) → enumerate_from n lines ≡ [] → lines ≡ []
none-numbered n [] is = refl
none-numbered n (l ∷ others) is = absurd (let no : ⊥ = cc in no)

-- ---- the outcome

module _ {Facts Kind Fault A : Type 0} (facts_of : List Line → Facts) (judged : Facts → Line → Result (Unit {0}) Kind)
    (ended : Facts → Result A Kind) (fault : ℕ → Kind → Fault) where
  -- the outcome of these lines, after those before
  abbrev pub outcome : List Line → List Line → Result A Fault
  outcome before more = outcome_after facts_of judged ended fault before more

  module _ (before : List Line) (line : Line) (more : List Line) where
    -- a good line is passed over
    pub outcome-good : judged (facts_of before) line ≡ Ok tt → outcome before (line ∷ more) ≡ outcome (before ++ line ∷ []) more
    unfolding outcome_after
    outcome-good good = rw good refl

    -- the fault of a bad line is the outcome
    pub outcome-bad : (kind : Kind) → judged (facts_of before) line ≡ Err kind → outcome before (line ∷ more) ≡ Err (fault (length before + 1) kind)
    unfolding outcome_after
    outcome-bad kind bad = rw bad refl

  -- with no line left, the end decides
  pub outcome-end : (before : List Line) (end : Result A Kind) → end ≡ ended (facts_of before) → outcome before [] ≡ at_line fault (length before + 1) end
  unfolding outcome_after
  outcome-end before end is = rw is refl

  -- The reader took some lines, which say this and of which the last had this number; these lines are left.
  pub record Walk (text : List ℕ) (facts : Facts) (last : ℕ) (left : List (ℕ × List ℕ)) : Type 0 where
    pub before : List Line
    pub rest : List (List ℕ)
    pub left_is : left ≡ enumerate_from (length before + 1) rest
    pub facts_are : facts ≡ facts_of before
    pub same : outcome [] (map fields (lines text)) ≡ outcome before (map fields rest)
    pub last_is : last ≡ length before
    pub bound : length before + length rest ≤ length text

-- ---- a reader within a text

module _ {Facts Kind Fault A : Type 0} {facts_of : List Line → Facts} {judged : Facts → Line → Result (Unit {0}) Kind}
    {ended : Facts → Result A Kind} {fault : ℕ → Kind → Fault} where
  -- At first no lines were taken, and all are left.
  pub walk-start : (text : List ℕ) (left : List (ℕ × List ℕ)) → left ≡ numbered_lines text → length left ≤ length text
      → Walk facts_of judged ended fault text (facts_of []) 0 left
  walk-start text left is bound = record {
    before = [];
    rest = lines text;
    left_is = is;
    facts_are = refl;
    same = refl;
    last_is = refl;
    bound = (let long = ap length is ∙ length-enumerate_from 1 (lines text) in omega arith);
  }

  module _ (text : List ℕ) (facts : Facts) (last : ℕ) (left : List (ℕ × List ℕ)) (walk : Walk facts_of judged ended fault text facts last left) where
    module _ (number : ℕ) (line : List ℕ) (after : List (ℕ × List ℕ)) (is : left ≡ (number, line) ∷ after) where
      -- the next line is good
      pub walk-next : (now : Facts) → judged facts (fields line) ≡ Ok tt
          → ((before : List Line) → facts ≡ facts_of before → now ≡ facts_of (before ++ fields line ∷ []))
          → Walk facts_of judged ended fault text now number after
      walk-next now good taken =
          let first = first-numbered number line after (length walk.before + 1) walk.rest (sym walk.left_is ∙ is) in
          let longer = length-append walk.before (fields line ∷ []) in
          let fewer = ap length first.lines_are in
          record {
            before = walk.before ++ fields line ∷ [];
            rest = first.others;
            left_is = first.after_is ∙ ap (λ n. enumerate_from n first.others)
                (let n : length walk.before + 1 + 1 ≡ length (walk.before ++ fields line ∷ []) + 1 = omega arith in n);
            facts_are = taken walk.before walk.facts_are;
            same = walk.same ∙ ap (λ ls. outcome facts_of judged ended fault walk.before (map fields ls)) first.lines_are
                ∙ outcome-good facts_of judged ended fault walk.before (fields line) (map fields first.others) (rw (← walk.facts_are) good);
            last_is = first.number_is ∙ sym longer;
            bound = omega (arith, walk.bound);
          }

      -- the next line is at fault
      pub walk-bad : (kind : Kind) → judged facts (fields line) ≡ Err kind
          → outcome facts_of judged ended fault [] (map fields (lines text)) ≡ Err (fault number kind)
      walk-bad kind bad =
          let first = first-numbered number line after (length walk.before + 1) walk.rest (sym walk.left_is ∙ is) in
          walk.same ∙ ap (λ ls. outcome facts_of judged ended fault walk.before (map fields ls)) first.lines_are
          ∙ outcome-bad facts_of judged ended fault walk.before (fields line) (map fields first.others) kind (rw (← walk.facts_are) bad)
          ∙ ap (λ n. Err (fault n kind)) (sym first.number_is)

    -- no line is left
    pub walk-end : left ≡ [] → (end : Result A Kind) → end ≡ ended facts
        → outcome facts_of judged ended fault [] (map fields (lines text)) ≡ at_line fault (last + 1) end
    walk-end none end is =
        rw (walk.same, none-numbered (length walk.before + 1) walk.rest (sym walk.left_is ∙ none), walk.last_is)
        (outcome-end facts_of judged ended fault walk.before end (is ∙ ap ended walk.facts_are))
