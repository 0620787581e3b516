-- The walks that number links by their pairs: first those along, then the others.
use Rattle.std.proofs.Common.{ℕ, ◌≡◌, ◌≢◌, ◌+◌, ◌-◌, ◌<◌, ◌≤◌, List, length, get_or, set, replicate, inl, inr, refl, ap, sym, ◌∙◌, subst, ⊎_elim, arith}
use Rattle.std.proofs.Common.{get_or-set_other, get_or-set_same, length-set}
use Rattle.std.proofs.lemmas.Bool.{cases_eq}
use Rattle.std.proofs.lemmas.List.{get_or-replicate, length-replicate}
use Rattle.dmf_links.specs.Links.{Links, AreLinks, IsOf, IsSpare, ArePlaces, no_place}
use Rattle.dmf_links.specs.Numbers.{AreNumbers, AreNumberedAlong, no_number}

-- At first no link has a number.
pub along-none : (l : Links) (places numbers : List ℕ) → numbers ≡ replicate (length l.heads) no_number → AreNumberedAlong l places 0 numbers
along-none l places numbers none = record {
  one_each = ap length none ∙ length-replicate (length l.heads) no_number;
  told = λ p h has. absurd (has (ap (λ (xs : List ℕ). get_or xs p 0) none ∙ get_or-replicate (length l.heads) p no_number 0 h));
  along = λ j before. absurd (omega (arith, before));
}

-- The link along the next pair gets its number,
pub along-pair : (l : Links) (places : List ℕ) (k : ℕ) (numbers : List ℕ) → ArePlaces l places → k < length places → get_or places k 0 ≢ no_place
    → AreNumberedAlong l places k numbers → AreNumberedAlong l places (k + 1) (set numbers (get_or places k 0) k)
along-pair l places k numbers are index there known =
    let place : ℕ = get_or places k 0 in
    let within : place < length l.heads = are.within k index there in
    let here : get_or (set numbers place k) place 0 ≡ k = get_or-set_same numbers place k 0 (omega (arith, within, known.one_each)) in
    record {
      one_each = length-set numbers place k ∙ known.one_each;
      told = λ p h has. ⊎_elim
          (λ (same : p ≡ place). subst (IsOf l places p) (sym (ap (λ q. get_or (set numbers place k) q 0) same ∙ here)) (index, there, inl (sym same)))
          (λ (other : p ≢ place).
          let read = get_or-set_other numbers place p k 0 other in
          subst (IsOf l places p) (sym read) (known.told p h (λ none. has (read ∙ none))))
          (cases_eq p place);
      along = λ j before long some. ⊎_elim
          (λ (same : j ≡ k). ap (λ i. get_or (set numbers place k) (get_or places i 0) 0) same ∙ here ∙ sym same)
          (λ (other : j ≢ k).
          let apart : get_or places j 0 ≢ place = λ e. other (are.one place j k within (long, some, inl e) (index, there, inl refl)) in
          get_or-set_other numbers place (get_or places j 0) k 0 apart ∙ known.along j (omega (arith, before, other)) long some)
          (cases_eq j k);
    }

-- if there is one.
pub along-unplaced : (l : Links) (places : List ℕ) (k : ℕ) (numbers : List ℕ) → get_or places k 0 ≡ no_place → AreNumberedAlong l places k numbers
    → AreNumberedAlong l places (k + 1) numbers
along-unplaced l places k numbers none known = record {
  one_each = known.one_each;
  told = known.told;
  along = λ j before long some.
      let earlier : j ≢ k = λ e. some (ap (λ i. get_or places i 0) e ∙ none) in
      known.along j (omega (arith, before, earlier)) long some;
}

-- The links along have their numbers, and so do the others before place `place`.
pub record AreNumberedBefore (l : Links) (places : List ℕ) (place : ℕ) (numbers : List ℕ) : Type 0 where
  pub known : AreNumberedAlong l places (length places) numbers
  pub done : (p : ℕ) → p < place → p < length l.heads → ¬ IsSpare l p → get_or numbers p 0 ≢ no_number

-- An index of a pair is a number.
is-number : (l : Links) (places : List ℕ) (k number : ℕ) → ArePlaces l places → k < length places → number ≡ k → number ≢ no_number
is-number l places k number are index is none = omega (arith, are.at_most, index, is, none)

-- The opposite of a link of a pair is the other one.
opposite-of : (l : Links) (places : List ℕ) (p j : ℕ) → AreLinks l → p < length l.heads → ArePlaces l places → IsOf l places (get_or l.partners p 0) j
    → IsOf l places p j
opposite-of l places p j links h are (index, there, own) =
    let back = (links.each p h).partner_back in (
      index,
      there,
      ⊎_elim
          (λ (along : get_or places j 0 ≡ get_or l.partners p 0). inr (ap (λ q. get_or l.partners q 0) along ∙ back))
          (λ (against : get_or l.partners (get_or places j 0) 0 ≡ get_or l.partners p 0).
          let place : ℕ = get_or places j 0 in
          inl (sym (links.each place (are.within j index there)).partner_back ∙ ap (λ q. get_or l.partners q 0) against ∙ back))
          own,
    )

-- A link that has a number keeps it,
pub before-kept : (l : Links) (places : List ℕ) (place : ℕ) (numbers : List ℕ) → get_or numbers place 0 ≢ no_number
    → AreNumberedBefore l places place numbers → AreNumberedBefore l places (place + 1) numbers
before-kept l places place numbers has before = record {
  known = before.known;
  done = λ p h within used. ⊎_elim
      (λ (same : p ≡ place). λ none. has (ap (λ q. get_or numbers q 0) (sym same) ∙ none))
      (λ (other : p ≢ place). before.done p (omega (arith, h, other)) within used)
      (cases_eq p place);
}

-- and one that has none gets that of its opposite, which lies along its pair.
pub before-copied : (l : Links) (places : List ℕ) (place : ℕ) (numbers : List ℕ) → AreLinks l → ArePlaces l places → place < length l.heads
    → get_or numbers place 0 ≡ no_number → AreNumberedBefore l places place numbers
    → AreNumberedBefore l places (place + 1) (set numbers place (get_or numbers (get_or l.partners place 0) 0))
before-copied l places place numbers links are within none before =
    let partner : ℕ = get_or l.partners place 0 in
    let number : ℕ = get_or numbers partner 0 in
    let known = before.known in
    let link = links.each place within in
    let here : get_or (set numbers place number) place 0 ≡ number = get_or-set_same numbers place number 0 (omega (arith, within, known.one_each)) in
    record {
      known = record {
        one_each = length-set numbers place number ∙ known.one_each;
        told = λ p h has. ⊎_elim
            (λ (same : p ≡ place).
            let read : get_or (set numbers place number) p 0 ≡ number = ap (λ q. get_or (set numbers place number) q 0) same ∙ here in
            let its = known.told partner link.partner (λ no. has (read ∙ no)) in
            subst (IsOf l places p) (sym read) (subst (λ q. IsOf l places q number) (sym same) (opposite-of l places place number links within are its)))
            (λ (other : p ≢ place).
            let read = get_or-set_other numbers place p number 0 other in
            subst (IsOf l places p) (sym read) (known.told p h (λ no. has (read ∙ no))))
            (cases_eq p place);
        along = λ j index long some.
            let its = known.along j index long some in
            let apart : get_or places j 0 ≢ place = λ e.
            is-number l places j (get_or numbers place 0) are long (ap (λ q. get_or numbers q 0) (sym e) ∙ its) none in
            get_or-set_other numbers place (get_or places j 0) number 0 apart ∙ its;
      };
      done = λ p h inside used. ⊎_elim
          (λ (same : p ≡ place).
          let own = are.each place within (λ spare. used (subst (IsSpare l) (sym same) spare)) in
          let its = known.along own.0 own.1.0 own.1.0 own.1.1 in
          ⊎_elim
          (λ (along : get_or places own.0 0 ≡ place). absurd
          (is-number l places own.0 (get_or numbers place 0) are own.1.0 (ap (λ q. get_or numbers q 0) (sym along) ∙ its) none))
          (λ (against : get_or l.partners (get_or places own.0 0) 0 ≡ place).
          let back : partner ≡ get_or places own.0 0 = ap (λ q. get_or l.partners q 0) (sym against)
          ∙ (links.each (get_or places own.0 0) (are.within own.0 own.1.0 own.1.1)).partner_back in
          is-number l places own.0 (get_or (set numbers place number) p 0) are own.1.0
          (ap (λ q. get_or (set numbers place number) q 0) same ∙ here ∙ ap (λ q. get_or numbers q 0) back ∙ its))
          own.1.2)
          (λ (other : p ≢ place). λ no. before.done p (omega (arith, h, other)) inside used
          (sym (get_or-set_other numbers place p number 0 other) ∙ no))
          (cases_eq p place);
    }

-- So all links have numbers.
pub before-all : (l : Links) (places : List ℕ) (place : ℕ) (numbers : List ℕ) → length l.heads ≤ place → AreNumberedBefore l places place numbers
    → AreNumbers l places numbers
before-all l places place numbers all before = (
  before.known.one_each,
  λ p h used. before.known.told p h (before.done p (omega (arith, h, all)) h used),
)

-- The links of the last pair are numbered too, once the others are.
pub numbered-last : (l : Links) (places : List ℕ) (known : List ℕ) → AreLinks l → ArePlaces l places → 0 < length places
    → length known ≡ length l.heads → ((p : ℕ) → p < length l.heads → ¬ IsSpare l p → ¬ IsOf l places p (length places - 1) → IsOf l places p (get_or known p 0))
    → get_or places (length places - 1) 0 ≢ no_place →
    AreNumbers l places (set (set known (get_or places (length places - 1) 0) (length places - 1))
    (get_or l.partners (get_or places (length places - 1) 0) 0) (length places - 1))
numbered-last l places known links are has long others there =
    let k : ℕ = length places - 1 in
    let place : ℕ = get_or places k 0 in
    let partner : ℕ = get_or l.partners place 0 in
    let index : k < length places = omega arith in
    let within : place < length l.heads = are.within k index there in
    let beside : partner < length l.heads = (links.each place within).partner in
    let first : List ℕ = set known place k in (
      length-set first partner k ∙ length-set known place k ∙ long,
      λ p h used.
          ⊎_elim
          (λ (same : p ≡ partner).
          let read : get_or (set first partner k) p 0 ≡ k = ap (λ q. get_or (set first partner k) q 0) same
          ∙ get_or-set_same first partner k 0 (omega (arith, beside, long, length-set known place k)) in
          subst (IsOf l places p) (sym read) (index, there, inr (sym same)))
          (λ (other : p ≢ partner).
          ⊎_elim
          (λ (same : p ≡ place).
          let read : get_or (set first partner k) p 0 ≡ k = get_or-set_other first partner p k 0 other ∙ ap (λ q. get_or first q 0) same
          ∙ get_or-set_same known place k 0 (omega (arith, within, long)) in
          subst (IsOf l places p) (sym read) (index, there, inl (sym same)))
          (λ (apart : p ≢ place).
          let read : get_or (set first partner k) p 0 ≡ get_or known p 0 = get_or-set_other first partner p k 0 other
          ∙ get_or-set_other known place p k 0 apart in
          let not_last : ¬ IsOf l places p k = λ of. ⊎_elim (λ (own : place ≡ p). apart (sym own)) (λ (its : partner ≡ p). other (sym its)) of.2 in
          subst (IsOf l places p) (sym read) (others p h used not_last))
          (cases_eq p place))
          (cases_eq p partner),
    )

-- If there is no last pair, the others are all.
pub numbered-but_none : (l : Links) (places : List ℕ) (known : List ℕ) → length known ≡ length l.heads
    → ((p : ℕ) → p < length l.heads → ¬ IsSpare l p → ¬ IsOf l places p (length places - 1) → IsOf l places p (get_or known p 0))
    → get_or places (length places - 1) 0 ≡ no_place → AreNumbers l places known
numbered-but_none l places known long others none = (long, λ p h used. others p h used (λ of. of.1 none))
