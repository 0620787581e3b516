-- Giving one label to nodes without one, link by link.
use Rattle.std.proofs.Common.{ℕ, ◌≡◌, ◌≢◌, ◌+◌, ◌≤◌, ◌<◌, ◌⊎◌, inl, inr, List, [], ◌∷◌, ◌++◌, length, set, slice_index, refl, sym, ◌∙◌, arith, ◌==◌, cond}
use Rattle.std.proofs.lemmas.Bool.{cases_eq, ne_eqb}
use Rattle.std.proofs.lemmas.List.{get_or-set_same, get_or-set_other, length_push}
use Rattle.std.proofs.lemmas.List.Sums.{sum_by-set}
use Rattle.std.proofs.lemmas.List.Elements.{Contains-append_left, Contains-push, Contains-push_cases}
use Rattle.dmf_path.specs.Labels.{no_label, unlabelled_count, IsLedTo, Spreads}

-- one node less without a label
pub unlabelled_count-set : (labels : List ℕ) (v label : ℕ) → v < length labels → slice_index labels v ≡ no_label → label ≢ no_label
    → 1 + unlabelled_count (set labels v label) ≡ unlabelled_count labels
unlabelled_count-set labels v label within none some =
    let f : ℕ → ℕ = λ x. cond (x == no_label) 1 0 in
    let was : f (slice_index labels v) ≡ 1 = rw none refl in
    let gone : f label ≡ 0 = rw (ne_eqb label no_label some) refl in
    omega (arith, sum_by-set f labels v label 0 within)

-- the label of a node after node `v` gets one
pub cases-set : (labels : List ℕ) (v u label : ℕ) → v < length labels → ((u ≡ v) × (slice_index (set labels v label) u ≡ label))
    ⊎ ((u ≢ v) × (slice_index (set labels v label) u ≡ slice_index labels u))
cases-set labels v u label within = elim (cases_eq u v) [
  | inl here ↦ inl (here, rw here (get_or-set_same labels v label 0 within))
  | inr other ↦ inr (other, get_or-set_other labels v u label 0 other)
]

-- one more place whose link leads to a node
led_to-next : {heads opens : List ℕ} {from end v : ℕ} → IsLedTo heads opens from end v → IsLedTo heads opens from (end + 1) v
led_to-next led = record { place = led.place; from_first = led.from_first; to_last = omega (arith, led.to_last); leads = led.leads; opened = led.opened }

module _ {heads opens : List ℕ} {from end label : ℕ} {old new fresh : List ℕ} (so_far : Spreads heads opens from end label old new fresh) where
  -- a link that is not open, or leads to a node that has a label
  pub spreads-skip : (slice_index opens end ≡ 1 → slice_index new (slice_index heads end) ≢ no_label) → Spreads heads opens from (end + 1) label old new fresh
  spreads-skip has = record {
    kept = so_far.kept;
    done = λ p after before opened. elim (cases_eq p end) [
      | inl here ↦ rw here (has (rw (← here) opened))
      | inr other ↦ so_far.done p after (omega arith) opened
    ];
    listed = so_far.listed;
    labelled = so_far.labelled;
    led_to = λ v listed. led_to-next (so_far.led_to v listed);
    counted = so_far.counted;
  }

  -- an open link that leads to a node without a label
  pub spreads-next : from ≤ end → slice_index opens end ≡ 1 → slice_index new (slice_index heads end) ≡ no_label → slice_index heads end < length new
      → label ≢ no_label → Spreads heads opens from (end + 1) label old (set new (slice_index heads end) label) (fresh ++ slice_index heads end ∷ [])
  spreads-next range opened none within some =
      let head = slice_index heads end in
      let next : List ℕ = set new head label in
      let at : slice_index next head ≡ label = get_or-set_same new head label 0 within in
      let still : (v : ℕ) → slice_index new v ≢ no_label → slice_index next v ≡ slice_index new v =
      λ v has. get_or-set_other new head v label 0 (λ same. has (rw same none)) in
      record {
        kept = λ v has. let same = so_far.kept v has in still v (λ gone. has (sym same ∙ gone)) ∙ same;
        done = λ p after before leads. elim (cases_eq p end) [
          | inl here ↦ rw here (λ gone. some (sym at ∙ gone))
          | inr other ↦ let has = so_far.done p after (omega arith) leads in λ gone. has (sym (still (slice_index heads p) has) ∙ gone)
        ];
        listed = λ v inside was has. elim (cases-set new head v label within) [
          | inl here ↦ rw here.0 (Contains-push fresh head)
          | inr other ↦ Contains-append_left fresh (head ∷ []) v (so_far.listed v inside was (λ gone. has (other.1 ∙ gone)))
        ];
        labelled = λ v listed. elim (Contains-push_cases fresh head v listed) [
          | inl was ↦ let same = so_far.labelled v was in still v (λ gone. some (sym same ∙ gone)) ∙ same
          | inr is ↦ rw (← is) at
        ];
        led_to = λ v listed. elim (Contains-push_cases fresh head v listed) [
          | inl was ↦ led_to-next (so_far.led_to v was)
          | inr is ↦ record { place = end; from_first = range; to_last = omega arith; leads = is; opened = opened }
        ];
        counted = omega (arith, so_far.counted, length_push fresh head, unlabelled_count-set new head label within none some);
      }
