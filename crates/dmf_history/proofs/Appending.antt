-- The present state, what is appended to it, and which states before it are kept.
use Rattle.std.proofs.Common.{◌≡◌, ◌+◌, ◌-◌, ◌<◌, ◌≤◌, List, ◌∷◌, [], ◌++◌, length, get_or, take, drop, Some, arith, sym, ap, ◌∙◌, subst, ⊎_elim}
use Rattle.std.proofs.lemmas.Bool.{cases_lt}
use Rattle.std.proofs.lemmas.Bool.Decides.{nat_tests}
use Rattle.std.proofs.lemmas.List.{get_or_at, get_or_append_left, get_or-take, get_or-drop, length_push, length-take-le, length-drop}
use Rattle.std.proofs.lemmas.Option.{get_or_from_slice_get, slice_get-get_or, slice_get_within}
use Rattle.std.specs.List.{slice_get}
use Rattle.dmf_state.specs.declared.edit.Edit.{Edit}
use Rattle.dmf_state.specs.NetworkState.{NetworkState}
use Rattle.dmf_state.specs.Edit.{applied}
use Rattle.dmf_history.specs.Timeline.{Timeline, IsPresent, extended, forgotten, within_bound, back, appended, Appends}

-- there is one present state
pub one-present : (t : Timeline) (s p : NetworkState) → IsPresent t s → IsPresent t p → s ≡ p
one-present t s p a b = cc

-- ---- what is kept within the bound

-- Within the bound the history forgets no state.
pub within_bound-all : (t : Timeline) → t.place ≤ t.bound → within_bound t ≡ t
within_bound-all t within = grind (arith, nat_tests)

-- Past the bound it forgets the oldest state.
pub within_bound-past : (t : Timeline) → t.bound < t.place → within_bound t ≡ forgotten t
within_bound-past t past = grind (arith, nat_tests)

-- A property of a timeline holds of it within the bound, if forgetting the oldest state keeps the property.
pub within_bound-keeps : (P : Timeline → Type 0) (t : Timeline) → P t → (t.bound < t.place → P (forgotten t)) → P (within_bound t)
within_bound-keeps P t whole rest = ⊎_elim
    (λ past. subst P (sym (within_bound-past t past)) (rest past))
    (λ within. subst P (sym (within_bound-all t within)) whole)
    (cases_lt t.bound t.place)

-- Forgetting the oldest state leaves the present state present.
pub forgotten-present : (t : Timeline) (s : NetworkState) → IsPresent t s → 0 < t.place → IsPresent (forgotten t) s
forgotten-present t s present past =
    let within : t.place < length t.states = slice_get_within t.states t.place s present in
    let same : 1 + (t.place - 1) ≡ t.place = omega (arith, past) in
    slice_get-get_or (drop 1 t.states) (t.place - 1) s (omega (arith, within, past, length-drop 1 t.states))
    ∙ ap (λ x. Some x) (get_or-drop 1 t.states (t.place - 1) s ∙ ap (λ n. get_or t.states n s) same ∙ get_or_from_slice_get t.states t.place s s present)

-- ---- the appended state

extended-present : (t : Timeline) (s : NetworkState) → t.place < length t.states → IsPresent (extended t s) s
extended-present t s within =
    let front : List NetworkState = take (t.place + 1) t.states in
    let long : length front ≡ t.place + 1 = length-take-le (t.place + 1) t.states (omega arith) in
    slice_get-get_or (front ++ s ∷ []) (t.place + 1) s (omega (arith, length_push front s, long)) ∙ ap (λ x. Some x) (get_or_at front s [] s (t.place + 1) long)

-- One step back from it leads to the state that was present before.
pub before-extended : (t : Timeline) (s new : NetworkState) → IsPresent t s → IsPresent (back (extended t new) 1) s
before-extended t s new present =
    let front : List NetworkState = take (t.place + 1) t.states in
    let within : t.place < length t.states = slice_get_within t.states t.place s present in
    let long : length front ≡ t.place + 1 = length-take-le (t.place + 1) t.states (omega arith) in
    let same : t.place ≡ t.place + 1 - 1 = omega arith in
    subst (λ k. slice_get (front ++ new ∷ []) k ≡ Some s) same
    (slice_get-get_or (front ++ new ∷ []) t.place s (omega (arith, length_push front new, long))
    ∙ ap (λ x. Some x) (get_or_append_left front (new ∷ []) s t.place (omega (arith, long)) ∙ get_or-take (t.place + 1) t.states t.place s
    (omega arith) ∙ get_or_from_slice_get t.states t.place s s present))

-- The appended state is the present one.
pub appended-present : (t : Timeline) (s : NetworkState) → t.place < length t.states → IsPresent (appended t s) s
appended-present t s within =
    let last = extended-present t s within in
    within_bound-keeps (λ u. IsPresent u s) (extended t s) last (λ past. forgotten-present (extended t s) s last (omega (arith, past)))

-- The state that an edit makes is appended, if the bound allows one more state before the present one.
pub appends-all : (edit : Edit) (t : Timeline) (s : NetworkState) → IsPresent t s → t.place < t.bound → Appends edit t (extended t (applied edit s))
appends-all edit t s present fewer =
    record { state = s; present = present; gives = sym (within_bound-all (extended t (applied edit s)) (omega (arith, fewer))) }

-- If it does not, the oldest state is forgotten, and the place stays.
pub appends-past : (edit : Edit) (t : Timeline) (s : NetworkState) → IsPresent t s → t.bound ≤ t.place
    → Appends edit t (record { states = drop 1 (take (t.place + 1) t.states ++ applied edit s ∷ []); place = t.place; bound = t.bound })
appends-past edit t s present full =
    let same : t.place ≡ t.place + 1 - 1 = omega arith in
    record {
      state = s;
      present = present;
      gives =
          (λ i. record { states = drop 1 (take (t.place + 1) t.states ++ applied edit s ∷ []); place = same i; bound = t.bound })
          ∙ sym (within_bound-past (extended t (applied edit s)) (omega (arith, full)));
    }

-- If the present state of a timeline is `s`, the appended state is what the edit makes of `s`.
pub appends-applied : (t u : Timeline) (s : NetworkState) (edit : Edit) → IsPresent t s → Appends edit t u → u ≡ appended t (applied edit s)
appends-applied t u s edit present appends = appends.gives ∙ ap (λ x. appended t (applied edit x)) (one-present t appends.state s appends.present present)

-- It is the present state then.
pub now-present : (t u : Timeline) (s p : NetworkState) (edit : Edit) → IsPresent t s → Appends edit t u → IsPresent u p → p ≡ applied edit s
now-present t u s p edit present appends shown =
    let new = applied edit s in
    one-present (appended t new) p new (subst (λ v. IsPresent v p) (appends-applied t u s edit present appends) shown)
    (appended-present t new (slice_get_within t.states t.place s present))
