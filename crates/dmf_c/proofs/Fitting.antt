-- Arrays that fit, and those that do not.
use Rattle.std.proofs.Common.{ℕ, ◌≡◌, ◌≢◌, ◌+◌, ◌-◌, List, Bool, length, slice_index_or, sym, ap, ◌∙◌, arith, eq-eqb}
use Rattle.std.specs.Bool.{if◌then◌else◌}
use Rattle.std.proofs.lemmas.Bool.{ne_eqb}
use Rattle.std.proofs.lemmas.List.{ext_get_or}
use Rattle.std.proofs.lemmas.Slice.Zip.{AllZip-long}
use Rattle.dmf_state.specs.NetworkState.{NetworkState, IsState}
use Rattle.dmf_c.specs.Arrays.{length_code}
use Rattle.dmf_c.specs.Ranges.{HasNumbers}
use Rattle.dmf_c.specs.Status.{DMF_OK, DMF_BAD_LENGTH}

-- A state has a flow for each arc.
pub length-flows : (s : NetworkState) → IsState s → length s.flows ≡ length s.network.arcs
length-flows s state = AllZip-long _ s.network.arcs s.flows state.flow.within

pub right-length : (given wanted : ℕ) → given ≡ wanted → DMF_OK ≡ length_code given wanted
right-length given wanted same = sym (ap (λ (b : Bool). if b then DMF_OK else DMF_BAD_LENGTH) (eq-eqb given wanted same))

pub wrong-length : (given wanted : ℕ) → given ≢ wanted → DMF_BAD_LENGTH ≡ length_code given wanted
wrong-length given wanted other = sym (ap (λ (b : Bool). if b then DMF_OK else DMF_BAD_LENGTH) (ne_eqb given wanted other))

-- An array that gets the numbers from the first on, and has a place for each, is the list of them.
pub all-numbers : (xs before after : List ℕ) → length before ≡ length xs → HasNumbers (λ k. slice_index_or xs (1 + k - 1) 0) before after → after ≡ xs
all-numbers xs before after size h = ext_get_or 0 after xs (h.size ∙ size) (λ i low. h.each i low ∙ ap (λ (n : ℕ). slice_index_or xs n 0) (omega arith))
