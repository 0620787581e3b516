-- What is so of gains that were found, and of those that were refused.
use Rattle.std.proofs.Common.{ℕ, ◌≡◌, ◌≢◌, ◌<◌, inl, inr, List, length, slice_index, slice_index_or, refl, sym, subst, arith}
use Rattle.dmf_state.specs.declared.arc.Arc.{Arc}
use Rattle.dmf_state.specs.declared.fault.NetFault.{NetFault}
use Rattle.dmf_state.specs.declared.fault.NetFault.TheVariants.{NoMemory, NoSuchNode, TooManyArcs, SumTooLarge}
use Rattle.dmf_state.specs.Arc.{no_arc}
use Rattle.dmf_state.specs.Network.{Network}
use Rattle.dmf_state.specs.NetworkState.{NetworkState}
use Rattle.dmf_vital.specs.Loss.{IsGainOfArc, TakesFourOfEach}
use Rattle.dmf_c.specs.Built.{net_fault_code}
use Rattle.dmf_c.specs.Gains.{AreGains, TellsGains}

pub found : (n : Network) (arcs : List Arc) (gains after : List ℕ) → after ≡ gains → length gains ≡ length arcs
    → ((k : ℕ) → k < length arcs → IsGainOfArc n (slice_index_or arcs k no_arc) (slice_index gains k)) → AreGains n arcs after
found n arcs gains after same size each = subst (AreGains n arcs) (sym same) (record { size = size; each = each })

told : (s : NetworkState) (arcs : List Arc) (fault : NetFault) → (TakesFourOfEach s.network arcs → fault ≡ NoMemory)
    → TellsGains s arcs (net_fault_code fault)
told s arcs NoMemory refused = inl (inl refl)
told s arcs NoSuchNode refused = inr (refl, λ takes. let no : ⊥ = cc (refused takes) in no)
told s arcs TooManyArcs refused = inr (refl, λ takes. let no : ⊥ = cc (refused takes) in no)
told s arcs SumTooLarge refused = inr (refl, λ takes. let no : ⊥ = cc (refused takes) in no)

-- why there are no gains
pub of-fault : (s : NetworkState) (arcs : List Arc) (fault : NetFault) (code : ℕ) → code ≡ net_fault_code fault
    → (TakesFourOfEach s.network arcs → fault ≡ NoMemory) → TellsGains s arcs code
of-fault s arcs fault code is refused = subst (TellsGains s arcs) (sym is) (told s arcs fault refused)

-- No fault has the number 0.
pub no-zero : (fault : NetFault) → net_fault_code fault ≢ 0
no-zero NoMemory e = omega arith
no-zero NoSuchNode e = omega arith
no-zero TooManyArcs e = omega arith
no-zero SumTooLarge e = omega arith
