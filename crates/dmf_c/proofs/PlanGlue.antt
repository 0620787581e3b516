-- A plan may be dropped.
use Rattle.dmf_c.proofs.Steps.{[], ◌∷◌, refl, Dict, impl, method, tnil, dnil, bare, Ura, Model, Wired, Logic, Running, tables_of, glue_by, glue_ps, via_longer, method_Known, Over, no, layout, layouts, arg, Laws, arg_laws, RattleType, AllWithin, Ended, Lasts, lasts, at_exit, Args, Res, Fit, World}
use borrow.Fn.Kinds as kinds
use denote.Param.Glue
use Rattle.dmf_c.specs.contracts.plan.Plan.{the_row}
use Rattle.dmf_c.proofs.plan.Plan.TheLaws.{the_row_laws}
use Rattle.dmf_c.proofs.dmf_c++plan++Plan+Destruct.drop.Kinds as its_kinds
use Rattle.dmf_c.proofs.dmf_c++plan++Plan+Destruct.drop.Reads as reads
use Rattle.dmf_c.proofs.dmf_c++plan++Plan+Destruct.drop.Symbol as symbol
use Rattle.dmf_c.proofs.dmf_c++plan++Plan+Destruct.drop.Met as its_met

-- the type as a call passes it
abbrev pub X : RattleType
X = arg (bare (layout the_row)) no the_row

abbrev pub LX : Laws X
LX = arg_laws (bare (layout the_row)) no the_row the_row_laws refl

-- its drop, as a call passes it
abbrev pub dict : Dict
dict = impl ("dmf_c::dmf_c++plan++Plan+Destruct::drop" ∷ []) tnil dnil

abbrev ended : Ended
ended = kinds.ended_of 0 its_kinds.ps its_kinds.r

-- what is known once it is dropped
abbrev Left : (a : Args ended.signature tt) → Res ended.signature tt → Lasts ended tt a → Type 0
Left a x ws = Fit ended (kinds.stays its_kinds.ps) tt a ws × reads.Learnt tt a x (at_exit ended tt a ws)

pub glue : {M : Type 1} (𝓤 : Ura M) (𝓛 : Logic 𝓤) (𝓜 : Model 𝓤 𝓛.H) (𝓡 : Running 𝓤 𝓛.H 𝓜) → Wired 𝓡.env symbol.code → Glue.Met 𝓛 𝓜 𝓡 𝓡.env X dict
unfolding tables_of
glue {M} 𝓤 𝓛 𝓜 𝓡 w =
    let world : World = record { M = M; 𝓤 = 𝓤; 𝓛 = 𝓛; 𝓜 = 𝓜; 𝓡 = 𝓡 } in
    glue_by X LX world dict 𝓡.env (λ κs a. Lasts ended tt a) (λ κs a. lasts ended tt a) (λ κs a x ws. Left a x ws)
    (λ κs a. AllWithin 1 (κs.0, tt) (X.lives, tt) × Unit {0}) 0 tt (λ κs a h. ((h, tt), tt))
    (via_longer 𝓛 (Over 𝓛 𝓜 𝓡 𝓡.env) 1 (glue_ps X LX) kinds.r_unit (λ κs a. Lasts ended tt a) (λ κs a. lasts ended tt a) (λ κs a x ws. Left a x ws)
    (λ κs a. AllWithin 1 (κs.0, tt) (X.lives, tt) × Unit {0}) (method dict 0 (layouts [] tt)) 0 tt (λ κs. tt) (λ κs a. reads.Asked tt a) (λ κs a p. (tt, tt))
    (λ κs bd within a vss qs. method_Known 0 its_kinds.ps its_kinds.r reads.requires reads.ensures reads.Asked reads.Learnt reads.known world symbol.name
    (method dict 0 (layouts [] tt)) (symbol.as_method 𝓡.env w (method dict 0 (layouts [] tt)) refl) (its_met.met 𝓤 𝓛 𝓜 𝓡 w) ((tt, qs, tt, a, vss), tt)))
