-- What a call passes for the heap, `Global`, where it stands for a type parameter.
use Rattle.dmf_c.proofs.Steps.{[], ◌∷◌, refl, Dict, impl, tnil, dnil, bare, no, layout, arg, Laws, arg_laws, RattleType, ghosts, dict}
use mir.Syntax.{tcons}
use Rattle.std.specs.contracts.alloc.Global.{the_row}
use Rattle.std.proofs.alloc.Global.TheLaws.{the_row_laws}
use Rattle.std.proofs.alloc.Calls.{Al}

abbrev pub A : RattleType
A = arg (bare (layout the_row)) no the_row

abbrev pub LA : Laws A
LA = arg_laws (bare (layout the_row)) no the_row the_row_laws refl

-- it has no drop
abbrev pub drops : Dict
drops = impl ("dmf_c::Destruct++none::drop" ∷ []) (tcons (layout A) tnil) dnil

abbrev pub al : Al
al = record { row = A; laws = LA; g = ghosts; d = dict; drops = drops }
