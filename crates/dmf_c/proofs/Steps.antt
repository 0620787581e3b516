-- What several walks cite.
pub use mir.Val.{Val, vptr, vstruct, vcons, vnil, of_list, vunit}
pub use base.Logic.{SProp, ent, id⊢, never, fst∗, sep, via, snd∗}
pub use base.Fml.{ftrue, fsep, feq, Fml, GName, flft}
pub use prog.Wp.{WpFn}
pub use types.Kit.{done, ‵, ◌⊛◌, ◌$◌, ◌∵◌, !, qed, move, keep, split3, join, fjoin, fpack, suffices, feq_i, at_ret, drop, fsplit, fpick, feq_l, raw, some, later, use1, split, fsplit3, pick, await, rewrite, frame, group, prop, regoal}
pub use types.Run.{stop, fld, of_opd, no_more, and_then, returns, enter, first, blocks, exec, addr, load, unit_lit, bin, lit, branches, skips, returns_within}
pub use types.ByLocal.{alloc_all, pass_all, free_all, look_at, get, get_in, sets, lands_as, lands_last, env, through, sets_last}
pub use types.Part.{agg, sub, whole, look_in}
pub use contract.BorrowLft.{⊑_static}
pub use contract.Running.{tables, Running}
unfoldable pub use contract.Running.{tables_of}
pub use denote.Exit.{yes, no}
pub use denote.RattleType.{RattleType, Valss}
pub use denote.RawPtr.{block_ptr, Ptr, null_ptr, ptr_val, in_a_block, Testable, tests_null, rawptr_vals, rawptr_Tells}
pub use denote.Signature.{plain, mut_ref_to}
pub use denote.Steps.{nothing, opens, peeks, only}
pub use denote.Struct.Owning.{shape, to}
pub use denote.Struct.Struct.{within}
pub use denote.Triple.Walked.{Stays, stay_dropped, walk_of, Goes-dropped, says, ends_at, Goes-spent_ref, Fit}
pub use mir.Raw.{raw as bare}
pub use types.Logic.{sem, Logic}
pub use denote.Memory.{lone, mem, cell_at, part_at}
unfoldable pub use denote.Memory.{part_of}
pub use seplogic.Ra.Ura.{Ura}
pub use base.Fraction.{full_share}
pub use mir.Syntax.{named, Dict, dnil, impl, tnil, method}
pub use denote.Follow.{follows, Part, lends_Part}
pub use denote.Laws.{shows}
pub use denote.Ref.{MutBor, MutRef, mut_vals, mut_Tells}
pub use contract.Monad.{fact_use}
pub use denote.Builtin.{RawPtr, unit}
pub use denote.Triple.Call.{calls_at}
pub use denote.Triple.Clauses.{Lasts, lasts, Ended, at_exit}
pub use denote.Triple.Entry.{on_entry, Args, Res}
pub use denote.Triple.Spec.{triple_of}
pub use denote.Triple.Table.{framed}
pub use prog.Model.{Model}
pub use prog.Wired.{Wired}
pub use denote.Param.{layout, arg, layouts, param}
pub use denote.Param.Laws.{Laws, arg_laws, param_laws}
pub use borrow.Fn.Glue.{glue_by, glue_ps}
pub use borrow.Fn.Impl.{via_longer, method_Known}
pub use borrow.Fn.Run.{Over}
pub use borrow.Kind.Owned.{p_owned}
pub use denote.Param.Mute.{Mute-seen}
pub use denote.Triple.Carry.{AllWithin}
pub use borrow.Fn.World.{World}
pub use Rattle.std.proofs.Common.{List, [], ◌∷◌, ◌++◌, refl, sym, subst, ◌≡◌, ℕ, ap, ◌∙◌, lit<, Global}
pub use Rattle.std.proofs.BoxSteps.Steps.{box_out, box_in}
pub use Rattle.std.proofs.raw_atomic.Walks.{proved_at, proved}
pub use Rattle.std.specs.contracts.impls.GlobalAllocator.TheImpl.{ghosts, dict}
pub use Rattle.std.specs.Prelude.{Some}
pub use Rattle.std.proofs.alloc.Shapes.{after}
pub use Rattle.std.specs.Box.Ownership.{box_owns}
pub use Rattle.std.proofs.alloc.Calls.{handle_tells}
pub use Rattle.std.specs.Ptr.{points_to}
pub use Rattle.std.proofs.GlobalToken.{dealloc_token-Testable}
pub use Rattle.std.specs.contracts.alloc.Global.{the_row as G}
