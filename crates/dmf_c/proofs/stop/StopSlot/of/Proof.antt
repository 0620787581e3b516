-- `of` takes the box apart.
use Rattle.dmf_c.proofs.Steps.{List, [], ◌∷◌, ◌++◌, refl, sym, subst, Val, vptr, SProp, ent, id⊢, ftrue, fsep, feq, WpFn, done, ‵, ◌⊛◌, ◌$◌, ◌∵◌, !, qed, move, keep, split3, join, fjoin, fpack, suffices, feq_i, stop, fld, of_opd, no_more, and_then, returns, enter, alloc_all, pass_all, free_all, look_at, get, get_in, sets, lands_as, agg, sub, whole, ⊑_static, tables, tables_of, yes, RattleType, Valss, block_ptr, plain, nothing, shape, to, within, Stays, stay_dropped, walk_of, Goes-dropped, says, ends_at, box_out, box_in, proved_at, ghosts, Some}
use Rattle.std.proofs.BoxSteps.Form as box
use Rattle.dmf_c.specs.contracts.stop.StopSlot.{the_type}
use Rattle.dmf_c.specs.Stop.{owns_stop}
use Rattle.dmf_c.specs.declared.stop.StopSlot.{StopSlot}
use Rattle.dmf_c.specs.declared.stop.Stop.{Stop}
use Rattle.dmf_c.specs.contracts.stop.Stop.{the_row as T}
use Rattle.dmf_c.proofs.Heap.{heap_of, takes_apart}
use Rattle.dmf_c.proofs.Passed.{al}
use Rattle.std.specs.contracts.boxed.Box as boxed
use Rattle.std.specs.contracts.alloc.Global as heap
use Rattle.dmf_c.proofs.StopGlue as stops
use Rattle.dmf_c.proofs.Destruct++none.drop.Code as nothing-dropped
use Rattle.dmf_c.specs.contracts.stop.StopSlot.of as f
use Rattle.dmf_c.proofs.stop.StopSlot.of.Statement.{statement}
use Rattle.dmf_c.proofs.stop.StopSlot.of.Code as code

abbrev E : box.Bx
E = record { row = stops.X; laws = stops.LX; al = al }

abbrev B : RattleType
B = box.B E

-- the parameter's type
abbrev P : RattleType
P = boxed.the_row T heap.the_row ghosts

abbrev stayed : Stays f.ended.signature.params f.ended.kept
stayed = (stay_dropped (plain (λ _. P)) yes, tt)

pub of_spec : {M : Type 1} → statement M
unfolding tables_of nothing-dropped.code
of_spec {M} 𝓤 𝓛 𝓜 𝓡 wired =
    let c = f.clauses 𝓛 𝓜.mem 𝓡.returns in let W = walk_of 𝓛 f.ended stayed c in let 𝓣 = tables 𝓤 𝓛.H 𝓜 𝓡 𝓡.env in let fn = code.function in
    proved_at 𝓛 f.ended stayed c 𝓜 𝓡 (Goes-dropped 𝓛 0 (plain (λ _. P)) yes (λ κs x w. refl), tt)
    f.Key.name fn (code.unfolded 𝓤 𝓛.H 𝓜 𝓡 wired) (λ z are.
    let v = z.0.3.0 in let a = v.alloc in let Run : List Val → SProp 𝓤 = λ ws. WpFn 𝓤 𝓛.H 𝓣.C 𝓣.Λ fn ws (W.post z) in
    qed 𝓛 ((‵ ftrue ⊛ ‵ (B.own_val v z.0.4.0) ⊛ ‵ ftrue) ∷ ‵ ftrue ∷ []) ∵ split3 ! $ keep ! (1 ∷ []) $
    box_out E ! v z.0.4.0 (λ b o h e ws fits. box_in E ! v b o v.value e refl $
    let w : Val = box.word E h b o in let typed = box.box_typed E h b o fits in
    suffices ! (Run (w ∷ [])) (subst (λ (us : List Val). ent 𝓤 (Run (w ∷ [])) (Run us)) (sym (λ i. ws i ++ [])) (id⊢ 𝓤 (Run (w ∷ [])))) $
    enter ! 𝓣.C 𝓣.Λ fn (w ∷ []) (W.post z) $ alloc_all ! (λ l. pass_all ! refl (typed, tt) $ sets ! (of_opd ! (get ! refl)) refl typed $
    let heap = heap_of (code.calls-std_heap::GlobalAllocator::allocate 𝓡.env wired) (code.calls-std_heap::GlobalAllocator::deallocate 𝓡.env wired)
    (code.calls-std_heap::GlobalAllocator::grow 𝓡.env wired) (code.calls-std_heap::GlobalAllocator::shrink 𝓡.env wired) (code.calls-dmf_c::Destruct++none::drop 𝓡.env wired) in
    takes_apart 𝓛 𝓜 𝓡 heap stops.X stops.LX ⊑_static ! stops.dict (stops.glue 𝓤 𝓛 𝓜 𝓡 (code.calls-dmf_c::stop::Stop::drop 𝓡.env wired))
    (code.calls-std_alloc::boxed::Box::into_raw_with_allocator 𝓡.env wired) v w (λ i. and_then ! (get ! refl) (no_more !)) (λ b' o' h' u is fits'.
    let made = box.box_typed E h' b' o' fits' in let hw : Val = box.word E h' b' o' in
    let slot : StopSlot = record { at = block_ptr b' o'; alloc = a; stop = Some v.value.inside } in
    lands_as ! is refl made $
    sets ! (of_opd ! (get_in ! (fld ! refl (stop !)) (sub ! 0 refl (whole !)))) refl (tt, tt) $ sets ! (of_opd ! (get_in ! (fld ! refl (stop !)) (sub ! 1 refl (whole !)))) refl fits' $
    sets ! (agg ! (and_then ! (get ! refl) (and_then ! (get ! refl) (no_more !)))) refl made $
    returns ! (look_at ! 0 refl) $ free_all ! refl $
    -- [the allocator; the memory]
    move ! (1 ∷ []) $ feq_i ! (Unit {0}) v.value.inside v.value.inside refl $ fjoin ! $
    fpack ! Stop (λ h. fsep (feq (Unit {0}) h.inside v.value.inside) (owns_stop (block_ptr b' o') h)) v.value $ move ! (0 ∷ 1 ∷ []) $ nothing ! $ move ! (2 ∷ 0 ∷ []) $ fjoin ! $ feq_i ! (List Val) (vptr b' o' ∷ []) (vptr b' o' ∷ []) refl $ fjoin ! $ feq_i ! (List Val) (hw ∷ []) (hw ∷ []) refl $ fjoin ! $
    fpack ! (Valss (shape the_type).fields) (within (shape the_type) (to the_type slot) (hw ∷ [])) (vptr b' o' ∷ [], (h' ∷ [], tt)) $ fjoin ! $ keep ! (0 ∷ []) $
    suffices ! _ (ends_at 𝓛 f.ended stayed c z hw slot (tt, tt) (tt, tt)) $
    says ! refl $ nothing ! $ nothing ! $ join ! $ nothing ! $ done !))))
