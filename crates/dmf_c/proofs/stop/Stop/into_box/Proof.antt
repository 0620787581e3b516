-- `into_box` makes the box again.
use Rattle.dmf_c.proofs.Steps.{◌≡◌, List, [], ◌∷◌, ◌++◌, refl, sym, subst, bare, Val, vptr, vstruct, vcons, vnil, of_list, SProp, ent, never, fst∗, id⊢, ftrue, WpFn, sem, done, ‵, ◌⊛◌, at_ret, ◌$◌, ◌∵◌, !, qed, move, keep, drop, split3, join, fsplit, fpick, feq_l, suffices, stop, fld, of_opd, no_more, and_then, first, blocks, exec, returns, enter, alloc_all, pass_all, free_all, look_at, get, get_in, sets, lands_last, env, sub, whole, ⊑_static, after, tables, tables_of, yes, lone, Ptr, null_ptr, ptr_val, in_a_block, plain, nothing, Stays, stay_dropped, walk_of, Goes-dropped, says, ends_at, box_owns, ghosts, proved_at, handle_tells}
use Rattle.dmf_c.specs.contracts.flag.Flag.{the_row as T}
use Rattle.std.proofs.BoxSteps.Form as box
use Rattle.dmf_c.proofs.Heap.{heap_of, boxes_last}
use Rattle.dmf_c.proofs.Passed.{al}
use Rattle.dmf_c.proofs.FlagGlue as flag
use Rattle.dmf_c.proofs.Destruct++none.drop.Code as nothing-dropped
use Rattle.dmf_c.specs.contracts.stop.Stop.{the_row as R}
use Rattle.dmf_c.specs.contracts.stop.Stop.into_box as f
use Rattle.dmf_c.proofs.stop.Stop.into_box.Statement.{statement}
use Rattle.dmf_c.proofs.stop.Stop.into_box.Code as code

abbrev both : Val → Val → Val
both v w = vstruct (vcons v (vcons w vnil))

abbrev E : box.Bx
E = record { row = flag.X; laws = flag.LX; al = al }

abbrev stayed : Stays f.ended.signature.params f.ended.kept
stayed = (stay_dropped (plain (λ _. R)) yes, tt)

pub into_box_spec : {M : Type 1} → statement M
unfolding tables_of nothing-dropped.code
into_box_spec {M} 𝓤 𝓛 𝓜 𝓡 wired =
    let c = f.clauses 𝓛 𝓜.mem 𝓡.returns in let W = walk_of 𝓛 f.ended stayed c in let 𝓣 = tables 𝓤 𝓛.H 𝓜 𝓡 𝓡.env in let fn = code.function in
    proved_at 𝓛 f.ended stayed c 𝓜 𝓡 (Goes-dropped 𝓛 0 (plain (λ _. R)) yes (λ κs x w. refl), tt)
    f.Key.name fn (code.unfolded 𝓤 𝓛.H 𝓜 𝓡 wired) (λ z are.
    let v = z.0.3.0 in let a = v.alloc in let Run : List Val → SProp 𝓤 = λ ws. WpFn 𝓤 𝓛.H 𝓣.C 𝓣.Λ fn ws (W.post z) in
    qed 𝓛 ((‵ ftrue ⊛ ‵ (R.own_val v z.0.4.0) ⊛ ‵ ftrue) ∷ ‵ ftrue ∷ []) ∵ split3 ! $ keep ! (1 ∷ []) $ fsplit ! $
    fpick ! (λ vss. fsplit ! $ feq_l ! (λ ev. fsplit ! $ feq_l ! (λ ep. fsplit ! $ handle_tells al ! a vss.1.0 (λ h ea fits. move ! (1 ∷ []) $ drop ! $ move ! (1 ∷ []) $
    in_a_block ! v.at (λ p. box_owns (ghosts.dealloc_token a) T p v.inside)
    (fst∗ 𝓤 (never 𝓤) (sem 𝓛 (ghosts.dealloc_token a (bare (lone T.mir)) null_ptr))) (λ b o e.
    let w : Val = both (vptr b o) h in
    let ws : z.0.4.0 ≡ w ∷ [] = subst (λ (p : Ptr). z.0.4.0 ≡ vstruct (of_list (ptr_val p ∷ h ∷ [])) ∷ []) e
    (subst (λ (us : List Val). z.0.4.0 ≡ vstruct (of_list (ptr_val v.at ∷ (us ++ []))) ∷ []) ea (subst (λ (ps : List Val). z.0.4.0 ≡ vstruct (of_list (ps ++ (vss.1.0 ++ []))) ∷ []) ep ev)) in
    let typed = box.box_typed E h b o fits in
    suffices ! (Run (w ∷ [])) (subst (λ (us : List Val). ent 𝓤 (Run (w ∷ [])) (Run us)) (sym (λ i. ws i ++ [])) (id⊢ 𝓤 (Run (w ∷ [])))) $
    enter ! 𝓣.C 𝓣.Λ fn (w ∷ []) (W.post z) $ alloc_all ! (λ l. pass_all ! refl (typed, tt) $
    sets ! (of_opd ! (get_in ! (fld ! refl (stop !)) (sub ! 0 refl (whole !)))) refl (tt, tt) $ sets ! (of_opd ! (get_in ! (fld ! refl (stop !)) (sub ! 1 refl (whole !)))) refl fits $
    first ! $ blocks ! $ sets ! (of_opd ! (get ! refl)) refl (tt, tt) $
    let heap = heap_of (code.calls-std_heap::GlobalAllocator::allocate 𝓡.env wired) (code.calls-std_heap::GlobalAllocator::deallocate 𝓡.env wired)
    (code.calls-std_heap::GlobalAllocator::grow 𝓡.env wired) (code.calls-std_heap::GlobalAllocator::shrink 𝓡.env wired) (code.calls-dmf_c::Destruct++none::drop 𝓡.env wired) in
    boxes_last 𝓛 𝓜 𝓡 heap flag.X flag.LX ⊑_static ! (code.calls-std_alloc::boxed::Box::from_raw 𝓡.env wired) a h b o v.inside (λ i. and_then ! (get ! refl) (and_then ! (get ! refl) (no_more !))) (λ u r same good.
    lands_last ! refl good $ exec ! 𝓣.C 𝓣.Λ (env fn.locals l) (after 3 fn.body) (at_ret (env fn.locals l) (W.post z)) $ sets ! (of_opd ! (get ! refl)) refl good $
    returns ! (look_at ! 0 refl) $ free_all ! refl $ keep ! (0 ∷ []) $
    suffices ! _ (ends_at 𝓛 f.ended stayed c z u r (tt, tt) (tt, tt)) $ says ! same $ nothing ! $ nothing ! $ join ! $ nothing ! $ done !))))))))
