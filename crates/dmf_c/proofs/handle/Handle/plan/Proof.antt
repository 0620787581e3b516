-- `plan` lends what the handle owns.
use Rattle.dmf_c.proofs.Steps.{◌≡◌, ℕ, List, [], ◌∷◌, refl, sym, ap, ◌∙◌, Ura, full_share, ent, sep, never, fst∗, id⊢, Fml, GName, ftrue, fsep, flft, named, Val, vptr, bare, Logic, sem, ‵, raw, ◌⊛◌, some, later, at_ret, ◌$◌, ◌∵◌, !, qed, done, move, keep, use1, split, join, fsplit, fsplit3, fjoin, fpack, pick, await, rewrite, split3, suffices, frame, group, whole, sub, look_in, enter, of_opd, addr, load, stop, fld, first, blocks, exec, returns, alloc_all, pass_all, free_all, look_at, get, through, sets, sets_last, env, tables, no, follows, Part, lends_Part, shows, mem, cell_at, part_at, lone, part_of, Ptr, block_ptr, null_ptr, in_a_block, MutBor, MutRef, mut_vals, mut_Tells, plain, mut_ref_to, nothing, opens, peeks, says, Stays, stay_dropped, walk_of, ends_at, Goes-spent_ref, box_owns, ghosts, proved}
use Rattle.std.proofs.VecSteps.Shapes.{after}
use Rattle.dmf_c.specs.contracts.plan.Plan.{the_row as T}
use Rattle.dmf_c.specs.declared.handle.Handle.{Handle}
use Rattle.dmf_c.specs.contracts.handle.Handle.{the_row as R}
use Rattle.dmf_history.specs.Timeline.{Timeline}
use Rattle.dmf_c.specs.Handle.{with_timeline}
use Rattle.dmf_c.proofs.handle.Handle.TheLaws.{lowers}
use Rattle.dmf_c.specs.contracts.handle.Handle.plan as f
use Rattle.dmf_c.proofs.handle.Handle.plan.Statement.{statement}
use Rattle.dmf_c.proofs.handle.Handle.plan.Code as code

-- what a struct's fields own, the first half of what it owns
abbrev fields_of : Fml → Fml
fields_of (fsep P Q) = P
fields_of F = F

module _ {M : Type 1} {𝓤 : Ura M} (𝓛 : Logic 𝓤) (h : Handle) (us : List Val) (b o b' o' : ℕ) where
  -- all of the handle but the value behind it
  abbrev Rest : Fml
  Rest = fsep (fsep (ghosts.dealloc_token h.alloc (bare (lone T.mir)) (block_ptr b' o')) (fields_of (R.own_val h us))) (cell_at full_share R.mir us b o)

  back : h.at ≡ block_ptr b' o' → (w : T.Denot) → ent 𝓤 (sep 𝓤 (sem 𝓛 ((mem T).own_at w b' o')) (sem 𝓛 Rest)) (sem 𝓛 ((mem R).own_at (with_timeline h w) b o))
  unfolding part_of
  back e w =
      qed 𝓛 (‵ (part_at T full_share w b' o') ∷ ‵ Rest ∷ []) ∵ move ! (1 ∷ []) $ fsplit ! $ fsplit ! $ move ! (3 ∷ 0 ∷ []) $ fjoin ! $
      rewrite ! 0 (λ (p : Ptr). ‵ (box_owns (ghosts.dealloc_token h.alloc) T p w)) (sym e) refl $ move ! (1 ∷ []) $ fjoin ! $ move ! (1 ∷ []) $ fjoin ! $
      fpack ! (List Val) (λ vs. fsep (cell_at full_share R.mir vs b o) (R.own_val (with_timeline h w) vs)) us $ done !

abbrev stayed : Stays f.ended.signature.params f.ended.kept
stayed = (stay_dropped (mut_ref_to (0 ∷ []) tt (plain (λ _. R))) no, tt)

pub plan_spec : {M : Type 1} → statement M
plan_spec 𝓤 𝓛 𝓜 𝓡 wired =
    let c = f.clauses 𝓛 𝓜.mem 𝓡.returns in let W = walk_of 𝓛 f.ended stayed c in let 𝓣 = tables 𝓤 𝓛.H 𝓜 𝓡 𝓡.env in
    proved 𝓛 f.ended stayed c 𝓜 𝓡 (Goes-spent_ref 𝓛 1 (0 ∷ []) tt (plain (λ _. R)), tt)
    f.Key.name code.function (code.unfolded 𝓤 𝓛.H 𝓜 𝓡 wired)
    (λ κs. (mut_vals, tt)) (λ κs. (mut_Tells (named 0) κs.0 R, tt)) (λ κs qs bounds a _ are.
    let b = a.0.ref_ptr.0 in let o = a.0.ref_ptr.1 in let h = a.0.now in let vs = mut_vals a.0 in let γ = a.0.ghost_name in
    let y : W.Ghost = ((κs, qs, bounds, a, (vs, tt)), tt) in
    qed 𝓛 (((‵ (flft κs.0 qs.0) ⊛ ‵ ftrue) ⊛ ‵ ((MutRef (named 0) κs.0 R).own_val a.0 vs) ⊛ ‵ ftrue) ∷ ‵ ftrue ∷ []) ∵
    split ! $ split ! $ move ! (2 ∷ []) $ split ! $ keep ! (0 ∷ 2 ∷ []) $
    enter ! _ _ _ _ _ $ alloc_all ! (λ l. pass_all ! refl ((tt, tt), tt) $
    fsplit3 ! $ move ! (1 ∷ 2 ∷ 3 ∷ []) $ opens ! tt R b o (λ us.
    move ! (1 ∷ []) $ peeks ! R _ (shows 𝓛 R) h us (λ is. fsplit ! $ move ! (1 ∷ []) $
    in_a_block ! h.at (λ p. box_owns (ghosts.dealloc_token h.alloc) T p h.timeline)
    (fst∗ 𝓤 (never 𝓤) (sem 𝓛 (ghosts.dealloc_token h.alloc (bare (lone T.mir)) null_ptr))) (λ b' o' e. fsplit ! $
    -- [the value; the right to its block; the fields; the struct's cell; the open borrow, in three entries; the locals]
    let word = lowers.val_is h us is ∙ ap (λ (p : Ptr). lowers.lowered (record h { at = p }) ∷ []) e in
    let Cell = λ (ws : List Val). ‵ (cell_at full_share R.mir ws b o) in
    rewrite ! 3 Cell word refl $
    first ! $ blocks ! $
    sets ! (of_opd ! (load ! (through ! refl (fld ! refl (stop !))) (look_in ! 3 (sub ! 0 refl (whole !))))) refl (tt, tt) $
    sets ! (of_opd ! (get ! refl)) refl (tt, tt) $
    sets_last ! (addr ! (through ! refl (stop !))) refl (tt, tt) $
    exec ! 𝓣.C 𝓣.Λ (env code.Mir.locals l) (after 1 (code.function).body) (at_ret _ (W.post y)) $
    sets ! (of_opd ! (get ! refl)) refl (tt, tt) $
    rewrite ! 3 Cell (sym word) refl $
    move ! (1 ∷ 2 ∷ 3 ∷ []) $ fjoin ! $ fjoin ! $ move ! (2 ∷ 3 ∷ 4 ∷ 1 ∷ 0 ∷ []) $ group ! 5 $
    use1 𝓛 (later (some (λ (γ' : GName). raw (Part 𝓛 R T (with_timeline h) (named 0) κs.0 qs.0 b o b' o' γ (sem 𝓛 (Rest 𝓛 h us b o b' o')) (back 𝓛 h us b o b' o' e) h.timeline γ'))))
    (lends_Part 𝓛 R T (with_timeline h) (named 0) κs.0 qs.0 b o b' o' γ (sem 𝓛 (Rest 𝓛 h us b o b' o')) (back 𝓛 h us b o b' o' e) (R.coded.code h) (R.coded.code h) h.timeline) $
    await ! tt $ pick ! (λ γ'.
    returns ! (look_at ! 0 refl) $ free_all ! refl $ keep ! (0 ∷ []) $
    let r : MutBor Timeline = record { ref_ptr = (b', o'); ghost_name = γ'; now = h.timeline } in
    use1 𝓛 (‵ ((MutRef (named 0) κs.0 T).own_val r (vptr b' o' ∷ [])) ⊛ ‵ (flft κs.0 qs.0) ⊛ ‵ (follows R T γ γ' (with_timeline h))) (id⊢ 𝓤 _) $ split3 ! $
    suffices ! _ (ends_at 𝓛 f.ended stayed c y (vptr b' o') r (tt, tt) (tt, tt)) $
    nothing ! $ nothing ! $ fjoin ! $ join ! $ nothing ! $ move ! (2 ∷ 0 ∷ []) $ join ! $ join ! $ frame ! $ says ! refl $ done !))))))
