-- `dmf_stop_free` does nothing at NULL, and else frees the stop.
use Rattle.dmf_c.proofs.Steps.{List, [], ◌∷◌, refl, ap, lit<, Global, bare, Val, vunit, ent, via, snd∗, id⊢, ftrue, WpFn, sem, done, group, at_ret, ‵, raw, ◌⊛◌, some, later, ◌$◌, ◌∵◌, !, qed, drop, split, join, pick, suffices, use1, await, feq_i, feq_l, of_opd, unit_lit, no_more, and_then, bin, lit, first, branches, skips, exec, returns, returns_within, enter, alloc_all, pass_all, free_all, look_at, get, sets, lands_as, env, fact_use, tables, tables_of, yes, RawPtr, unit, lone, Ptr, block_ptr, null_ptr, Testable, tests_null, rawptr_vals, rawptr_Tells, plain, nothing, only, calls_at, Lasts, lasts, on_entry, triple_of, framed, Stays, stay_dropped, walk_of, Goes-dropped, ends_at, points_to, proved, dealloc_token-Testable, ghosts, G, move, keep, split3, fjoin, ⊑_static}
use Rattle.std.proofs.alloc.Global.TheLaws as heap
use Rattle.dmf_c.specs.Stop.{owns_stop}
use Rattle.dmf_c.specs.contracts.stop.Stop.{the_row as T}
use Rattle.dmf_c.specs.contracts.stopping.closed_stop as closing
use Rattle.dmf_c.proofs.stopping.closed_stop.Met as closing_met
use Rattle.dmf_c.proofs.Heap.{heap_of, boxes}
use Rattle.dmf_c.proofs.StopGlue as stops
use Rattle.dmf_c.proofs.Destruct++none.drop.Code as nothing-dropped
use Rattle.dmf_c.specs.contracts.stopping.dmf_stop_free as f
use Rattle.dmf_c.proofs.stopping.dmf_stop_free.Statement.{statement}
use Rattle.dmf_c.proofs.stopping.dmf_stop_free.Code as code

abbrev stayed : Stays f.ended.signature.params f.ended.kept
stayed = (stay_dropped (plain (λ _. G)) yes, (stay_dropped (plain (λ _. RawPtr)) yes, tt))

pub dmf_stop_free_spec : {M : Type 1} → statement M
unfolding tables_of nothing-dropped.code
dmf_stop_free_spec {M} 𝓤 𝓛 𝓜 𝓡 wired =
    let c = f.clauses 𝓛 𝓜.mem 𝓡.returns in let W = walk_of 𝓛 f.ended stayed c in let 𝓣 = tables 𝓤 𝓛.H 𝓜 𝓡 𝓡.env in let fn = code.function in
    proved 𝓛 f.ended stayed c 𝓜 𝓡 (Goes-dropped 𝓛 0 (plain (λ _. G)) yes (λ κs x w. refl), (Goes-dropped 𝓛 0 (plain (λ _. RawPtr)) yes (λ κs x w. refl), tt))
    f.Key.name fn (code.unfolded 𝓤 𝓛.H 𝓜 𝓡 wired)
    (λ κs. ((λ (d : Global). heap.lowers.lowered d ∷ []), (rawptr_vals, tt))) (λ κs. (heap.lowers.val_is, (rawptr_Tells, tt))) (λ κs qs bounds a g are.
    let al₀ = a.0 in let gv : Val = heap.lowers.lowered al₀ in
    let y : Ptr → W.Ghost = λ p. ((κs, qs, bounds, (al₀, (p, tt)), (gv ∷ [], (rawptr_vals p, tt))), g) in
    elim (a.1.0) as (λ p. ent 𝓤 (W.pre (y p)) (WpFn 𝓤 𝓛.H 𝓣.C 𝓣.Λ fn (gv ∷ rawptr_vals p) (W.post (y p)))) [
      | null_ptr ↦
          qed 𝓛 (raw (on_entry 𝓛 f.signature κs qs (al₀, (null_ptr, tt)) (y null_ptr).0.4) ∷ ‵ ftrue ∷ []) ∵ drop ! $ drop ! $
          enter ! _ _ _ _ _ $ alloc_all ! (λ l. pass_all ! refl ((tt, ((tt, tt), tt)), ((tt, record { fits = lit< tt }), tt)) $
          sets ! (bin ! (get ! refl) (lit ! tt) (tests_null null_ptr (lit< tt))) refl (tt, tt) $
          first ! $ branches ! (get ! refl)
          (λ t. sets ! (of_opd ! (unit_lit !)) refl (tt, tt) $ returns_within ! (W.post (y null_ptr)) refl (look_at ! 0 refl) $ free_all ! refl $
          suffices ! _ (ends_at 𝓛 f.ended stayed c (y null_ptr) vunit tt (tt, (tt, tt)) (tt, (tt, tt))) $
          nothing ! $ feq_i ! (List Val) (vunit ∷ []) (vunit ∷ []) refl $ nothing ! $ nothing ! $ join ! $ nothing ! $ join ! $ nothing ! $ group ! 3 $ done !)
          (λ t. absurd t))
      | block_ptr b o ↦
          let p : Ptr = block_ptr b o in let entry = on_entry 𝓛 f.signature κs qs (al₀, (p, tt)) (y p).0.4 in let block = bare (lone T.mir) in
          let testable = via 𝓤 (sem 𝓛 (owns_stop p g)) (snd∗ 𝓤 entry (sem 𝓛 (owns_stop p g)))
          (via 𝓤 (sem 𝓛 (ghosts.dealloc_token g.alloc block p)) (snd∗ 𝓤 (sem 𝓛 (points_to T p g)) (sem 𝓛 (ghosts.dealloc_token g.alloc block p)))
          (dealloc_token-Testable 𝓛 g.alloc block p)) in
          fact_use 𝓤 (Testable p) testable (λ may.
          qed 𝓛 ((‵ ftrue ⊛ ‵ (G.own_val al₀ (gv ∷ [])) ⊛ ‵ (RawPtr.own_val p (rawptr_vals p)) ⊛ ‵ ftrue) ∷ ‵ (owns_stop p g) ∷ []) ∵
          split3 ! $ keep ! (1 ∷ 3 ∷ []) $ move ! (1 ∷ []) $
          enter ! _ _ _ _ _ $ alloc_all ! (λ l. pass_all ! refl ((tt, ((tt, tt), tt)), ((tt, tt), tt)) $
          sets ! (bin ! (get ! refl) (lit ! tt) (tests_null p may)) refl (tt, tt) $
          first ! $ branches ! (get ! refl) (λ t. absurd t)
          (λ t. skips ! $ exec ! 𝓣.C 𝓣.Λ (env code.Mir.locals l) code.Mir.t-3 (at_ret (env code.Mir.locals l) (W.post (y p))) $
          let heap = heap_of (code.calls-std_heap::GlobalAllocator::allocate 𝓡.env wired) (code.calls-std_heap::GlobalAllocator::deallocate 𝓡.env wired)
          (code.calls-std_heap::GlobalAllocator::grow 𝓡.env wired) (code.calls-std_heap::GlobalAllocator::shrink 𝓡.env wired) (code.calls-dmf_c::Destruct++none::drop 𝓡.env wired) in
          boxes 𝓛 𝓜 𝓡 heap stops.X stops.LX ⊑_static ! (code.calls-std_alloc::boxed::Box::from_raw 𝓡.env wired) al₀ gv b o g (λ i. and_then ! (get ! refl) (and_then ! (get ! refl) (no_more !))) (λ u r same good.
          lands_as ! refl refl good $
          -- the box is dropped
          let m = triple_of 𝓛 closing.signature (closing.spec 𝓛 𝓜.mem 𝓡.returns) in
          let x : m.Ghost = ((tt, tt, tt, (r, tt), (u ∷ [], tt)), tt) in
          nothing ! $ move ! (1 ∷ 0 ∷ []) $ fjoin ! $ nothing ! $ join ! $ nothing ! $ move ! (1 ∷ 0 ∷ []) $ join ! $ use1 𝓛 (raw (m.pre x)) (id⊢ 𝓤 _) $
          calls_at ! (framed 𝓤 𝓛.H 𝓜 𝓣) m (closing_met.met 𝓤 𝓛 𝓜 𝓡 (code.calls-dmf_c::stopping::closed_stop 𝓡.env wired)) x (and_then ! (get ! refl) (no_more !)) (λ v.
          use1 𝓛 (later (some (λ (q : Unit {0}). (‵ ftrue ⊛ ‵ (unit.own_val q (v ∷ []))) ⊛ some (λ (ls : Lasts closing.ended x.0.0 x.0.3). ‵ (lasts closing.ended x.0.0 x.0.3 ls) ⊛ ‵ ftrue))))
          (id⊢ 𝓤 (m.post x v)) $
          await ! tt $ pick ! (λ q. split ! $ split ! $ drop ! $ feq_l ! (λ is_unit. lands_as ! (ap only is_unit) refl (tt, tt) $
          sets ! (of_opd ! (unit_lit !)) refl (tt, tt) $ returns ! (look_at ! 0 refl) $ free_all ! refl $ keep ! [] $
          suffices ! _ (ends_at 𝓛 f.ended stayed c (y p) vunit tt (tt, (tt, tt)) (tt, (tt, tt))) $
          nothing ! $ feq_i ! (List Val) (vunit ∷ []) (vunit ∷ []) refl $ nothing ! $ nothing ! $ join ! $ nothing ! $ join ! $ nothing ! $ group ! 3 $ done !)))))))
    ])
