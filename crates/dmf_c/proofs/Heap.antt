-- The steps by which a walk takes a box on the heap apart, and makes one again, for a value of any type: the proofs by hand of both kinds of
-- handle, and of their slots, consist of these and of what is their own.
--     heap_of        the heap's functions, as the code of the walk's function calls them
--     boxes          a call of `Box::from_raw`: the memory of a value and the heap become a box.        boxes_last       the same where the call is the last of its part
--     takes_apart    a call of `Box::into_raw_with_allocator`: a box becomes the heap and the memory of its value
use Rattle.dmf_c.proofs.Steps.{◌≡◌, ◌∙◌, List, [], ◌∷◌, ◌++◌, refl, sym, ap, subst, Global, Ura, Dict, dnil, bare, Val, vptr, vstruct, of_list, full_share, never, fst∗, id⊢, ftrue, flft, Model, Wired, Logic, sem, ‵, raw, ◌⊛◌, some, later, ◌$◌, move, drop, split, split3, join, fsplit, fjoin, fpick, pick, use1, await, rewrite, feq_i, feq_l, ⊑_static, Running, tables, RawPtr, layout, Laws, RattleType, Ptr, block_ptr, null_ptr, ptr_val, in_a_block, nothing, only, calls_at, Lasts, lasts, triple_of, framed, handle_tells, box_out, box_in, box_owns, ghosts, dict}
use Prim.Native.Nat.{ℕ}
use mir.Syntax.{Place, Opd as Operand, Body, a_type, call, seq, dcons}
use base.Logic.{emp}
use base.Fml.{Lft}
use prog.Routine.{Env as Code}
use prog.Wp.{Env}
use types.Tokens.{lft_new}
use types.Kit.{Goal, Item, Post, Seq, Soaks, runs, lands, settles, use0}
use types.Run.{Opds}
use contract.Monad.{fact, fact_i}
use contract.BorrowLft.{◌⊑◌}
use contract.Running.{MachineTables}
use denote.Param.{bounded}
use denote.Param.Glue
use denote.Param.NoDrop
use denote.Steps.{heard}
use denote.Struct.Tuple.{Tuple}
use denote.Triple.Call.{calls_at_last}
use denote.Triple.Statement.{Contract, Triple}
use Rattle.std.proofs.alloc.Calls.{Fits}
use Rattle.std.proofs.cell.Inside.{Good}
use Rattle.std.proofs.BoxSteps.Form as box
use Rattle.std.proofs.impls.GlobalAllocator.TheImpl.Met.{passed}
use Rattle.std.specs.contracts.boxed.Box.from_raw as from_raw
use Rattle.std.proofs.boxed.Box.from_raw.Met as from_raw_met
use Rattle.std_alloc.specs.contracts.boxed.Box.from_raw.Key as from_raw_key
use Rattle.std_alloc.proofs.boxed.Box.from_raw.Symbol as from_raw_symbol
use Rattle.std.specs.contracts.boxed.Box.into_raw_with_allocator as into_raw
use Rattle.std.proofs.boxed.Box.into_raw_with_allocator.Met as into_raw_met
use Rattle.std_alloc.specs.contracts.boxed.Box.into_raw_with_allocator.Key as into_raw_key
use Rattle.std_alloc.proofs.boxed.Box.into_raw_with_allocator.Symbol as into_raw_symbol
use Rattle.std_heap.proofs.GlobalAllocator.allocate.Symbol as allocate_symbol
use Rattle.std_heap.proofs.GlobalAllocator.deallocate.Symbol as deallocate_symbol
use Rattle.std_heap.proofs.GlobalAllocator.grow.Symbol as grow_symbol
use Rattle.std_heap.proofs.GlobalAllocator.shrink.Symbol as shrink_symbol
use Rattle.dmf_c.proofs.Destruct++none.drop.Symbol as nothing_symbol
use Rattle.dmf_c.proofs.Destruct++none.drop.Code as nothing-dropped
use Rattle.dmf_c.proofs.Passed.{A, LA, drops, al}

pub record Heap (γ : Code) : Type 0 where
  pub allocate : Wired γ allocate_symbol.code
  pub deallocate : Wired γ deallocate_symbol.code
  pub grow : Wired γ grow_symbol.code
  pub shrink : Wired γ shrink_symbol.code
  pub no_drop : Wired γ nothing_symbol.code

pub heap_of : {γ : Code} → Wired γ allocate_symbol.code → Wired γ deallocate_symbol.code → Wired γ grow_symbol.code → Wired γ shrink_symbol.code → Wired γ nothing_symbol.code → Heap γ
heap_of a d g s n = record { allocate = a; deallocate = d; grow = g; shrink = s; no_drop = n }

-- X is the type of the value as a call passes it, and has no lifetime of its own.
module _ {M : Type 1} {𝓤 : Ura M} (𝓛 : Logic 𝓤) (𝓜 : Model 𝓤 𝓛.H) (𝓡 : Running 𝓤 𝓛.H 𝓜) (heap : Heap 𝓡.env) (X : RattleType) (LX : Laws X) (outlived : (ν : Lft) → ν ⊑ X.lives) where
  abbrev E : box.Bx
  E = record { row = X; laws = LX; al = al }

  abbrev 𝓣 : MachineTables 𝓤 𝓛.H 𝓜
  𝓣 = tables 𝓤 𝓛.H 𝓜 𝓡 𝓡.env

  abbrev B : RattleType
  B = box.B E

  abbrev Asked : Contract 𝓤
  Asked = triple_of 𝓛 (from_raw.signature X A ghosts dict drops) (from_raw.spec X A ghosts dict drops 𝓛 𝓜.mem 𝓡.returns)

  meets : Wired 𝓡.env from_raw_symbol.code → Triple 𝓤 (𝓣.C (from_raw_key.name (box.args E))) Asked
  unfolding nothing-dropped.code
  meets w =
      from_raw_met.met 𝓤 𝓛 𝓜 𝓡 w X A LX LA ghosts dict drops (passed 𝓡.env heap.allocate heap.deallocate heap.grow heap.shrink M 𝓤 𝓛 𝓜 𝓡)
      (NoDrop.glues "dmf_c::Destruct++none::drop" 𝓡.env heap.no_drop A LA M 𝓤 𝓛 𝓜 𝓡)

  -- a call of `Box::from_raw` at the block (b, o) of the value x, by the heap's handle a
  module _ (a : Global) (h : Val) (b o : ℕ) (x : X.Denot) where
    abbrev bound : ℕ → ℕ → Asked.Ghost
    bound α β = (((β ∷ [], (α ∷ [], tt)), (full_share, (full_share, tt)), tt, (a, (block_ptr b o, tt)), (h ∷ [], (vptr b o ∷ [], tt))), x)

    module _ {K : Type 0} {Γ : List (Item 𝓤)} {G : Goal 𝓤 𝓛.H} where
      asks : K → Soaks G → ((α β : ℕ) → Seq K 𝓛 (raw (Asked.pre (bound α β)) ∷ Γ) G)
          → Seq K 𝓛 (‵ (box_owns (ghosts.dealloc_token a) (box.R E) (block_ptr b o) x) ∷ ‵ (A.own_val a (h ∷ [])) ∷ Γ) G
      asks t soaks goes =
          lft_new t soaks (λ α. lft_new t soaks (λ β. let κ : Lft = α ∷ [] in let ν : Lft = β ∷ [] in
          nothing t $ move t (2 ∷ 0 ∷ []) $ join t $ move t (1 ∷ []) $ join t $
          use0 𝓛 (raw (fact 𝓤 (κ ⊑ A.lives))) (fact_i 𝓤 (κ ⊑ A.lives) (emp 𝓤) (⊑_static κ)) $ move t (2 ∷ []) $ move t (1 ∷ 0 ∷ []) $ join t $
          use0 𝓛 (raw (fact 𝓤 (ν ⊑ X.lives))) (fact_i 𝓤 (ν ⊑ X.lives) (emp 𝓤) (outlived ν)) $ join t $
          nothing t $ feq_i t (List Val) (vptr b o ∷ []) (vptr b o ∷ []) refl $ fjoin t $ move t (3 ∷ 0 ∷ []) $ fjoin t $ move t (2 ∷ 0 ∷ []) $ join t $ join t $
          use1 𝓛 (raw (Asked.pre (bound α β))) (id⊢ 𝓤 _) $ goes α β))

      gets : K → Soaks G → (α β : ℕ) (u : Val) → ((r : box.D E) → r.value ≡ x → Good (layout B) u → Seq K 𝓛 (‵ (B.own_val r (u ∷ [])) ∷ Γ) G) → Seq K 𝓛 (raw (Asked.post (bound α β) u) ∷ Γ) G
      gets t soaks α β u after =
          let called = from_raw.ended X A ghosts dict drops in let y = bound α β in
          use1 𝓛 (later (some (λ (r : B.Denot). ((‵ (flft (β ∷ []) full_share) ⊛ ‵ (flft (α ∷ []) full_share) ⊛ ‵ ftrue) ⊛ ‵ (B.own_val r (u ∷ []))) ⊛
          some (λ (ls : Lasts called y.0.0 y.0.3). ‵ (lasts called y.0.0 y.0.3 ls) ⊛ (raw (fact 𝓤 (r.value ≡ x)) ⊛ raw (fact 𝓤 (r.alloc ≡ a))))))) (id⊢ 𝓤 (Asked.post y u)) $
          await t soaks $ pick t (λ r. split t $ move t (1 ∷ []) $ pick t (λ _. split3 t $ drop t $ heard t (r.value ≡ x) (λ same. drop t $ split t $ move t (1 ∷ []) $
          box_out E t r (u ∷ []) (λ b' o' h' e' us fits. box_in E t r b' o' r.value e' refl $ rewrite t 0 (λ (vs : List Val). ‵ (B.own_val r vs)) (sym us) refl $
          move t (1 ∷ []) $ drop t $ after r same (subst (Good (layout B)) (sym (ap only us)) (box.box_typed E h' b' o' fits))))))

  module _ {K : Type 0} {Γ : List (Item 𝓤)} {En : Env 𝓤 𝓛.H} {q : Post 𝓤 𝓛.H} {d : Place} {xs : List Operand} where
    pub boxes_last : K → Wired 𝓡.env from_raw_symbol.code → (a : Global) (h : Val) (b o : ℕ) (x : X.Denot) → ((i : Item 𝓤) → Opds K 𝓛 (i ∷ Γ) En xs (h ∷ vptr b o ∷ []))
        → ((u : Val) (r : box.D E) → r.value ≡ x → Good (layout B) u → Seq K 𝓛 (‵ (B.own_val r (u ∷ [])) ∷ Γ) (settles En d u q))
        → Seq K 𝓛 (‵ (box_owns (ghosts.dealloc_token a) (box.R E) (block_ptr b o) x) ∷ ‵ (A.own_val a (h ∷ [])) ∷ Γ) (runs 𝓣.C 𝓣.Λ En (call (from_raw_key.name (box.args E)) xs d) q)
    boxes_last t w a h b o x opds after =
        asks a h b o x t tt (λ α β.
        calls_at_last t (framed 𝓤 𝓛.H 𝓜 𝓣) Asked (meets w) (bound a h b o x α β) (opds (raw (Asked.pre (bound a h b o x α β)))) (λ u. gets a h b o x t tt α β u (after u)))

    module _ {rest : Body} where
      pub boxes : K → Wired 𝓡.env from_raw_symbol.code → (a : Global) (h : Val) (b o : ℕ) (x : X.Denot) → ((i : Item 𝓤) → Opds K 𝓛 (i ∷ Γ) En xs (h ∷ vptr b o ∷ []))
          → ((u : Val) (r : box.D E) → r.value ≡ x → Good (layout B) u → Seq K 𝓛 (‵ (B.own_val r (u ∷ [])) ∷ Γ) (lands 𝓣.C 𝓣.Λ En d u rest q))
          → Seq K 𝓛 (‵ (box_owns (ghosts.dealloc_token a) (box.R E) (block_ptr b o) x) ∷ ‵ (A.own_val a (h ∷ [])) ∷ Γ) (runs 𝓣.C 𝓣.Λ En (seq (call (from_raw_key.name (box.args E)) xs d) rest) q)
      boxes t w a h b o x opds after =
          asks a h b o x t tt (λ α β.
          calls_at t (framed 𝓤 𝓛.H 𝓜 𝓣) Asked (meets w) (bound a h b o x α β) (opds (raw (Asked.pre (bound a h b o x α β)))) (λ u. gets a h b o x t tt α β u (after u)))

      pub takes_apart : K → (free : Dict) → Glue.Met 𝓛 𝓜 𝓡 𝓡.env X free → Wired 𝓡.env into_raw_symbol.code → (v : box.D E) (w : Val)
          → ((i : Item 𝓤) → Opds K 𝓛 (i ∷ Γ) En xs (w ∷ []))
          → ((b o : ℕ) (h u : Val) → u ≡ box.word E h b o → Fits al h
          → Seq K 𝓛 (‵ (A.own_val v.alloc (h ∷ [])) ∷ ‵ (box_owns (ghosts.dealloc_token v.alloc) (box.R E) (block_ptr b o) v.value) ∷ Γ) (lands 𝓣.C 𝓣.Λ En d u rest q))
          → Seq K 𝓛 (‵ ((box.B E).own_val v (w ∷ [])) ∷ Γ)
          (runs 𝓣.C 𝓣.Λ En (seq (call (into_raw_key.name (bounded (a_type ∷ a_type ∷ []) (X, (A, tt)) (dcons dict (dcons drops (dcons free dnil))))) xs d) rest) q)
      unfolding nothing-dropped.code
      takes_apart t free glue w' v w opds after =
          let a = v.alloc in
          lft_new t tt (λ α. lft_new t tt (λ β. let κ : Lft = α ∷ [] in let ν : Lft = β ∷ [] in
          nothing t $ move t (2 ∷ 0 ∷ []) $ join t $ move t (1 ∷ []) $ join t $ nothing t $ move t (2 ∷ 0 ∷ []) $ fjoin t $ move t (1 ∷ 0 ∷ []) $ join t $
          nothing t $ use0 𝓛 (raw (fact 𝓤 (κ ⊑ A.lives))) (fact_i 𝓤 (κ ⊑ A.lives) (emp 𝓤) (⊑_static κ)) $ join t $
          use0 𝓛 (raw (fact 𝓤 (ν ⊑ X.lives))) (fact_i 𝓤 (ν ⊑ X.lives) (emp 𝓤) (outlived ν)) $ join t $ move t (1 ∷ 0 ∷ []) $ join t $
          let k = triple_of 𝓛 (into_raw.signature X A ghosts dict drops free) (into_raw.spec X A ghosts dict drops free 𝓛 𝓜.mem 𝓡.returns) in
          let y : k.Ghost = (((ν, (κ, tt)), (full_share, (full_share, tt)), tt, (v, tt), (w ∷ [], tt)), tt) in
          let Pair = Tuple (RawPtr ∷ A ∷ []) in let called = into_raw.ended X A ghosts dict drops free in
          use1 𝓛 (raw (k.pre y)) (id⊢ 𝓤 _) $
          let allocator = passed 𝓡.env heap.allocate heap.deallocate heap.grow heap.shrink M 𝓤 𝓛 𝓜 𝓡 in
          let glued = NoDrop.glues "dmf_c::Destruct++none::drop" 𝓡.env heap.no_drop A LA M 𝓤 𝓛 𝓜 𝓡 in
          calls_at t (framed 𝓤 𝓛.H 𝓜 𝓣) k (into_raw_met.met 𝓤 𝓛 𝓜 𝓡 w' X A LX LA ghosts dict drops free allocator glued glue) y (opds (raw (k.pre y))) (λ u.
          use1 𝓛 (later (some (λ (r : Ptr × A.Denot). ((‵ (flft ν full_share) ⊛ ‵ (flft κ full_share) ⊛ ‵ ftrue) ⊛ ‵ (Pair.own_val r (u ∷ []))) ⊛
          some (λ (ls : Lasts called y.0.0 y.0.3). ‵ (lasts called y.0.0 y.0.3 ls) ⊛ (raw (fact 𝓤 (r.1 ≡ a)) ⊛ ‵ (box_owns (ghosts.dealloc_token a) (box.R E) r.0 v.value)))))) (id⊢ 𝓤 (k.post y u)) $
          await t tt $ pick t (λ r. split t $ move t (1 ∷ []) $ pick t (λ _. split3 t $ drop t $ heard t (r.1 ≡ a) (λ same.
          in_a_block t r.0 (λ p. box_owns (ghosts.dealloc_token a) (box.R E) p v.value)
          (fst∗ 𝓤 (never 𝓤) (sem 𝓛 (ghosts.dealloc_token a (bare (layout X)) null_ptr))) (λ b o e.
          -- [the memory; the tokens with the pair]
          move t (1 ∷ []) $ split t $ drop t $ fpick t (λ vss. fsplit t $ feq_l t (λ eu. fsplit t $ feq_l t (λ ep. fsplit t $
          rewrite t 0 (λ (s : A.Denot). ‵ (A.own_val s vss.1.0)) same refl $ handle_tells al t a vss.1.0 (λ h eh fits. move t (1 ∷ []) $ drop t $
          after b o h u (ap only (eu ∙ (λ j. vstruct (of_list ((ep ∙ ap (λ (p : Ptr). ptr_val p ∷ []) e) j ++ (eh j ++ []))) ∷ []))) fits)))))))))))
