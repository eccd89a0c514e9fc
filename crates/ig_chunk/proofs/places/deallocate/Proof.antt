-- `deallocate` makes one room of the places, and hands it back.
use Rattle.std.proofs.Common.{◌≡◌, ℕ, ◌*◌, ◌<◌, ◌^◌, List, [], ◌∷◌, T, refl, sym, ap, subst, arith, w64}
use mir.Syntax.{Ty, named, ty_unit}
use mir.Val.{Val, vunit, vint, vptr, has_ty, WT}
use mir.MapTy.{inst_fn}
use base.Logic.{SProp, never, id⊢}
use base.Fml.{Fml, Lft, Share, Incl-trans, ftrue, fsep, froom, flft}
use prog.Memory.{align, capped}
use prog.Capped.{capped_fits}
use types.Kit.{‵, raw, ◌⊛◌, given, later, at_ret, ◌$◌, ◌∵◌, !, qed, by, move, keep, use1, group, split, join, await, learn, fsplit, fsplit3, fjoin, feq_i, flt_l, rewrite}
use types.Run.{stop, fld, unit_lit, size_word, align_word, of_opd, bin, no_more, and_then, first, blocks, exec, returns, enter}
use types.ByLocal.{alloc_all, pass_all, free_all, look_at, get, get_in, sets, lands_last, is, env}
use types.Part.{sub, whole}
use contract.BorrowLft.{◌⊑◌}
use contract.Running.{tables}
use contract.Monad.{fact}
use denote.Exit.{yes, no}
use denote.RattleType.{RattleType, owns}
use denote.Signature.{types_at, plain}
use denote.RawPtr.{Ptr, block_ptr, ptr_val, in_block, in_a_block}
use denote.Steps.{nothing, heard}
use denote.Builtin.{RefOf, usize}
use denote.Ref.{shr_vals, shr_Tells}
use denote.Plain.{uint_vals, uint_Tells}
use denote.Triple.Call.{calls_at_last}
use denote.Triple.Walked.{Stays, stay_dropped, walk_of, Goes-dropped}
use Rattle.std.proofs.raw_atomic.Walks.{proved, leaves}
use Rattle.core.specs.Allocator.{block_with_items}
use Rattle.core.proofs.alloc.Calls.{Gives, at_gives, Gives-goes, Gives-Gives, Goes-blank}
use Rattle.core.proofs.alloc.Shapes.{after}
use Rattle.core.proofs.atomic.Steps.{fm}
use Rattle.std_alloc.proofs.RcSteps.{word, word-Good}
use Rattle.std_alloc.proofs.VecSteps.El.{El, el_x, elτ, R, P, sz, args}
use Rattle.ig_chunk.specs.Holdings.{places_owned}
use Rattle.ig_chunk.specs.contracts.places.deallocate as f
use Rattle.ig_chunk.specs.contracts.places.deallocate.Key.{name as #self}
use Rattle.ig_chunk.proofs.Blocks.{PlacesOf, StartOf, mark, mark_told, start_told, block_ty, block_size, block_align, old_block, uncapped}
use Rattle.ig_chunk.proofs.places.deallocate.Statement.{statement}
use Rattle.ig_chunk.proofs.places.deallocate.Code as code

pub deallocate_spec : {M : Type 1} → statement M
deallocate_spec 𝓤 𝓛 𝓜 𝓡 wired X A L K g d dd met md =
    let H = 𝓛.H in let 𝓣 = tables 𝓤 H 𝓜 𝓡 𝓡.env in
    let E : El = record { row = X; laws = L; al = record { row = A; laws = K; g = g; d = d; drops = dd } } in
    let Pl : RattleType = PlacesOf E in let St : RattleType = StartOf E in
    let En = f.ended X A g d dd in let c = f.clauses X A g d dd 𝓛 𝓜.mem 𝓡.returns in let fn = inst_fn (args E) code.function in
    let handle = RefOf (0 ∷ []) tt (plain (λ _. P E)) (λ _. tt) in
    let hs : Stays En.signature.params En.kept = (stay_dropped handle yes, (stay_dropped (plain (λ _. St)) no, (stay_dropped (plain (λ _. usize)) yes, (stay_dropped (plain (λ _. Pl)) no, tt)))) in
    proved 𝓛 En hs c 𝓜 𝓡 (Goes-dropped 𝓛 3 handle yes (λ κs x w. refl), (Goes-dropped 𝓛 3 (plain (λ _. St)) no (λ κs x w. refl), (Goes-dropped 𝓛 3 (plain (λ _. usize)) yes (λ κs x w. refl), (Goes-blank 𝓛 3 (plain (λ _. Pl)) no (λ κs x w. tt), tt))))
    (#self (args E)) fn (code.unfolded 𝓤 H 𝓜 𝓡 wired (X, (A, tt)) d dd)
    (λ κs. (shr_vals, ((λ x. word x.ptr ∷ []), (uint_vals w64, ((λ x. mark ∷ []), tt))))) (λ κs. (shr_Tells (named 0) κs.0 (P E), (start_told E, (uint_Tells w64, ((λ x vs is. mark_told E vs is.0), tt))))) (λ κs qs bounds a gh are.
    let hp : ℕ × ℕ = a.0.ref_ptr in let heap : A.Denot = a.0.now in let p : Ptr = a.1.0.ptr in let n : ℕ = a.1.1.0 in let h : Pl.Denot = a.1.1.1.0 in
    let s : ℕ = n * sz E in let κ : Lft = κs.0 in let q : Share = qs.0 in let token : Ty → Ptr → Fml = g.dealloc_token heap in
    let y : (walk_of 𝓛 En hs c).Ghost = ((κs, qs, bounds, a, (vptr hp.0 hp.1 ∷ [], (word p ∷ [], (vint w64 n ∷ [], (mark ∷ [], tt))))), gh) in
    let Post : Val → SProp 𝓤 = (walk_of 𝓛 En hs c).post y in
    let others : Fml = fsep (flft κs.1.0 qs.1.0) (fsep (flft κs.1.1.0 qs.1.1.0) ftrue) in
    let Asked : Type 0 = (h.at ≡ p) × (h.count ≡ n) × (h.values ≡ []) × (h.alloc ≡ heap) in
    qed 𝓛 (((‵ (flft κ q) ⊛ ‵ others) ⊛ ‵ (owns (types_at En.signature.params κs) a y.0.4)) ∷ raw (fact 𝓤 _) ∷ raw (fact 𝓤 (κs.1.1.0 ⊑ A.lives)) ∷ raw (fact 𝓤 Asked) ∷ []) ∵
    keep ! (2 ∷ 3 ∷ 0 ∷ []) $ heard ! (κs.1.1.0 ⊑ A.lives) (λ inside. heard ! Asked (λ asked. split ! $ split ! $ move ! (2 ∷ []) $ fsplit3 ! $
    fsplit ! $ move ! (3 ∷ []) $ fsplit3 ! $ move ! (1 ∷ []) $ fsplit ! $ keep ! (1 ∷ 5 ∷ 7 ∷ 8 ∷ []) $
    -- [what the places own; the allocator; the token of its lifetime; the other tokens]
    rewrite ! 0 (λ (u : A.Denot × Ptr × ℕ × List (el_x E)). ‵ (places_owned (g.dealloc_token u.0) (R E) u.1 u.2 u.3)) (λ i. (asked.3 i, asked.0 i, asked.1 i, asked.2 i)) refl $
    fsplit ! $ flt_l ! (λ few.
    in_a_block ! p (λ u. in_block u (block_with_items token (R E) u 0 n [])) (id⊢ 𝓤 (never 𝓤)) (λ b o e. let small : s < 2 ^ 64 = omega (arith, few) in
    let al : ℕ = capped (align (elτ E)) in let τ : Ty = block_ty E n in let Asks = Gives E.al 𝓛 𝓜.mem 𝓡.returns in
    let w : Asks.Ghost = at_gives E.al 𝓛 𝓜.mem 𝓡.returns κ q hp heap b o s al τ in
    use1 𝓛 (‵ (froom τ b o) ⊛ ‵ (token τ (block_ptr b o))) (old_block E 𝓛 token b o n) $ split ! $
    enter ! 𝓣.C 𝓣.Λ fn (vptr hp.0 hp.1 ∷ word p ∷ vint w64 n ∷ mark ∷ []) Post $
    alloc_all ! (λ l. pass_all ! refl ((tt, tt), (word-Good [] p, ((tt, record { fits = are.1.1.0.1 }), ((tt, (tt, tt)), tt)))) $
    let Ev = env fn.locals l in first ! $ blocks ! $
    sets ! (is ! (of_opd ! (get_in ! (fld ! refl (stop !)) (sub ! 0 refl (whole !)))) (ap ptr_val e)) refl (tt, tt) $
    sets ! (is ! (bin ! (get ! refl) (size_word !) (record { fits = subst (λ (k : ℕ). k < 2 ^ 64) (sym (uncapped n (sz E) small)) small })) (ap (vint w64) (uncapped n (sz E) small))) refl (tt, record { fits = small }) $
    group ! 4 $
    use1 𝓛 (raw (Asks.pre w)) (Gives-goes E.al 𝓛 𝓜.mem 𝓡.returns κ q hp heap (Incl-trans bounds.0 inside) b o s al τ (block_size E n small) (block_align E n) small (capped_fits (align (elτ E)))) $
    calls_at_last ! (fm 𝓛 𝓜 𝓡) Asks (met.deallocate dd) w (and_then ! (get ! refl) (and_then ! (get ! refl) (and_then ! (get ! refl) (and_then ! (align_word !) (no_more !))))) (λ u.
    use1 𝓛 (later (given (u ≡ vunit) (‵ (flft κ q)))) (Gives-Gives E.al 𝓛 𝓜.mem 𝓡.returns κ q hp heap b o s al τ u) $ await ! tt $ learn ! (λ is_unit.
    lands_last ! refl (subst (λ (z : Val). T (has_ty ty_unit z) × WT z) (sym is_unit) (tt, tt)) $
    exec ! 𝓣.C 𝓣.Λ Ev (after 1 fn.body) (at_ret Ev Post) $ sets ! (of_opd ! (unit_lit !)) refl (tt, tt) $
    join ! $ nothing ! $ feq_i ! (List Val) (vunit ∷ []) (vunit ∷ []) refl $ nothing ! $ nothing ! $ fjoin ! $ nothing ! $ fjoin ! $ nothing ! $
    fjoin ! $ nothing ! $ fjoin ! $
    returns ! (look_at ! 0 refl) $ free_all ! refl $ keep ! (3 ∷ 0 ∷ 1 ∷ 2 ∷ []) $
    by ! (leaves 𝓛 En hs c y vunit tt (tt, (tt, (tt, (tt, tt)))) (tt, (tt, (tt, (tt, tt)))))))))))))
