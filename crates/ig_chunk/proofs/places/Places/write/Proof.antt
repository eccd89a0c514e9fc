-- `write` puts the value into the first of the room.
use Rattle.std.proofs.Common.{◌≡◌, ℕ, ◌+◌, ◌-◌, ◌*◌, ◌<◌, ◌^◌, List, [], ◌∷◌, ◌++◌, length, length-append, refl, sym, ap, ◌∙◌, subst, w64}
use mir.Syntax.{Ty, ty_array}
use mir.Val.{Val, vunit, vint, vptr}
use mir.MapTy.{inst_fn}
use base.Fraction.{full_share}
use base.Logic.{SProp, ent, emp, never, id⊢}
use base.Fml.{Fml, ftrue, fsep, fat, froom, flft}
use prog.Wp.{WpFn}
use types.Kit.{‵, raw, ◌⊛◌, at_ret, ◌$◌, ◌∵◌, !, qed, by, move, keep, use0, use1, use2, split, join, fsplit, fsplit3, fjoin, fjoin3, feq_i, flt_l, flt_i, rewrite, suffices}
use types.Run.{stop, fld, unit_lit, size_lit, of_opd, bin, init, first, blocks, exec, returns, enter, assigns_last}
use types.ByLocal.{alloc_all, pass_all, free_all, look_at, get, get_in, through, sets, take_at, give_at, env}
use types.Part.{sub, whole}
use contract.Running.{tables}
use contract.Monad.{fact, fact_i}
use denote.Exit.{yes, no}
use denote.RattleType.{RattleType, owns}
use denote.Memory.{part_at}
use denote.Array.{Array}
use denote.Param.{layout}
use denote.Signature.{types_at, plain}
use denote.RawPtr.{Ptr, block_ptr, in_block, in_a_block}
use denote.Steps.{nothing, heard, opens, closes}
use denote.Builtin.{usize}
use denote.Triple.Walked.{Stays, stay_dropped, stay_ref, walk_of, Goes-dropped, Goes-ref}
use Rattle.std.proofs.raw_atomic.Walks.{proved_at, leaves}
use Rattle.core.specs.Allocator.{block_with_items}
use Rattle.core.proofs.alloc.Shapes.{after}
use Rattle.core.proofs.cell.Inside.{one}
use Rattle.std_alloc.proofs.RcSteps.{word, word-Good}
use Rattle.std_alloc.proofs.VecSteps.El.{El, el_x, elτ, el_lawful, R, sz, args}
use Rattle.std_alloc.proofs.VecSteps.Rows.{el_in, spare, snoc}
use Rattle.ig_chunk.specs.Lent.{with_values}
use Rattle.ig_chunk.specs.contracts.places.Places.write as f
use Rattle.ig_chunk.specs.contracts.places.Places.write.Key.{name as #self}
use Rattle.ig_chunk.proofs.Blocks.{PlacesOf, StartOf, start_told, block_out, block_in, below}
use Rattle.ig_chunk.proofs.places.Places.write.Statement.{statement}
use Rattle.ig_chunk.proofs.places.Places.write.Code as code

pub write_spec : {M : Type 1} → statement M
write_spec 𝓤 𝓛 𝓜 𝓡 wired T A L K g d dd met md =
    let H = 𝓛.H in let 𝓣 = tables 𝓤 H 𝓜 𝓡 𝓡.env in
    let E : El = record { row = T; laws = L; al = record { row = A; laws = K; g = g; d = d; drops = dd } } in
    let Pl : RattleType = PlacesOf E in let St : RattleType = StartOf E in let s : ℕ = sz E in
    let En = f.ended T A g d dd in let c = f.clauses T A g d dd 𝓛 𝓜.mem 𝓡.returns in let fn = inst_fn (args E) code.function in
    let hs : Stays En.signature.params En.kept = (stay_ref (0 ∷ []) tt (plain (λ _. Pl)), (stay_dropped (plain (λ _. St)) no, (stay_dropped (plain (λ _. usize)) yes, (stay_dropped (plain (λ _. R E)) no, tt)))) in
    proved_at 𝓛 En hs c 𝓜 𝓡 (Goes-ref 𝓛 3 0 tt (plain (λ _. Pl)), (Goes-dropped 𝓛 3 (plain (λ _. St)) no (λ κs x w. refl), (Goes-dropped 𝓛 3 (plain (λ _. usize)) yes (λ κs x w. refl), (Goes-dropped 𝓛 3 (plain (λ _. R E)) no (λ κs x w. refl), tt))))
    (#self (args E)) fn (code.unfolded 𝓤 H 𝓜 𝓡 wired (T, (A, tt)) d dd) (λ y are.
    let κs = y.0.0 in let qs = y.0.1 in let a = y.0.3 in let vss = y.0.4 in let Post : Val → SProp 𝓤 = (walk_of 𝓛 En hs c).post y in
    let rb : ℕ = a.0.ref_ptr.0 in let ro : ℕ = a.0.ref_ptr.1 in let h : Pl.Denot = a.0.now in let p : Ptr = a.1.0.ptr in let j : ℕ = a.1.1.0 in
    let x : el_x E = a.1.1.1.0 in
    let xs : List (el_x E) = h.values in let n : ℕ = h.count in let token : Ty → Ptr → Fml = g.dealloc_token h.alloc in
    let more : List (el_x E) = xs ++ x ∷ [] in let new : Pl.Denot = with_values h more in
    let got = one (elτ E) vss.1.1.1.0 ((el_lawful E 𝓛).typed x vss.1.1.1.0 are.1.1.1.0) in let v : Val = got.0 in
    let others : Fml = fsep (flft κs.1.0 qs.1.0) (fsep (flft κs.1.1.0 qs.1.1.0) ftrue) in
    let Asked : Type 0 = (p ≡ h.at) × (j ≡ length xs) × (j < n) in
    qed 𝓛 (((‵ (flft κs.0 qs.0) ⊛ ‵ others) ⊛ ‵ (owns (types_at En.signature.params κs) a vss)) ∷ raw (fact 𝓤 _) ∷ raw (fact 𝓤 _) ∷ raw (fact 𝓤 Asked) ∷ []) ∵
    keep ! (3 ∷ 0 ∷ []) $ heard ! Asked (λ asked. split ! $ split ! $ move ! (2 ∷ []) $ fsplit3 ! $ fsplit3 ! $ move ! (4 ∷ []) $ fsplit3 ! $
    keep ! (4 ∷ 5 ∷ 7 ∷ 1 ∷ 8 ∷ []) $
    -- [the two parts of self; the token of its lifetime; the value; the other tokens]
    rewrite ! 3 (λ (ws : List Val). ‵ ((R E).own_val x ws)) got.1 refl $
    let us : List Val = vptr rb ro ∷ word p ∷ vint w64 j ∷ v ∷ [] in let Run : List Val → SProp 𝓤 = λ ws. WpFn 𝓤 H 𝓣.C 𝓣.Λ fn ws Post in
    suffices ! (Run us) (subst (λ (ws : List Val). ent 𝓤 (Run us) (Run ws)) (sym (λ i. are.0.0 i ++ (start_told E a.1.0 vss.1.0 are.1.0 i ++ (are.1.1.0.0 i ++ (got.1 i ++ []))))) (id⊢ 𝓤 (Run us))) $
    enter ! 𝓣.C 𝓣.Λ fn us Post $ alloc_all ! (λ l. pass_all ! refl ((tt, tt), (word-Good [] p, ((tt, record { fits = are.1.1.0.1 }), (got.2, tt)))) $
    let Ev = env fn.locals l in
    opens ! tt Pl rb ro (λ ts. move ! (1 ∷ []) $ fsplit ! $ move ! (1 ∷ []) $ fsplit ! $ flt_l ! (λ fit.
    rewrite ! 0 (λ (k : ℕ). ‵ (in_block h.at (block_with_items token (R E) h.at k n xs))) (sym asked.1) refl $
    in_a_block ! h.at (λ u. in_block u (block_with_items token (R E) u j n xs)) (id⊢ 𝓤 (never 𝓤)) (λ b o e. block_out E ! token b o j n xs $
    move ! (1 ∷ []) $
    use1 𝓛 (‵ (froom (elτ E) b (j * s + o)) ⊛ ‵ (froom (ty_array (elτ E) (n - (j + 1))) b (o + (j + 1) * s))) (spare E 𝓛 b o j n asked.2) $ split ! $
    -- [the place; the other room; the values; the right to free; the mark; its cell; the open borrow, in three entries; the value; the other tokens]
    let low = below j n s asked.2 fit in
    take_at ! 2 $ rewrite ! 0 (λ (u : Ptr). ‵ (fat full_share (layout St) (l 2) 0 (word u))) (asked.0 ∙ e) refl $ give_at ! 2 $ first ! $ blocks ! $
    sets ! (bin ! (get ! refl) (size_lit ! (record { fits = low.0 })) (record { fits = low.1 })) refl (tt, record { fits = low.1 }) $
    sets ! (bin ! (get_in ! (fld ! refl (stop !)) (sub ! 0 refl (whole !))) (get ! refl) tt) refl (tt, tt) $
    sets ! (of_opd ! (get ! refl)) refl got.2 $ assigns_last ! (of_opd ! (get ! refl)) (through ! refl (stop !)) (init ! 0 refl got.2) $
    exec ! 𝓣.C 𝓣.Λ Ev (after 1 fn.body) (at_ret Ev Post) $ sets ! (of_opd ! (unit_lit !)) refl (tt, tt) $
    move ! (0 ∷ 9 ∷ []) $ use2 𝓛 (‵ (part_at (R E) full_share x b (j * s + o))) (el_in E 𝓛 full_share x b (j * s + o) v) $
    move ! (2 ∷ 0 ∷ []) $ use2 𝓛 (‵ (part_at (Array (R E) (j + 1)) full_share more b o)) (snoc E 𝓛 b o j xs x) $
    block_in E ! token b o (j + 1) n more $
    rewrite ! 0 (λ (k : ℕ). ‵ (block_with_items token (R E) (block_ptr b o) k n more)) (ap (λ k. k + 1) asked.1 ∙ sym (length-append xs (x ∷ []))) refl $
    rewrite ! 0 (λ (u : Ptr). ‵ (in_block u (block_with_items token (R E) u (length more) n more))) (sym e) refl $
    flt_i ! (n * s) (2 ^ 63) fit $ fjoin ! $ move ! (1 ∷ 0 ∷ []) $ fjoin ! $ move ! (1 ∷ 0 ∷ []) $ closes ! tt Pl new ts rb ro $
    feq_i ! (List Val) vss.0 (vptr rb ro ∷ []) are.0.0 $ fjoin3 ! $ nothing ! $ nothing ! $ fjoin ! $ nothing ! $ fjoin ! $ nothing ! $ fjoin ! $
    move ! (1 ∷ 0 ∷ []) $ fjoin ! $ move ! (1 ∷ 2 ∷ []) $ join ! $
    use0 𝓛 (raw (fact 𝓤 (new ≡ new))) (fact_i 𝓤 (new ≡ new) (emp 𝓤) refl) $ feq_i ! (List Val) (vunit ∷ []) (vunit ∷ []) refl $
    returns ! (look_at ! 0 refl) $ free_all ! refl $ keep ! (2 ∷ 3 ∷ 0 ∷ 1 ∷ []) $
    by ! (leaves 𝓛 En hs c y vunit tt (new, (tt, (tt, (tt, tt)))) (tt, (tt, (tt, (tt, tt)))))))))))
