-- `read` moves the last value out, and leaves room.
use Rattle.std.proofs.Common.{◌≡◌, ℕ, suc, ◌+◌, ◌-◌, ◌*◌, ◌<◌, ◌^◌, List, [], ◌∷◌, ◌++◌, length, take, length-take, refl, sym, ap, ◌∙◌, arith, w64}
use lib.ListN.{get_or}
use mir.Syntax.{Ty, ty_array, named}
use mir.Val.{Val, vint, vptr}
use mir.MapTy.{inst_fn}
use base.Fraction.{full_share}
use base.Logic.{SProp, emp, never, id⊢}
use base.Fml.{Fml, ftrue, fsep, fat, froom, flft}
use types.Kit.{‵, raw, ◌⊛◌, some, given, at_ret, ◌$◌, ◌∵◌, !, qed, by, move, keep, use0, use1, use2, split, join, pick, learn, fsplit, fsplit3, fjoin, fjoin3, feq_i, flt_l, flt_i, rewrite}
use types.Run.{stop, fld, load, look, size_lit, of_opd, bin, forget, first, blocks, exec, returns, enter}
use types.ByLocal.{alloc_all, pass_all, free_all, look_at, get, get_in, through, sets, sets_last, take_at, give_at, env}
use types.Part.{sub, whole}
use contract.Running.{tables}
use contract.Monad.{fact, fact_i}
use denote.Exit.{yes, no}
use denote.RattleType.{RattleType, owns}
use denote.Memory.{part_at}
use denote.Array.{Array}
use denote.Param.{layout}
use denote.Signature.{types_at, plain}
use denote.RawPtr.{Ptr, block_ptr, in_block, in_a_block}
use denote.Steps.{nothing, heard, opens, closes}
use denote.Builtin.{usize}
use denote.Ref.{mut_vals, mut_Tells}
use denote.Plain.{uint_vals, uint_Tells}
use denote.Triple.Walked.{Stays, stay_dropped, stay_ref, walk_of, Goes-dropped, Goes-ref}
use Rattle.std.proofs.raw_atomic.Walks.{proved, leaves}
use Rattle.core.specs.Allocator.{block_with_items}
use Rattle.core.proofs.alloc.Shapes.{after}
use Rattle.core.proofs.ptr.Rows.{hd, take_snoc, take_all}
use Rattle.std_alloc.proofs.RcSteps.{word, word-Good}
use Rattle.std_alloc.proofs.VecSteps.El.{El, el_x, elτ, el_own, Good, R, sz, args}
use Rattle.std_alloc.proofs.VecSteps.Rows.{el_out, unspare, unsnoc}
use Rattle.ig_chunk.specs.Lent.{with_values}
use Rattle.ig_chunk.specs.contracts.places.Places.read as f
use Rattle.ig_chunk.specs.contracts.places.Places.read.Key.{name as #self}
use Rattle.ig_chunk.proofs.Blocks.{PlacesOf, StartOf, start_told, block_out, block_in, below}
use Rattle.ig_chunk.proofs.places.Places.read.Statement.{statement}
use Rattle.ig_chunk.proofs.places.Places.read.Code as code

pub read_spec : {M : Type 1} → statement M
read_spec 𝓤 𝓛 𝓜 𝓡 wired T A L K g d dd met md =
    let H = 𝓛.H in let 𝓣 = tables 𝓤 H 𝓜 𝓡 𝓡.env in
    let E : El = record { row = T; laws = L; al = record { row = A; laws = K; g = g; d = d; drops = dd } } in
    let Pl : RattleType = PlacesOf E in let St : RattleType = StartOf E in let s : ℕ = sz E in
    let En = f.ended T A g d dd in let c = f.clauses T A g d dd 𝓛 𝓜.mem 𝓡.returns in let fn = inst_fn (args E) code.function in
    let hs : Stays En.signature.params En.kept = (stay_ref (0 ∷ []) tt (plain (λ _. Pl)), (stay_dropped (plain (λ _. St)) no, (stay_dropped (plain (λ _. usize)) yes, tt))) in
    proved 𝓛 En hs c 𝓜 𝓡 (Goes-ref 𝓛 3 0 tt (plain (λ _. Pl)), (Goes-dropped 𝓛 3 (plain (λ _. St)) no (λ κs x w. refl), (Goes-dropped 𝓛 3 (plain (λ _. usize)) yes (λ κs x w. refl), tt)))
    (#self (args E)) fn (code.unfolded 𝓤 H 𝓜 𝓡 wired (T, (A, tt)) d dd)
    (λ κs. (mut_vals, ((λ x. word x.ptr ∷ []), (uint_vals w64, tt)))) (λ κs. (mut_Tells (named 0) κs.0 Pl, (start_told E, (uint_Tells w64, tt)))) (λ κs qs bounds a gh are.
    let rb : ℕ = a.0.ref_ptr.0 in let ro : ℕ = a.0.ref_ptr.1 in let h : Pl.Denot = a.0.now in let p : Ptr = a.1.0.ptr in let j : ℕ = a.1.1.0 in
    let y : (walk_of 𝓛 En hs c).Ghost = ((κs, qs, bounds, a, (vptr rb ro ∷ [], (word p ∷ [], (vint w64 j ∷ [], tt)))), gh) in
    let Post : Val → SProp 𝓤 = (walk_of 𝓛 En hs c).post y in
    let xs : List (el_x E) = h.values in let n : ℕ = h.count in let token : Ty → Ptr → Fml = g.dealloc_token h.alloc in
    let others : Fml = fsep (flft κs.1.0 qs.1.0) (fsep (flft κs.1.1.0 qs.1.1.0) ftrue) in
    let Asked : Type 0 = (p ≡ h.at) × (length xs ≡ j + 1) × (j < n) in
    qed 𝓛 (((‵ (flft κs.0 qs.0) ⊛ ‵ others) ⊛ ‵ (owns (types_at En.signature.params κs) a y.0.4)) ∷ raw (fact 𝓤 _) ∷ raw (fact 𝓤 _) ∷ raw (fact 𝓤 Asked) ∷ []) ∵
    keep ! (3 ∷ 0 ∷ []) $ heard ! Asked (λ asked. split ! $ split ! $ move ! (2 ∷ []) $ fsplit ! $ fsplit3 ! $ keep ! (1 ∷ 2 ∷ 4 ∷ 5 ∷ []) $
    -- [the two parts of self; the token of its lifetime; the other tokens]
    let inside : j < length xs = omega (arith, asked.1) in let some_there : 0 < length xs = omega arith in
    let x : el_x E = get_or xs j (hd xs some_there) in
    let fewer : List (el_x E) = take j xs in let new : Pl.Denot = with_values h fewer in
    let long : length fewer ≡ j = length-take j xs ∙ (omega arith) in let all : length xs ≡ suc j = omega (arith, asked.1) in
    let cut : xs ≡ fewer ++ x ∷ [] = sym (take_all xs) ∙ ap (λ (k : ℕ). take k xs) all ∙ take_snoc xs j (hd xs some_there) inside in
    enter ! 𝓣.C 𝓣.Λ fn (vptr rb ro ∷ word p ∷ vint w64 j ∷ []) Post $
    alloc_all ! (λ l. pass_all ! refl ((tt, tt), (word-Good [] p, ((tt, record { fits = are.1.1.0.1 }), tt))) $ let Ev = env fn.locals l in
    opens ! tt Pl rb ro (λ ts. move ! (1 ∷ []) $ fsplit ! $ move ! (1 ∷ []) $ fsplit ! $ flt_l ! (λ fit.
    rewrite ! 0 (λ (k : ℕ). ‵ (in_block h.at (block_with_items token (R E) h.at k n xs))) asked.1 refl $
    in_a_block ! h.at (λ u. in_block u (block_with_items token (R E) u (j + 1) n xs)) (id⊢ 𝓤 (never 𝓤)) (λ b o e. block_out E ! token b o (j + 1) n xs $
    rewrite ! 0 (λ (zs : List (el_x E)). ‵ (part_at (Array (R E) (j + 1)) full_share zs b o)) cut refl $
    use1 𝓛 (‵ (part_at (Array (R E) j) full_share fewer b o) ⊛ ‵ (part_at (R E) full_share x b (j * s + o))) (unsnoc E 𝓛 b o (j + 1) j fewer x long) $
    split ! $ move ! (1 ∷ []) $
    use1 𝓛 (some (λ (v : Val). given (Good E v) (‵ (fat full_share (elτ E) b (j * s + o) v) ⊛ ‵ (el_own E x (v ∷ []))))) (el_out E 𝓛 full_share x b (j * s + o)) $
    pick ! (λ v. learn ! (λ good. split ! $
    -- [the place; the value; the other values; the room; the right to free; the mark; its cell; the open borrow, in three entries; the other tokens]
    let low = below j n s asked.2 fit in
    take_at ! 2 $ rewrite ! 0 (λ (u : Ptr). ‵ (fat full_share (layout St) (l 2) 0 (word u))) (asked.0 ∙ e) refl $ give_at ! 2 $ first ! $ blocks ! $
    sets ! (bin ! (get ! refl) (size_lit ! (record { fits = low.0 })) (record { fits = low.1 })) refl (tt, record { fits = low.1 }) $
    sets ! (bin ! (get_in ! (fld ! refl (stop !)) (sub ! 0 refl (whole !))) (get ! refl) tt) refl (tt, tt) $
    sets_last ! (of_opd ! (load ! (through ! refl (stop !)) (look ! 0 refl))) refl good $
    exec ! 𝓣.C 𝓣.Λ Ev (after 1 fn.body) (at_ret Ev Post) $ sets ! (of_opd ! (get ! refl)) refl good $
    forget ! 0 refl $ move ! (0 ∷ 3 ∷ []) $ use2 𝓛 (‵ (froom (ty_array (elτ E) (n - j)) b (o + j * s))) (unspare E 𝓛 b o j n asked.2) $
    move ! (2 ∷ 0 ∷ 3 ∷ []) $ block_in E ! token b o j n fewer $
    rewrite ! 0 (λ (k : ℕ). ‵ (block_with_items token (R E) (block_ptr b o) k n fewer)) (sym long) refl $
    rewrite ! 0 (λ (u : Ptr). ‵ (in_block u (block_with_items token (R E) u (length fewer) n fewer))) (sym e) refl $
    flt_i ! (n * s) (2 ^ 63) fit $ fjoin ! $ move ! (2 ∷ 0 ∷ []) $ fjoin ! $ move ! (2 ∷ 0 ∷ 3 ∷ 4 ∷ 5 ∷ []) $ closes ! tt Pl new ts rb ro $
    feq_i ! (List Val) (vptr rb ro ∷ []) (vptr rb ro ∷ []) refl $ fjoin3 ! $ nothing ! $ nothing ! $ fjoin ! $ nothing ! $ fjoin ! $
    move ! (1 ∷ 0 ∷ []) $ fjoin ! $ move ! (1 ∷ 3 ∷ []) $ join ! $
    let Value : Type 0 = xs ≡ fewer ++ x ∷ [] in
    use0 𝓛 (raw (fact 𝓤 (new ≡ new))) (fact_i 𝓤 (new ≡ new) (emp 𝓤) refl) $ use0 𝓛 (raw (fact 𝓤 Value)) (fact_i 𝓤 Value (emp 𝓤) cut) $ join ! $
    returns ! (look_at ! 0 refl) $ free_all ! refl $ keep ! (1 ∷ 2 ∷ 3 ∷ 0 ∷ []) $
    by ! (leaves 𝓛 En hs c y v x (new, (tt, (tt, tt))) (tt, (tt, (tt, tt))))))))))))
