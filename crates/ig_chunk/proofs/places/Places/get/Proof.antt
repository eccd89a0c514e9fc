-- `get` shows one of the values that the places lend.
use Rattle.std.proofs.Common.{◌≡◌, ℕ, ◌+◌, ◌*◌, ◌≤◌, ◌<◌, List, [], ◌∷◌, length, slice_get, refl, ◌∙◌, arith, w64}
use Rattle.std.specs.Prelude.{Some}
use lib.ListN.{get_or}
use mir.Syntax.{named}
use mir.Val.{Val, vint, vptr}
use mir.MapTy.{inst_fn}
use base.Fraction.{full_share}
use base.Logic.{SProp, emp, never, id⊢}
use base.Fml.{Fml, ftrue, fsep, fat, flft}
use types.Kit.{‵, raw, ◌⊛◌, at_ret, ◌$◌, ◌∵◌, !, qed, by, move, keep, drop, use0, use1, split, join, fsplit, fjoin, feq_i, flt_l, rewrite}
use types.Run.{stop, fld, size_lit, of_opd, bin, addr, first, blocks, exec, returns, enter}
use types.ByLocal.{alloc_all, pass_all, free_all, look_at, get, get_in, through, sets, sets_last, take_at, give_at, env}
use types.Part.{sub, whole}
use contract.Running.{tables}
use contract.Monad.{fact, fact_i}
use denote.Exit.{yes, no}
use denote.RattleType.{RattleType, owns}
use denote.Memory.{shared_of}
use denote.Array.{Array}
use denote.Index.{place, place_is}
use denote.Opens.{hide, unhide}
use denote.Param.{layout}
use denote.Signature.{types_at, plain}
use denote.RawPtr.{Ptr, block_of, count_of, in_block, in_a_block}
use denote.Steps.{nothing, heard}
use denote.Builtin.{usize, RefOf}
use denote.Ref.{shr_vals, shr_Tells}
use denote.Plain.{uint_vals, uint_Tells}
use denote.Triple.Walked.{Stays, stay_dropped, walk_of, Goes-dropped}
use Rattle.std.proofs.raw_atomic.Walks.{proved, leaves}
use Rattle.core.proofs.alloc.Shapes.{after}
use Rattle.core.proofs.ptr.Rows.{hd}
use Rattle.std_alloc.proofs.RcSteps.{word, word-Good}
use Rattle.std_alloc.proofs.VecSteps.El.{El, el_x, R, sz, args}
use Rattle.ig_chunk.specs.contracts.places.Places.get as f
use Rattle.ig_chunk.specs.contracts.places.Places.get.Key.{name as #self}
use Rattle.ig_chunk.proofs.Blocks.{PlacesOf, StartOf, start_told, value_seen, value_there, below}
use Rattle.ig_chunk.proofs.places.Places.get.Statement.{statement}
use Rattle.ig_chunk.proofs.places.Places.get.Code as code

pub get_spec : {M : Type 1} → statement M
get_spec 𝓤 𝓛 𝓜 𝓡 wired T A L K g d dd met md =
    let H = 𝓛.H in let 𝓣 = tables 𝓤 H 𝓜 𝓡 𝓡.env in
    let E : El = record { row = T; laws = L; al = record { row = A; laws = K; g = g; d = d; drops = dd } } in
    let Pl : RattleType = PlacesOf E in let St : RattleType = StartOf E in let s : ℕ = sz E in
    let En = f.ended T A g d dd in let c = f.clauses T A g d dd 𝓛 𝓜.mem 𝓡.returns in let fn = inst_fn (args E) code.function in
    let self = RefOf (0 ∷ []) tt (plain (λ _. Pl)) (λ _. tt) in
    let hs : Stays En.signature.params En.kept = (stay_dropped self yes, (stay_dropped (plain (λ _. St)) no, (stay_dropped (plain (λ _. usize)) yes, tt))) in
    proved 𝓛 En hs c 𝓜 𝓡 (Goes-dropped 𝓛 3 self yes (λ κs x w. refl), (Goes-dropped 𝓛 3 (plain (λ _. St)) no (λ κs x w. refl), (Goes-dropped 𝓛 3 (plain (λ _. usize)) yes (λ κs x w. refl), tt)))
    (#self (args E)) fn (code.unfolded 𝓤 H 𝓜 𝓡 wired (T, (A, tt)) d dd)
    (λ κs. (shr_vals, ((λ x. word x.ptr ∷ []), (uint_vals w64, tt)))) (λ κs. (shr_Tells (named 0) κs.0 Pl, (start_told E, (uint_Tells w64, tt)))) (λ κs qs bounds a gh are.
    let κ = κs.0 in let rb : ℕ = a.0.ref_ptr.0 in let ro : ℕ = a.0.ref_ptr.1 in let h : Pl.Denot = a.0.now in let p : Ptr = a.1.0.ptr in
    let j : ℕ = a.1.1.0 in
    let y : (walk_of 𝓛 En hs c).Ghost = ((κs, qs, bounds, a, (vptr rb ro ∷ [], (word p ∷ [], (vint w64 j ∷ [], tt)))), gh) in
    let Post : Val → SProp 𝓤 = (walk_of 𝓛 En hs c).post y in
    let xs : List (el_x E) = h.values in let n : ℕ = h.count in let others : Fml = fsep (flft κs.1.0 qs.1.0) (fsep (flft κs.1.1.0 qs.1.1.0) ftrue) in
    let Asked : Type 0 = (p ≡ h.at) × (j < length xs) × (length xs ≤ n) in
    qed 𝓛 (((‵ (flft κ qs.0) ⊛ ‵ others) ⊛ ‵ (owns (types_at En.signature.params κs) a y.0.4)) ∷ raw (fact 𝓤 _) ∷ raw (fact 𝓤 _) ∷ raw (fact 𝓤 Asked) ∷ []) ∵
    keep ! (3 ∷ 0 ∷ []) $ heard ! Asked (λ asked. split ! $ split ! $ move ! (2 ∷ []) $ fsplit ! $ fsplit ! $ keep ! (1 ∷ 3 ∷ 4 ∷ []) $
    -- [what self lends; the token of its lifetime; the other tokens]
    let some_there : 0 < length xs = omega (arith, asked.1) in let x : el_x E = get_or xs j (hd xs some_there) in
    enter ! 𝓣.C 𝓣.Λ fn (vptr rb ro ∷ word p ∷ vint w64 j ∷ []) Post $
    alloc_all ! (λ l. pass_all ! refl ((tt, tt), (word-Good [] p, ((tt, record { fits = are.1.1.0.1 }), tt))) $ let Ev = env fn.locals l in
    unhide ! $ fsplit ! $ drop ! $ fsplit ! $ flt_l ! (λ fit. fsplit ! $
    in_a_block ! h.at (λ u. in_block u ftrue) (id⊢ 𝓤 (never 𝓤)) (λ b o e. drop ! $
    rewrite ! 0 (λ (u : Ptr). ‵ (shared_of (Array (R E) (length xs)) xs (block_of u) (count_of u) κ)) e refl $ fsplit ! $ drop ! $
    use1 𝓛 (‵ (shared_of (R E) x b (place s o j) κ)) (value_seen E 𝓛 κ b xs j (hd xs some_there) o asked.1) $
    rewrite ! 0 (λ (k : ℕ). ‵ (shared_of (R E) x b k κ)) (place_is s o j) refl $ hide ! $
    let low = below j n s (omega (arith, asked.1, asked.2)) fit in
    take_at ! 2 $ rewrite ! 0 (λ (u : Ptr). ‵ (fat full_share (layout St) (l 2) 0 (word u))) (asked.0 ∙ e) refl $ give_at ! 2 $ first ! $ blocks ! $
    sets ! (bin ! (get ! refl) (size_lit ! (record { fits = low.0 })) (record { fits = low.1 })) refl (tt, record { fits = low.1 }) $
    sets ! (bin ! (get_in ! (fld ! refl (stop !)) (sub ! 0 refl (whole !))) (get ! refl) tt) refl (tt, tt) $
    sets_last ! (addr ! (through ! refl (stop !))) refl (tt, tt) $
    exec ! 𝓣.C 𝓣.Λ Ev (after 1 fn.body) (at_ret Ev Post) $ sets ! (of_opd ! (get ! refl)) refl (tt, tt) $
    let at : ℕ = j * s + o in let v : Val = vptr b at in feq_i ! (List Val) (v ∷ []) (v ∷ []) refl $ fjoin ! $
    nothing ! $ nothing ! $ fjoin ! $ nothing ! $ fjoin ! $ nothing ! $ fjoin ! $ move ! (2 ∷ 3 ∷ []) $ join ! $
    let There : Type 0 = slice_get xs j ≡ Some x in use0 𝓛 (raw (fact 𝓤 There)) (fact_i 𝓤 There (emp 𝓤) (value_there xs j (hd xs some_there) asked.1)) $
    returns ! (look_at ! 0 refl) $ free_all ! refl $ keep ! (1 ∷ 2 ∷ 3 ∷ 0 ∷ []) $
    by ! (leaves 𝓛 En hs c y v (record { ref_ptr = (b, at); now = x }) (tt, (tt, (tt, tt))) (tt, (tt, (tt, tt)))))))))
