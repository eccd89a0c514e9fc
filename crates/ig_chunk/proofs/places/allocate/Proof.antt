-- `allocate` asks for the block, and all of it is room.
use Rattle.std.proofs.Common.{◌≡◌, ℕ, ◌*◌, ◌<◌, ◌^◌, [], ◌∷◌, true, false, refl, sym, ap, subst, arith, lit<, w64}
use mir.Syntax.{Body, Ty, named}
use mir.Val.{Val, WT, vint, vptr, vstruct, vcons, vnil}
use mir.MapTy.{inst_fn}
use base.Logic.{SProp, emp}
use base.Fml.{Fml, Lft, Share, Incl-trans, ftrue, fsep, flft}
use prog.Memory.{align, capped}
use prog.Capped.{capped_fits}
use prog.Wp.{Wp, after_seq, at_return}
use types.Kit.{‵, raw, ◌⊛◌, later, any_q, at_ret, ◌$◌, ◌∵◌, !, qed, by, move, keep, use0, use1, use2, split, join, fsplit, fjoin, flt_i, await}
use types.Match.{live, vrt, in_variant}
use types.Run.{stop, fld, lit, size_word, align_word, of_opd, bin, no_more, and_then, first, exec, returns, enter, switches_on}
use types.ByLocal.{alloc_all, pass_all, free_all, look_at, get, get_in, get_tag, sets, sets_last, lands_as, is, env}
use types.Part.{agg, whole}
use contract.BorrowLft.{◌⊑◌}
use contract.Running.{tables}
use contract.Monad.{fact, fact_i}
use denote.Exit.{yes}
use denote.RattleType.{RattleType, owns}
use denote.Laws.{Is}
use denote.Signature.{types_at, plain}
use denote.Param.{layout}
use denote.RawPtr.{Ptr, block_ptr, in_block}
use denote.Steps.{nothing, heard, owned}
use denote.Builtin.{RefOf, usize}
use denote.Ref.{shr_vals, shr_Tells}
use denote.Plain.{uint_vals, uint_Tells}
use denote.Struct.Declared as declared
use denote.Struct.Struct.{Struct, Struct-Makes}
use denote.Struct.Tuple.{Tuple}
use denote.Triple.Call.{calls_at}
use denote.Triple.Walked.{Stays, stay_dropped, walk_of, Goes-dropped}
use Rattle.std.proofs.raw_atomic.Walks.{proved, leaves}
use Rattle.std.specs.Vec.Ownership.{FitsInBlock}
use Rattle.core.specs.Allocator.{block_with_items}
use Rattle.core.specs.declared.result.Result.TheVariants.{Ok, Err}
use Rattle.core.specs.contracts.result.Result as result
use Rattle.core.specs.contracts.alloc.AllocError as refusal
use Rattle.core.proofs.alloc.Calls.{Answer-typed, Takes, at_takes, Answered, Takes-goes, Takes-gives, answers}
use Rattle.core.proofs.alloc.Shapes.{after, head, arm_body}
use Rattle.core.proofs.atomic.Steps.{fm}
use Rattle.std_alloc.proofs.Pairs.{pair_of, pair_val}
use Rattle.std_alloc.proofs.RcSteps.{Good, word, word-Good, first_Good}
use Rattle.std_alloc.proofs.ResultValues.{ok_of, err_of}
use Rattle.std_alloc.proofs.VecSteps.El.{El, elτ, R, P, sz, args}
use Rattle.ig_chunk.specs.contracts.places.allocate as f
use Rattle.ig_chunk.specs.contracts.places.allocate.Key.{name as #self}
use Rattle.ig_chunk.proofs.Blocks.{PlacesOf, StartOf, Mark, mark, mark_made, start_made, block_ty, block_size, block_align, new_block, uncapped}
use Rattle.ig_chunk.proofs.places.allocate.Statement.{statement}
use Rattle.ig_chunk.proofs.places.allocate.Code as code

pub allocate_spec : {M : Type 1} → statement M
allocate_spec 𝓤 𝓛 𝓜 𝓡 wired T A L K g d dd met md =
    let H = 𝓛.H in let 𝓣 = tables 𝓤 H 𝓜 𝓡 𝓡.env in
    let E : El = record { row = T; laws = L; al = record { row = A; laws = K; g = g; d = d; drops = dd } } in
    let Pl : RattleType = PlacesOf E in let St : RattleType = StartOf E in let Two : RattleType = Tuple (St ∷ Pl ∷ []) in
    let Out : RattleType = result.the_row Two refusal.the_row in
    let En = f.ended T A g d dd in let c = f.clauses T A g d dd 𝓛 𝓜.mem 𝓡.returns in let fn = inst_fn (args E) code.function in
    let handle = RefOf (0 ∷ []) tt (plain (λ _. P E)) (λ _. tt) in
    let hs : Stays En.signature.params En.kept = (stay_dropped handle yes, (stay_dropped (plain (λ _. usize)) yes, tt)) in
    proved 𝓛 En hs c 𝓜 𝓡 (Goes-dropped 𝓛 3 handle yes (λ κs x w. refl), (Goes-dropped 𝓛 3 (plain (λ _. usize)) yes (λ κs x w. refl), tt)) (#self (args E)) fn (code.unfolded 𝓤 H 𝓜 𝓡 wired (T, (A, tt)) d dd)
    (λ κs. (shr_vals, (uint_vals w64, tt))) (λ κs. (shr_Tells (named 0) κs.0 (P E), (uint_Tells w64, tt))) (λ κs qs bounds a gh are.
    let hp : ℕ × ℕ = a.0.ref_ptr in let heap : A.Denot = a.0.now in let n : ℕ = a.1.0 in let s : ℕ = n * sz E in let κ : Lft = κs.0 in
    let q : Share = qs.0 in let token : Ty → Ptr → Fml = g.dealloc_token heap in
    let y : (walk_of 𝓛 En hs c).Ghost = ((κs, qs, bounds, a, (vptr hp.0 hp.1 ∷ [], (vint w64 n ∷ [], tt))), gh) in
    let Post : Val → SProp 𝓤 = (walk_of 𝓛 En hs c).post y in
    let others : Fml = fsep (flft κs.1.0 qs.1.0) (fsep (flft κs.1.1.0 qs.1.1.0) ftrue) in
    qed 𝓛 (((‵ (flft κ q) ⊛ ‵ others) ⊛ ‵ (owns (types_at En.signature.params κs) a y.0.4)) ∷ raw (fact 𝓤 _) ∷ raw (fact 𝓤 (κs.1.1.0 ⊑ A.lives)) ∷ raw (fact 𝓤 (FitsInBlock (R E) n)) ∷ []) ∵
    keep ! (2 ∷ 3 ∷ 0 ∷ []) $ heard ! (κs.1.1.0 ⊑ A.lives) (λ inside. heard ! (FitsInBlock (R E) n) (λ fits.
    let few : s < 2 ^ 63 = fits.0 in let small : s < 2 ^ 64 = omega arith in split ! $ split ! $ move ! (2 ∷ []) $ fsplit ! $ fsplit ! $
    keep ! (1 ∷ 3 ∷ 4 ∷ []) $
    -- [the allocator; the token of its lifetime; the other tokens]
    enter ! 𝓣.C 𝓣.Λ fn (vptr hp.0 hp.1 ∷ vint w64 n ∷ []) Post $
    alloc_all ! (λ l. pass_all ! refl ((tt, tt), ((tt, record { fits = are.1.0.1 }), tt)) $ let Ev = env fn.locals l in
    let both : Body = head (after 2 fn.body) in
    let Then = any_q (after_seq 𝓤 H (Wp 𝓤 H 𝓣.C 𝓣.Λ Ev (after 3 fn.body) (at_return 𝓤 H Ev Post)) (at_return 𝓤 H Ev Post)) in
    let al : ℕ = capped (align (elτ E)) in let τ : Ty = block_ty E n in let Asked = Takes E.al 𝓛 𝓜.mem 𝓡.returns in
    let w : Asked.Ghost = at_takes E.al 𝓛 𝓜.mem 𝓡.returns κ q hp heap s al τ in
    sets ! (is ! (bin ! (get ! refl) (size_word !) (record { fits = subst (λ (k : ℕ). k < 2 ^ 64) (sym (uncapped n (sz E) small)) small })) (ap (vint w64) (uncapped n (sz E) small))) refl (tt, record { fits = small }) $
    use2 𝓛 (raw (Asked.pre w)) (Takes-goes E.al 𝓛 𝓜.mem 𝓡.returns κ q hp heap (Incl-trans bounds.0 inside) s al τ (block_size E n small) (block_align E n) small (capped_fits (align (elτ E)))) $
    calls_at ! (fm 𝓛 𝓜 𝓡) Asked (met.allocate dd) w (and_then ! (get ! refl) (and_then ! (get ! refl) (and_then ! (align_word !) (no_more !)))) (λ u.
    use1 𝓛 (later (raw (Answered E.al 𝓛 𝓜.mem 𝓡.returns heap τ u) ⊛ ‵ (flft κ q))) (Takes-gives E.al 𝓛 𝓜.mem 𝓡.returns κ q hp heap s al τ u) $
    await ! tt $ split ! $ move ! (1 ∷ 2 ∷ []) $ join ! $ move ! (1 ∷ []) $
    answers E.al ! 𝓜.mem 𝓡.returns heap τ u
    (λ b o e. let p : Ptr = block_ptr b o in let start : St.Denot = record { ptr = p } in
    let made : Pl.Denot = record { mark = record {}; at = p; count = n; values = []; alloc = heap } in
    let pair : Val = pair_val (word p) mark in let val : Val = live 0 (vcons pair vnil) in
    let typed : Good (layout Two) pair = (tt, ((tt, tt), ((tt, tt), tt))) in let ok = first_Good (layout Two) pair typed in
    use2 𝓛 (‵ (in_block p (block_with_items token (R E) p 0 n []))) (new_block E 𝓛 token b o n) $
    lands_as ! e refl (Answer-typed true b o) $ first ! $ switches_on ! (get_tag ! (vrt ! refl (fld ! refl (stop !))) (whole !)) $
    exec ! 𝓣.C 𝓣.Λ Ev (arm_body 0 both) Then $
    sets ! (of_opd ! (get_in ! (vrt ! refl (fld ! refl (stop !))) (in_variant ! 0 0 refl refl (whole !)))) refl (tt, tt) $
    sets ! (of_opd ! (get ! refl)) refl (tt, tt) $
    sets ! (agg ! (and_then ! (get ! refl) (no_more !))) refl (word-Good [] p) $ sets ! (agg ! (no_more !)) refl (tt, tt) $
    sets ! (agg ! (and_then ! (get ! refl) (no_more !))) refl (tt, (tt, tt)) $
    sets ! (agg ! (and_then ! (get ! refl) (and_then ! (get ! refl) (no_more !)))) refl typed $
    sets_last ! (agg ! (and_then ! (lit ! tt) (and_then ! (get ! refl) (no_more !)))) refl ok $ exec ! 𝓣.C 𝓣.Λ Ev (after 3 fn.body) (at_ret Ev Post) $
    sets ! (of_opd ! (get ! refl)) refl ok $
    flt_i ! s (2 ^ 63) few $ fjoin ! $ use0 𝓛 (‵ ((Mark E).own_val (tt, tt) (mark ∷ []))) (mark_made E 𝓛) $ fjoin ! $
    use0 𝓛 (‵ (St.own_val start (word p ∷ []))) (start_made E 𝓛 p) $
    use2 𝓛 (‵ (Two.own_val (start, made) (pair ∷ []))) (pair_of 𝓛 St Pl start made (word p) mark) $
    use1 𝓛 (‵ (Out.own_val (Ok (start, made)) (val ∷ []))) (ok_of 𝓛 Two refusal.the_row (start, made) pair) $
    let Told : Type 0 = (p ≡ p) × (n ≡ n) × (made.values ≡ made.values) × (heap ≡ heap) in use0 𝓛 (raw (fact 𝓤 Told)) (fact_i 𝓤 Told (emp 𝓤) (refl, refl, refl, refl)) $
    nothing ! $ nothing ! $ fjoin ! $ nothing ! $ fjoin ! $
    returns ! (look_at ! 0 refl) $ free_all ! refl $ keep ! (3 ∷ 0 ∷ 2 ∷ 1 ∷ []) $
    by ! (leaves 𝓛 En hs c y val (Ok (start, made)) (tt, (tt, tt)) (tt, (tt, tt))))
    (λ e. let val : Val = live 1 (vcons (vstruct vnil) vnil) in let good : WT val = (record { fits = lit< tt }, (tt, tt)) in
    let Refusal : RattleType = Struct (declared.shape refusal.the_type) in
    lands_as ! e refl (Answer-typed false 0 0) $ first ! $ switches_on ! (get_tag ! (vrt ! refl (fld ! refl (stop !))) (whole !)) $
    exec ! 𝓣.C 𝓣.Λ Ev (arm_body 1 both) Then $
    sets ! (of_opd ! (get_in ! (vrt ! refl (fld ! refl (stop !))) (in_variant ! 1 0 refl refl (whole !)))) refl (tt, tt) $
    sets_last ! (agg ! (and_then ! (lit ! tt) (and_then ! (get ! refl) (no_more !)))) refl (tt, good) $
    exec ! 𝓣.C 𝓣.Λ Ev (after 3 fn.body) (at_ret Ev Post) $ sets ! (of_opd ! (get ! refl)) refl (tt, good) $
    owned ! Refusal (Is Refusal) (Struct-Makes 𝓛 (declared.shape refusal.the_type) tt) tt (vstruct vnil ∷ []) (tt, (refl, tt)) $
    use1 𝓛 (‵ (Out.own_val (Err (record {})) (val ∷ []))) (err_of 𝓛 Two refusal.the_row (record {}) (vstruct vnil)) $
    use0 𝓛 (raw (fact 𝓤 (Unit {0}))) (fact_i 𝓤 (Unit {0}) (emp 𝓤) tt) $ nothing ! $ nothing ! $ fjoin ! $ nothing ! $ fjoin ! $
    returns ! (look_at ! 0 refl) $ free_all ! refl $ keep ! (3 ∷ 0 ∷ 2 ∷ 1 ∷ []) $
    by ! (leaves 𝓛 En hs c y val (Err (record {})) (tt, (tt, tt)) (tt, (tt, tt)))))))))
