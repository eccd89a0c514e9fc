-- `get_mut` lends one of the values, and the places follow it.
use Rattle.std.proofs.Common.{◌≡◌, ℕ, ◌+◌, ◌-◌, ◌*◌, ◌≤◌, ◌<◌, ◌^◌, List, [], ◌∷◌, length, slice_get, refl, sym, ◌∙◌, arith, w64}
use Rattle.std.specs.Prelude.{Some}
use lib.ListN.{get_or, set, length-set}
use seplogic.Ra.Ura.{Ura}
use mir.Syntax.{Ty, ty_array, named}
use mir.Val.{Val, vint, vptr}
use mir.MapTy.{inst_fn}
use base.Fraction.{full_share}
use base.Logic.{SProp, ent, sep, emp, never, id⊢}
use base.Fml.{Fml, GName, ftrue, fsep, fat, froom, flft}
use types.Logic.{Logic, sem}
use types.Kit.{‵, raw, ◌⊛◌, some, later, given, at_ret, ◌$◌, ◌∵◌, !, qed, by, move, keep, use0, use1, use2, split, split3, join, group, await, pick, learn, fsplit, fsplit3, fjoin, fpack, flt_l, flt_i, rewrite, done}
use types.Run.{stop, fld, size_lit, of_opd, bin, addr, first, blocks, exec, returns, enter}
use types.ByLocal.{alloc_all, pass_all, free_all, look_at, get, get_in, through, sets, sets_last, take_at, give_at, env}
use types.Part.{sub, whole}
use contract.Running.{tables}
use contract.Monad.{fact, fact_i}
use denote.Exit.{yes, no}
use denote.RattleType.{RattleType, owns}
use denote.Memory.{mem, cell_at, part_at, part_of, shares}
use denote.Array.{Array}
use denote.Follow.{follows, Part, lends_Part}
use denote.Index.{others}
use denote.Param.{layout}
use denote.Signature.{types_at, plain, mut_ref_to}
use denote.RawPtr.{Ptr, block_ptr, in_block, in_a_block}
use denote.Steps.{nothing, heard, opens}
use denote.Builtin.{usize}
use denote.Ref.{MutBor, MutRef, mut_vals, mut_Tells}
use denote.Plain.{uint_vals, uint_Tells}
use denote.Triple.Walked.{Stays, stay_dropped, walk_of, Goes-dropped, Goes-spent_ref}
use Rattle.std.proofs.raw_atomic.Walks.{proved, leaves}
use Rattle.core.specs.Allocator.{block_with_items}
use Rattle.core.proofs.alloc.Shapes.{after}
use Rattle.core.proofs.ptr.Rows.{hd}
use Rattle.std_alloc.proofs.RcSteps.{word, word-Good}
use Rattle.std_alloc.proofs.VecSteps.El.{El, el_x, elτ, R, sz, args}
use Rattle.std_alloc.proofs.VecSteps.Rows.{take_out, put_in}
use Rattle.ig_chunk.specs.Lent.{with_values}
use Rattle.ig_chunk.specs.contracts.places.Places.get_mut as f
use Rattle.ig_chunk.specs.contracts.places.Places.get_mut.Key.{name as #self}
use Rattle.ig_chunk.proofs.Blocks.{PlacesOf, StartOf, Mark, block_ty, start_told, block_out, block_in, value_there, below}
use Rattle.ig_chunk.proofs.places.Places.get_mut.Statement.{statement}
use Rattle.ig_chunk.proofs.places.Places.get_mut.Code as code

module _ (E : El) {M : Type 1} {𝓤 : Ura M} (𝓛 : Logic 𝓤) (rb ro : ℕ) (h : (PlacesOf E).Denot) (j : ℕ) (ts : List Val) (b o : ℕ) where
  abbrev token : Ty → Ptr → Fml
  token = E.al.g.dealloc_token h.alloc

  abbrev n : ℕ
  n = length h.values

  abbrev written : el_x E → (PlacesOf E).Denot
  written w = with_values h (set h.values j w)

  -- all but the value
  abbrev Rest : Fml
  Rest = fsep (others (shares (R E)) full_share h.values j b o) (fsep (froom (ty_array (elτ E) (h.count - n)) b (o + n * sz E)) (fsep (token (block_ty E h.count) (block_ptr b o))
      (fsep ((Mark E).own_val (tt, tt) ts) (cell_at full_share (PlacesOf E).mir ts rb ro))))

  back : h.at ≡ block_ptr b o → j < n → h.count * sz E < 2 ^ 63 → (w : el_x E)
      → ent 𝓤 (sep 𝓤 (sem 𝓛 ((mem (R E)).own_at w b (j * sz E + o))) (sem 𝓛 Rest)) (sem 𝓛 ((mem (PlacesOf E)).own_at (written w) rb ro))
  unfolding part_of
  back e within fit w =
      let xs = set h.values j w in let long : n ≡ length xs = sym (length-set h.values j w) in
      qed 𝓛 (‵ (part_at (R E) full_share w b (j * sz E + o)) ∷ ‵ Rest ∷ []) ∵ move ! (1 ∷ []) $ fsplit3 ! $ move ! (2 ∷ []) $ fsplit3 ! $
      -- [the right to free; the mark; its cell; the other values; the room; w]
      move ! (5 ∷ 3 ∷ []) $ use2 𝓛 (‵ (part_at (Array (R E) n) full_share xs b o)) (put_in E 𝓛 n h.values j w b o within refl) $
      move ! (0 ∷ 4 ∷ 1 ∷ []) $ block_in E ! token b o n h.count xs $
      rewrite ! 0 (λ (k : ℕ). ‵ (block_with_items token (R E) (block_ptr b o) k h.count xs)) long refl $
      rewrite ! 0 (λ (u : Ptr). ‵ (in_block u (block_with_items token (R E) u (length xs) h.count xs))) (sym e) refl $
      flt_i ! (h.count * sz E) (2 ^ 63) fit $ fjoin ! $ move ! (1 ∷ 0 ∷ []) $ fjoin ! $ move ! (1 ∷ 0 ∷ []) $ fjoin ! $
      fpack ! (List Val) (λ us. fsep (cell_at full_share (PlacesOf E).mir us rb ro) ((PlacesOf E).own_val (written w) us)) ts $ done !

pub get_mut_spec : {M : Type 1} → statement M
get_mut_spec 𝓤 𝓛 𝓜 𝓡 wired T A L K g d dd met md =
    let H = 𝓛.H in let 𝓣 = tables 𝓤 H 𝓜 𝓡 𝓡.env in
    let E : El = record { row = T; laws = L; al = record { row = A; laws = K; g = g; d = d; drops = dd } } in
    let Pl : RattleType = PlacesOf E in let St : RattleType = StartOf E in let s : ℕ = sz E in
    let En = f.ended T A g d dd in let c = f.clauses T A g d dd 𝓛 𝓜.mem 𝓡.returns in let fn = inst_fn (args E) code.function in
    let hs : Stays En.signature.params En.kept = (stay_dropped (mut_ref_to (0 ∷ []) tt (plain (λ _. Pl))) no, (stay_dropped (plain (λ _. St)) no, (stay_dropped (plain (λ _. usize)) yes, tt))) in
    proved 𝓛 En hs c 𝓜 𝓡 (Goes-spent_ref 𝓛 3 (0 ∷ []) tt (plain (λ _. Pl)), (Goes-dropped 𝓛 3 (plain (λ _. St)) no (λ κs x w. refl), (Goes-dropped 𝓛 3 (plain (λ _. usize)) yes (λ κs x w. refl), tt)))
    (#self (args E)) fn (code.unfolded 𝓤 H 𝓜 𝓡 wired (T, (A, tt)) d dd)
    (λ κs. (mut_vals, ((λ x. word x.ptr ∷ []), (uint_vals w64, tt)))) (λ κs. (mut_Tells (named 0) κs.0 Pl, (start_told E, (uint_Tells w64, tt)))) (λ κs qs bounds a gh are.
    let κ = κs.0 in let q = qs.0 in let γ : GName = a.0.ghost_name in let rb : ℕ = a.0.ref_ptr.0 in let ro : ℕ = a.0.ref_ptr.1 in
    let h : Pl.Denot = a.0.now in let p : Ptr = a.1.0.ptr in let j : ℕ = a.1.1.0 in
    let y : (walk_of 𝓛 En hs c).Ghost = ((κs, qs, bounds, a, (vptr rb ro ∷ [], (word p ∷ [], (vint w64 j ∷ [], tt)))), gh) in
    let Post : Val → SProp 𝓤 = (walk_of 𝓛 En hs c).post y in
    let xs : List (el_x E) = h.values in let n : ℕ = h.count in let free : Ty → Ptr → Fml = g.dealloc_token h.alloc in
    let rest_of : Fml = fsep (flft κs.1.0 qs.1.0) (fsep (flft κs.1.1.0 qs.1.1.0) ftrue) in
    let Asked : Type 0 = (p ≡ h.at) × (j < length xs) × (length xs ≤ n) in
    qed 𝓛 (((‵ (flft κ q) ⊛ ‵ rest_of) ⊛ ‵ (owns (types_at En.signature.params κs) a y.0.4)) ∷ raw (fact 𝓤 _) ∷ raw (fact 𝓤 _) ∷ raw (fact 𝓤 Asked) ∷ []) ∵
    keep ! (3 ∷ 0 ∷ []) $ heard ! Asked (λ asked. split ! $ split ! $ move ! (2 ∷ []) $ fsplit ! $ fsplit3 ! $ keep ! (1 ∷ 2 ∷ 4 ∷ 5 ∷ []) $
    -- [the two parts of self; the token of its lifetime; the other tokens]
    let some_there : 0 < length xs = omega (arith, asked.1) in let def : el_x E = hd xs some_there in let x : el_x E = get_or xs j def in
    let code = Pl.coded.code h in
    enter ! 𝓣.C 𝓣.Λ fn (vptr rb ro ∷ word p ∷ vint w64 j ∷ []) Post $
    alloc_all ! (λ l. pass_all ! refl ((tt, tt), (word-Good [] p, ((tt, record { fits = are.1.1.0.1 }), tt))) $ let Ev = env fn.locals l in
    opens ! tt Pl rb ro (λ ts. move ! (1 ∷ []) $ fsplit ! $ move ! (1 ∷ []) $ fsplit ! $ flt_l ! (λ fit.
    in_a_block ! h.at (λ u. in_block u (block_with_items free (R E) u (length xs) n xs)) (id⊢ 𝓤 (never 𝓤)) (λ b o e. block_out E ! free b o (length xs) n xs $
    use1 𝓛 (given (length xs ≡ length xs) (‵ (part_at (R E) full_share x b (j * s + o)) ⊛ ‵ (others (shares (R E)) full_share xs j b o))) (take_out E 𝓛 (length xs) xs j def b o asked.1) $
    learn ! (λ _. split ! $
    -- [the value; the other ones; the room; the right to free; the mark; its cell; the open borrow, in three entries; the other tokens]
    let low = below j n s (omega (arith, asked.1, asked.2)) fit in
    take_at ! 2 $ rewrite ! 0 (λ (u : Ptr). ‵ (fat full_share (layout St) (l 2) 0 (word u))) (asked.0 ∙ e) refl $ give_at ! 2 $ first ! $ blocks ! $
    sets ! (bin ! (get ! refl) (size_lit ! (record { fits = low.0 })) (record { fits = low.1 })) refl (tt, record { fits = low.1 }) $
    sets ! (bin ! (get_in ! (fld ! refl (stop !)) (sub ! 0 refl (whole !))) (get ! refl) tt) refl (tt, tt) $
    sets_last ! (addr ! (through ! refl (stop !))) refl (tt, tt) $
    exec ! 𝓣.C 𝓣.Λ Ev (after 1 fn.body) (at_ret Ev Post) $ sets ! (of_opd ! (get ! refl)) refl (tt, tt) $
    move ! (4 ∷ 5 ∷ []) $ fjoin ! $ move ! (4 ∷ 0 ∷ []) $ fjoin ! $ move ! (3 ∷ 0 ∷ []) $ fjoin ! $ move ! (2 ∷ 0 ∷ []) $ fjoin ! $
    move ! (2 ∷ 3 ∷ 4 ∷ 1 ∷ 0 ∷ []) $ group ! 5 $
    let at : ℕ = j * s + o in let F = written E 𝓛 rb ro h j ts b o in let Left = sem 𝓛 (Rest E 𝓛 rb ro h j ts b o) in
    let way = back E 𝓛 rb ro h j ts b o e asked.1 fit in
    use1 𝓛 (later (some (λ (δ : GName). raw (Part 𝓛 Pl (R E) F (named 0) κ q rb ro b at γ Left way x δ)))) (lends_Part 𝓛 Pl (R E) F (named 0) κ q rb ro b at γ Left way code code x) $
    await ! tt $ pick ! (λ δ.
    let r : MutBor (el_x E) = record { ref_ptr = (b, at); ghost_name = δ; now = x } in let v : Val = vptr b at in
    let There : Type 0 = slice_get xs j ≡ Some x in
    use1 𝓛 (‵ ((MutRef (named 0) κ (R E)).own_val r (v ∷ [])) ⊛ ‵ (flft κ q) ⊛ ‵ (follows Pl (R E) γ δ F)) (id⊢ 𝓤 _) $ split3 ! $
    -- [the reference; the token; what follows; the other tokens]
    use0 𝓛 (raw (fact 𝓤 There)) (fact_i 𝓤 There (emp 𝓤) (value_there xs j def asked.1)) $ move ! (3 ∷ 0 ∷ []) $ join ! $ move ! (2 ∷ 3 ∷ []) $
    join ! $
    nothing ! $ nothing ! $ fjoin ! $ nothing ! $ fjoin ! $ nothing ! $ fjoin ! $
    returns ! (look_at ! 0 refl) $ free_all ! refl $ keep ! (1 ∷ 0 ∷ 3 ∷ 2 ∷ []) $
    by ! (leaves 𝓛 En hs c y v r (tt, (tt, (tt, tt))) (tt, (tt, (tt, tt))))))))))))
