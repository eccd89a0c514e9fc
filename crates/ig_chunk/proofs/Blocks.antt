-- What the walks of the six functions share: the machine values of a start and of places, and a block taken apart and put together.
use mathlib.Core.Path.{◌≡◌, refl, ap, ◌∙◌}
use Prim.Native.Nat.{ℕ, zero, suc, ◌+◌, ◌-◌, ◌*◌, ◌<◌, ◌^◌}
use native.Mathlib.Nat.{zero-mul}
use native.Mathlib.Omega.{arith}
use mathlib.Core.List.{List, [], ◌∷◌, ◌++◌}
use lib.ListN.{length, get_or}
use seplogic.Ra.Ura.{Ura}
use base.Fraction.{full_share}
use mir.Syntax.{Ty, ty_array}
use mir.Val.{Val, vstruct, vcons, vnil, of_list}
use mir.Raw.{raw as bare}
use base.Logic.{ent, sep, emp, via, fst∗, snd∗}
use base.Fml.{Fml, Lft, froom}
use prog.Memory.{size, align, capped}
use prog.Capped.{capped_is}
use prog.RawLaws.{size-raw, align-raw}
use types.Logic.{Logic, sem}
use types.Kit.{Item, Goal, Step, step, ‵, ◌$◌, ◌∵◌, !, qed, move, use0, use2, fsplit, fjoin, rewrite, done}
use denote.RattleType.{RattleType}
use denote.Laws.{Is}
use denote.Memory.{part_at, shared_of}
use denote.Array.{Array}
use denote.Index.{place}
use denote.RawPtr.{Ptr, block_ptr, ptr_val}
use denote.Shadow.{makes_shadow}
use denote.Slice.{elements_shared}
use denote.Struct.Struct.{Struct}
use denote.Struct.Owning.{shape}
use Rattle.std.specs.Prelude.{slice_get, Some}
use Rattle.core.specs.Allocator.{block_with_items}
use Rattle.std_alloc.proofs.RawLayout.{as_raw, as_written}
use Rattle.std_alloc.proofs.RcSteps.{word}
use Rattle.std_alloc.proofs.VecSteps.El.{El, el_x, elτ, R, P, sz}
use Rattle.std_alloc.proofs.VecSteps.Rows.{empty, all_room}
use Rattle.ig_chunk.specs.contracts.places.Places as places
use Rattle.ig_chunk.specs.contracts.places.Start as start

-- the one machine value of places, which takes no bytes
abbrev pub mark : Val
mark = vstruct (vcons (vstruct vnil) vnil)

module _ (E : El) where
  abbrev pub PlacesOf : RattleType
  PlacesOf = places.the_row (R E) (P E) E.al.g

  abbrev pub StartOf : RattleType
  StartOf = start.the_row (R E)

  -- the fields of `Places`
  abbrev pub Mark : RattleType
  Mark = Struct (shape (places.the_type (R E) (P E) E.al.g))

  pub start_told : (x : StartOf.Denot) (vs : List Val) → Is StartOf x vs → vs ≡ word x.ptr ∷ []
  start_told x vs is = is.1.0 ∙ ap (λ (ws : List Val). vstruct (of_list (ws ++ [])) ∷ []) is.1.1.0

  pub mark_told : (vs : List Val) → Is Mark (tt, tt) vs → vs ≡ mark ∷ []
  mark_told vs is = is.1.0 ∙ ap (λ (ws : List Val). vstruct (of_list (ws ++ [])) ∷ []) is.1.1.0.1.0

  module _ {M : Type 1} {𝓤 : Ura M} (𝓛 : Logic 𝓤) where
    pub start_made : (p : Ptr) → ent 𝓤 (emp 𝓤) (sem 𝓛 (StartOf.own_val (record { ptr = p }) (word p ∷ [])))
    start_made p = makes_shadow 𝓛 (StartOf.own_val (record { ptr = p }) (word p ∷ [])) (λ vss. (tt, (tt, tt))) ((ptr_val p ∷ [], tt), (refl, (refl, tt)))

    pub mark_made : ent 𝓤 (emp 𝓤) (sem 𝓛 (Mark.own_val (tt, tt) (mark ∷ [])))
    mark_made = makes_shadow 𝓛 (Mark.own_val (tt, tt) (mark ∷ [])) (λ vss. (tt, ((λ uss. (tt, tt)), tt))) ((vstruct vnil ∷ [], tt), (refl, ((tt, (refl, tt)), tt)))

  -- the type that a block of n places is allocated for
  abbrev pub block_ty : ℕ → Ty
  block_ty n = bare (ty_array (elτ E) n)

  pub block_size : (n : ℕ) → n * sz E < 2 ^ 64 → capped (size (block_ty n)) ≡ n * sz E
  block_size n fits = ap capped (size-raw (ty_array (elτ E) n)) ∙ capped_is (n * sz E) fits

  pub block_align : (n : ℕ) → capped (align (block_ty n)) ≡ capped (align (elτ E))
  block_align n = ap capped (align-raw (ty_array (elτ E) n))

module _ (E : El) {M : Type 1} {𝓤 : Ura M} {𝓛 : Logic 𝓤} {K : Type 0} {Γ : List (Item 𝓤)} {G : Goal 𝓤 𝓛.H} where
  -- [the values; the room; the token]
  pub block_out : K → (t : Ty → Ptr → Fml) (b o n c : ℕ) (xs : List (el_x E))
      → Step K 𝓛 (‵ (part_at (Array (R E) n) full_share xs b o) ∷ ‵ (froom (ty_array (elτ E) (c - n)) b (o + n * sz E)) ∷ ‵ (t (block_ty E c) (block_ptr b o)) ∷ Γ) G (‵ (block_with_items t (R E) (block_ptr b o) n c xs) ∷ Γ) G
  block_out k t b o n c xs = step (λ s. fsplit k $ move k (1 ∷ []) $ fsplit k $ as_written k (ty_array (elτ E) (c - n)) b (o + n * sz E) $ move k (2 ∷ 0 ∷ 1 ∷ []) $ s)

  pub block_in : K → (t : Ty → Ptr → Fml) (b o n c : ℕ) (xs : List (el_x E))
      → Step K 𝓛 (‵ (block_with_items t (R E) (block_ptr b o) n c xs) ∷ Γ) G (‵ (part_at (Array (R E) n) full_share xs b o) ∷ ‵ (froom (ty_array (elτ E) (c - n)) b (o + n * sz E)) ∷ ‵ (t (block_ty E c) (block_ptr b o)) ∷ Γ) G
  block_in k t b o n c xs = step (λ s. move k (1 ∷ 2 ∷ []) $ as_raw k (ty_array (elτ E) (c - n)) b (o + n * sz E) $ fjoin k $ move k (1 ∷ 0 ∷ []) $ fjoin k $ s)

module _ (E : El) {M : Type 1} {𝓤 : Ura M} (𝓛 : Logic 𝓤) where
  open 𝓛 use {H}

  -- all is room
  pub new_block : (t : Ty → Ptr → Fml) (b o c : ℕ) → ent 𝓤 (sep 𝓤 (sem 𝓛 (froom (block_ty E c) b o)) (sem 𝓛 (t (block_ty E c) (block_ptr b o)))) (sem 𝓛 (block_with_items t (R E) (block_ptr b o) 0 c []))
  new_block t b o c =
      let at : o ≡ o + 0 * sz E = omega (arith, zero-mul (sz E)) in let all : c ≡ c - 0 = omega arith in
      qed 𝓛 (‵ (froom (block_ty E c) b o) ∷ ‵ (t (block_ty E c) (block_ptr b o)) ∷ []) ∵ as_written ! (ty_array (elτ E) c) b o $
      rewrite ! 0 (λ (k : ℕ × ℕ). ‵ (froom (ty_array (elτ E) k.0) b k.1)) (λ i. (all i, at i)) refl $
      use0 𝓛 (‵ (part_at (Array (R E) 0) full_share [] b o)) (empty E 𝓛 [] b o refl) $ block_in E ! t b o 0 c [] $ done !

  pub old_block : (t : Ty → Ptr → Fml) (b o c : ℕ) → ent 𝓤 (sem 𝓛 (block_with_items t (R E) (block_ptr b o) 0 c [])) (sep 𝓤 (sem 𝓛 (froom (block_ty E c) b o)) (sem 𝓛 (t (block_ty E c) (block_ptr b o))))
  old_block t b o c =
      qed 𝓛 (‵ (block_with_items t (R E) (block_ptr b o) 0 c []) ∷ []) ∵ block_out E ! t b o 0 c [] $
      use2 𝓛 (‵ (froom (ty_array (elτ E) c) b o)) (all_room E 𝓛 b o 0 c [] (omega arith)) $ as_raw ! (ty_array (elτ E) c) b o $ done !

  -- a `&` to the values reaches each one
  pub value_seen : (κ : Lft) (b : ℕ) (xs : List (el_x E)) (i : ℕ) (d : el_x E) (o : ℕ) → i < length xs
      → ent 𝓤 (sem 𝓛 (elements_shared (R E) xs b o κ)) (sem 𝓛 (shared_of (R E) (get_or xs i d) b (place (sz E) o i) κ))
  value_seen κ b [] i d o within = absurd (omega arith)
  value_seen κ b (x ∷ xs) zero d o within = fst∗ 𝓤 (sem 𝓛 (shared_of (R E) x b o κ)) (sem 𝓛 (elements_shared (R E) xs b (o + sz E) κ))
  value_seen κ b (x ∷ xs) (suc i) d o within =
      via 𝓤 (sem 𝓛 (elements_shared (R E) xs b (o + sz E) κ)) (snd∗ 𝓤 (sem 𝓛 (shared_of (R E) x b o κ)) (sem 𝓛 (elements_shared (R E) xs b (o + sz E) κ))) (value_seen κ b xs i d (o + sz E) (omega arith))

pub uncapped : (i k : ℕ) → i * k < 2 ^ 64 → i * capped k ≡ i * k
uncapped = Rattle.core.proofs.slots.Leases.uncapped

pub below : (i n s : ℕ) → i < n → n * s < 2 ^ 63 → (s < 2 ^ 64) × (i * s < 2 ^ 64)
below i n s lt fit =
    (omega (arith, Rattle.core.proofs.ptr.Rows.one_below n s (2 ^ 63) (omega arith) fit), omega (arith, Rattle.core.proofs.ptr.Rows.times_below i n s (2 ^ 63) (omega arith) fit))

pub value_there : {X : Type 0} (xs : List X) (i : ℕ) (d : X) → i < length xs → slice_get xs i ≡ Some (get_or xs i d)
value_there [] i d within = absurd (omega arith)
value_there (x ∷ xs) zero d within = refl
value_there (x ∷ xs) (suc i) d within = value_there xs i d (omega arith)
