-- A `&` to the places is made where one to a value is.
use mathlib.Core.Path.{sym, subst}
use mathlib.Core.List.{List, [], ◌++◌}
use lib.ListN.{length}
use Prim.Native.Nat.{ℕ, ◌-◌, ◌*◌}
use seplogic.Ra.Ura.{Ura}
use base.Fraction.{full_share}
use base.Fml.{Fml, Lft, Incl-trans, fsep}
use mir.Syntax.{Ty, ty_array}
use mir.Raw.{raw as bare}
use types.Logic.{Logic}
use contract.BorrowLft.{meet_⊑_left}
use denote.RattleType.{RattleType}
use denote.Memory.{lone}
use denote.Array.{Array}
use denote.ArrayMemory.{Single}
use denote.RawPtr.{Ptr, RawPtr, block_ptr, null_ptr, lies_at, room_for, in_block, ◌+ₚ◌}
use denote.Sharing.{said}
use denote.Shares.{Shares, Shares-less, Shares-Array}
use denote.Param.Laws.{Laws}
use denote.Param.Shared.{copy_shared}
use denote.Struct.Laws.{field_copy}
use denote.Struct.Lending.{lent_at, Lends, Lends-false, Lends-lies, Lends-said, Lends-first, Lends-both, of_Lends}
use Rattle.core.specs.declared.alloc.Allocator.{Ghosts}
use Rattle.core.specs.contracts.marker.PhantomData as marker
use Rattle.core.specs.Allocator.{block_with_items}
use Rattle.std.specs.Mem.{type_size}
use Rattle.std_alloc.proofs.SharedLaws.{lent_shr_laws}
use Rattle.ig_chunk.specs.Holdings.{small}
use Rattle.ig_chunk.specs.contracts.places.Places as C
use Rattle.ig_chunk.proofs.places.Places.TheLaw.Statement.{statement}

-- a borrow of the block lends the values, and the room and the token wait until it ends
values_lend : {M : Type 1} {𝓤 : Ura M} (𝓛 : Logic 𝓤) (token : Ty → Ptr → Fml) (R : RattleType) (L : Laws R) (l : Lft) → Shares 𝓛 R l → (at : Ptr) (count : ℕ) (values : List R.Denot)
    → Lends 𝓛 (in_block at (block_with_items token R at (length values) count values)) (lent_at (Array R (length values)) at values) l
values_lend 𝓛 token R L l s null_ptr count values = Lends-false 𝓛 (lent_at (Array R (length values)) null_ptr values) l
values_lend 𝓛 token R L l s (block_ptr b o) count values =
    let at : Ptr = block_ptr b o in let n = length values in
    Lends-first 𝓛 (lies_at (Array R n) full_share at values) (fsep (room_for (bare (ty_array (lone R.mir) (count - n))) (at +ₚ (n * type_size R))) (token (bare (ty_array (lone R.mir) count)) at)) (lent_at (Array R n) at values) l
    (Lends-lies 𝓛 (Array R n) l at values (Shares-Array 𝓛 R (subst Single (sym L.one) tt) n l s values))

pub shares : (R A : RattleType) (g : Ghosts A.Denot) (L : Laws R) (K : Laws A) → statement R A g L K
shares R A g L K =
    of_Lends (C.struct R A g) (C.the_codes R.Denot A.Denot R.coded A.coded (marker.the_row RawPtr).coded) (C.the_heap R A g) (C.the_lent R A g) (λ d p. lent_shr_laws R L.shr_laws d.at (length d.values) d.count d.values)
    (copy_shared (marker.the_field RawPtr) (field_copy (marker.the_type RawPtr) tt), tt) (λ M 𝓤 𝓛 d p.
    let l = (C.the_row R A g).lives in let n = length d.values in
    Lends-both 𝓛 (small R d.count) (in_block d.at (block_with_items (g.dealloc_token d.alloc) R d.at n d.count d.values)) (said (small R d.count)) (lent_at (Array R n) d.at d.values) l (Lends-said 𝓛 (small R d.count) tt l)
    (values_lend 𝓛 (g.dealloc_token d.alloc) R L l (Shares-less 𝓛 R R.lives l (Incl-trans (meet_⊑_left (R.lives ++ (A.lives ++ [])) _) (meet_⊑_left R.lives (A.lives ++ []))) (L.shares 𝓛)) d.at d.count d.values))
