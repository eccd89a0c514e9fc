-- A symbol in place, alone or behind tests; the pair under the marks round a symbol.
use Rattle.std.proofs.Common.{◌≡◌, ◌∙◌, ℕ, Bool, true, false, List, [], ◌∷◌, ◌++◌, Option, Some, None, refl, sym, ap, subst}
use Rattle.ig_text.specs.Input.{Input}
use Rattle.ig_expr.specs.Expression.{Expression}
use Rattle.ig_grammar.specs.Symbol.{Symbol, Seq, Guard, Offside, Ignore, Symbols, listed, gathered}
use Rattle.ig_meaning.specs.Environment.{Environment}
use Rattle.ig_grammar.specs.declared.declaration.DeclKind.{DeclKind}
use Rattle.ig_blocks_parts.specs.Allowed.{outer_column}
use Rattle.ig_blocks_parts.proofs.Reading as reading
use Rattle.ig_blocks_parts.specs.Setting.{Setting, Pair, lacking, carried, opened, cleared, opened_by, cleared_by, guards, column_guards, wrapped}
use Rattle.ig_blocks_parts.proofs.Reading.{AreApart, IsWritten, Reads, AllRead, BindingsRead, IsSteady, pair_in, is_aligned, Agree, Keep}
use Rattle.ig_blocks_parts.proofs.Lowered as low
use Rattle.ig_blocks_parts.proofs.Lowered.{Lowered, Placed, Item, Listing, Covered, Choices, IsHanded}
use Rattle.ig_blocks_parts.proofs.Situations.{Situated, situated_opened, situated_cleared}

-- the values of the pair under the marks round a symbol that starts at i
abbrev pub column_in : Input → ℕ → Symbol → ℕ → Option ℕ → ℕ
column_in text i (Offside x) m f = column_in text i x (outer_column text i m f) (Some i)
column_in text i (Ignore x) m f = column_in text i x 0 None
column_in text i x m f = m

abbrev pub start_in : Input → ℕ → Symbol → ℕ → Option ℕ → Option ℕ
start_in text i (Offside x) m f = start_in text i x (outer_column text i m f) (Some i)
start_in text i (Ignore x) m f = start_in text i x 0 None
start_in text i x m f = f

pub situated_in : (s : Setting) (text : Input) (x : Symbol) (env other : Environment) (p : Pair) (m : ℕ) (f : Option ℕ) (i : ℕ) → Situated s text env other p m f i →
    Situated s text env other (pair_in s p x) (column_in text i x m f) (start_in text i x m f) i
situated_in s text (Offside x) env other p m f i at =
    situated_in s text x env other (opened_by s p) (outer_column text i m f) (Some i) i (situated_opened s text env other p m f i at)
situated_in s text (Ignore x) env other p m f i at =
    situated_in s text x env other (cleared_by p) 0 None i (situated_cleared s text env other p m f i at)
situated_in s text x env other p m f i at = at

-- tests in a row before a symbol
pub data Row : List Symbol → Symbol → List Symbol → Type 0 where
  last : (y : Symbol) → Row [] y (y ∷ [])
  tested : (e : Expression) (hs : List Symbol) (y : Symbol) (zs : List Symbol) → Row hs y zs → Row (Guard e ∷ hs) y (Guard e ∷ zs)

pub data Behind : List Symbol → Symbol → Symbol → Type 0 where
  behind : (hs : List Symbol) (y : Symbol) (zs : Symbols) → Row hs y (listed zs) → Behind hs y (Seq zs)

abbrev AreGuards : List Symbol → Type 0
AreGuards [] = Unit {0}
AreGuards (Guard e ∷ gs) = AreGuards gs
AreGuards (x ∷ gs) = ⊥

row_of : (hs : List Symbol) (y : Symbol) → AreGuards hs → Row hs y (listed (gathered (hs ++ y ∷ [])))
row_of [] y t = last y
row_of (Guard e ∷ hs) y t = tested e hs y (listed (gathered (hs ++ y ∷ []))) (row_of hs y t)
row_of (x ∷ hs) y t = absurd t

guards_are : (s : Setting) (p : Pair) → AreGuards (guards s p)
guards_are s lacking = tt
guards_are s carried = tt
guards_are s (opened a b) = tt
guards_are s cleared = tt

more_guards : (s : Setting) (al : Bool) (gs : List Symbol) → AreGuards gs → AreGuards (column_guards s al ++ gs)
more_guards s false gs t = t
more_guards s true gs t = t

module _ (s : Setting) (c : DeclKind) where
  -- the tests that a symbol becomes are guards
  lowered_guards : {al : Bool} {p : Pair} {x y : Symbol} {gs : List Symbol} → Lowered s c al p x gs y → AreGuards gs
  lowered_guards (low.literal p word gs proper is) = subst AreGuards (sym is) (guards_are s p)
  lowered_guards (low.one_of p class gs proper is) = subst AreGuards (sym is) (guards_are s p)
  lowered_guards (low.token p name arguments gs known read proper is) = subst AreGuards (sym is) (guards_are s p)
  lowered_guards (low.call p name arguments more2 kind known other into handed read is) = tt
  lowered_guards (low.label p name x y gs written (low.placed p2 x2 y2 gs2 l)) = lowered_guards l
  lowered_guards (low.guard p e read) = tt
  lowered_guards (low.let_be p name e written read) = tt
  lowered_guards (low.opt_in p x y steady it) = tt
  lowered_guards (low.star_in p x y steady it) = tt
  lowered_guards (low.plus_in p x y steady it) = tt
  lowered_guards (low.sep_star_in p x y sep sep2 steady it it2) = tt
  lowered_guards (low.sep_plus_in p x y sep sep2 steady it it2) = tt
  lowered_guards (low.group_in p cs ds steady ch) = tt
  lowered_guards (low.opt_box p bs x y it is) = tt
  lowered_guards (low.star_box al p bs x y it is) = tt
  lowered_guards (low.plus_box al p bs x y it is) = tt
  lowered_guards (low.sep_star_box al p bs x y sep sep2 it it2 is) = tt
  lowered_guards (low.sep_plus_box al p bs x y sep sep2 it it2 is) = tt
  lowered_guards (low.group_box p bs cs ds ch is) = tt
  lowered_guards (low.filtered p x y filters gs (low.placed p2 x2 y2 gs2 l)) = lowered_guards l
  lowered_guards (low.filtered_list p x y filters gs l) = lowered_guards l
  lowered_guards (low.seq p xs ys steady cv) = tt
  lowered_guards (low.entry p bs more2 x y read l is) = tt

  -- a symbol in place stands alone, or behind tests
  pub data Standing (al : Bool) (p : Pair) (x z : Symbol) : Type 0 where
    alone : column_guards s al ≡ [] → Lowered s c (is_aligned x) (pair_in s p x) (reading.bare x) [] z → Standing al p x z
    back_of : (gs : List Symbol) (y : Symbol) → Behind (column_guards s al ++ gs) y z →
        Lowered s c (is_aligned x) (pair_in s p x) (reading.bare x) gs y → Standing al p x z

  pub standing : (al : Bool) (p : Pair) (x z : Symbol) → Item s c al p x z → Standing al p x z
  standing al p x z (low.item al2 p2 x2 y z2 gs l is) = go (column_guards s al) gs refl l is
    where
      go : (cs hs : List Symbol) → column_guards s al ≡ cs → Lowered s c (is_aligned x) (pair_in s p x) (reading.bare x) hs y →
          z ≡ wrapped (column_guards s al ++ hs) y → Standing al p x z
      go [] [] e l is = alone e (subst (λ q. Lowered s c (is_aligned x) (pair_in s p x) (reading.bare x) [] q) (sym (is ∙ ap (λ q. wrapped (q ++ []) y) e)) l)
      go [] (h ∷ hs) e l is = back_of (h ∷ hs) y
          (subst (Behind (column_guards s al ++ h ∷ hs) y) (sym (is ∙ ap (λ q. wrapped (q ++ h ∷ hs) y) e))
          (subst (λ q. Behind (q ++ h ∷ hs) y (wrapped (h ∷ hs) y)) (sym e) (behind (h ∷ hs) y (gathered (h ∷ hs ++ y ∷ [])) (row_of (h ∷ hs) y (lowered_guards l))))) l
      go (d ∷ cs) hs e l is = back_of hs y
          (subst (Behind (column_guards s al ++ hs) y) (sym (is ∙ ap (λ q. wrapped (q ++ hs) y) e))
          (subst (λ q. Behind (q ++ hs) y (wrapped (d ∷ cs ++ hs) y)) (sym e)
          (behind (d ∷ cs ++ hs) y (gathered (d ∷ cs ++ hs ++ y ∷ [])) (row_of (d ∷ cs ++ hs) y (subst (λ q. AreGuards (q ++ hs)) e (more_guards s al hs (lowered_guards l))))))) l
