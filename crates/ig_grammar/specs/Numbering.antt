-- Which declaration and which alternative has a number, and the tag that both give to a tree.
use Rattle.std.specs.Prelude.{◌≡◌, ℕ, suc, ◌+◌, List, [], ◌∷◌, ◌++◌, map, flat_map, length, Option, Some, None, slice_get, if◌then◌else◌, ◌==◌}
use Rattle.ig_text.specs.declared.tag.Tag.{Tag}
use Rattle.ig_text.specs.declared.tag.Tag.TheVariants as tag
use Rattle.ig_grammar.specs.Symbol.{Symbols, Alternatives, no_alternatives, next_alternative}
use Rattle.ig_grammar.specs.declared.symbol.Alt.{Alt}
use Rattle.ig_grammar.specs.declared.declaration.Assoc.{Assoc}
use Rattle.ig_grammar.specs.declared.declaration.DeclKind.{DeclKind}
use Rattle.ig_grammar.specs.declared.declaration.DeclKind.TheVariants.{Layout}
use Rattle.ig_grammar.specs.declared.declaration.Level.{Level}
use Rattle.ig_grammar.specs.declared.declaration.Decl.{Decl}
use Rattle.ig_grammar.specs.declared.grammar.Grammar.{Grammar}
use Rattle.ig_grammar.specs.declared.place.Shape.{Shape}
use Rattle.ig_grammar.specs.declared.place.Shape.TheVariants.{Rule, Opt, Star, Plus, SepPlus, SepStar, Group, Root}

-- an alternative with the number of its level, and the associativity of that level
pub record Levelled : Type 0 where
  pub alternative : Alt
  pub level : ℕ
  pub assoc : Assoc

-- the alternatives of the levels in order; the last level has number 1, the one before it 2, and so on
abbrev pub by_level : List Level → List Levelled
by_level [] = []
by_level (level ∷ others) =
    map (λ a. record { alternative = a; level = length others + 1; assoc = level.assoc }) level.alts ++ by_level others

-- the alternatives of the levels in order
abbrev pub alternatives : List Level → List Alt
alternatives levels = flat_map (λ level. level.alts) levels

-- the declaration has number d, counted from 1
abbrev pub IsDeclaration : Grammar → ℕ → Decl → Type 0
IsDeclaration g d decl = (before : ℕ) × (d ≡ suc before) × (slice_get g.decls before ≡ Some decl)

-- the shape is that of declaration d
abbrev pub HasShape : List Shape → ℕ → Shape → Type 0
HasShape shapes d shape = (before : ℕ) × (d ≡ suc before) × (slice_get shapes before ≡ Some shape)

-- the shapes of a grammar that no pass has changed: each declaration is a rule
abbrev pub as_written : Grammar → List Shape
as_written g = map (λ decl. Rule) g.decls

-- the declaration of the name has number d and this shape
pub record Declares (g : Grammar) (shapes : List Shape) (name : List ℕ) (d : ℕ) (decl : Decl) (shape : Shape) : Type 0 where
  pub numbered : IsDeclaration g d decl
  pub shaped : HasShape shapes d shape
  pub named : decl.name ≡ name

-- the alternative of the declaration that has number k, counted from 1 over all levels
abbrev pub IsAlternative : Decl → ℕ → Levelled → Type 0
IsAlternative decl k a = (before : ℕ) × (k ≡ suc before) × (slice_get (by_level decl.levels) before ≡ Some a)

-- the alternative of a group with so many before it
abbrev pub choice : Alternatives → ℕ → Option Symbols
choice no_alternatives n = None
choice (next_alternative xs others) ℕ.zero = Some xs
choice (next_alternative xs others) (suc n) = choice others n

-- the alternative of a group that has number k, counted from 1
abbrev pub IsChoice : Alternatives → ℕ → Symbols → Type 0
IsChoice choices k xs = (before : ℕ) × (k ≡ suc before) × (choice choices before ≡ Some xs)

-- the first tag for the first alternative, and the second one for the second
abbrev pub tag_among : Tag → Tag → ℕ → Tag
tag_among first second k = if k == 1 then first else second

-- the tag of alternative k of declaration d, which has this shape
abbrev pub tag_of : Shape → ℕ → ℕ → Tag
tag_of Rule d k = tag.Rule d k
tag_of Opt d k = tag_among tag.Absent tag.Present k
tag_of Star d k = tag_among tag.Nil tag.Snoc k
tag_of Plus d k = tag_among tag.One tag.More k
tag_of SepPlus d k = tag_among tag.One tag.More k
tag_of SepStar d k = tag_among tag.Absent tag.Present k
tag_of Group d k = tag.GroupAlt k
tag_of Root d k = tag.Root

abbrev pub name_of_layout : DeclKind → List ℕ → Option (List ℕ) → Option (List ℕ)
name_of_layout Layout name others = Some name
name_of_layout kind name others = others

-- the layout nonterminal, where one is declared
abbrev pub layout_among : List Decl → Option (List ℕ)
layout_among [] = None
layout_among (decl ∷ others) = name_of_layout decl.kind decl.name (layout_among others)
