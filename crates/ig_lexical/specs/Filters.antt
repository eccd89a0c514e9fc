-- Follow and precede filters as guards.
use Rattle.std.specs.Prelude.{List, [], ◌∷◌, ◌++◌, map}
use Rattle.ig_expr.specs.Expression.{Expression, FreeBefore, FreeAfter}
use Rattle.ig_grammar.specs.Symbol.{Symbol, Label, Guard, Filtered, Seq, gathered}
use Rattle.ig_grammar.specs.Checked.{CheckedGrammar}
use Rattle.ig_grammar.specs.declared.declaration.DeclKind.TheVariants.{Syntax}
use Rattle.ig_grammar.specs.declared.filter.Filter.{Filter}
use Rattle.ig_pass.specs.Rewriting.{rewritten_grammar}
use Rattle.ig_pass.specs.Rooted.{rooted}
use Rattle.ig_grammar.specs.declared.filter.Filter.TheVariants.{NotFollowed, NotPreceded, Not}

abbrev pub befores : List Filter → List Expression
befores [] = []
befores (NotPreceded pattern ∷ fs) = FreeBefore pattern ∷ befores fs
befores (f ∷ fs) = befores fs

abbrev pub afters : List Filter → List Expression
afters [] = []
afters (NotFollowed pattern ∷ fs) = FreeAfter pattern ∷ afters fs
afters (f ∷ fs) = afters fs

abbrev pub exclusions : List Filter → List Filter
exclusions [] = []
exclusions (Not pattern ∷ fs) = Not pattern ∷ exclusions fs
exclusions (f ∷ fs) = exclusions fs

-- the symbol with these filters, where there are any
abbrev pub with_filters : Symbol → List Filter → Symbol
with_filters x [] = x
with_filters x (f ∷ fs) = Filtered x (f ∷ fs)

-- the symbol behind and before guards, in a sequence where there are any
abbrev pub guarded : List Expression → List Expression → Symbol → Symbol
guarded [] [] x = x
guarded before after x = Seq (gathered (map Guard before ++ x ∷ map Guard after))

-- the pass's own rule
abbrev pub attached : Symbol → Symbol
attached (Label name (Filtered x fs)) = guarded (befores fs) (afters fs) (Label name (with_filters x (exclusions fs)))
attached (Filtered x fs) = guarded (befores fs) (afters fs) (with_filters x (exclusions fs))
attached x = x

-- with filters as guards at each symbol
abbrev pub attached_of : CheckedGrammar → CheckedGrammar
attached_of c = record { grammar = rewritten_grammar (λ decl. attached) c.grammar; shapes = c.shapes }

-- the filters pass
abbrev pub FiltersOf : CheckedGrammar → CheckedGrammar
FiltersOf c = attached_of (rooted Syntax c)
