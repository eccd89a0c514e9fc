-- Grammars that are read have only forms that can be written.
use Rattle.std.proofs.Common.{List, [], ◌∷◌, sym, subst}
use Rattle.std.specs.Prelude.{◌≢◌, All, Contains, Option, ℤ}
use Rattle.std.proofs.lemmas.List.Elements.{All-nil, All-cons, All-contains}
use Rattle.ig_notation_syntax.specs.Token.{Token}
use Rattle.ig_grammar.specs.Symbol.{Symbol, Symbols, Alternatives}
use Rattle.ig_grammar.specs.Alternative.{gathered_alternatives}
use Rattle.ig_grammar.specs.Regular.{OfEachLevel}
use Rattle.ig_grammar.specs.declared.filter.Filter.{Filter}
use Rattle.ig_grammar.specs.declared.declaration.DeclKind.{DeclKind}
use Rattle.ig_grammar.specs.declared.declaration.DeclKind.TheVariants.{Plain}
use Rattle.ig_grammar.specs.declared.declaration.Level.{Level}
use Rattle.ig_grammar.specs.declared.declaration.Decl.{Decl}
use Rattle.ig_grammar.specs.declared.grammar.Grammar.{Grammar}
use Rattle.ig_notation_syntax.specs.Rules as rule
use Rattle.ig_notation_syntax.specs.Rules.{IsPattern, IsSeparated, IsFilter, IsDeclKind, ReadsFilters, ReadsSign, filtered, ReadsSymbol, ReadsMarked, ReadsPost, ReadsAtom, ReadsAlternatives, ReadsAlternative}
use Rattle.ig_notation_syntax.specs.Rules.{ReadsAssociativity, ReadsLevel, ReadsLevels, ReadsParameters, ReadsDeclaration, ReadsDeclarations, ReadsBody, FollowsRules}
use Rattle.ig_notation_syntax.specs.Written.{IsWritten, SymbolsAreWritten, AlternativesAreWritten}
use Rattle.ig_notation_syntax.proofs.Tails.{expression_written, arguments_written}

-- forms that can be written
filtered_written : (x : Symbol) (fs : List Filter) → IsWritten x → IsWritten (filtered x fs)
filtered_written x [] h = h
filtered_written x (f ∷ fs) h = h

sign_written : {s r : List Token} {x y : Symbol} → ReadsSign s r x y → IsWritten x → IsWritten y
sign_written (rule.once r x) h = h
sign_written (rule.option r x) h = h
sign_written (rule.star r x) h = h
sign_written (rule.plus r x) h = h

separated_written : {t : Token} {x y z : Symbol} → IsSeparated t x y z → IsWritten x → IsWritten y → IsWritten z
separated_written (rule.separated_star x y) h k = (h, k)
separated_written (rule.separated_plus x y) h k = (h, k)

mutual
  symbol_written : {s r : List Token} {x : Symbol} → ReadsSymbol s r x → IsWritten x
  symbol_written (rule.guard s r e d) = expression_written d
  symbol_written (rule.let_be n s r e d) = expression_written d
  symbol_written (rule.labelled n s r x d) = marked_written d
  symbol_written (rule.unlabelled s r x d) = marked_written d

  marked_written : {s r : List Token} {x : Symbol} → ReadsMarked s r x → IsWritten x
  marked_written (rule.offside s r x d) = post_written d
  marked_written (rule.ignore s r x d) = post_written d
  marked_written (rule.align s r x d) = post_written d
  marked_written (rule.unmarked s r x d) = post_written d

  post_written : {s r : List Token} {x : Symbol} → ReadsPost s r x → IsWritten x
  post_written (rule.atom s m q r x y z fs d e f h) =
      subst IsWritten (sym h) (filtered_written y fs (sign_written e (atom_written d)))
  post_written (rule.separated t s m q r x y z o fs d e is f h) =
      subst IsWritten (sym h) (filtered_written z fs (separated_written is (marked_written d) (marked_written e)))

  atom_written : {s r : List Token} {x : Symbol} → ReadsAtom s r x → IsWritten x
  atom_written (rule.literal w r) = tt
  atom_written (rule.class c r) = tt
  atom_written (rule.bare_call n r) = All-nil _
  atom_written (rule.call n s r es d) = arguments_written d
  atom_written (rule.group s r ys d) = alternatives_written d

  alternatives_written : {s r : List Token} {ys : Alternatives} → ReadsAlternatives s r ys → AlternativesAreWritten ys
  alternatives_written (rule.last_alternative s r xs d) = (alternative_written d, tt)
  alternatives_written (rule.further_alternative s m r xs ys d e) = (alternative_written d, alternatives_written e)

  alternative_written : {s r : List Token} {xs : Symbols} → ReadsAlternative s r xs → SymbolsAreWritten xs
  alternative_written (rule.no_symbol r) = tt
  alternative_written (rule.further_symbol s m r x xs d e) = (symbol_written d, alternative_written e)

-- levels and declarations
abbrev LevelIs : (Alternatives → Type 0) → Level → Type 0
LevelIs P level = P (gathered_alternatives level.alts)

abbrev LevelsAre : (Alternatives → Type 0) → Decl → Type 0
LevelsAre P d = All (LevelIs P) d.levels

level_written : {s r : List Token} {l : Level} → ReadsLevel s r l → LevelIs AlternativesAreWritten l
level_written (rule.level s m r a alts ys d e h) = subst AlternativesAreWritten h (alternatives_written e)

levels_written : {s r : List Token} {ls : List Level} → ReadsLevels s r ls → All (LevelIs AlternativesAreWritten) ls
levels_written (rule.last_level s r l d) = All-cons (LevelIs AlternativesAreWritten) l [] (level_written d) (All-nil (LevelIs AlternativesAreWritten))
levels_written (rule.further_level s m r l ls d e) = All-cons (LevelIs AlternativesAreWritten) l ls (level_written d) (levels_written e)

not_plain : {t : Token} {k : DeclKind} → IsDeclKind t k → k ≢ Plain
not_plain rule.syntax e = cc
not_plain rule.lexical e = cc
not_plain rule.layout e = cc

abbrev DeclIsWritten : Decl → Type 0
DeclIsWritten d = LevelsAre AlternativesAreWritten d × (d.kind ≢ Plain)

declaration_written : {s r : List Token} {d : Decl} → ReadsDeclaration s r d → DeclIsWritten d
declaration_written (rule.without_parameters t k x s r ls is d) = (levels_written d, not_plain is)
declaration_written (rule.with_parameters t k x s m r ps ls is d e) = (levels_written e, not_plain is)

declarations_written : {s : List Token} {ds : List Decl} → ReadsDeclarations s ds → All DeclIsWritten ds
declarations_written rule.no_declaration = All-nil DeclIsWritten
declarations_written (rule.further_declaration s m d ds e f) = All-cons DeclIsWritten d ds (declaration_written e) (declarations_written f)

written_by : (g : Grammar) → All DeclIsWritten g.decls → OfEachLevel AlternativesAreWritten g × ((d : Decl) → Contains g.decls d → d.kind ≢ Plain)
written_by g all = (
  (λ d l in_grammar in_decl. All-contains (LevelIs AlternativesAreWritten) d.levels l (All-contains DeclIsWritten g.decls d all in_grammar).0 in_decl),
  (λ d in_grammar. (All-contains DeclIsWritten g.decls d all in_grammar).1),
)

body_written : {s : List Token} {tabs : Option ℤ} {ds : List Decl} → ReadsBody s tabs ds → All DeclIsWritten ds
body_written (rule.with_tabs n s ds d) = declarations_written d
body_written (rule.without_tabs s ds d) = declarations_written d

pub grammar_written : {tokens : List Token} {g : Grammar} → FollowsRules tokens g →
    OfEachLevel AlternativesAreWritten g × ((d : Decl) → Contains g.decls d → d.kind ≢ Plain)
grammar_written {g = g} (rule.with_start x s tabs ds d) = written_by g (body_written d)
grammar_written {g = g} (rule.without_start s tabs ds d) = written_by g (body_written d)
