-- The notation can say the grammar, so the passes take it.
use Rattle.std.proofs.Common.{◌≡◌, ◌≢◌, ℕ, zero, suc, ◌<◌, List, [], ◌∷◌, Some, All, Contains, slice_get, refl, sym, subst, lit<}
use Rattle.std.specs.Prelude.{codes}
use Rattle.std.proofs.lemmas.List.Elements.{All-nil, All-cons}
use Rattle.std.proofs.lemmas.Option.{same_Some}
use Rattle.unicode_ident.proofs.IdentLemmas.{is_xid_start-ascii}
use Rattle.ig_text.proofs.Lists.{at_from_contains, contains_one}
use Rattle.ig_grammar.specs.Alternative.{gathered_alternatives}
use Rattle.ig_grammar.specs.Regular.{IsRegular}
use Rattle.ig_grammar.specs.Subterms.{subterms_of_alternatives}
use Rattle.ig_grammar.specs.Symbol.{Symbol, Literal, OneOf, Call}
use Rattle.ig_grammar.specs.declared.declaration.Decl.{Decl}
use Rattle.ig_grammar.specs.declared.declaration.DeclKind.TheVariants.{Plain}
use Rattle.ig_grammar.specs.declared.declaration.Level.{Level}
use Rattle.ig_grammar.specs.Name.{IsName}
use Rattle.ig_expr.specs.Expression.{Expression}
use Rattle.ig_core.specs.Lowered.{IsBuildable}
use Rattle.ig_core.specs.Laws.{NotationIsBuildable}
use Rattle.ig_core.specs.Notation.{IsSaid, IsOfNotation, unchanged}
use Rattle.ig_notation.specs.Outcome.{ReadGrammarsAreRegular}
use Rattle.ig_load.specs.Grammar.{LoadGrammar, expressions, levels}
use Rattle.ig_load.specs.Laws.{LoadTextReads}
use Rattle.ig_load.proofs.Scoped.{IsPlain}

said : (x : Symbol) → IsPlain x → IsSaid x
said (Literal word) plain = All-nil IsName
said (OneOf class) plain = All-nil IsName
said (Call name arguments) plain = subst (λ (es : List Expression). IsSaid (Call name es)) (sym plain.1) (All-nil IsName)
said x plain = absurd plain

abbrev ArePlain : List Symbol → Type 0
ArePlain [] = Unit {0}
ArePlain (x ∷ xs) = IsPlain x × ArePlain xs

all_said : (xs : List Symbol) → ArePlain xs → All IsSaid xs
all_said [] plain = All-nil IsSaid
all_said (x ∷ xs) plain = All-cons IsSaid x xs (said x plain.0) (all_said xs plain.1)

-- the symbols of a level
abbrev SaysLevel : Level → Type 0
SaysLevel level = ArePlain (subterms_of_alternatives (gathered_alternatives level.alts))

level_said : (k : ℕ) (level : Level) → slice_get levels k ≡ Some level → SaysLevel level
level_said zero level e = subst SaysLevel (same_Some _ level e) (tt, tt)
level_said (suc zero) level e = subst SaysLevel (same_Some _ level e) ((refl, refl), (tt, ((refl, refl), tt)))
level_said (suc (suc zero)) level e = subst SaysLevel (same_Some _ level e) ((refl, refl), (tt, ((refl, refl), tt)))
level_said (suc (suc (suc zero))) level e =
    subst SaysLevel (same_Some _ level e) ((refl, refl), (tt, ((refl, refl), ((refl, refl), (tt, ((refl, refl), tt))))))
level_said (suc (suc (suc (suc k)))) level e = absurd (cc)

e_is_name : IsName (codes "E")
e_is_name = rw (is_xid_start-ascii 69 (lit< tt)) refl

declaration_is : (decl : Decl) → Contains LoadGrammar.decls decl → expressions ≡ decl
unfolding LoadGrammar
declaration_is decl among = sym (contains_one expressions decl among)

within : (decl : Decl) (level : Level) → expressions ≡ decl → Contains decl.levels level → SaysLevel level
within decl level is among =
    let there = at_from_contains levels level (subst (λ (d : Decl). Contains d.levels level) (sym is) among) in
    level_said there.0 level there.1

of_notation : LoadTextReads → IsRegular LoadGrammar → IsOfNotation LoadGrammar
of_notation text regular =
    record {
      scoped = text.scoped;
      declared = λ decl among. subst (λ (d : Decl). IsName d.name) (declaration_is decl among) e_is_name;
      parameters = λ decl among. subst (λ (d : Decl). All (λ p. IsName p.name) d.params) (declaration_is decl among) (All-nil _);
      within = λ decl level among inside. all_said _ (within decl level (declaration_is decl among) inside);
      well = regular.well;
      kinds = λ decl among. subst (λ (d : Decl). d.kind ≢ Plain) (declaration_is decl among) (λ e. cc);
    }

pub regular : LoadTextReads → ReadGrammarsAreRegular → IsRegular LoadGrammar
regular text law = (law _ LoadGrammar text.utf8 text.reading).0

pub buildable : LoadTextReads → ReadGrammarsAreRegular → NotationIsBuildable → IsBuildable (unchanged LoadGrammar)
buildable text law built = built LoadGrammar (of_notation text (regular text law))
