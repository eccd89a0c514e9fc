-- A pass that rewrites the symbols of a grammar with a root keeps it sound, where it keeps it checked.
use Rattle.std.proofs.Common.{◌≡◌, ◌∙◌, true, sym, ap, subst}
use Rattle.ig_text.proofs.Lists.{contains_from_at, at_from_contains, from_map}
use Rattle.ig_grammar.specs.Symbol.{Symbol}
use Rattle.ig_grammar.specs.Regular.{OfEachLevel, AlternativesStandWell}
use Rattle.ig_grammar.specs.Checked.{CheckedGrammar, FitShapes}
use Rattle.ig_grammar.specs.WellScoped.{IsWellScoped}
use Rattle.ig_grammar.specs.declared.declaration.DeclKind.{DeclKind}
use Rattle.ig_grammar.specs.declared.declaration.Decl.{Decl}
use Rattle.ig_meaning.specs.Laws.{HasNoOperators}
use Rattle.ig_pass.specs.Added.{HasNoSign}
use Rattle.ig_pass.specs.Needs.{AlternativesAreEntered}
use Rattle.ig_pass.specs.Rooted.{has_root}
use Rattle.ig_pass.specs.Sound.{IsSound, IsFree, RootHasCallsAlone}
use Rattle.ig_lexical.proofs.Pass.{free_rewritten}
use Rattle.ig_lexical.proofs.RewrittenScoped.{turned, turned_grammar}

-- the grammar that a pass makes
module _ (becomes : DeclKind → DeclKind) (own : Decl → Symbol → Symbol) (c : CheckedGrammar) where
  abbrev pub made : CheckedGrammar
  made = record { grammar = turned_grammar becomes own c.grammar; shapes = c.shapes }

  pub made_free : IsFree c.grammar → IsFree made.grammar
  made_free free other m =
      let at = at_from_contains made.grammar.decls other m in let r = from_map (turned becomes own) c.grammar.decls at.0 other at.1 in
      subst (λ (z : Decl). HasNoOperators z.levels) (sym r.2)
      (free_rewritten (own r.0) r.0.levels (free r.0 (contains_from_at c.grammar.decls at.0 r.0 r.1)))

  pub made_is_sound : IsSound c → has_root c.shapes ≡ true → IsWellScoped made.grammar → FitShapes made.grammar made.shapes → OfEachLevel AlternativesStandWell made.grammar →
      OfEachLevel AlternativesAreEntered made.grammar → RootHasCallsAlone made → IsSound made
  made_is_sound from has scoped fit well entered calls =
      record {
        scoped = scoped;
        fit = fit;
        well = well;
        entered = entered;
        fresh = λ m. has;
        root_named = λ before decl at shaped.
            let r = from_map (turned becomes own) c.grammar.decls before decl at in
            ap (λ (z : Decl). z.name) r.2 ∙ from.root_named before r.0 r.1 shaped;
        root_calls = calls;
        unsigned = λ decl m.
            let at = at_from_contains made.grammar.decls decl m in let r = from_map (turned becomes own) c.grammar.decls at.0 decl at.1 in
            subst (λ (z : Decl). HasNoSign z.name) (sym r.2) (from.unsigned r.0 (contains_from_at c.grammar.decls at.0 r.0 r.1));
      }
