-- The shapes of a grammar whose root is written as a declaration fit it, and it stays regular.
use Rattle.std.proofs.Common.{◌≡◌, ◌∙◌, ℕ, suc, ◌<◌, ◌+◌, List, [], ◌∷◌, ◌++◌, Option, Some, None, false, refl, sym, ap, subst, arith, length, inl, inr}
use Rattle.std.specs.Prelude.{◌≢◌, ◌⊎◌, Contains, All, slice_get}
use Rattle.std.proofs.lemmas.Option.{slice_get_within}
use Rattle.std.proofs.lemmas.List.{length-append}
use Rattle.std.proofs.lemmas.List.Elements.{All-nil, All-cons, Contains-push_cases}
use Rattle.ig_text.proofs.Lists.{at_from_contains, contains_one, place_cases}
use Rattle.ig_expr.specs.Expression.{Expression}
use Rattle.ig_text.specs.Pattern.{HasNoEmptyLiteral}
use Rattle.ig_text.specs.Limits.{numbers_end}
use Rattle.ig_grammar.specs.Symbol.{Symbol, Call, Alternatives}
use Rattle.ig_grammar.specs.Alternative.{gathered_alternatives}
use Rattle.ig_grammar.specs.Visible.{Occurrence}
use Rattle.ig_grammar.specs.Numbering.{layout_among, alternatives}
use Rattle.ig_grammar.specs.Condition.{Condition, SymbolMeets, symbols_of}
use Rattle.ig_grammar.specs.Condition as meets
use Rattle.ig_grammar.specs.WellScoped.{IsWellScoped}
use Rattle.ig_grammar.specs.Checked.{CheckedGrammar, FitShapes, FitsShape, IsRoot, IsOfCalls}
use Rattle.ig_grammar.specs.Regular.{IsRegular, OfEachLevel, IsPlaced, IsNoMark, AlternativesHaveNoMark}
use Rattle.ig_grammar.specs.Subterms.{subterms_of_alternatives}
use Rattle.ig_grammar.specs.declared.symbol.Alt.{Alt}
use Rattle.ig_grammar.specs.declared.declaration.Assoc.TheVariants.{Free}
use Rattle.ig_grammar.specs.declared.declaration.DeclKind.TheVariants.{Syntax, Plain}
use Rattle.ig_grammar.specs.declared.declaration.Level.{Level}
use Rattle.ig_grammar.specs.declared.declaration.Decl.{Decl}
use Rattle.ig_grammar.specs.declared.grammar.Grammar.{Grammar}
use Rattle.ig_grammar.specs.declared.place.Shape.{Shape}
use Rattle.ig_grammar.specs.declared.place.Shape.TheVariants as shape
use Rattle.ig_grammar.specs.Counts.{HasFewerThan}
use Rattle.ig_meaning.specs.Permitted.{behind_layout}
use Rattle.ig_pass.specs.Added.{root_name, IsFresh}
use Rattle.ig_pass.specs.Rooted.{calls_of_start, root_symbols, root_declaration, rooted_grammar, has_root}
use Rattle.ig_pass.proofs.FirstNamed.{not_declared}
use Rattle.ig_pass.proofs.RootCalls.{root_occurrence, no_root_shape, start_other, layout_other}

-- each symbol of the root alternative is a call without arguments
pub all_calls : (P : Symbol → Type 0) → ((name : List ℕ) → P (Call name [])) → (l s : Option (List ℕ)) → All P (behind_layout l (calls_of_start s))
all_calls P f None None = All-nil P
all_calls P f None (Some s) = All-cons P (Call s []) [] (f s) (All-nil P)
all_calls P f (Some w) None = All-cons P (Call w []) [] (f w) (All-nil P)
all_calls P f (Some w) (Some s) = All-cons P (Call w []) (Call s [] ∷ []) (f w) (All-cons P (Call s []) [] (f s) (All-nil P))

module _ (c : CheckedGrammar) (scoped : IsWellScoped c.grammar) (fit : FitShapes c.grammar c.shapes) (rootless : has_root c.shapes ≡ false)
    (fresh : IsFresh c.grammar root_name) where
  abbrev g : Grammar
  g = c.grammar

  abbrev r : Decl
  r = root_declaration Syntax c.grammar

  abbrev h : Grammar
  h = rooted_grammar Syntax c.grammar

  abbrev forms : List Shape
  forms = c.shapes ++ shape.Root ∷ []

  only_root : (a : Alt) → Contains (alternatives r.levels) a → a ≡ record { symbols = root_symbols g }
  only_root a m = contains_one (record { symbols = root_symbols g }) a m

  not_called : (name : List ℕ) (o : Occurrence) (arguments : List Expression) → o.symbol ≡ Call name [] →
      (layout_among g.decls ≡ Some name) ⊎ (g.start ≡ Some name) → o.symbol ≢ Call root_name arguments
  not_called name o arguments e (inl l) f = layout_other g scoped fresh name l (let s : Call name [] ≡ Call root_name arguments = sym e ∙ f in cc)
  not_called name o arguments e (inr l) f = start_other g scoped fresh name l (let s : Call name [] ≡ Call root_name arguments = sym e ∙ f in cc)

  uncalled : (other : Decl) (a : Alt) (o : Occurrence) (arguments : List Expression) → Contains h.decls other → Contains (alternatives other.levels) a →
      Contains (symbols_of other a) o → o.symbol ≢ Call root_name arguments
  uncalled other a o arguments among has occurs = go (Contains-push_cases g.decls r other among)
    where
      go : Contains g.decls other ⊎ (r ≡ other) → o.symbol ≢ Call root_name arguments
      go (inl m) e =
          let b = at_from_contains g.decls other m in let k = at_from_contains (alternatives other.levels) a has in let s = at_from_contains (symbols_of other a) o occurs in
          scoped (record { decl = suc b.0; alt = suc k.0; symbol = suc s.0 }) meets.UnknownName
          (other, b.1, (a, k.1, (o, s.1, subst (λ x. SymbolMeets g.decls other.kind o.visible x meets.UnknownName) (sym e) (meets.unknown_name root_name arguments (not_declared g.decls root_name fresh)))))
      go (inr same) e =
          let only = only_root a (subst (λ d. Contains (alternatives d.levels) a) (sym same) has) in
          let s = at_from_contains (symbols_of r (record { symbols = root_symbols g })) o (subst (λ b. Contains (symbols_of r b) o) only (subst (λ d. Contains (symbols_of d a) o) (sym same) occurs)) in
          let q = root_occurrence (layout_among g.decls) g.start s.0 o s.1 in
          not_called q.0 o arguments q.1 q.2 e

  after_rules : (k : ℕ) → slice_get forms k ≡ Some shape.Rule → k < length g.decls
  after_rules k e = go (place_cases c.shapes shape.Root shape.Rule k e)
    where
      go : (slice_get c.shapes k ≡ Some shape.Rule) ⊎ ((k ≡ length c.shapes) × (shape.Root ≡ shape.Rule)) → k < length g.decls
      go (inl f) = subst (λ n. k < n) fit.counted (slice_get_within c.shapes k shape.Rule f)
      go (inr f) = absurd (let e = f.1 in cc)

  is_root : IsRoot h forms (length g.decls) r
  is_root =
      record {
        start = refl;
        no_layout = λ e. cc;
        after_rules = after_rules;
        uncalled = uncalled;
        calls = λ a m. subst (λ b. All IsOfCalls b.symbols) (sym (only_root a m)) (all_calls IsOfCalls (λ name. tt) (layout_among g.decls) g.start);
      }

  each : (before : ℕ) (decl : Decl) (s : Shape) → slice_get h.decls before ≡ Some decl → slice_get forms before ≡ Some s → FitsShape h forms before decl s
  each before decl s e f = go (place_cases g.decls r decl before e) (place_cases c.shapes shape.Root s before f)
    where
      go : (slice_get g.decls before ≡ Some decl) ⊎ ((before ≡ length g.decls) × (r ≡ decl)) → (slice_get c.shapes before ≡ Some s) ⊎ ((before ≡ length c.shapes) × (shape.Root ≡ s)) → FitsShape h forms before decl s
      go (inl a) (inl b) =
          let q = fit.each before decl s a b in
          record { count = q.count; level = q.level; root = λ t. absurd (no_root_shape c.shapes before rootless (subst (λ z. slice_get c.shapes before ≡ Some z) t b)) }
      go (inl a) (inr b) = let l = slice_get_within g.decls before decl a in let m = b.0 in let n = fit.counted in absurd (omega (arith, l, m, n))
      go (inr a) (inl b) = let l = slice_get_within c.shapes before s b in let m = a.0 in let n = fit.counted in absurd (omega (arith, l, m, n))
      go (inr a) (inr b) =
          let whole : FitsShape h forms (length g.decls) r shape.Root = record { count = refl; level = λ t. refl; root = λ t. is_root } in
          subst (λ z. FitsShape h forms before decl z) b.1 (subst (λ z. FitsShape h forms before z shape.Root) a.1 (subst (λ z. FitsShape h forms z r shape.Root) (sym a.0) whole))

  pub rooted_fits : FitShapes h forms
  rooted_fits =
      record {
        counted = length-append c.shapes (shape.Root ∷ []) ∙ ap (λ n. n + 1) fit.counted ∙ sym (length-append g.decls (r ∷ []));
        each = each;
      }

abbrev root_alternatives : Option (List ℕ) → Option (List ℕ) → Alternatives
root_alternatives l s = gathered_alternatives (record { symbols = behind_layout l (calls_of_start s) } ∷ [])

-- what holds of each call without arguments holds throughout the root alternative
root_symbols_all : (P : Symbol → Type 0) → ((name : List ℕ) → P (Call name [])) → (l s : Option (List ℕ)) → All P (subterms_of_alternatives (root_alternatives l s))
root_symbols_all P f None None = All-nil P
root_symbols_all P f None (Some s) = All-cons P (Call s []) [] (f s) (All-nil P)
root_symbols_all P f (Some w) None = All-cons P (Call w []) [] (f w) (All-nil P)
root_symbols_all P f (Some w) (Some s) = All-cons P (Call w []) (Call s [] ∷ []) (f w) (All-cons P (Call s []) [] (f s) (All-nil P))

abbrev root_level : Grammar → Level
root_level g = record { assoc = Free; alts = record { symbols = root_symbols g } ∷ [] }

-- what holds of each symbol, and of each call without arguments, holds of each symbol of the rooted grammar
pub each_symbol : (P : Symbol → Type 0) → ((name : List ℕ) → P (Call name [])) → (g : Grammar) → OfEachLevel (λ choices. All P (subterms_of_alternatives choices)) g →
    OfEachLevel (λ choices. All P (subterms_of_alternatives choices)) (rooted_grammar Syntax g)
each_symbol P calls g f decl level among has = go (Contains-push_cases g.decls (root_declaration Syntax g) decl among)
  where
    go : Contains g.decls decl ⊎ (root_declaration Syntax g ≡ decl) → All P (subterms_of_alternatives (gathered_alternatives level.alts))
    go (inl m) = f decl level m has
    go (inr same) =
        let only = contains_one (root_level g) level (subst (λ (d : Decl). Contains d.levels level) (sym same) has) in
        subst (λ (z : Level). All P (subterms_of_alternatives (gathered_alternatives z.alts))) (sym only) (root_symbols_all P calls (layout_among g.decls) g.start)

pub calls_are_placed : (name : List ℕ) → IsPlaced (Call name [])
calls_are_placed name = (All-nil HasNoEmptyLiteral, tt)

-- the root is not plain
pub plain_before : (g : Grammar) (decl : Decl) → Contains (rooted_grammar Syntax g).decls decl → decl.kind ≡ Plain → Contains g.decls decl
plain_before g decl among plain = go (Contains-push_cases g.decls (root_declaration Syntax g) decl among)
  where
    go : Contains g.decls decl ⊎ (root_declaration Syntax g ≡ decl) → Contains g.decls decl
    go (inl m) = m
    go (inr same) = absurd (let e : Syntax ≡ Plain = ap (λ (d : Decl). d.kind) same ∙ plain in cc)

pub rooted_is_unmarked : (g : Grammar) → OfEachLevel AlternativesHaveNoMark g → OfEachLevel AlternativesHaveNoMark (rooted_grammar Syntax g)
rooted_is_unmarked g none = each_symbol IsNoMark (λ name. tt) g none

pub rooted_is_regular : (g : Grammar) → IsRegular g → HasFewerThan numbers_end (rooted_grammar Syntax g) → IsRegular (rooted_grammar Syntax g)
rooted_is_regular g w fewer =
    record {
      well = each_symbol IsPlaced calls_are_placed g w.well;
      unmarked = λ decl among plain. rooted_is_unmarked g (w.unmarked decl (plain_before g decl among plain) plain);
      counted = fewer;
    }
