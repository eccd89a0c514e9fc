-- A pass that rewrites symbols keeps the values of nodes.
use Rattle.std.proofs.Common.{◌≡◌, ◌∙◌, ℕ, List, [], Option, Some, None, inl, inr, length, map, refl, sym, ap, subst}
use Rattle.std.specs.Prelude.{Contains, slice_get}
use Rattle.ig_text.specs.Input.{Input}
use Rattle.ig_text.specs.Tree as plain
use Rattle.ig_text.proofs.Lists.{contains_from_at, mapped_at}
use Rattle.ig_expr.specs.ValuedTree.{Tree}
use Rattle.ig_expr.specs.declared.value.Value.{Value}
use Rattle.ig_grammar.specs.Checked.{CheckedGrammar}
use Rattle.ig_grammar.specs.Condition.{declaration_of}
use Rattle.ig_grammar.specs.Numbering.{Levelled, by_level, Declares, IsAlternative, layout_among}
use Rattle.ig_grammar.specs.Regular.{AlternativesHaveNoMark, OfEachLevel}
use Rattle.ig_grammar.specs.Symbol.{Symbol}
use Rattle.ig_grammar.specs.WellScoped.{IsWellScoped}
use Rattle.ig_grammar.specs.declared.declaration.DeclKind.{DeclKind}
use Rattle.ig_grammar.specs.declared.declaration.DeclKind.TheVariants.{Syntax, Lexical, Layout, Plain}
use Rattle.ig_grammar.specs.declared.declaration.Decl.{Decl}
use Rattle.ig_grammar.specs.declared.grammar.Grammar.{Grammar}
use Rattle.ig_grammar.specs.declared.place.Shape.{Shape}
use Rattle.ig_meaning.specs.Annotated as a
use Rattle.ig_meaning.specs.Annotated.{Bind, Within, Annotates}
use Rattle.ig_meaning.specs.Permitted.{IsRootAlternative, written, declared}
use Rattle.ig_pass.specs.Found.{DeclarationsAreFound}
use Rattle.ig_pass.specs.Rewriting.{rewritten}
use Rattle.ig_pass.specs.SameValues.{KeepsValues}
use Rattle.ig_lexical.proofs.Pass.{rewritten_by_level, levels_rewritten, layout_rewritten}
use Rattle.ig_lexical.proofs.Permitting.{HasRoot}
use Rattle.ig_lexical.proofs.RewrittenScoped.{turned, turned_grammar}
use Rattle.ig_lexical.proofs.Unmarked.{everywhere}
use Rattle.ig_lexical.proofs.ValuedForms.{none_gathered}
use Rattle.ig_lexical.proofs.ValuedGuards.{whole_attached, attached_keeps}
use Rattle.ig_lexical.proofs.ValuedWalk.{Becomes, Moves, bind_too}
use Rattle.ig_lexical.specs.Filters.{attached, attached_of}
use Rattle.ig_lexical.specs.Layout.{is_lexical, declares_lexical, laid_in, laid_of}

module _ (found : DeclarationsAreFound) (c : CheckedGrammar) (scoped : IsWellScoped c.grammar) (root : HasRoot c.grammar c.shapes) where
  abbrev g : Grammar
  g = c.grammar

  abbrev shapes : List Shape
  shapes = c.shapes

  -- the declaration of a name has the kind of its nodes
  sorted : (text : Input) (name : List ℕ) (vs : List Value) (kind : DeclKind) (i e : ℕ) (t : Tree) →
      Within g shapes text name vs kind i e t → declares_lexical (declaration_of g.decls name) ≡ is_lexical kind
  sorted text name vs kind i e t
      (a.alternative _ _ _ d k decl shape by env after _ _ ts _ declares numbered bound same inner tree) =
      ap declares_lexical
      (subst (λ z. declaration_of g.decls z ≡ Some decl) declares.named
      (found.itself g.decls (found.distinct g scoped) declares.numbered.0 decl declares.numbered.2)) ∙
      ap is_lexical (sym same)

  module _ (kinds : DeclKind → DeclKind) (own : Decl → Symbol → Symbol) where
    abbrev h : Grammar
    h = turned_grammar kinds own g

    module _ (text : Input) (becomes : (decl : Decl) (k : ℕ) (by : Levelled) → Contains g.decls decl → IsAlternative decl k by →
        Becomes g shapes h shapes text decl.kind (kinds decl.kind) by.alternative.symbols
        (map (rewritten (own decl)) by.alternative.symbols)) where
      -- the alternative of the same number, rewritten
      moves : (name : List ℕ) (d : ℕ) (decl : Decl) (shape : Shape) (k : ℕ) (by : Levelled) → Declares g shapes name d decl shape →
          IsAlternative decl k by → Moves g shapes h shapes text name d decl shape k by
      moves name d decl shape k by declares numbered =
          let at = declares.numbered in
          record {
            other = turned kinds own decl;
            to = rewritten_by_level (own decl) by;
            declares =
                record {
                  numbered = (at.0, at.1, mapped_at (turned kinds own) g.decls at.0 decl at.2);
                  shaped = declares.shaped;
                  named = declares.named;
                };
            numbered = (
              numbered.0,
              numbered.1,
              ap (λ xs. slice_get xs numbered.0) (levels_rewritten (own decl) decl.levels) ∙
                  mapped_at (rewritten_by_level (own decl)) (by_level decl.levels) numbered.0 by numbered.2,
            );
            params = refl;
            becomes = becomes decl k by (contains_from_at g.decls at.0 decl at.2) numbered;
          }

      -- a root that a declaration stands for has the same values
      annotated : (t : plain.Tree) (u : Tree) → Annotates g shapes text t u → Annotates h shapes text t u
      annotated t u annotates = go annotates.root annotates.binds
        where
          go : {kind : DeclKind} {symbols : List Symbol} → IsRootAlternative g shapes kind symbols →
              Bind g shapes text kind symbols [] 0 (length text.characters) annotates.children annotates.after → Annotates h shapes text t u
          go (written start symbols started unrooted same) binds =
              let r = root start started in absurd (unrooted r.0 r.1 r.2)
          go (declared start d decl by kind symbols started declares numbered same listed) binds =
              let m = moves start d decl _ 1 by declares numbered in
              record {
                kind = m.other.kind;
                symbols = m.to.alternative.symbols;
                children = annotates.children;
                after = annotates.after;
                root = declared start d m.other m.to m.other.kind _ started m.declares m.numbered refl refl;
                binds =
                    bind_too g shapes h shapes text moves (sorted text) m.becomes
                    (subst (λ z. Bind g shapes text z by.alternative.symbols [] 0 (length text.characters) annotates.children annotates.after) same
                    (subst (λ z. Bind g shapes text kind z [] 0 (length text.characters) annotates.children annotates.after) listed binds));
                whole = annotates.whole;
                same = annotates.same;
              }

  -- where layout is called in the open, and no mark is left
  pub layout_keeps_values : OfEachLevel AlternativesHaveNoMark g → KeepsValues c (laid_of c)
  layout_keeps_values unmarked =
      record { values = λ text t u permitted. annotated (λ kind. Plain) own text (becomes text) t u }
    where
      own : Decl → Symbol → Symbol
      own decl = laid_in (layout_among g.decls) g.decls decl.kind

      becomes : (text : Input) (decl : Decl) (k : ℕ) (by : Levelled) → Contains g.decls decl → IsAlternative decl k by →
          Becomes g shapes (turned_grammar (λ kind. Plain) own g) shapes text decl.kind Plain by.alternative.symbols
          (map (rewritten (own decl)) by.alternative.symbols)
      becomes text decl k by among numbered = go (layout_among g.decls) refl decl.kind refl
        where
          there : Grammar
          there = turned_grammar (λ kind. Plain) own g

          xs : List Symbol
          xs = by.alternative.symbols

          calm : (kind : DeclKind) → (kind ≡ Syntax → layout_among g.decls ≡ None) →
              Becomes g shapes there shapes text kind Plain xs (map (rewritten (λ x. x)) xs)
          calm kind quiet =
              inl (record {
                own = λ x. x;
                calm = record { quiet = quiet; still = λ s. absurd (cc); stays = λ x w. refl; keeps = λ x env after i e j ts b. (e, b) };
                symbols = refl;
              })

          go : (o : Option (List ℕ)) → layout_among g.decls ≡ o → (kind : DeclKind) → kind ≡ decl.kind →
              Becomes g shapes there shapes text kind Plain xs (map (rewritten (laid_in o g.decls kind)) xs)
          go None none kind same = calm kind (λ s. none)
          go (Some w) some Syntax same =
              inr (record {
                layout = w;
                declared = some;
                syntax = refl;
                plain = refl;
                unmarked = none_gathered xs (everywhere g unmarked decl k by among numbered);
                symbols = refl;
              })
          go (Some w) some Lexical same = calm Lexical (λ s. absurd (cc))
          go (Some w) some Layout same = calm Layout (λ s. absurd (cc))
          go (Some w) some Plain same = calm Plain (λ s. absurd (cc))

  -- with filters as guards, where no layout is declared
  pub filters_keep_values : layout_among g.decls ≡ None → KeepsValues c (attached_of c)
  filters_keep_values none =
      record {
        values = λ text t u permitted.
            annotated (λ kind. kind) (λ decl. attached) text
            (λ decl k by among numbered.
            inl (record {
              own = attached;
              calm = record {
                quiet = λ s. none;
                still = λ s. sym (layout_rewritten (λ decl. attached) g.decls) ∙ none;
                stays = whole_attached;
                keeps = attached_keeps (turned_grammar (λ kind. kind) (λ decl. attached) g) shapes text decl.kind;
              };
              symbols = refl;
            })) t u;
      }
