-- What the pass keeps, before a declaration stands for the root and with one.
use Rattle.std.proofs.Common.{◌≡◌, ◌∙◌, ℕ, ◌+◌, ◌⊎◌, inl, inr, List, [], ◌∷◌, length}
use Rattle.std.proofs.Common.{Some, sym, ap, subst, arith}
use Rattle.std.specs.Prelude.{All, Contains, slice_get}
use Rattle.std.proofs.lemmas.Option.{slice_get_within}
use Rattle.std.proofs.lemmas.List.Elements.{All-nil, All-cons}
use Rattle.ig_text.proofs.Lists.{at_from_contains}
use Rattle.ig_grammar.specs.Checked.{CheckedGrammar}
use Rattle.ig_grammar.specs.Symbol.{Symbol}
use Rattle.ig_grammar.specs.Visible.{parameters}
use Rattle.ig_grammar.specs.declared.declaration.DeclKind.TheVariants.{Syntax}
use Rattle.ig_grammar.specs.declared.declaration.Decl.{Decl}
use Rattle.ig_grammar.specs.declared.place.Shape.TheVariants.{Root}
use Rattle.ig_meaning.specs.Laws.{HasNoOperators, TreesWithoutOperatorsAreClean}
use Rattle.ig_pass.specs.Added.{AddedNamesAreNew, root_name}
use Rattle.ig_pass.specs.Asked.{SymbolsAsk, AsksElsewhere}
use Rattle.ig_pass.specs.Passing.{ResultsAreReady}
use Rattle.ig_pass.specs.Found.{DeclarationsAreFound}
use Rattle.ig_pass.specs.KeptByRoot.{RootKeeps}
use Rattle.ig_pass.specs.Remaining.{IsRemaining, Remains}
use Rattle.ig_pass.specs.Rooted.{rooted}
use Rattle.ig_pass.specs.SameTrees.{SameTreesIsAnEquivalence}
use Rattle.ig_pass.specs.Sound.{RootIsNamed}
use Rattle.ig_ebnf_variables.specs.Laws.{KeptByLists, KeptByLowering, ListsKeep, LoweringKeeps}
use Rattle.ig_ebnf_variables.specs.Lists.{all_added, decls_of, lowered}
use Rattle.ig_ebnf_variables.proofs.Definitions.{MayBeLowered}
use Rattle.ig_ebnf_variables.proofs.LoweredGrammar.{takes_of, new_free}
use Rattle.ig_ebnf_variables.proofs.SameTrees.{lowering_is_the_same, lowering_keeps_values}
use Rattle.ig_ebnf_variables.proofs.Premises.{Given, may_be_lowered}
use Rattle.ig_ebnf_variables.proofs.Remaining.{AllRemain}
use Rattle.ig_ebnf_variables.proofs.StandsWell.{lowered_stands_well, rooted_stands_well}
use Rattle.ig_ebnf_variables.proofs.LoweredScoped.{lowered_is_well_scoped, added_at, added_plainly}
use Rattle.ig_ebnf_variables.proofs.LoweredShaped.{SourceAt, FormAt, either_decl, either_shape, form_plainly, all_remain}
use Rattle.ig_ebnf_variables.proofs.LoweredShaped.{lowered_fits, root_is_fresh}

abbrev Any : List ℕ → Type 0
Any name = Unit {0}

all_of_remain : (xs : List Symbol) → AllRemain Any xs → All (Remains (λ name n. Unit {0})) xs
all_of_remain [] h = All-nil (Remains (λ name n. Unit {0}))
all_of_remain (x ∷ xs) h = All-cons (Remains (λ name n. Unit {0})) x xs h.0 (all_of_remain xs h.1)

module _ (clean : TreesWithoutOperatorsAreClean) (c : CheckedGrammar) (given : Given c) where
  may : MayBeLowered c.grammar c.shapes
  may = may_be_lowered c given

  pub lowering_kept : KeptByLowering c
  lowering_kept =
      record {
        same = lowering_is_the_same clean c may;
        values = lowering_keeps_values clean c may;
        scoped = lowered_is_well_scoped c given;
        fit = lowered_fits c given;
        fresh = root_is_fresh c given;
      }

  lowered_free : (decl : Decl) → Contains (lowered c).grammar.decls decl → HasNoOperators decl.levels
  lowered_free decl among =
      let b = at_from_contains (lowered c).grammar.decls decl among in
      go b.0 (either_decl c given b.0 decl b.1)
    where
      go : (b : ℕ) → SourceAt c given b decl ⊎
          ((m : ℕ) × (slice_get (decls_of (all_added c.grammar.decls)) m ≡ Some decl) ×
          (b ≡ length c.grammar.decls + m)) → HasNoOperators decl.levels
      go b (inl at) =
          subst (λ (z : Decl). HasNoOperators z.levels) (sym at.same)
          (new_free at.source.name (parameters at.source.params) at.source.levels (may.free b at.source at.there))
      go b (inr m) =
          let at = added_at c given m.0 decl m.1 in
          subst (λ (z : Decl). HasNoOperators z.levels) (sym at.same) (added_plainly c given decl at).free

  lowered_remains : IsRemaining (lowered c).grammar
  lowered_remains =
      record {
        no_layout = (takes_of c.grammar c.shapes may).layout ∙ given.no_layout;
        free = lowered_free;
        forms = λ decl a among has. all_of_remain a.symbols
            (all_remain c given Any (λ of k. tt) (λ n source m x e f o inside name es is. tt) decl a among has);
      }

  lowered_named : RootIsNamed (lowered c)
  lowered_named before decl e f =
      go (either_decl c given before decl e) (either_shape c given before Root f)
    where
      go : SourceAt c given before decl ⊎
          ((m : ℕ) × (slice_get (decls_of (all_added c.grammar.decls)) m ≡ Some decl) ×
          (before ≡ length c.grammar.decls + m)) →
          (slice_get c.shapes before ≡ Some Root) ⊎ FormAt c given before Root → decl.name ≡ root_name
      go at (inr p) = absurd ((form_plainly c given before Root p).no_root (sym p.same))
      go (inl at) (inl p) = ap (λ (z : Decl). z.name) at.same ∙ given.sound.root_named before at.source at.there p
      go (inr m) (inl p) =
          let l = slice_get_within c.shapes before Root p in let e = m.2 in let q = may.lengths in
          absurd (omega (arith, l, e, q))

  pub lists_kept : RootKeeps → SameTreesIsAnEquivalence → KeptByLists c
  lists_kept root trees =
      let to = root.checked (lowered c) lowering_kept.scoped lowering_kept.fit lowering_kept.fresh in
      let kept = root.kept (lowered c) lowering_kept.fit in
      record {
        same = trees.chained c (lowered c) (rooted Syntax (lowered c)) lowering_kept.same to.same;
        values = trees.values_chained c (lowered c) (rooted Syntax (lowered c)) lowering_kept.same lowering_kept.values to.values;
        scoped = to.scoped;
        fit = to.fit;
        well = rooted_stands_well (lowered c) (lowered_stands_well c.grammar given.sound.well);
        remaining = kept.remaining lowered_remains;
        root_named = kept.named lowered_named;
        rooted = kept.has;
      }

-- the laws that the proof stands on
pub record Laws : Type 0 where
  pub clean : TreesWithoutOperatorsAreClean
  pub new : AddedNamesAreNew
  pub ask : SymbolsAsk
  pub elsewhere : AsksElsewhere
  pub passes : ResultsAreReady
  pub found : DeclarationsAreFound

pub all_lists_kept : Laws → RootKeeps → SameTreesIsAnEquivalence → ListsKeep
all_lists_kept laws root trees c sound free unmarked no_layout excluding few =
    lists_kept laws.clean c
    (record {
      new = laws.new;
      ask = laws.ask;
      elsewhere = laws.elsewhere;
      passes = laws.passes;
      found = laws.found;
      sound = sound;
      free = free;
      unmarked = unmarked;
      no_layout = no_layout;
      excluding = excluding;
      few = few;
    }) root trees

pub all_lowering_kept : Laws → LoweringKeeps
all_lowering_kept laws c sound free unmarked no_layout excluding few =
    lowering_kept laws.clean c
    (record {
      new = laws.new;
      ask = laws.ask;
      elsewhere = laws.elsewhere;
      passes = laws.passes;
      found = laws.found;
      sound = sound;
      free = free;
      unmarked = unmarked;
      no_layout = no_layout;
      excluding = excluding;
      few = few;
    })
