-- What the filters pass keeps.
use Rattle.std.proofs.Common.{◌≡◌, ◌∙◌, sym, ap, subst}
use Rattle.std.specs.Prelude.{All, Some, slice_get}
use Rattle.std.proofs.lemmas.List.Elements.{All-map}
use Rattle.ig_grammar.specs.Symbol.{Symbol}
use Rattle.ig_grammar.specs.Subterms.{subterms_of_alternatives}
use Rattle.ig_grammar.specs.Numbering.{alternatives}
use Rattle.ig_grammar.specs.Regular.{AlternativesStandWell, AlternativesHaveNoMark}
use Rattle.ig_grammar.specs.Checked.{CheckedGrammar, IsCall}
use Rattle.ig_grammar.specs.declared.symbol.Alt.{Alt}
use Rattle.ig_grammar.specs.declared.declaration.DeclKind.{DeclKind}
use Rattle.ig_grammar.specs.declared.declaration.DeclKind.TheVariants.{Syntax}
use Rattle.ig_grammar.specs.declared.declaration.Decl.{Decl}
use Rattle.ig_pass.specs.Needs.{AlternativesAreEntered}
use Rattle.ig_pass.specs.Rewriting.{rewritten}
use Rattle.ig_pass.specs.Rooted.{rooted}
use Rattle.ig_pass.specs.Sound.{ExcludesOnly, RootHasCallsAlone}
use Rattle.ig_lexical.specs.Filters.{attached, attached_of}
use Rattle.ig_lexical.specs.Laws.{FiltersKeep}
use Rattle.ig_text.proofs.Lists.{contains_from_at, at_from_contains, from_map}
use Rattle.ig_lexical.proofs.AttachedKept.{attached_well, attached_unmarked, attached_entered, attached_excludes}
use Rattle.ig_lexical.proofs.Everywhere.{each_level}
use Rattle.ig_lexical.proofs.FiltersSame.{Given, filters_same, root_start}
use Rattle.ig_lexical.proofs.FiltersScoped.{attached_is_well_scoped}
use Rattle.ig_lexical.proofs.FiltersShaped.{attached_call, attached_fits}
use Rattle.ig_lexical.proofs.KeptSound.{made_free, made_is_sound}
use Rattle.ig_pass.specs.EachLevel.{alternative_at}
use Rattle.ig_lexical.proofs.Pass.{layout_rewritten}
use Rattle.ig_lexical.proofs.RewrittenScoped.{turned, alternative_before}
use Rattle.ig_lexical.proofs.ValuedPass.{filters_keep_values}

abbrev kinds : DeclKind → DeclKind
kinds kind = kind

abbrev own : Decl → Symbol → Symbol
own decl = attached

calls_kept : (c : CheckedGrammar) → RootHasCallsAlone c → RootHasCallsAlone (attached_of c)
calls_kept c alone before decl a at shaped syntactic has =
    let r = from_map (turned kinds own) c.grammar.decls before decl at in
    let k = at_from_contains (alternatives decl.levels) a has in
    let s = alternative_before attached r.0.levels k.0 a (subst (λ (z : Decl). slice_get (alternatives z.levels) k.0 ≡ Some a) r.2 k.1) in
    let m = contains_from_at (alternatives r.0.levels) k.0 s.0.alternative (alternative_at r.0.levels k.0 s.0 s.1) in
    let calls = alone before r.0 s.0.alternative r.1 shaped (ap (λ (z : Decl). z.kind) (sym r.2) ∙ syntactic) m in
    subst (λ (z : Alt). All IsCall z.symbols) (sym s.2)
    (All-map IsCall (rewritten attached) s.0.alternative.symbols (λ i x l. attached_call _ (calls i x l)))

pub filters_kept : Given → FiltersKeep
filters_kept given c sound free none no_layout =
    let d : CheckedGrammar = rooted Syntax c in
    let to_root = given.root.sound c sound in
    let from = to_root.sound in
    let kept = given.root.kept c sound.fit in
    let root = root_start d (given.root.stands d from.fit kept.has) in
    let unmarked = kept.unmarked none in
    let well = each_level kinds own d.grammar AlternativesStandWell AlternativesStandWell (λ decl. attached_well) from.well in
    let entered = each_level kinds own d.grammar AlternativesAreEntered AlternativesAreEntered (λ decl. attached_entered) from.entered in
    record {
      same = filters_same given c sound free no_layout;
      values = given.equivalence.values_chained c d (attached_of d) to_root.same to_root.values
          (filters_keep_values given.found d from.scoped root (kept.layout ∙ no_layout));
      sound = made_is_sound kinds own d from kept.has (attached_is_well_scoped given.passes given.found d.grammar from.scoped unmarked)
          (attached_fits d.grammar d.shapes unmarked from.fit) well entered (calls_kept d from.root_calls);
      free = made_free kinds own d (kept.free free);
      unmarked = each_level kinds own d.grammar AlternativesHaveNoMark AlternativesHaveNoMark (λ decl. attached_unmarked) unmarked;
      no_layout = sym (layout_rewritten own d.grammar.decls) ∙ kept.layout ∙ no_layout;
      excluding = each_level kinds own d.grammar (λ xs. AlternativesStandWell xs × AlternativesHaveNoMark xs) (λ xs. All ExcludesOnly (subterms_of_alternatives xs))
          (λ decl. attached_excludes) (λ decl level m l. (from.well decl level m l, unmarked decl level m l));
    }
