-- What the layout pass keeps.
use Rattle.std.proofs.Common.{◌≡◌, ◌∙◌, List, [], ◌∷◌, None, map, refl, sym, ap}
use Rattle.ig_text.proofs.Lists.{at_from_contains, from_map}
use Rattle.ig_grammar.specs.Symbol.{Symbol}
use Rattle.ig_grammar.specs.Numbering.{layout_among}
use Rattle.ig_grammar.specs.Regular.{AlternativesStandWell, AlternativesHaveNoMark}
use Rattle.ig_grammar.specs.Checked.{CheckedGrammar}
use Rattle.ig_grammar.specs.declared.declaration.DeclKind.{DeclKind}
use Rattle.ig_grammar.specs.declared.declaration.DeclKind.TheVariants.{Syntax, Plain}
use Rattle.ig_grammar.specs.declared.declaration.Decl.{Decl}
use Rattle.ig_pass.specs.Needs.{AlternativesAreEntered}
use Rattle.ig_pass.specs.Rooted.{rooted}
use Rattle.ig_pass.specs.Sound.{IsPlain}
use Rattle.ig_lexical.specs.Layout.{laid_in, laid_declaration, laid_of, LayoutOf}
use Rattle.ig_lexical.specs.Laws.{LayoutKeeps}
use Rattle.ig_lexical.proofs.Everywhere.{each_level}
use Rattle.ig_lexical.proofs.FiltersSame.{root_start}
use Rattle.ig_lexical.proofs.KeptSound.{made_free, made_is_sound}
use Rattle.ig_lexical.proofs.LaidKept.{well_in, entered_in, unmarked_in}
use Rattle.ig_lexical.proofs.LayoutSame.{Given, layout_same}
use Rattle.ig_lexical.proofs.LayoutScoped.{laid_is_well_scoped}
use Rattle.ig_lexical.proofs.LayoutShaped.{laid_fits}
use Rattle.ig_lexical.proofs.ValuedPass.{layout_keeps_values}

none_declared : (all decls : List Decl) → layout_among (map (laid_declaration all) decls) ≡ None
none_declared all [] = refl
none_declared all (d ∷ ds) = none_declared all ds

each_plain : (c : CheckedGrammar) → IsPlain (LayoutOf c).grammar
each_plain c decl m =
    let at = at_from_contains (LayoutOf c).grammar.decls decl m in
    let r = from_map (laid_declaration (rooted Syntax c).grammar.decls) (rooted Syntax c).grammar.decls at.0 decl at.1 in
    ap (λ (z : Decl). z.kind) r.2

pub layout_kept : Given → LayoutKeeps
layout_kept given c sound free none =
    let to : DeclKind → DeclKind = λ kind. Plain in
    let d : CheckedGrammar = rooted Syntax c in
    let own : Decl → Symbol → Symbol = λ decl. laid_in (layout_among d.grammar.decls) d.grammar.decls decl.kind in
    let to_root = given.root.sound c sound in
    let from = to_root.sound in
    let kept = given.root.kept c sound.fit in
    let unmarked = kept.unmarked none in
    let root = root_start d (given.root.stands d from.fit kept.has) in
    let well = each_level to own d.grammar AlternativesStandWell AlternativesStandWell
    (λ decl. well_in d.grammar.decls (layout_among d.grammar.decls) decl.kind) from.well in
    let entered = each_level to own d.grammar AlternativesAreEntered AlternativesAreEntered
    (λ decl. entered_in d.grammar.decls (layout_among d.grammar.decls) decl.kind) from.entered in
    record {
      same = layout_same given c sound free none;
      values = given.equivalence.values_chained c d (laid_of d) to_root.same to_root.values
          (layout_keeps_values given.found d from.scoped root unmarked);
      sound = made_is_sound to own d from kept.has (laid_is_well_scoped given.passes given.found d.grammar from.scoped unmarked)
          (laid_fits given.found d.grammar d.shapes from.scoped unmarked from.fit from.root_calls) well entered
          (λ before decl a at shaped syntactic m.
          let r = from_map (laid_declaration d.grammar.decls) d.grammar.decls before decl at in
          let k : Plain ≡ Syntax = ap (λ (z : Decl). z.kind) (sym r.2) ∙ syntactic in absurd (cc));
      free = made_free to own d (kept.free free);
      unmarked = each_level to own d.grammar AlternativesHaveNoMark AlternativesHaveNoMark
          (λ decl. unmarked_in d.grammar.decls (layout_among d.grammar.decls) decl.kind) unmarked;
      plain = each_plain c;
      no_layout = none_declared d.grammar.decls d.grammar.decls;
    }
