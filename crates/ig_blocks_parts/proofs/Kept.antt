-- What the pass keeps.
use Rattle.std.proofs.Common.{◌≡◌, ◌∙◌, [], true, sym, ap, subst}
use Rattle.ig_grammar.specs.Checked.{CheckedGrammar}
use Rattle.ig_grammar.specs.Regular.{IsNoMark}
use Rattle.ig_grammar.specs.Symbol.{gathered}
use Rattle.ig_grammar.specs.Visible.{parameters}
use Rattle.ig_grammar.specs.declared.declaration.DeclKind.TheVariants.{Syntax}
use Rattle.ig_grammar.specs.declared.declaration.Decl.{Decl}
use Rattle.ig_pass.specs.Added.{HasNoSign}
use Rattle.ig_pass.specs.Rooted.{has_root, rooted}
use Rattle.ig_pass.specs.Sound.{IsSound, IsUnmarked}
use Rattle.ig_blocks_parts.specs.Blocks.{setting_of, lowered_of}
use Rattle.ig_blocks_parts.specs.Laws.{BlocksKeep}
use Rattle.ig_text.proofs.Lists.{at_from_contains, contains_from_at}
use Rattle.ig_blocks_parts.proofs.Taking.{zip_back, name_kept}
use Rattle.ig_blocks_parts.proofs.Rooting.{IsPrepared, rooted_is_prepared}
use Rattle.ig_blocks_parts.proofs.Permitting.{Given, lowered_is_free, lowered_permits, lowered_keeps_values, made_of}
use Rattle.ig_blocks_parts.proofs.Whole.{sound_there}
use Rattle.ig_blocks_parts.proofs.Giving.{gives, settles, ready_for}
use Rattle.ig_pass.specs.EachLevel.{of_each_level, from_occurrences}
use Rattle.ig_blocks_parts.proofs.Shaped.{lowered_fits, lowered_root_calls}

module _ (given : Given) where
  lowered_is_sound : (c : CheckedGrammar) → IsPrepared c → has_root c.shapes ≡ true → IsSound (lowered_of c)
  lowered_is_sound c prepared has =
      let s = setting_of c.grammar.decls c.shapes in
      let at = given.root.stands c prepared.sound.fit has in
      let there = given.passes.result [] c.grammar (lowered_of c).grammar (ready_for c prepared)
      (gives given.ask given.elsewhere given.found given.new c prepared at) (settles given.ask given.elsewhere given.found given.new c prepared at) in
      record {
        scoped = there.scoped;
        fit = lowered_fits given.ask given.elsewhere given.found c prepared;
        well = there.well;
        entered = there.entered;
        fresh = λ m. has;
        root_named = λ before decl e f.
            let z = zip_back s c.shapes c.grammar.decls before decl e in
            sym (ap (λ (q : Decl). q.name) z.made) ∙ name_kept s z.shape z.d ∙ prepared.sound.root_named before z.d z.has f;
        root_calls = lowered_root_calls given.ask given.elsewhere given.found c prepared;
        unsigned = λ decl m.
            let z = made_of s c.shapes c.grammar.decls decl m in
            subst HasNoSign (sym (name_kept s z.1.shape z.1.d) ∙ ap (λ (q : Decl). q.name) z.1.made)
            (prepared.sound.unsigned z.1.d (contains_from_at c.grammar.decls z.0 z.1.d z.1.has));
      }

  -- no mark is left
  lowered_is_unmarked : (c : CheckedGrammar) → IsPrepared c → IsUnmarked (lowered_of c).grammar
  lowered_is_unmarked c prepared =
      of_each_level IsNoMark (lowered_of c).grammar (λ other b among m.
      let k = at_from_contains (lowered_of c).grammar.decls other among in
      from_occurrences IsNoMark (gathered b.symbols) (parameters other.params)
      (λ o there. (sound_there given.ask given.elsewhere given.found c prepared k.0 other b k.1 m o there).unmarked))

  pub blocks_kept : BlocksKeep
  blocks_kept c sound free margin first column plain =
      let before : IsPrepared c =
      record { sound = sound; free = free; margin = margin; first = first; column = column; plain = plain } in
      let d : CheckedGrammar = rooted Syntax c in
      let prepared : IsPrepared d = rooted_is_prepared given.root c before in
      let has = (given.root.kept c sound.fit).has in
      let at = given.root.stands d prepared.sound.fit has in
      let to = given.root.sound c sound in
      record {
        same = given.equivalence.chained c d (lowered_of d) to.same (lowered_permits given d prepared at);
        values = given.equivalence.values_chained c d (lowered_of d) to.same to.values (lowered_keeps_values given d prepared at);
        sound = lowered_is_sound d prepared has;
        free = lowered_is_free d.grammar d.shapes prepared.free;
        unmarked = lowered_is_unmarked d prepared;
      }
