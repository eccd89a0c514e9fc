use Rattle.std.proofs.Common.{◌∙◌, sym, ap, arith}
use Rattle.std.specs.Prelude.{option_map}
use Rattle.std.proofs.lemmas.Option.{none-some}
use Rattle.ig_item.specs.declared.core_grammar.Nonterminal.{Nonterminal}
use Rattle.ig_show_texts.specs.TagText.{tag_text}
use Rattle.ig_forest_reader.proofs.Leading.{some_is}
use Rattle.ig_forest_reader.proofs.TagsTold.{name_is, tag_is, none_more, none_has}
use Rattle.ig_forest_reader.proofs.tags.tag_of.Goals as goal

pub returns-in_default : goal.returns-in_default
returns-in_default c =
    record {
      there = tt;
      exact = λ name named. tt;
      told = λ name choice named q e. absurd (none-some _ (c.in_default.ensures ∙ named));
    }

pub returns-in_default-alternatives : goal.returns-in_default-alternatives
returns-in_default-alternatives c =
    record {
      there = tt;
      exact = λ name named. tt;
      told = λ name choice named q e.
          absurd (none-some _ (sym c.in_default-alternatives.is ∙ c.alternatives.ensures ∙ ap (option_map (λ (x : Nonterminal). _)) q.has.there));
    }

pub returns-in-Some-tag_at : goal.returns-in-Some-tag_at
returns-in-Some-tag_at c =
    let found = some_is _ _ _ c.tag_at.ensures.there c.in-Some-tag_at.is in
    record {
      there = found.0;
      exact = λ name named.
          found.1 ∙ ap (λ z. tag_text z c.in-Some-tag_at.tag) (name_is c.args.core.now c.args.nonterminal c.in-Some.name name c.in-Some.ensures named);
      told = λ name choice named q e.
          let same = name_is c.args.core.now c.args.nonterminal c.in-Some.name name c.in-Some.ensures named in
          tag_is c.args.core.now c.requires c.args.nonterminal name c.in-Some-tag_at.tag choice c.args.bytes.now named found.0 q
          (found.1 ∙ ap (λ z. tag_text z c.in-Some-tag_at.tag) same) e;
    }

pub loop-place-init : goal.loop-place-init
loop-place-init c p x less = absurd (omega (arith, less))

pub returns-in-Some-tag_at-2 : goal.returns-in-Some-tag_at-2
returns-in-Some-tag_at-2 c =
    let found = some_is _ _ _ c.tag_at-in-loop-place.ensures.there c.in-Some-tag_at-2.is in
    record {
      there = found.0;
      exact = λ name named.
          found.1 ∙ ap (λ z. tag_text z c.in-Some-tag_at-2.tag) (name_is c.args.core.now c.args.nonterminal c.in-Some.name name c.in-Some.ensures named);
      told = λ name choice named q e.
          let same = name_is c.args.core.now c.args.nonterminal c.in-Some.name name c.in-Some.ensures named in
          tag_is c.args.core.now c.requires c.args.nonterminal name c.in-Some-tag_at-2.tag choice c.args.bytes.now named found.0 q
          (found.1 ∙ ap (λ z. tag_text z c.in-Some-tag_at-2.tag) same) e;
    }

pub loop-place-preserved : goal.loop-place-preserved
loop-place-preserved c =
    none_more c.args.core.now c.args.nonterminal c.in-Some.name.now c.args.bytes.now c.loop-place.place c.loop-place.invariant
    (c.tag_at-in-loop-place.ensures.none c.in_default-tag_at-2.is)

pub returns : goal.returns
returns c =
    record {
      there = tt;
      exact = λ name named. tt;
      told = λ name choice named q e.
          let same = name_is c.args.core.now c.args.nonterminal c.in-Some.name name c.in-Some.ensures named in
          absurd (none_has c.args.core.now c.args.nonterminal c.in-Some.name.now c.args.bytes.now c.in-Some-alternatives.many choice
          (sym c.in-Some-alternatives.is ∙ c.alternatives.ensures) c.loop-place.place c.loop-place-test.false c.loop-place.invariant q
          (e ∙ ap (λ z. tag_text z choice.tag) (sym same)));
    }
