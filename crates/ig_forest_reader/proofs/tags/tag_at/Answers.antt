use Rattle.std.proofs.Common.{◌∙◌, Some, sym, ap}
use Rattle.std.proofs.lemmas.Option.{none-some}
use Rattle.ig_text.proofs.Booleans.{refuted}
use Rattle.ig_show_texts.specs.TagText.{tag_text}
use Rattle.ig_forest_reader.proofs.TagsTold.{tag_there, no_tag, same_tag}
use Rattle.ig_forest_reader.proofs.tags.tag_at.Goals as goal

pub returns-in_default : goal.returns-in_default
returns-in_default c =
    record {
      there = tt;
      none = λ is x at e. no_tag c.args.core.now c.args.nonterminal c.args.place x (sym c.in_default.is ∙ c.tag.ensures) at;
    }

pub returns-then-is_tag : goal.returns-then-is_tag
returns-then-is_tag c =
    record {
      there = (
        tag_there c.args.core.now c.args.nonterminal c.args.place c.small_tag.result (ap Some c.small_tag.ensures.same ∙ sym c.in-Some.is ∙ c.tag.ensures) c.small_tag.ensures.small,
        c.is_tag.ensures.0 c.if-is_tag.true ∙ ap (tag_text c.args.name.now) (sym c.small_tag.ensures.same),
      );
      none = λ is x at e. absurd (none-some _ (sym is));
    }

pub returns : goal.returns
returns c =
    record {
      there = tt;
      none = λ is x at e.
          refuted c.is_tag.result c.is_tag.ensures c.if-is_tag.false
          (e ∙ ap (tag_text c.args.name.now) (sym (same_tag c.args.core.now c.args.nonterminal c.args.place c.in-Some.tag x (sym c.in-Some.is ∙ c.tag.ensures) at)));
    }
