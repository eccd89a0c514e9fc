-- What the pass asks of a grammar holds of it with its root, too.
use Rattle.ig_grammar.specs.Checked.{CheckedGrammar}
use Rattle.ig_grammar.specs.declared.declaration.DeclKind.TheVariants.{Syntax}
use Rattle.ig_pass.specs.Added.{margin_name, first_name, column_name}
use Rattle.ig_pass.specs.KeptByRoot.{RootKeeps}
use Rattle.ig_pass.specs.Rooted.{rooted}
use Rattle.ig_pass.specs.Sound.{IsSound, IsFree}
use Rattle.ig_pass.specs.Unbound.{IsUnbound}
use Rattle.ig_blocks_parts.specs.Laws.{PlainIsUnmarked}

-- what the pass asks of a grammar
pub record IsPrepared (c : CheckedGrammar) : Type 0 where
  pub sound : IsSound c
  pub free : IsFree c.grammar
  pub margin : IsUnbound c.grammar margin_name
  pub first : IsUnbound c.grammar first_name
  pub column : IsUnbound c.grammar column_name
  pub plain : PlainIsUnmarked c.grammar

pub rooted_is_prepared : RootKeeps → (c : CheckedGrammar) → IsPrepared c → IsPrepared (rooted Syntax c)
rooted_is_prepared root c prepared =
    let kept = root.kept c prepared.sound.fit in
    record {
      sound = (root.sound c prepared.sound).sound;
      free = kept.free prepared.free;
      margin = kept.unbound margin_name prepared.margin;
      first = kept.unbound first_name prepared.first;
      column = kept.unbound column_name prepared.column;
      plain = λ decl among plain. kept.unmarked (prepared.plain decl (kept.plain decl among plain) plain);
    }
