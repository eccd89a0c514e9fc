use Rattle.std.proofs.Common.{refl, chars}
use Rattle.ig_w3c_syntax.specs.View.{token_of}
use Rattle.ig_w3c_syntax.proofs.Read.{read_begin, read_separator, read_token, read_all, read_broken, shorter_separator, shorter_token}
use Rattle.ig_w3c_syntax.proofs.tokenizer.tokenize.Goals as goal

pub loop-c-init : goal.loop-c-init
loop-c-init c = (c.utf8.source, read_begin c.args.source.now c.new-tokens.result.items c.new-tokens.ensures.items)

pub overflow_sub-at : goal.overflow_sub-at
overflow_sub-at c = c.loop-c.invariant.1.within

pub loop-c-smaller-in-Separator : goal.loop-c-smaller-in-Separator
loop-c-smaller-in-Separator c =
    shorter_separator (chars c.loop-c.rest.now) (chars c.in-Separator.behind.now) (rw c.in-Separator.is at c.in_ok-behind.ensures).1

pub loop-c-smaller : goal.loop-c-smaller
loop-c-smaller c =
    shorter_token (chars c.loop-c.rest.now) (chars c.in-Takes.behind.now) (token_of c.in-Takes.token)
    (rw c.in-Takes.is at c.in_ok-behind.ensures).1

pub loop-c-preserved-in-Separator : goal.loop-c-preserved-in-Separator
loop-c-preserved-in-Separator c =
    let g = rw c.in-Separator.is at c.in_ok-behind.ensures in (
      g.0,
      read_separator c.args.source.now c.loop-c.rest.now c.in-Separator.behind.now c.loop-c.tokens.items c.loop-c.invariant.1
          c.loop-c.invariant.0 g.0 g.1,
    )

pub loop-c-preserved : goal.loop-c-preserved
loop-c-preserved c =
    let g = rw c.in-Takes.is at c.in_ok-behind.ensures in (
      g.0,
      read_token c.args.source.now c.loop-c.rest.now c.in-Takes.behind.now c.loop-c.tokens.items c.add.new.tokens.items _
          c.loop-c.invariant.1 c.loop-c.invariant.0 g.0 g.1 refl c.in_ok-add-in-Takes.ensures.ok,
    )

pub returns-in-Broken-clause-fault : goal.returns-in-Broken-clause-fault
returns-in-Broken-clause-fault c =
    read_broken c.args.source.now c.loop-c.rest.now c.loop-c.tokens.items _ c.loop-c.invariant.1
    (rw c.in-Broken.is at c.in_ok-behind.ensures) refl

pub returns-clause-tokens : goal.returns-clause-tokens
returns-clause-tokens c =
    read_all c.args.source.now c.loop-c.rest.now c.loop-c.tokens.items c.loop-c.invariant.1 c.in_default.ensures
