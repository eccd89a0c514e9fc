use Rattle.std.proofs.Common.{◌∙◌, ap, sym}
use Rattle.ig_grammar.specs.View.{symbol_of}
use Rattle.ig_lexical.specs.Layout.{is_token}
use Rattle.ig_lexical.proofs.layout.+is_token.Goals as goal

pub returns-in-Literal : goal.returns-in-Literal
returns-in-Literal t c = ap (λ s. is_token c.args.guide.now (symbol_of s)) (sym c.in-Literal.is)

pub returns-in-Class : goal.returns-in-Class
returns-in-Class t c = ap (λ s. is_token c.args.guide.now (symbol_of s)) (sym c.in-Class.is)

pub returns-in-Call : goal.returns-in-Call
returns-in-Call t c = c.has_lexical.ensures ∙ ap (λ s. is_token c.args.guide.now (symbol_of s)) (sym c.in-Call.is)

pub returns-in-Label : goal.returns-in-Label
returns-in-Label t c =
    c.is_token.ensures ∙ ap (is_token c.args.guide.now) c.as_symbol.ensures ∙
    ap (λ s. is_token c.args.guide.now (symbol_of s)) (sym c.in-Label.is)

pub returns-in-Filtered : goal.returns-in-Filtered
returns-in-Filtered t c =
    c.is_token-in-Filtered.ensures ∙ ap (is_token c.args.guide.now) c.as_symbol-in-Filtered.ensures ∙
    ap (λ s. is_token c.args.guide.now (symbol_of s)) (sym c.in-Filtered.is)
