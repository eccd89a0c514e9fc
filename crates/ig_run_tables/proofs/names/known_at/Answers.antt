use Rattle.std.proofs.Common.{◌∙◌, ap}
use Rattle.ig_item.specs.Core.{numbered}
use Rattle.ig_run_tables.proofs.DotNames.{in_any_case, names_found, forms_found, has_row, has_dots, has_names, has_forms}
use Rattle.ig_run_tables.proofs.names.known_at.Goals as goal

pub returns-clause-names : goal.returns-clause-names
returns-clause-names c =
    λ core m a is has.
    names_found c.names_are_at_dots.ensures core c.args.dots.now c.args.nonterminal c.args.item.alternative c.args.item.dot
    c.in_ok-alternatives.alternatives.now c.in_ok-alternative.alternative.now c.in_ok-names.names.now m a is c.in_ok-alternatives.ensures
    (c.in_ok-alternative.ensures ∙ ap (λ z. numbered z c.args.item.alternative) c.as_slice.ensures) c.in_ok-names.ensures has

pub returns-clause-forms : goal.returns-clause-forms
returns-clause-forms c =
    λ core m a step is has next.
    forms_found core c.args.dots.now c.args.nonterminal c.args.item.alternative c.args.item.dot
    c.in_ok-alternatives.alternatives.now c.in_ok-alternative.alternative.now c.in_ok-names.names.now c.in_ok-forms.forms.now m a step is
    c.in_ok-alternatives.ensures (c.in_ok-alternative.ensures ∙ ap (λ z. numbered z c.args.item.alternative) c.as_slice.ensures)
    c.in_ok-names.ensures c.in_ok-forms.ensures has next

pub returns-in_err-alternatives-clause-none : goal.returns-in_err-alternatives-clause-none
returns-in_err-alternatives-clause-none c =
    in_any_case c.from_residual.result (
    λ core m a step is has next.
    has_row core c.args.dots.now c.args.nonterminal c.args.item.alternative m a is c.in_err-alternatives.ensures has)

pub returns-in_err-alternative-clause-none : goal.returns-in_err-alternative-clause-none
returns-in_err-alternative-clause-none c =
    in_any_case c.from_residual-in_err-alternative.result (
    λ core m a step is has next.
    has_dots core c.args.dots.now c.args.nonterminal c.args.item.alternative c.in_ok-alternatives.alternatives.now m a is
    c.in_ok-alternatives.ensures (c.in_err-alternative.ensures ∙ ap (λ z. numbered z c.args.item.alternative) c.as_slice.ensures) has)

pub returns-in_err-names-clause-none : goal.returns-in_err-names-clause-none
returns-in_err-names-clause-none c =
    in_any_case c.from_residual-in_err-names.result (
    λ core m a step is has next.
    has_names c.names_are_at_dots.ensures core c.args.dots.now c.args.nonterminal c.args.item.alternative c.args.item.dot
    c.in_ok-alternatives.alternatives.now c.in_ok-alternative.alternative.now m a step is c.in_ok-alternatives.ensures
    (c.in_ok-alternative.ensures ∙ ap (λ z. numbered z c.args.item.alternative) c.as_slice.ensures) c.in_err-names.ensures has next)

pub returns-in_err-forms-clause-none : goal.returns-in_err-forms-clause-none
returns-in_err-forms-clause-none c =
    in_any_case c.from_residual-in_err-forms.result (
    λ core m a step is has next.
    has_forms c.names_are_at_dots.ensures core c.args.dots.now c.args.nonterminal c.args.item.alternative c.args.item.dot
    c.in_ok-alternatives.alternatives.now c.in_ok-alternative.alternative.now m a step is c.in_ok-alternatives.ensures
    (c.in_ok-alternative.ensures ∙ ap (λ z. numbered z c.args.item.alternative) c.as_slice.ensures) c.in_err-forms.ensures has next)
