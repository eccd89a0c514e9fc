-- What is told, from what was computed.
use Rattle.std.proofs.Common.{◌≡◌, ◌↔◌, ℕ, List, Bool, IsTrue, Option, Result, Ok, Err, Vec, Global, sym, subst}
use Rattle.std.specs.Prelude.{IfOk}
use Rattle.std.specs.declared.alloc.AllocError.{AllocError}
use Rattle.ig_text.specs.declared.text.Span.{Span}
use Rattle.ig_grammar.specs.Checked.{CheckedGrammar}
use Rattle.ig_forest_tables.specs.Forest.{Forest}
use Rattle.ig_heights.specs.Heights.{Heights, AreHeights, IsCyclic}
use Rattle.ig_query.specs.Spans.{AreSpansOf}
use Rattle.ig_show_trees.specs.QueryText.{cyclic_text, spans_text}
use Rattle.ig_command_answers.specs.Questions.{IsWanted, TellsCyclic, TellsSpans}

pub cyclic_told : (f : Forest) (heights : Heights) (answer : Bool) (r : Result (Vec ℕ Global) AllocError) → AreHeights f heights →
    answer ≡ heights.cyclic → IfOk r (λ text. text.items ≡ cyclic_text answer) → IfOk r (λ text. TellsCyclic f text.items)
cyclic_told f heights answer (Ok text) are same told =
    let exact : IsTrue answer ↔ IsCyclic f = subst (λ (z : Bool). IsTrue z ↔ IsCyclic f) (sym same) are.cyclic in
    record { answer = answer; exact = exact; text_is = told }
cyclic_told f heights answer (Err x) are same told = tt

pub spans_told : (c : CheckedGrammar) (f : Forest) (given : Option (List ℕ)) (name : List ℕ) (found : List Span)
    (r : Result (Vec ℕ Global) AllocError) → IsWanted c given name → AreSpansOf f name found →
    IfOk r (λ text. text.items ≡ spans_text found) → IfOk r (λ text. TellsSpans c f given text.items)
spans_told c f given name found (Ok text) wanted are told =
    record { name = name; found = found; wanted = wanted; are = are; text_is = told }
spans_told c f given name found (Err x) wanted are told = tt
