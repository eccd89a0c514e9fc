-- How spans, values and their lists print, as UTF-8.
use Rattle.std.specs.Prelude.{ℕ, List, ◌++◌, if◌then◌else◌, codes, drop, length}
use Rattle.std.specs.Fmt.{decimal, signed_decimal}
use Rattle.ig_text.specs.declared.text.Span.{Span}
use Rattle.ig_expr.specs.declared.value.Value.{Value}
use Rattle.ig_expr.specs.declared.value.Value.TheVariants as values
use Rattle.ig_show_texts.specs.Listed.{comma_separated}

-- `i..j`, a span's begin and end
abbrev pub places_text : ℕ → ℕ → List ℕ
places_text i j = decimal i ++ (codes ".." ++ decimal j)

abbrev pub span_text : Span → List ℕ
span_text span = places_text span.begin span.end

-- an integer prints in decimal, with `-` where it is negative
abbrev pub value_text : Value → List ℕ
value_text (values.Int number) = signed_decimal number
value_text (values.Bool truth) = if truth then codes "true" else codes "false"
value_text (values.Span span) = span_text span

-- `(v,w)`, the values of a node
abbrev pub values_text : List Value → List ℕ
values_text vs = codes "(" ++ (comma_separated value_text vs ++ codes ")")

-- `[v,w]`, what an environment holds behind the values of its instance, with which it begins
abbrev pub environment_text : List Value → List Value → List ℕ
environment_text vs env = codes "[" ++ (comma_separated value_text (drop (length vs) env) ++ codes "]")
