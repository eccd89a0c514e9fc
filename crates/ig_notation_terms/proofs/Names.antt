-- The names of functions.
use Rattle.std.proofs.Common.{◌≡◌, ◌∙◌, ℕ, List, [], ◌∷◌, Bool, true, false, cond, refl, sym, ap, subst}
use Rattle.std.proofs.lemmas.Bool.{and_parts}
use Rattle.std.specs.Prelude.{Option, Some, None, MatchOption, chars, codes, IsUtf8, ◌&&◌, ◌||◌, if◌then◌else◌}
use Rattle.std.specs.Map.{lookup}
use Rattle.std.specs.Cmp.Lexicographic.{bytes_decides}
use Rattle.ig_text.proofs.Characters.{ascii, chars_of_word}
use Rattle.ig_text.specs.Words.{is_word}
use Rattle.ig_expr.specs.declared.operator.Function.TheVariants as functions
use Rattle.ig_notation_syntax.specs.Rules as rule
use Rattle.ig_notation_syntax.specs.Spelling.{entry}
use Rattle.ig_notation_syntax.specs.Machine as want
use Rattle.ig_notation_syntax.specs.Machine.{after_function}
use Rattle.ig_notation_syntax.specs.Rows.{function_row}
use Rattle.ig_notation_terms.specs.declared.expressions.Named.{Named}
use Rattle.ig_notation_terms.specs.declared.expressions.Named.TheVariants as named
use Rattle.ig_notation_terms.specs.Readers.{IsNamed, named_wants}

abbrev table : List (List ℕ × Named)
table =
    (codes "begin", named.One functions.Begin) ∷ (codes "end", named.One functions.End) ∷ (codes "size", named.One functions.Size) ∷
    (codes "column", named.One functions.Column) ∷ (codes "line", named.One functions.Line) ∷
    (codes "number", named.One functions.Number) ∷ (codes "same", named.Same) ∷ (codes "spells", named.Spells) ∷ []

abbrev all_ascii : List (List ℕ × Named) → Bool
all_ascii [] = true
all_ascii (row ∷ rows) = ascii row.0 && all_ascii rows

abbrev AreNamed : List (List ℕ × Named) → Type 0
AreNamed [] = Unit {0}
AreNamed (row ∷ rows) = IsNamed row.0 row.1 × AreNamed rows

all_named : AreNamed table
all_named = (rule.begin, (rule.end, (rule.size, (rule.column, (rule.line, (rule.number_of, (refl, (refl, tt))))))))

-- what a table has beside a text, by the characters of the text
by_characters : (rows : List (List ℕ × Named)) (text : List ℕ) → all_ascii rows ≡ true → IsUtf8 text →
    entry rows text ≡ lookup (λ w. is_word (chars text) w) rows
by_characters [] text a u = refl
by_characters (row ∷ rows) text a u =
    let p = and_parts (ascii row.0) (all_ascii rows) a in
    rw (chars_of_word row.0 text p.0 u, by_characters rows text p.1 u) refl

-- what stands there is what the name says
first_named : (x w : List ℕ) (n m : Named) (rest : Option Named) (b : Bool) → is_word x w ≡ b → IsNamed w n → cond b (Some n) rest ≡ Some m →
    (rest ≡ Some m → IsNamed x m) → IsNamed x m
first_named x w n m rest true h is e k =
    let same : n ≡ m = cc in
    subst (IsNamed x) same (subst (λ z. IsNamed z n) (sym ((bytes_decides x w).0 h)) is)
first_named x w n m rest false h is e k = k e

named_there : (rows : List (List ℕ × Named)) (x : List ℕ) (m : Named) → AreNamed rows → lookup (λ w. is_word x w) rows ≡ Some m → IsNamed x m
named_there [] x m a e = absurd (cc)
named_there (row ∷ rows) x m a e =
    first_named x row.0 row.1 m (lookup (λ w. is_word x w) rows) (is_word x row.0) refl a.0 e (named_there rows x m a.1)

-- and where nothing does, no function has that name
none_named : (a b c d e f g h : Bool) →
    None ≡ cond a (Some (named.One functions.Begin)) (cond b (Some (named.One functions.End)) (cond c (Some (named.One functions.Size))
    (cond d (Some (named.One functions.Column)) (cond e (Some (named.One functions.Line)) (cond f (Some (named.One functions.Number))
    (cond g (Some named.Same) (cond h (Some named.Spells) None))))))) →
    (if a || b || c || d || e || f then Some (want.expression ∷ want.close_bracket ∷ []) else
    if g then Some (want.expression ∷ want.comma ∷ want.expression ∷ want.close_bracket ∷ []) else
    if h then Some (want.expression ∷ want.comma ∷ want.literal ∷ want.close_bracket ∷ []) else None) ≡ None
none_named true b c d e f g h q = absurd (cc)
none_named false true c d e f g h q = absurd (cc)
none_named false false true d e f g h q = absurd (cc)
none_named false false false true e f g h q = absurd (cc)
none_named false false false false true f g h q = absurd (cc)
none_named false false false false false true g h q = absurd (cc)
none_named false false false false false false true h q = absurd (cc)
none_named false false false false false false false true q = absurd (cc)
none_named false false false false false false false false q = refl

no_function : (x : List ℕ) → None ≡ lookup (λ w. is_word x w) table → after_function x ≡ None
no_function x e =
    none_named (is_word x (codes "begin")) (is_word x (codes "end")) (is_word x (codes "size")) (is_word x (codes "column"))
    (is_word x (codes "line")) (is_word x (codes "number")) (is_word x (codes "same")) (is_word x (codes "spells")) e

pub function_is : (rows : List (List ℕ × Named)) (text : List ℕ) (r : Option Named) → rows ≡ table → IsUtf8 text → r ≡ entry rows text →
    MatchOption r (after_function (chars text) ≡ None) (IsNamed (chars text))
function_is rows text None e u h =
    no_function (chars text) (h ∙ ap (λ z. entry z text) e ∙ by_characters table text refl u)
function_is rows text (Some n) e u h =
    named_there table (chars text) n all_named (sym (h ∙ ap (λ z. entry z text) e ∙ by_characters table text refl u))

-- what the table makes of the name of a function
pub named_rows : (x : List ℕ) (n : Named) → IsNamed x n → after_function x ≡ Some (named_wants n)
named_rows x (named.One f) h = function_row x f h
named_rows x named.Same h = subst (λ z. after_function z ≡ Some (named_wants named.Same)) (sym h) refl
named_rows x named.Spells h = subst (λ z. after_function z ≡ Some (named_wants named.Spells)) (sym h) refl
