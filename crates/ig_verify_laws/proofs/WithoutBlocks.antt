-- The pass for blocks adds no integer but 0 and -1.
use Rattle.std.proofs.Common.{List, [], ◌∷◌, ◌++◌, map, Bool, true, false, Option, Some, None, if◌then◌else◌, lit<}
use Rattle.ig_expr.specs.Expression.{Expression}
use Rattle.ig_grammar.specs.Symbol.{Symbol, Literal, OneOf, Call, Label, Guard, Let, Opt, Star, Plus, SepStar, SepPlus, Group, Offside, Ignore, Align, Filtered, Seq, Entry, gathered, listed}
use Rattle.ig_grammar.specs.Symbol.{Symbols, no_symbols, next_symbol, Alternatives, no_alternatives, next_alternative}
use Rattle.ig_grammar.specs.Binding.{Binding}
use Rattle.ig_grammar.specs.declared.declaration.Decl.{Decl}
use Rattle.ig_grammar.specs.declared.declaration.DeclKind.{DeclKind}
use Rattle.ig_grammar.specs.declared.declaration.DeclKind.TheVariants.{Lexical, Syntax, Layout, Plain}
use Rattle.ig_grammar.specs.declared.declaration.Level.{Level}
use Rattle.ig_grammar.specs.declared.place.Shape.{Shape}
use Rattle.ig_grammar.specs.declared.symbol.Alt.{Alt}
use Rattle.ig_blocks_parts.specs.Blocks.{alternative_by, level_by, declaration_by, root_by, lowered_declarations}
use Rattle.ig_blocks_parts.specs.Body.{call_tests, tests_of, arguments_of, body_of, sequence_of, choices_of}
use Rattle.ig_blocks_parts.specs.Setting.{Setting, Pair, lacking, carried, opened, cleared, m_of, f_of, opened_by, cleared_by, inner, pair_bindings, column_bindings, guards, column_guards, extra_by, pair_by, pair_for, wrapped, entered}
use Rattle.ig_pass.specs.Rooted.{is_root}
use Rattle.ig_verify_laws.specs.Ranges.{HasSmallIntegers}
use Rattle.ig_verify_laws.proofs.Fitting.{AltsFit, BindingsFit, ChoicesFit, DeclsFit, EachFits, Fits, LevelsFit, ListFits, SymbolsFit, each_joined, bindings_joined, list_joined, gathered_fit}

abbrev PairFits : Pair → Type 0
PairFits lacking = Unit {0}
PairFits carried = Unit {0}
PairFits (opened a b) = HasSmallIntegers a × HasSmallIntegers b
PairFits cleared = Unit {0}

m_fits : (s : Setting) (p : Pair) → PairFits p → HasSmallIntegers (m_of s p)
m_fits s lacking f = lit< tt
m_fits s carried f = tt
m_fits s (opened a b) f = f.0
m_fits s cleared f = lit< tt

f_fits : (s : Setting) (p : Pair) → PairFits p → HasSmallIntegers (f_of s p)
f_fits s lacking f = lit< tt
f_fits s carried f = tt
f_fits s (opened a b) f = f.1
f_fits s cleared f = lit< tt

cleared_fits : (p : Pair) → PairFits (cleared_by p)
cleared_fits lacking = tt
cleared_fits carried = tt
cleared_fits (opened a b) = tt
cleared_fits cleared = tt

inner_fits : (p : Pair) → PairFits (inner p)
inner_fits lacking = tt
inner_fits carried = tt
inner_fits (opened a b) = tt
inner_fits cleared = tt

bindings_fit : (s : Setting) (p : Pair) → PairFits p → BindingsFit (pair_bindings s p)
bindings_fit s lacking f = tt
bindings_fit s carried f = tt
bindings_fit s (opened a b) f = (f.0, (f.1, tt))
bindings_fit s cleared f = (lit< tt, (lit< tt, tt))

columns_fit : (s : Setting) (b : Bool) → BindingsFit (column_bindings s b)
columns_fit s true = (tt, tt)
columns_fit s false = tt

guards_fit : (s : Setting) (p : Pair) → PairFits p → ListFits (guards s p)
guards_fit s lacking f = tt
guards_fit s carried f = ((tt, tt), tt)
guards_fit s (opened a b) f = (f, tt)
guards_fit s cleared f = tt

column_guards_fit : (s : Setting) (b : Bool) → ListFits (column_guards s b)
column_guards_fit s true = ((tt, tt), tt)
column_guards_fit s false = tt

call_tests_fit : (s : Setting) (p : Pair) (kind : Option DeclKind) → PairFits p → ListFits (call_tests s p kind)
call_tests_fit s p (Some Lexical) f = guards_fit s p f
call_tests_fit s p (Some Syntax) f = tt
call_tests_fit s p (Some Layout) f = tt
call_tests_fit s p (Some Plain) f = tt
call_tests_fit s p None f = tt

opened_fits : (s : Setting) (p : Pair) → PairFits p → PairFits (opened_by s p)
opened_fits s p f = ((m_fits s p f, f_fits s p f), tt)

tests_fit : (s : Setting) (p : Pair) (x : Symbol) → PairFits p → ListFits (tests_of s p x)
tests_fit s p (Literal word) f = guards_fit s p f
tests_fit s p (OneOf class) f = guards_fit s p f
tests_fit s p (Call name arguments) f = call_tests_fit s p (s.kind_of name) f
tests_fit s p (Label name x) f = tests_fit s p x f
tests_fit s p (Offside x) f = tests_fit s (opened_by s p) x (opened_fits s p f)
tests_fit s p (Ignore x) f = tests_fit s (cleared_by p) x (cleared_fits p)
tests_fit s p (Filtered x filters) f = tests_fit s p x f
tests_fit s p x f = tt

extra_fits : (b : Bool) (e g : Expression) → HasSmallIntegers e → HasSmallIntegers g → EachFits (extra_by b e g)
extra_fits true e g a b = (a, (b, tt))
extra_fits false e g a b = tt

arguments_fit : (s : Setting) (p : Pair) (kind : Option DeclKind) (es : List Expression) → PairFits p → EachFits es →
    EachFits (arguments_of s p kind es)
arguments_fit s p (Some Lexical) es f a = a
arguments_fit s p (Some Syntax) es f a =
    each_joined es _ a (extra_fits (s.paired Syntax) (m_of s p) (f_of s p) (m_fits s p f) (f_fits s p f))
arguments_fit s p (Some Layout) es f a =
    each_joined es _ a (extra_fits (s.paired Layout) (m_of s p) (f_of s p) (m_fits s p f) (f_fits s p f))
arguments_fit s p (Some Plain) es f a =
    each_joined es _ a (extra_fits (s.paired Plain) (m_of s p) (f_of s p) (m_fits s p f) (f_fits s p f))
arguments_fit s p None es f a = a

wrapped_fits : (gs : List Symbol) (y : Symbol) → ListFits gs → Fits y → Fits (wrapped gs y)
wrapped_fits [] y g a = a
wrapped_fits (x ∷ gs) y g a = (g.0, gathered_fit (gs ++ y ∷ []) (list_joined gs (y ∷ []) g.1 (a, tt)))

entered_fits : (bs : List Binding) (y : Symbol) → BindingsFit bs → Fits y → Fits (entered bs y)
entered_fits [] y b a = a
entered_fits (x ∷ bs) y b a = (b, a)

bound_fits : (s : Setting) (p : Pair) (al : Bool) → PairFits p → BindingsFit (pair_bindings s p ++ column_bindings s al)
bound_fits s p al f = bindings_joined (pair_bindings s p) (column_bindings s al) (bindings_fit s p f) (columns_fit s al)

item_tests_fit : (s : Setting) (p : Pair) (al : Bool) (x : Symbol) → ListFits (column_guards s al ++ tests_of s (inner p) x)
item_tests_fit s p al x =
    list_joined (column_guards s al) (tests_of s (inner p) x) (column_guards_fit s al) (tests_fit s (inner p) x (inner_fits p))

mutual
  body_fits : (s : Setting) (al : Bool) (p : Pair) (x : Symbol) → PairFits p → Fits x → Fits (body_of s al p x)
  body_fits s al p (Literal word) f a = tt
  body_fits s al p (OneOf class) f a = tt
  body_fits s al p (Call name arguments) f a = arguments_fit s p (s.kind_of name) arguments f a
  body_fits s al p (Label name x) f a = body_fits s false p x f a
  body_fits s al p (Guard e) f a = a
  body_fits s al p (Let name e) f a = a
  body_fits s al p (Opt x) f a =
      entered_fits (pair_bindings s p ++ column_bindings s false) _ (bound_fits s p false f)
      (wrapped_fits (tests_of s (inner p) x) (body_of s false (inner p) x) (tests_fit s (inner p) x (inner_fits p))
      (body_fits s false (inner p) x (inner_fits p) a))
  body_fits s al p (Star x) f a =
      entered_fits (pair_bindings s p ++ column_bindings s al) _ (bound_fits s p al f)
      (wrapped_fits (column_guards s al ++ tests_of s (inner p) x) (body_of s false (inner p) x) (item_tests_fit s p al x)
      (body_fits s false (inner p) x (inner_fits p) a))
  body_fits s al p (Plus x) f a =
      entered_fits (pair_bindings s p ++ column_bindings s al) _ (bound_fits s p al f)
      (wrapped_fits (column_guards s al ++ tests_of s (inner p) x) (body_of s false (inner p) x) (item_tests_fit s p al x)
      (body_fits s false (inner p) x (inner_fits p) a))
  body_fits s al p (SepStar x separator) f a =
      entered_fits (pair_bindings s p ++ column_bindings s al) _ (bound_fits s p al f) (
        wrapped_fits (column_guards s al ++ tests_of s (inner p) x) (body_of s false (inner p) x) (item_tests_fit s p al x)
            (body_fits s false (inner p) x (inner_fits p) a.0),
        wrapped_fits (tests_of s (inner p) separator) (body_of s false (inner p) separator)
            (tests_fit s (inner p) separator (inner_fits p)) (body_fits s false (inner p) separator (inner_fits p) a.1),
      )
  body_fits s al p (SepPlus x separator) f a =
      entered_fits (pair_bindings s p ++ column_bindings s al) _ (bound_fits s p al f) (
        wrapped_fits (column_guards s al ++ tests_of s (inner p) x) (body_of s false (inner p) x) (item_tests_fit s p al x)
            (body_fits s false (inner p) x (inner_fits p) a.0),
        wrapped_fits (tests_of s (inner p) separator) (body_of s false (inner p) separator)
            (tests_fit s (inner p) separator (inner_fits p)) (body_fits s false (inner p) separator (inner_fits p) a.1),
      )
  body_fits s al p (Group choices) f a =
      entered_fits (pair_bindings s p ++ column_bindings s false) _ (bound_fits s p false f)
      (choices_fit s (inner p) choices (inner_fits p) a)
  body_fits s al p (Offside x) f a = body_fits s al (opened_by s p) x (opened_fits s p f) a
  body_fits s al p (Ignore x) f a = body_fits s al (cleared_by p) x (cleared_fits p) a
  body_fits s al p (Align x) f a = body_fits s true p x f a
  body_fits s al p (Filtered x filters) f a = body_fits s al p x f a
  body_fits s al p (Seq xs) f a = sequence_fits s p xs f a
  body_fits s al p (Entry bindings x) f a =
      (bindings_joined bindings (pair_bindings s p) a.0 (bindings_fit s p f), body_fits s false (inner p) x (inner_fits p) a.1)

  sequence_fits : (s : Setting) (p : Pair) (xs : Symbols) → PairFits p → SymbolsFit xs → SymbolsFit (sequence_of s p xs)
  sequence_fits s p no_symbols f a = tt
  sequence_fits s p (next_symbol x xs) f a = (
    wrapped_fits (tests_of s p x) (body_of s false p x) (tests_fit s p x f) (body_fits s false p x f a.0),
    sequence_fits s p xs f a.1,
  )

  choices_fit : (s : Setting) (p : Pair) (ys : Alternatives) → PairFits p → ChoicesFit ys → ChoicesFit (choices_of s p ys)
  choices_fit s p no_alternatives f a = tt
  choices_fit s p (next_alternative xs ys) f a = (sequence_fits s p xs f a.0, choices_fit s p ys f a.1)

listed_back : (xs : Symbols) → SymbolsFit xs → ListFits (listed xs)
listed_back no_symbols a = tt
listed_back (next_symbol x xs) a = (a.0, listed_back xs a.1)

alts_by_fit : (s : Setting) (p : Pair) (alts : List Alt) → PairFits p → AltsFit alts → AltsFit (map (alternative_by s p) alts)
alts_by_fit s p [] f a = tt
alts_by_fit s p (x ∷ others) f a = (
  listed_back (sequence_of s p (gathered x.symbols)) (sequence_fits s p (gathered x.symbols) f (gathered_fit x.symbols a.0)),
  alts_by_fit s p others f a.1,
)

levels_by_fit : (s : Setting) (p : Pair) (levels : List Level) → PairFits p → LevelsFit levels →
    LevelsFit (map (level_by s p) levels)
levels_by_fit s p [] f a = tt
levels_by_fit s p (level ∷ others) f a = (alts_by_fit s p level.alts f a.0, levels_by_fit s p others f a.1)

kind_pair_fits : (s : Setting) (kind : DeclKind) → PairFits (pair_for s kind)
kind_pair_fits s kind = go (s.paired kind)
  where
    go : (b : Bool) → PairFits (pair_by b)
    go true = tt
    go false = tt

pub decls_by_fit : (s : Setting) (shapes : List Shape) (ds : List Decl) → DeclsFit ds →
    DeclsFit (lowered_declarations s shapes ds)
decls_by_fit s [] ds a = tt
decls_by_fit s (shape ∷ shapes) [] a = tt
decls_by_fit s (shape ∷ shapes) (d ∷ ds) a = (first (is_root shape), decls_by_fit s shapes ds a.1)
  where
    first : (b : Bool) → LevelsFit (if b then root_by s d else declaration_by s d).levels
    first true = levels_by_fit s lacking d.levels tt a.0
    first false = levels_by_fit s (pair_for s d.kind) d.levels (kind_pair_fits s d.kind) a.0
