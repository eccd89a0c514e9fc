-- The grammar without levels: what levels ask is asked by two added parameters of each levelled declaration, the least
-- levels on the left and on the right spine. Each alternative tests its own level against them, and hands them on to its
-- operands.
use Rattle.std.specs.Prelude.{ℕ, Bool, true, false, not, ◌&&◌, ◌||◌, List, [], ◌∷◌, ◌++◌, map, if◌then◌else◌, pos}
use Rattle.ig_expr.specs.Expression.{Expression, Integer, Variable, Binary}
use Rattle.ig_text.specs.Words.{is_word}
use Rattle.ig_expr.specs.declared.operator.Op.TheVariants.{GreaterEqual}
use Rattle.ig_expr.specs.declared.kind.Kind.TheVariants as kind
use Rattle.ig_grammar.specs.Symbol.{Symbol, Literal, OneOf, Call, Label, Guard, Let, Opt, Star, Plus, SepStar, SepPlus, Group, Offside, Ignore, Align, Filtered, Seq, Entry}
use Rattle.ig_grammar.specs.Symbol.{Symbols, no_symbols, next_symbol, Alternatives, no_alternatives, next_alternative}
use Rattle.ig_grammar.specs.Numbering.{Levelled, by_level}
use Rattle.ig_meaning.specs.Operands.{left_bound, right_bound}
use Rattle.ig_grammar.specs.Checked.{CheckedGrammar}
use Rattle.ig_grammar.specs.declared.symbol.Alt.{Alt}
use Rattle.ig_grammar.specs.declared.declaration.Assoc.{Assoc}
use Rattle.ig_grammar.specs.declared.declaration.Assoc.TheVariants.{Free, Left, Right, Nonassoc}
use Rattle.ig_grammar.specs.declared.declaration.DeclKind.TheVariants.{Syntax}
use Rattle.ig_grammar.specs.declared.declaration.Level.{Level}
use Rattle.ig_grammar.specs.declared.declaration.Param.{Param}
use Rattle.ig_grammar.specs.declared.declaration.Decl.{Decl}
use Rattle.ig_grammar.specs.declared.grammar.Grammar.{Grammar}
use Rattle.ig_pass.specs.Added.{left_name, right_name}
use Rattle.ig_pass.specs.Rooted.{rooted}

-- neither `left` nor `right` nor `nonassoc`
abbrev pub is_free : Assoc → Bool
is_free Free = true
is_free Left = false
is_free Right = false
is_free Nonassoc = false

-- a declaration with these levels is levelled: it has more than one, or an associativity
abbrev pub is_levelled : List Level → Bool
is_levelled [] = false
is_levelled (level ∷ []) = not (is_free level.assoc)
is_levelled (level ∷ next ∷ others) = true

-- whether the declaration of the name is levelled
abbrev pub names_levelled : List Decl → List ℕ → Bool
names_levelled [] name = false
names_levelled (d ∷ ds) name = if is_word d.name name then is_levelled d.levels else names_levelled ds name

-- the two added arguments of a call: the least level on the left spine, and on the right one
pub record Pair : Type 0 where
  pub left : Expression
  pub right : Expression

-- those of a call that is no operand: nothing is asked
abbrev pub no_pair : Pair
no_pair = record { left = Integer (pos 0); right = Integer (pos 0) }

-- a call of a levelled declaration gets them
abbrev pub pair_arguments : Bool → Pair → List Expression
pair_arguments true pair = pair.left ∷ pair.right ∷ []
pair_arguments false pair = []

-- the symbol, each call of a levelled declaration in it with two arguments more: these where the symbol itself is the
-- call, or a label round it, and no bounds at all calls that stand deeper
module _ (levelled : List ℕ → Bool) where
  abbrev mutual
    pub with_pair : Pair → Symbol → Symbol
    with_pair pair (Literal word) = Literal word
    with_pair pair (OneOf class) = OneOf class
    with_pair pair (Call name arguments) = Call name (arguments ++ pair_arguments (levelled name) pair)
    with_pair pair (Label name x) = Label name (with_pair pair x)
    with_pair pair (Guard e) = Guard e
    with_pair pair (Let name e) = Let name e
    with_pair pair (Opt x) = Opt (with_pair no_pair x)
    with_pair pair (Star x) = Star (with_pair no_pair x)
    with_pair pair (Plus x) = Plus (with_pair no_pair x)
    with_pair pair (SepStar x separator) = SepStar (with_pair no_pair x) (with_pair no_pair separator)
    with_pair pair (SepPlus x separator) = SepPlus (with_pair no_pair x) (with_pair no_pair separator)
    with_pair pair (Group choices) = Group (in_alternatives choices)
    with_pair pair (Offside x) = Offside (with_pair no_pair x)
    with_pair pair (Ignore x) = Ignore (with_pair no_pair x)
    with_pair pair (Align x) = Align (with_pair no_pair x)
    with_pair pair (Filtered x filters) = Filtered (with_pair no_pair x) filters
    with_pair pair (Seq xs) = Seq (in_symbols xs)
    with_pair pair (Entry bindings x) = Entry bindings (with_pair no_pair x)

    pub in_symbols : Symbols → Symbols
    in_symbols no_symbols = no_symbols
    in_symbols (next_symbol x xs) = next_symbol (with_pair no_pair x) (in_symbols xs)

    pub in_alternatives : Alternatives → Alternatives
    in_alternatives no_alternatives = no_alternatives
    in_alternatives (next_alternative xs others) = next_alternative (in_symbols xs) (in_alternatives others)

-- guards and lets
abbrev pub is_test : Symbol → Bool
is_test (Guard e) = true
is_test (Let name e) = true
is_test x = false

abbrev pub only_tests : List Symbol → Bool
only_tests [] = true
only_tests (x ∷ xs) = is_test x && only_tests xs

abbrev pub is_call : List ℕ → Symbol → Bool
is_call own (Call name arguments) = is_word name own
is_call own x = false

-- a call of the nonterminal, or a label directly round one
abbrev pub is_operand : List ℕ → Symbol → Bool
is_operand own (Label label x) = is_call own x
is_operand own x = is_call own x

-- where symbols stand: in an alternative of a levelled declaration of this name, with these bounds for its operands, or
-- elsewhere
pub record Place : Type 0 where
  pub active : Bool
  pub own : List ℕ
  pub left : ℕ
  pub right : ℕ

abbrev pub elsewhere : Place
elsewhere = record { active = false; own = []; left = 0; right = 0 }

-- the symbol, with these behind it, is the left operand: only guards and lets stand before it (`first`), and more
-- behind it
abbrev pub is_left : Place → Bool → Symbol → List Symbol → Bool
is_left p first x others = is_operand p.own x && (p.active && (first && not (only_tests others)))

-- it is the right operand: only guards and lets stand behind it, and more before it
abbrev pub is_right : Place → Bool → Symbol → List Symbol → Bool
is_right p first x others = is_operand p.own x && (p.active && (not first && only_tests others))

-- `.l, b` for a left operand with the bound b, and `b, .r` for a right one
abbrev pub pair_at : Place → Bool → Symbol → List Symbol → Pair
pair_at p first x others =
    if is_left p first x others then record { left = Variable left_name; right = Integer (pos p.left) }
    else if is_right p first x others then record { left = Integer (pos p.right); right = Variable right_name }
    else no_pair

-- the symbols from some place of an alternative on
abbrev pub lowered : (List ℕ → Bool) → Place → Bool → List Symbol → List Symbol
lowered levelled p first [] = []
lowered levelled p first (x ∷ xs) =
    with_pair levelled (pair_at p first x xs) x ∷ lowered levelled p (first && is_test x) xs

-- the left operand, or the right one, is among these symbols
abbrev pub has_left : Place → Bool → List Symbol → Bool
has_left p first [] = false
has_left p first (x ∷ xs) = is_left p first x xs || has_left p (first && is_test x) xs

abbrev pub has_right : Place → Bool → List Symbol → Bool
has_right p first [] = false
has_right p first (x ∷ xs) = is_right p first x xs || has_right p (first && is_test x) xs

-- an alternative of the declaration, with the bounds for its operands
abbrev pub place_in : Decl → Levelled → Place
place_in decl a = record { active = is_levelled decl.levels; own = decl.name; left = left_bound a; right = right_bound a }

-- where there is an operand, the test that the level is at least the bound
abbrev pub test_of : Bool → ℕ → List ℕ → List Symbol
test_of true level name = Guard (Binary GreaterEqual (Integer (pos level)) (Variable name)) ∷ []
test_of false level name = []

-- the tests of the level, then the symbols
abbrev pub symbols_in : (List ℕ → Bool) → Place → ℕ → List Symbol → List Symbol
symbols_in levelled p level symbols =
    test_of (has_left p true symbols) level left_name ++
    (test_of (has_right p true symbols) level right_name ++ lowered levelled p true symbols)

abbrev pub lowered_alternative : (List ℕ → Bool) → Decl → Levelled → Alt
lowered_alternative levelled decl a =
    record { symbols = symbols_in levelled (place_in decl a) a.level a.alternative.symbols }

-- the alternatives as one level, where there was any
abbrev pub one_level : List Level → List Alt → List Level
one_level [] alts = []
one_level (level ∷ levels) alts = record { assoc = Free; alts = alts } ∷ []

-- a levelled declaration has the bounds as parameters
abbrev pub added_parameters : Bool → List Param
added_parameters true = record { name = left_name; kind = kind.Int } ∷ record { name = right_name; kind = kind.Int } ∷ []
added_parameters false = []

-- the declaration with one level
abbrev pub lowered_declaration : (List ℕ → Bool) → Decl → Decl
lowered_declaration levelled decl =
    record {
      kind = decl.kind;
      name = decl.name;
      params = decl.params ++ added_parameters (is_levelled decl.levels);
      levels = one_level decl.levels (map (lowered_alternative levelled decl) (by_level decl.levels));
    }

-- each declaration with one level, whose bounds are parameters
abbrev pub lowered_grammar : Grammar → Grammar
lowered_grammar g = record { start = g.start; tabs = g.tabs; decls = map (lowered_declaration (names_levelled g.decls)) g.decls }

-- the pass that takes levels away
abbrev pub LevelsOf : CheckedGrammar → CheckedGrammar
LevelsOf c = record { grammar = lowered_grammar (rooted Syntax c).grammar; shapes = (rooted Syntax c).shapes }
