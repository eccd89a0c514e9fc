-- The grammar without lists, options, groups, sequences and entries: each list, option or group is a call of an added
-- declaration, and the symbols of a sequence stand in place.
use Rattle.std.specs.Prelude.{ℕ, suc, ◌+◌, ◌<◌, Bool, not, ◌&&◌, List, [], ◌∷◌, ◌++◌, map, Contains, if◌then◌else◌}
use Rattle.ig_text.specs.Words.{is_word}
use Rattle.ig_expr.specs.Expression.{Expression, Variable}
use Rattle.ig_grammar.specs.Binding.{Binding}
use Rattle.ig_grammar.specs.Visible.{Visible, binds, replaced, parameters}
use Rattle.ig_grammar.specs.Symbol.{Symbol, Call, Label, Opt, Star, Plus, SepStar, SepPlus, Group}
use Rattle.ig_grammar.specs.Symbol.{Offside, Ignore, Align, Filtered, Seq, Entry, gathered}
use Rattle.ig_grammar.specs.Symbol.{Symbols, no_symbols, next_symbol, Alternatives, no_alternatives, next_alternative}
use Rattle.ig_grammar.specs.Checked.{CheckedGrammar}
use Rattle.ig_grammar.specs.declared.symbol.Alt.{Alt}
use Rattle.ig_grammar.specs.declared.declaration.Assoc.TheVariants.{Free}
use Rattle.ig_grammar.specs.declared.declaration.DeclKind.TheVariants.{Plain, Syntax}
use Rattle.ig_grammar.specs.declared.declaration.Level.{Level}
use Rattle.ig_grammar.specs.declared.declaration.Param.{Param}
use Rattle.ig_grammar.specs.declared.declaration.Decl.{Decl}
use Rattle.ig_grammar.specs.declared.grammar.Grammar.{Grammar}
use Rattle.ig_grammar.specs.declared.place.Shape.{Shape}
use Rattle.ig_grammar.specs.declared.place.Shape.TheVariants as shape
use Rattle.ig_pass.specs.Added.{added_name, numbers_bound}
use Rattle.ig_pass.specs.Needs.{needs, is_added}
use Rattle.ig_pass.specs.Rooted.{rooted}

-- how many declarations are added for a symbol
abbrev mutual
  pub count : Symbol → ℕ
  count (Label name x) = count x
  count (Opt x) = suc (count x)
  count (Star x) = suc (count x)
  count (Plus x) = suc (count x)
  count (SepStar x separator) = suc (suc (count x + count separator))
  count (SepPlus x separator) = suc (count x + count separator)
  count (Group choices) = suc (count_alternatives choices)
  count (Offside x) = count x
  count (Ignore x) = count x
  count (Align x) = count x
  count (Filtered x filters) = count x
  count (Seq xs) = count_symbols xs
  count (Entry bindings x) = count x
  count x = 0

  pub count_symbols : Symbols → ℕ
  count_symbols no_symbols = 0
  count_symbols (next_symbol x xs) = count x + count_symbols xs

  pub count_alternatives : Alternatives → ℕ
  count_alternatives no_alternatives = 0
  count_alternatives (next_alternative xs others) = count_symbols xs + count_alternatives others

-- the variables of these names, in order
abbrev pub keep : (List ℕ → Bool) → Visible → Visible
keep p [] = []
keep p (pair ∷ v) = if p pair.0 then pair ∷ keep p v else keep p v

-- source variables, then those that passes added
abbrev pub params_for : Visible → (List ℕ → Bool) → Visible
params_for v wanted = keep (λ n. not (is_added n) && wanted n) v ++ keep (λ n. is_added n && wanted n) v

-- what a call gives for a parameter: the value of the first binding of its name, or else the variable of that name
abbrev pub argument : List Binding → List ℕ → Expression
argument [] n = Variable n
argument (b ∷ bs) n = if is_word b.name n then b.value else argument bs n

abbrev pub arguments : List Binding → Visible → List Expression
arguments bs [] = []
arguments bs (pair ∷ v) = argument bs pair.0 ∷ arguments bs v

-- a symbol that is no sequence, with the variables visible at it and the number of the next added declaration
pub record Element : Type 0 where
  pub v : Visible
  pub k : ℕ
  pub x : Symbol

abbrev pub element : Visible → ℕ → Symbol → Element
element v k x = record { v = v; k = k; x = x }

-- sequences stand in place
abbrev mutual
  pub elements : Visible → ℕ → Symbol → List Element
  elements v k (Seq xs) = all_elements v k xs
  elements v k x = element v k x ∷ []

  pub all_elements : Visible → ℕ → Symbols → List Element
  all_elements v k no_symbols = []
  all_elements v k (next_symbol x xs) = elements v k x ++ all_elements (v ++ binds v x) (k + count x) xs

-- an added declaration and its shape
pub record Made : Type 0 where
  pub decl : Decl
  pub shape : Shape

abbrev pub params_of : Visible → List Param
params_of [] = []
params_of (pair ∷ v) = record { name = pair.0; kind = pair.1 } ∷ params_of v

abbrev pub alts_of : List (List Symbol) → List Alt
alts_of [] = []
alts_of (xs ∷ others) = record { symbols = xs } ∷ alts_of others

-- a plain declaration of one level
abbrev pub made : List ℕ → Visible → Shape → List (List Symbol) → Made
made name v shape alts =
    record {
      decl =
          record {
            kind = Plain;
            name = name;
            params = params_of v;
            levels = record { assoc = Free; alts = alts_of alts } ∷ [];
          };
      shape = shape;
    }

abbrev pub count_alts : List Alt → ℕ
count_alts [] = 0
count_alts (a ∷ others) = count_symbols (gathered a.symbols) + count_alts others

-- in the declaration of this name, in which added declarations are numbered from 1
module _ (of : List ℕ) where
  -- the call of the k-th added declaration
  abbrev pub entering : ℕ → List Binding → Visible → (List ℕ → Bool) → Symbol
  entering k bs v wanted = Call (added_name of k) (arguments bs (params_for v wanted))

  -- what stands for a symbol that is no sequence
  abbrev pub new_symbol : Visible → ℕ → Symbol → Symbol
  new_symbol v k (Label name x) = Label name (new_symbol v k x)
  new_symbol v k (Filtered x filters) = Filtered (new_symbol v k x) filters
  new_symbol v k (Opt x) = entering k [] v (λ n. needs n (Opt x))
  new_symbol v k (Star x) = entering k [] v (λ n. needs n (Star x))
  new_symbol v k (Plus x) = entering k [] v (λ n. needs n (Plus x))
  new_symbol v k (SepStar x separator) = entering k [] v (λ n. needs n (SepStar x separator))
  new_symbol v k (SepPlus x separator) = entering k [] v (λ n. needs n (SepPlus x separator))
  new_symbol v k (Group choices) = entering k [] v (λ n. needs n (Group choices))
  new_symbol v k (Entry bindings x) = entering k bindings (replaced v v bindings) (λ n. needs n x)
  new_symbol v k x = x

  abbrev pub new_element : Element → Symbol
  new_element e = new_symbol e.v e.k e.x

  -- what stands for a symbol, in place
  abbrev pub new : Visible → ℕ → Symbol → List Symbol
  new v k x = map new_element (elements v k x)

  abbrev pub new_symbols : Visible → ℕ → Symbols → List Symbol
  new_symbols v k xs = map new_element (all_elements v k xs)

  abbrev pub new_alternatives : Visible → ℕ → Alternatives → List (List Symbol)
  new_alternatives v k no_alternatives = []
  new_alternatives v k (next_alternative xs others) =
      new_symbols v k xs ∷ new_alternatives v (k + count_symbols xs) others

  abbrev pub sep_plus_alternatives : Visible → ℕ → Symbol → Symbol → List (List Symbol)
  sep_plus_alternatives v k x separator =
      new v (suc k) x ∷
      (new_symbol v k (SepPlus x separator) ∷ (new v (suc k + count x) separator ++ new v (suc k) x)) ∷ []

  -- the declarations that are added for a symbol: its own, then those of what stands inside it
  abbrev mutual
    pub added : Visible → ℕ → Symbol → List Made
    added v k (Label name x) = added v k x
    added v k (Opt x) =
        made (added_name of k) (params_for v (λ n. needs n (Opt x))) shape.Opt ([] ∷ new v (suc k) x ∷ []) ∷
        added v (suc k) x
    added v k (Star x) =
        made (added_name of k) (params_for v (λ n. needs n (Star x))) shape.Star
        ([] ∷ (new_symbol v k (Star x) ∷ new v (suc k) x) ∷ []) ∷
        added v (suc k) x
    added v k (Plus x) =
        made (added_name of k) (params_for v (λ n. needs n (Plus x))) shape.Plus
        (new v (suc k) x ∷ (new_symbol v k (Plus x) ∷ new v (suc k) x) ∷ []) ∷
        added v (suc k) x
    added v k (SepStar x separator) =
        made (added_name of k) (params_for v (λ n. needs n (SepStar x separator))) shape.SepStar
        ([] ∷ (new_symbol v (suc k) (SepPlus x separator) ∷ []) ∷ []) ∷
        made (added_name of (suc k)) (params_for v (λ n. needs n (SepPlus x separator))) shape.SepPlus
        (sep_plus_alternatives v (suc k) x separator) ∷
        (added v (suc (suc k)) x ++ added v (suc (suc k) + count x) separator)
    added v k (SepPlus x separator) =
        made (added_name of k) (params_for v (λ n. needs n (SepPlus x separator))) shape.SepPlus
        (sep_plus_alternatives v k x separator) ∷
        (added v (suc k) x ++ added v (suc k + count x) separator)
    added v k (Group choices) =
        made (added_name of k) (params_for v (λ n. needs n (Group choices))) shape.Group
        (new_alternatives v (suc k) choices) ∷
        added_alternatives v (suc k) choices
    added v k (Offside x) = added v k x
    added v k (Ignore x) = added v k x
    added v k (Align x) = added v k x
    added v k (Filtered x filters) = added v k x
    added v k (Seq xs) = added_symbols v k xs
    added v k (Entry bindings x) = added (replaced v v bindings) k x
    added v k x = []

    pub added_symbols : Visible → ℕ → Symbols → List Made
    added_symbols v k no_symbols = []
    added_symbols v k (next_symbol x xs) = added v k x ++ added_symbols (v ++ binds v x) (k + count x) xs

    pub added_alternatives : Visible → ℕ → Alternatives → List Made
    added_alternatives v k no_alternatives = []
    added_alternatives v k (next_alternative xs others) =
        added_symbols v k xs ++ added_alternatives v (k + count_symbols xs) others

  abbrev pub new_alts : Visible → ℕ → List Alt → List Alt
  new_alts v k [] = []
  new_alts v k (a ∷ others) =
      record { symbols = new_symbols v k (gathered a.symbols) } ∷
      new_alts v (k + count_symbols (gathered a.symbols)) others

  abbrev pub added_alts : Visible → ℕ → List Alt → List Made
  added_alts v k [] = []
  added_alts v k (a ∷ others) =
      added_symbols v k (gathered a.symbols) ++ added_alts v (k + count_symbols (gathered a.symbols)) others

  abbrev pub new_levels : Visible → ℕ → List Level → List Level
  new_levels v k [] = []
  new_levels v k (level ∷ others) =
      record { assoc = level.assoc; alts = new_alts v k level.alts } ∷
      new_levels v (k + count_alts level.alts) others

  abbrev pub added_levels : Visible → ℕ → List Level → List Made
  added_levels v k [] = []
  added_levels v k (level ∷ others) = added_alts v k level.alts ++ added_levels v (k + count_alts level.alts) others

abbrev pub new_declaration : Decl → Decl
new_declaration decl =
    record {
      kind = decl.kind;
      name = decl.name;
      params = decl.params;
      levels = new_levels decl.name (parameters decl.params) 1 decl.levels;
    }

abbrev pub added_by : Decl → List Made
added_by decl = added_levels decl.name (parameters decl.params) 1 decl.levels

abbrev pub all_added : List Decl → List Made
all_added [] = []
all_added (d ∷ ds) = added_by d ++ all_added ds

abbrev pub decls_of : List Made → List Decl
decls_of ms = map (λ (m : Made). m.decl) ms

abbrev pub forms_of : List Made → List Shape
forms_of ms = map (λ (m : Made). m.shape) ms

-- behind the declarations of the grammar stand those that are added, in the order in which their symbols stand
abbrev pub lowered_grammar : Grammar → Grammar
lowered_grammar g = record { start = g.start; tabs = g.tabs; decls = map new_declaration g.decls ++ decls_of (all_added g.decls) }

abbrev pub lowered : CheckedGrammar → CheckedGrammar
lowered c = record { grammar = lowered_grammar c.grammar; shapes = c.shapes ++ forms_of (all_added c.grammar.decls) }

-- the lists pass; where no declaration stands for the root, it is added as the last one
abbrev pub ListsOf : CheckedGrammar → CheckedGrammar
ListsOf c = rooted Syntax (lowered c)

abbrev pub count_levels : List Level → ℕ
count_levels [] = 0
count_levels (level ∷ others) = count_alts level.alts + count_levels others

-- for each declaration fewer are added than there are numbers for their names
abbrev pub HasFewLists : Grammar → Type 0
HasFewLists g = (decl : Decl) → Contains g.decls decl → count_levels decl.levels < numbers_bound
