-- Which symbol the pass makes of a symbol, as a relation that carries what the proof needs of the source.
use Rattle.std.specs.Prelude.{◌≡◌, ◌≢◌, ◌⊎◌, ℕ, Bool, true, false, List, [], ◌∷◌, ◌++◌, Some}
use Rattle.ig_text.specs.declared.class.Class.{Class}
use Rattle.ig_expr.specs.Expression.{Expression}
use Rattle.ig_grammar.specs.Binding.{Binding}
use Rattle.ig_grammar.specs.Symbol.{Symbol, Literal, OneOf, Call, Label, Guard, Let, Opt, Star, Plus, SepStar, SepPlus, Group, Filtered, Seq, Entry}
use Rattle.ig_grammar.specs.Symbol.{Symbols, listed, Alternatives, no_alternatives, next_alternative}
use Rattle.ig_grammar.specs.declared.filter.Filter.{Filter}
use Rattle.ig_grammar.specs.declared.declaration.DeclKind.{DeclKind}
use Rattle.ig_grammar.specs.declared.declaration.DeclKind.TheVariants.{Syntax, Lexical}
use Rattle.ig_blocks_parts.specs.Setting.{Setting, Pair, lacking, m_of, f_of, inner, pair_bindings, column_bindings, guards, column_guards, extra, wrapped}
use Rattle.ig_blocks_parts.proofs.Reading.{IsWritten, Reads, AllRead, BindingsRead, IsSteady, IsProper, bare, pair_in, is_aligned}

-- in a call of this kind under the pair, the pair is handed on, or not needed
abbrev pub IsHanded : Setting → DeclKind → Pair → Type 0
IsHanded s kind p = (s.paired kind ≡ true) ⊎ ((s.paired kind ≡ false) × (((s.paired Syntax ≡ true) × (kind ≢ Syntax)) ⊎ (p ≡ lacking)))

module _ (s : Setting) (c : DeclKind) where
  mutual
    -- under a pair, aligned or not, a symbol without marks round it becomes tests and a symbol
    pub data Lowered : Bool → Pair → Symbol → List Symbol → Symbol → Type 0 where
      literal : (p : Pair) (word : List ℕ) (gs : List Symbol) → IsProper c p → gs ≡ guards s p →
          Lowered false p (Literal word) gs (Literal word)
      one_of : (p : Pair) (class : Class) (gs : List Symbol) → IsProper c p → gs ≡ guards s p →
          Lowered false p (OneOf class) gs (OneOf class)
      token : (p : Pair) (name : List ℕ) (arguments : List Expression) (gs : List Symbol) →
          s.kind_of name ≡ Some Lexical → AllRead s arguments → IsProper c p → gs ≡ guards s p →
          Lowered false p (Call name arguments) gs (Call name arguments)
      call : (p : Pair) (name : List ℕ) (arguments more : List Expression) (kind : DeclKind) →
          s.kind_of name ≡ Some kind → kind ≢ Lexical → (s.paired Syntax ≡ true → kind ≡ Syntax → c ≡ Syntax) → IsHanded s kind p → AllRead s arguments →
          more ≡ arguments ++ extra s kind (m_of s p) (f_of s p) →
          Lowered false p (Call name arguments) [] (Call name more)
      label : (p : Pair) (name : List ℕ) (x y : Symbol) (gs : List Symbol) → IsWritten s name → Placed p x gs y →
          Lowered false p (Label name x) gs (Label name y)
      guard : (p : Pair) (e : Expression) → Reads s e → Lowered false p (Guard e) [] (Guard e)
      let_be : (p : Pair) (name : List ℕ) (e : Expression) → IsWritten s name → Reads s e →
          Lowered false p (Let name e) [] (Let name e)
      -- a list, an option or a group in place, where its pair is that which is handed down
      opt_in : (p : Pair) (x y : Symbol) → IsSteady p → Item false p x y → Lowered false p (Opt x) [] (Opt y)
      star_in : (p : Pair) (x y : Symbol) → IsSteady p → Item false p x y → Lowered false p (Star x) [] (Star y)
      plus_in : (p : Pair) (x y : Symbol) → IsSteady p → Item false p x y → Lowered false p (Plus x) [] (Plus y)
      sep_star_in : (p : Pair) (x y separator other : Symbol) → IsSteady p → Item false p x y → Item false p separator other →
          Lowered false p (SepStar x separator) [] (SepStar y other)
      sep_plus_in : (p : Pair) (x y separator other : Symbol) → IsSteady p → Item false p x y → Item false p separator other →
          Lowered false p (SepPlus x separator) [] (SepPlus y other)
      group_in : (p : Pair) (choices others : Alternatives) → IsSteady p → Choices p choices others →
          Lowered false p (Group choices) [] (Group others)
      -- with bindings, where the pair changes or the list is aligned
      opt_box : (p : Pair) (bs : List Binding) (x y : Symbol) → Item false (inner p) x y →
          bs ≡ pair_bindings s p ++ column_bindings s false →
          Lowered false p (Opt x) [] (Entry bs (Opt y))
      star_box : (al : Bool) (p : Pair) (bs : List Binding) (x y : Symbol) → Item al (inner p) x y →
          bs ≡ pair_bindings s p ++ column_bindings s al → Lowered al p (Star x) [] (Entry bs (Star y))
      plus_box : (al : Bool) (p : Pair) (bs : List Binding) (x y : Symbol) → Item al (inner p) x y →
          bs ≡ pair_bindings s p ++ column_bindings s al → Lowered al p (Plus x) [] (Entry bs (Plus y))
      sep_star_box : (al : Bool) (p : Pair) (bs : List Binding) (x y separator other : Symbol) → Item al (inner p) x y →
          Item false (inner p) separator other → bs ≡ pair_bindings s p ++ column_bindings s al →
          Lowered al p (SepStar x separator) [] (Entry bs (SepStar y other))
      sep_plus_box : (al : Bool) (p : Pair) (bs : List Binding) (x y separator other : Symbol) → Item al (inner p) x y →
          Item false (inner p) separator other → bs ≡ pair_bindings s p ++ column_bindings s al →
          Lowered al p (SepPlus x separator) [] (Entry bs (SepPlus y other))
      group_box : (p : Pair) (bs : List Binding) (choices others : Alternatives) → Choices (inner p) choices others →
          bs ≡ pair_bindings s p ++ column_bindings s false → Lowered false p (Group choices) [] (Entry bs (Group others))
      filtered : (p : Pair) (x y : Symbol) (filters : List Filter) (gs : List Symbol) → Placed p x gs y →
          Lowered false p (Filtered x filters) gs (Filtered y filters)
      filtered_list : (p : Pair) (x y : Symbol) (filters : List Filter) (gs : List Symbol) → Lowered true p x gs y →
          Lowered true p (Filtered x filters) gs (Filtered y filters)
      seq : (p : Pair) (xs ys : Symbols) → IsSteady p → Covered p (listed xs) (listed ys) → Lowered false p (Seq xs) [] (Seq ys)
      entry : (p : Pair) (bindings more : List Binding) (x y : Symbol) → BindingsRead s bindings → Placed (inner p) x [] y →
          more ≡ bindings ++ pair_bindings s p → Lowered false p (Entry bindings x) [] (Entry more y)

    -- a symbol with the marks round it
    pub data Placed : Pair → Symbol → List Symbol → Symbol → Type 0 where
      placed : (p : Pair) (x y : Symbol) (gs : List Symbol) → Lowered (is_aligned x) (pair_in s p x) (bare x) gs y → Placed p x gs y

    -- a symbol that stands alone or in a sequence: with its tests
    pub data Item : Bool → Pair → Symbol → Symbol → Type 0 where
      item : (al : Bool) (p : Pair) (x y z : Symbol) (gs : List Symbol) → Lowered (is_aligned x) (pair_in s p x) (bare x) gs y →
          z ≡ wrapped (column_guards s al ++ gs) y → Item al p x z

    -- a list, whose items are tested where it is aligned
    pub data Listing : Bool → Pair → Symbol → Symbol → Type 0 where
      stars : (al : Bool) (p : Pair) (x y : Symbol) → IsSteady p → Item al p x y → Listing al p (Star x) (Star y)
      pluses : (al : Bool) (p : Pair) (x y : Symbol) → IsSteady p → Item al p x y → Listing al p (Plus x) (Plus y)
      sep_stars : (al : Bool) (p : Pair) (x y separator other : Symbol) → IsSteady p → Item al p x y → Item false p separator other →
          Listing al p (SepStar x separator) (SepStar y other)
      sep_pluses : (al : Bool) (p : Pair) (x y separator other : Symbol) → IsSteady p → Item al p x y → Item false p separator other →
          Listing al p (SepPlus x separator) (SepPlus y other)

    pub data Covered : Pair → List Symbol → List Symbol → Type 0 where
      nothing : (p : Pair) → Covered p [] []
      next : (p : Pair) (x y : Symbol) (xs ys : List Symbol) → Item false p x y → Covered p xs ys → Covered p (x ∷ xs) (y ∷ ys)

    pub data Choices : Pair → Alternatives → Alternatives → Type 0 where
      no_choices : (p : Pair) → Choices p no_alternatives no_alternatives
      next_choice : (p : Pair) (xs ys : Symbols) (others more : Alternatives) → Covered p (listed xs) (listed ys) →
          Choices p others more → Choices p (next_alternative xs others) (next_alternative ys more)
