-- What the tokens give for each symbol holds of all symbols in a grammar that is read.
use Rattle.std.proofs.Common.{ℕ, List, [], ◌∷◌, ◌++◌, sym, subst, refl}
use Rattle.std.specs.Prelude.{All, Option, ℤ}
use Rattle.std.proofs.lemmas.List.Elements.{All-head, All-nil, All-cons, All-append, All-contains}
use Rattle.ig_text.specs.declared.class.Class.{Class}
use Rattle.ig_expr.specs.Expression.{Expression}
use Rattle.ig_notation_syntax.specs.Token as token
use Rattle.ig_notation_syntax.specs.Token.{Token}
use Rattle.ig_grammar.specs.Symbol as tree
use Rattle.ig_grammar.specs.Symbol.{Symbol, Offside, Ignore, Align, Filtered, Symbols, Alternatives}
use Rattle.ig_grammar.specs.Subterms.{subterms, subterms_of_symbols, subterms_of_alternatives}
use Rattle.ig_grammar.specs.Alternative.{gathered_alternatives}
use Rattle.ig_grammar.specs.Regular.{MayHaveLabel, MayHaveMark, MayHaveFilters, BindsNothing, OfEachLevel}
use Rattle.ig_grammar.specs.declared.filter.Filter.{Filter}
use Rattle.ig_grammar.specs.declared.declaration.Level.{Level}
use Rattle.ig_grammar.specs.declared.declaration.Decl.{Decl}
use Rattle.ig_grammar.specs.declared.grammar.Grammar.{Grammar}
use Rattle.ig_grammar.specs.Forms.{mark_of_filtered, label_of_marked}
use Rattle.ig_notation_syntax.specs.Rules as rule
use Rattle.ig_notation_syntax.specs.Rules.{IsSeparated, ReadsExpression, ReadsArguments, ReadsFilters, ReadsSign, filtered}
use Rattle.ig_notation_syntax.specs.Rules.{ReadsSymbol, ReadsMarked, ReadsPost, ReadsAtom, ReadsAlternatives, ReadsAlternative}
use Rattle.ig_notation_syntax.specs.Rules.{ReadsLevel, ReadsLevels, ReadsDeclaration, ReadsDeclarations, ReadsBody, FollowsRules}
use Rattle.ig_notation_syntax.proofs.Tails.{Facts, tail, head, behind, ends_by, sign_tail, symbol_tail, marked_tail, atom_tail, alternative_tail, associativity_tail, level_tail, parameters_tail, declaration_tail}

abbrev pub Fits : (Symbol → Type 0) → Symbol → Type 0
Fits May x = May x × BindsNothing x

atom_fits : {s r : List Token} {x : Symbol} → ReadsAtom s r x → Fits MayHaveFilters x
atom_fits (rule.literal w r) = (tt, refl)
atom_fits (rule.class c r) = (tt, refl)
atom_fits (rule.bare_call n r) = (tt, refl)
atom_fits (rule.call n s r es d) = (tt, refl)
atom_fits (rule.group s r ys d) = (tt, refl)

sign_fits : {s r : List Token} {x y : Symbol} → ReadsSign s r x y → Fits MayHaveFilters x → Fits MayHaveFilters y
sign_fits (rule.once r x) h = h
sign_fits (rule.option r x) h = (tt, refl)
sign_fits (rule.star r x) h = (tt, refl)
sign_fits (rule.plus r x) h = (tt, refl)

separated_fits : {t : Token} {x y z : Symbol} → IsSeparated t x y z → Fits MayHaveFilters z
separated_fits (rule.separated_star x y) = (tt, refl)
separated_fits (rule.separated_plus x y) = (tt, refl)

filtered_fits : (x : Symbol) (fs : List Filter) → Fits MayHaveFilters x → Fits MayHaveMark (filtered x fs)
filtered_fits x [] h = (mark_of_filtered x h.0, h.1)
filtered_fits x (f ∷ fs) h = (tt, h.1)

post_fits : {s r : List Token} {x : Symbol} → ReadsPost s r x → Fits MayHaveMark x
post_fits (rule.atom s m q r x y z fs d e f h) =
    subst (Fits MayHaveMark) (sym h) (filtered_fits y fs (sign_fits e (atom_fits d)))
post_fits (rule.separated t s m q r x y z o fs d e is f h) =
    subst (Fits MayHaveMark) (sym h) (filtered_fits z fs (separated_fits is))

marked_fits : {s r : List Token} {x : Symbol} → ReadsMarked s r x → Fits MayHaveLabel x
marked_fits (rule.offside s r x d) = (tt, (post_fits d).1)
marked_fits (rule.ignore s r x d) = (tt, (post_fits d).1)
marked_fits (rule.align s r x d) = (tt, (post_fits d).1)
marked_fits (rule.unmarked s r x d) = let h = post_fits d in (label_of_marked x h.0, h.1)

-- what facts of tokens give for the symbols that they read as, each by itself
pub record Gives (P : Token → Type 0) (Q : Symbol → Type 0) : Type 0 where
  pub guard : (s r : List Token) (e : Expression) → ReadsExpression s r e → Facts P s → Q (tree.Guard e)
  pub let_be : (name : List ℕ) (s r : List Token) (e : Expression) → P (token.Name name) → ReadsExpression s r e →
      Facts P s → Q (tree.Let name e)
  pub label : (name : List ℕ) (x : Symbol) → P (token.Name name) → MayHaveLabel x → Q (tree.Label name x)
  pub offside : (x : Symbol) → MayHaveMark x → Q (Offside x)
  pub ignore : (x : Symbol) → MayHaveMark x → Q (Ignore x)
  pub align : (x : Symbol) → MayHaveMark x → Q (Align x)
  pub signed : (s r : List Token) (x y : Symbol) → ReadsSign s r x y → Fits MayHaveFilters x → Q x → Q y
  pub separated : (t : Token) (x y z : Symbol) → IsSeparated t x y z → Fits MayHaveLabel x → Fits MayHaveLabel y → Q z
  pub with_filters : (s r : List Token) (x : Symbol) (fs : List Filter) → ReadsFilters s r fs → Facts P s → MayHaveFilters x →
      Q (Filtered x fs)
  pub literal : (word : List ℕ) → P (token.Literal word) → Q (tree.Literal word)
  pub class : (c : Class) → Q (tree.OneOf c)
  pub bare_call : (name : List ℕ) → P (token.Name name) → Q (tree.Call name [])
  pub call : (name : List ℕ) (s r : List Token) (es : List Expression) → P (token.Head name) → ReadsArguments s r es →
      Facts P s → Q (tree.Call name es)
  pub group : (ys : Alternatives) → Q (tree.Group ys)

module _ {P : Token → Type 0} {Q : Symbol → Type 0} (gives : Gives P Q) where
  abbrev Holds : Symbol → Type 0
  Holds x = All Q (subterms x)

  first : (x : Symbol) → Holds x → Q x
  first (tree.Literal w) h = All-head Q (tree.Literal w) [] h
  first (tree.OneOf c) h = All-head Q (tree.OneOf c) [] h
  first (tree.Call n es) h = All-head Q (tree.Call n es) [] h
  first (tree.Label n x) h = All-head Q (tree.Label n x) (subterms x) h
  first (tree.Guard e) h = All-head Q (tree.Guard e) [] h
  first (tree.Let n e) h = All-head Q (tree.Let n e) [] h
  first (tree.Opt x) h = All-head Q (tree.Opt x) (subterms x) h
  first (tree.Star x) h = All-head Q (tree.Star x) (subterms x) h
  first (tree.Plus x) h = All-head Q (tree.Plus x) (subterms x) h
  first (tree.SepStar x y) h = All-head Q (tree.SepStar x y) (subterms x ++ subterms y) h
  first (tree.SepPlus x y) h = All-head Q (tree.SepPlus x y) (subterms x ++ subterms y) h
  first (tree.Group ys) h = All-head Q (tree.Group ys) (subterms_of_alternatives ys) h
  first (tree.Offside x) h = All-head Q (tree.Offside x) (subterms x) h
  first (tree.Ignore x) h = All-head Q (tree.Ignore x) (subterms x) h
  first (tree.Align x) h = All-head Q (tree.Align x) (subterms x) h
  first (tree.Filtered x fs) h = All-head Q (tree.Filtered x fs) (subterms x) h
  first (tree.Seq xs) h = All-head Q (tree.Seq xs) (subterms_of_symbols xs) h
  first (tree.Entry bs x) h = All-head Q (tree.Entry bs x) (subterms x) h

  alone : (x : Symbol) → Q x → All Q (x ∷ [])
  alone x h = All-cons Q x [] h (All-nil Q)

  sign_holds : {s r : List Token} {x y : Symbol} → ReadsSign s r x y → Fits MayHaveFilters x → Holds x → Holds y
  sign_holds (rule.once r x) f h = h
  sign_holds (rule.option r x) f h =
      All-cons Q (tree.Opt x) (subterms x) (gives.signed _ r x _ (rule.option r x) f (first x h)) h
  sign_holds (rule.star r x) f h =
      All-cons Q (tree.Star x) (subterms x) (gives.signed _ r x _ (rule.star r x) f (first x h)) h
  sign_holds (rule.plus r x) f h =
      All-cons Q (tree.Plus x) (subterms x) (gives.signed _ r x _ (rule.plus r x) f (first x h)) h

  separated_holds : {t : Token} {x y z : Symbol} → IsSeparated t x y z → Fits MayHaveLabel x → Fits MayHaveLabel y →
      Holds x → Holds y → Holds z
  separated_holds (rule.separated_star x y) f g h k =
      All-cons Q (tree.SepStar x y) _ (gives.separated _ x y _ (rule.separated_star x y) f g)
      (All-append Q (subterms x) (subterms y) h k)
  separated_holds (rule.separated_plus x y) f g h k =
      All-cons Q (tree.SepPlus x y) _ (gives.separated _ x y _ (rule.separated_plus x y) f g)
      (All-append Q (subterms x) (subterms y) h k)

  filtered_holds : (x : Symbol) {s r : List Token} {fs : List Filter} → ReadsFilters s r fs → Facts P s → MayHaveFilters x →
      Holds x → Holds (filtered x fs)
  filtered_holds x (rule.no_filter r) a m h = h
  filtered_holds x (rule.next_filter t u p f s r fs is ist d) a m h =
      All-cons Q (Filtered x (f ∷ fs)) (subterms x)
      (gives.with_filters _ r x (f ∷ fs) (rule.next_filter t u p f s r fs is ist d) a m) h

  mutual
    symbol_holds : {s r : List Token} {x : Symbol} → ReadsSymbol s r x → Facts P s → Holds x
    symbol_holds (rule.guard s r e d) a = alone (tree.Guard e) (gives.guard s _ e d (tail (tail a)))
    symbol_holds (rule.let_be n s r e d) a =
        alone (tree.Let n e) (gives.let_be n s _ e (head (tail a)) d (tail (tail (tail (tail a)))))
    symbol_holds (rule.labelled n s r x d) a =
        All-cons Q (tree.Label n x) (subterms x) (gives.label n x (head a) (marked_fits d).0) (marked_holds d (tail (tail a)))
    symbol_holds (rule.unlabelled s r x d) a = marked_holds d a

    marked_holds : {s r : List Token} {x : Symbol} → ReadsMarked s r x → Facts P s → Holds x
    marked_holds (rule.offside s r x d) a =
        All-cons Q (Offside x) (subterms x) (gives.offside x (post_fits d).0) (post_holds d (tail a))
    marked_holds (rule.ignore s r x d) a =
        All-cons Q (Ignore x) (subterms x) (gives.ignore x (post_fits d).0) (post_holds d (tail a))
    marked_holds (rule.align s r x d) a =
        All-cons Q (Align x) (subterms x) (gives.align x (post_fits d).0) (post_holds d (tail a))
    marked_holds (rule.unmarked s r x d) a = post_holds d a

    post_holds : {s r : List Token} {x : Symbol} → ReadsPost s r x → Facts P s → Holds x
    post_holds (rule.atom s m q r x y z fs d e f h) a =
        let rest : Facts P q = behind (ends_by (sign_tail e) (atom_tail d)) a in
        subst Holds (sym h) (filtered_holds y f rest (sign_fits e (atom_fits d)).0 (sign_holds e (atom_fits d) (atom_holds d a)))
    post_holds (rule.separated t s m q r x y z o fs d e is f h) a =
        let item : Facts P m = behind (marked_tail d) (tail a) in
        let rest : Facts P (token.CloseBrace ∷ t ∷ q) = behind (marked_tail e) item in
        subst Holds (sym h) (filtered_holds z f (tail (tail rest)) (separated_fits is).0
        (separated_holds is (marked_fits d) (marked_fits e) (marked_holds d (tail a)) (marked_holds e item)))

    atom_holds : {s r : List Token} {x : Symbol} → ReadsAtom s r x → Facts P s → Holds x
    atom_holds (rule.literal w r) a = alone (tree.Literal w) (gives.literal w (head a))
    atom_holds (rule.class c r) a = alone (tree.OneOf c) (gives.class c)
    atom_holds (rule.bare_call n r) a = alone (tree.Call n []) (gives.bare_call n (head a))
    atom_holds (rule.call n s r es d) a = alone (tree.Call n es) (gives.call n s _ es (head a) d (tail a))
    atom_holds (rule.group s r ys d) a =
        All-cons Q (tree.Group ys) (subterms_of_alternatives ys) (gives.group ys) (alternatives_hold d (tail a))

    alternatives_hold : {s r : List Token} {ys : Alternatives} → ReadsAlternatives s r ys → Facts P s →
        All Q (subterms_of_alternatives ys)
    alternatives_hold (rule.last_alternative s r xs d) a =
        All-append Q (subterms_of_symbols xs) [] (alternative_holds d a) (All-nil Q)
    alternatives_hold (rule.further_alternative s m r xs ys d e) a =
        All-append Q (subterms_of_symbols xs) (subterms_of_alternatives ys) (alternative_holds d a)
        (alternatives_hold e (tail (behind (alternative_tail d) a)))

    alternative_holds : {s r : List Token} {xs : Symbols} → ReadsAlternative s r xs → Facts P s → All Q (subterms_of_symbols xs)
    alternative_holds (rule.no_symbol r) a = All-nil Q
    alternative_holds (rule.further_symbol s m r x xs d e) a =
        All-append Q (subterms x) (subterms_of_symbols xs) (symbol_holds d a)
        (alternative_holds e (behind (symbol_tail d) a))

  -- levels and declarations
  abbrev Among : Alternatives → Type 0
  Among ys = All Q (subterms_of_alternatives ys)

  abbrev LevelHolds : Level → Type 0
  LevelHolds l = Among (gathered_alternatives l.alts)

  level_holds : {s r : List Token} {l : Level} → ReadsLevel s r l → Facts P s → LevelHolds l
  level_holds (rule.level s m r a alts ys d e h) all =
      subst Among h (alternatives_hold e (behind (associativity_tail d) all))

  levels_hold : {s r : List Token} {ls : List Level} → ReadsLevels s r ls → Facts P s → All LevelHolds ls
  levels_hold (rule.last_level s r l d) a = All-cons LevelHolds l [] (level_holds d a) (All-nil LevelHolds)
  levels_hold (rule.further_level s m r l ls d e) a =
      All-cons LevelHolds l ls (level_holds d a) (levels_hold e (tail (behind (level_tail d) a)))

  abbrev DeclHolds : Decl → Type 0
  DeclHolds d = All LevelHolds d.levels

  declaration_holds : {s r : List Token} {d : Decl} → ReadsDeclaration s r d → Facts P s → DeclHolds d
  declaration_holds (rule.without_parameters t k x s r ls is d) a = levels_hold d (tail (tail (tail a)))
  declaration_holds (rule.with_parameters t k x s m r ps ls is d e) a =
      levels_hold e (tail (tail (behind (parameters_tail d) (tail (tail a)))))

  declarations_hold : {s : List Token} {ds : List Decl} → ReadsDeclarations s ds → Facts P s → All DeclHolds ds
  declarations_hold rule.no_declaration a = All-nil DeclHolds
  declarations_hold (rule.further_declaration s m d ds e f) a =
      All-cons DeclHolds d ds (declaration_holds e a) (declarations_hold f (behind (declaration_tail e) a))

  of_each : (g : Grammar) → All DeclHolds g.decls → OfEachLevel Among g
  of_each g all d l in_grammar in_decl =
      All-contains LevelHolds d.levels l (All-contains DeclHolds g.decls d all in_grammar) in_decl

  body_holds : {s : List Token} {tabs : Option ℤ} {ds : List Decl} → ReadsBody s tabs ds → Facts P s → All DeclHolds ds
  body_holds (rule.with_tabs n s ds d) a = declarations_hold d (tail (tail (tail a)))
  body_holds (rule.without_tabs s ds d) a = declarations_hold d a

  holds_by : {tokens : List Token} {g : Grammar} → FollowsRules tokens g → Facts P tokens → OfEachLevel Among g
  holds_by {g = g} (rule.with_start x s tabs ds d) a = of_each g (body_holds d (tail (tail (tail a))))
  holds_by {g = g} (rule.without_start s tabs ds d) a = of_each g (body_holds d a)

  pub grammar_holds : {tokens : List Token} {g : Grammar} → FollowsRules tokens g → All P tokens →
      OfEachLevel (λ ys. All Q (subterms_of_alternatives ys)) g
  grammar_holds d a = holds_by d (record { all = a })
