-- For the proof checker alone: a reader need not read this file.
-- Symbols stored as trees of heads, from which they are read back: so a proof tells symbols apart.
use Rattle.std.specs.Prelude.{◌≡◌, ℕ, zero, suc, List, ◌⊎◌, refl}
use Rattle.std.specs.Coded.{Coded, code_by, coded_ℕ, coded_list, coded×, coded⊎}
use Rattle.std.proofs.Common.{inl, inr, ap}
use base.Stored.{Gv, gnil, gcons}
use Rattle.ig_text.specs.declared.class.Class.{Class}
use Rattle.ig_text.specs.contracts.class.Class as class
use Rattle.ig_expr.specs.Expression.{Expression}
use Rattle.ig_expr.specs.Stored.{expression_code}
use Rattle.ig_grammar.specs.declared.filter.Filter.{Filter}
use Rattle.ig_grammar.specs.contracts.filter.Filter as filter
use Rattle.ig_grammar.specs.Binding.{Binding}
use Rattle.ig_grammar.specs.CodingBindings.{binding_code}
use Rattle.ig_grammar.specs.Symbol.{Symbol, Literal, OneOf, Call, Label, Guard, Let, Opt, Star, Plus, SepStar, SepPlus, Group, Offside, Ignore, Align, Filtered, Seq, Entry}
use Rattle.ig_grammar.specs.Symbol.{Symbols, no_symbols, next_symbol, Alternatives, no_alternatives, next_alternative}

-- what has nothing beside the symbols inside it: a form of symbols, or a list
pub data Form : Type 0 where
  opt : Form
  star : Form
  plus : Form
  sep_star : Form
  sep_plus : Form
  group : Form
  offside : Form
  ignore : Form
  align : Form
  seq : Form
  list : Form

abbrev pub number : Form → ℕ
number opt = 0
number star = 1
number plus = 2
number sep_star = 3
number sep_plus = 4
number group = 5
number offside = 6
number ignore = 7
number align = 8
number seq = 9
number list = 10

abbrev pub after : Form → Form
after opt = star
after star = plus
after plus = sep_star
after sep_star = sep_plus
after sep_plus = group
after group = offside
after offside = ignore
after ignore = align
after align = seq
after seq = list
after list = list

abbrev pub form_with : ℕ → Form
form_with zero = opt
form_with (suc n) = after (form_with n)

pub form_with-number : (f : Form) → form_with (number f) ≡ f
form_with-number opt = refl
form_with-number star = refl
form_with-number plus = refl
form_with-number sep_star = refl
form_with-number sep_plus = refl
form_with-number group = refl
form_with-number offside = refl
form_with-number ignore = refl
form_with-number align = refl
form_with-number seq = refl
form_with-number list = refl

abbrev pub coded_form : Coded Form
coded_form = code_by ℕ coded_ℕ number form_with form_with-number

-- a symbol without those inside it, or a list
abbrev pub Head : Type 0
Head =
    Form ⊎ (List ℕ ⊎ (Class ⊎ ((List ℕ × List Expression) ⊎ (List ℕ ⊎ (Expression ⊎ ((List ℕ × Expression) ⊎ (List Filter ⊎ List Binding)))))))

abbrev pub coded_word : Coded (List ℕ)
coded_word = coded_list coded_ℕ

abbrev pub coded_head : Coded Head
coded_head =
    coded⊎ coded_form (coded⊎ coded_word (coded⊎ class.the_row.coded (coded⊎ (coded× coded_word (coded_list expression_code)) (coded⊎ coded_word (coded⊎ expression_code (coded⊎ (coded× coded_word expression_code) (coded⊎ (coded_list filter.the_row.coded) (coded_list binding_code))))))))

pattern abbrev form : Form → Head
form n = inl n

pattern abbrev literal : List ℕ → Head
literal w = inr (inl w)

pattern abbrev one_of : Class → Head
one_of c = inr (inr (inl c))

pattern abbrev call : List ℕ → List Expression → Head
call n es = inr (inr (inr (inl (n, es))))

pattern abbrev label : List ℕ → Head
label n = inr (inr (inr (inr (inl n))))

pattern abbrev guard : Expression → Head
guard e = inr (inr (inr (inr (inr (inl e)))))

pattern abbrev let_be : List ℕ → Expression → Head
let_be n e = inr (inr (inr (inr (inr (inr (inl (n, e)))))))

pattern abbrev filtered : List Filter → Head
filtered fs = inr (inr (inr (inr (inr (inr (inr (inl fs)))))))

pattern abbrev entry : List Binding → Head
entry bs = inr (inr (inr (inr (inr (inr (inr (inr bs)))))))

pub data Stored : Type 0 where
  none : Stored
  node : Head → Stored → Stored → Stored

abbrev pub code_of : Stored → Gv
code_of none = gnil
code_of (node h a b) = gcons (coded_head.code h) (gcons (code_of a) (code_of b))

pub code_of-inj : (x y : Stored) → code_of x ≡ code_of y → x ≡ y
code_of-inj none none p = refl
code_of-inj none (node m c d) p = cc
code_of-inj (node l a b) none p = cc
code_of-inj (node l a b) (node m c d) p =
    let head : l ≡ m = coded_head.inj l m cc in
    let first : a ≡ c = code_of-inj a c cc in
    let second : b ≡ d = code_of-inj b d cc in cc

abbrev pub coded_stored : Coded Stored
coded_stored = record { code = code_of; inj = code_of-inj }

abbrev mutual
  pub stored : Symbol → Stored
  stored (Literal w) = node (literal w) none none
  stored (OneOf c) = node (one_of c) none none
  stored (Call n es) = node (call n es) none none
  stored (Label n x) = node (label n) (stored x) none
  stored (Guard e) = node (guard e) none none
  stored (Let n e) = node (let_be n e) none none
  stored (Opt x) = node (form opt) (stored x) none
  stored (Star x) = node (form star) (stored x) none
  stored (Plus x) = node (form plus) (stored x) none
  stored (SepStar x s) = node (form sep_star) (stored x) (stored s)
  stored (SepPlus x s) = node (form sep_plus) (stored x) (stored s)
  stored (Group ys) = node (form group) (stored_alternatives ys) none
  stored (Offside x) = node (form offside) (stored x) none
  stored (Ignore x) = node (form ignore) (stored x) none
  stored (Align x) = node (form align) (stored x) none
  stored (Filtered x fs) = node (filtered fs) (stored x) none
  stored (Seq xs) = node (form seq) (stored_symbols xs) none
  stored (Entry bs x) = node (entry bs) (stored x) none

  pub stored_symbols : Symbols → Stored
  stored_symbols no_symbols = none
  stored_symbols (next_symbol x xs) = node (form list) (stored x) (stored_symbols xs)

  pub stored_alternatives : Alternatives → Stored
  stored_alternatives no_alternatives = none
  stored_alternatives (next_alternative xs ys) = node (form list) (stored_symbols xs) (stored_alternatives ys)

abbrev mutual
  pub symbol_in : Stored → Symbol
  symbol_in (node (literal w) a b) = Literal w
  symbol_in (node (one_of c) a b) = OneOf c
  symbol_in (node (call n es) a b) = Call n es
  symbol_in (node (label n) a b) = Label n (symbol_in a)
  symbol_in (node (guard e) a b) = Guard e
  symbol_in (node (let_be n e) a b) = Let n e
  symbol_in (node (filtered fs) a b) = Filtered (symbol_in a) fs
  symbol_in (node (entry bs) a b) = Entry bs (symbol_in a)
  symbol_in (node (form opt) a b) = Opt (symbol_in a)
  symbol_in (node (form star) a b) = Star (symbol_in a)
  symbol_in (node (form plus) a b) = Plus (symbol_in a)
  symbol_in (node (form sep_star) a b) = SepStar (symbol_in a) (symbol_in b)
  symbol_in (node (form sep_plus) a b) = SepPlus (symbol_in a) (symbol_in b)
  symbol_in (node (form group) a b) = Group (alternatives_in a)
  symbol_in (node (form offside) a b) = Offside (symbol_in a)
  symbol_in (node (form ignore) a b) = Ignore (symbol_in a)
  symbol_in (node (form align) a b) = Align (symbol_in a)
  symbol_in (node (form seq) a b) = Seq (symbols_in a)
  symbol_in (node (form list) a b) = Seq no_symbols
  symbol_in none = Seq no_symbols

  pub symbols_in : Stored → Symbols
  symbols_in none = no_symbols
  symbols_in (node h a b) = next_symbol (symbol_in a) (symbols_in b)

  pub alternatives_in : Stored → Alternatives
  alternatives_in none = no_alternatives
  alternatives_in (node h a b) = next_alternative (symbols_in a) (alternatives_in b)

mutual
  pub symbol_in-stored : (x : Symbol) → symbol_in (stored x) ≡ x
  symbol_in-stored (Literal w) = refl
  symbol_in-stored (OneOf c) = refl
  symbol_in-stored (Call n es) = refl
  symbol_in-stored (Label n x) = ap (Label n) (symbol_in-stored x)
  symbol_in-stored (Guard e) = refl
  symbol_in-stored (Let n e) = refl
  symbol_in-stored (Opt x) = ap Opt (symbol_in-stored x)
  symbol_in-stored (Star x) = ap Star (symbol_in-stored x)
  symbol_in-stored (Plus x) = ap Plus (symbol_in-stored x)
  symbol_in-stored (SepStar x s) = λ i. SepStar (symbol_in-stored x i) (symbol_in-stored s i)
  symbol_in-stored (SepPlus x s) = λ i. SepPlus (symbol_in-stored x i) (symbol_in-stored s i)
  symbol_in-stored (Group ys) = ap Group (alternatives_in-stored ys)
  symbol_in-stored (Offside x) = ap Offside (symbol_in-stored x)
  symbol_in-stored (Ignore x) = ap Ignore (symbol_in-stored x)
  symbol_in-stored (Align x) = ap Align (symbol_in-stored x)
  symbol_in-stored (Filtered x fs) = ap (λ y. Filtered y fs) (symbol_in-stored x)
  symbol_in-stored (Seq xs) = ap Seq (symbols_in-stored xs)
  symbol_in-stored (Entry bs x) = ap (Entry bs) (symbol_in-stored x)

  pub symbols_in-stored : (xs : Symbols) → symbols_in (stored_symbols xs) ≡ xs
  symbols_in-stored no_symbols = refl
  symbols_in-stored (next_symbol x xs) = λ i. next_symbol (symbol_in-stored x i) (symbols_in-stored xs i)

  pub alternatives_in-stored : (ys : Alternatives) → alternatives_in (stored_alternatives ys) ≡ ys
  alternatives_in-stored no_alternatives = refl
  alternatives_in-stored (next_alternative xs ys) =
      λ i. next_alternative (symbols_in-stored xs i) (alternatives_in-stored ys i)

abbrev pub symbol_code : Coded Symbol
symbol_code = code_by Stored coded_stored stored symbol_in symbol_in-stored
