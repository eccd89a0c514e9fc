-- The traversal: a rewritten symbol corresponds to the symbol by P, where the pass's own rule gives that for symbols whose
-- parts correspond.
use Rattle.std.proofs.Common.{List}
use Rattle.ig_grammar.specs.Binding.{Binding}
use Rattle.ig_grammar.specs.Symbol.{Symbol, Literal, OneOf, Call, Label, Guard, Let, Opt, Star, Plus, SepStar, SepPlus, Group, Offside, Ignore, Align, Filtered, Seq, Entry}
use Rattle.ig_grammar.specs.Symbol.{Symbols, no_symbols, next_symbol, Alternatives, no_alternatives, next_alternative}
use Rattle.ig_pass.specs.Rewriting.{within, rewritten, rewritten_symbols, rewritten_choices}
use Rattle.ig_lexical.proofs.Alike.{IsLeaf, Alike, leaf, label_alike, opt_alike, star_alike, plus_alike, sep_star_alike, sep_plus_alike, group_alike, offside_alike, ignore_alike, align_alike, filtered_alike, seq_alike, entry_alike}
use Rattle.ig_lexical.proofs.Alike.{EachSymbol, no_pair, next_pair, EachChoice, no_choices, next_choices}

-- N holds of a symbol and of each symbol inside it
module _ (N : Symbol → Type 0) where
  abbrev mutual
    pub Throughout : Symbol → Type 0
    Throughout (Literal word) = N (Literal word)
    Throughout (OneOf class) = N (OneOf class)
    Throughout (Call name arguments) = N (Call name arguments)
    Throughout (Label name x) = N (Label name x) × Throughout x
    Throughout (Guard e) = N (Guard e)
    Throughout (Let name e) = N (Let name e)
    Throughout (Opt x) = N (Opt x) × Throughout x
    Throughout (Star x) = N (Star x) × Throughout x
    Throughout (Plus x) = N (Plus x) × Throughout x
    Throughout (SepStar x separator) = N (SepStar x separator) × Throughout x × Throughout separator
    Throughout (SepPlus x separator) = N (SepPlus x separator) × Throughout x × Throughout separator
    Throughout (Group choices) = N (Group choices) × ThroughoutChoices choices
    Throughout (Offside x) = N (Offside x) × Throughout x
    Throughout (Ignore x) = N (Ignore x) × Throughout x
    Throughout (Align x) = N (Align x) × Throughout x
    Throughout (Filtered x filters) = N (Filtered x filters) × Throughout x
    Throughout (Seq xs) = N (Seq xs) × ThroughoutSymbols xs
    Throughout (Entry bindings x) = N (Entry bindings x) × Throughout x

    pub ThroughoutSymbols : Symbols → Type 0
    ThroughoutSymbols no_symbols = Unit {0}
    ThroughoutSymbols (next_symbol x xs) = Throughout x × ThroughoutSymbols xs

    pub ThroughoutChoices : Alternatives → Type 0
    ThroughoutChoices no_alternatives = Unit {0}
    ThroughoutChoices (next_alternative xs others) = ThroughoutSymbols xs × ThroughoutChoices others

-- what N says of marks and entries
pub record Admits (N : Symbol → Type 0) (Marks : Type 0) (Enters : List Binding → Type 0) : Type 0 where
  pub offside : (x : Symbol) → N (Offside x) → Marks
  pub ignore : (x : Symbol) → N (Ignore x) → Marks
  pub align : (x : Symbol) → N (Align x) → Marks
  pub entry : (bs : List Binding) (x : Symbol) → N (Entry bs x) → Enters bs

module _ (own : Symbol → Symbol) (N : Symbol → Type 0) (Marks : Type 0) (Enters : List Binding → Type 0)
    (L P : Symbol → Symbol → Type 0) (admits : Admits N Marks Enters) (kept : (x : Symbol) → IsLeaf x → N x → L x x)
    (by_own : (x : Symbol) → Throughout N x → Alike L P Marks Enters x (within own x) → P x (rewritten own x)) where
  mutual
    pub within_alike : (x : Symbol) → Throughout N x → Alike L P Marks Enters x (within own x)
    within_alike (Literal word) q = leaf (Literal word) (Literal word) tt (kept (Literal word) tt q)
    within_alike (OneOf class) q = leaf (OneOf class) (OneOf class) tt (kept (OneOf class) tt q)
    within_alike (Call name arguments) q = leaf (Call name arguments) (Call name arguments) tt (kept (Call name arguments) tt q)
    within_alike (Guard e) q = leaf (Guard e) (Guard e) tt (kept (Guard e) tt q)
    within_alike (Let name e) q = leaf (Let name e) (Let name e) tt (kept (Let name e) tt q)
    within_alike (Label name x) q = label_alike name x (within own x) (within_alike x q.1)
    within_alike (Opt x) q = opt_alike x (rewritten own x) (by_own x q.1 (within_alike x q.1))
    within_alike (Star x) q = star_alike x (rewritten own x) (by_own x q.1 (within_alike x q.1))
    within_alike (Plus x) q = plus_alike x (rewritten own x) (by_own x q.1 (within_alike x q.1))
    within_alike (SepStar x s) q =
        sep_star_alike x (rewritten own x) s (rewritten own s) (by_own x q.1 (within_alike x q.1)) (by_own s q.2 (within_alike s q.2))
    within_alike (SepPlus x s) q =
        sep_plus_alike x (rewritten own x) s (rewritten own s) (by_own x q.1 (within_alike x q.1)) (by_own s q.2 (within_alike s q.2))
    within_alike (Group choices) q = group_alike choices (rewritten_choices own choices) (choices_alike choices q.1)
    within_alike (Offside x) q = offside_alike x (within own x) (admits.offside x q.0) (within_alike x q.1)
    within_alike (Ignore x) q = ignore_alike x (within own x) (admits.ignore x q.0) (within_alike x q.1)
    within_alike (Align x) q = align_alike x (within own x) (admits.align x q.0) (within_alike x q.1)
    within_alike (Filtered x filters) q = filtered_alike x (within own x) filters (within_alike x q.1)
    within_alike (Seq xs) q = seq_alike xs (rewritten_symbols own xs) (symbols_alike xs q.1)
    within_alike (Entry bindings x) q = entry_alike bindings x (within own x) (admits.entry bindings x q.0) (within_alike x q.1)

    pub symbols_alike : (xs : Symbols) → ThroughoutSymbols N xs → EachSymbol L P Marks Enters xs (rewritten_symbols own xs)
    symbols_alike no_symbols q = no_pair
    symbols_alike (next_symbol x xs) q =
        next_pair x (rewritten own x) xs (rewritten_symbols own xs) (by_own x q.0 (within_alike x q.0)) (symbols_alike xs q.1)

    pub choices_alike : (xs : Alternatives) → ThroughoutChoices N xs → EachChoice L P Marks Enters xs (rewritten_choices own xs)
    choices_alike no_alternatives q = no_choices
    choices_alike (next_alternative xs others) q =
        next_choices xs (rewritten_symbols own xs) others (rewritten_choices own others) (symbols_alike xs q.0) (choices_alike others q.1)

  pub rewritten_corresponds : (x : Symbol) → Throughout N x → P x (rewritten own x)
  rewritten_corresponds x q = by_own x q (within_alike x q)

-- L and P turned round, and made weaker
module _ (L P L2 P2 : Symbol → Symbol → Type 0) (Marks : Type 0) (Enters : List Binding → Type 0)
    (f : (x y : Symbol) → L x y → L2 y x) (on_leaf : (x y : Symbol) → L x y → IsLeaf x → IsLeaf y) (p : (x y : Symbol) → P x y → P2 y x) where
  pub turned_each : (xs ys : Symbols) → EachSymbol L P Marks Enters xs ys → EachSymbol L2 P2 Marks Enters ys xs
  turned_each xs ys no_pair = no_pair
  turned_each xs ys (next_pair x y us vs r e) = next_pair y x vs us (p x y r) (turned_each us vs e)

  pub turned_choices : (xs ys : Alternatives) → EachChoice L P Marks Enters xs ys → EachChoice L2 P2 Marks Enters ys xs
  turned_choices xs ys no_choices = no_choices
  turned_choices xs ys (next_choices us vs others rest e es) = next_choices vs us rest others (turned_each us vs e) (turned_choices others rest es)

  pub turned : (x y : Symbol) → Alike L P Marks Enters x y → Alike L2 P2 Marks Enters y x
  turned x y (leaf _ _ l q) = leaf y x (on_leaf x y q l) (f x y q)
  turned x y (label_alike name u v a) = label_alike name v u (turned u v a)
  turned x y (opt_alike u v q) = opt_alike v u (p u v q)
  turned x y (star_alike u v q) = star_alike v u (p u v q)
  turned x y (plus_alike u v q) = plus_alike v u (p u v q)
  turned x y (sep_star_alike u v s t q r) = sep_star_alike v u t s (p u v q) (p s t r)
  turned x y (sep_plus_alike u v s t q r) = sep_plus_alike v u t s (p u v q) (p s t r)
  turned x y (group_alike us vs q) = group_alike vs us (turned_choices us vs q)
  turned x y (offside_alike u v m a) = offside_alike v u m (turned u v a)
  turned x y (ignore_alike u v m a) = ignore_alike v u m (turned u v a)
  turned x y (align_alike u v m a) = align_alike v u m (turned u v a)
  turned x y (filtered_alike u v filters a) = filtered_alike v u filters (turned u v a)
  turned x y (seq_alike us vs q) = seq_alike vs us (turned_each us vs q)
  turned x y (entry_alike bs u v n a) = entry_alike bs v u n (turned u v a)

-- T holds of the leaf that labels, marks, filters and entries stand round, where there is one
abbrev pub AtLeaf : (Symbol → Type 0) → Symbol → Type 0
AtLeaf T (Literal word) = T (Literal word)
AtLeaf T (OneOf class) = T (OneOf class)
AtLeaf T (Call name arguments) = T (Call name arguments)
AtLeaf T (Guard e) = T (Guard e)
AtLeaf T (Let name e) = T (Let name e)
AtLeaf T (Label name x) = AtLeaf T x
AtLeaf T (Offside x) = AtLeaf T x
AtLeaf T (Ignore x) = AtLeaf T x
AtLeaf T (Align x) = AtLeaf T x
AtLeaf T (Filtered x filters) = AtLeaf T x
AtLeaf T (Entry bs x) = AtLeaf T x
AtLeaf T x = Unit {0}

at_leaf : (T : Symbol → Type 0) (x : Symbol) → IsLeaf x → AtLeaf T x → T x
at_leaf T (Literal word) l t = t
at_leaf T (OneOf class) l t = t
at_leaf T (Call name arguments) l t = t
at_leaf T (Guard e) l t = t
at_leaf T (Let name e) l t = t
at_leaf T x l t = absurd l

-- symbols are alike by another relation on leaves, where that follows at this leaf
pub releafed : (L K P : Symbol → Symbol → Type 0) (Marks : Type 0) (Enters : List Binding → Type 0) (T : Symbol → Type 0) →
    ((x y : Symbol) → L x y → T x → K x y) → (x y : Symbol) → Alike L P Marks Enters x y → AtLeaf T x → Alike K P Marks Enters x y
releafed L K P Marks Enters T f x y (leaf _ _ l q) t = leaf x y l (f x y q (at_leaf T x l t))
releafed L K P Marks Enters T f x y (label_alike name u v a) t = label_alike name u v (releafed L K P Marks Enters T f u v a t)
releafed L K P Marks Enters T f x y (opt_alike u v q) t = opt_alike u v q
releafed L K P Marks Enters T f x y (star_alike u v q) t = star_alike u v q
releafed L K P Marks Enters T f x y (plus_alike u v q) t = plus_alike u v q
releafed L K P Marks Enters T f x y (sep_star_alike u v s w q r) t = sep_star_alike u v s w q r
releafed L K P Marks Enters T f x y (sep_plus_alike u v s w q r) t = sep_plus_alike u v s w q r
releafed L K P Marks Enters T f x y (group_alike us vs q) t = group_alike us vs (same_choices us vs q)
  where
    same_each : (us vs : Symbols) → EachSymbol L P Marks Enters us vs → EachSymbol K P Marks Enters us vs
    same_each us vs no_pair = no_pair
    same_each us vs (next_pair a b cs ds r e) = next_pair a b cs ds r (same_each cs ds e)

    same_choices : (us vs : Alternatives) → EachChoice L P Marks Enters us vs → EachChoice K P Marks Enters us vs
    same_choices us vs no_choices = no_choices
    same_choices us vs (next_choices cs ds os ps e es) = next_choices cs ds os ps (same_each cs ds e) (same_choices os ps es)
releafed L K P Marks Enters T f x y (offside_alike u v m a) t = offside_alike u v m (releafed L K P Marks Enters T f u v a t)
releafed L K P Marks Enters T f x y (ignore_alike u v m a) t = ignore_alike u v m (releafed L K P Marks Enters T f u v a t)
releafed L K P Marks Enters T f x y (align_alike u v m a) t = align_alike u v m (releafed L K P Marks Enters T f u v a t)
releafed L K P Marks Enters T f x y (filtered_alike u v filters a) t = filtered_alike u v filters (releafed L K P Marks Enters T f u v a t)
releafed L K P Marks Enters T f x y (seq_alike us vs q) t = seq_alike us vs (same_each us vs q)
  where
    same_each : (us vs : Symbols) → EachSymbol L P Marks Enters us vs → EachSymbol K P Marks Enters us vs
    same_each us vs no_pair = no_pair
    same_each us vs (next_pair a b cs ds r e) = next_pair a b cs ds r (same_each cs ds e)
releafed L K P Marks Enters T f x y (entry_alike bs u v n a) t = entry_alike bs u v n (releafed L K P Marks Enters T f u v a t)
