-- Two symbols of one form whose parts correspond: what the one derives the other derives too.
use Rattle.std.proofs.Common.{◌≡◌, ℕ, zero, suc, List, refl, subst}
use Rattle.std.specs.Prelude.{Some}
use Rattle.ig_text.specs.Input.{Input}
use Rattle.ig_text.specs.Tree.{Tree, Trees}
use Rattle.ig_grammar.specs.Binding.{Binding}
use Rattle.ig_grammar.specs.Symbol.{Symbol, Literal, OneOf, Call, Label, Guard, Let, Opt, Star, Plus, SepStar, SepPlus, Group, Offside, Ignore, Align, Filtered, Seq, Entry}
use Rattle.ig_grammar.specs.Symbol.{Symbols, no_symbols, next_symbol, Alternatives, no_alternatives, next_alternative, listed}
use Rattle.ig_meaning.specs.Environment.{Environment}
use Rattle.ig_grammar.specs.Numbering.{choice}
use Rattle.ig_grammar.specs.Condition.{IsListed}
use Rattle.ig_meaning.specs.Derivation.{Lists, Items}
use Rattle.ig_meaning.specs.Derivation.{nil, snoc, one_item, more_items, first_item, further_item, no_item, some_items, bare, with_filters}
use Rattle.ig_grammar.specs.declared.filter.Filter.{Filter}
use Rattle.ig_grammar.specs.declared.declaration.DeclKind.{DeclKind}
use Rattle.ig_grammar.specs.declared.grammar.Grammar.{Grammar}
use Rattle.ig_grammar.specs.declared.place.Shape.{Shape}
use Rattle.ig_lexical.proofs.Simulation as sim
use Rattle.ig_lexical.proofs.Simulation.{Fits}

-- a symbol with none inside it
abbrev pub IsLeaf : Symbol → Type 0
IsLeaf (Literal word) = Unit {0}
IsLeaf (OneOf class) = Unit {0}
IsLeaf (Call name arguments) = Unit {0}
IsLeaf (Guard e) = Unit {0}
IsLeaf (Let name e) = Unit {0}
IsLeaf x = ⊥

-- no filters stand directly at it
abbrev IsFilteredNot : Symbol → Type 0
IsFilteredNot (Filtered x filters) = ⊥
IsFilteredNot x = Unit {0}

no_leaf : (x : Symbol) → IsLeaf x → IsListed x → ⊥
no_leaf (Star x) l m = l
no_leaf (Plus x) l m = l
no_leaf (SepStar x s) l m = l
no_leaf (SepPlus x s) l m = l
no_leaf (Filtered x fs) l m = l
no_leaf (Literal w) l m = m
no_leaf x l m = m

-- two symbols of one form, whose parts correspond: a leaf of one to a leaf of the other by L, what begins a part of a
-- list, option, group or sequence by P
module _ (L P : Symbol → Symbol → Type 0) (Marks : Type 0) (Enters : List Binding → Type 0) where
  pub data EachSymbol : Symbols → Symbols → Type 0 where
    no_pair : EachSymbol no_symbols no_symbols
    next_pair : (x y : Symbol) (xs ys : Symbols) → P x y → EachSymbol xs ys → EachSymbol (next_symbol x xs) (next_symbol y ys)

  pub data EachChoice : Alternatives → Alternatives → Type 0 where
    no_choices : EachChoice no_alternatives no_alternatives
    next_choices : (xs ys : Symbols) (others rest : Alternatives) → EachSymbol xs ys → EachChoice others rest →
        EachChoice (next_alternative xs others) (next_alternative ys rest)

  pub data Alike : Symbol → Symbol → Type 0 where
    leaf : (x y : Symbol) → IsLeaf x → L x y → Alike x y
    label_alike : (name : List ℕ) (x y : Symbol) → Alike x y → Alike (Label name x) (Label name y)
    opt_alike : (x y : Symbol) → P x y → Alike (Opt x) (Opt y)
    star_alike : (x y : Symbol) → P x y → Alike (Star x) (Star y)
    plus_alike : (x y : Symbol) → P x y → Alike (Plus x) (Plus y)
    sep_star_alike : (x y p q : Symbol) → P x y → P p q → Alike (SepStar x p) (SepStar y q)
    sep_plus_alike : (x y p q : Symbol) → P x y → P p q → Alike (SepPlus x p) (SepPlus y q)
    group_alike : (xs ys : Alternatives) → EachChoice xs ys → Alike (Group xs) (Group ys)
    offside_alike : (x y : Symbol) → Marks → Alike x y → Alike (Offside x) (Offside y)
    ignore_alike : (x y : Symbol) → Marks → Alike x y → Alike (Ignore x) (Ignore y)
    align_alike : (x y : Symbol) → Marks → Alike x y → Alike (Align x) (Align y)
    filtered_alike : (x y : Symbol) (filters : List Filter) → Alike x y → Alike (Filtered x filters) (Filtered y filters)
    seq_alike : (xs ys : Symbols) → EachSymbol xs ys → Alike (Seq xs) (Seq ys)
    entry_alike : (bs : List Binding) (x y : Symbol) → Enters bs → Alike x y → Alike (Entry bs x) (Entry bs y)

lists_listed : {g : Grammar} {shapes : List Shape} {text : Input} {c : DeclKind} {x : Symbol} {env : Environment} {i j : ℕ} {t : Tree} {starts items : List ℕ} →
    Lists g shapes text c x env i j t starts items → IsListed x
lists_listed (nil _ _ _ _) = tt
lists_listed (snoc _ _ _ _ _ _ _ _ _ _ _ _ _ _ _ _ _ _ _) = tt
lists_listed (one_item _ _ _ _ _ _ _ _ _ _) = tt
lists_listed (more_items _ _ _ _ _ _ _ _ _ _ _ _ _ _ _ _ _ _ _) = tt
lists_listed (first_item _ _ _ _ _ _ _ _ _ _ _) = tt
lists_listed (further_item _ _ _ _ _ _ _ _ _ _ _ _ _ _ _ _ _ _ _ _ _ _ _ _ _ _ _ _) = tt
lists_listed (no_item _ _ _ _ _) = tt
lists_listed (some_items _ _ _ _ _ _ _ _ _ _) = tt

items_listed : {g : Grammar} {shapes : List Shape} {text : Input} {c : DeclKind} {x : Symbol} {env after : Environment} {i e j : ℕ} {ts : Trees} {starts items : List ℕ} →
    Items g shapes text c x env i e j ts after starts items → IsListed x
items_listed (bare _ _ _ _ _ _ _ _ list) = lists_listed list
items_listed (with_filters _ _ _ _ _ _ _ _ _ _ _ inner passes) = items_listed inner

module _ (g : Grammar) (shapes : List Shape) (h : Grammar) (forms : List Shape) (text : Input)
    (Meets : Environment → Environment → Type 0) (Given : List ℕ → Trees → Type 0)
    (Gains : List ℕ → List ℕ → Trees → Type 0) (c d : DeclKind) (Marks : Type 0) (Enters : List Binding → Type 0)
    (fits : Fits text Meets Given Gains Marks Enters) (L P : Symbol → Symbol → Type 0)
    (leaves : (x y : Symbol) → IsLeaf x → L x y → sim.Follows g shapes h forms text Meets Given Gains c d x y)
    (parts : (x y : Symbol) → P x y → sim.Replaces g shapes h forms text Meets Given Gains c d x y) where
  abbrev Same : Symbol → Symbol → Type 0
  Same = sim.Follows g shapes h forms text Meets Given Gains c d

  abbrev SameItems : Symbol → Symbol → Type 0
  SameItems = sim.ItemsToo g shapes h forms text Meets Given Gains c d

  pub each_too : (xs ys : Symbols) → EachSymbol L P Marks Enters xs ys → sim.CoversToo g shapes h forms text Meets Given Gains c d (listed xs) (listed ys)
  each_too xs ys no_pair = sim.no_symbols_too g shapes h forms text Meets Given Gains c d Marks Enters fits
  each_too xs ys (next_pair x y others rest p ps) =
      sim.next_symbol_too g shapes h forms text Meets Given Gains c d Marks Enters fits x y (listed others) (listed rest) (parts x y p) (each_too others rest ps)

  chosen_too : (xs ys : Alternatives) → EachChoice L P Marks Enters xs ys → (n : ℕ) (zs : Symbols) → choice xs n ≡ Some zs →
      (ws : Symbols) × (choice ys n ≡ Some ws) × sim.CoversToo g shapes h forms text Meets Given Gains c d (listed zs) (listed ws)
  chosen_too xs ys no_choices n zs e = absurd (cc)
  chosen_too xs ys (next_choices us vs others rest p ps) zero zs e =
      (vs, refl, subst (λ w. sim.CoversToo g shapes h forms text Meets Given Gains c d (listed w) (listed vs)) (cc) (each_too us vs p))
  chosen_too xs ys (next_choices us vs others rest p ps) (suc n) zs e = chosen_too others rest ps n zs e

  choices_too : (xs ys : Alternatives) → EachChoice L P Marks Enters xs ys → sim.Choices g shapes h forms text Meets Given Gains c d Marks Enters fits xs ys
  choices_too xs ys p k zs chosen =
      let r = chosen_too xs ys p chosen.0 zs chosen.2 in (r.0, (chosen.0, chosen.1, r.1), r.2)

  unlisted : (x y : Symbol) → (IsListed x → ⊥) → SameItems x y
  unlisted x y refuted env other after i e j ts starts items m given derived = absurd (refuted (items_listed derived))

  bare_items : (x y : Symbol) → sim.ListsToo g shapes h forms text Meets Given Gains c d x y → (IsFilteredNot x) → SameItems x y
  bare_items x y f plain env other after i e j ts starts items m given (bare _ _ _ _ _ t _ _ list) =
      let r = f env other i j t starts items m given list in
      record { later = other; exposes = r.exposes; derives = bare d y other i j t r.exposes items r.lists; meets = m; gains = r.gains }
  bare_items x y f plain env other after i e j ts starts items m given (with_filters _ _ _ _ _ _ _ _ _ _ _ inner passes) = absurd plain

  items_alike : (x y : Symbol) → Alike L P Marks Enters x y → SameItems x y
  items_alike x y (leaf _ _ l q) = unlisted x y (no_leaf x l)
  items_alike x y (label_alike name u v a) = unlisted x y (λ l. l)
  items_alike x y (opt_alike u v p) = unlisted x y (λ l. l)
  items_alike x y (star_alike u v p) = bare_items x y (sim.star_too g shapes h forms text Meets Given Gains c d Marks Enters fits u v (parts u v p)) tt
  items_alike x y (plus_alike u v p) = bare_items x y (sim.plus_too g shapes h forms text Meets Given Gains c d Marks Enters fits u v (parts u v p)) tt
  items_alike x y (sep_star_alike u v s t p q) = bare_items x y (sim.sep_star_too g shapes h forms text Meets Given Gains c d Marks Enters fits u v s t (parts u v p) (parts s t q)) tt
  items_alike x y (sep_plus_alike u v s t p q) = bare_items x y (sim.sep_plus_too g shapes h forms text Meets Given Gains c d Marks Enters fits u v s t (parts u v p) (parts s t q)) tt
  items_alike x y (group_alike us vs p) = unlisted x y (λ l. l)
  items_alike x y (offside_alike u v mark a) = unlisted x y (λ l. l)
  items_alike x y (ignore_alike u v mark a) = unlisted x y (λ l. l)
  items_alike x y (align_alike u v mark a) = unlisted x y (λ l. l)
  items_alike x y (filtered_alike u v filters a) = sim.filtered_items g shapes h forms text Meets Given Gains c d Marks Enters fits filters u v (items_alike u v a)
  items_alike x y (seq_alike us vs p) = unlisted x y (λ l. l)
  items_alike x y (entry_alike bs u v n a) = unlisted x y (λ l. l)

  -- THE CONGRUENCE
  pub alike_follows : (x y : Symbol) → Alike L P Marks Enters x y → Same x y
  alike_follows x y (leaf _ _ l q) = leaves x y l q
  alike_follows x y (label_alike name u v a) = sim.label_follows g shapes h forms text Meets Given Gains c d Marks Enters fits name u v (alike_follows u v a)
  alike_follows x y (opt_alike u v p) = sim.opt_follows g shapes h forms text Meets Given Gains c d Marks Enters fits u v (parts u v p)
  alike_follows x y (star_alike u v p) = sim.star_follows g shapes h forms text Meets Given Gains c d Marks Enters fits u v (parts u v p)
  alike_follows x y (plus_alike u v p) = sim.plus_follows g shapes h forms text Meets Given Gains c d Marks Enters fits u v (parts u v p)
  alike_follows x y (sep_star_alike u v s t p q) = sim.sep_star_follows g shapes h forms text Meets Given Gains c d Marks Enters fits u v s t (parts u v p) (parts s t q)
  alike_follows x y (sep_plus_alike u v s t p q) = sim.sep_plus_follows g shapes h forms text Meets Given Gains c d Marks Enters fits u v s t (parts u v p) (parts s t q)
  alike_follows x y (group_alike us vs p) = sim.group_follows g shapes h forms text Meets Given Gains c d Marks Enters fits us vs (choices_too us vs p)
  alike_follows x y (offside_alike u v mark a) = sim.offside_follows g shapes h forms text Meets Given Gains c d Marks Enters fits mark u v (alike_follows u v a)
  alike_follows x y (ignore_alike u v mark a) = sim.ignore_follows g shapes h forms text Meets Given Gains c d Marks Enters fits mark u v (alike_follows u v a)
  alike_follows x y (align_alike u v mark a) = sim.align_follows g shapes h forms text Meets Given Gains c d Marks Enters fits u v (items_alike u v a)
  alike_follows x y (filtered_alike u v filters a) = sim.filtered_follows g shapes h forms text Meets Given Gains c d Marks Enters fits filters u v (alike_follows u v a)
  alike_follows x y (seq_alike us vs p) = sim.seq_follows g shapes h forms text Meets Given Gains c d Marks Enters fits us vs (each_too us vs p)
  alike_follows x y (entry_alike bs u v n a) =
      sim.entry_follows g shapes h forms text Meets Given Gains c d Marks Enters fits bs n u v (sim.followed g shapes h forms text Meets Given Gains c d u v (alike_follows u v a))
