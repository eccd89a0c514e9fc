-- The forms of symbols with annotated trees, rewritten.
use Rattle.std.proofs.Common.{◌≡◌, ℕ, zero, suc, List, [], ◌∷◌, true, false, Some, map, refl, sym, ap, subst}
use Rattle.ig_text.specs.declared.tag.Tag.{Tag}
use Rattle.ig_text.specs.declared.tag.Tag.TheVariants as tag
use Rattle.ig_grammar.specs.Numbering.{choice}
use Rattle.ig_grammar.specs.Regular.{IsNoMark}
use Rattle.ig_grammar.specs.Symbol.{Symbol, Literal, OneOf, Call, Label, Opt, Star, Plus, SepStar, SepPlus, Group, Filtered, Seq, Entry}
use Rattle.ig_grammar.specs.Symbol.{Symbols, no_symbols, next_symbol, Alternatives, no_alternatives, next_alternative, gathered, listed}
use Rattle.ig_grammar.specs.declared.declaration.Decl.{Decl}
use Rattle.ig_meaning.specs.Annotated as a
use Rattle.ig_meaning.specs.Annotated.{HasParts}
use Rattle.ig_pass.specs.Rewriting.{within, rewritten, rewritten_symbols, rewritten_choices}
use Rattle.ig_lexical.proofs.Traversal.{Throughout, ThroughoutSymbols, ThroughoutChoices}
use Rattle.ig_lexical.specs.Layout.{is_token, laid_inside}

-- an option, a list, a group or a sequence
abbrev pub IsWhole : Symbol → Type 0
IsWhole (Opt x) = Unit {0}
IsWhole (Star x) = Unit {0}
IsWhole (Plus x) = Unit {0}
IsWhole (SepStar x separator) = Unit {0}
IsWhole (SepPlus x separator) = Unit {0}
IsWhole (Group choices) = Unit {0}
IsWhole (Seq xs) = Unit {0}
IsWhole x = ⊥

-- what has parts is one
pub parts_whole : {x : Symbol} {form : Tag} {parts : List Symbol} → HasParts x form parts → IsWhole x
parts_whole (a.absent x) = tt
parts_whole (a.present x) = tt
parts_whole (a.nil x) = tt
parts_whole (a.snoc x) = tt
parts_whole (a.one_item x) = tt
parts_whole (a.more_items x) = tt
parts_whole (a.first_item x separator) = tt
parts_whole (a.further_item x separator) = tt
parts_whole (a.no_item x separator) = tt
parts_whole (a.some_items x separator) = tt
parts_whole (a.chosen choices k xs choice) = tt

module _ (own : Symbol → Symbol) where
  -- the symbols of a rewritten sequence are the rewritten symbols
  pub listed_rewritten : (xs : Symbols) → listed (rewritten_symbols own xs) ≡ map (rewritten own) (listed xs)
  listed_rewritten no_symbols = refl
  listed_rewritten (next_symbol x xs) = ap (λ ys. rewritten own x ∷ ys) (listed_rewritten xs)

  -- the alternatives of a rewritten group are the rewritten alternatives
  choice_rewritten : (choices : Alternatives) (k : ℕ) (xs : Symbols) → choice choices k ≡ Some xs →
      choice (rewritten_choices own choices) k ≡ Some (rewritten_symbols own xs)
  choice_rewritten no_alternatives k xs e = absurd (cc)
  choice_rewritten (next_alternative ys others) zero xs e =
      let same : ys ≡ xs = cc in ap (λ z. Some (rewritten_symbols own z)) same
  choice_rewritten (next_alternative ys others) (suc k) xs e = choice_rewritten others k xs e

  -- where the own rule changes no option, list, group or sequence, the parts of the rewritten symbol are the rewritten parts
  pub parts_rewritten : ((x : Symbol) → IsWhole x → own x ≡ x) → {x : Symbol} {form : Tag} {parts : List Symbol} →
      HasParts x form parts → HasParts (within own x) form (map (rewritten own) parts)
  parts_rewritten stays (a.absent x) = a.absent (rewritten own x)
  parts_rewritten stays (a.present x) = a.present (rewritten own x)
  parts_rewritten stays (a.nil x) = a.nil (rewritten own x)
  parts_rewritten stays (a.snoc x) =
      let y = rewritten own x in
      subst (λ z. HasParts (Star y) tag.Snoc (z ∷ y ∷ [])) (sym (stays (Star y) tt)) (a.snoc y)
  parts_rewritten stays (a.one_item x) = a.one_item (rewritten own x)
  parts_rewritten stays (a.more_items x) =
      let y = rewritten own x in
      subst (λ z. HasParts (Plus y) tag.More (z ∷ y ∷ [])) (sym (stays (Plus y) tt)) (a.more_items y)
  parts_rewritten stays (a.first_item x separator) = a.first_item (rewritten own x) (rewritten own separator)
  parts_rewritten stays (a.further_item x separator) =
      let y = rewritten own x in
      let s = rewritten own separator in
      subst (λ z. HasParts (SepPlus y s) tag.More (z ∷ s ∷ y ∷ [])) (sym (stays (SepPlus y s) tt)) (a.further_item y s)
  parts_rewritten stays (a.no_item x separator) = a.no_item (rewritten own x) (rewritten own separator)
  parts_rewritten stays (a.some_items x separator) =
      let y = rewritten own x in
      let s = rewritten own separator in
      subst (λ z. HasParts (SepStar y s) tag.Present (z ∷ [])) (sym (stays (SepPlus y s) tt)) (a.some_items y s)
  parts_rewritten stays (a.chosen choices k xs chosen) =
      let ys = rewritten_symbols own xs in
      subst (λ z. HasParts (Group (rewritten_choices own choices)) (tag.GroupAlt k) (z ∷ [])) (sym (stays (Seq ys) tt))
      (a.chosen (rewritten_choices own choices) k ys (chosen.0, chosen.1, choice_rewritten choices chosen.0 xs chosen.2))

-- tokens are rewritten to themselves
pub token_within : (decls : List Decl) (own : Symbol → Symbol) (x : Symbol) → is_token decls (within own x) ≡ is_token decls x
token_within decls own (Label name x) = token_within decls own x
token_within decls own (Filtered x filters) = token_within decls own x
token_within decls own x = refl

pub token_stays : (decls : List Decl) (own : Symbol → Symbol) (x : Symbol) → is_token decls x ≡ true → within own x ≡ x
token_stays decls own (Literal word) e = refl
token_stays decls own (OneOf class) e = refl
token_stays decls own (Call name arguments) e = refl
token_stays decls own (Label name x) e = ap (Label name) (token_stays decls own x e)
token_stays decls own (Filtered x filters) e = ap (λ z. Filtered z filters) (token_stays decls own x e)
token_stays decls own x e = absurd (cc)

-- an option, a list, a group or a sequence is no token, and stays with layout behind tokens
pub whole_no_token : (decls : List Decl) (x : Symbol) → IsWhole x → is_token decls x ≡ false
whole_no_token decls (Literal word) w = absurd w
whole_no_token decls (OneOf class) w = absurd w
whole_no_token decls (Call name arguments) w = absurd w
whole_no_token decls (Label name x) w = absurd w
whole_no_token decls (Filtered x filters) w = absurd w
whole_no_token decls x w = refl

pub whole_stays : (decls : List Decl) (layout : List ℕ) (x : Symbol) → IsWhole x → laid_inside decls layout x ≡ x
whole_stays decls layout (Label name x) w = absurd w
whole_stays decls layout (Filtered x filters) w = absurd w
whole_stays decls layout (Entry bindings x) w = absurd w
whole_stays decls layout x w = refl

-- no mark is in the symbols
abbrev pub NoneMarked : List Symbol → Type 0
NoneMarked [] = Unit {0}
NoneMarked (x ∷ xs) = Throughout IsNoMark x × NoneMarked xs

-- as in a sequence and in an alternative
pub none_listed : (xs : Symbols) → ThroughoutSymbols IsNoMark xs → NoneMarked (listed xs)
none_listed no_symbols q = tt
none_listed (next_symbol x xs) q = (q.0, none_listed xs q.1)

pub none_gathered : (xs : List Symbol) → ThroughoutSymbols IsNoMark (gathered xs) → NoneMarked xs
none_gathered [] q = tt
none_gathered (x ∷ xs) q = (q.0, none_gathered xs q.1)

-- nor in an alternative of a group without marks, and in the parts of a symbol without marks
chosen_unmarked : (choices : Alternatives) (k : ℕ) (xs : Symbols) → choice choices k ≡ Some xs →
    ThroughoutChoices IsNoMark choices → ThroughoutSymbols IsNoMark xs
chosen_unmarked no_alternatives k xs e q = absurd (cc)
chosen_unmarked (next_alternative ys others) zero xs e q =
    let same : ys ≡ xs = cc in subst (ThroughoutSymbols IsNoMark) same q.0
chosen_unmarked (next_alternative ys others) (suc k) xs e q = chosen_unmarked others k xs e q.1

pub parts_unmarked : {x : Symbol} {form : Tag} {parts : List Symbol} → HasParts x form parts → Throughout IsNoMark x →
    NoneMarked parts
parts_unmarked (a.absent x) q = tt
parts_unmarked (a.present x) q = (q.1, tt)
parts_unmarked (a.nil x) q = tt
parts_unmarked (a.snoc x) q = (q, (q.1, tt))
parts_unmarked (a.one_item x) q = (q.1, tt)
parts_unmarked (a.more_items x) q = (q, (q.1, tt))
parts_unmarked (a.first_item x separator) q = (q.1, tt)
parts_unmarked (a.further_item x separator) q = (q, (q.2, (q.1, tt)))
parts_unmarked (a.no_item x separator) q = tt
parts_unmarked (a.some_items x separator) q = (q, tt)
parts_unmarked (a.chosen choices k xs chosen) q = ((tt, chosen_unmarked choices chosen.0 xs chosen.2 q.1), tt)
