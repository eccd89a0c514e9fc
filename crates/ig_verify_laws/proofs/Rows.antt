-- The nonterminals of a core grammar: their names, their tags and their calls.
use Rattle.std.proofs.Common.{◌≡◌, ℕ, zero, suc, ◌+◌, List, [], ◌∷◌, Bool, true, false, if◌then◌else◌, Option, Some, All, slice_get, ap, subst, arith}
use Rattle.std.specs.Option.{unwrap_or}
use Rattle.std.proofs.lemmas.List.Elements.{All-nil, All-cons}
use Rattle.std.proofs.lemmas.Option.{same_Some}
use Rattle.ig_text.specs.declared.pattern.Pattern.{Pattern}
use Rattle.ig_grammar.specs.Numbering.{alternatives, tag_of}
use Rattle.ig_grammar.specs.Symbol.{Symbol, Literal, OneOf, Call, Guard, Let}
use Rattle.ig_grammar.specs.declared.declaration.Decl.{Decl}
use Rattle.ig_grammar.specs.declared.grammar.Grammar.{Grammar}
use Rattle.ig_grammar.specs.declared.place.Shape.{Shape}
use Rattle.ig_grammar.specs.declared.symbol.Alt.{Alt}
use Rattle.ig_item.specs.Core.{numbered as from_one}
use Rattle.ig_item.specs.declared.core_grammar.CoreAlt.{CoreAlt}
use Rattle.ig_item.specs.declared.core_grammar.Nonterminal.{Nonterminal}
use Rattle.ig_pass.specs.Remaining.{label_of, patterns_of, main_of}
use Rattle.ig_pass.specs.Rooted.{is_root}
use Rattle.ig_core.specs.CoreOf.{Shaped, shaped, unrooted, root_among, written_root, numbered, number_of, alternatives_of, nonterminals_of, core_of}
use Rattle.ig_core.specs.Steps.{step_with, step_of, steps_of}
use Rattle.ig_verify_laws.specs.Ranges.{IsNoCallOfRoot}
use Rattle.ig_verify_laws.proofs.PassedNames.{ArePlain}
use Rattle.ig_verify_laws.proofs.PlainNames.{IsPlain, root_plain}

-- each row has a plain name
abbrev RowsPlain : List Shaped → Type 0
RowsPlain [] = Unit {0}
RowsPlain (x ∷ rows) = IsPlain x.decl.name × RowsPlain rows

unrooted_plain : (ds : List Decl) (shapes : List Shape) → ArePlain ds → RowsPlain (unrooted ds shapes)
unrooted_plain [] shapes a = tt
unrooted_plain (d ∷ ds) [] a = tt
unrooted_plain (d ∷ ds) (s ∷ shapes) a = go (is_root s) (unrooted_plain ds shapes a.1)
  where
    go : (b : Bool) → RowsPlain (unrooted ds shapes) →
        RowsPlain (if b then unrooted ds shapes else shaped d s ∷ unrooted ds shapes)
    go true rest = rest
    go false rest = (a.0, rest)

root_plain_in : (g : Grammar) (ds : List Decl) (shapes : List Shape) → ArePlain ds →
    IsPlain (unwrap_or (root_among ds shapes) (written_root g)).name
root_plain_in g [] shapes a = root_plain
root_plain_in g (d ∷ ds) [] a = root_plain
root_plain_in g (d ∷ ds) (s ∷ shapes) a = go (is_root s) (root_plain_in g ds shapes a.1)
  where
    go : (b : Bool) → IsPlain (unwrap_or (root_among ds shapes) (written_root g)).name →
        IsPlain (unwrap_or (if b then Some d else root_among ds shapes) (written_root g)).name
    go true rest = a.0
    go false rest = rest

named : (number : List ℕ → ℕ) (n : ℕ) (rows : List Shaped) → RowsPlain rows → (k : ℕ) (x : Nonterminal) →
    slice_get (nonterminals_of number n rows) k ≡ Some x → IsPlain x.name
named number n [] a k x e = absurd (cc)
named number n (row ∷ rows) a zero x e = subst IsPlain (ap (λ (y : Nonterminal). y.name) (same_Some _ x e)) a.0
named number n (row ∷ rows) a (suc k) x e = named number (suc n) rows a.1 k x e

pub core_plain : (g : Grammar) (shapes : List Shape) → ArePlain g.decls → (k : ℕ) (x : Nonterminal) →
    slice_get (core_of g shapes) k ≡ Some x → IsPlain x.name
core_plain g shapes a =
    named (number_of g shapes) 0 (numbered g shapes) (root_plain_in g g.decls shapes a, unrooted_plain g.decls shapes a)

-- no step calls the root, since the numbers of names count from 1
module _ (number : List ℕ → ℕ) (from : (name : List ℕ) → number name ≡ 0 → ⊥) where
  step_uncalled : (label : Option (List ℕ)) (excluded : List Pattern) (x : Symbol) →
      IsNoCallOfRoot (step_with number label excluded x)
  step_uncalled label excluded (Literal word) = tt
  step_uncalled label excluded (OneOf class) = tt
  step_uncalled label excluded (Call name arguments) = from name
  step_uncalled label excluded (Guard condition) = tt
  step_uncalled label excluded (Let name value) = tt
  step_uncalled label excluded x = tt

  steps_uncalled : (xs : List Symbol) → All IsNoCallOfRoot (steps_of number xs)
  steps_uncalled [] = All-nil IsNoCallOfRoot
  steps_uncalled (x ∷ xs) =
      All-cons IsNoCallOfRoot (step_of number x) (steps_of number xs)
      (step_uncalled (label_of x) (patterns_of x) (main_of x)) (steps_uncalled xs)

  -- the tag of each alternative is that of its number, and no step of it calls the root
  pub record Alternative (shape : Shape) (n k : ℕ) (x : CoreAlt) : Type 0 where
    pub tagged : x.tag ≡ tag_of shape n k
    pub uncalled : All IsNoCallOfRoot x.steps

  alternative_at : (s : Shape) (n k : ℕ) (alts : List Alt) (i : ℕ) (x : CoreAlt) →
      slice_get (alternatives_of number s n k alts) i ≡ Some x → Alternative s n (k + i) x
  alternative_at s n k [] i x e = absurd (cc)
  alternative_at s n k (a ∷ others) zero x e =
      let same : k ≡ k + 0 = omega arith in
      subst (Alternative s n (k + 0)) (same_Some _ x e)
      (record { tagged = ap (tag_of s n) same; uncalled = steps_uncalled a.symbols })
  alternative_at s n k (a ∷ others) (suc i) x e =
      let same : suc k + i ≡ k + suc i = omega arith in
      subst (λ (m : ℕ). Alternative s n m x) same (alternative_at s n (suc k) others i x e)

  -- so it is in each nonterminal
  pub record Row (x : Nonterminal) : Type 0 where
    pub shape : Shape
    pub n : ℕ
    pub each : (a : ℕ) (y : CoreAlt) → from_one x.alternatives a ≡ Some y → Alternative shape n a y

  pub row_at : (n : ℕ) (rows : List Shaped) (k : ℕ) (x : Nonterminal) → slice_get (nonterminals_of number n rows) k ≡ Some x → Row x
  row_at n [] k x e = absurd (cc)
  row_at n (row ∷ rows) zero x e =
      subst Row (same_Some _ x e)
      (record { shape = row.shape; n = n; each = each row.shape (alternatives row.decl.levels) })
    where
      each : (s : Shape) (alts : List Alt) (a : ℕ) (y : CoreAlt) → from_one (alternatives_of number s n 1 alts) a ≡ Some y →
          Alternative s n a y
      each s alts zero y at = absurd (cc)
      each s alts (suc i) y at =
          let same : 1 + i ≡ suc i = omega arith in
          subst (λ (m : ℕ). Alternative s n m y) same (alternative_at s n 1 alts i y at)
  row_at n (row ∷ rows) (suc k) x e = row_at (suc n) rows k x e
