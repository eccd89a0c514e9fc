-- Rewriting keeps what holds of each symbol at the variables that are visible there.
use Rattle.std.proofs.Common.{◌≡◌, ◌∙◌, ℕ, List, [], ◌∷◌, ◌++◌, refl, sym, ap, subst}
use Rattle.ig_expr.specs.declared.kind.Kind.TheVariants.{Span}
use Rattle.ig_grammar.specs.Binding.{Binding}
use Rattle.ig_grammar.specs.Symbol.{Symbol, Label, Opt, Star, Plus, SepStar, SepPlus, Group, Offside, Ignore, Filtered, Seq, Entry}
use Rattle.ig_grammar.specs.Symbol.{Symbols, Alternatives}
use Rattle.ig_grammar.specs.Visible.{Visible, binds, all_bind, replaced}
use Rattle.ig_grammar.specs.declared.filter.Filter.{Filter}
use Rattle.ig_pass.specs.Throughout.{Placed, PlacedSymbols, PlacedChoices}
use Rattle.ig_lexical.proofs.Alike.{IsLeaf, Alike, leaf, label_alike, opt_alike, star_alike, plus_alike, sep_star_alike, sep_plus_alike, group_alike, offside_alike, ignore_alike, align_alike, filtered_alike, seq_alike, entry_alike}
use Rattle.ig_lexical.proofs.Alike.{EachSymbol, no_pair, next_pair, EachChoice, no_choices, next_choices}

-- the same form with the same expressions, names and filters of its own
pub data SameHead : Symbol → Symbol → Type 0 where
  label_head : (name : List ℕ) (x y : Symbol) → SameHead (Label name x) (Label name y)
  opt_head : (x y : Symbol) → SameHead (Opt x) (Opt y)
  star_head : (x y : Symbol) → SameHead (Star x) (Star y)
  plus_head : (x y : Symbol) → SameHead (Plus x) (Plus y)
  sep_star_head : (x y p q : Symbol) → SameHead (SepStar x p) (SepStar y q)
  sep_plus_head : (x y p q : Symbol) → SameHead (SepPlus x p) (SepPlus y q)
  group_head : (xs ys : Alternatives) → SameHead (Group xs) (Group ys)
  offside_head : (x y : Symbol) → SameHead (Offside x) (Offside y)
  ignore_head : (x y : Symbol) → SameHead (Ignore x) (Ignore y)
  filtered_head : (x y : Symbol) (filters : List Filter) → SameHead (Filtered x filters) (Filtered y filters)
  seq_head : (xs ys : Symbols) → SameHead (Seq xs) (Seq ys)
  entry_head : (bs : List Binding) (x y : Symbol) → SameHead (Entry bs x) (Entry bs y)

module _ (N M : Visible → Symbol → Type 0) (heads : (v : Visible) (x y : Symbol) → SameHead x y → N v x → M v y) where
  -- where N holds throughout x, M holds throughout y, which binds the same
  pub record Stays (x y : Symbol) : Type 0 where
    pub placed : (v : Visible) → Placed N x v → Placed M y v
    pub bound : (v : Visible) → Placed N x v → binds v y ≡ binds v x

  module _ (L : Symbol → Symbol → Type 0) (leaves : (x y : Symbol) → IsLeaf x → L x y → Stays x y) where
    pub record StayAll (xs ys : Symbols) : Type 0 where
      pub placed : (v : Visible) → PlacedSymbols N xs v → PlacedSymbols M ys v
      pub bound : (v : Visible) → PlacedSymbols N xs v → all_bind v ys ≡ all_bind v xs

    pub each_stays : (xs ys : Symbols) → EachSymbol L Stays (⊥) (λ bs. Unit {0}) xs ys → StayAll xs ys
    each_stays xs ys no_pair = record { placed = λ v p. tt; bound = λ v p. refl }
    each_stays xs ys (next_pair x y others rest p ps) =
        let r = each_stays others rest ps in
        record {
          placed = λ v q. (p.placed v q.0, subst (λ b. PlacedSymbols M rest (v ++ b)) (sym (p.bound v q.0)) (r.placed (v ++ binds v x) q.1));
          bound = λ v q. ap (λ b. b ++ all_bind (v ++ b) rest) (p.bound v q.0) ∙ ap (λ b. binds v x ++ b) (r.bound (v ++ binds v x) q.1);
        }

    pub choices_stay : (xs ys : Alternatives) → EachChoice L Stays (⊥) (λ bs. Unit {0}) xs ys → (v : Visible) → PlacedChoices N xs v → PlacedChoices M ys v
    choices_stay xs ys no_choices v q = tt
    choices_stay xs ys (next_choices us ws others rest p ps) v q = ((each_stays us ws p).placed v q.0, choices_stay others rest ps v q.1)

    pub alike_stays : (x y : Symbol) → Alike L Stays (⊥) (λ bs. Unit {0}) x y → Stays x y
    alike_stays x y (leaf _ _ l q) = leaves x y l q
    alike_stays x y (label_alike name u w a) =
        let r = alike_stays u w a in
        record { placed = λ v q. (heads v (Label name u) (Label name w) (label_head name u w) q.0, r.placed v q.1); bound = λ v q. ap (λ b. b ++ (name, Span) ∷ []) (r.bound v q.1) }
    alike_stays x y (opt_alike u w p) = record { placed = λ v q. (heads v (Opt u) (Opt w) (opt_head u w) q.0, p.placed v q.1); bound = λ v q. refl }
    alike_stays x y (star_alike u w p) = record { placed = λ v q. (heads v (Star u) (Star w) (star_head u w) q.0, p.placed v q.1); bound = λ v q. refl }
    alike_stays x y (plus_alike u w p) = record { placed = λ v q. (heads v (Plus u) (Plus w) (plus_head u w) q.0, p.placed v q.1); bound = λ v q. refl }
    alike_stays x y (sep_star_alike u w s t p r) =
        record { placed = λ v q. (heads v (SepStar u s) (SepStar w t) (sep_star_head u w s t) q.0, p.placed v q.1, r.placed v q.2); bound = λ v q. refl }
    alike_stays x y (sep_plus_alike u w s t p r) =
        record { placed = λ v q. (heads v (SepPlus u s) (SepPlus w t) (sep_plus_head u w s t) q.0, p.placed v q.1, r.placed v q.2); bound = λ v q. refl }
    alike_stays x y (group_alike us ws p) =
        record { placed = λ v q. (heads v (Group us) (Group ws) (group_head us ws) q.0, choices_stay us ws p v q.1); bound = λ v q. refl }
    alike_stays x y (offside_alike u w mark a) = absurd mark
    alike_stays x y (ignore_alike u w mark a) = absurd mark
    alike_stays x y (align_alike u w mark a) = absurd mark
    alike_stays x y (filtered_alike u w filters a) =
        let r = alike_stays u w a in
        record { placed = λ v q. (heads v (Filtered u filters) (Filtered w filters) (filtered_head u w filters) q.0, r.placed v q.1); bound = λ v q. r.bound v q.1 }
    alike_stays x y (seq_alike us ws p) =
        let r = each_stays us ws p in
        record { placed = λ v q. (heads v (Seq us) (Seq ws) (seq_head us ws) q.0, r.placed v q.1); bound = λ v q. r.bound v q.1 }
    alike_stays x y (entry_alike bs u w n a) =
        let r = alike_stays u w a in
        record { placed = λ v q. (heads v (Entry bs u) (Entry bs w) (entry_head bs u w) q.0, r.placed (replaced v v bs) q.1); bound = λ v q. refl }
