-- Sequences and groups as the program has them, rewritten.
use Rattle.std.proofs.Common.{◌≡◌, ◌∙◌, IfOk, Result, Ok, Err, List, map, sym, ap}
use Rattle.ig_grammar.specs.Symbol as tree
use Rattle.ig_grammar.specs.Symbol.{gathered}
use Rattle.ig_grammar.specs.Alternative.{gathered_alternatives}
use Rattle.ig_grammar.specs.View.{symbol_of}
use Rattle.ig_grammar.specs.declared.symbol.Symbol.{Symbol as Stored}
use Rattle.ig_grammar.specs.declared.symbol.Symbol.TheVariants.{Seq, Group}
use Rattle.ig_grammar.specs.declared.symbol.Alt.{Alt}
use Rattle.ig_pass.specs.Gathered.{symbols_gathered, choices_gathered}
use Rattle.ig_pass.specs.Rewriting.{within, rewritten, rewritten_alternative}

module _ (own : tree.Symbol → tree.Symbol) where
  -- a form, from what was made of the symbols inside it
  pub copied : {E : Type 0} (r : Result Stored E) (x y : Stored) → x ≡ y → IfOk r (λ q. q ≡ x) → symbol_of y ≡ within own (symbol_of y) →
      IfOk r (λ q. symbol_of q ≡ within own (symbol_of x))
  copied (Ok r) x y e h g = ap symbol_of (h ∙ e) ∙ g ∙ sym (ap (λ q. within own (symbol_of q)) e)
  copied (Err f) x y e h g = tt

  pub formed : {E : Type 0} (r : Result Stored E) (x y : Stored) (z : tree.Symbol) → x ≡ y → IfOk r (λ q. symbol_of q ≡ z) → z ≡ within own (symbol_of y) →
      IfOk r (λ q. symbol_of q ≡ within own (symbol_of x))
  formed (Ok r) x y z e h g = h ∙ g ∙ sym (ap (λ q. within own (symbol_of q)) e)
  formed (Err f) x y z e h g = tt

  pub sequence_within : (x : Stored) (xs ys : List tree.Symbol) → x ≡ Seq xs → ys ≡ map (rewritten own) xs → symbol_of (Seq ys) ≡ within own (symbol_of x)
  sequence_within x xs ys e f =
      ap (λ z. tree.Seq (gathered z)) f ∙ ap tree.Seq (symbols_gathered own xs) ∙ sym (ap (λ z. within own (symbol_of z)) e)

  pub group_within : (x : Stored) (xs ys : List Alt) → x ≡ Group xs → ys ≡ map (rewritten_alternative own) xs → symbol_of (Group ys) ≡ within own (symbol_of x)
  group_within x xs ys e f =
      ap (λ z. tree.Group (gathered_alternatives z)) f ∙ ap tree.Group (choices_gathered own xs) ∙ sym (ap (λ z. within own (symbol_of z)) e)
