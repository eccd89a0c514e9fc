-- Two checked grammars that permit the same trees.
use Rattle.std.specs.Prelude.{ℕ, List, ◌↔◌}
use Rattle.ig_text.specs.Input.{Input}
use Rattle.ig_text.specs.Tree.{Tree}
use Rattle.ig_grammar.specs.Checked.{CheckedGrammar}
use Rattle.ig_meaning.specs.Permitted.{Permitted}
use Rattle.ig_pass.specs.SameValues.{KeepsValues}

-- of each text both permit the same trees
pub record PermitSame (a b : CheckedGrammar) : Type 0 where
  pub same : (text : Input) (t : Tree) → Permitted a.grammar a.shapes text t ↔ Permitted b.grammar b.shapes text t

-- each grammar permits the trees that it permits, and 'permits the same trees' chains and turns; each grammar keeps its
-- own values, and 'keeps the values' chains
pub record SameTreesIsAnEquivalence : Type 0 where
  pub itself : (a : CheckedGrammar) → PermitSame a a
  pub chained : (a b c : CheckedGrammar) → PermitSame a b → PermitSame b c → PermitSame a c
  pub turned : (a b : CheckedGrammar) → PermitSame a b → PermitSame b a
  pub own_values : (a : CheckedGrammar) → KeepsValues a a
  pub values_chained : (a b c : CheckedGrammar) → PermitSame a b → KeepsValues a b → KeepsValues b c → KeepsValues a c
