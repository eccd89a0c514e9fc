-- For the proof checker alone: a reader need not read this file. Its lemmas stand here with their proofs, since crates
-- above go through symbols.
-- A symbol has no more nodes than the sequence in which it stands, and an alternative fewer than its group.
use Rattle.std.proofs.Common.{◌≡◌, ℕ, zero, suc, ◌<◌, ◌≤◌, List, [], ◌∷◌, length, get_or, map, ap, subst, arith}
use Rattle.ig_grammar.specs.Symbol as tree
use Rattle.ig_grammar.specs.Symbol.{gathered}
use Rattle.ig_grammar.specs.CodingSizes.{nodes, nodes_of_symbols, nodes_of_alternatives}
use Rattle.ig_grammar.specs.Alternative.{gathered_alternatives}
use Rattle.ig_grammar.specs.View.{symbol_of}
use Rattle.ig_grammar.specs.declared.symbol.Symbol.{Symbol as Stored}
use Rattle.ig_grammar.specs.declared.symbol.Alt.{Alt}

choice_in : (xs : List Alt) (i : ℕ) (x : Alt) → i < length xs → x ≡ get_or xs i x →
    nodes_of_symbols (gathered x.symbols) < nodes_of_alternatives (gathered_alternatives xs)
choice_in [] i x l e = let f : ⊥ = omega arith in absurd f
choice_in (y ∷ xs) zero x l e =
    let n : nodes_of_symbols (gathered x.symbols) ≡ nodes_of_symbols (gathered y.symbols) =
    ap (λ (z : Alt). nodes_of_symbols (gathered z.symbols)) e in omega arith
choice_in (y ∷ xs) (suc i) x l e = let h = choice_in xs i x (omega arith) e in omega arith

pub choice_below : (items xs : List Alt) (i : ℕ) (x : Alt) → items ≡ xs → i < length items → x ≡ get_or items i x →
    nodes_of_symbols (gathered x.symbols) < nodes_of_alternatives (gathered_alternatives xs)
choice_below items xs i x m l e = subst (λ z. nodes_of_symbols (gathered x.symbols) < nodes_of_alternatives
    (gathered_alternatives z)) m (choice_in items i x l e)

node_in : (cells : List Stored) (i : ℕ) (x : Stored) → i < length cells → x ≡ get_or cells i x →
    nodes (symbol_of x) ≤ nodes_of_symbols (gathered (map symbol_of cells))
node_in [] i x l e = let f : ⊥ = omega arith in absurd f
node_in (y ∷ cells) zero x l e = let n : nodes (symbol_of x) ≡ nodes (symbol_of y) =
    ap (λ z. nodes (symbol_of z)) e in omega arith
node_in (y ∷ cells) (suc i) x l e = let h = node_in cells i x (omega arith) e in omega arith

-- a symbol of the program, in the list of syntax trees
pub node_below : (cells : List Stored) (xs : List tree.Symbol) (i : ℕ) (x : Stored) → map symbol_of cells ≡ xs →
    i < length cells →
    x ≡ get_or cells i x → nodes (symbol_of x) ≤ nodes_of_symbols (gathered xs)
node_below cells xs i x m l e = subst (λ z. nodes (symbol_of x) ≤ nodes_of_symbols (gathered z)) m
    (node_in cells i x l e)
