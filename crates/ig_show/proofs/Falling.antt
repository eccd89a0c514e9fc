-- A member behind the first one of a list has no more nodes than the list.
use Rattle.std.proofs.Common.{◌≡◌, ◌∙◌, ap, sym, refl, ℕ, ◌+◌, ◌<◌, ◌≤◌, List, ◌∷◌, length, map, arith}
use Rattle.std.proofs.Math.ListN.{get_or}
use Rattle.ig_grammar.specs.Symbol as tree
use Rattle.ig_grammar.specs.CodingSizes.{nodes, list_nodes}
use Rattle.ig_grammar.specs.CodingAlternatives.{alternatives_nodes}
use Rattle.ig_grammar.specs.CodingMembers.{choice_below, node_below}
use Rattle.ig_grammar.specs.View.{symbol_of}
use Rattle.ig_grammar.specs.declared.symbol.Alt.{Alt}
use Rattle.ig_grammar.specs.declared.symbol.Symbol.{Symbol}

pub other_symbol : (all others : List Symbol) (first x : Symbol) (i : ℕ) (seen : List tree.Symbol) → map symbol_of all ≡ seen → all ≡ first ∷ others →
    x ≡ get_or others i x → i < length others → nodes (symbol_of x) ≤ list_nodes seen
other_symbol all others first x i seen e p g h =
    let inside : nodes (symbol_of x) ≤ list_nodes (map symbol_of others) = node_below others (map symbol_of others) i x refl h g in
    let whole : list_nodes seen ≡ list_nodes (map symbol_of (first ∷ others)) = ap list_nodes (sym e) ∙ ap (λ z. list_nodes (map symbol_of z)) p in
    omega arith

pub other_alternative : (all others seen : List Alt) (first y : Alt) (i : ℕ) → all ≡ seen → all ≡ first ∷ others →
    y ≡ get_or others i y → i < length others → list_nodes y.symbols + 1 ≤ alternatives_nodes seen
other_alternative all others seen first y i e p g h =
    let inside : list_nodes y.symbols < alternatives_nodes others = choice_below others others i y refl h g in
    let whole : alternatives_nodes seen ≡ alternatives_nodes (first ∷ others) = ap alternatives_nodes (sym e ∙ p) in
    omega arith
