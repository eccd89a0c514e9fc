use Rattle.std.proofs.Common.{◌∷◌, [], refl, map, arith, subst, if◌then◌else◌}
use Rattle.std.specs.Prelude.{string_bytes}
use Rattle.std.specs.Str.{chars}
use Rattle.ig_grammar.specs.Symbol.{gathered}
use Rattle.ig_grammar.specs.Alternative.{gathered_alternatives}
use Rattle.ig_grammar.specs.CodingFalls.{symbol_falls, alternative_falls}
use Rattle.ig_grammar.specs.CodingMembers.{node_below, choice_below}
use Rattle.ig_grammar.specs.View.{symbol_of}
use Rattle.ig_show.specs.Steps.{Left, all_left, if_ok, appends}
use Rattle.ig_w3c.specs.Text.{symbol_text, symbols_text, alternatives_text}
use Rattle.ig_w3c.proofs.Steps.{less, none}
use Rattle.ig_w3c.proofs.symbols.+symbols.Goals as goal

pub push_symbol-returns-in-Opt : goal.push_symbol-returns-in-Opt
unfolding chars
push_symbol-returns-in-Opt t c = rw c.in-Opt.is c.push_ended.ensures

pub push_symbol-returns-in-Star : goal.push_symbol-returns-in-Star
unfolding chars
push_symbol-returns-in-Star t c = rw c.in-Star.is c.push_ended-in-Star.ensures

pub push_symbol-returns-in-Plus : goal.push_symbol-returns-in-Plus
unfolding chars
push_symbol-returns-in-Plus t c = rw c.in-Plus.is c.push_ended-in-Plus.ensures

pub push_symbol-returns-in_ok-push_alternatives-in-Group : goal.push_symbol-returns-in_ok-push_alternatives-in-Group
unfolding chars
push_symbol-returns-in_ok-push_alternatives-in-Group t c =
    rw c.in-Group.is
    (if_ok c.push_text-in-Group-2.result c.push_text-in-Group-2.ensures
    (λ h. appends c.in_ok-push_text-in-Group.ensures (appends c.in_ok-push_alternatives-in-Group.ensures h)))

pub push_symbols-loop-symbol-init : goal.push_symbols-loop-symbol-init
push_symbols-loop-symbol-init t c =
    subst (λ z. Left (string_bytes c.args.out.now) (string_bytes c.args.out.now) (symbols_text [] (gathered z))
    (symbols_text [] (gathered (map symbol_of c.as_slice-items.result.now)))) c.as_slice-items.ensures
    (all_left (symbols_text [] (gathered (map symbol_of c.as_slice-items.result.now))))

pub push_symbols-push_symbol-requires : goal.push_symbols-push_symbol-requires
push_symbols-push_symbol-requires t c = (
  omega (
    arith,
    symbol_falls c.symbol-item.result,
    node_below c.as_slice-items.result.now c.args.symbols.now c.loop-symbol.symbol-index c.symbol-item.result c.as_slice-items.ensures
        c.loop-symbol-test.true c.symbol-item.is,
  ),
  tt,
)

pub push_symbols-loop-symbol-preserved : goal.push_symbols-loop-symbol-preserved
unfolding chars
push_symbols-loop-symbol-preserved t c =
    less (λ front xs. symbols_text front (gathered (map symbol_of xs))) (if c.loop-symbol.is_first then [] else 32 ∷ [])
    (symbol_text (symbol_of c.symbol-item.result)) (32 ∷ []) c.as_slice-items.result.now c.loop-symbol.symbol-index c.symbol-item.result
    c.symbol-item.result c.symbol-item.is c.loop-symbol-test.true c.loop-symbol.invariant c.in_ok-push_separator.ensures
    c.in_ok-push_symbol.ensures refl

pub push_symbols-returns : goal.push_symbols-returns
push_symbols-returns t c =
    none (λ front xs. symbols_text front (gathered (map symbol_of xs))) (if c.loop-symbol.is_first then [] else 32 ∷ [])
    c.as_slice-items.result.now c.loop-symbol.symbol-index c.loop-symbol-test.false c.loop-symbol.invariant refl

pub push_alternatives-loop-alternative-init : goal.push_alternatives-loop-alternative-init
push_alternatives-loop-alternative-init t c =
    subst (λ z. Left (string_bytes c.args.out.now) (string_bytes c.args.out.now) (alternatives_text [] (gathered_alternatives z))
    (alternatives_text [] (gathered_alternatives c.as_slice-items.result.now))) c.as_slice-items.ensures
    (all_left (alternatives_text [] (gathered_alternatives c.as_slice-items.result.now)))

pub push_alternatives-push_symbols-requires : goal.push_alternatives-push_symbols-requires
push_alternatives-push_symbols-requires t c = (
  omega (
    arith,
    alternative_falls c.alternative-item.result,
    choice_below c.as_slice-items.result.now c.args.alternatives.now c.loop-alternative.alternative-index c.alternative-item.result
        c.as_slice-items.ensures c.loop-alternative-test.true c.alternative-item.is,
  ),
  tt,
)

pub push_alternatives-loop-alternative-preserved : goal.push_alternatives-loop-alternative-preserved
unfolding chars
push_alternatives-loop-alternative-preserved t c =
    less (λ front xs. alternatives_text front (gathered_alternatives xs)) (if c.loop-alternative.is_first then [] else 32 ∷ 124 ∷ 32 ∷ [])
    (symbols_text [] (gathered c.alternative-item.result.symbols)) (32 ∷ 124 ∷ 32 ∷ []) c.as_slice-items.result.now
    c.loop-alternative.alternative-index c.alternative-item.result c.alternative-item.result c.alternative-item.is
    c.loop-alternative-test.true c.loop-alternative.invariant c.in_ok-push_separator.ensures c.in_ok-push_symbols.ensures refl

pub push_alternatives-returns : goal.push_alternatives-returns
push_alternatives-returns t c =
    none (λ front xs. alternatives_text front (gathered_alternatives xs)) (if c.loop-alternative.is_first then [] else 32 ∷ 124 ∷ 32 ∷ [])
    c.as_slice-items.result.now c.loop-alternative.alternative-index c.loop-alternative-test.false c.loop-alternative.invariant refl
