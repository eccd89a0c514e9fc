-- The last step: the core grammar of a grammar that all passes leave, with the shapes of its declarations.
use Rattle.std.specs.Prelude.{ℕ, suc, List, [], ◌∷◌, Option, Some, None, map, if◌then◌else◌}
use Rattle.std.specs.Option.{unwrap_or}
use Rattle.ig_text.specs.Words.{is_word}
use Rattle.ig_grammar.specs.Symbol.{Symbol, Call}
use Rattle.ig_grammar.specs.Numbering.{alternatives, tag_of, layout_among}
use Rattle.ig_meaning.specs.Permitted.{behind_layout}
use Rattle.ig_grammar.specs.declared.grammar.Grammar.{Grammar}
use Rattle.ig_grammar.specs.declared.declaration.Assoc.TheVariants.{Free}
use Rattle.ig_grammar.specs.declared.declaration.Decl.{Decl}
use Rattle.ig_grammar.specs.declared.declaration.DeclKind.TheVariants.{Syntax}
use Rattle.ig_grammar.specs.declared.symbol.Alt.{Alt}
use Rattle.ig_grammar.specs.declared.place.Shape.{Shape}
use Rattle.ig_grammar.specs.declared.place.Shape.TheVariants.{Root}
use Rattle.ig_item.specs.declared.core_grammar.Nonterminal.{Nonterminal}
use Rattle.ig_item.specs.declared.core_grammar.CoreAlt.{CoreAlt}
use Rattle.ig_pass.specs.Added.{root_name}
use Rattle.ig_pass.specs.Rooted.{is_root}
use Rattle.ig_core.specs.Steps.{steps_of}

-- a declaration with its shape
pub record Shaped : Type 0 where
  pub decl : Decl
  pub shape : Shape

abbrev pub shaped : Decl → Shape → Shaped
shaped decl shape = record { decl = decl; shape = shape }

-- the declarations that don't stand for the root, in their order
abbrev pub unrooted : List Decl → List Shape → List Shaped
unrooted [] shapes = []
unrooted (decl ∷ decls) [] = []
unrooted (decl ∷ decls) (shape ∷ shapes) = if is_root shape then unrooted decls shapes else shaped decl shape ∷ unrooted decls shapes

-- the declaration that stands for the root
abbrev pub root_among : List Decl → List Shape → Option Decl
root_among [] shapes = None
root_among (decl ∷ decls) [] = None
root_among (decl ∷ decls) (shape ∷ shapes) = if is_root shape then Some decl else root_among decls shapes

-- what the root calls where no declaration stands for it
abbrev pub start_symbols : Grammar → Option (List ℕ) → List Symbol
start_symbols g None = []
start_symbols g (Some start) = behind_layout (layout_among g.decls) (Call start [] ∷ [])

abbrev pub written_root : Grammar → Decl
written_root g =
    record {
      kind = Syntax;
      name = root_name;
      params = [];
      levels = record { assoc = Free; alts = record { symbols = start_symbols g g.start } ∷ [] } ∷ [];
    }

abbrev pub root_of : Grammar → List Shape → Decl
root_of g shapes = unwrap_or (root_among g.decls shapes) (written_root g)

-- how many of them stand before the first one of the name
abbrev pub place : List Shaped → List ℕ → ℕ
place [] name = 0
place (x ∷ others) name = if is_word x.decl.name name then 0 else suc (place others name)

-- the number of the nonterminal of that name: those that don't stand for the root have the numbers from 1
abbrev pub number_in : List Shaped → List ℕ → ℕ
number_in all name = suc (place all name)

abbrev pub number_of : Grammar → List Shape → List ℕ → ℕ
number_of g shapes name = number_in (unrooted g.decls shapes) name

module _ (number : List ℕ → ℕ) where
  -- alternative k of nonterminal n, which has this shape
  abbrev pub alternative_of : Shape → ℕ → ℕ → Alt → CoreAlt
  alternative_of shape n k a = record { tag = tag_of shape n k; steps = steps_of number a.symbols }

  -- the alternatives from number k on
  abbrev pub alternatives_of : Shape → ℕ → ℕ → List Alt → List CoreAlt
  alternatives_of shape n k [] = []
  alternatives_of shape n k (a ∷ others) = alternative_of shape n k a ∷ alternatives_of shape n (suc k) others

  abbrev pub nonterminal_of : ℕ → Shaped → Nonterminal
  nonterminal_of n x =
      record {
        name = x.decl.name;
        params = map (λ p. p.name) x.decl.params;
        kinds = map (λ p. p.kind) x.decl.params;
        alternatives = alternatives_of x.shape n 1 (alternatives x.decl.levels);
      }

  -- the nonterminals from number n on
  abbrev pub nonterminals_of : ℕ → List Shaped → List Nonterminal
  nonterminals_of n [] = []
  nonterminals_of n (x ∷ others) = nonterminal_of n x ∷ nonterminals_of (suc n) others

-- the root is nonterminal 0
abbrev pub numbered : Grammar → List Shape → List Shaped
numbered g shapes = shaped (root_of g shapes) Root ∷ unrooted g.decls shapes

abbrev pub core_of : Grammar → List Shape → List Nonterminal
core_of g shapes = nonterminals_of (number_of g shapes) 0 (numbered g shapes)

-- what the root calls where no layout is declared
abbrev pub call_of : Option (List ℕ) → List Symbol
call_of None = []
call_of (Some start) = Call start [] ∷ []
