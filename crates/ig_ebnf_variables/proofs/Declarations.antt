-- The declaration of a name.
use Rattle.std.proofs.Common.{◌≡◌, ℕ, List, ◌∷◌, cond, Some}
use Rattle.ig_text.specs.Words.{is_word}
use Rattle.ig_grammar.specs.Condition.{declaration_of}
use Rattle.ig_grammar.specs.Names.{names}
use Rattle.ig_grammar.specs.declared.declaration.Decl.{Decl}
use Rattle.ig_ebnf_variables.proofs.Environments.{look_up_next}

pub declaration_next : (d : Decl) (ds : List Decl) (x : List ℕ) →
    declaration_of (d ∷ ds) x ≡ cond (is_word d.name x) (Some d) (declaration_of ds x)
declaration_next d ds x = look_up_next d.name d (names ds) ds x
