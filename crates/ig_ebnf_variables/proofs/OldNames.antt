-- What an old name is declared as; and the alternatives of the source's declarations.
use Rattle.std.proofs.Common.{◌≡◌, ℕ, suc, Bool, true, false, List, [], ◌∷◌, ◌++◌, map, refl, sym, ◌∙◌, ap, cond}
use Rattle.std.proofs.Common.{Option, Some, None}
use Rattle.std.specs.Prelude.{◌≢◌, option_map, slice_get}
use Rattle.std.specs.Option.{option_or}
use Rattle.ig_ebnf_variables.proofs.Definitions.{IsOld}
use Rattle.ig_ebnf_variables.proofs.Declarations.{declaration_next}
use Rattle.ig_ebnf_variables.specs.Lists.{lowered_grammar, Made, new_declaration, all_added, decls_of}
use Rattle.ig_grammar.specs.Condition.{declaration_of}
use Rattle.ig_grammar.specs.declared.declaration.Decl.{Decl}
use Rattle.ig_grammar.specs.declared.grammar.Grammar.{Grammar}
use Rattle.ig_text.specs.Words.{is_word}
use Rattle.ig_text.proofs.Characters.{differs}
use Rattle.ig_text.proofs.Fallbacks.{or_none}

new_cond : (t : Bool) (d : Decl) (o e : Option Decl) →
    cond t (Some (new_declaration d)) (option_or (option_map new_declaration o) e) ≡ option_or
    (option_map new_declaration (cond t (Some d) o)) e
new_cond true d o e = refl
new_cond false d o e = refl

mapped : (ds es : List Decl) (n : List ℕ) →
    declaration_of (map new_declaration ds ++ es) n ≡ option_or (option_map new_declaration (declaration_of ds n))
    (declaration_of es n)
mapped [] es n = refl
mapped (d ∷ ds) es n =
    declaration_next (new_declaration d) (map new_declaration ds ++ es) n ∙
    ap (cond (is_word d.name n) (Some (new_declaration d))) (mapped ds es n) ∙
    new_cond (is_word d.name n) d (declaration_of ds n) (declaration_of es n) ∙
    ap (λ z. option_or (option_map new_declaration z) (declaration_of es n)) (sym (declaration_next d ds n))

absent_name : (es : List Decl) (n : List ℕ) → ((k : ℕ) (d : Decl) → slice_get es k ≡ Some d → d.name ≢ n) →
    declaration_of es n ≡ None
absent_name [] n each = refl
absent_name (d ∷ es) n each =
    declaration_next d es n ∙ ap (λ z. cond z (Some d) (declaration_of es n)) (differs d.name n (each 0 d refl)) ∙
    absent_name es n (λ k x e. each (suc k) x e)

made_absent : (ms : List Made) (n : List ℕ) → ((k : ℕ) (x : Made) → slice_get ms k ≡ Some x → x.decl.name ≢ n) →
    declaration_of (decls_of ms) n ≡ None
made_absent [] n each = refl
made_absent (m ∷ ms) n each =
    declaration_next m.decl (decls_of ms) n ∙
    ap (λ z. cond z (Some m.decl) (declaration_of (decls_of ms) n)) (differs m.decl.name n (each 0 m refl)) ∙
    made_absent ms n (λ k x e. each (suc k) x e)

pub declared_old : (g : Grammar) (n : List ℕ) → IsOld g n →
    declaration_of (lowered_grammar g).decls n ≡ option_map new_declaration (declaration_of g.decls n)
declared_old g n old =
    mapped g.decls (decls_of (all_added g.decls)) n ∙
    ap (option_or (option_map new_declaration (declaration_of g.decls n)))
    (made_absent (all_added g.decls) n old.not_added) ∙
    or_none (option_map new_declaration (declaration_of g.decls n))

pub from_option : (o : Option Decl) (lower : Decl) → option_map new_declaration o ≡ Some lower →
    (callee : Decl) × (o ≡ Some callee) × (lower ≡ new_declaration callee)
from_option None d h = absurd (cc)
from_option (Some callee) d h = (callee, refl, cc)

pub no_option : (o : Option Decl) → option_map new_declaration o ≡ None → o ≡ None
no_option None h = refl
no_option (Some callee) h = absurd (cc)
