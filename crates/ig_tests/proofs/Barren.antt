-- A grammar of one declaration without alternatives is well scoped.
use Rattle.std.proofs.Common.{◌≡◌, ◌∙◌, ℕ, zero, suc, ◌<◌, List, [], ◌∷◌, Bool, true, false, Some, None, slice_get, if◌then◌else◌, refl, sym, ap, subst, arith, get_or, codes, chars}
use Rattle.std.proofs.lemmas.Option.{same_Some}
use Rattle.std.specs.Cmp.Lexicographic.{bytes_decides}
use Rattle.ig_text.specs.Words.{is_word}
use Rattle.ig_grammar.specs.Numbering.{alternatives}
use Rattle.ig_grammar.specs.Condition as meets
use Rattle.ig_grammar.specs.Condition.{Condition, StartMeets, HeadMeets, declaration_of}
use Rattle.ig_grammar.specs.WellScoped.{GrammarHas, IsWellScoped}
use Rattle.ig_grammar.specs.declared.declaration.Decl.{Decl}
use Rattle.ig_grammar.specs.declared.grammar.Grammar.{Grammar}
use Rattle.ig_text.proofs.Characters.{ascii_chars}
use Rattle.ig_text.proofs.Lists.{contains_one, none_in_nil}
use Rattle.ig_text.proofs.Positions.{beside-cons}
use Rattle.ig_pass.specs.Added.{IsFresh, root_name}
use Rattle.ig_tests.specs.Barren.{barren, barren_grammar}

found : (name other : List ℕ) → name ≡ other → declaration_of (barren name ∷ []) other ≡ Some (barren name)
found name other same =
    let t : is_word name other ≡ true = (bytes_decides name other).1 same in
    beside-cons (λ n. is_word n other) name [] (barren name) [] ∙ ap (λ (b : Bool). if b then Some (barren name) else None) t

start_fine : (name : List ℕ) (c : Condition) → StartMeets (barren_grammar name) c → ⊥
start_fine name _ (meets.unknown_start other e none) =
    let h = found name other (same_Some name other e) in let k = sym h ∙ none in cc
start_fine name _ (meets.no_start e) = cc
start_fine name _ (meets.start_has_parameters other decl e is some) =
    let h = found name other (same_Some name other e) in
    some (ap (λ (d : Decl). d.params) (sym (same_Some (barren name) decl (sym h ∙ is))))
start_fine name _ (meets.bad_tabs bad) = let no : false ≡ true = bad in cc

head_fine : (name : List ℕ) (c : Condition) → HeadMeets (barren name ∷ []) 0 (barren name) c → ⊥
head_fine name _ (meets.duplicate_name among) = none_in_nil name among
head_fine name _ (meets.duplicate_parameter k p at among) = cc
head_fine name _ (meets.layout_not_plain e plain) = cc
head_fine name _ (meets.too_many_nonterminals named e) = let h : 0 ≡ 4096 = e in absurd (omega (arith, h))
head_fine name _ (meets.too_many_parameters named l) = let h : 16 < 0 = l in absurd (omega (arith, h))

only : (name : List ℕ) (decl : Decl) (k : ℕ) → slice_get (barren name ∷ []) k ≡ Some decl → (k ≡ 0) × (barren name ≡ decl)
only name decl zero e = (refl, same_Some (barren name) decl e)
only name decl (suc k) e = cc

nowhere : (name : List ℕ) (d a s : ℕ) (c : Condition) → GrammarHas (barren_grammar name) d a s c → ⊥
nowhere name zero zero zero c h = start_fine name c h
nowhere name zero zero (suc s) c h = absurd h
nowhere name zero (suc a) s c h = absurd h
nowhere name (suc (suc k)) a s c h = let e = h.1 in cc
nowhere name (suc zero) zero zero c h =
    head_fine name c
    (subst (λ (d : Decl). HeadMeets (barren name ∷ []) 0 d c) (sym (same_Some (barren name) h.0 h.1)) h.2)
nowhere name (suc zero) zero (suc s) c h = absurd h.2
nowhere name (suc zero) (suc b) s c h =
    let same : barren name ≡ h.0 = same_Some (barren name) h.0 h.1 in
    let none : slice_get (alternatives []) b ≡ Some h.2.0 =
    subst (λ (d : Decl). slice_get (alternatives d.levels) b ≡ Some h.2.0) (sym same) h.2.1 in
    cc

pub barren_is_scoped : (name : List ℕ) → IsWellScoped (barren_grammar name)
barren_is_scoped name place c h = nowhere name place.decl place.alt place.symbol c h

barren_is_fresh : (name root : List ℕ) → (name ≡ root → ⊥) → IsFresh (barren_grammar name) root
barren_is_fresh name root apart among = apart (sym (contains_one name root among))

pub named_s_is_fresh : (g : Grammar) (name : List ℕ) → g ≡ barren_grammar name → name ≡ chars (codes "S") → IsFresh g root_name
named_s_is_fresh g name e is =
    subst (λ (z : Grammar). IsFresh z root_name) (sym e) (barren_is_fresh name root_name (λ s.
    let first : 83 ≡ 36 = ap (λ z. get_or z 0 0) (sym (is ∙ ascii_chars (codes "S") refl) ∙ s) in omega (arith, first)))
