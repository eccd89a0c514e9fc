-- Tokens read as one grammar at most.
use Rattle.std.proofs.Common.{◌≡◌, List, [], ◌∷◌, refl, sym, ap, subst, ◌∙◌}
use Rattle.std.specs.Prelude.{Some, None, Option, ℤ}
use Rattle.ig_expr.specs.declared.kind.Kind.{Kind}
use Rattle.ig_notation_syntax.specs.Token.{Token, Equals, Bar, Greater, Close, Semicolon, Start, Tabs}
use Rattle.ig_grammar.specs.Symbol.{Symbol, Alternatives, listed, gathered}
use Rattle.ig_grammar.specs.Alternative.{gathered_alternatives}
use Rattle.ig_grammar.specs.declared.symbol.Alt.{Alt}
use Rattle.ig_grammar.specs.declared.declaration.Param.{Param}
use Rattle.ig_grammar.specs.declared.declaration.Assoc.{Assoc}
use Rattle.ig_grammar.specs.declared.declaration.DeclKind.{DeclKind}
use Rattle.ig_grammar.specs.declared.declaration.Level.{Level}
use Rattle.ig_grammar.specs.declared.declaration.Decl.{Decl}
use Rattle.ig_grammar.specs.declared.grammar.Grammar.{Grammar}
use Rattle.ig_grammar.specs.Gathered.{listed_gathered}
use Rattle.ig_notation_syntax.specs.Rules as rule
use Rattle.ig_notation_syntax.specs.Rules.{IsKind, IsDeclKind, ReadsAlternatives, ReadsAssociativity, ReadsLevel, ReadsLevels, ReadsParameters, ReadsDeclaration, ReadsDeclarations, ReadsBody, FollowsRules}
use Rattle.ig_notation_syntax.specs.Machine.{associativity, alternative, alternatives_rest, levels_rest, parameters_rest}
use Rattle.ig_notation_syntax.proofs.Begins.{alternative_begins, declaration_begins}
use Rattle.ig_notation_syntax.proofs.BackDeclarations.{alternatives_list}
use Rattle.ig_notation_syntax.proofs.Clear.{alternatives-in-levels, associativity-alternative, associativity-in-levels}
use Rattle.ig_notation_syntax.proofs.Free.{Free, Same, free_within, not_free, free_behind, cannot_begin}
use Rattle.ig_notation_syntax.proofs.OneExpression.{behind}
use Rattle.ig_notation_syntax.proofs.OneSymbol.{alternatives_one}

-- alternatives are given by their symbols
list-gathered_alternatives : (alts : List Alt) → alternatives_list (gathered_alternatives alts) ≡ alts
list-gathered_alternatives [] = refl
list-gathered_alternatives (a ∷ others) = λ i. record { symbols = listed_gathered a.symbols i } ∷ list-gathered_alternatives others i

gathered_one : (alts others : List Alt) → gathered_alternatives alts ≡ gathered_alternatives others → alts ≡ others
gathered_one alts others e = sym (list-gathered_alternatives alts) ∙ ap alternatives_list e ∙ list-gathered_alternatives others

-- levels
associativity_one : {s r : List Token} {a : Assoc} → ReadsAssociativity s r a → Free associativity r → (q : List Token) (b : Assoc) →
    ReadsAssociativity s q b → Free associativity q → Same Assoc r q a b
associativity_one (rule.free r) f q b (rule.free p) g = (refl, refl)
associativity_one (rule.free r) f q b (rule.left p) g = absurd (cc)
associativity_one (rule.free r) f q b (rule.right p) g = absurd (cc)
associativity_one (rule.free r) f q b (rule.nonassoc p) g = absurd (cc)
associativity_one (rule.left r) f q b (rule.free p) g = absurd (cc)
associativity_one (rule.left r) f q b (rule.left p) g = (refl, refl)
associativity_one (rule.right r) f q b (rule.free p) g = absurd (cc)
associativity_one (rule.right r) f q b (rule.right p) g = (refl, refl)
associativity_one (rule.nonassoc r) f q b (rule.free p) g = absurd (cc)
associativity_one (rule.nonassoc r) f q b (rule.nonassoc p) g = (refl, refl)

-- an associativity isn't read in alternatives
free_associativity : {m r : List Token} {ys : Alternatives} → ReadsAlternatives m r ys → Free associativity r → Free associativity m
free_associativity (rule.last_alternative s r xs d) f = free_behind associativity alternative associativity-alternative s r (alternative_begins d) f
free_associativity (rule.further_alternative s m r xs ys d e) f =
    free_behind associativity alternative associativity-alternative s (Bar ∷ m) (alternative_begins d) refl

level_one : {s r : List Token} {l : Level} → ReadsLevel s r l → Free alternatives_rest r → Free associativity r → (q : List Token) (k : Level) →
    ReadsLevel s q k → Free alternatives_rest q → Free associativity q → Same Level r q l k
level_one (rule.level s m r a alts ys d e h) f g q k (rule.level t n p b others zs c i j) u v =
    let first : Same Assoc m n a b = associativity_one d (free_associativity e g) n b c (free_associativity i v) in
    let second : Same Alternatives r p ys zs = alternatives_one e f p zs (subst (λ z. ReadsAlternatives z p zs) (sym first.0) i) u in
    let third : alts ≡ others = gathered_one alts others (sym h ∙ second.1 ∙ j) in
    (second.0, λ x. record { assoc = first.1 x; alts = third x })

levels_one : {s r : List Token} {ls : List Level} → ReadsLevels s r ls → Free levels_rest r → (q : List Token) (ks : List Level) →
    ReadsLevels s q ks → Free levels_rest q → Same (List Level) r q ls ks
levels_one (rule.last_level s r l d) f q ks (rule.last_level t p k c) g =
    let h : Same Level r p l k =
    level_one d (free_within alternatives_rest levels_rest alternatives-in-levels r f) (free_within associativity levels_rest associativity-in-levels r f)
    p k c (free_within alternatives_rest levels_rest alternatives-in-levels p g) (free_within associativity levels_rest associativity-in-levels p g) in
    (h.0, ap (λ z. z ∷ []) h.1)
levels_one (rule.last_level s r l d) f q ks (rule.further_level t m p k others c e) g =
    absurd (not_free levels_rest refl Greater _ m r refl
    (level_one d (free_within alternatives_rest levels_rest alternatives-in-levels r f) (free_within associativity levels_rest associativity-in-levels r f)
    (Greater ∷ m) k c refl refl).0 f)
levels_one (rule.further_level s m r l ls d e) f q ks (rule.last_level t p k c) g =
    absurd (not_free levels_rest refl Greater _ m p refl
    (sym (level_one d refl refl p k c (free_within alternatives_rest levels_rest alternatives-in-levels p g)
    (free_within associativity levels_rest associativity-in-levels p g)).0) g)
levels_one (rule.further_level s m r l ls d e) f q ks (rule.further_level t n p k others c i) g =
    let h : Same Level (Greater ∷ m) (Greater ∷ n) l k = level_one d refl refl (Greater ∷ n) k c refl refl in
    let j : Same (List Level) r p ls others = levels_one e f p others (subst (λ z. ReadsLevels z p others) (sym (behind h.0)) i) g in
    (j.0, λ x. h.1 x ∷ j.1 x)

-- parameters
kind_one : {t : Token} {k l : Kind} → IsKind t k → IsKind t l → k ≡ l
kind_one rule.int rule.int = refl
kind_one rule.bool rule.bool = refl
kind_one rule.span rule.span = refl

parameters_one : {s r : List Token} {ps : List Param} → ReadsParameters s r ps → Free parameters_rest r → (q : List Token) (os : List Param) →
    ReadsParameters s q os → Free parameters_rest q → Same (List Param) r q ps os
parameters_one (rule.last_parameter x t k r is) f q os (rule.last_parameter y u l p ist) g =
    (refl, λ i. record { name = x; kind = kind_one is ist i } ∷ [])
parameters_one (rule.last_parameter x t k r is) f q os (rule.further_parameter y u l n p others ist c) g = absurd (cc)
parameters_one (rule.further_parameter x t k s r ps is d) f q os (rule.last_parameter y u l p ist) g = absurd (cc)
parameters_one (rule.further_parameter x t k s r ps is d) f q os (rule.further_parameter y u l n p others ist c) g =
    let h : Same (List Param) r p ps others = parameters_one d f p others c g in
    (h.0, λ i. record { name = x; kind = kind_one is ist i } ∷ h.1 i)

-- declarations
decl_kind_one : {t : Token} {k l : DeclKind} → IsDeclKind t k → IsDeclKind t l → k ≡ l
decl_kind_one rule.syntax rule.syntax = refl
decl_kind_one rule.lexical rule.lexical = refl
decl_kind_one rule.layout rule.layout = refl

twice_behind : {t u : Token} {r q : List Token} → t ∷ u ∷ r ≡ t ∷ u ∷ q → r ≡ q
twice_behind e = cc

declaration_one : {s r : List Token} {d : Decl} → ReadsDeclaration s r d → (q : List Token) (o : Decl) → ReadsDeclaration s q o → Same Decl r q d o
declaration_one (rule.without_parameters t k x s r ls is d) q o (rule.without_parameters u l y n p ks ist c) =
    let h : Same (List Level) (Semicolon ∷ r) (Semicolon ∷ p) ls ks = levels_one d refl (Semicolon ∷ p) ks c refl in
    (behind h.0, λ i. record { kind = decl_kind_one is ist i; name = x; params = []; levels = h.1 i })
declaration_one (rule.with_parameters t k x s m r ps ls is d e) q o (rule.with_parameters u l y n v p os ks ist c f) =
    let g : Same (List Param) (Close ∷ Equals ∷ m) (Close ∷ Equals ∷ v) ps os = parameters_one d refl (Close ∷ Equals ∷ v) os c refl in
    let h : Same (List Level) (Semicolon ∷ r) (Semicolon ∷ p) ls ks =
    levels_one e refl (Semicolon ∷ p) ks (subst (λ z. ReadsLevels z (Semicolon ∷ p) ks) (sym (twice_behind g.0)) f) refl in
    (behind h.0, λ i. record { kind = decl_kind_one is ist i; name = x; params = g.1 i; levels = h.1 i })

declarations_one : {s : List Token} {ds : List Decl} → ReadsDeclarations s ds → (os : List Decl) → ReadsDeclarations s os → ds ≡ os
declarations_one rule.no_declaration os rule.no_declaration = refl
declarations_one rule.no_declaration os (rule.further_declaration s m d others c e) = elim c [ ]
declarations_one (rule.further_declaration s m d ds e f) os rule.no_declaration = elim e [ ]
declarations_one (rule.further_declaration s m d ds e f) os (rule.further_declaration t n o others c g) =
    let h : Same Decl m n d o = declaration_one e n o c in
    let j : ds ≡ others = declarations_one f others (subst (λ z. ReadsDeclarations z others) (sym h.0) g) in
    λ i. h.1 i ∷ j i

-- a declaration doesn't begin as a start line
no_start_line : {s : List Token} {ds : List Decl} → ReadsDeclarations (Start ∷ s) ds → ⊥
no_start_line (rule.further_declaration s m d ds e f) = cannot_begin refl refl (declaration_begins e)

no_tabs_line : {s : List Token} {ds : List Decl} → ReadsDeclarations (Tabs ∷ s) ds → ⊥
no_tabs_line (rule.further_declaration s m d ds e f) = cannot_begin refl refl (declaration_begins e)

no_start_in_body : {s : List Token} {tabs : Option ℤ} {ds : List Decl} → ReadsBody (Start ∷ s) tabs ds → ⊥
no_start_in_body (rule.without_tabs s ds d) = no_start_line d

body_one : {s : List Token} {tabs width : Option ℤ} {ds os : List Decl} → ReadsBody s tabs ds → ReadsBody s width os → (tabs ≡ width) × (ds ≡ os)
body_one (rule.with_tabs n s ds d) (rule.with_tabs m t os c) = (refl, declarations_one d os c)
body_one (rule.with_tabs n s ds d) (rule.without_tabs t os c) = absurd (no_tabs_line c)
body_one (rule.without_tabs s ds d) (rule.with_tabs m t os c) = absurd (no_tabs_line d)
body_one (rule.without_tabs s ds d) (rule.without_tabs t os c) = (refl, declarations_one d os c)

pub grammar_one : {tokens : List Token} {g h : Grammar} → FollowsRules tokens g → FollowsRules tokens h → g ≡ h
grammar_one (rule.with_start x s tabs ds d) (rule.with_start y t width os c) =
    let h = body_one d c in λ i. record { start = Some x; tabs = h.0 i; decls = h.1 i }
grammar_one (rule.with_start x s tabs ds d) (rule.without_start t width os c) = absurd (no_start_in_body c)
grammar_one (rule.without_start s tabs ds d) (rule.with_start y t width os c) = absurd (no_start_in_body d)
grammar_one (rule.without_start s tabs ds d) (rule.without_start t width os c) =
    let h = body_one d c in λ i. record { start = None; tabs = h.0 i; decls = h.1 i }
