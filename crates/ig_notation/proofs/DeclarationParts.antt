-- The parts of the rules, put together of what is read one behind the other: declarations.
use Rattle.std.proofs.Common.{◌≡◌, ℕ, suc, ◌+◌, ◌≤◌, ◌<◌, List, [], ◌∷◌, ◌++◌, length, drop, refl, sym, ap, ◌∙◌, subst, true, false, arith}
use Rattle.std.specs.Prelude.{Option, Some, None, ℤ, pos}
use Rattle.std.proofs.lemmas.List.{append-nil, drop_all}
use Rattle.ig_expr.specs.declared.kind.Kind.{Kind}
use Rattle.ig_notation_syntax.specs.Token.{Token, Name, Head, Colon, Comma, Close, Equals, Semicolon, Greater, Start, Tabs, Number}
use Rattle.ig_grammar.specs.Symbol.{Alternatives}
use Rattle.ig_grammar.specs.Alternative.{gathered_alternatives}
use Rattle.ig_grammar.specs.declared.symbol.Alt.{Alt}
use Rattle.ig_grammar.specs.declared.declaration.Assoc.{Assoc}
use Rattle.ig_grammar.specs.declared.declaration.Assoc.TheVariants as assoc
use Rattle.ig_grammar.specs.declared.declaration.DeclKind.{DeclKind}
use Rattle.ig_grammar.specs.declared.declaration.Param.{Param}
use Rattle.ig_grammar.specs.declared.declaration.Level.{Level}
use Rattle.ig_grammar.specs.declared.declaration.Decl.{Decl}
use Rattle.ig_notation_syntax.specs.Rules as rule
use Rattle.ig_notation_syntax.specs.Rules.{IsKind, IsDeclKind, ReadsAssociativity, ReadsAlternatives, ReadsLevel, ReadsLevels, ReadsParameters, ReadsDeclaration, ReadsDeclarations, ReadsBody, FollowsRules}
use Rattle.ig_notation_syntax.specs.Machine as want
use Rattle.ig_notation_syntax.specs.Machine.{Want, before, run, go, step, chosen, after_kind, after_declaration, alternatives_wants, level_wants, levels_wants, parameters_wants, declaration_wants}
use Rattle.ig_notation_syntax.specs.Reading.{Goes}
use Rattle.ig_notation_terms.specs.declared.fault.RuleFault.{RuleFault}
use Rattle.ig_notation_terms.specs.declared.fault.RuleFault.TheVariants.{Unexpected, Memory}
use Rattle.ig_notation_terms.specs.Readers.{Stands, StandsNumber, Takes, Misses, at_end, at_token, MissesAt, StopsAt, Runs, Finds, Closed, Front, After}
use Rattle.ig_notation.specs.Parts.{FailsAt, ReadsHeading, ReadsParameter, ReadsFirst}
use Rattle.ig_notation_terms.specs.Lists.{one_more, the_last, snoc}
use Rattle.ig_notation_terms.specs.Steps.{passed, missed, some_there, stop_first, stop_past, stop_token, by_token, by_itself, in_turn, nothing, ReadsToken, the_token, the_sign, sign_then, then_sign}

-- kinds
kind_row : (t : Token) (k : Kind) → IsKind t k → after_kind t ≡ Some []
kind_row t k rule.int = refl
kind_row t k rule.bool = refl
kind_row t k rule.span = refl

decl_row : (t : Token) (k : DeclKind) → IsDeclKind t k → after_declaration t ≡ Some declaration_wants
decl_row t k rule.syntax = refl
decl_row t k rule.lexical = refl
decl_row t k rule.layout = refl

-- parameters
parameter_read : (t : Token) (x : List ℕ) (k : Kind) (s r : List Token) → IsKind t k → s ≡ Colon ∷ t ∷ r →
    ReadsParameter (Name x ∷ s) r (record { name = x; kind = k })
parameter_read t x k s r is e = record { kind_token = t; is_kind = is; parts = ap (λ z. Name x ∷ z) e }

parameter_at : (T : List Token) (i j : ℕ) (x : List ℕ) (k : Kind) (f : Finds (λ t. IsKind t k) T j) → Stands T i (Name x) → Takes Colon T (i + 1) j →
    Goes Param ReadsParameter (want.parameter ∷ []) [] T i (j + 1) (record { name = x; kind = k })
parameter_at T i j x k f h c =
    by_token ReadsParameter (After Colon ReadsToken) want.parameter (want.colon ∷ want.kind ∷ []) [] (Name x) T i (j + 1) (record { name = x; kind = k }) f.found h refl
    (λ s r v. parameter_read f.found x k s r f.fits (v.is ∙ ap (λ z. Colon ∷ z) v.part))
    (sign_then ReadsToken want.colon Colon (want.kind ∷ []) [] T (i + 1) j (j + 1) f.found refl c
    (the_token want.kind f.found T j f.stands (kind_row f.found k f.fits)))

pub parameter : (T : List Token) (i j : ℕ) (x y : List ℕ) (k : Kind) → Stands T i (Name x) → Takes Colon T (i + 1) j → Finds (λ t. IsKind t k) T j → y ≡ x →
    Goes Param ReadsParameter (want.parameter ∷ []) [] T i (j + 1) (record { name = y; kind = k })
parameter T i j x y k h c f e =
    subst (λ z. Goes Param ReadsParameter (want.parameter ∷ []) [] T i (j + 1) (record { name = z; kind = k })) (sym e) (parameter_at T i j x k f h c)

further_parameter : (s m r : List Token) (p : Param) (ps : List Param) → ReadsParameter s (Comma ∷ m) p → ReadsParameters m r ps → ReadsParameters s r (p ∷ ps)
further_parameter s m r p ps h g =
    subst (λ z. ReadsParameters z r (p ∷ ps)) (sym h.parts) (rule.further_parameter p.name h.kind_token p.kind m r ps h.is_kind g)

last_parameter : (s r : List Token) (p : Param) → ReadsParameter s r p → ReadsParameters s r (p ∷ [])
last_parameter s r p h = subst (λ z. ReadsParameters z r (p ∷ [])) (sym h.parts) (rule.last_parameter p.name h.kind_token p.kind r h.is_kind)

pub more_parameters : (T : List Token) (i j k : ℕ) (ps qs : List Param) (p : Param) →
    Goes (List Param) (Front ReadsParameters) parameters_wants parameters_wants T i j ps →
    Goes Param ReadsParameter (want.parameter ∷ []) [] T j k p → Stands T k Comma → qs ≡ ps ++ p ∷ [] →
    Goes (List Param) (Front ReadsParameters) parameters_wants parameters_wants T i (k + 1) qs
more_parameters T i j k ps qs p g h c e =
    one_more ReadsParameter ReadsParameters (want.parameter ∷ []) want.parameters_rest Comma T i j k ps qs p refl further_parameter g h c e

-- where no comma stands, no further parameter does
no_parameter : (t : Token) → want.after_comma t ≡ None → want.after_parameters_rest t ≡ None
no_parameter Comma e = cc
no_parameter t e = refl

no_more_parameters : (T : List Token) (i : ℕ) → Misses want.comma T i → Misses want.parameters_rest T i
no_more_parameters T i (at_end e) = at_end e
no_more_parameters T i (at_token t h e) = at_token t h (no_parameter t e)

pub closed_parameters : (T : List Token) (i j k l : ℕ) (ps qs rs : List Param) (p : Param) →
    Goes (List Param) (Front ReadsParameters) parameters_wants parameters_wants T i j ps →
    Goes Param ReadsParameter (want.parameter ∷ []) [] T j k p → Misses want.comma T k → Takes Close T k l → qs ≡ ps ++ p ∷ [] → rs ≡ qs →
    Goes (List Param) (Closed ReadsParameters) (parameters_wants ++ want.close_bracket ∷ []) [] T i l rs
closed_parameters T i j k l ps qs rs p g h m c e f =
    then_sign ReadsParameters want.close_bracket Close parameters_wants T i k l rs
    (the_last ReadsParameter ReadsParameters (want.parameter ∷ []) want.parameters_rest T i j k ps rs p refl last_parameter g h (no_more_parameters T k m) (f ∙ e)) c refl

-- the heading
name_heads : (x : List ℕ) (r : List Token) → ReadsHeading x (Name x ∷ r) r []
name_heads x r = λ t k m end levels is e h.
    subst (λ z. ReadsDeclaration (t ∷ Name x ∷ z) end (record { kind = k; name = x; params = []; levels = levels })) (sym e)
    (rule.without_parameters t k x m end levels is h)

pub bare_heading : (T : List Token) (i : ℕ) (x y : List ℕ) (ps : List Param) → Stands T i (Name x) → y ≡ x → ps ≡ [] →
    Goes (List Param) (ReadsHeading y) (want.heading ∷ []) [] T i (i + 1) ps
bare_heading T i x y ps h e f =
    subst (λ z. Goes (List Param) (ReadsHeading z) (want.heading ∷ []) [] T i (i + 1) ps) (sym e)
    (subst (λ z. Goes (List Param) (ReadsHeading x) (want.heading ∷ []) [] T i (i + 1) z) (sym f)
    (by_itself (ReadsHeading x) want.heading [] (Name x) T i [] h refl (name_heads x)))

head_heads : (x : List ℕ) (s r : List Token) (ps : List Param) → ReadsParameters s (Close ∷ r) ps → ReadsHeading x (Head x ∷ s) r ps
head_heads x s r ps g = λ t k m end levels is e h.
    rule.with_parameters t k x s m end ps levels is (subst (λ z. ReadsParameters s (Close ∷ z) ps) e g) h

pub heading : (T : List Token) (i j : ℕ) (x y : List ℕ) (ps : List Param) → Stands T i (Head x) →
    Goes (List Param) (Closed ReadsParameters) (parameters_wants ++ want.close_bracket ∷ []) [] T (i + 1) j ps → y ≡ x →
    Goes (List Param) (ReadsHeading y) (want.heading ∷ []) [] T i j ps
heading T i j x y ps h g e =
    subst (λ z. Goes (List Param) (ReadsHeading z) (want.heading ∷ []) [] T i j ps) (sym e)
    (by_token (ReadsHeading x) (Closed ReadsParameters) want.heading (parameters_wants ++ want.close_bracket ∷ []) [] (Head x) T i j ps ps h refl
    (λ s r v. head_heads x s r ps v) g)

-- levels
pub unassociative : (T : List Token) (i : ℕ) → i ≤ length T → Misses want.associativity T i →
    Goes Assoc ReadsAssociativity (want.associativity ∷ []) [] T i i assoc.Free
unassociative T i l m = nothing ReadsAssociativity (want.associativity ∷ []) [] T i assoc.Free l (λ s. rule.free s) (passed want.associativity T i refl m)

pub level : (T : List Token) (i j k : ℕ) (a : Assoc) (alts : List Alt) → Goes Assoc ReadsAssociativity (want.associativity ∷ []) [] T i j a →
    Goes Alternatives ReadsAlternatives alternatives_wants [] T j k (gathered_alternatives alts) →
    Goes Level ReadsLevel level_wants [] T i k (record { assoc = a; alts = alts })
level T i j k a alts g h =
    in_turn ReadsAssociativity ReadsAlternatives ReadsLevel (want.associativity ∷ []) alternatives_wants [] T i j k a (gathered_alternatives alts)
    (record { assoc = a; alts = alts }) g h (λ s m r u v. rule.level s m r a alts (gathered_alternatives alts) u v refl)

pub more_levels : (T : List Token) (i j k : ℕ) (ls ms : List Level) (l : Level) →
    Goes (List Level) (Front ReadsLevels) levels_wants levels_wants T i j ls →
    Goes Level ReadsLevel level_wants [] T j k l → Stands T k Greater → ms ≡ ls ++ l ∷ [] →
    Goes (List Level) (Front ReadsLevels) levels_wants levels_wants T i (k + 1) ms
more_levels T i j k ls ms l g h c e =
    one_more ReadsLevel ReadsLevels level_wants want.levels_rest Greater T i j k ls ms l refl
    (λ s m r z zs x y. rule.further_level s m r z zs x y) g h c e

pub all_levels : (T : List Token) (i j k : ℕ) (ls ms ns : List Level) (l : Level) →
    Goes (List Level) (Front ReadsLevels) levels_wants levels_wants T i j ls →
    Goes Level ReadsLevel level_wants [] T j k l → Misses want.levels_rest T k → ms ≡ ls ++ l ∷ [] → ns ≡ ms →
    Goes (List Level) ReadsLevels levels_wants [] T i k ns
all_levels T i j k ls ms ns l g h m e f =
    the_last ReadsLevel ReadsLevels level_wants want.levels_rest T i j k ls ns l refl (λ s r z x. rule.last_level s r z x) g h m (f ∙ e)

-- a declaration
declaration_tail : (T : List Token) (j k l : ℕ) (levels : List Level) → Takes Equals T j k → {m : ℕ} → Goes (List Level) ReadsLevels levels_wants [] T k l levels →
    Takes Semicolon T l m →
    Goes (List Level) (After Equals (λ s r v. ReadsLevels s (Semicolon ∷ r) v)) (want.equals ∷ levels_wants ++ want.semicolon ∷ []) [] T j m levels
declaration_tail T j k l levels q {m} g c =
    sign_then (λ s r v. ReadsLevels s (Semicolon ∷ r) v) want.equals Equals (levels_wants ++ want.semicolon ∷ []) [] T j k m levels refl q
    (then_sign ReadsLevels want.semicolon Semicolon levels_wants T k l m levels g c refl)

declaration_body : (T : List Token) (i j m : ℕ) (x : List ℕ) (ps : List Param) (levels : List Level) →
    Goes (List Param) (ReadsHeading x) (want.heading ∷ []) [] T i j ps →
    Goes (List Level) (After Equals (λ s r v. ReadsLevels s (Semicolon ∷ r) v)) (want.equals ∷ levels_wants ++ want.semicolon ∷ []) [] T j m levels →
    Goes (List Level) (λ s r v. (t : Token) (k : DeclKind) → IsDeclKind t k → ReadsDeclaration (t ∷ s) r (record { kind = k; name = x; params = ps; levels = v }))
    declaration_wants [] T i m levels
declaration_body T i j m x ps levels g h =
    in_turn (ReadsHeading x) (After Equals (λ s r v. ReadsLevels s (Semicolon ∷ r) v))
    (λ s r v. (t : Token) (k : DeclKind) → IsDeclKind t k → ReadsDeclaration (t ∷ s) r (record { kind = k; name = x; params = ps; levels = v }))
    (want.heading ∷ []) (want.equals ∷ levels_wants ++ want.semicolon ∷ []) [] T i j m ps levels levels g h
    (λ s n r u v. λ t k is. u t k v.middle r levels is v.is v.part)

pub declaration : (T : List Token) (i j k l m : ℕ) (kind : DeclKind) (x : List ℕ) (ps : List Param) (levels : List Level) → Finds (λ t. IsDeclKind t kind) T i →
    Goes (List Param) (ReadsHeading x) (want.heading ∷ []) [] T (i + 1) j ps → Takes Equals T j k → Goes (List Level) ReadsLevels levels_wants [] T k l levels →
    Takes Semicolon T l m →
    Goes Decl ReadsDeclaration (want.declaration ∷ []) [] T i m (record { kind = kind; name = x; params = ps; levels = levels })
declaration T i j k l m kind x ps levels f g q h c =
    by_token ReadsDeclaration (λ s r v. (t : Token) (k : DeclKind) → IsDeclKind t k → ReadsDeclaration (t ∷ s) r (record { kind = k; name = x; params = ps; levels = v }))
    want.declaration declaration_wants [] f.found T i m (record { kind = kind; name = x; params = ps; levels = levels }) levels f.stands (decl_row f.found kind f.fits)
    (λ s r v. v f.found kind f.fits)
    (declaration_body T (i + 1) j m x ps levels g (declaration_tail T j k l levels q h c))

-- where a declaration stops
pub heading_stops : (T : List Token) (i : ℕ) (kind : DeclKind) (e : RuleFault) → Finds (λ t. IsDeclKind t kind) T i → StopsAt (want.heading ∷ []) T (i + 1) e →
    StopsAt (want.declaration ∷ []) T i e
heading_stops T i kind e f s =
    stop_token want.declaration declaration_wants f.found T i e f.stands (decl_row f.found kind f.fits)
    (stop_first (want.heading ∷ []) (want.equals ∷ levels_wants ++ want.semicolon ∷ []) T (i + 1) e s)

pub behind_heading : (T : List Token) (i j : ℕ) (kind : DeclKind) (x : List ℕ) (ps : List Param) (e : RuleFault) → Finds (λ t. IsDeclKind t kind) T i →
    Goes (List Param) (ReadsHeading x) (want.heading ∷ []) [] T (i + 1) j ps → StopsAt (want.equals ∷ levels_wants ++ want.semicolon ∷ []) T j e →
    StopsAt (want.declaration ∷ []) T i e
behind_heading T i j kind x ps e f g s =
    stop_token want.declaration declaration_wants f.found T i e f.stands (decl_row f.found kind f.fits)
    (stop_past (ReadsHeading x) (want.heading ∷ []) (want.equals ∷ levels_wants ++ want.semicolon ∷ []) T (i + 1) j ps e g s)

-- where `=` or `;` is missing
pub equals_missed : (T : List Token) (j : ℕ) (e : RuleFault) → MissesAt want.equals T j e → StopsAt (want.equals ∷ levels_wants ++ want.semicolon ∷ []) T j e
equals_missed T j e m = missed want.equals (levels_wants ++ want.semicolon ∷ []) T j e refl m

pub levels_stop : (T : List Token) (j k : ℕ) (e : RuleFault) → Takes Equals T j k → StopsAt levels_wants T k e →
    StopsAt (want.equals ∷ levels_wants ++ want.semicolon ∷ []) T j e
levels_stop T j k e q s =
    stop_past ReadsToken (want.equals ∷ []) (levels_wants ++ want.semicolon ∷ []) T j k Equals e (the_sign want.equals Equals T j k q refl)
    (stop_first levels_wants (want.semicolon ∷ []) T k e s)

pub semicolon_missed : (T : List Token) (j k l : ℕ) (levels : List Level) (e : RuleFault) → Takes Equals T j k →
    Goes (List Level) ReadsLevels levels_wants [] T k l levels → MissesAt want.semicolon T l e → StopsAt (want.equals ∷ levels_wants ++ want.semicolon ∷ []) T j e
semicolon_missed T j k l levels e q g m =
    stop_past ReadsToken (want.equals ∷ []) (levels_wants ++ want.semicolon ∷ []) T j k Equals e (the_sign want.equals Equals T j k q refl)
    (stop_past ReadsLevels levels_wants (want.semicolon ∷ []) T k l levels e g (missed want.semicolon [] T l e refl m))

-- declarations up to the last token
pub record Declared (T : List Token) (i j : ℕ) (ds : List Decl) : Type 0 where
  pub reading : ReadsFirst (drop i T) (drop j T) ds
  pub runs : run i (want.declarations ∷ []) (drop i T) ≡ run j (want.declarations ∷ []) (drop j T)

one_of_them : (o other : Option (List Want)) (u : List Token) (n : ℕ) →
    go n (λ next. run (suc n) next u) (chosen (before (want.declarations ∷ []) o) true [] None) ≡
    go n (λ next. run (suc n) next u) (chosen o false (want.declarations ∷ []) other)
one_of_them None other u n = refl
one_of_them (Some row) other u n = ap (λ z. run (suc n) z u) (append-nil (row ++ want.declarations ∷ []))

one_first : (T : List Token) (j : ℕ) (t : Token) → drop j T ≡ t ∷ drop (j + 1) T →
    run j (want.declarations ∷ []) (drop j T) ≡ run j (want.declaration ∷ want.declarations ∷ []) (drop j T)
one_first T j t h =
    subst (λ z. run j (want.declarations ∷ []) z ≡ run j (want.declaration ∷ want.declarations ∷ []) z) (sym h)
    (one_of_them (after_declaration t) (step (want.declarations ∷ []) t) (drop (j + 1) T) j)

pub one_declared : (T : List Token) (i j k : ℕ) (ds es : List Decl) (d : Decl) → Declared T i j ds → j < length T →
    Goes Decl ReadsDeclaration (want.declaration ∷ []) [] T j k d → es ≡ ds ++ d ∷ [] → Declared T i k es
one_declared T i j k ds es d g l h e =
    let s = some_there T j l in
    record {
      reading = λ more r. subst (ReadsDeclarations (drop i T)) (snoc ds es more d e)
          (g.reading (d ∷ more) (rule.further_declaration (drop j T) (drop k T) d more h.reading r));
      runs = g.runs ∙ one_first T j s.0 s.1 ∙ h.runs (want.declarations ∷ []);
    }

pub declaration_fails : (T : List Token) (i j : ℕ) (ds : List Decl) (e : RuleFault) → Declared T i j ds → j < length T →
    StopsAt (want.declaration ∷ []) T j e → FailsAt want.declarations T i e
declaration_fails T i j ds (Unexpected n) g l h =
    let s = some_there T j l in
    g.runs ∙ one_first T j s.0 s.1 ∙ h.stops (want.declarations ∷ [])
declaration_fails T i j ds Memory g l h = tt

pub all_declared : (T : List Token) (i j : ℕ) (ds es : List Decl) → Declared T i j ds → length T ≤ j → es ≡ ds → ReadsDeclarations (drop i T) es
all_declared T i j ds es g l e =
    subst (ReadsDeclarations (drop i T)) (append-nil ds ∙ sym e)
    (g.reading [] (subst (λ z. ReadsDeclarations z []) (sym (drop_all j T l)) rule.no_declaration))

-- the grammar
fails : (w : Want) (a : List Want) (T : List Token) (i j : ℕ) (e : RuleFault) → Runs (w ∷ []) a T i j → StopsAt a T j e → FailsAt w T i e
fails w a T i j (Unexpected n) r s = r.go_on [] ∙ s.stops []
fails w a T i j Memory r s = tt

pub no_tabs : (T : List Token) (i : ℕ) (ds : List Decl) → ReadsDeclarations (drop i T) ds → ReadsBody (drop i T) None ds
no_tabs T i ds h = rule.without_tabs (drop i T) ds h

pub widened : (T : List Token) (i j : ℕ) (n z : ℤ) (ds : List Decl) → Stands T i Tabs → StandsNumber T (i + 1) n → Takes Semicolon T (i + 2) j →
    ReadsDeclarations (drop j T) ds → n ≡ z → ReadsBody (drop i T) (Some z) ds
widened T i j n z ds h m c g e =
    let second : drop (i + 1) T ≡ Number m.spelled ∷ drop (i + 1 + 1) T = m.stands.there in
    let two : i + 1 + 1 ≡ i + 2 = omega arith in
    let rest : drop (i + 1 + 1) T ≡ Semicolon ∷ drop j T =
    ap (λ z. drop z T) two ∙ c.stands.there ∙ ap (λ z. Semicolon ∷ drop z T) (sym c.next) in
    subst (λ z. ReadsBody (drop i T) (Some z) ds) (sym m.is_number ∙ e)
    (subst (λ z. ReadsBody z (Some (pos m.spelled)) ds)
    (sym (h.there ∙ ap (λ z. Tabs ∷ z) (second ∙ ap (λ z. Number m.spelled ∷ z) rest))) (rule.with_tabs m.spelled (drop j T) ds g))

pub no_start : (T : List Token) (tabs : Option ℤ) (ds : List Decl) → ReadsBody (drop 0 T) tabs ds →
    FollowsRules T (record { start = None; tabs = tabs; decls = ds })
no_start T tabs ds h = rule.without_start T tabs ds h

pub starts : (T : List Token) (j : ℕ) (x y : List ℕ) (tabs : Option ℤ) (ds : List Decl) → Stands T 0 Start → Stands T 1 (Name x) →
    Takes Semicolon T 2 j → y ≡ x → ReadsBody (drop j T) tabs ds → FollowsRules T (record { start = Some y; tabs = tabs; decls = ds })
starts T j x y tabs ds h n c e g =
    let rest : drop 2 T ≡ Semicolon ∷ drop j T = c.stands.there ∙ ap (λ z. Semicolon ∷ drop z T) (sym c.next) in
    subst (λ z. FollowsRules T (record { start = Some z; tabs = tabs; decls = ds })) (sym e)
    (subst (λ z. FollowsRules z (record { start = Some x; tabs = tabs; decls = ds }))
    (sym (h.there ∙ ap (λ z. Start ∷ z) (n.there ∙ ap (λ z. Name x ∷ z) rest))) (rule.with_start x (drop j T) tabs ds g))
