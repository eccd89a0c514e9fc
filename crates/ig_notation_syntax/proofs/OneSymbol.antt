-- Tokens read as one symbol or list of alternatives at most.
use Rattle.std.proofs.Common.{◌≡◌, ℕ, List, [], ◌∷◌, refl, sym, ap, subst, ◌∙◌}
use Rattle.std.specs.Prelude.{Some}
use Rattle.ig_text.specs.declared.pattern.Pattern.{Pattern}
use Rattle.ig_expr.specs.Expression.{Expression}
use Rattle.ig_notation_syntax.specs.Token.{Token, Name, Bar, Colon, Close, CloseBrace, Offside, Ignore, Align, When, Let}
use Rattle.ig_grammar.specs.Symbol as tree
use Rattle.ig_grammar.specs.Symbol.{Symbol, Symbols, next_symbol, Alternatives, no_alternatives, next_alternative}
use Rattle.ig_grammar.specs.declared.filter.Filter.{Filter}
use Rattle.ig_notation_syntax.specs.Rules as rule
use Rattle.ig_notation_syntax.specs.Rules.{IsPattern, IsSeparated, IsFilter, ReadsExpression, ReadsArguments, ReadsFilters, ReadsSign, filtered}
use Rattle.ig_notation_syntax.specs.Rules.{ReadsSymbol, ReadsMarked, ReadsPost, ReadsAtom, ReadsAlternatives, ReadsAlternative}
use Rattle.ig_notation_syntax.specs.Machine.{alternative, symbol, marked, post, alternatives_rest, filters, pattern, sign, name_rest}
use Rattle.ig_notation_syntax.specs.Machine.{before, after}
use Rattle.ig_notation_syntax.proofs.Begins.{Begins, takes, passed, filter_row, filters_begin, post_begins, marked_begins, symbol_begins, alternative_begins}
use Rattle.ig_notation_syntax.proofs.Clear.{sign-filters, sign-in-post, filters-in-post, marked-marked, symbol-alternative, marked-in-symbol, symbol-in-alternative, alternative-in-alternatives}
use Rattle.ig_notation_syntax.proofs.Free.{Free, Same, free_within, not_free, free_behind, cannot_begin}
use Rattle.ig_notation_syntax.proofs.OneExpression.{expression_one, arguments_one, behind}

-- filters
pattern_one : {t : Token} {p q : Pattern} → IsPattern t p → IsPattern t q → p ≡ q
pattern_one (rule.literal_pattern w) (rule.literal_pattern v) = refl
pattern_one (rule.class_pattern c) (rule.class_pattern d) = refl

filter_one : {t : Token} {p : Pattern} {f g : Filter} → IsFilter t p f → IsFilter t p g → f ≡ g
filter_one (rule.not_followed p) (rule.not_followed q) = refl
filter_one (rule.not_preceded p) (rule.not_preceded q) = refl
filter_one (rule.excluded p) (rule.excluded q) = refl

filters_one : {s r : List Token} {fs : List Filter} → ReadsFilters s r fs → Free filters r → (q : List Token) (gs : List Filter) →
    ReadsFilters s q gs → Free filters q → Same (List Filter) r q fs gs
filters_one (rule.no_filter r) a q gs (rule.no_filter p) b = (refl, refl)
filters_one (rule.no_filter r) a q gs (rule.next_filter t u p f s n fs is h d) b =
    absurd (not_free filters refl t _ (u ∷ s) r (filter_row t p f is) refl a)
filters_one (rule.next_filter t u p f s r fs is h d) a q gs (rule.no_filter n) b =
    absurd (not_free filters refl t _ (u ∷ s) n (filter_row t p f is) refl b)
filters_one (rule.next_filter t u p f s r fs is h d) a q gs (rule.next_filter v w o g i n hs ist k c) b =
    let l : Same (List Filter) r n fs hs = filters_one d a n hs c b in
    (l.0, λ i. filter_one (subst (λ z. IsFilter t z f) (pattern_one h k) is) ist i ∷ l.1 i)

-- signs
sign_one : {s r : List Token} {x y : Symbol} → ReadsSign s r x y → Free sign r → (q : List Token) (z : Symbol) → ReadsSign s q x z →
    Free sign q → Same Symbol r q y z
sign_one (rule.once r x) a q z (rule.once p y) b = (refl, refl)
sign_one (rule.once r x) a q z (rule.option p y) b = absurd (cc)
sign_one (rule.once r x) a q z (rule.star p y) b = absurd (cc)
sign_one (rule.once r x) a q z (rule.plus p y) b = absurd (cc)
sign_one (rule.option r x) a q z (rule.once p y) b = absurd (cc)
sign_one (rule.option r x) a q z (rule.option p y) b = (refl, refl)
sign_one (rule.star r x) a q z (rule.once p y) b = absurd (cc)
sign_one (rule.star r x) a q z (rule.star p y) b = (refl, refl)
sign_one (rule.plus r x) a q z (rule.once p y) b = absurd (cc)
sign_one (rule.plus r x) a q z (rule.plus p y) b = (refl, refl)

separated_one : {t : Token} {x y z w : Symbol} → IsSeparated t x y z → IsSeparated t x y w → z ≡ w
separated_one (rule.separated_star x y) (rule.separated_star p q) = refl
separated_one (rule.separated_plus x y) (rule.separated_plus p q) = refl

-- a sign isn't read in filters
free_sign : {q r : List Token} {fs : List Filter} → ReadsFilters q r fs → Free post r → Free sign q
free_sign {q} {r} d f = free_behind sign filters sign-filters q r (filters_begin d) (free_within sign post sign-in-post r f)

signed_one : {m q r : List Token} {x y : Symbol} {fs : List Filter} → ReadsSign m q x y → ReadsFilters q r fs → Free post r →
    (p n : List Token) (z : Symbol) (gs : List Filter) → ReadsSign m p x z → ReadsFilters p n gs → Free post n →
    Same Symbol r n (filtered y fs) (filtered z gs)
signed_one {m} {q} {r} {x} {y} {fs} d f a p n z gs c g b =
    let h : Same Symbol q p y z = sign_one d (free_sign f a) p z c (free_sign g b) in
    let l : Same (List Filter) r n fs gs =
    filters_one f (free_within filters post filters-in-post r a) n gs (subst (λ u. ReadsFilters u n gs) (sym h.0) g)
    (free_within filters post filters-in-post n b) in
    (l.0, λ i. filtered (h.1 i) (l.1 i))

-- a mark begins no post, and what begins a guard or a let no marked symbol
no_offside : {s r : List Token} {x : Symbol} → ReadsPost (Offside ∷ s) r x → ⊥
no_offside d = cannot_begin refl refl (post_begins d)

no_ignore : {s r : List Token} {x : Symbol} → ReadsPost (Ignore ∷ s) r x → ⊥
no_ignore d = cannot_begin refl refl (post_begins d)

no_align : {s r : List Token} {x : Symbol} → ReadsPost (Align ∷ s) r x → ⊥
no_align d = cannot_begin refl refl (post_begins d)

no_guard : {s r : List Token} {x : Symbol} → ReadsMarked (When ∷ s) r x → ⊥
no_guard d = cannot_begin refl refl (marked_begins d)

no_let : {s r : List Token} {x : Symbol} → ReadsMarked (Let ∷ s) r x → ⊥
no_let d = cannot_begin refl refl (marked_begins d)

-- a colon is in no sign and in no filter
before_colon : {s m q r : List Token} {x y : Symbol} {fs : List Filter} → ReadsSign m q x y → m ≡ Colon ∷ s → ReadsFilters q r fs →
    r ≡ Colon ∷ s
before_colon (rule.once m x) e (rule.no_filter q) = e
before_colon {s = s} (rule.once m x) e (rule.next_filter t u p f i r fs is h d) =
    let same : t ≡ Colon = cc in
    let w : after filters Colon ≡ Some (pattern ∷ filters ∷ []) = subst (λ z. after filters z ≡ Some (pattern ∷ filters ∷ [])) same (filter_row t p f is) in
    absurd (cc)
before_colon (rule.option m x) e d = absurd (cc)
before_colon (rule.star m x) e d = absurd (cc)
before_colon (rule.plus m x) e d = absurd (cc)

named_post : {s r : List Token} {n : List ℕ} {x : Symbol} → ReadsPost (Name n ∷ Colon ∷ s) r x → r ≡ Colon ∷ s
named_post (rule.atom s m q r x y z fs (rule.bare_call n k) e f h) = before_colon e refl f

named_marked : {s r : List Token} {n : List ℕ} {x : Symbol} → ReadsMarked (Name n ∷ Colon ∷ s) r x → r ≡ Colon ∷ s
named_marked (rule.unmarked s r x d) = named_post d

no_label : {s r : List Token} {n : List ℕ} {x : Symbol} → ReadsMarked (Name n ∷ Colon ∷ s) r x → Free symbol r → ⊥
no_label {s} {r} d f = not_free name_rest refl Colon _ s r refl (named_marked d) f

-- no symbol begins where none may follow
no_symbol_here : {s r : List Token} → Begins symbol s r → Free alternative s → ⊥
no_symbol_here (takes t s r row e c) f = not_free alternative refl t _ s (t ∷ s) (ap (before (alternative ∷ [])) e) refl f
no_symbol_here (passed r e) f = absurd (cc)

separated_kind : {t u : Token} {q p : List Token} {x y z w : Symbol} → CloseBrace ∷ t ∷ q ≡ CloseBrace ∷ u ∷ p → IsSeparated t x y z →
    (v o : Symbol) → x ≡ v → y ≡ o → IsSeparated u v o w → (q ≡ p) × (z ≡ w)
separated_kind {t} {u} {q} {p} {x} {y} {z} {w} e is v o f g ist =
    let same : t ≡ u = cc in
    (cc, separated_one is (subst (λ k. IsSeparated k x y w) (sym same) (subst (λ k. IsSeparated u k y w) (sym f) (subst (λ k. IsSeparated u v k w) (sym g) ist))))

mutual
  pub symbol_one : {s r : List Token} {x : Symbol} → ReadsSymbol s r x → Free symbol r → (q : List Token) (y : Symbol) → ReadsSymbol s q y →
      Free symbol q → Same Symbol r q x y
  symbol_one (rule.guard s r e d) a q y (rule.guard t p f c) b =
      let h : Same Expression (Close ∷ r) (Close ∷ p) e f = expression_one d refl (Close ∷ p) f c refl in
      (behind h.0, ap tree.Guard h.1)
  symbol_one (rule.guard s r e d) a q y (rule.unlabelled t p z c) b = absurd (no_guard c)
  symbol_one (rule.let_be n s r e d) a q y (rule.let_be k t p f c) b =
      let h : Same Expression (Close ∷ r) (Close ∷ p) e f = expression_one d refl (Close ∷ p) f c refl in
      (behind h.0, ap (tree.Let n) h.1)
  symbol_one (rule.let_be n s r e d) a q y (rule.unlabelled t p z c) b = absurd (no_let c)
  symbol_one (rule.labelled n s r x d) a q y (rule.labelled k t p z c) b =
      let h : Same Symbol r p x z =
      marked_one d (free_within marked symbol marked-in-symbol r a) p z c (free_within marked symbol marked-in-symbol p b) in
      (h.0, ap (tree.Label n) h.1)
  symbol_one (rule.labelled n s r x d) a q y (rule.unlabelled t p z c) b = absurd (no_label c b)
  symbol_one (rule.unlabelled s r x d) a q y (rule.guard t p f c) b = absurd (no_guard d)
  symbol_one (rule.unlabelled s r x d) a q y (rule.let_be k t p f c) b = absurd (no_let d)
  symbol_one (rule.unlabelled s r x d) a q y (rule.labelled k t p z c) b = absurd (no_label d a)
  symbol_one (rule.unlabelled s r x d) a q y (rule.unlabelled t p z c) b =
      marked_one d (free_within marked symbol marked-in-symbol r a) p z c (free_within marked symbol marked-in-symbol p b)

  marked_one : {s r : List Token} {x : Symbol} → ReadsMarked s r x → Free marked r → (q : List Token) (y : Symbol) → ReadsMarked s q y →
      Free marked q → Same Symbol r q x y
  marked_one (rule.offside s r x d) a q y (rule.offside t p z c) b =
      let h : Same Symbol r p x z = post_one d a p z c b in (h.0, ap tree.Offside h.1)
  marked_one (rule.offside s r x d) a q y (rule.unmarked t p z c) b = absurd (no_offside c)
  marked_one (rule.ignore s r x d) a q y (rule.ignore t p z c) b =
      let h : Same Symbol r p x z = post_one d a p z c b in (h.0, ap tree.Ignore h.1)
  marked_one (rule.ignore s r x d) a q y (rule.unmarked t p z c) b = absurd (no_ignore c)
  marked_one (rule.align s r x d) a q y (rule.align t p z c) b =
      let h : Same Symbol r p x z = post_one d a p z c b in (h.0, ap tree.Align h.1)
  marked_one (rule.align s r x d) a q y (rule.unmarked t p z c) b = absurd (no_align c)
  marked_one (rule.unmarked s r x d) a q y (rule.offside t p z c) b = absurd (no_offside d)
  marked_one (rule.unmarked s r x d) a q y (rule.ignore t p z c) b = absurd (no_ignore d)
  marked_one (rule.unmarked s r x d) a q y (rule.align t p z c) b = absurd (no_align d)
  marked_one (rule.unmarked s r x d) a q y (rule.unmarked t p z c) b = post_one d a p z c b

  post_one : {s r : List Token} {x : Symbol} → ReadsPost s r x → Free post r → (q : List Token) (y : Symbol) → ReadsPost s q y →
      Free post q → Same Symbol r q x y
  post_one (rule.atom s m n r x y z fs d e f h) a q w (rule.atom t k l p u v o gs c i g j) b =
      let same : Same Symbol m k x u = atom_one d k u c in
      let rest : Same Symbol r p (filtered y fs) (filtered v gs) =
      signed_one e f a l p v gs (subst (λ v1. ReadsSign m l v1 v) (sym same.1) (subst (λ v1. ReadsSign v1 l u v) (sym same.0) i)) g b in
      (rest.0, h ∙ rest.1 ∙ sym j)
  post_one (rule.atom s m n r x y z fs d e f h) a q w (rule.separated t i k l p u v o c gs g j is e2 h2) b = elim d [ ]
  post_one (rule.separated t s m n r x y z o fs d e is f h) a q w (rule.atom i k l p u v j gs c e2 g h2) b = elim c [ ]
  post_one (rule.separated t s m n r x y z o fs d e is f h) a q w (rule.separated u i k l p x2 y2 z2 o2 gs c e2 ist g h2) b =
      let first : Same Symbol m k x x2 =
      marked_one d (free_behind marked marked marked-marked m (CloseBrace ∷ t ∷ n) (marked_begins e) refl) k x2 c
      (free_behind marked marked marked-marked k (CloseBrace ∷ u ∷ l) (marked_begins e2) refl) in
      let second : Same Symbol (CloseBrace ∷ t ∷ n) (CloseBrace ∷ u ∷ l) y y2 =
      marked_one e refl (CloseBrace ∷ u ∷ l) y2 (subst (λ v. ReadsMarked v (CloseBrace ∷ u ∷ l) y2) (sym first.0) e2) refl in
      let third : (n ≡ l) × (z ≡ z2) = separated_kind second.0 is x2 y2 first.1 second.1 ist in
      let last : Same (List Filter) r p fs gs =
      filters_one f (free_within filters post filters-in-post r a) p gs (subst (λ v. ReadsFilters v p gs) (sym third.0) g)
      (free_within filters post filters-in-post p b) in
      (last.0, h ∙ (λ v. filtered (third.1 v) (last.1 v)) ∙ sym h2)

  atom_one : {s r : List Token} {x : Symbol} → ReadsAtom s r x → (q : List Token) (y : Symbol) → ReadsAtom s q y → Same Symbol r q x y
  atom_one (rule.literal w r) q y (rule.literal v p) = (refl, refl)
  atom_one (rule.class w r) q y (rule.class v p) = (refl, refl)
  atom_one (rule.bare_call w r) q y (rule.bare_call v p) = (refl, refl)
  atom_one (rule.call n s r es d) q y (rule.call m t p fs c) =
      let h : Same (List Expression) (Close ∷ r) (Close ∷ p) es fs = arguments_one d refl (Close ∷ p) fs c refl in
      (behind h.0, ap (tree.Call n) h.1)
  atom_one (rule.group s r ys d) q y (rule.group t p zs c) =
      let h : Same Alternatives (Close ∷ r) (Close ∷ p) ys zs = alternatives_one d refl (Close ∷ p) zs c refl in
      (behind h.0, ap tree.Group h.1)

  pub alternatives_one : {s r : List Token} {ys : Alternatives} → ReadsAlternatives s r ys → Free alternatives_rest r →
      (q : List Token) (zs : Alternatives) → ReadsAlternatives s q zs → Free alternatives_rest q → Same Alternatives r q ys zs
  alternatives_one (rule.last_alternative s r xs d) a q zs (rule.last_alternative t p us c) b =
      let h : Same Symbols r p xs us =
      alternative_one d (free_within alternative alternatives_rest alternative-in-alternatives r a) p us c
      (free_within alternative alternatives_rest alternative-in-alternatives p b) in
      (h.0, ap (λ z. next_alternative z no_alternatives) h.1)
  alternatives_one (rule.last_alternative s r xs d) a q zs (rule.further_alternative t m p us vs c k) b =
      absurd (not_free alternatives_rest refl Bar _ m r refl
      (alternative_one d (free_within alternative alternatives_rest alternative-in-alternatives r a) (Bar ∷ m) us c refl).0 a)
  alternatives_one (rule.further_alternative s m r xs ys d k) a q zs (rule.last_alternative t p us c) b =
      absurd (not_free alternatives_rest refl Bar _ m p refl
      (sym (alternative_one d refl p us c (free_within alternative alternatives_rest alternative-in-alternatives p b)).0) b)
  alternatives_one (rule.further_alternative s m r xs ys d k) a q zs (rule.further_alternative t n p us vs c l) b =
      let h : Same Symbols (Bar ∷ m) (Bar ∷ n) xs us = alternative_one d refl (Bar ∷ n) us c refl in
      let j : Same Alternatives r p ys vs =
      alternatives_one k a p vs (subst (λ z. ReadsAlternatives z p vs) (sym (behind h.0)) l) b in
      (j.0, λ i. next_alternative (h.1 i) (j.1 i))

  alternative_one : {s r : List Token} {xs : Symbols} → ReadsAlternative s r xs → Free alternative r → (q : List Token) (ys : Symbols) →
      ReadsAlternative s q ys → Free alternative q → Same Symbols r q xs ys
  alternative_one (rule.no_symbol r) a q ys (rule.no_symbol p) b = (refl, refl)
  alternative_one (rule.no_symbol r) a q ys (rule.further_symbol t m p y us c k) b = absurd (no_symbol_here (symbol_begins c) a)
  alternative_one (rule.further_symbol s m r x xs d k) a q ys (rule.no_symbol p) b = absurd (no_symbol_here (symbol_begins d) b)
  alternative_one (rule.further_symbol s m r x xs d k) a q ys (rule.further_symbol t n p y us c l) b =
      let h : Same Symbol m n x y =
      symbol_one d (free_behind symbol alternative symbol-alternative m r (alternative_begins k) (free_within symbol alternative symbol-in-alternative r a)) n y c
      (free_behind symbol alternative symbol-alternative n p (alternative_begins l) (free_within symbol alternative symbol-in-alternative p b)) in
      let j : Same Symbols r p xs us = alternative_one k a p us (subst (λ z. ReadsAlternative z p us) (sym h.0) l) b in
      (j.0, λ i. next_symbol (h.1 i) (j.1 i))
