-- What a pass asks of the symbols of a grammar holds where it is well scoped and the added names are new.
use Rattle.std.proofs.Common.{◌≡◌, ◌∙◌, ℕ, zero, suc, ◌<◌, List, [], ◌∷◌, ◌++◌, Option, Some, None, Bool, true, false, refl, sym, ap, subst, arith, length, inl, inr, map, if◌then◌else◌}
use Rattle.std.specs.Prelude.{◌⊎◌, ◌≢◌, All, Contains, slice_get}
use Rattle.std.proofs.lemmas.Option.{slice_get_within}
use Rattle.std.proofs.lemmas.Option.{same_Some}
use Rattle.std.proofs.lemmas.List.Elements.{Contains-append_left, Contains-append_right}
use Rattle.std.specs.List.{flat_map}
use Rattle.ig_text.proofs.Lists.{at_from_contains, get_within, mapped_in}
use Rattle.ig_text.specs.Words.{is_word}
use Rattle.ig_expr.specs.Expression.{Expression}
use Rattle.ig_expr.specs.Expression as expression
use Rattle.ig_grammar.specs.Binding.{Binding}
use Rattle.ig_grammar.specs.Condition.{IsInLexical, declaration_of, expressions, variables}
use Rattle.ig_grammar.specs.Subterms.{subterms, subterms_of_symbols, subterms_of_alternatives}
use Rattle.ig_grammar.specs.Symbol.{Symbol, Literal, OneOf, Call, Label, Guard, Let, Opt, Star, Plus, SepStar, SepPlus, Group, Offside, Ignore, Align, Filtered, Seq, Entry}
use Rattle.ig_grammar.specs.Symbol.{Symbols, no_symbols, next_symbol, Alternatives, no_alternatives, next_alternative}
use Rattle.ig_grammar.specs.Visible.{Visible, binds, replaced}
use Rattle.ig_grammar.specs.declared.declaration.DeclKind.{DeclKind}
use Rattle.ig_grammar.specs.declared.declaration.DeclKind.TheVariants.{Syntax, Lexical, Layout, Plain}
use Rattle.ig_grammar.specs.declared.declaration.Decl.{Decl}
use Rattle.ig_grammar.specs.declared.declaration.Param.{Param}
use Rattle.ig_grammar.specs.declared.grammar.Grammar.{Grammar}
use Rattle.ig_grammar.specs.declared.place.Shape.{Shape}
use Rattle.ig_grammar.specs.declared.place.Shape.TheVariants as shape
use Rattle.ig_pass.specs.Asked.{Asks}
use Rattle.ig_pass.specs.Found.{DeclarationsAreFound}
use Rattle.std.specs.Cmp.Lexicographic.{bytes_decides}
use Rattle.ig_pass.specs.Rooted.{is_root}
use Rattle.ig_pass.specs.Unbound.{LacksName, own_binders, own_variables}
use Rattle.ig_blocks_parts.specs.Setting.{Setting}
use Rattle.ig_blocks_parts.specs.Blocks.{is_marked, kind_called, setting_of}
use Rattle.ig_blocks_parts.proofs.Reading.{IsWritten, Reads, AllRead, BindingsRead}
use Rattle.ig_blocks_parts.proofs.Fitting.{IsKnown, IsFit, AreFit, AreFitChoices}
use Rattle.ig_blocks_parts.proofs.Takes.{AreWritten}
use Rattle.ig_text.proofs.Lists.{contains_first, contains_later}
use Rattle.ig_grammar.specs.ByForm.{own_part, inner_parts, symbols_hold, alternatives_hold}
use Rattle.ig_pass.specs.Throughout.{Placed, PlacedSymbols, PlacedChoices}
use Rattle.ig_blocks_parts.proofs.Looking.{if_true, if_false}
use Rattle.ig_blocks_parts.proofs.Taking.{called_from, root_or_not}

-- names of variables that the pass doesn't add
module _ (s : Setting) where
  pub reads : (e : Expression) → ((n : List ℕ) → Contains (variables e) n → IsWritten s n) → Reads s e
  reads (expression.Integer n) f = tt
  reads (expression.Truth b) f = tt
  reads expression.Here f = tt
  reads (expression.Variable x) f = f x (contains_first x [])
  reads (expression.Not a) f = reads a f
  reads (expression.Negative a) f = reads a f
  reads (expression.Binary op a b) f =
      (reads a (λ n m. f n (Contains-append_left (variables a) (variables b) n m)), reads b (λ n m. f n (Contains-append_right (variables a) (variables b) n m)))
  reads (expression.Of g a) f = reads a f
  reads (expression.Same a b) f =
      (reads a (λ n m. f n (Contains-append_left (variables a) (variables b) n m)), reads b (λ n m. f n (Contains-append_right (variables a) (variables b) n m)))
  reads (expression.Spells a word) f = reads a f
  reads (expression.Outer a b) f =
      (reads a (λ n m. f n (Contains-append_left (variables a) (variables b) n m)), reads b (λ n m. f n (Contains-append_right (variables a) (variables b) n m)))
  reads (expression.Inside a b) f =
      (reads a (λ n m. f n (Contains-append_left (variables a) (variables b) n m)), reads b (λ n m. f n (Contains-append_right (variables a) (variables b) n m)))
  reads (expression.FreeBefore pattern) f = tt
  reads (expression.FreeAfter pattern) f = tt

  all_read : (es : List Expression) → ((e : Expression) → Contains es e → Reads s e) → AllRead s es
  all_read [] f = tt
  all_read (e ∷ es) f = (f e (contains_first e es), all_read es (λ d m. f d (contains_later e es d m)))

  bindings_read : (bs : List Binding) → ((b : Binding) → Contains bs b → IsWritten s b.name × Reads s b.value) → BindingsRead s bs
  bindings_read [] f = tt
  bindings_read (b ∷ bs) f = (f b (contains_first b bs), bindings_read bs (λ d m. f d (contains_later b bs d m)))

  pub params_written : (ps : List Param) → ((n : List ℕ) → Contains (map (λ p. p.name) ps) n → IsWritten s n) → AreWritten s ps
  params_written [] f = tt
  params_written (p ∷ ps) f =
      (f p.name (contains_first p.name (map (λ q. q.name) ps)), params_written ps (λ n m. f n (contains_later p.name (map (λ q. q.name) ps) n m)))

  -- nothing that the symbol itself binds or reads has an added name
  abbrev pub LacksAdded : Symbol → Type 0
  LacksAdded x = LacksName s.m x × LacksName s.f x × LacksName s.c x

  written : (x : Symbol) (n : List ℕ) → LacksAdded x → Contains (own_variables x) n → IsWritten s n
  written x n l m =
      record {
        not_m = λ e. l.0 (subst (Contains (own_variables x)) e m);
        not_f = λ e. l.1 (subst (Contains (own_variables x)) e m);
        not_c = λ e. l.2 (subst (Contains (own_variables x)) e m);
      }

  pub binder_written : (x : Symbol) (n : List ℕ) → LacksAdded x → Contains (own_binders x) n → IsWritten s n
  binder_written x n l m = written x n l (Contains-append_left (own_binders x) (flat_map variables (expressions x)) n m)

flat_at : (es : List Expression) (k : ℕ) (e : Expression) (n : List ℕ) → slice_get es k ≡ Some e → Contains (variables e) n → Contains (flat_map variables es) n
flat_at [] k e n at m = cc
flat_at (d ∷ es) zero e n at m =
    let same : d ≡ e = cc in Contains-append_left (variables d) (flat_map variables es) n (subst (λ z. Contains (variables z) n) (sym same) m)
flat_at (d ∷ es) (suc k) e n at m = Contains-append_right (variables d) (flat_map variables es) n (flat_at es k e n at m)

module _ (s : Setting) where
  pub read_in : (x : Symbol) (e : Expression) → LacksAdded s x → Contains (expressions x) e → Reads s e
  read_in x e l m =
      let k = at_from_contains (expressions x) e m in
      reads s e (λ n v. written s x n l (Contains-append_right (own_binders x) (flat_map variables (expressions x)) n (flat_at (expressions x) k.0 e n k.1 v)))

  pub arguments_read : (name : List ℕ) (arguments : List Expression) → LacksAdded s (Call name arguments) → AllRead s arguments
  arguments_read name arguments l = all_read s arguments (λ e m. read_in (Call name arguments) e l m)

  pub entry_read : (bs : List Binding) (x : Symbol) → LacksAdded s (Entry bs x) → BindingsRead s bs
  entry_read bs x l =
      bindings_read s bs (λ b m.
      (binder_written s (Entry bs x) b.name l (mapped_in (λ d. d.name) bs b m), read_in (Entry bs x) b.value l (mapped_in (λ d. d.value) bs b m)))

is_syntax : (c : DeclKind) → (IsInLexical c → ⊥) → c ≢ Plain → c ≡ Syntax
is_syntax Syntax f h = refl
is_syntax Lexical f h = absurd (f tt)
is_syntax Layout f h = absurd (f tt)
is_syntax Plain f h = absurd (h refl)

-- a symbol that gets what it asks, and that calls no declaration that stands for the root
pub record IsGood (g : Grammar) (shapes : List Shape) (c : DeclKind) (v : Visible) (x : Symbol) : Type 0 where
  pub asks : Asks g.decls c v x
  pub uncalled : (n : ℕ) (decl : Decl) (arguments : List Expression) → slice_get g.decls n ≡ Some decl → slice_get shapes n ≡ Some shape.Root →
      x ≢ Call decl.name arguments

module _ (found : DeclarationsAreFound) (g : Grammar) (shapes : List Shape) (counted : length shapes ≡ length g.decls)
    (place : (n k : ℕ) (d e : Decl) → slice_get g.decls n ≡ Some d → slice_get g.decls k ≡ Some e → d.name ≡ e.name → n ≡ k) where
  abbrev s : Setting
  s = setting_of g.decls shapes

  into : (c : DeclKind) (v : Visible) (name : List ℕ) (arguments : List Expression) (d : Decl) → IsGood g shapes c v (Call name arguments) →
      declaration_of g.decls name ≡ Some d → (is_marked g.decls ≡ true → c ≢ Plain) → is_marked g.decls ≡ true → d.kind ≡ Syntax → c ≡ Syntax
  into Syntax v name arguments d good e plain marked k = refl
  into Lexical v name arguments d good e plain marked k =
      let asks = good.asks in absurd (asks.allowed tt (ap (λ (z : Decl). z.kind) (same_Some asks.callee d (sym asks.declared ∙ e)) ∙ k))
  into Layout v name arguments d good e plain marked k =
      let asks = good.asks in absurd (asks.allowed tt (ap (λ (z : Decl). z.kind) (same_Some asks.callee d (sym asks.declared ∙ e)) ∙ k))
  into Plain v name arguments d good e plain marked k = absurd (plain marked refl)

  -- a called declaration doesn't stand for the root
  pub called_kind : (c : DeclKind) (v : Visible) (name : List ℕ) (arguments : List Expression) (d : Decl) → IsGood g shapes c v (Call name arguments) →
      declaration_of g.decls name ≡ Some d → kind_called g.decls shapes name ≡ Some d.kind
  called_kind c v name arguments d good e =
      let at = found.place g.decls name d e in
      let within : at.0 < length g.decls = slice_get_within g.decls at.0 d at.1 in
      let sh = get_within shapes at.0 (omega (arith, within, counted)) in
      subst (λ z. kind_called g.decls shapes z ≡ Some d.kind) at.2 (called_from g.decls shapes place at.0 d sh.0 at.1 sh.1 (plain at.0 at.1 at.2 sh.0 sh.1 (root_or_not sh.0)))
    where
      plain : (n : ℕ) → slice_get g.decls n ≡ Some d → d.name ≡ name → (sh : Shape) → slice_get shapes n ≡ Some sh → (sh ≡ shape.Root) ⊎ (is_root sh ≡ false) → is_root sh ≡ false
      plain n at named sh shaped (inl r) = absurd (good.uncalled n d arguments at (shaped ∙ ap Some r) (ap (λ z. Call z arguments) (sym named)))
      plain n at named sh shaped (inr r) = r

  known : (c : DeclKind) (v : Visible) (name : List ℕ) (arguments : List Expression) → IsGood g shapes c v (Call name arguments) →
      (is_marked g.decls ≡ true → c ≢ Plain) → IsKnown s c name
  known c v name arguments good plain = go (declaration_of g.decls name) refl
    where
      go : (o : Option Decl) → declaration_of g.decls name ≡ o → IsKnown s c name
      go None e = let asks = good.asks in let clash : Some asks.callee ≡ None = sym asks.declared ∙ e in absurd (cc)
      go (Some d) e = (d.kind, called_kind c v name arguments d good e, λ marked k. into c v name arguments d good e plain marked k)

  -- where an `offside` may stand
  abbrev pub MayBlock : DeclKind → Symbol → Type 0
  MayBlock c (Offside x) = (is_marked g.decls ≡ true) × (c ≢ Plain)
  MayBlock c x = Unit {0}

  abbrev pub Facts : DeclKind → Symbol → Type 0
  Facts c x = LacksAdded s x × MayBlock c x

  module _ (c : DeclKind) (plain : is_marked g.decls ≡ true → c ≢ Plain) where
    abbrev Good : Visible → Symbol → Type 0
    Good = IsGood g shapes c

    lacks : (x : Symbol) → All (Facts c) (subterms x) → LacksAdded s x
    lacks x all = let own = own_part (Facts c) x all in own.0

    mutual
      pub fits : (x : Symbol) (v : Visible) → Placed Good x v → All (Facts c) (subterms x) → IsFit s c x
      fits (Literal word) v p all = tt
      fits (OneOf class) v p all = tt
      fits (Call name arguments) v p all = (known c v name arguments p plain, arguments_read s name arguments (lacks (Call name arguments) all))
      fits (Label name x) v p all =
          (binder_written s (Label name x) name (lacks (Label name x) all) (contains_first name []), fits x v p.1 (inner_parts (Facts c) (Label name x) all))
      fits (Guard e) v p all = read_in s (Guard e) e (lacks (Guard e) all) (contains_first e [])
      fits (Let name e) v p all =
          (binder_written s (Let name e) name (lacks (Let name e) all) (contains_first name []), read_in s (Let name e) e (lacks (Let name e) all) (contains_first e []))
      fits (Opt x) v p all = fits x v p.1 (inner_parts (Facts c) (Opt x) all)
      fits (Star x) v p all = fits x v p.1 (inner_parts (Facts c) (Star x) all)
      fits (Plus x) v p all = fits x v p.1 (inner_parts (Facts c) (Plus x) all)
      fits (SepStar x separator) v p all =
          let r = inner_parts (Facts c) (SepStar x separator) all in (fits x v p.1 r.0, fits separator v p.2 r.1)
      fits (SepPlus x separator) v p all =
          let r = inner_parts (Facts c) (SepPlus x separator) all in (fits x v p.1 r.0, fits separator v p.2 r.1)
      fits (Group choices) v p all = choices_fit choices v p.1 (inner_parts (Facts c) (Group choices) all)
      fits (Offside x) v p all =
          let own = own_part (Facts c) (Offside x) all in
          (is_syntax c p.0.asks own.1.1, own.1.0, fits x v p.1 (inner_parts (Facts c) (Offside x) all))
      fits (Ignore x) v p all = fits x v p.1 (inner_parts (Facts c) (Ignore x) all)
      fits (Align x) v p all =
          (p.0.asks.0, fits x v p.1 (inner_parts (Facts c) (Align x) all))
      fits (Filtered x filters) v p all = fits x v p.1 (inner_parts (Facts c) (Filtered x filters) all)
      fits (Seq xs) v p all = symbols_fit xs v p.1 (inner_parts (Facts c) (Seq xs) all)
      fits (Entry bindings x) v p all =
          (entry_read s bindings x (lacks (Entry bindings x) all), fits x (replaced v v bindings) p.1 (inner_parts (Facts c) (Entry bindings x) all))

      pub symbols_fit : (xs : Symbols) (v : Visible) → PlacedSymbols Good xs v → All (Facts c) (subterms_of_symbols xs) → AreFit s c xs
      symbols_fit no_symbols v p all = tt
      symbols_fit (next_symbol x xs) v p all =
          let r = symbols_hold (Facts c) (next_symbol x xs) all in (fits x v p.0 r.0, symbols_fit xs (v ++ binds v x) p.1 r.1)

      choices_fit : (xs : Alternatives) (v : Visible) → PlacedChoices Good xs v → All (Facts c) (subterms_of_alternatives xs) → AreFitChoices s c xs
      choices_fit no_alternatives v p all = tt
      choices_fit (next_alternative xs others) v p all =
          let r = alternatives_hold (Facts c) (next_alternative xs others) all in (symbols_fit xs v p.0 r.0, choices_fit others v p.1 r.1)
