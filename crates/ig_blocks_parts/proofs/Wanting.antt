-- What the pass makes of a symbol wants the variables that the symbol wants, and the bindings that it adds are wanted.
use Rattle.std.proofs.Common.{◌≡◌, ◌∙◌, ℕ, Bool, true, false, not, ◌&&◌, ◌||◌, List, [], ◌∷◌, ◌++◌, Option, Some, None, refl, sym, ap, ap₂}
use Rattle.std.proofs.lemmas.Bool.{or_left, or_right}
use Rattle.ig_text.specs.Words.{is_word}
use Rattle.ig_text.proofs.Characters.{differs}
use Rattle.ig_expr.specs.Expression.{Expression}
use Rattle.ig_grammar.specs.Binding.{Binding}
use Rattle.ig_grammar.specs.Symbol.{Symbol, Literal, OneOf, Call, Label, Guard, Let, Opt, Star, Plus, SepStar, SepPlus, Group, Offside, Ignore, Align, Filtered, Seq, Entry}
use Rattle.ig_grammar.specs.Symbol.{Symbols, no_symbols, next_symbol, gathered, Alternatives, no_alternatives, next_alternative}
use Rattle.ig_grammar.specs.declared.declaration.DeclKind.{DeclKind}
use Rattle.ig_grammar.specs.declared.declaration.DeclKind.TheVariants.{Syntax, Lexical, Layout, Plain}
use Rattle.ig_pass.specs.Needs.{uses, any_uses, bindings_use, is_bound, is_pair, needs, symbols_need, alternatives_need}
use Rattle.ig_blocks_parts.specs.Setting.{Setting, Pair, lacking, carried, opened, cleared, opened_by, cleared_by, inner, pair_bindings, column_bindings, column_guards, wrapped, entered}
use Rattle.ig_blocks_parts.specs.Body.{tests_of, arguments_of, body_of, sequence_of, choices_of}
use Rattle.ig_blocks_parts.proofs.Reading.{IsWritten}

or_mono : (a b c d : Bool) → (a ≡ true → c ≡ true) → (b ≡ true → d ≡ true) → (a || b) ≡ true → (c || d) ≡ true
or_mono true b c d f h e = or_left c d (f refl)
or_mono false b c d f h e = or_right c d (h e)

and_mono : (a b d : Bool) → (b ≡ true → d ≡ true) → (a && b) ≡ true → (a && d) ≡ true
and_mono true b d h e = h e
and_mono false b d h e = cc

any_more : (n : List ℕ) (es ds : List Expression) → any_uses n es ≡ true → any_uses n (es ++ ds) ≡ true
any_more n [] ds e = absurd (cc)
any_more n (x ∷ es) ds e = or_mono (uses n x) (any_uses n es) (uses n x) (any_uses n (es ++ ds)) (λ h. h) (λ h. any_more n es ds h) e

bindings_more : (n : List ℕ) (bs cs : List Binding) → bindings_use n bs ≡ true → bindings_use n (bs ++ cs) ≡ true
bindings_more n [] cs e = absurd (cc)
bindings_more n (b ∷ bs) cs e = or_mono (uses n b.value) (bindings_use n bs) (uses n b.value) (bindings_use n (bs ++ cs)) (λ h. h) (λ h. bindings_more n bs cs h) e

pub unbound_more : (n : List ℕ) (bs cs : List Binding) → is_bound n cs ≡ false → is_bound n (bs ++ cs) ≡ is_bound n bs
unbound_more n [] cs e = e
unbound_more n (b ∷ bs) cs e = ap (λ z. is_word b.name n || z) (unbound_more n bs cs e)

behind_need : (n : List ℕ) (gs : List Symbol) (y : Symbol) → needs n y ≡ true → symbols_need n (gathered (gs ++ y ∷ [])) ≡ true
behind_need n [] y e = or_left (needs n y) false e
behind_need n (g ∷ gs) y e = or_right (needs n g) (symbols_need n (gathered (gs ++ y ∷ []))) (behind_need n gs y e)

wrapped_need : (n : List ℕ) (gs : List Symbol) (y : Symbol) → needs n y ≡ true → needs n (wrapped gs y) ≡ true
wrapped_need n [] y e = e
wrapped_need n (g ∷ gs) y e = behind_need n (g ∷ gs) y e

entered_need : (n : List ℕ) (bs : List Binding) (y : Symbol) → is_bound n bs ≡ false → needs n y ≡ true → needs n (entered bs y) ≡ true
entered_need n [] y b e = e
entered_need n (d ∷ bs) y b e = or_right (bindings_use n (d ∷ bs)) (not (is_bound n (d ∷ bs)) && needs n y) (ap₂ (λ u v. not u && v) b e)

module _ (s : Setting) where
  arguments_need : (n : List ℕ) (p : Pair) (kind : Option DeclKind) (arguments : List Expression) → any_uses n arguments ≡ true →
      any_uses n (arguments_of s p kind arguments) ≡ true
  arguments_need n p (Some Lexical) arguments e = e
  arguments_need n p (Some Syntax) arguments e = any_more n arguments _ e
  arguments_need n p (Some Layout) arguments e = any_more n arguments _ e
  arguments_need n p (Some Plain) arguments e = any_more n arguments _ e
  arguments_need n p None arguments e = e

  module _ (n : List ℕ) (w : IsWritten s n) where
    not_m : is_word s.m n ≡ false
    not_m = differs s.m n (λ e. w.not_m (sym e))

    not_f : is_word s.f n ≡ false
    not_f = differs s.f n (λ e. w.not_f (sym e))

    not_c : is_word s.c n ≡ false
    not_c = differs s.c n (λ e. w.not_c (sym e))

    pub pair_unbound : (p : Pair) → is_bound n (pair_bindings s p) ≡ false
    pair_unbound lacking = refl
    pair_unbound carried = refl
    pair_unbound (opened a b) = ap₂ (λ u v. u || (v || false)) not_m not_f
    pair_unbound cleared = ap₂ (λ u v. u || (v || false)) not_m not_f

    column_unbound : (al : Bool) → is_bound n (column_bindings s al) ≡ false
    column_unbound false = refl
    column_unbound true = ap (λ u. u || false) not_c

    box_unbound : (p : Pair) (al : Bool) → is_bound n (pair_bindings s p ++ column_bindings s al) ≡ false
    box_unbound p al = unbound_more n (pair_bindings s p) (column_bindings s al) (column_unbound al) ∙ pair_unbound p

    mutual
      pub needs_kept : (x : Symbol) (al : Bool) (p : Pair) → needs n x ≡ true → needs n (body_of s al p x) ≡ true
      needs_kept (Literal word) al p e = e
      needs_kept (OneOf class) al p e = e
      needs_kept (Call name arguments) al p e = arguments_need n p (s.kind_of name) arguments e
      needs_kept (Label name x) al p e = needs_kept x false p e
      needs_kept (Guard d) al p e = e
      needs_kept (Let name d) al p e = e
      needs_kept (Opt x) al p e =
          entered_need n (pair_bindings s p ++ column_bindings s false) _ (box_unbound p false)
          (or_mono (is_pair n) (needs n x) (is_pair n) _ (λ h. h) (λ h. wrapped_need n (column_guards s false ++ tests_of s (inner p) x) (body_of s false (inner p) x) (needs_kept x false (inner p) h)) e)
      needs_kept (Star x) al p e =
          entered_need n (pair_bindings s p ++ column_bindings s al) _ (box_unbound p al)
          (or_mono (is_pair n) (needs n x) (is_pair n) _ (λ h. h) (λ h. wrapped_need n (column_guards s al ++ tests_of s (inner p) x) (body_of s false (inner p) x) (needs_kept x false (inner p) h)) e)
      needs_kept (Plus x) al p e =
          entered_need n (pair_bindings s p ++ column_bindings s al) _ (box_unbound p al)
          (or_mono (is_pair n) (needs n x) (is_pair n) _ (λ h. h) (λ h. wrapped_need n (column_guards s al ++ tests_of s (inner p) x) (body_of s false (inner p) x) (needs_kept x false (inner p) h)) e)
      needs_kept (SepStar x separator) al p e =
          entered_need n (pair_bindings s p ++ column_bindings s al) _ (box_unbound p al)
          (or_mono (is_pair n) (needs n x || needs n separator) (is_pair n) _ (λ h. h)
          (λ h. or_mono (needs n x) (needs n separator) _ _ (λ k. wrapped_need n (column_guards s al ++ tests_of s (inner p) x) (body_of s false (inner p) x) (needs_kept x false (inner p) k)) (λ k. wrapped_need n (column_guards s false ++ tests_of s (inner p) separator) (body_of s false (inner p) separator) (needs_kept separator false (inner p) k)) h) e)
      needs_kept (SepPlus x separator) al p e =
          entered_need n (pair_bindings s p ++ column_bindings s al) _ (box_unbound p al)
          (or_mono (is_pair n) (needs n x || needs n separator) (is_pair n) _ (λ h. h)
          (λ h. or_mono (needs n x) (needs n separator) _ _ (λ k. wrapped_need n (column_guards s al ++ tests_of s (inner p) x) (body_of s false (inner p) x) (needs_kept x false (inner p) k)) (λ k. wrapped_need n (column_guards s false ++ tests_of s (inner p) separator) (body_of s false (inner p) separator) (needs_kept separator false (inner p) k)) h) e)
      needs_kept (Group choices) al p e =
          entered_need n (pair_bindings s p ++ column_bindings s false) _ (box_unbound p false)
          (or_mono (is_pair n) (alternatives_need n choices) (is_pair n) _ (λ h. h) (λ h. choices_need choices (inner p) h) e)
      needs_kept (Offside x) al p e = needs_kept x al (opened_by s p) e
      needs_kept (Ignore x) al p e = needs_kept x al (cleared_by p) e
      needs_kept (Align x) al p e = needs_kept x true p e
      needs_kept (Filtered x filters) al p e = needs_kept x al p e
      needs_kept (Seq xs) al p e = sequence_need xs p e
      needs_kept (Entry bindings x) al p e =
          or_mono (bindings_use n bindings) (not (is_bound n bindings) && needs n x) _ _ (λ h. bindings_more n bindings (pair_bindings s p) h)
          (λ h. ap (λ z. not z && needs n (body_of s false (inner p) x)) (unbound_more n bindings (pair_bindings s p) (pair_unbound p)) ∙
          and_mono (not (is_bound n bindings)) (needs n x) (needs n (body_of s false (inner p) x)) (λ k. needs_kept x false (inner p) k) h) e

      sequence_need : (xs : Symbols) (p : Pair) → symbols_need n xs ≡ true → symbols_need n (sequence_of s p xs) ≡ true
      sequence_need no_symbols p e = e
      sequence_need (next_symbol x xs) p e =
          or_mono (needs n x) (symbols_need n xs) _ _ (λ h. wrapped_need n (tests_of s p x) (body_of s false p x) (needs_kept x false p h)) (λ h. sequence_need xs p h) e

      choices_need : (xs : Alternatives) (p : Pair) → alternatives_need n xs ≡ true → alternatives_need n (choices_of s p xs) ≡ true
      choices_need no_alternatives p e = e
      choices_need (next_alternative xs others) p e =
          or_mono (symbols_need n xs) (alternatives_need n others) _ _ (λ h. sequence_need xs p h) (λ h. choices_need others p h) e
