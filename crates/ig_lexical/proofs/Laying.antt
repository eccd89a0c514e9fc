-- The layout pass's own rule in a syntax declaration derives the same, from the grammar to the one with layout in the open.
use Rattle.std.proofs.Common.{◌≡◌, ◌∙◌, ℕ, List, [], ◌∷◌, ◌++◌, Bool, true, false, refl, sym, ap, subst}
use Rattle.std.specs.Prelude.{◌≢◌, Some, if◌then◌else◌}
use Rattle.ig_text.specs.Input.{Input}
use Rattle.ig_text.specs.Tree.{Tree, none}
use Rattle.ig_expr.specs.declared.value.Value.{Value}
use Rattle.ig_expr.specs.declared.value.Value.TheVariants as value
use Rattle.ig_grammar.specs.Binding.{Binding}
use Rattle.ig_grammar.specs.Symbol.{Symbol, Literal, OneOf, Call, Label, Guard, Let, Opt, Star, Plus, SepStar, SepPlus, Group, Offside, Ignore, Align, Filtered, Seq, Entry}
use Rattle.ig_meaning.specs.Environment.{HasValue, HaveValues}
use Rattle.ig_grammar.specs.Numbering.{layout_among}
use Rattle.ig_grammar.specs.Condition.{declaration_of}
use Rattle.ig_meaning.specs.Derivation.{Derives, Instance}
use Rattle.ig_meaning.specs.Derivation.{literal, one_of, token, call, guard, let_be}
use Rattle.ig_grammar.specs.declared.declaration.DeclKind.{DeclKind}
use Rattle.ig_grammar.specs.declared.declaration.DeclKind.TheVariants.{Syntax, Lexical, Plain}
use Rattle.ig_grammar.specs.declared.grammar.Grammar.{Grammar}
use Rattle.ig_grammar.specs.declared.place.Shape.{Shape}
use Rattle.ig_lexical.proofs.Simulation as sim
use Rattle.ig_lexical.proofs.Alike.{IsLeaf, Alike, alike_follows, leaf, label_alike, opt_alike, star_alike, plus_alike, sep_star_alike, sep_plus_alike, group_alike, offside_alike, ignore_alike, align_alike, filtered_alike, seq_alike, entry_alike}
use Rattle.ig_lexical.proofs.Traversal.{AtLeaf, releafed}
use Rattle.ig_lexical.proofs.Instances.{Low, LowInstances}
use Rattle.ig_lexical.proofs.Leaves.{SameEnv, AnyStarts, fits_any}
use Rattle.ig_lexical.proofs.LayoutChain.{BecomesPlain, IsLexical, IsToken, literal_token, class_token, call_token, label_token, filtered_token, parted, in_sequence}
use Rattle.ig_lexical.specs.Layout.{is_token, declares_lexical, then_layout, laid_inside, laid}
use Rattle.ig_lexical.proofs.Tight.{AnyName, IsTight, first_low}
use Rattle.ig_lexical.proofs.Kept.{SameLeaf, token_same, token_kept}

abbrev pub AnyEntry : List Binding → Type 0
AnyEntry bs = Unit {0}

-- each declaration of the name isn't lexical
abbrev pub IsNotLexical : Grammar → List Shape → Input → List ℕ → Type 0
IsNotLexical g shapes text name = (vs : List Value) (kind : DeclKind) (i e : ℕ) (t : Tree) (ks : List ℕ) → Instance g shapes text name vs kind i e t ks → kind ≢ Lexical

-- what is decided by the declaration of a name
pub record Decides (g : Grammar) (shapes : List Shape) (h : Grammar) (forms : List Shape) (text : Input) : Type 0 where
  pub lexical : (name : List ℕ) → declares_lexical (declaration_of g.decls name) ≡ true → IsLexical g shapes h forms text name
  pub other : (name : List ℕ) → declares_lexical (declaration_of g.decls name) ≡ false → IsNotLexical g shapes text name

abbrev pub NoLeaf : Symbol → Type 0
NoLeaf x = ⊥

module _ (g : Grammar) (shapes : List Shape) (h : Grammar) (forms : List Shape) (text : Input) (decides : Decides g shapes h forms text) where
  pub tokens : (x : Symbol) → is_token g.decls x ≡ true → IsToken g shapes h forms text x
  tokens (Literal word) e = literal_token word
  tokens (OneOf class) e = class_token class
  tokens (Call name arguments) e = call_token name arguments (decides.lexical name e)
  tokens (Label name x) e = label_token name x (tokens x e)
  tokens (Filtered x filters) e = filtered_token x filters (tokens x e)
  tokens (Guard _) e = absurd (cc)
  tokens (Let _ _) e = absurd (cc)
  tokens (Opt _) e = absurd (cc)
  tokens (Star _) e = absurd (cc)
  tokens (Plus _) e = absurd (cc)
  tokens (SepStar _ _) e = absurd (cc)
  tokens (SepPlus _ _) e = absurd (cc)
  tokens (Group _) e = absurd (cc)
  tokens (Offside _) e = absurd (cc)
  tokens (Ignore _) e = absurd (cc)
  tokens (Align _) e = absurd (cc)
  tokens (Seq _) e = absurd (cc)
  tokens (Entry _ _) e = absurd (cc)

module _ (g : Grammar) (shapes : List Shape) (h : Grammar) (forms : List Shape) (text : Input) (decides : Decides g shapes h forms text)
    (w : List ℕ) (declared : layout_among g.decls ≡ Some w) (there : IsTight h forms text Plain)
    (n : ℕ) (known : LowInstances g shapes h forms text SameEnv AnyStarts BecomesPlain AnyName n) where
  abbrev F : Symbol → Symbol → Type 0
  F = sim.Follows g shapes h forms text SameEnv (Low n) AnyStarts Syntax Plain

  abbrev R : Symbol → Symbol → Type 0
  R = sim.Replaces g shapes h forms text SameEnv (Low n) AnyStarts Syntax Plain

  leaf_laid : (x : Symbol) → IsLeaf x → is_token g.decls x ≡ false → F x x
  leaf_laid x l k env other after i e j ts starts m low (literal _ word _ _ _ _ us _ _ spelled trails trees exposes) = absurd (cc)
  leaf_laid x l k env other after i e j ts starts m low (one_of _ class _ _ _ _ us _ _ among trails trees exposes) = absurd (cc)
  leaf_laid x l k env other after i e j ts starts m low (token _ name arguments vs _ _ _ _ t us _ ks _ have instance trails trees exposes) =
      absurd (decides.other name k vs Lexical i e t ks instance refl)
  leaf_laid x l k env other after i e j ts starts m low (call _ kind name arguments vs _ _ _ t _ have instance differs) =
      let r = known name vs kind i j t starts tt (first_low n t none ts refl low) instance in
      let q = subst (λ z. Instance h forms text name vs z i j t r.exposes) r.kinds r.derives in
      record {
        later = other;
        exposes = r.exposes;
        meets = m;
        gains = tt;
        derives = call Plain Plain name arguments vs other i j t r.exposes (subst (λ v. HaveValues text v i arguments vs) m have) q (λ e. cc);
      }
  leaf_laid x l k env other after i e j ts starts m low (guard _ condition _ _ holds) =
      record { later = other; exposes = []; derives = guard Plain condition other i (subst (λ v. HasValue text v i condition (value.Bool true)) m holds); meets = m; gains = tt }
  leaf_laid x l k env other after i e j ts starts m low (let_be _ name expression v _ _ _ has bound) =
      record {
        later = other ++ (name, v) ∷ [];
        exposes = [];
        derives = let_be Plain name expression v other (other ++ (name, v) ∷ []) i (subst (λ w. HasValue text w i expression v) m has) refl;
        meets = bound ∙ ap (λ w. w ++ (name, v) ∷ []) m;
        gains = tt;
      }
  leaf_laid x l k env other after i e j ts starts m low derived = absurd l

  -- a list, an option, a group, a sequence
  headed : (x y : Symbol) → Alike SameLeaf R (⊥) AnyEntry x y → AtLeaf NoLeaf x → F x y
  headed x y a t =
      alike_follows g shapes h forms text SameEnv (Low n) AnyStarts Syntax Plain (⊥) AnyEntry (fits_any text n) F R (λ x y l f. f) (λ x y f. f) x y
      (releafed SameLeaf F R (⊥) AnyEntry NoLeaf (λ x y e f. absurd f) x y a t)

  token_laid : (x : Symbol) → is_token g.decls x ≡ true → R x (then_layout w x)
  token_laid x k env other after i e j ts starts m low derived =
      let p = parted g shapes h forms text n known x env after i e j ts starts (tokens g shapes h forms text decides x k) low derived in
      let s = in_sequence g shapes h forms text n known x w env after i e j ts declared low p in (
        j,
        record {
          later = after;
          exposes = s.0;
          meets = refl;
          gains = tt;
          derives = subst (λ v. Derives h forms text Plain (then_layout w x) v i j j ts after s.0) m s.1;
        },
      )

  leaf_stays : (x : Symbol) → IsLeaf x → x ≡ laid_inside g.decls w x
  leaf_stays (Literal word) l = refl
  leaf_stays (OneOf class) l = refl
  leaf_stays (Call name arguments) l = refl
  leaf_stays (Guard e) l = refl
  leaf_stays (Let name e) l = refl
  leaf_stays x l = absurd l

  chosen : (x y : Symbol) → Alike SameLeaf R (⊥) AnyEntry x y → (is_token g.decls x ≡ false → F x (laid_inside g.decls w y)) → R x (laid g.decls w y)
  chosen x y a f = choose (is_token g.decls x) refl
    where
      choose : (b : Bool) → is_token g.decls x ≡ b → R x (laid g.decls w y)
      choose true k =
          let z : is_token g.decls y ≡ true = token_same g.decls R (⊥) AnyEntry x y a ∙ k in
          subst (λ b. R x (if b then then_layout w y else laid_inside g.decls w y)) (sym z)
          (subst (λ v. R x (then_layout w v)) (token_kept g.decls R (⊥) AnyEntry x y a k) (token_laid x k))
      choose false k =
          let z : is_token g.decls y ≡ false = token_same g.decls R (⊥) AnyEntry x y a ∙ k in
          subst (λ b. R x (if b then then_layout w y else laid_inside g.decls w y)) (sym z)
          (sim.followed g shapes h forms text SameEnv (Low n) AnyStarts Syntax Plain x (laid_inside g.decls w y) (f k))

  laid_follows : (x y : Symbol) → Alike SameLeaf R (⊥) AnyEntry x y → is_token g.decls x ≡ false → F x (laid_inside g.decls w y)
  laid_follows x y (leaf _ _ l q) k = subst (λ z. F x (laid_inside g.decls w z)) q (subst (F x) (leaf_stays x l) (leaf_laid x l k))
  laid_follows x y (label_alike name u v a) k =
      sim.label_follows g shapes h forms text SameEnv (Low n) AnyStarts Syntax Plain (⊥) AnyEntry (fits_any text n) name u (laid_inside g.decls w v) (laid_follows u v a k)
  laid_follows x y (filtered_alike u v filters a) k =
      sim.filtered_follows g shapes h forms text SameEnv (Low n) AnyStarts Syntax Plain (⊥) AnyEntry (fits_any text n) filters u (laid_inside g.decls w v) (laid_follows u v a k)
  laid_follows x y (entry_alike bs u v q a) k =
      sim.entry_follows g shapes h forms text SameEnv (Low n) AnyStarts Syntax Plain (⊥) AnyEntry (fits_any text n) bs q u (laid g.decls w v)
      (chosen u v a (λ k. laid_follows u v a k))
  laid_follows x y (opt_alike u v p) k = headed x y (opt_alike u v p) tt
  laid_follows x y (star_alike u v p) k = headed x y (star_alike u v p) tt
  laid_follows x y (plus_alike u v p) k = headed x y (plus_alike u v p) tt
  laid_follows x y (sep_star_alike u v s t p q) k = headed x y (sep_star_alike u v s t p q) tt
  laid_follows x y (sep_plus_alike u v s t p q) k = headed x y (sep_plus_alike u v s t p q) tt
  laid_follows x y (group_alike us vs p) k = headed x y (group_alike us vs p) tt
  laid_follows x y (seq_alike us vs p) k = headed x y (seq_alike us vs p) tt
  laid_follows x y (offside_alike u v mark a) k = absurd mark
  laid_follows x y (ignore_alike u v mark a) k = absurd mark
  laid_follows x y (align_alike u v mark a) k = absurd mark

  pub laid_replaces : (x y : Symbol) → Alike SameLeaf R (⊥) AnyEntry x y → R x (laid g.decls w y)
  laid_replaces x y a = chosen x y a (λ k. laid_follows x y a k)
