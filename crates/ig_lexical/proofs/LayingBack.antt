-- The layout pass's own rule in a syntax declaration derives the same, from the grammar with layout in the open.
use Rattle.std.proofs.Common.{◌≡◌, ◌∙◌, ℕ, ◌≤◌, List, [], ◌∷◌, ◌++◌, Bool, true, false, refl, sym, ap, subst, arith}
use Rattle.std.specs.Prelude.{◌≢◌, Some, if◌then◌else◌}
use Rattle.ig_text.specs.Input.{Input}
use Rattle.ig_text.specs.Tree.{Tree, Trees, Leaf, none, more, one, join, greatest_height}
use Rattle.ig_text.proofs.Trees.{joined_height, join-none}
use Rattle.ig_expr.specs.declared.value.Value.{Value}
use Rattle.ig_expr.specs.declared.value.Value.TheVariants as value
use Rattle.ig_grammar.specs.Symbol.{Symbol, Literal, OneOf, Call, Label, Guard, Let, Filtered, Seq, no_symbols, next_symbol}
use Rattle.ig_meaning.specs.Environment.{Environment, HasValue, HaveValues, no_values}
use Rattle.ig_grammar.specs.Numbering.{layout_among}
use Rattle.ig_meaning.specs.Derivation.{Covers, Derives, Instance, Trails}
use Rattle.ig_meaning.specs.Derivation.{empty, symbol, literal, one_of, token, call, label, filtered, sequence, guard, let_be, layout}
use Rattle.ig_grammar.specs.declared.declaration.DeclKind.{DeclKind}
use Rattle.ig_grammar.specs.declared.declaration.DeclKind.TheVariants.{Syntax, Lexical, Plain}
use Rattle.ig_grammar.specs.declared.grammar.Grammar.{Grammar}
use Rattle.ig_grammar.specs.declared.place.Shape.{Shape}
use Rattle.ig_lexical.proofs.Simulation as sim
use Rattle.ig_lexical.proofs.Alike.{IsLeaf, Alike, alike_follows, leaf, label_alike, opt_alike, star_alike, plus_alike, sep_star_alike, sep_plus_alike, group_alike, offside_alike, ignore_alike, align_alike, filtered_alike, seq_alike, entry_alike}
use Rattle.ig_lexical.proofs.Traversal.{AtLeaf, releafed, turned}
use Rattle.ig_lexical.proofs.Instances.{Low, LowInstances}
use Rattle.ig_lexical.proofs.Leaves.{SameEnv, AnyStarts, fits_any}
use Rattle.ig_lexical.proofs.LayoutChain.{IsToken, literal_token, class_token, call_token, label_token, filtered_token}
use Rattle.ig_lexical.specs.Layout.{is_token, then_layout, laid_inside, laid}
use Rattle.ig_lexical.proofs.Tight.{AnyName, IsTight, first_low}
use Rattle.ig_lexical.proofs.Kept.{SameLeaf, token_same, token_kept}
use Rattle.ig_lexical.proofs.Laying.{AnyEntry, Decides, NoLeaf, tokens}

abbrev pub AnyKind : DeclKind → DeclKind → Type 0
AnyKind c d = Unit {0}

-- each instance is of a plain declaration
abbrev pub AllPlain : Grammar → List Shape → Input → Type 0
AllPlain h forms text = (name : List ℕ) (vs : List Value) (kind : DeclKind) (i e : ℕ) (t : Tree) (ks : List ℕ) → Instance h forms text name vs kind i e t ks → kind ≡ Plain

lexical_is_other : Lexical ≢ Plain
lexical_is_other e = cc

-- two symbols in place
record Two (h : Grammar) (forms : List Shape) (text : Input) (x y : Symbol) (env : Environment) (i j : ℕ) (ts : Trees) (after : Environment) : Type 0 where
  between : Environment
  own : ℕ
  middle : ℕ
  later : ℕ
  us : Trees
  vs : Trees
  ks : List ℕ
  ls : List ℕ
  first : Derives h forms text Plain x env i own middle us between ks
  second : Derives h forms text Plain y between middle later j vs after ls
  split : ts ≡ join us vs

two_then : (h : Grammar) (forms : List Shape) (text : Input) (x y : Symbol) (env between after : Environment) (i e p j : ℕ) (ts us vs : Trees) (ks ls : List ℕ) →
    Derives h forms text Plain x env i e p us between ks → ts ≡ join us vs → Covers h forms text Plain (y ∷ []) between p j vs after ls → Two h forms text x y env i j ts after
two_then h forms text x y env between after i e p j ts us vs ks ls first split (symbol _ _ _ _ _ _ _ f _ _ ws _ _ ms _ _ second (empty _ _ _) trees exposes) =
    record { between = between; own = e; middle = p; later = f; us = us; vs = ws; ks = ks; ls = ms; first = first; second = second; split = split ∙ ap (join us) (trees ∙ join-none ws) }

two : (h : Grammar) (forms : List Shape) (text : Input) (x y : Symbol) (env after : Environment) (i j : ℕ) (ts : Trees) (starts : List ℕ) →
    Covers h forms text Plain (x ∷ y ∷ []) env i j ts after starts → Two h forms text x y env i j ts after
two h forms text x y env after i j ts starts (symbol _ _ _ _ between _ _ e p _ us vs _ ks ls _ first rest trees exposes) =
    two_then h forms text x y env between after i e p j ts us vs ks ls first trees rest

in_place : (h : Grammar) (forms : List Shape) (text : Input) (x y : Symbol) (env after : Environment) (i e j : ℕ) (ts : Trees) (starts : List ℕ) →
    Derives h forms text Plain (Seq (next_symbol x (next_symbol y no_symbols))) env i e j ts after starts → Two h forms text x y env i j ts after
in_place h forms text x y env after i e j ts starts (sequence _ _ _ _ _ _ _ _ inner) = two h forms text x y env after i j ts starts inner

module _ (g : Grammar) (shapes : List Shape) (h : Grammar) (forms : List Shape) (text : Input) (decides : Decides g shapes h forms text)
    (w : List ℕ) (declared : layout_among g.decls ≡ Some w) (there : IsTight h forms text Plain) (plain : AllPlain h forms text)
    (n : ℕ) (known : LowInstances h forms g shapes text SameEnv AnyStarts AnyKind AnyName n) where
  abbrev F : Symbol → Symbol → Type 0
  F = sim.Follows h forms g shapes text SameEnv (Low n) AnyStarts Plain Syntax

  abbrev R : Symbol → Symbol → Type 0
  R = sim.Replaces h forms g shapes text SameEnv (Low n) AnyStarts Plain Syntax

  abbrev TokenShape : Symbol → Type 0
  TokenShape (Literal word) = Unit {0}
  TokenShape (OneOf class) = Unit {0}
  TokenShape (Call name arguments) = Unit {0}
  TokenShape (Label name x) = Unit {0}
  TokenShape (Filtered x fs) = Unit {0}
  TokenShape x = ⊥

  token_shape : {x : Symbol} → IsToken g shapes h forms text x → TokenShape x
  token_shape (literal_token _) = tt
  token_shape (class_token _) = tt
  token_shape (call_token _ _ _) = tt
  token_shape (label_token _ _ _) = tt
  token_shape (filtered_token _ _ _) = tt

  -- a token, which the grammar derives with whatever stands behind it
  record Tokened (x : Symbol) (env : Environment) (i e j : ℕ) (ts : Trees) (after : Environment) : Type 0 where
    first : Tree
    split : ts ≡ one first
    whole : e ≡ j
    derives : (k : ℕ) (us : Trees) → Trails g shapes text Syntax e k us → Derives g shapes text Syntax x env i e k (more first us) after (i ∷ [])

  token_back : (x : Symbol) (env after : Environment) (i e j : ℕ) (ts : Trees) (starts : List ℕ) → IsToken g shapes h forms text x → greatest_height ts ≤ n →
      Derives h forms text Plain x env i e j ts after starts → Tokened x env i e j ts after
  token_back x env after i e j ts starts k low (literal _ word _ _ _ _ us _ _ spelled trails trees exposes) =
      let q = there.nothing e j us trails in
      record {
        first = Leaf i e;
        split = trees ∙ ap (more (Leaf i e)) q.1;
        whole = q.0;
        derives = λ k vs behind. literal Syntax word env i e k vs (more (Leaf i e) vs) (i ∷ []) spelled behind refl refl;
      }
  token_back x env after i e j ts starts k low (one_of _ class _ _ _ _ us _ _ among trails trees exposes) =
      let q = there.nothing e j us trails in
      record {
        first = Leaf i e;
        split = trees ∙ ap (more (Leaf i e)) q.1;
        whole = q.0;
        derives = λ k vs behind. one_of Syntax class env i e k vs (more (Leaf i e) vs) (i ∷ []) among behind refl refl;
      }
  token_back x env after i e j ts starts k low (token _ name arguments vs _ _ _ _ t us _ ks _ have instance trails trees exposes) =
      absurd (lexical_is_other (plain name vs Lexical i e t ks instance))
  token_back x env after i e j ts starts (call_token _ _ lexical) low (call _ kind name arguments vs _ _ _ t _ have instance differs) =
      let r = known name vs kind i j t starts tt (first_low n t none ts refl low) instance in
      let q = subst (λ z. Instance g shapes text name vs z i j t r.exposes) (lexical vs r.other i j t r.exposes r.derives) r.derives in
      record {
        first = t;
        split = refl;
        whole = refl;
        derives = λ k us behind. token Syntax name arguments vs env i j k t us (more t us) r.exposes (i ∷ []) have q behind refl refl;
      }
  token_back x env after i e j ts starts (label_token name y k) low (label _ _ _ _ between _ _ _ _ _ _ inner bound) =
      let r = token_back y env between i e j ts starts k low inner in
      record {
        first = r.first;
        split = r.split;
        whole = r.whole;
        derives = λ k us behind. label Syntax name y env between after i e k (more r.first us) (i ∷ []) (r.derives k us behind) bound;
      }
  token_back x env after i e j ts starts (filtered_token y fs k) low (filtered _ _ _ _ _ _ _ _ _ _ inner passes) =
      let r = token_back y env after i e j ts starts k low inner in
      record {
        first = r.first;
        split = r.split;
        whole = r.whole;
        derives = λ k us behind. filtered Syntax y fs env after i e k (more r.first us) (i ∷ []) (r.derives k us behind) passes;
      }
  token_back x env after i e j ts starts k low other = absurd (token_shape k)

  -- the call behind it is what stands behind a token
  record Behind (env : Environment) (i j : ℕ) (ts : Trees) (after : Environment) : Type 0 where
    same : after ≡ env
    trails : Trails g shapes text Syntax i j ts

  behind : (env after : Environment) (i e j : ℕ) (ts : Trees) (starts : List ℕ) → greatest_height ts ≤ n →
      Derives h forms text Plain (Call w []) env i e j ts after starts → Behind env i j ts after
  behind env after i e j ts starts low (token _ _ _ vs _ _ _ _ t _ _ ks _ have instance trails trees exposes) =
      absurd (lexical_is_other (plain w vs Lexical i e t ks instance))
  behind env after i e j ts starts low (call _ kind _ _ _ _ _ _ t _ no_values instance differs) =
      let r = known w [] kind i j t starts tt (first_low n t none ts refl low) instance in
      record { same = refl; trails = layout w r.other i j t r.exposes declared r.derives }

  token_replaced : (x : Symbol) → is_token g.decls x ≡ true → R (then_layout w x) x
  token_replaced x k env other after i e j ts starts m low derived =
      let p = in_place h forms text x (Call w []) env after i e j ts starts derived in
      let all : greatest_height (join p.us p.vs) ≤ n = subst (λ z. greatest_height z ≤ n) p.split low in
      let both = joined_height p.us p.vs in
      let a = token_back x env p.between i p.own p.middle p.us p.ks (tokens g shapes h forms text decides x k) (omega (arith, all, both)) p.first in
      let b = behind p.between after p.middle p.later j p.vs p.ls (omega (arith, all, both)) p.second in
      let trees : ts ≡ more a.first p.vs = p.split ∙ ap (λ z. join z p.vs) a.split in
      let d = a.derives j p.vs (subst (λ z. Trails g shapes text Syntax z j p.vs) (sym a.whole) b.trails) in (
        p.own,
        record {
          later = p.between;
          exposes = i ∷ [];
          meets = b.same;
          gains = tt;
          derives = subst (λ z. Derives g shapes text Syntax x z i p.own j ts p.between (i ∷ [])) m
              (subst (λ z. Derives g shapes text Syntax x env i p.own j z p.between (i ∷ [])) (sym trees) d);
        },
      )

  leaf_back : (x : Symbol) → IsLeaf x → is_token g.decls x ≡ false → F x x
  leaf_back x l k env other after i e j ts starts m low (literal _ word _ _ _ _ us _ _ spelled trails trees exposes) = absurd (cc)
  leaf_back x l k env other after i e j ts starts m low (one_of _ class _ _ _ _ us _ _ among trails trees exposes) = absurd (cc)
  leaf_back x l k env other after i e j ts starts m low (token _ name arguments vs _ _ _ _ t us _ ks _ have instance trails trees exposes) =
      absurd (lexical_is_other (plain name vs Lexical i e t ks instance))
  leaf_back x l k env other after i e j ts starts m low (call _ kind name arguments vs _ _ _ t _ have instance differs) =
      let r = known name vs kind i j t starts tt (first_low n t none ts refl low) instance in
      record {
        later = other;
        exposes = r.exposes;
        meets = m;
        gains = tt;
        derives = call Syntax r.other name arguments vs other i j t r.exposes (subst (λ v. HaveValues text v i arguments vs) m have) r.derives
            (decides.other name k vs r.other i j t r.exposes r.derives);
      }
  leaf_back x l k env other after i e j ts starts m low (guard _ condition _ _ holds) =
      record { later = other; exposes = []; derives = guard Syntax condition other i (subst (λ v. HasValue text v i condition (value.Bool true)) m holds); meets = m; gains = tt }
  leaf_back x l k env other after i e j ts starts m low (let_be _ name expression v _ _ _ has bound) =
      record {
        later = other ++ (name, v) ∷ [];
        exposes = [];
        derives = let_be Syntax name expression v other (other ++ (name, v) ∷ []) i (subst (λ w. HasValue text w i expression v) m has) refl;
        meets = bound ∙ ap (λ w. w ++ (name, v) ∷ []) m;
        gains = tt;
      }
  leaf_back x l k env other after i e j ts starts m low derived = absurd l

  abbrev pub Q : Symbol → Symbol → Type 0
  Q x y = R y x

  abbrev K : Symbol → Symbol → Type 0
  K x y = (IsLeaf x → IsLeaf y) × F y x

  headed : (x y : Symbol) → Alike SameLeaf Q (⊥) AnyEntry x y → AtLeaf NoLeaf x → F y x
  headed x y a t =
      alike_follows h forms g shapes text SameEnv (Low n) AnyStarts Plain Syntax (⊥) AnyEntry (fits_any text n) F R (λ x y l f. f) (λ x y f. f) y x
      (turned K Q F R (⊥) AnyEntry (λ x y l. l.1) (λ x y l. l.0) (λ x y f. f) x y
      (releafed SameLeaf K Q (⊥) AnyEntry NoLeaf (λ x y e f. absurd f) x y a t))

  leaf_stays : (x : Symbol) → IsLeaf x → x ≡ laid_inside g.decls w x
  leaf_stays (Literal word) l = refl
  leaf_stays (OneOf class) l = refl
  leaf_stays (Call name arguments) l = refl
  leaf_stays (Guard e) l = refl
  leaf_stays (Let name e) l = refl
  leaf_stays x l = absurd l

  chosen : (x y : Symbol) → Alike SameLeaf Q (⊥) AnyEntry x y → (is_token g.decls x ≡ false → F (laid_inside g.decls w y) x) → R (laid g.decls w y) x
  chosen x y a f = choose (is_token g.decls x) refl
    where
      choose : (b : Bool) → is_token g.decls x ≡ b → R (laid g.decls w y) x
      choose true k =
          let z : is_token g.decls y ≡ true = token_same g.decls Q (⊥) AnyEntry x y a ∙ k in
          subst (λ b. R (if b then then_layout w y else laid_inside g.decls w y) x) (sym z)
          (subst (λ v. R (then_layout w v) x) (token_kept g.decls Q (⊥) AnyEntry x y a k) (token_replaced x k))
      choose false k =
          let z : is_token g.decls y ≡ false = token_same g.decls Q (⊥) AnyEntry x y a ∙ k in
          subst (λ b. R (if b then then_layout w y else laid_inside g.decls w y) x) (sym z)
          (sim.followed h forms g shapes text SameEnv (Low n) AnyStarts Plain Syntax (laid_inside g.decls w y) x (f k))

  back_follows : (x y : Symbol) → Alike SameLeaf Q (⊥) AnyEntry x y → is_token g.decls x ≡ false → F (laid_inside g.decls w y) x
  back_follows x y (leaf _ _ l q) k = subst (λ z. F (laid_inside g.decls w z) x) q (subst (λ z. F z x) (leaf_stays x l) (leaf_back x l k))
  back_follows x y (label_alike name u v a) k =
      sim.label_follows h forms g shapes text SameEnv (Low n) AnyStarts Plain Syntax (⊥) AnyEntry (fits_any text n) name (laid_inside g.decls w v) u (back_follows u v a k)
  back_follows x y (filtered_alike u v filters a) k =
      sim.filtered_follows h forms g shapes text SameEnv (Low n) AnyStarts Plain Syntax (⊥) AnyEntry (fits_any text n) filters (laid_inside g.decls w v) u (back_follows u v a k)
  back_follows x y (entry_alike bs u v q a) k =
      sim.entry_follows h forms g shapes text SameEnv (Low n) AnyStarts Plain Syntax (⊥) AnyEntry (fits_any text n) bs q (laid g.decls w v) u
      (chosen u v a (λ k. back_follows u v a k))
  back_follows x y (opt_alike u v p) k = headed x y (opt_alike u v p) tt
  back_follows x y (star_alike u v p) k = headed x y (star_alike u v p) tt
  back_follows x y (plus_alike u v p) k = headed x y (plus_alike u v p) tt
  back_follows x y (sep_star_alike u v s t p q) k = headed x y (sep_star_alike u v s t p q) tt
  back_follows x y (sep_plus_alike u v s t p q) k = headed x y (sep_plus_alike u v s t p q) tt
  back_follows x y (group_alike us vs p) k = headed x y (group_alike us vs p) tt
  back_follows x y (seq_alike us vs p) k = headed x y (seq_alike us vs p) tt
  back_follows x y (offside_alike u v mark a) k = absurd mark
  back_follows x y (ignore_alike u v mark a) k = absurd mark
  back_follows x y (align_alike u v mark a) k = absurd mark

  pub back_replaces : (x y : Symbol) → Alike SameLeaf Q (⊥) AnyEntry x y → R (laid g.decls w y) x
  back_replaces x y a = chosen x y a (λ k. back_follows x y a k)
