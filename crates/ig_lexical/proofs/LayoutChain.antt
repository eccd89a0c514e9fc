-- The layout pass's own rule at a token: a token with its label and filters, and behind it a call of the layout nonterminal.
use Rattle.std.proofs.Common.{◌≡◌, ◌∙◌, ℕ, ◌≤◌, max, List, [], ◌∷◌, ◌++◌, refl, sym, subst, arith}
use Rattle.std.specs.Prelude.{◌≢◌, Some, None}
use Rattle.ig_text.specs.Input.{Input}
use Rattle.ig_text.specs.declared.class.Class.{Class}
use Rattle.ig_text.specs.Tree.{Tree, Trees, Leaf, none, more, one, height, greatest_height}
use Rattle.ig_expr.specs.Expression.{Expression}
use Rattle.ig_expr.specs.declared.value.Value.{Value}
use Rattle.ig_grammar.specs.Symbol.{Symbol, Literal, OneOf, Call, Label, Filtered, Seq, no_symbols, next_symbol}
use Rattle.ig_meaning.specs.Environment.{Environment, no_values}
use Rattle.ig_grammar.specs.Numbering.{layout_among}
use Rattle.ig_meaning.specs.Derivation.{Covers, Derives, Instance, Trails}
use Rattle.ig_meaning.specs.Derivation.{empty, symbol, literal, one_of, token, call, label, filtered, sequence, layout, no_layout, outside}
use Rattle.ig_grammar.specs.declared.filter.Filter.{Filter}
use Rattle.ig_grammar.specs.declared.declaration.DeclKind.{DeclKind}
use Rattle.ig_grammar.specs.declared.declaration.DeclKind.TheVariants.{Syntax, Lexical, Plain}
use Rattle.ig_grammar.specs.declared.grammar.Grammar.{Grammar}
use Rattle.ig_grammar.specs.declared.place.Shape.{Shape}
use Rattle.ig_lexical.proofs.Instances.{LowInstances}
use Rattle.ig_lexical.proofs.Leaves.{SameEnv, AnyStarts}

abbrev pub BecomesPlain : DeclKind → DeclKind → Type 0
BecomesPlain c d = d ≡ Plain

abbrev AnyName : List ℕ → Type 0
AnyName name = Unit {0}

plain_is_other : Plain ≢ Syntax
plain_is_other e = cc

plain_is_no_token : Plain ≢ Lexical
plain_is_no_token e = cc

module _ (g : Grammar) (shapes : List Shape) (h : Grammar) (forms : List Shape) (text : Input) where
  -- each declaration of the name is lexical
  abbrev pub IsLexical : List ℕ → Type 0
  IsLexical name = (vs : List Value) (kind : DeclKind) (i e : ℕ) (t : Tree) (ks : List ℕ) → Instance g shapes text name vs kind i e t ks → kind ≡ Lexical

  -- a token, with labels and filters
  pub data IsToken : Symbol → Type 0 where
    literal_token : (word : List ℕ) → IsToken (Literal word)
    class_token : (class : Class) → IsToken (OneOf class)
    call_token : (name : List ℕ) (arguments : List Expression) → IsLexical name → IsToken (Call name arguments)
    label_token : (name : List ℕ) (x : Symbol) → IsToken x → IsToken (Label name x)
    filtered_token : (x : Symbol) (fs : List Filter) → IsToken x → IsToken (Filtered x fs)

  abbrev TokenShape : Symbol → Type 0
  TokenShape (Literal word) = Unit {0}
  TokenShape (OneOf class) = Unit {0}
  TokenShape (Call name arguments) = Unit {0}
  TokenShape (Label name x) = Unit {0}
  TokenShape (Filtered x fs) = Unit {0}
  TokenShape x = ⊥

  token_shape : {x : Symbol} → IsToken x → TokenShape x
  token_shape (literal_token _) = tt
  token_shape (class_token _) = tt
  token_shape (call_token _ _ _) = tt
  token_shape (label_token _ _ _) = tt
  token_shape (filtered_token _ _ _) = tt

  -- the token alone, and what stands behind it
  pub record Parted (x : Symbol) (env : Environment) (i e j : ℕ) (ts : Trees) (after : Environment) : Type 0 where
    pub first : Tree
    pub behind : Trees
    pub exposes : List ℕ
    pub split : ts ≡ more first behind
    pub derives : Derives h forms text Plain x env i e e (one first) after exposes
    pub trails : Trails g shapes text Syntax e j behind

  module _ (n : ℕ) (known : LowInstances g shapes h forms text SameEnv AnyStarts BecomesPlain (λ name. Unit {0}) n) where
    first_low : (t : Tree) (us ts : Trees) → ts ≡ more t us → greatest_height ts ≤ n → height t ≤ n
    first_low t us ts same low = let l : max (height t) (greatest_height us) ≤ n = subst (λ vs. greatest_height vs ≤ n) same low in omega (arith, l)

    others_low : (t : Tree) (us ts : Trees) → ts ≡ more t us → greatest_height ts ≤ n → greatest_height us ≤ n
    others_low t us ts same low = let l : max (height t) (greatest_height us) ≤ n = subst (λ vs. greatest_height vs ≤ n) same low in omega (arith, l)

    pub parted : (x : Symbol) (env after : Environment) (i e j : ℕ) (ts : Trees) (starts : List ℕ) → IsToken x → greatest_height ts ≤ n →
        Derives g shapes text Syntax x env i e j ts after starts → Parted x env i e j ts after
    parted x env after i e j ts starts k low (literal _ word _ _ _ _ us _ _ spelled trails trees exposes) =
        record {
          first = Leaf i e;
          behind = us;
          exposes = [];
          split = trees;
          trails = trails;
          derives = literal Plain word env i e e none (one (Leaf i e)) [] spelled (outside Plain e plain_is_other) refl refl;
        }
    parted x env after i e j ts starts k low (one_of _ class _ _ _ _ us _ _ among trails trees exposes) =
        record {
          first = Leaf i e;
          behind = us;
          exposes = [];
          split = trees;
          trails = trails;
          derives = one_of Plain class env i e e none (one (Leaf i e)) [] among (outside Plain e plain_is_other) refl refl;
        }
    parted x env after i e j ts starts k low (token _ name arguments vs _ _ _ _ t us _ ks _ have instance trails trees exposes) =
        let r = known name vs Lexical i e t ks tt (first_low t us ts trees low) instance in
        record {
          first = t;
          behind = us;
          exposes = r.exposes;
          split = trees;
          trails = trails;
          derives = call Plain Plain name arguments vs env i e t r.exposes have (subst (λ k. Instance h forms text name vs k i e t r.exposes) r.kinds r.derives) plain_is_no_token;
        }
    parted x env after i e j ts starts (call_token _ _ lexical) low (call _ kind name arguments vs _ _ _ t _ have instance differs) =
        absurd (differs (lexical vs kind i j t starts instance))
    parted x env after i e j ts starts (label_token name y k) low (label _ _ _ _ between _ _ _ _ _ _ inner bound) =
        let r = parted y env between i e j ts starts k low inner in
        record { first = r.first; behind = r.behind; exposes = r.exposes; split = r.split; trails = r.trails; derives = label Plain name y env between after i e e (one r.first) r.exposes r.derives bound }
    parted x env after i e j ts starts (filtered_token y fs k) low (filtered _ _ _ _ _ _ _ _ _ _ inner passes) =
        let r = parted y env after i e j ts starts k low inner in
        record { first = r.first; behind = r.behind; exposes = r.exposes; split = r.split; trails = r.trails; derives = filtered Plain y fs env after i e e (one r.first) r.exposes r.derives passes }
    parted x env after i e j ts starts k low other = absurd (token_shape k)

    -- what stands behind a token the call of the layout nonterminal covers
    pub behind_token : (w : List ℕ) (after : Environment) (e j : ℕ) (us : Trees) → layout_among g.decls ≡ Some w → greatest_height us ≤ n →
        Trails g shapes text Syntax e j us → (ms : List ℕ) × Covers h forms text Plain (Call w [] ∷ []) after e j us after ms
    behind_token w after e j us laid low (layout name kind _ _ t starts declared instance) =
        let same : name ≡ w = (let both : Some name ≡ Some w = sym declared ∙ laid in cc) in
        let r = known name [] kind e j t starts tt (omega (arith, low)) instance in
        let d = subst (λ m. Instance h forms text m [] r.other e j t r.exposes) same r.derives in
        let q = subst (λ k. Instance h forms text w [] k e j t r.exposes) r.kinds d in (
          r.exposes ++ [],
          symbol Plain (Call w []) [] after after after e j j j (one t) none us r.exposes [] (r.exposes ++ [])
              (call Plain Plain w [] [] after e j t r.exposes no_values q plain_is_no_token) (empty Plain after j) refl refl,
        )
    behind_token w after e j us laid low (no_layout _ undeclared) = absurd (let both : None ≡ Some w = sym undeclared ∙ laid in cc)
    behind_token w after e j us laid low (outside _ _ other) = absurd (other refl)

    -- a token becomes itself and that call, in a sequence
    pub in_sequence : (x : Symbol) (w : List ℕ) (env after : Environment) (i e j : ℕ) (ts : Trees) → layout_among g.decls ≡ Some w → greatest_height ts ≤ n →
        Parted x env i e j ts after → (ms : List ℕ) × Derives h forms text Plain (Seq (next_symbol x (next_symbol (Call w []) no_symbols))) env i j j ts after ms
    in_sequence x w env after i e j ts laid low p =
        let r = behind_token w after e j p.behind laid (others_low p.first p.behind ts p.split low) p.trails in (
          p.exposes ++ r.0,
          sequence Plain (next_symbol x (next_symbol (Call w []) no_symbols)) env after i j ts (p.exposes ++ r.0)
              (symbol Plain x (Call w [] ∷ []) env after after i e e j (one p.first) p.behind ts p.exposes r.0 (p.exposes ++ r.0) p.derives r.1 p.split refl),
        )
