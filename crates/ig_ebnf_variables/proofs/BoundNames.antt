-- What symbols bind is what their derivations add to the environment.
use Rattle.ig_grammar.specs.Visible.{kind_at}
use Rattle.std.proofs.Common.{ℕ, List, [], ◌∷◌, ◌++◌, sym, subst}
use Rattle.ig_ebnf_variables.proofs.Definitions.{Proper, SymbolsProper}
use Rattle.ig_ebnf_variables.proofs.Environments.{Adds, adds_nothing, adds_one, adds_both}
use Rattle.ig_expr.specs.declared.kind.Kind.TheVariants.{Span}
use Rattle.ig_grammar.specs.Symbol.{Symbol, gathered}
use Rattle.ig_grammar.specs.Visible.{Visible, binds, all_bind, bound}
use Rattle.ig_grammar.specs.declared.declaration.DeclKind.{DeclKind}
use Rattle.ig_grammar.specs.declared.grammar.Grammar.{Grammar}
use Rattle.ig_grammar.specs.declared.place.Shape.{Shape}
use Rattle.ig_meaning.specs.Derivation.{Covers, Derives, span_value, empty, symbol, literal, one_of, token, call}
use Rattle.ig_meaning.specs.Derivation.{label, guard, let_be, absent}
use Rattle.ig_meaning.specs.Derivation.{present, star, plus, sep_star, sep_plus, group, offside, ignore, align}
use Rattle.ig_meaning.specs.Derivation.{filtered, sequence, entry}
use Rattle.ig_meaning.specs.Environment.{Environment}
use Rattle.ig_text.specs.Input.{Input}
use Rattle.ig_text.specs.Tree.{Trees}
use Rattle.ig_grammar.specs.Gathered.{gathered_listed}

module _ (g : Grammar) (shapes : List Shape) (May : List ℕ → Type 0) (text : Input) where
  mutual
    pub covers_add : {c : DeclKind} {ys : List Symbol} {env after : Environment} {i j : ℕ} {vs : Trees}
        {starts : List ℕ} →
        Covers g shapes text c ys env i j vs after starts → (v : Visible) → SymbolsProper May v (gathered ys) →
        Adds (all_bind v (gathered ys)) env after
    covers_add (empty c env i) v p = adds_nothing env
    covers_add (symbol c x others env between after i e h j ts us vs ks ls starts head rest trees exposes) v p =
        adds_both (derives_add head v p.0) (covers_add rest (v ++ binds v x) p.1)

    pub derives_add : {c : DeclKind} {x : Symbol} {env after : Environment} {i e j : ℕ} {ts : Trees}
        {starts : List ℕ} →
        Derives g shapes text c x env i e j ts after starts → (v : Visible) → Proper May v x →
        Adds (binds v x) env after
    derives_add (literal c word env i e j us ts starts spells trails trees exposes) v p = adds_nothing env
    derives_add (one_of c class env i e j us ts starts among trails trees exposes) v p = adds_nothing env
    derives_add (token c name arguments vs env i e j t us ts ks starts have instance trails trees exposes) v p =
        adds_nothing env
    derives_add (call c kind name arguments vs env i j t starts have instance other) v p = adds_nothing env
    derives_add (label c name x env between after i e j ts starts inner bound) v p =
        subst (Adds (binds v x ++ (name, Span) ∷ []) env) (sym bound)
        (adds_both (derives_add inner v p.1) (adds_one between name (span_value i e) Span))
    derives_add (guard c condition env i holds) v p = adds_nothing env
    derives_add (let_be c name expression w env after i value_is is) v p =
        subst (Adds (bound name (kind_at v expression)) env) (sym is)
        (subst (λ z. Adds (bound name z) env (env ++ (name, w) ∷ [])) (sym p.1) (adds_one env name w p.0))
    derives_add (absent c x env i) v p = adds_nothing env
    derives_add (present c x env between i e j ts starts inner) v p = adds_nothing env
    derives_add (star c x env i j t starts items list) v p = adds_nothing env
    derives_add (plus c x env i j t starts items list) v p = adds_nothing env
    derives_add (sep_star c x separator env i j t starts items list) v p = adds_nothing env
    derives_add (sep_plus c x separator env i j t starts items list) v p = adds_nothing env
    derives_add (group c choices k xs env between i j ts starts chosen inner) v p = adds_nothing env
    derives_add (offside c x env after i e j ts starts inner right) v p = absurd p
    derives_add (ignore c x env after i e j ts starts inner) v p = absurd p
    derives_add (align c x env after i e j ts starts items inner column) v p = absurd p
    derives_add (filtered c x filters env after i e j ts starts inner passes) v p = derives_add inner v p.1
    derives_add (sequence c xs env after i j ts starts inner) v p =
        subst (λ z. Adds (all_bind v z) env after) (gathered_listed xs)
        (covers_add inner v (subst (SymbolsProper May v) (sym (gathered_listed xs)) p))
    derives_add (entry c bindings x vs env inside after i e j ts starts have renewed inner) v p = adds_nothing env
