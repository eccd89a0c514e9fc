-- A node has one value for each label and each let of what it stands for.
use Rattle.std.proofs.Common.{◌≡◌, ℕ, List, [], ◌∷◌, ◌++◌, length, drop, refl, sym, ◌∙◌, ap}
use Rattle.std.specs.List.{flat_map}
use Rattle.std.proofs.lemmas.List.{map-append, length-map}
use Rattle.std.proofs.Math.Seq.{drop-append_seam}
use Rattle.ig_text.specs.Input.{Input}
use Rattle.ig_text.specs.declared.tag.Tag.{Tag}
use Rattle.ig_expr.specs.declared.value.Value.{Value}
use Rattle.ig_grammar.specs.Symbol.{Symbol}
use Rattle.ig_grammar.specs.Subterms.{bound_names}
use Rattle.ig_meaning.specs.Environment.{Environment, values}
use Rattle.ig_meaning.specs.Derivation.{span_value}
use Rattle.ig_meaning.specs.Laws.{GrowsBy}
use Rattle.ig_expr.specs.ValuedTree.{Tree, Trees}
use Rattle.ig_meaning.specs.Annotated.{bound_between, IsRound, HasParts, Bind, Binds, BindApart, Within}
use Rattle.ig_meaning.specs.Annotated as a
use Rattle.ig_meaning.specs.AnnotatedLaws.{AreOf, HasValues, AnnotationsAreComplete}
use Rattle.ig_grammar.specs.declared.declaration.DeclKind.{DeclKind}
use Rattle.ig_grammar.specs.declared.grammar.Grammar.{Grammar}
use Rattle.ig_grammar.specs.declared.place.Shape.{Shape}
use Rattle.ig_meaning.proofs.Growth.{still, by_one, onward, same_names}

-- a symbol with parts binds nothing
of_parts : {x : Symbol} {form : Tag} {parts : List Symbol} (env : Environment) → HasParts x form parts → GrowsBy (bound_names x) env env
of_parts env (a.absent x) = still env
of_parts env (a.present x) = still env
of_parts env (a.nil x) = still env
of_parts env (a.snoc x) = still env
of_parts env (a.one_item x) = still env
of_parts env (a.more_items x) = still env
of_parts env (a.first_item x s) = still env
of_parts env (a.further_item x s) = still env
of_parts env (a.no_item x s) = still env
of_parts env (a.some_items x s) = still env
of_parts env (a.chosen choices k xs chosen) = still env

of_mark : {x y : Symbol} {env after : Environment} → IsRound x y → GrowsBy (bound_names x) env after → GrowsBy (bound_names y) env after
of_mark a.offside p = p
of_mark a.ignore p = p
of_mark a.align p = p
of_mark (a.filtered filters) p = p

-- what is behind an environment in the one that grew from it
added : (names : List (List ℕ)) (env after : Environment) (p : GrowsBy names env after) → bound_between env after ≡ values p.more
added names env after p =
    (λ k. drop (sym (length-map env (λ pair. pair.1)) k) (values (p.grown k))) ∙
    ap (drop (length (values env))) (map-append (λ pair. pair.1) env p.more) ∙ drop-append_seam (values env) (values p.more)

behind : (x : Symbol) (xs : List Symbol) (env after : Environment) (some bound : List Value) → GrowsBy (bound_names x) env after →
    AreOf xs some → bound ≡ bound_between env after ++ some → AreOf (x ∷ xs) bound
behind x xs env after some bound p q valued =
    record {
      added = p.more ++ q.added;
      named = map-append (λ pair. pair.0) p.more q.added ∙ (λ k. p.named k ++ q.named k);
      valued = valued ∙ (λ k. added (bound_names x) env after p k ++ q.valued k) ∙ sym (map-append (λ pair. pair.1) p.more q.added);
    }

module _ (g : Grammar) (shapes : List Shape) (text : Input) where
  mutual
    bind_grows : {c : DeclKind} {xs : List Symbol} {env after : Environment} {i j : ℕ} {ts : Trees} →
        Bind g shapes text c xs env i j ts after → GrowsBy (flat_map bound_names xs) env after
    bind_grows (a.nothing c env i) = still env
    bind_grows (a.next c x others env between after i e h j ts us vs first rest trees) =
        onward (bound_names x) (flat_map bound_names others) env between after (binds_grows first) (bind_grows rest)

    binds_grows : {c : DeclKind} {x : Symbol} {env after : Environment} {i e j : ℕ} {ts : Trees} →
        Binds g shapes text c x env i e j ts after → GrowsBy (bound_names x) env after
    binds_grows (a.literal c word env i e j us behind) = still env
    binds_grows (a.one_of c class env i e j us behind) = still env
    binds_grows (a.call c kind name arguments vs env i e j t us have within behind) = still env
    binds_grows (a.label c name x env between after i e j ts inner bound) =
        onward (bound_names x) (name ∷ []) env between after (binds_grows inner) (by_one name (span_value i e) between after bound)
    binds_grows (a.guard c condition env i) = still env
    binds_grows (a.let_be c name expression v env after i has bound) = by_one name v env after bound
    binds_grows (a.node c x form parts env i j ts bound has inner) = of_parts env has
    binds_grows (a.round c x y env after i e j ts mark inner) = of_mark mark (binds_grows inner)
    binds_grows (a.sequence c xs env after i j ts inner) =
        let p = bind_grows inner in record { more = p.more; grown = p.grown; named = p.named ∙ same_names xs }
    binds_grows (a.entry c bindings x vs env inside after i e j ts have renewed inner) = still env

  parts_grow : {c : DeclKind} {xs : List Symbol} {env : Environment} {i j : ℕ} {ts : Trees} {bound : List Value} →
      BindApart g shapes text c xs env i j ts bound → AreOf xs bound
  parts_grow (a.no_part c env i) = record { added = []; named = refl; valued = refl }
  parts_grow (a.next_part c x others env after i e h j ts us vs some bound first rest trees valued) =
      behind x others env after some bound (binds_grows first) (parts_grow rest) valued

  own_values : {name : List ℕ} {vs : List Value} {kind : DeclKind} {i e : ℕ} {t : Tree} →
      Within g shapes text name vs kind i e t → HasValues g shapes name i e t
  own_values (a.alternative name vs kind d k decl shape by env after i e ts t declares numbered bound same binds tree) =
      let p = bind_grows binds in
      record {
        d = d;
        k = k;
        decl = decl;
        shape = shape;
        a = by;
        bound = bound_between env after;
        children = ts;
        declares = declares;
        numbered = numbered;
        node = tree;
        each = record { added = p.more; named = p.named; valued = added (flat_map bound_names by.alternative.symbols) env after p };
      }

pub complete : AnnotationsAreComplete
complete g shapes text =
    record { bind = bind_grows g shapes text; apart = parts_grow g shapes text; within = own_values g shapes text }
