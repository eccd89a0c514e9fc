-- What is bound in one grammar is bound in another that has the called declarations, unchanged and in their places.
use Rattle.std.proofs.Common.{◌≡◌, ◌∙◌, ℕ, List, Some, sym}
use Rattle.ig_text.specs.Input.{Input}
use Rattle.ig_text.specs.declared.tag.Tag.{Tag}
use Rattle.ig_expr.specs.ValuedTree.{Tree, Trees}
use Rattle.ig_expr.specs.declared.value.Value.{Value}
use Rattle.ig_grammar.specs.Symbol.{Symbol}
use Rattle.ig_grammar.specs.Numbering.{Levelled, Declares, IsAlternative, layout_among}
use Rattle.ig_grammar.specs.declared.declaration.DeclKind.{DeclKind}
use Rattle.ig_grammar.specs.declared.declaration.Decl.{Decl}
use Rattle.ig_grammar.specs.declared.grammar.Grammar.{Grammar}
use Rattle.ig_grammar.specs.declared.place.Shape.{Shape}
use Rattle.ig_meaning.specs.Environment.{Environment}
use Rattle.ig_meaning.specs.Annotated.{IsRound, HasParts, Bind, Binds, BindApart, Within, Behind}
use Rattle.ig_meaning.specs.Annotated as a
use Rattle.ig_pass.proofs.CallsOnly.{CallsOnly, EachCallsOnly, each_listed, chosen}

module _ (Named : List ℕ → Type 0) where
  part_calls : {x : Symbol} {form : Tag} {parts : List Symbol} → HasParts x form parts → CallsOnly Named x → EachCallsOnly Named parts
  part_calls (a.absent x) n = tt
  part_calls (a.present x) n = (n, tt)
  part_calls (a.nil x) n = tt
  part_calls (a.snoc x) n = (n, (n, tt))
  part_calls (a.one_item x) n = (n, tt)
  part_calls (a.more_items x) n = (n, (n, tt))
  part_calls (a.first_item x separator) n = (n.0, tt)
  part_calls (a.further_item x separator) n = (n, (n.1, (n.0, tt)))
  part_calls (a.no_item x separator) n = tt
  part_calls (a.some_items x separator) n = (n, tt)
  part_calls (a.chosen choices k xs choice) n = (chosen Named choices k xs choice n, tt)

  round_calls : {x y : Symbol} → IsRound x y → CallsOnly Named y → CallsOnly Named x
  round_calls a.offside n = n
  round_calls a.ignore n = n
  round_calls a.align n = n
  round_calls (a.filtered filters) n = n

module _ (g : Grammar) (shapes : List Shape) (other : Grammar) (forms : List Shape) (text : Input) (Named : List ℕ → Type 0)
    (moves : (name : List ℕ) (d : ℕ) (decl : Decl) (s : Shape) → Named name → Declares g shapes name d decl s → Declares other forms name d decl s)
    (calls : (name : List ℕ) (d : ℕ) (decl : Decl) (s : Shape) (k : ℕ) (a : Levelled) → Named name → Declares g shapes name d decl s →
    IsAlternative decl k a → EachCallsOnly Named a.alternative.symbols)
    (same_layout : layout_among g.decls ≡ layout_among other.decls)
    (layout_named : (name : List ℕ) → layout_among g.decls ≡ Some name → Named name) where
  mutual
    pub bind_too : {c : DeclKind} {xs : List Symbol} {env after : Environment} {i j : ℕ} {ts : Trees} →
        EachCallsOnly Named xs → Bind g shapes text c xs env i j ts after → Bind other forms text c xs env i j ts after
    bind_too n (a.nothing c env i) = a.nothing c env i
    bind_too n (a.next c x others env between after i e h j ts us vs first rest trees) =
        a.next c x others env between after i e h j ts us vs (binds_too n.0 first) (bind_too n.1 rest) trees

    pub binds_too : {c : DeclKind} {x : Symbol} {env after : Environment} {i e j : ℕ} {ts : Trees} →
        CallsOnly Named x → Binds g shapes text c x env i e j ts after → Binds other forms text c x env i e j ts after
    binds_too n (a.literal c word env i e j us behind) = a.literal c word env i e j us (behind_too behind)
    binds_too n (a.one_of c class env i e j us behind) = a.one_of c class env i e j us (behind_too behind)
    binds_too n (a.call c kind name arguments vs env i e j t us have within behind) =
        a.call c kind name arguments vs env i e j t us have (within_too n within) (behind_too behind)
    binds_too n (a.label c name x env between after i e j ts inner bound) =
        a.label c name x env between after i e j ts (binds_too n inner) bound
    binds_too n (a.guard c condition env i) = a.guard c condition env i
    binds_too n (a.let_be c name expression v env after i has bound) = a.let_be c name expression v env after i has bound
    binds_too n (a.node c x form parts env i j ts bound has inner) =
        a.node c x form parts env i j ts bound has (apart_too (part_calls Named has n) inner)
    binds_too n (a.round c x y env after i e j ts mark inner) =
        a.round c x y env after i e j ts mark (binds_too (round_calls Named mark n) inner)
    binds_too n (a.sequence c xs env after i j ts inner) = a.sequence c xs env after i j ts (bind_too (each_listed Named xs n) inner)
    binds_too n (a.entry c bindings x vs env inside after i e j ts have renewed inner) =
        a.entry c bindings x vs env inside after i e j ts have renewed (binds_too n inner)

    pub apart_too : {c : DeclKind} {xs : List Symbol} {env : Environment} {i j : ℕ} {ts : Trees} {bound : List Value} →
        EachCallsOnly Named xs → BindApart g shapes text c xs env i j ts bound → BindApart other forms text c xs env i j ts bound
    apart_too n (a.no_part c env i) = a.no_part c env i
    apart_too n (a.next_part c x others env after i e h j ts us vs some bound first rest trees all) =
        a.next_part c x others env after i e h j ts us vs some bound (binds_too n.0 first) (apart_too n.1 rest) trees all

    pub within_too : {name : List ℕ} {vs : List Value} {kind : DeclKind} {i e : ℕ} {t : Tree} →
        Named name → Within g shapes text name vs kind i e t → Within other forms text name vs kind i e t
    within_too n (a.alternative name vs kind d k decl shape by env after i e ts t declares numbered bound same inner tree) =
        a.alternative name vs kind d k decl shape by env after i e ts t (moves name d decl shape n declares) numbered bound same
        (bind_too (calls name d decl shape k by n declares numbered) inner) tree

    pub behind_too : {c kind : DeclKind} {e j : ℕ} {ts : Trees} → Behind g shapes text c kind e j ts → Behind other forms text c kind e j ts
    behind_too (a.layout name kind e j t declared within) =
        a.layout name kind e j t (sym same_layout ∙ declared) (within_too (layout_named name declared) within)
    behind_too (a.no_layout c kind e undeclared) =
        a.no_layout c kind e (λ syntax lexical. sym same_layout ∙ undeclared syntax lexical)
