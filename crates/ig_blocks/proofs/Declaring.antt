-- What the pass makes of declarations, one after another.
use Rattle.std.proofs.Common.{◌≡◌, ◌∙◌, ℕ, suc, ◌+◌, ◌<◌, List, [], ◌∷◌, ◌++◌, Bool, true, false, not, ◌&&◌, length, drop, get_or, map, refl, sym, ap, ap₂, arith, drop-cons, append_assoc, if◌then◌else◌}
use Rattle.std.proofs.lemmas.List.{append-nil}
use Rattle.ig_grammar.specs.Checked.{CheckedGrammar}
use Rattle.ig_grammar.specs.declared.declaration.DeclKind.TheVariants.{Syntax}
use Rattle.ig_grammar.specs.declared.declaration.Decl.{Decl}
use Rattle.ig_grammar.specs.declared.declaration.Level.{Level}
use Rattle.ig_grammar.specs.declared.declaration.Param.{Param}
use Rattle.ig_grammar.specs.declared.place.Shape.{Shape}
use Rattle.ig_pass.specs.Rooted.{is_root, rooted}
use Rattle.ig_blocks_parts.specs.Setting.{Setting, lacking, pair_by, extra_by}
use Rattle.ig_blocks_parts.specs.Blocks.{level_by, int_param, declaration_by, root_by, lowered_declaration, lowered_declarations, setting_of, lowered_grammar, lowered_of, BlocksOf}
use Rattle.ig_blocks.specs.Code.{has_pair}
use Rattle.ig_grammar.specs.declared.grammar.Grammar.{Grammar}

pub declaration_is : (s : Setting) (shape : Shape) (d : Decl) (paired : Bool) (name : List ℕ) (params : List Param) (levels : List Level) → paired ≡ has_pair s shape d.kind →
    name ≡ d.name → params ≡ d.params ++ extra_by paired (int_param s.m) (int_param s.f) → levels ≡ map (level_by s (pair_by paired)) d.levels →
    record { kind = d.kind; name = name; params = params; levels = levels } ≡ lowered_declaration s shape d
declaration_is s shape d paired name params levels ep en eq el =
    (λ k. record { kind = d.kind; name = en k; params = (eq ∙ ap (λ z. d.params ++ extra_by z (int_param s.m) (int_param s.f)) ep) k; levels = (el ∙ ap (λ z. map (level_by s (pair_by z)) d.levels) ep) k }) ∙ go (is_root shape)
  where
    go : (b : Bool) → record { kind = d.kind; name = d.name; params = d.params ++ extra_by (not b && s.paired d.kind) (int_param s.m) (int_param s.f); levels = map (level_by s (pair_by (not b && s.paired d.kind))) d.levels } ≡
        (if b then root_by s d else declaration_by s d)
    go true = λ k. record { kind = d.kind; name = d.name; params = append-nil d.params k; levels = map (level_by s lacking) d.levels }
    go false = refl

pub grammar_is : (g other : Grammar) (shapes : List Shape) (xs ys : List Decl) (s : Setting) (made : Grammar) → other ≡ g → xs ≡ other.decls → ys ≡ other.decls →
    s ≡ setting_of xs shapes → made.start ≡ other.start → made.tabs ≡ other.tabs → made.decls ≡ lowered_declarations s shapes ys → made ≡ lowered_grammar g shapes
grammar_is g other shapes xs ys s made same ex ey es et ew ed =
    let all : made.decls ≡ lowered_declarations (setting_of g.decls shapes) shapes g.decls =
    ed ∙ ap₂ (λ t zs. lowered_declarations t shapes zs) (es ∙ ap (λ zs. setting_of zs shapes) (ex ∙ ap (λ (z : Grammar). z.decls) same)) (ey ∙ ap (λ (z : Grammar). z.decls) same) in
    λ k. record { start = (et ∙ ap (λ (z : Grammar). z.start) same) k; tabs = (ew ∙ ap (λ (z : Grammar). z.tabs) same) k; decls = all k }

module _ (s : Setting) (shapes : List Shape) (decls : List Decl) (beside : length shapes ≡ length decls) where
  pub declaration_more : (done new whole : List Decl) (i : ℕ) (d : Decl) (r shape : Shape) (z : Decl) → i < length decls →
      d ≡ get_or decls i d → shape ≡ get_or shapes i r → done ++ lowered_declarations s (drop i shapes) (drop i decls) ≡ whole →
      new ≡ done ++ z ∷ [] → z ≡ lowered_declaration s shape d → new ++ lowered_declarations s (drop (i + 1) shapes) (drop (i + 1) decls) ≡ whole
  declaration_more done new whole i d r shape z within read shaped inv en ez =
      let next : i + 1 ≡ suc i = omega arith in
      let rest = lowered_declarations s (drop (suc i) shapes) (drop (suc i) decls) in
      let front : drop i shapes ≡ shape ∷ drop (suc i) shapes = drop-cons shapes i r (omega (arith, within, beside)) ∙ ap (λ x. x ∷ drop (suc i) shapes) (sym shaped) in
      let back : drop i decls ≡ d ∷ drop (suc i) decls = drop-cons decls i d within ∙ ap (λ x. x ∷ drop (suc i) decls) (sym read) in
      let split : lowered_declarations s (drop i shapes) (drop i decls) ≡ z ∷ rest =
      ap₂ (lowered_declarations s) front back ∙ ap (λ x. x ∷ rest) (sym ez) in
      ap₂ (λ a b. a ++ lowered_declarations s (drop b shapes) (drop b decls)) en next ∙ append_assoc done (z ∷ []) rest ∙ sym (ap (λ x. done ++ x) split) ∙ inv

-- the result, from its parts
pub result_is : (c r : CheckedGrammar) (g : Grammar) (shapes : List Shape) → r ≡ rooted Syntax c → g ≡ lowered_grammar r.grammar r.shapes → shapes ≡ r.shapes →
    record { grammar = g; shapes = shapes } ≡ BlocksOf c
result_is c r g shapes er eg es =
    let parts : record { grammar = g; shapes = shapes } ≡ lowered_of r = λ k. record { grammar = eg k; shapes = es k } in parts ∙ ap lowered_of er

pub result_same : (c d : CheckedGrammar) (g : Grammar) (shapes : List Shape) → d.grammar ≡ g → d.shapes ≡ shapes → record { grammar = g; shapes = shapes } ≡ BlocksOf c → d ≡ BlocksOf c
result_same c d g shapes eg es e =
    let parts : d ≡ record { grammar = g; shapes = shapes } = λ k. record { grammar = eg k; shapes = es k } in parts ∙ e
