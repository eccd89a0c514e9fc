-- Under bounds exactly the clean trees that keep them on their spines.
use Rattle.std.proofs.Common.{◌≡◌, ◌++◌, true, List, refl, sym, ap, subst}
use Rattle.ig_expr.specs.declared.value.Value.{Value}
use Rattle.ig_grammar.specs.declared.declaration.DeclKind.TheVariants.{Syntax}
use Rattle.ig_meaning.specs.Derivation.{Instance}
use Rattle.ig_pass.specs.Added.{left_name, right_name}
use Rattle.ig_pass.specs.Rooted.{rooted}
use Rattle.ig_levels.specs.Levels.{names_levelled, lowered_grammar}
use Rattle.ig_levels.specs.Laws.{BoundsAskOfSpines}
use Rattle.ig_levels.proofs.Back.{instance_from}
use Rattle.ig_levels.proofs.WithBounds.{bounds_of, bound_values}
use Rattle.ig_levels.proofs.Clearing.{clear_of}
use Rattle.ig_levels.proofs.Forth.{instance_to}
use Rattle.ig_levels.proofs.Kept.{Given}
use Rattle.ig_levels.proofs.Declaring.{takes_of}
use Rattle.ig_levels.proofs.Premises.{lowerable}

pub bounds_ask : Given → BoundsAskOfSpines
bounds_ask given c sound left right text name vs kind i e t starts l r levelled =
    let to = given.root.sound c sound in
    let kept = given.root.kept c sound.fit in
    let d = rooted Syntax c in
    let may = lowerable given.found d.grammar d.shapes to.sound.scoped to.sound.fit (clear_of d.grammar (kept.unbound left_name left) (kept.unbound right_name right)) in
    let takes = takes_of d.grammar d.shapes may in
    let is : vs ++ bound_values (bounds_of (names_levelled d.grammar.decls name) l r) ≡ vs ++ bound_values (bounds_of true l r) =
    ap (λ z. vs ++ bound_values (bounds_of z l r)) levelled in (
      (λ within. subst (λ (z : List Value). Instance (lowered_grammar d.grammar) d.shapes text name z kind i e t starts) is
          (instance_to d.grammar (lowered_grammar d.grammar) d.shapes d.shapes (names_levelled d.grammar.decls) text takes within.derived l r within.clean within.least)),
      (λ instance.
          let from = instance_from d.grammar (lowered_grammar d.grammar) d.shapes d.shapes (names_levelled d.grammar.decls) text takes instance name vs l r refl (sym is) in
          record { derived = from.instance; clean = from.clean; least = from.least levelled }),
    )
