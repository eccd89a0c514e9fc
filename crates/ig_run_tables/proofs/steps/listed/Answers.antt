use Rattle.std.proofs.Common.{◌≡◌, List, Some, map, subst}
use Rattle.ig_expr.specs.View.{expression_of}
use Rattle.ig_expr.specs.declared.value.Value.{Value}
use Rattle.ig_run_tables.specs.Compiled.{AreValuesOf, values_in}
use Rattle.ig_run_tables.specs.declared.steps.Arguments.{Arguments}
use Rattle.ig_run_tables.specs.declared.steps.Arguments.TheVariants.{Listed}
use Rattle.ig_run_tables.proofs.steps.listed.Goals as goal

listed_at : (P : List Value → Type 0) (own list : List Value) (a : Arguments) → Some (Listed list) ≡ Some a → P list → P (values_in own a)
listed_at P own list a is h = let e : Listed list ≡ a = cc in subst (λ z. P (values_in own z)) e h

pub listed_values-requires : goal.listed_values-requires
listed_values-requires c = c.requires

pub returns-in-Some : goal.returns-in-Some
returns-in-Some c =
    record {
      none = λ e. absurd (cc);
      some = λ a is. listed_at (AreValuesOf c.args.text.now c.args.known.now.names.now c.args.values.now c.args.here (map expression_of c.args.arguments.now))
          c.args.values.now c.in-Some.list a is (c.in_ok-list.ensures.some c.in-Some.list c.in-Some.is);
    }

pub returns-in-None : goal.returns-in-None
returns-in-None c = record { none = λ e. c.in_ok-list.ensures.none c.in-None.is; some = λ a is. absurd (cc) }
