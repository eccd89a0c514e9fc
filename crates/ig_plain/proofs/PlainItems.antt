-- The items of a core grammar that binds nothing: each is told by its dot and its stretch.
use Rattle.std.proofs.Common.{◌≡◌, ℕ, zero, suc, ◌+◌, ◌*◌, ◌≤◌, List, [], ◌∷◌, ◌++◌, Some, length, take, Contains, slice_get, sym, ap, ◌∙◌, refl, subst, arith}
use Rattle.std.specs.List.{flat_map}
use Rattle.std.proofs.lemmas.List.{length-map, nil_from_length}
use Rattle.ig_text.specs.Input.{Input}
use Rattle.ig_text.proofs.Lists.{contains_from_at, both_empty}
use Rattle.ig_expr.specs.Kinds.{kind_of_value}
use Rattle.ig_expr.specs.declared.value.Value.{Value}
use Rattle.ig_item.specs.Step.{Step, names_of}
use Rattle.ig_item.specs.Core.{IsAlternative, numbered, dots_of_alternative, dots_of_nonterminal, dots}
use Rattle.ig_item.specs.Visible.{names_at}
use Rattle.ig_item.specs.WellKinded.{IsWellKinded}
use Rattle.ig_item.specs.Items.{Item, Reachable}
use Rattle.ig_item.specs.Laws.{EnvironmentsFit, EnvironmentFits, ItemsAreInText}
use Rattle.ig_item.specs.declared.core_grammar.Nonterminal.{Nonterminal}
use Rattle.ig_item.specs.declared.core_grammar.CoreAlt.{CoreAlt}
use Rattle.ig_plain.specs.Laws.{IsPlain}
use Rattle.ig_plain.proofs.Listing.{below, length-below, in_below, each, length-each, in_each, crossed, length-crossed, in_crossed}
use Rattle.ig_plain.proofs.Triangle.{Stretch, stretch, stretches, in_stretches}

-- a dot, of that alternative of that nonterminal
pub record Dot : Type 0 where
  pub nonterminal : ℕ
  pub alternative : ℕ
  pub number : ℕ

abbrev pub dot_at : ℕ → ℕ → ℕ → Dot
dot_at n a dot = record { nonterminal = n; alternative = a; number = dot }

abbrev dots_in : ℕ → ℕ → CoreAlt → List Dot
dots_in n a alternative = below (dot_at n a) (dots_of_alternative alternative)

abbrev dots_among : ℕ → Nonterminal → List Dot
dots_among n nonterminal = each (dots_in n) 1 nonterminal.alternatives

-- all dots of the core grammar
abbrev all_dots : List Nonterminal → List Dot
all_dots core = each dots_among 0 core

-- there are as many as the definition says
length-all_dots : (core : List Nonterminal) → length (all_dots core) ≡ dots core
length-all_dots core =
    length-each dots_among dots_of_nonterminal
    (λ n nonterminal.
    length-each (dots_in n) dots_of_alternative (λ a alternative. length-below (dot_at n a) (dots_of_alternative alternative)) 1
    nonterminal.alternatives)
    0 core

-- alternatives are numbered from 1
at_number : (alternatives : List CoreAlt) (a : ℕ) (alternative : CoreAlt) → numbered alternatives a ≡ Some alternative →
    (k : ℕ) × (slice_get alternatives k ≡ Some alternative) × (a ≡ 1 + k)
at_number alternatives zero alternative e = cc
at_number alternatives (suc k) alternative e = (k, e, omega arith)

-- each dot of an alternative is among them
in_all_dots : (core : List Nonterminal) (n a dot : ℕ) (nonterminal : Nonterminal) (alternative : CoreAlt) →
    IsAlternative core n a nonterminal alternative → dot ≤ length alternative.steps → Contains (all_dots core) (dot_at n a dot)
in_all_dots core n a dot nonterminal alternative has within =
    let at = at_number nonterminal.alternatives a alternative has.has in
    in_each dots_among 0 core n n nonterminal (dot_at n a dot) has.there (omega arith)
    (in_each (dots_in n) 1 nonterminal.alternatives at.0 a alternative (dot_at n a dot) at.1 at.2
    (in_below (dot_at n a) (dots_of_alternative alternative) dot (omega (arith, within))))

-- the item at the dot over the stretch, where nothing is bound
abbrev pub plain_item : Dot → Stretch → Item
plain_item dot over =
    record {
      instance = record { nonterminal = dot.nonterminal; values = []; start = over.start };
      alternative = dot.alternative;
      dot = dot.number;
      env = [];
      position = over.end;
    }

-- all of them in a text with n characters
abbrev pub plain_items : List Nonterminal → ℕ → List Item
plain_items core n = crossed plain_item (all_dots core) (stretches (n + 1))

pub length-plain_items : (core : List Nonterminal) (n : ℕ) → length (plain_items core n) ≡ dots core * length (stretches (n + 1))
length-plain_items core n =
    length-crossed plain_item (all_dots core) (stretches (n + 1)) ∙
    ap (λ (d : ℕ). d * length (stretches (n + 1))) (length-all_dots core)

-- the first of some steps bind nothing where none does
front_binds_nothing : (steps : List Step) (dot : ℕ) → flat_map names_of steps ≡ [] → flat_map names_of (take dot steps) ≡ []
front_binds_nothing [] zero e = refl
front_binds_nothing [] (suc dot) e = refl
front_binds_nothing (step ∷ steps) zero e = refl
front_binds_nothing (step ∷ steps) (suc dot) e =
    let parts = both_empty (names_of step) (flat_map names_of steps) e in
    let others = front_binds_nothing steps dot parts.1 in cc others

-- so no name is visible at any dot
pub no_names : (core : List Nonterminal) → IsPlain core → (n a : ℕ) (nonterminal : Nonterminal) (alternative : CoreAlt) →
    IsAlternative core n a nonterminal alternative → (dot : ℕ) → names_at nonterminal alternative dot ≡ []
no_names core plain n a nonterminal alternative is dot =
    let params = plain.parameters nonterminal (contains_from_at core n nonterminal is.there) in
    ap (λ (names : List (List ℕ)). names ++ flat_map names_of (take dot alternative.steps)) params ∙
    front_binds_nothing alternative.steps dot (plain.steps n a nonterminal alternative is)

-- the item with other values
abbrev with_values : Item → List Value → List Value → Item
with_values x values env = record x { instance = record x.instance { values = values }; env = env }

-- without values an item is the one at its dot over its stretch
is_plain : (x : Item) → x.instance.values ≡ [] → x.env ≡ [] →
    plain_item (dot_at x.instance.nonterminal x.alternative x.dot) (stretch x.position x.instance.start) ≡ x
is_plain x values env =
    ap (λ (vs : List Value). with_values x vs []) (sym values) ∙ ap (λ (vs : List Value). with_values x x.instance.values vs) (sym env)

module _ (fit : EnvironmentsFit) (in_text : ItemsAreInText) (core : List Nonterminal) (text : Input)
    (well : IsWellKinded core) (plain : IsPlain core) where
  -- as there are no parameters, there are no values of them
  no_values : (x : Item) (fits : EnvironmentFits core x) → x.instance.values ≡ []
  no_values x fits =
      let there = contains_from_at core x.instance.nonterminal fits.nonterminal fits.has.there in
      let none = ap length (plain.parameters fits.nonterminal there) in
      let kinds = well.parameters fits.nonterminal there in
      let arguments = ap length fits.arguments in
      let as_many = length-map x.instance.values kind_of_value in
      nil_from_length x.instance.values (omega (arith, none, kinds, arguments, as_many))

  -- as no name is visible, nothing is bound
  no_env : (x : Item) (fits : EnvironmentFits core x) → x.env ≡ []
  no_env x fits =
      let none = no_names core plain x.instance.nonterminal x.alternative fits.nonterminal fits.alternative fits.has x.dot in
      nil_from_length x.env (fits.names ∙ ap length none)

  -- so each reachable item is one of those
  pub has_reachable : (x : Item) → Reachable core text x → Contains (plain_items core (length text.characters)) x
  has_reachable x reached =
      let fits = fit core text x well reached in
      let inside = in_text core text x reached in
      let dot = dot_at x.instance.nonterminal x.alternative x.dot in
      let over = stretch x.position x.instance.start in
      subst (λ (y : Item). Contains (plain_items core (length text.characters)) y) (is_plain x (no_values x fits) (no_env x fits))
      (in_crossed plain_item (all_dots core) (stretches (length text.characters + 1)) dot over
      (in_all_dots core x.instance.nonterminal x.alternative x.dot fits.nonterminal fits.alternative fits.has fits.within)
      (in_stretches (length text.characters + 1) x.instance.start x.position inside.onward (omega (arith, inside.within))))
