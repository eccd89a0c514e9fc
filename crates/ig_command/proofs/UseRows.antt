-- The rows of uses, in what `clap` found.
use Rattle.std.proofs.Common.{◌≡◌, ◌∙◌, ℕ, Bool, true, false, List, [], ◌∷◌, ◌++◌, refl, ap, Some, None}
use Rattle.std.specs.Prelude.{if◌then◌else◌, ◌||◌}
use Rattle.std.specs.Str.{bytes_eq}
use Rattle.clap.specs.Values.{reading_of}
use Rattle.clap.specs.Walk.{Row, Rule, Text, at_row, has_row, more_values, used, without}
use Rattle.clap.specs.Simple.{new_rule}
use Rattle.clap.specs.declared.builder.value_parser.ValueParser.TheVariants as vp
use Rattle.clap.specs.declared.builder.action.ArgAction.TheVariants.{Set}
use Rattle.clap.specs.declared.parser.matches.ValueSource.TheVariants.{CommandLine}

-- the argument of a place, and of a name, of a command that is built
abbrev pub place_rule : Text → ℕ → Rule
place_rule id k = record (new_rule id) {
  index = Some k;
  action = Some Set;
  range = Some (record { start_inclusive = 1; end_inclusive = 1 });
  parser = Some vp.String;
  required = true;
}

abbrev pub option_rule : Text → Rule
option_rule name = record (new_rule name) {
  long = Some name;
  action = Some Set;
  range = Some (record { start_inclusive = 1; end_inclusive = 1 });
  parser = Some vp.String;
}

-- the row of one use
abbrev pub row_of_use : Text → Text → Row
row_of_use id value = record { id = id; values = value ∷ []; count = None; source = Some CommandLine; reading = reading_of vp.String }

pub absent : (t : Text) (rows : List Row) → has_row t rows ≡ false → without t rows ≡ rows
absent t [] e = refl
absent t (r ∷ rs) e = by_test (bytes_eq r.id t) e (absent t rs)
  where
    by_test : (b : Bool) → (b || has_row t rs) ≡ false → (has_row t rs ≡ false → without t rs ≡ rs) →
        (if b then rs else r ∷ without t rs) ≡ r ∷ rs
    by_test true e more = absurd (cc)
    by_test false e more = ap (λ z. r ∷ z) (more e)

pub added : (t : Text) (change : Row → List Row) (new : Row) (rows : List Row) → has_row t rows ≡ false →
    at_row t change (new ∷ []) rows ≡ rows ++ new ∷ []
added t change new [] e = refl
added t change new (r ∷ rs) e = by_test (bytes_eq r.id t) e (added t change new rs)
  where
    by_test : (b : Bool) → (b || has_row t rs) ≡ false →
        (has_row t rs ≡ false → at_row t change (new ∷ []) rs ≡ rs ++ new ∷ []) →
        (if b then change r ++ rs else r ∷ at_row t change (new ∷ []) rs) ≡ r ∷ (rs ++ new ∷ [])
    by_test true e more = absurd (cc)
    by_test false e more = ap (λ z. r ∷ z) (more e)

-- a first use adds its row
pub option_used : (t value : Text) (rows : List Row) → has_row t rows ≡ false →
    used (option_rule t) (value ∷ []) rows ≡ rows ++ row_of_use t value ∷ []
option_used t value rows e =
    ap (at_row t (more_values CommandLine (value ∷ [])) (row_of_use t value ∷ [])) (absent t rows e) ∙
    added t (more_values CommandLine (value ∷ [])) (row_of_use t value) rows e

pub place_used : (t value : Text) (k : ℕ) (rows : List Row) → has_row t rows ≡ false →
    used (place_rule t k) (value ∷ []) rows ≡ rows ++ row_of_use t value ∷ []
place_used t value k rows e =
    ap (at_row t (more_values CommandLine (value ∷ [])) (row_of_use t value ∷ [])) (absent t rows e) ∙
    added t (more_values CommandLine (value ∷ [])) (row_of_use t value) rows e
