-- The grammars that are kept.
use Rattle.std.proofs.Common.{◌≡◌, ℕ, ◌≤◌, ◌<◌, List, [], ◌∷◌, ◌++◌, All, map, Some, None, Option, arith, refl, sym, ◌∙◌, ap, subst, Err, slice_get, length}
use Rattle.std.specs.Prelude.{option_map}
use Rattle.std.specs.Option.{IsSomeAnd}
use Rattle.std.proofs.lemmas.List.{map-append}
use Rattle.std.proofs.lemmas.List.Elements.{All-contains, All-head, All-map, All-tail, All-weaker}
use Rattle.std.proofs.lemmas.Option.{slice_get-map, slice_get_within}
use Rattle.ig_text.proofs.Lists.{contains_from_at, right_at, unmapped_at}
use Rattle.ig_command.specs.declared.command.Notation.TheVariants.{Own}
use Rattle.ig_grammar.specs.Checked.{CheckedGrammar}
use Rattle.ig_grammar.specs.Tabs.{tab_width}
use Rattle.ig_item.specs.Core.{dots}
use Rattle.ig_item.specs.Limits.{most_dots}
use Rattle.ig_core.specs.Lowered.{CoreOf, IsBuildable, IsNumbered}
use Rattle.ig_core.specs.Notation.{unchanged}
use Rattle.ig_command_endings.specs.Stops.{RefusesWith}
use Rattle.ig_command_endings.specs.declared.stop.Stop.{Stop}
use Rattle.ig_command_endings.specs.declared.stop.Stop.TheVariants as halt
use Rattle.ig_command_sources.specs.Accepted.{IsAccepted}
use Rattle.ig_command_sources.specs.Laws.{ReadGrammarsAreBuildable}
use Rattle.ig_command_sources.specs.Refusals.{IsRefused, dots_text, too_many_dots}
use Rattle.ig_command_sources.specs.Sources.{IsWrittenIn}
use Rattle.ig_tool.specs.Loading.{Accepts, IsAt, IsKept, grammars_of}
use Rattle.ig_tool.specs.Playing.{IsParsable}
use Rattle.ig_tool.specs.declared.grammars.Kept.{Kept}

-- a grammar that was read can be built
pub written_is_buildable : ReadGrammarsAreBuildable → (xs : List ℕ) (c : CheckedGrammar) → IsWrittenIn Own xs c → IsBuildable c
written_is_buildable law xs c w = subst IsBuildable (sym w.as_it_is) (law Own xs c.grammar w.text)

-- with its core grammar it is kept
pub is_kept : ReadGrammarsAreBuildable → (kept : Kept) (xs : List ℕ) → xs ≡ kept.bytes.items → IsWrittenIn Own xs kept.grammar →
    kept.core ≡ CoreOf kept.grammar → IsNumbered kept.grammar → dots (CoreOf kept.grammar) ≤ most_dots → IsKept kept
is_kept law kept xs same w core numbered few = record {
  accepted = subst (λ (z : List ℕ). IsAccepted Own z kept.grammar.grammar) same
      (record { text = w.text; few_dots = subst (λ (z : CheckedGrammar). dots (CoreOf z) ≤ most_dots) w.as_it_is few });
  as_it_is = w.as_it_is;
  buildable = written_is_buildable law xs kept.grammar w;
  numbered = numbered;
  core_is = core;
}

-- or it has too many dots
pub too_many : (xs ys : List ℕ) (c : CheckedGrammar) (stop : Stop) → xs ≡ ys → IsWrittenIn Own xs c → most_dots < dots (CoreOf c) →
    RefusesWith dots_text stop → Accepts ys (Err stop)
too_many xs ys c (halt.Note s line) same w many h = record {
  text = dots_text;
  refused = subst (λ (z : List ℕ). IsRefused Own z dots_text) same
      (too_many_dots c.grammar w.text (subst (λ (z : CheckedGrammar). most_dots < dots (CoreOf z)) w.as_it_is many));
  status_is = h.0;
  note_is = h.1;
}
too_many xs ys c halt.Memory same w many h = tt

-- a place among the grammars
there_at : (kept : List Kept) (at : ℕ) (k : Kept) → slice_get kept at ≡ Some k → slice_get (grammars_of kept) at ≡ Some k.grammar
there_at kept at k e =
    slice_get-map (λ (z : Kept). z.grammar) kept at ∙ ap (option_map (λ (z : Kept). z.grammar)) e

pub is_at : (kept : List Kept) (xs : List ℕ) (at : ℕ) (k : Kept) → slice_get kept at ≡ Some k → IsKept k → k.bytes.items ≡ xs → IsAt kept xs at
is_at kept xs at k e is same = record {
  grammar = k.grammar.grammar;
  accepted = subst (λ (z : List ℕ). IsAccepted Own z k.grammar.grammar) same is.accepted;
  there = there_at kept at k e ∙ ap Some is.as_it_is;
}

-- the grammar in the place that was found
pub found_at : (kept read : List Kept) (xs ys : List ℕ) (at : ℕ) → read ≡ kept → ys ≡ xs → All IsKept kept →
    IsSomeAnd (slice_get read at) (λ k. k.bytes.items ≡ ys) → IsAt kept xs at
found_at kept read xs ys at same as_read all there =
    by_option (slice_get kept at) refl
    (subst (λ (z : List Kept). IsSomeAnd (slice_get z at) (λ k. k.bytes.items ≡ xs)) same
    (subst (λ (z : List ℕ). IsSomeAnd (slice_get read at) (λ k. k.bytes.items ≡ z)) as_read there))
  where
    by_option : (o : Option Kept) → slice_get kept at ≡ o → IsSomeAnd o (λ k. k.bytes.items ≡ xs) → IsAt kept xs at
    by_option None e h = absurd h
    by_option (Some k) e h =
        is_at kept xs at k e (All-contains IsKept kept k all (contains_from_at kept at k e)) h

-- there is one in the place that was found, and the width is that of its tabs
pub is_within : (kept read : List Kept) (xs : List ℕ) (at : ℕ) → read ≡ kept → IsAt kept xs at → at < length read
is_within kept read xs at same is =
    let there = unmapped_at (λ (k : Kept). k.grammar) kept at (unchanged is.grammar) is.there in
    subst (λ (z : List Kept). at < length z) (sym same) (slice_get_within kept at there.0 there.1)

pub width_is : (kept read : List Kept) (xs : List ℕ) (at tabs : ℕ) → read ≡ kept → (is : IsAt kept xs at) →
    IsSomeAnd (slice_get read at) (λ k. tabs ≡ tab_width k.grammar.grammar.tabs) → tabs ≡ tab_width is.grammar.tabs
width_is kept read xs at tabs same is h =
    let P : Option Kept → Type 0 = λ o. IsSomeAnd o (λ k. tabs ≡ tab_width k.grammar.grammar.tabs) in
    let there = unmapped_at (λ (k : Kept). k.grammar) kept at (unchanged is.grammar) is.there in
    let one = subst (λ (z : List Kept). P (slice_get z at)) same h in
    subst P there.1 one ∙ ap (λ (z : CheckedGrammar). tab_width z.grammar.tabs) there.2

-- the one that is added
pub added_at : (old new : List Kept) (k : Kept) (xs : List ℕ) (at : ℕ) → new ≡ old ++ k ∷ [] → at ≡ length old → IsKept k →
    k.bytes.items ≡ xs → IsAt new xs at
added_at old new k xs at e place is same =
    let there : slice_get (old ++ k ∷ []) at ≡ Some k = right_at old (k ∷ []) at 0 k (omega arith) refl in
    is_at new xs at k (ap (λ (z : List Kept). slice_get z at) e ∙ there) is same

-- what was kept stays in its place
pub grown_grammars : (old new more : List Kept) → new ≡ old ++ more → grammars_of new ≡ grammars_of old ++ grammars_of more
grown_grammars old new more e =
    ap (λ (z : List Kept). grammars_of z) e ∙ map-append (λ (k : Kept). k.grammar) old more

-- parsers can be made of what is kept
is_parsable : (k : Kept) → IsKept k → IsParsable k.grammar
is_parsable k is = record { as_it_is = is.as_it_is; buildable = is.buildable; numbered = is.numbered }

pub all_parsable : (kept : List Kept) → All IsKept kept → All IsParsable (grammars_of kept)
all_parsable kept all =
    All-map IsParsable (λ (k : Kept). k.grammar) kept (All-weaker IsKept (λ (k : Kept). IsParsable k.grammar) is_parsable kept all)

-- with the core grammars that are kept
pub all_cores : (kept : List Kept) → All IsKept kept → map (λ (k : Kept). k.core) kept ≡ map CoreOf (grammars_of kept)
all_cores [] all = refl
all_cores (k ∷ kept) all =
    λ i. (All-head IsKept k kept all).core_is i ∷ all_cores kept (All-tail IsKept k kept all) i
