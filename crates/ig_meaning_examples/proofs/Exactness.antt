-- Which trees are permitted, by computing them.
use Rattle.std.proofs.Common.{◌≡◌, ℕ, zero, suc, ◌<◌, ◌≤◌, List, [], ◌∷◌, length, refl, sym, subst, arith, Some, inl, inr}
use Rattle.std.specs.Prelude.{◌==◌, flat_map}
use Rattle.std.proofs.lemmas.Bool.Decides.{Decides-eqb}
use Rattle.ig_text.specs.Input.{Input}
use Rattle.ig_text.specs.declared.tag.Tag.TheVariants.{Root}
use Rattle.ig_text.specs.Tree.{Tree, Trees, Node, height, greatest_height}
use Rattle.ig_meaning_examples.specs.Matches.{MatchesAreKnown}
use Rattle.ig_grammar.specs.Symbol.{Symbol, gathered}
use Rattle.ig_meaning.specs.Environment.{Environment}
use Rattle.ig_grammar.specs.Numbering.{as_written}
use Rattle.ig_meaning.specs.Clean.{Clean}
use Rattle.ig_meaning.specs.Derivation.{Covers}
use Rattle.ig_meaning.specs.Permitted.{Permitted}
use Rattle.ig_grammar.specs.declared.declaration.DeclKind.{DeclKind}
use Rattle.ig_grammar.specs.declared.declaration.DeclKind.TheVariants.{Syntax}
use Rattle.ig_grammar.specs.declared.grammar.Grammar.{Grammar}
use Rattle.ig_grammar.specs.declared.place.Shape.{Shape}
use Rattle.ig_grammar.specs.Gathered.{listed_gathered}
use Rattle.ig_meaning_examples.specs.Exactly.{IsOneOf, PermitsExactly, Permits, input_of}
use Rattle.ig_meaning_examples.proofs.Choosing.{IsAmong, OfEach, each}
use Rattle.ig_meaning_examples.proofs.Members.{given, among_each, among_given, each_of_each, each_given}
use Rattle.ig_meaning_examples.proofs.Enumeration as all
use Rattle.ig_meaning_examples.proofs.Enumeration.{Covering, before}
use Rattle.ig_meaning_examples.proofs.EnumerationComplete.{covered_found}
use Rattle.ig_meaning_examples.proofs.Roots.{IsOnlyRoot, written_root, written_symbols}
use Rattle.ig_meaning_examples.proofs.CleanDeciding.{is_clean, clean_by, by_clean}
use Rattle.ig_meaning_examples.proofs.EnumerationSound.{IsCovering, sound_before, covered}

to_one : (ts : List Tree) (t : Tree) → IsAmong ts t → IsOneOf ts t
to_one [] t m = m
to_one (u ∷ us) t (inl e) = inl e
to_one (u ∷ us) t (inr m) = inr (to_one us t m)

from_one : (ts : List Tree) (t : Tree) → IsOneOf ts t → IsAmong ts t
from_one [] t m = m
from_one (u ∷ us) t (inl e) = inl e
from_one (u ∷ us) t (inr m) = inr (from_one us t m)

module _ (g : Grammar) (shapes : List Shape) (text : Input) (kind : DeclKind) (symbols : List Symbol) where
  abbrev whole_tree : Trees → Tree
  whole_tree ts = Node Root 0 (length text.characters) ts

  abbrev whole_trees : Covering → List Tree
  whole_trees r =
      given (r.end == length text.characters) (λ _. given (is_clean g (whole_tree r.trees)) (λ _. whole_tree r.trees ∷ []))

  -- the permitted trees of at most a height, where the root alternative has this kind and these symbols
  abbrev pub trees_up_to : ℕ → List Tree
  trees_up_to zero = []
  trees_up_to (suc n) = flat_map whole_trees (all.covered g shapes text (before g shapes text n) kind (gathered symbols) [] 0)

  abbrev IsLow : ℕ → Tree → Type 0
  IsLow most t = Permitted g shapes text t × (height t ≤ most)

  module _ (known : MatchesAreKnown) (root : IsOnlyRoot g shapes kind symbols) where
    permitted : (n : ℕ) (r : Covering) → IsCovering g shapes text (suc n) kind (gathered symbols) [] 0 r →
        r.end ≡ length text.characters → Clean g (whole_tree r.trees) → IsLow (suc n) (whole_tree r.trees)
    permitted n r covering end clean =
        let covers = subst (λ xs. Covers g shapes text kind xs [] 0 r.end r.trees r.after r.starts) (listed_gathered symbols) covering.0 in (
          record {
            kind = kind;
            symbols = symbols;
            children = r.trees;
            after = r.after;
            starts = r.starts;
            root = root.root;
            covered = subst (λ z. Covers g shapes text kind symbols [] 0 z r.trees r.after r.starts) end covers;
            whole = refl;
            clean = clean;
          },
          omega (arith, covering.1),
        )

    are_permitted : (most : ℕ) → OfEach (IsLow most) (trees_up_to most)
    are_permitted zero = tt
    are_permitted (suc n) =
        each_of_each (IsCovering g shapes text (suc n) kind (gathered symbols) [] 0) (IsLow (suc n)) whole_trees (all.covered g shapes text (before g shapes text n) kind (gathered symbols) [] 0) (covered known g shapes text n (before g shapes text n) (sound_before known g shapes text n) (gathered symbols) kind [] 0) (λ r covering.
        each_given (IsLow (suc n)) (r.end == length text.characters) _ (λ end.
        each_given (IsLow (suc n)) (is_clean g (whole_tree r.trees)) _ (λ clean.
        (permitted n r covering ((Decides-eqb r.end (length text.characters)).0 end) (clean_by g (whole_tree r.trees) clean), tt))))

    covered_is_found : (most : ℕ) (ts : Trees) (after : Environment) (ks : List ℕ) → height (whole_tree ts) ≤ most →
        Covers g shapes text kind symbols [] 0 (length text.characters) ts after ks → Clean g (whole_tree ts) →
        IsAmong (trees_up_to most) (whole_tree ts)
    covered_is_found zero ts after ks low covers clean = absurd (omega (arith, low))
    covered_is_found (suc n) ts after ks low covers clean =
        let r : Covering = record { end = length text.characters; trees = ts; after = after; starts = ks } in
        let lower : greatest_height ts < suc n = omega (arith, low) in
        among_each whole_trees (all.covered g shapes text (before g shapes text n) kind (gathered symbols) [] 0) r (whole_tree ts) (covered_found known g shapes text covers n lower)
        (among_given (length text.characters == length text.characters) _ (whole_tree ts) ((Decides-eqb (length text.characters) (length text.characters)).1 refl) (among_given (is_clean g (whole_tree ts)) _ (whole_tree ts) (by_clean g (whole_tree ts) clean) (inl refl)))

    is_found : (most : ℕ) (t : Tree) → IsLow most t → IsAmong (trees_up_to most) t
    is_found most t low =
        let p = low.0 in
        let is = root.only p.kind p.symbols p.root in
        let covered : Covers g shapes text kind symbols [] 0 (length text.characters) p.children p.after p.starts = subst (λ c. Covers g shapes text c symbols [] 0 (length text.characters) p.children p.after p.starts) is.0 (subst (λ xs. Covers g shapes text p.kind xs [] 0 (length text.characters) p.children p.after p.starts) is.1 p.covered) in
        subst (IsAmong (trees_up_to most)) (sym p.whole) (covered_is_found most p.children p.after p.starts (subst (λ u. height u ≤ most) p.whole low.1) covered (subst (Clean g) p.whole p.clean))

    -- the permitted trees are those that are computed
    pub exactly : (most : ℕ) (trees : List Tree) → trees_up_to most ≡ trees → PermitsExactly g shapes text most trees
    exactly most trees computed t = (
      λ low. to_one trees t (subst (λ us. IsAmong us t) computed (is_found most t low)),
      λ one. each (IsLow most) (trees_up_to most) t (are_permitted most) (subst (λ us. IsAmong us t) (sym computed) (from_one trees t one)),
    )

-- the permitted trees of at most a height, where each declaration stands for itself
abbrev pub written_trees : Grammar → List ℕ → Input → ℕ → List Tree
written_trees g start text most = trees_up_to g (as_written g) text Syntax (written_symbols g start) most

pub by_computing : (known : MatchesAreKnown) (g : Grammar) (start : List ℕ) → g.start ≡ Some start → (characters : List ℕ) (most : ℕ) (trees : List Tree) →
    written_trees g start (input_of g characters) most ≡ trees → Permits g characters most trees
by_computing known g start starts characters most trees computed =
    exactly g (as_written g) (input_of g characters) Syntax (written_symbols g start) known (written_root g start starts) most trees computed
