-- Alternatives of the grammar and of the one with layout in the open cover the same.
use Rattle.std.proofs.Common.{◌∙◌, ℕ, List, map, sym, ap, subst}
use Rattle.ig_text.specs.Input.{Input}
use Rattle.ig_grammar.specs.Symbol.{Symbol, Symbols, gathered, listed}
use Rattle.ig_grammar.specs.declared.declaration.DeclKind.{DeclKind}
use Rattle.ig_grammar.specs.declared.declaration.DeclKind.TheVariants.{Syntax, Plain}
use Rattle.ig_grammar.specs.declared.grammar.Grammar.{Grammar}
use Rattle.ig_grammar.specs.declared.place.Shape.{Shape}
use Rattle.ig_pass.specs.Rewriting.{within, rewritten, rewritten_symbols}
use Rattle.ig_lexical.proofs.Simulation as sim
use Rattle.ig_lexical.proofs.Alike.{IsLeaf, EachSymbol, no_pair, next_pair, alike_follows}
use Rattle.ig_lexical.proofs.Traversal.{ThroughoutSymbols, symbols_alike, turned}
use Rattle.ig_lexical.proofs.Instances.{Low, LowInstances}
use Rattle.ig_lexical.proofs.Leaves.{SameEnv, AnyStarts, fits_any}
use Rattle.ig_lexical.proofs.LayoutChain.{BecomesPlain}
use Rattle.ig_lexical.specs.Layout.{laid}
use Rattle.ig_lexical.proofs.Tight.{AnyName, IsTight, leaf_there}
use Rattle.ig_lexical.proofs.Kept.{SameLeaf, leaf_kept}
use Rattle.ig_lexical.proofs.Laying.{AnyEntry, Decides, laid_replaces}
use Rattle.ig_lexical.proofs.LayingBack.{AnyKind, AllPlain, back_replaces}
use Rattle.ig_grammar.specs.Regular.{IsNoMark}
use Rattle.ig_grammar.specs.Gathered.{listed_gathered}
use Rattle.ig_pass.specs.Gathered.{symbols_gathered}
use Rattle.ig_lexical.proofs.Unmarked.{admits}
use Rattle.ig_lexical.proofs.Sorting.{Sort, laid_sort, tight_sort}

-- symbols correspond each to each, so lists of them cover the same
module _ (g : Grammar) (shapes : List Shape) (h : Grammar) (forms : List Shape) (text : Input) (c d : DeclKind) (n : ℕ) (L : Symbol → Symbol → Type 0) where
  abbrev R : Symbol → Symbol → Type 0
  R = sim.Replaces g shapes h forms text SameEnv (Low n) AnyStarts c d

  abbrev Turned : Symbol → Symbol → Type 0
  Turned x y = R y x

  abbrev C : List Symbol → List Symbol → Type 0
  C = sim.CoversToo g shapes h forms text SameEnv (Low n) AnyStarts c d

  pub each_covers : (xs ys : Symbols) → EachSymbol L R (⊥) AnyEntry xs ys → C (listed xs) (listed ys)
  each_covers xs ys no_pair = sim.no_symbols_too g shapes h forms text SameEnv (Low n) AnyStarts c d (⊥) AnyEntry (fits_any text n)
  each_covers xs ys (next_pair x y us vs p ps) =
      sim.next_symbol_too g shapes h forms text SameEnv (Low n) AnyStarts c d (⊥) AnyEntry (fits_any text n) x y (listed us) (listed vs) p (each_covers us vs ps)

  pub each_covers_back : (xs ys : Symbols) → EachSymbol L Turned (⊥) AnyEntry xs ys → C (listed ys) (listed xs)
  each_covers_back xs ys no_pair = sim.no_symbols_too g shapes h forms text SameEnv (Low n) AnyStarts c d (⊥) AnyEntry (fits_any text n)
  each_covers_back xs ys (next_pair x y us vs p ps) =
      sim.next_symbol_too g shapes h forms text SameEnv (Low n) AnyStarts c d (⊥) AnyEntry (fits_any text n) y x (listed vs) (listed us) p (each_covers_back us vs ps)

  pub covers_listed : (own : Symbol → Symbol) (xs : List Symbol) → EachSymbol L R (⊥) AnyEntry (gathered xs) (rewritten_symbols own (gathered xs)) → C xs (map (rewritten own) xs)
  covers_listed own xs each =
      subst (λ ys. C ys (map (rewritten own) xs)) (listed_gathered xs)
      (subst (λ ys. C (listed (gathered xs)) ys) (ap listed (sym (symbols_gathered own xs)) ∙ listed_gathered (map (rewritten own) xs))
      (each_covers (gathered xs) (rewritten_symbols own (gathered xs)) each))

  pub covers_listed_back : (own : Symbol → Symbol) (xs : List Symbol) → EachSymbol L Turned (⊥) AnyEntry (gathered xs) (rewritten_symbols own (gathered xs)) → C (map (rewritten own) xs) xs
  covers_listed_back own xs each =
      subst (λ ys. C (map (rewritten own) xs) ys) (listed_gathered xs)
      (subst (λ ys. C ys (listed (gathered xs))) (ap listed (sym (symbols_gathered own xs)) ∙ listed_gathered (map (rewritten own) xs))
      (each_covers_back (gathered xs) (rewritten_symbols own (gathered xs)) each))

module _ (g : Grammar) (shapes : List Shape) (h : Grammar) (forms : List Shape) (text : Input) (decides : Decides g shapes h forms text)
    (there : IsTight h forms text Plain) (n : ℕ) where
  pub forward_covers : LowInstances g shapes h forms text SameEnv AnyStarts BecomesPlain AnyName n → (c : DeclKind) (own : Symbol → Symbol) → Sort g shapes text c own →
      (xs : List Symbol) → ThroughoutSymbols IsNoMark (gathered xs) → sim.CoversToo g shapes h forms text SameEnv (Low n) AnyStarts c Plain xs (map (rewritten own) xs)
  forward_covers known c own (laid_sort w declared) xs q =
      covers_listed g shapes h forms text Syntax Plain n SameLeaf (laid g.decls w) xs
      (symbols_alike (laid g.decls w) IsNoMark (⊥) AnyEntry SameLeaf (R g shapes h forms text Syntax Plain n SameLeaf) admits (λ x l q. leaf_kept x l)
      (λ x q a. laid_replaces g shapes h forms text decides w declared there n known x (within (laid g.decls w) x) a) (gathered xs) q)
  forward_covers known c own (tight_sort _ here) xs q =
      let F : Symbol → Symbol → Type 0 = sim.Follows g shapes h forms text SameEnv (Low n) AnyStarts c Plain in
      let P : Symbol → Symbol → Type 0 = sim.Replaces g shapes h forms text SameEnv (Low n) AnyStarts c Plain in
      covers_listed g shapes h forms text c Plain n F (λ x. x) xs
      (symbols_alike (λ x. x) IsNoMark (⊥) AnyEntry F P admits (λ x l q. leaf_there g shapes h forms text c Plain here there BecomesPlain n known x l)
      (λ x q a. sim.followed g shapes h forms text SameEnv (Low n) AnyStarts c Plain x (within (λ x. x) x)
      (alike_follows g shapes h forms text SameEnv (Low n) AnyStarts c Plain (⊥) AnyEntry (fits_any text n) F P (λ x y l f. f) (λ x y f. f) x (within (λ x. x) x) a)) (gathered xs) q)

  pub backward_covers : AllPlain h forms text → LowInstances h forms g shapes text SameEnv AnyStarts AnyKind AnyName n → (c : DeclKind) (own : Symbol → Symbol) → Sort g shapes text c own →
      (xs : List Symbol) → ThroughoutSymbols IsNoMark (gathered xs) → sim.CoversToo h forms g shapes text SameEnv (Low n) AnyStarts Plain c (map (rewritten own) xs) xs
  backward_covers plain known c own (laid_sort w declared) xs q =
      covers_listed_back h forms g shapes text Plain Syntax n SameLeaf (laid g.decls w) xs
      (symbols_alike (laid g.decls w) IsNoMark (⊥) AnyEntry SameLeaf (Turned h forms g shapes text Plain Syntax n SameLeaf) admits (λ x l q. leaf_kept x l)
      (λ x q a. back_replaces g shapes h forms text decides w declared there plain n known x (within (laid g.decls w) x) a) (gathered xs) q)
  backward_covers plain known c own (tight_sort _ here) xs q =
      let F : Symbol → Symbol → Type 0 = sim.Follows h forms g shapes text SameEnv (Low n) AnyStarts Plain c in
      let P : Symbol → Symbol → Type 0 = sim.Replaces h forms g shapes text SameEnv (Low n) AnyStarts Plain c in
      let L2 : Symbol → Symbol → Type 0 = λ x y. (IsLeaf x → IsLeaf y) × sim.Follows h forms g shapes text SameEnv (Low n) AnyStarts Plain c y x in
      let P2 : Symbol → Symbol → Type 0 = λ x y. sim.Replaces h forms g shapes text SameEnv (Low n) AnyStarts Plain c y x in
      let weaker : (x y : Symbol) → L2 x y → F y x = λ x y l. l.1 in
      let on_leaf : (x y : Symbol) → L2 x y → IsLeaf x → IsLeaf y = λ x y l. l.0 in
      let turns : (x y : Symbol) → P2 x y → P y x = λ x y f. f in
      covers_listed_back h forms g shapes text Plain c n L2 (λ x. x) xs
      (symbols_alike (λ x. x) IsNoMark (⊥) AnyEntry L2 P2 admits (λ x l q. ((λ i. i), leaf_there h forms g shapes text Plain c there here AnyKind n known x l))
      (λ x q a. sim.followed h forms g shapes text SameEnv (Low n) AnyStarts Plain c (within (λ x. x) x) x
      (alike_follows h forms g shapes text SameEnv (Low n) AnyStarts Plain c (⊥) AnyEntry (fits_any text n) F P (λ x y l f. f) (λ x y f. f) (within (λ x. x) x) x
      (turned L2 P2 F P (⊥) AnyEntry weaker on_leaf turns x (within (λ x. x) x) a))) (gathered xs) q)
