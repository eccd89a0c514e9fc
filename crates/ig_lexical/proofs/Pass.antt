-- A pass that rewrites symbols, and keeps kinds, parameters, levels and environments, permits the same trees, where its own
-- rule derives the same within one grammar.
use Rattle.std.proofs.Common.{◌≡◌, ◌∙◌, ℕ, ◌+◌, ◌≤◌, List, [], ◌∷◌, Some, refl, sym, ap, subst, arith, length, map}
use Rattle.std.specs.Prelude.{◌↔◌, slice_get, Contains}
use Rattle.std.proofs.lemmas.List.{length-map, map-append}
use Rattle.ig_text.specs.Input.{Input}
use Rattle.ig_text.specs.Tree.{Tree, Trees, greatest_height}
use Rattle.ig_grammar.specs.Symbol.{Symbol, Call, gathered, listed}
use Rattle.ig_meaning.specs.Environment.{Environment}
use Rattle.ig_meaning.specs.Laws.{HasNoOperators, TreesWithoutOperatorsAreClean}
use Rattle.ig_grammar.specs.Numbering.{Levelled, by_level, Declares, IsAlternative, layout_among, name_of_layout}
use Rattle.ig_meaning.specs.Permitted.{IsRootAlternative, written, declared, Permitted}
use Rattle.ig_meaning.specs.Derivation.{Covers, Derives}
use Rattle.ig_grammar.specs.declared.symbol.Alt.{Alt}
use Rattle.ig_grammar.specs.declared.declaration.DeclKind.{DeclKind}
use Rattle.ig_grammar.specs.declared.declaration.Level.{Level}
use Rattle.ig_grammar.specs.declared.declaration.Decl.{Decl}
use Rattle.ig_grammar.specs.declared.grammar.Grammar.{Grammar}
use Rattle.ig_grammar.specs.declared.place.Shape.{Shape}
use Rattle.ig_grammar.specs.declared.place.Shape.TheVariants as shape
use Rattle.ig_pass.specs.Rewriting.{within, rewritten, rewritten_symbols, rewritten_alternative, rewritten_level, rewritten_declaration, rewritten_grammar}
use Rattle.ig_lexical.proofs.Simulation as sim
use Rattle.ig_lexical.proofs.Alike.{IsLeaf, each_too, alike_follows}
use Rattle.ig_lexical.proofs.Traversal.{Throughout, ThroughoutSymbols, Admits, symbols_alike, turned, turned_each}
use Rattle.ig_lexical.proofs.Instances.{Low, LowInstances, AlternativeToo, low_instances}
use Rattle.ig_lexical.proofs.Leaves.{SameEnv, SameStarts, SameKind, IsCallOf, fits_same, leaf_follows}
use Rattle.ig_text.proofs.Lists.{contains_from_at, at_from_contains, mapped_at, from_map}
use Rattle.ig_grammar.specs.Gathered.{listed_gathered}
use Rattle.ig_pass.specs.Gathered.{symbols_gathered}

map_crossed : {X Y V W : Type 0} (f : X → Y) (r : Y → W) (s : X → V) (t : V → W) → ((x : X) → r (f x) ≡ t (s x)) → (xs : List X) → map r (map f xs) ≡ map t (map s xs)
map_crossed f r s t e [] = refl
map_crossed f r s t e (x ∷ xs) = rw (e x, map_crossed f r s t e xs) refl

module _ (own : Symbol → Symbol) where
  abbrev pub rewritten_by_level : Levelled → Levelled
  rewritten_by_level a = record { alternative = rewritten_alternative own a.alternative; level = a.level; assoc = a.assoc }

  pub levels_rewritten : (levels : List Level) → by_level (map (rewritten_level own) levels) ≡ map rewritten_by_level (by_level levels)
  levels_rewritten [] = refl
  levels_rewritten (level ∷ others) =
      let f : Alt → Levelled = λ a. record { alternative = a; level = length others + 1; assoc = level.assoc } in
      (rw (
        length-map others (rewritten_level own),
        levels_rewritten others,
        map_crossed (rewritten_alternative own) f f rewritten_by_level (λ a. refl) level.alts,
      ) refl) ∙
      sym (map-append rewritten_by_level (map f level.alts) (by_level others))

  pub free_rewritten : (levels : List Level) → HasNoOperators levels → HasNoOperators (map (rewritten_level own) levels)
  free_rewritten [] f = tt
  free_rewritten (level ∷ []) f = f
  free_rewritten (level ∷ next ∷ others) f = absurd f

pub layout_rewritten : (own : Decl → Symbol → Symbol) (decls : List Decl) → layout_among decls ≡ layout_among (map (rewritten_declaration own) decls)
layout_rewritten own [] = refl
layout_rewritten own (d ∷ ds) = ap (name_of_layout d.kind d.name) (layout_rewritten own ds)

module _ (own : Decl → Symbol → Symbol) (g : Grammar) (shapes : List Shape) (N : Symbol → Type 0) where
  abbrev h : Grammar
  h = rewritten_grammar own g

  -- the pass's own rule, within the rewritten grammar, at each symbol in a declaration of g
  pub record OwnRule (text : Input) : Type 0 where
    pub to : (decl : Decl) (x : Symbol) (env after : Environment) (i e j : ℕ) (ts : Trees) (starts : List ℕ) → Contains g.decls decl → Throughout N x →
        Derives h shapes text decl.kind (within (own decl) x) env i e j ts after starts → (f : ℕ) × Derives h shapes text decl.kind (rewritten (own decl) x) env i f j ts after starts
    pub from : (decl : Decl) (x : Symbol) (env after : Environment) (i e j : ℕ) (ts : Trees) (starts : List ℕ) → Contains g.decls decl → Throughout N x →
        Derives h shapes text decl.kind (rewritten (own decl) x) env i e j ts after starts → (f : ℕ) × Derives h shapes text decl.kind (within (own decl) x) env i f j ts after starts

  module _ (text : Input) (rule : OwnRule text)
      (everywhere : (decl : Decl) (k : ℕ) (a : Levelled) → Contains g.decls decl → IsAlternative decl k a → ThroughoutSymbols N (gathered a.alternative.symbols)) where
    admits : Admits N (Unit {0}) (λ bs. Unit {0})
    admits = record { offside = λ x q. tt; ignore = λ x q. tt; align = λ x q. tt; entry = λ bs x q. tt }

    called : (x : Symbol) → IsCallOf (λ name. Unit {0}) x
    called x = go x
      where
        go : (x : Symbol) → IsCallOf (λ name. Unit {0}) x
        go (Call name arguments) = tt
        go x = tt

    -- from the grammar to the rewritten one
    module _ (n : ℕ) (known : LowInstances g shapes h shapes text SameEnv SameStarts SameKind (λ name. Unit {0}) n) (decl : Decl) (among : Contains g.decls decl) where
      along : (x : Symbol) → Throughout N x → sim.Follows g shapes h shapes text SameEnv (Low n) SameStarts decl.kind decl.kind x (within (own decl) x) →
          sim.Replaces g shapes h shapes text SameEnv (Low n) SameStarts decl.kind decl.kind x (rewritten (own decl) x)
      along x q f env other after i e j ts starts m low derived =
          let r = f env other after i e j ts starts m low derived in
          let s = rule.to decl x other r.later i e j ts r.exposes among q r.derives in
          (s.0, record { later = r.later; exposes = r.exposes; derives = s.1; meets = r.meets; gains = r.gains })

      pub forward_covers : (xs : List Symbol) → ThroughoutSymbols N (gathered xs) →
          sim.CoversToo g shapes h shapes text SameEnv (Low n) SameStarts decl.kind decl.kind xs (map (rewritten (own decl)) xs)
      forward_covers xs q =
          let L : Symbol → Symbol → Type 0 = sim.Follows g shapes h shapes text SameEnv (Low n) SameStarts decl.kind decl.kind in
          let P : Symbol → Symbol → Type 0 = sim.Replaces g shapes h shapes text SameEnv (Low n) SameStarts decl.kind decl.kind in
          let leaves : (x y : Symbol) → IsLeaf x → L x y → L x y = λ x y l f. f in
          let parts : (x y : Symbol) → P x y → P x y = λ x y f. f in
          let each = symbols_alike (own decl) N (Unit {0}) (λ bs. Unit {0}) L P admits
          (λ x l q. leaf_follows g shapes h shapes text SameStarts (λ ks ts. refl) (λ ks ms ts us e. e) (λ name. Unit {0}) (layout_rewritten own g.decls) (λ name e. tt) n known decl.kind x l (called x))
          (λ x q a. along x q (alike_follows g shapes h shapes text SameEnv (Low n) SameStarts decl.kind decl.kind (Unit {0}) (λ bs. Unit {0}) (fits_same text n) L P leaves parts x (within (own decl) x) a))
          (gathered xs) q in
          let too = each_too g shapes h shapes text SameEnv (Low n) SameStarts decl.kind decl.kind (Unit {0}) (λ bs. Unit {0}) (fits_same text n) L P leaves parts
          (gathered xs) (rewritten_symbols (own decl) (gathered xs)) each in
          let C : List Symbol → List Symbol → Type 0 = sim.CoversToo g shapes h shapes text SameEnv (Low n) SameStarts decl.kind decl.kind in
          subst (λ ys. C ys (map (rewritten (own decl)) xs)) (listed_gathered xs)
          (subst (λ ys. C (listed (gathered xs)) ys) (ap listed (sym (symbols_gathered (own decl) xs)) ∙ listed_gathered (map (rewritten (own decl)) xs)) too)

    -- and back
    module _ (n : ℕ) (known : LowInstances h shapes g shapes text SameEnv SameStarts SameKind (λ name. Unit {0}) n) (decl : Decl) (among : Contains g.decls decl) where
      against : (x : Symbol) → Throughout N x → sim.Follows h shapes g shapes text SameEnv (Low n) SameStarts decl.kind decl.kind (within (own decl) x) x →
          sim.Replaces h shapes g shapes text SameEnv (Low n) SameStarts decl.kind decl.kind (rewritten (own decl) x) x
      against x q f env other after i e j ts starts m low derived =
          let s = rule.from decl x env after i e j ts starts among q derived in
          (s.0, f env other after i s.0 j ts starts m low s.1)

      pub backward_covers : (xs : List Symbol) → ThroughoutSymbols N (gathered xs) →
          sim.CoversToo h shapes g shapes text SameEnv (Low n) SameStarts decl.kind decl.kind (map (rewritten (own decl)) xs) xs
      backward_covers xs q =
          let L : Symbol → Symbol → Type 0 = sim.Follows h shapes g shapes text SameEnv (Low n) SameStarts decl.kind decl.kind in
          let P : Symbol → Symbol → Type 0 = sim.Replaces h shapes g shapes text SameEnv (Low n) SameStarts decl.kind decl.kind in
          let L2 : Symbol → Symbol → Type 0 = λ x y. (IsLeaf x → IsLeaf y) × sim.Follows h shapes g shapes text SameEnv (Low n) SameStarts decl.kind decl.kind y x in
          let P2 : Symbol → Symbol → Type 0 = λ x y. sim.Replaces h shapes g shapes text SameEnv (Low n) SameStarts decl.kind decl.kind y x in
          let leaves : (x y : Symbol) → IsLeaf x → L x y → L x y = λ x y l f. f in
          let parts : (x y : Symbol) → P x y → P x y = λ x y f. f in
          let weaker : (x y : Symbol) → L2 x y → L y x = λ x y l. l.1 in
          let on_leaf : (x y : Symbol) → L2 x y → IsLeaf x → IsLeaf y = λ x y l. l.0 in
          let turns : (x y : Symbol) → P2 x y → P y x = λ x y f. f in
          let each = symbols_alike (own decl) N (Unit {0}) (λ bs. Unit {0}) L2 P2 admits
          (λ x l q. ((λ i. i), leaf_follows h shapes g shapes text SameStarts (λ ks ts. refl) (λ ks ms ts us e. e) (λ name. Unit {0}) (sym (layout_rewritten own g.decls)) (λ name e. tt) n known decl.kind x l (called x)))
          (λ x q a. against x q (alike_follows h shapes g shapes text SameEnv (Low n) SameStarts decl.kind decl.kind (Unit {0}) (λ bs. Unit {0}) (fits_same text n) L P leaves parts (within (own decl) x) x
          (turned L2 P2 L P (Unit {0}) (λ bs. Unit {0}) weaker on_leaf turns x (within (own decl) x) a)))
          (gathered xs) q in
          let too = each_too h shapes g shapes text SameEnv (Low n) SameStarts decl.kind decl.kind (Unit {0}) (λ bs. Unit {0}) (fits_same text n) L P leaves parts
          (rewritten_symbols (own decl) (gathered xs)) (gathered xs) (turned_each L2 P2 L P (Unit {0}) (λ bs. Unit {0}) weaker on_leaf turns (gathered xs) (rewritten_symbols (own decl) (gathered xs)) each) in
          let C : List Symbol → List Symbol → Type 0 = sim.CoversToo h shapes g shapes text SameEnv (Low n) SameStarts decl.kind decl.kind in
          subst (λ ys. C (map (rewritten (own decl)) xs) ys) (listed_gathered xs)
          (subst (λ ys. C ys (listed (gathered xs))) (ap listed (sym (symbols_gathered (own decl) xs)) ∙ listed_gathered (map (rewritten (own decl)) xs)) too)

    there : (name : List ℕ) (d : ℕ) (decl : Decl) (s : Shape) → Declares g shapes name d decl s → Declares h shapes name d (rewritten_declaration own decl) s
    there name d decl s a =
        record { numbered = (a.numbered.0, a.numbered.1, mapped_at (rewritten_declaration own) g.decls a.numbered.0 decl a.numbered.2); shaped = a.shaped; named = a.named }

    numbered_there : (decl : Decl) (k : ℕ) (a : Levelled) → IsAlternative decl k a → IsAlternative (rewritten_declaration own decl) k (rewritten_by_level (own decl) a)
    numbered_there decl k a n =
        (n.0, n.1, ap (λ xs. slice_get xs n.0) (levels_rewritten (own decl) decl.levels) ∙ mapped_at (rewritten_by_level (own decl)) (by_level decl.levels) n.0 a n.2)

    numbered_here : (decl : Decl) (k : ℕ) (b : Levelled) → IsAlternative (rewritten_declaration own decl) k b → (a : Levelled) × IsAlternative decl k a × (b ≡ rewritten_by_level (own decl) a)
    numbered_here decl k b n =
        let r = from_map (rewritten_by_level (own decl)) (by_level decl.levels) n.0 b (ap (λ xs. slice_get xs n.0) (sym (levels_rewritten (own decl) decl.levels)) ∙ n.2) in
        (r.0, (n.0, n.1, r.1), r.2)

    forward : (n : ℕ) → LowInstances g shapes h shapes text SameEnv SameStarts SameKind (λ name. Unit {0}) n
    forward = low_instances g shapes h shapes text SameEnv SameStarts SameKind (λ name. Unit {0}) (λ t i j ks ms ts e. e)
        (λ n known name d decl s k a named declares numbered.
        let among = contains_from_at g.decls declares.numbered.0 decl declares.numbered.2 in
        record {
          other = rewritten_declaration own decl;
          by = rewritten_by_level (own decl) a;
          declares = there name d decl s declares;
          numbered = numbered_there decl k a numbered;
          kinds = refl;
          binds = λ vs env bound. (env, bound, refl);
          covers = forward_covers n known decl among a.alternative.symbols (everywhere decl k a among numbered);
        })

    -- the alternative of a rewritten declaration is a rewritten alternative
    backward_one : (n : ℕ) → LowInstances h shapes g shapes text SameEnv SameStarts SameKind (λ name. Unit {0}) n →
        (name : List ℕ) (d : ℕ) (other : Decl) (s : Shape) (k : ℕ) (b : Levelled) → Declares h shapes name d other s → IsAlternative other k b →
        AlternativeToo h shapes g shapes text SameEnv SameStarts SameKind (λ name. Unit {0}) n name d other s k b
    backward_one n known name d other s k b declares numbered =
        let r = from_map (rewritten_declaration own) g.decls declares.numbered.0 other declares.numbered.2 in
        let among = contains_from_at g.decls declares.numbered.0 r.0 r.1 in
        let p = numbered_here r.0 k b (subst (λ z. IsAlternative z k b) r.2 numbered) in
        subst (λ z. AlternativeToo h shapes g shapes text SameEnv SameStarts SameKind (λ name. Unit {0}) n name d z s k b) (sym r.2)
        (subst (λ z. AlternativeToo h shapes g shapes text SameEnv SameStarts SameKind (λ name. Unit {0}) n name d (rewritten_declaration own r.0) s k z) (sym p.2)
        (record {
          other = r.0;
          by = p.0;
          declares = record { numbered = (declares.numbered.0, declares.numbered.1, r.1); shaped = declares.shaped; named = ap (λ z. z.name) (sym r.2) ∙ declares.named };
          numbered = p.1;
          kinds = refl;
          binds = λ vs env bound. (env, bound, refl);
          covers = backward_covers n known r.0 among p.0.alternative.symbols (everywhere r.0 k p.0 among p.1);
        }))

    backward : (n : ℕ) → LowInstances h shapes g shapes text SameEnv SameStarts SameKind (λ name. Unit {0}) n
    backward = low_instances h shapes g shapes text SameEnv SameStarts SameKind (λ name. Unit {0}) (λ t i j ks ms ts e. e)
        (λ n known name d other s k b named declares numbered. backward_one n known name d other s k b declares numbered)

    -- of a grammar whose start stands for the root
    module _ (cleans : TreesWithoutOperatorsAreClean) (free : (decl : Decl) → Contains g.decls decl → HasNoOperators decl.levels)
        (root : (start : List ℕ) → g.start ≡ Some start → (d : ℕ) × (decl : Decl) × Declares g shapes start d decl shape.Root) where
      free_there : (other : Decl) → Contains h.decls other → HasNoOperators other.levels
      free_there other m =
          let at = at_from_contains h.decls other m in let r = from_map (rewritten_declaration own) g.decls at.0 other at.1 in
          subst (λ z. HasNoOperators z.levels) (sym r.2) (free_rewritten (own r.0) r.0.levels (free r.0 (contains_from_at g.decls at.0 r.0 r.1)))

      permitted_there : (t : Tree) → Permitted g shapes text t → Permitted h shapes text t
      permitted_there t p = go p.kind p.symbols p.root p.covered
        where
          go : (kind : DeclKind) (xs : List Symbol) → IsRootAlternative g shapes kind xs → Covers g shapes text kind xs [] 0 (length text.characters) p.children p.after p.starts → Permitted h shapes text t
          go kind xs (written start _ started unrooted same) covered = let r = root start started in absurd (unrooted r.0 r.1 r.2)
          go kind xs (declared start d decl a _ _ started declares numbered same symbols) covered =
              let n = greatest_height p.children in
              let low : greatest_height p.children ≤ n = omega arith in
              let among = contains_from_at g.decls declares.numbered.0 decl declares.numbered.2 in
              let r = forward_covers n (forward n) decl among a.alternative.symbols (everywhere decl 1 a among numbered)
              [] [] p.after 0 (length text.characters) p.children p.starts refl low
              (subst (λ c. Covers g shapes text c a.alternative.symbols [] 0 (length text.characters) p.children p.after p.starts) same
              (subst (λ ys. Covers g shapes text kind ys [] 0 (length text.characters) p.children p.after p.starts) symbols covered)) in
              record {
                kind = decl.kind;
                symbols = map (rewritten (own decl)) a.alternative.symbols;
                children = p.children;
                after = r.later;
                starts = r.exposes;
                root = declared start d (rewritten_declaration own decl) (rewritten_by_level (own decl) a) decl.kind (map (rewritten (own decl)) a.alternative.symbols) started
                    (there start d decl shape.Root declares) (numbered_there decl 1 a numbered) refl refl;
                covered = r.covers;
                whole = p.whole;
                clean = cleans h free_there t;
              }

      permitted_here : (t : Tree) → Permitted h shapes text t → Permitted g shapes text t
      permitted_here t p = go p.kind p.symbols p.root p.covered
        where
          go : (kind : DeclKind) (xs : List Symbol) → IsRootAlternative h shapes kind xs → Covers h shapes text kind xs [] 0 (length text.characters) p.children p.after p.starts → Permitted g shapes text t
          go kind xs (written start _ started unrooted same) covered =
              let r = root start started in absurd (unrooted r.0 (rewritten_declaration own r.1) (there start r.0 r.1 shape.Root r.2))
          go kind xs (declared start d other b _ _ started declares numbered same symbols) covered =
              let n = greatest_height p.children in
              let low : greatest_height p.children ≤ n = omega arith in
              let too = backward_one n (backward n) start d other shape.Root 1 b declares numbered in
              let r = too.covers [] [] p.after 0 (length text.characters) p.children p.starts refl low
              (subst (λ c. Covers h shapes text c b.alternative.symbols [] 0 (length text.characters) p.children p.after p.starts) same
              (subst (λ ys. Covers h shapes text kind ys [] 0 (length text.characters) p.children p.after p.starts) symbols covered)) in
              record {
                kind = too.other.kind;
                symbols = too.by.alternative.symbols;
                children = p.children;
                after = r.later;
                starts = r.exposes;
                root = declared start d too.other too.by too.other.kind too.by.alternative.symbols started too.declares too.numbered refl refl;
                covered = r.covers;
                whole = p.whole;
                clean = cleans g free t;
              }

      pub rewritten_permits : (t : Tree) → Permitted g shapes text t ↔ Permitted h shapes text t
      rewritten_permits t = (permitted_there t, permitted_here t)
