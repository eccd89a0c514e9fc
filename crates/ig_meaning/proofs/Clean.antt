-- A grammar without operators asks nothing of its trees.
use Rattle.std.proofs.Common.{◌≡◌, ℕ, ◌≤◌, List, [], ◌∷◌, map, refl, sym, ◌∙◌, ap, subst, arith, Some}
use Rattle.std.specs.Prelude.{slice_get, Contains, option_map}
use Rattle.std.proofs.lemmas.Option.{slice_get-map}
use Rattle.std.proofs.lemmas.List.{append-nil}
use Rattle.ig_text.specs.declared.tag.Tag.{Tag}
use Rattle.ig_text.specs.Tree.{Tree, Trees, Leaf, Node, none, more}
use Rattle.ig_text.proofs.Lists.{contains_from_at}
use Rattle.ig_text.proofs.Options.{mapped}
use Rattle.ig_grammar.specs.Numbering.{Levelled, by_level}
use Rattle.ig_meaning.specs.Operands.{left_bound, right_bound}
use Rattle.ig_meaning.specs.Clean.{Applies, IsClean, Clean, AllClean}
use Rattle.ig_meaning.specs.Laws.{HasNoOperators}
use Rattle.ig_grammar.specs.declared.symbol.Alt.{Alt}
use Rattle.ig_grammar.specs.declared.declaration.Assoc.TheVariants.{Free}
use Rattle.ig_grammar.specs.declared.declaration.Level.{Level}
use Rattle.ig_grammar.specs.declared.declaration.Decl.{Decl}
use Rattle.ig_grammar.specs.declared.grammar.Grammar.{Grammar}

-- the first level, neither `left` nor `right` nor `nonassoc`
abbrev pub IsPlain : Levelled → Type 0
IsPlain a = (a.level ≡ 1) × (a.assoc ≡ Free)

plain_at : (levels : List Level) → HasNoOperators levels → (k : ℕ) (a : Levelled) → slice_get (by_level levels) k ≡ Some a → IsPlain a
plain_at [] free k a h = absurd (cc)
plain_at (level ∷ next ∷ others) free k a h = absurd free
plain_at (level ∷ []) free k a h =
    let f : Alt → Levelled = λ x. record { alternative = x; level = 1; assoc = level.assoc } in
    let found : option_map f (slice_get level.alts k) ≡ Some a =
    sym (slice_get-map f level.alts k) ∙ ap (λ xs. slice_get xs k) (sym (append-nil (map f level.alts))) ∙ h in
    let from = mapped f (slice_get level.alts k) a found in
    subst IsPlain (sym from.2) (refl, free)

module _ (g : Grammar) (free : (decl : Decl) → Contains g.decls decl → HasNoOperators decl.levels) where
  plain_alternative : (tag : Tag) (decl : Decl) (a : Levelled) → Applies g tag decl a → IsPlain a
  plain_alternative tag decl a applies =
      plain_at decl.levels (free decl (contains_from_at g.decls applies.declaration.0 decl applies.declaration.2)) applies.numbered.0 a applies.numbered.2

  no_left_bound : (a b : Levelled) → IsPlain a → IsPlain b → left_bound a ≤ b.level
  no_left_bound a b p q = rw (p.0, p.1, q.0) (omega arith)

  no_right_bound : (a b : Levelled) → IsPlain a → IsPlain b → right_bound a ≤ b.level
  no_right_bound a b p q = rw (p.0, p.1, q.0) (omega arith)

  clean_node : (tag : Tag) (children : Trees) → IsClean g tag children
  clean_node tag children =
      record {
        left = λ a b operand other low us first spine last.
            no_left_bound a b (plain_alternative tag first.decl a first.applies) (plain_alternative low last.decl b last.applies);
        right = λ a b operand other low us last spine first.
            no_right_bound a b (plain_alternative tag last.decl a last.applies) (plain_alternative low first.decl b first.applies);
      }

  mutual
    pub clean_tree : (t : Tree) → Clean g t
    clean_tree (Leaf i j) = tt
    clean_tree (Node tag i j children) = (clean_node tag children, clean_trees children)

    pub clean_trees : (ts : Trees) → AllClean g ts
    clean_trees none = tt
    clean_trees (more t ts) = (clean_tree t, clean_trees ts)
