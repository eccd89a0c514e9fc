-- The next walk is that of the next tree.
use Rattle.std.proofs.Common.{◌≡◌, ℕ, List, [], ◌∷◌, ◌⊎◌, inl, inr, sym, ap, ◌∙◌, subst}
use Rattle.ig_text.specs.Tree.{Tree}
use Rattle.ig_forest_tables.specs.Forest.{Forest}
use Rattle.ig_forest_tables.specs.Unfold.{OfNode, Unfold}
use Rattle.ig_forest.specs.Flat.{flat}
use Rattle.ig_forest.specs.Cursors.{Less}
use Rattle.ig_walker.specs.Walks.{Walk, cursor, Next, Last}
use Rattle.ig_walker.specs.Options.{options}
use Rattle.ig_walker.specs.Written.{emits}
use Rattle.ig_forest.specs.declared.tree.Part.{Part}
use Rattle.ig_walker.specs.declared.goal.Goal.{Goal}
use Rattle.ig_walker.specs.declared.goal.Goal.TheVariants.{Node}
use Rattle.ig_walker.specs.declared.goal.Visit.{Visit}
use Rattle.ig_walker.proofs.Unfolding.{node_walk}
use Rattle.ig_walker.proofs.Back.{tree_of}
use Rattle.ig_walker.proofs.Cursors.{before_of, cursor_less, one_walk}

module _ (f : Forest) where
  abbrev opts : Goal → List (List Goal)
  opts = options f

  -- the tree of the least cursor after this one, with its cursor and its parts
  pub record NextTree (d : ℕ) (cs ds : List ℕ) (parts : List Part) : Type 0 where
    pub t : Tree
    pub here : Unfold f d ds t
    pub flat_is : parts ≡ flat t
    pub after : Less cs ds
    pub least : (es : List ℕ) (u : Tree) → Unfold f d es u → Less cs es → (es ≡ ds) ⊎ Less ds es

  pub next_tree : (d : ℕ) (vs ws : List Visit) → Walk opts (Node f.root d ∷ []) vs → Next opts (Node f.root d ∷ []) vs ws →
      NextTree d (cursor opts vs) (cursor opts ws) (emits f [] ws)
  next_tree d vs ws walk n =
      let h = tree_of f f.root d ws n.walk in
      record {
        t = h.t;
        here = h.here;
        flat_is = h.writes [];
        after = cursor_less opts n.after n.walk;
        least = λ es u tree less.
            let k = node_walk f tree in
            let b = before_of opts vs k.vs walk k.walk (subst (λ (z : List ℕ). Less (cursor opts vs) z) (sym k.told) less) in
            elim (n.least k.vs k.walk b) [
              | inl e ↦ inl (sym k.told ∙ ap (cursor opts) e)
              | inr o ↦ inr (subst (λ (z : List ℕ). Less (cursor opts ws) z) k.told (cursor_less opts o k.walk))
            ];
      }

  pub no_next : (d : ℕ) (vs : List Visit) → Walk opts (Node f.root d ∷ []) vs → Last opts (Node f.root d ∷ []) vs →
      (es : List ℕ) (u : Tree) → Unfold f d es u → Less (cursor opts vs) es → ⊥
  no_next d vs walk last es u tree less =
      let k = node_walk f tree in
      last k.vs k.walk (before_of opts vs k.vs walk k.walk (subst (λ (z : List ℕ). Less (cursor opts vs) z) (sym k.told) less))

  -- a cursor has one tree
  pub one_tree : (v d : ℕ) (cs : List ℕ) (t u : Tree) → OfNode f v d cs t → OfNode f v d cs u → flat t ≡ flat u
  one_tree v d cs t u a b =
      let h = node_walk f a in let k = node_walk f b in
      sym (h.writes []) ∙ ap (λ (z : List Visit). emits f [] z) (one_walk opts h.vs k.vs h.walk k.walk (h.told ∙ sym k.told)) ∙ k.writes []
