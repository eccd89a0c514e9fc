-- A page is made line by line.
use Rattle.std.proofs.Common.{◌≡◌, ℕ, ◌+◌, ◌≤◌, List, [], ◌∷◌, ◌++◌, length, Some, refl, sym, ap, ◌∙◌, subst, subst₂, arith}
use Rattle.std.proofs.lemmas.List.{append-nil, append_assoc, length_push}
use Rattle.ig_text.specs.Tree.{Tree}
use Rattle.ig_item.specs.declared.core_grammar.Nonterminal.{Nonterminal}
use Rattle.ig_forest_tables.specs.Forest.{Forest}
use Rattle.ig_forest.specs.Flat.{flat}
use Rattle.ig_forest.specs.Tags.{TagsAreNamed}
use Rattle.ig_forest_tables.specs.Unfold.{Unfold}
use Rattle.ig_forest.specs.declared.tree.Part.{Part}
use Rattle.ig_walker.specs.Listing.{Listing, GivesTree, IsOver}
use Rattle.ig_walker.specs.Listed.{Listed, HasGiven, IsListing}
use Rattle.ig_walker.specs.Laws.{ListingsGrow}
use Rattle.ig_command_answers.specs.Lines.{line_text, listing_text}
use Rattle.ig_command_answers.specs.Pages.{IsPageText}

-- the trees that a walker gave since it stood there, and their text
pub record Paged (first now : Listing) (core : List Nonterminal) (text : List ℕ) (k : ℕ) : Type 0 where
  pub trees : List Listed
  pub given : HasGiven first.last trees now
  pub forest : now.forest ≡ first.forest
  pub depth : now.depth ≡ first.depth
  pub count : length trees ≡ k
  pub text_is : text ≡ listing_text core trees

one_more : (core : List Nonterminal) (trees : List Listed) (x : Listed) →
    listing_text core trees ++ line_text core x ≡ listing_text core (trees ++ x ∷ [])
one_more core [] x = sym (append-nil (line_text core x))
one_more core (y ∷ ys) x =
    append_assoc (line_text core y) (listing_text core ys) (line_text core x) ∙
    ap (λ (z : List ℕ). line_text core y ++ z) (one_more core ys x)

module _ (grow : ListingsGrow) (first : Listing) (core : List Nonterminal) where
  pub paged_none : (text : List ℕ) → text ≡ [] → Paged first first core text 0
  paged_none text e =
      record { trees = []; given = grow.begins first; forest = refl; depth = refl; count = refl; text_is = e }

  pub paged_more : (now after : Listing) (parts : List Part) (text more : List ℕ) (k : ℕ) → Paged first now core text k →
      (g : GivesTree now parts after) →
      more ≡ text ++ line_text core (record { cursor = g.cursor; tree = g.tree }) → Paged first after core more (k + 1)
  paged_more now after parts text more k p g e =
      let x : Listed = record { cursor = g.cursor; tree = g.tree } in
      let long : length (p.trees ++ x ∷ []) ≡ length p.trees + 1 = length_push p.trees x in
      let count : length p.trees ≡ k = p.count in
      record {
        trees = p.trees ++ x ∷ [];
        given = grow.goes_on first.last p.trees now after parts g p.given;
        forest = ap (λ (z : Listing). z.forest) g.after_is ∙ p.forest;
        depth = ap (λ (z : Listing). z.depth) g.after_is ∙ p.depth;
        count = omega arith;
        text_is = e ∙ ap (λ (z : List ℕ). z ++ line_text core x) p.text_is ∙ one_more core p.trees x;
      }

  module _ (now : Listing) (text : List ℕ) (k count : ℕ) (p : Paged first now core text k) where
    moved : (n : ℕ) → IsListing now.forest now.depth first.last n p.trees → IsPageText first n core text
    moved n l =
        record {
          trees = p.trees;
          page = subst₂ (λ (f : Forest) (d : ℕ). IsListing f d first.last n p.trees) p.forest p.depth l;
          text_is = p.text_is;
        }

    pub page_over : (after : Listing) → IsOver now after → k ≤ count → IsPageText first count core text
    page_over after over few =
        let long : length p.trees ≡ k = p.count in
        moved count (grow.ends first.last p.trees now after count p.given over (omega arith))

    pub page_full : k ≡ count → IsPageText first count core text
    page_full full = subst (λ (n : ℕ). IsPageText first n core text) (p.count ∙ full) (moved (length p.trees) (grow.full first.last p.trees now p.given))

    -- the tags of the next tree
    pub next_named : ((d : ℕ) (cs : List ℕ) (t : Tree) → Unfold first.forest d cs t → TagsAreNamed core (flat t)) →
        (after : Listing) (parts : List Part) → GivesTree now parts after → TagsAreNamed core parts
    next_named named after parts g =
        subst (TagsAreNamed core) (sym g.flat_is)
        (named now.depth g.cursor g.tree (subst (λ (f : Forest). Unfold f now.depth g.cursor g.tree) p.forest g.unfolds))

pub last_given : (now after : Listing) (parts : List Part) → (g : GivesTree now parts after) → after.last ≡ Some g.cursor
last_given now after parts g = ap (λ (z : Listing). z.last) g.after_is
