-- A permitted tree is a root over the whole text.
use Rattle.std.proofs.Common.{◌≡◌, ℕ, List, length}
use Rattle.ig_text.specs.Input.{Input}
use Rattle.ig_text.specs.declared.tag.Tag.{Tag}
use Rattle.ig_text.specs.declared.tag.Tag.TheVariants.{Root}
use Rattle.ig_text.specs.Tree.{Trees, Node}
use Rattle.ig_meaning.specs.Permitted.{Permitted}
use Rattle.ig_grammar.specs.declared.grammar.Grammar.{Grammar}
use Rattle.ig_grammar.specs.declared.place.Shape.{Shape}

pub root_is_whole : (g : Grammar) (shapes : List Shape) (text : Input) (tag : Tag) (i j : ℕ) (children : Trees) →
    Permitted g shapes text (Node tag i j children) → (tag ≡ Root) × (i ≡ 0) × (j ≡ length text.characters)
root_is_whole g shapes text tag i j children permitted =
    let whole : Node tag i j children ≡ Node Root 0 (length text.characters) permitted.children = permitted.whole in
    (cc, cc, cc)
