-- The tests of a text are true exactly where what they look for is there.
use Rattle.std.proofs.Common.{◌≡◌, ◌↔◌, Bool, true, not, Some, ap}
use Rattle.std.specs.Bool.{Decides}
use Rattle.ig_expr.specs.Operations.{truth}
use Rattle.ig_expr.specs.Reading.{letters_of, are_equal}
use Rattle.ig_expr.specs.Matching.{matches_at, matches_before}
use Rattle.ig_expr.specs.Laws.{IsYes, TestsLookFor}
use Rattle.ig_expr.proofs.Spans.{same_decides, spells_decides}
use Rattle.ig_expr.proofs.Patterns.{not_begins, not_ends}

yes : {P : Type 0} (b : Bool) → Decides b P → IsYes (truth b) ↔ P
yes b d = (λ e. let is : b ≡ true = cc in d.0 is, λ p. ap truth (d.1 p))

pub tests_look_for : TestsLookFor
tests_look_for text names values here =
    record {
      same_text = λ s t. yes (are_equal (letters_of text s) (letters_of text t)) (same_decides text s t);
      same_word = λ s word. yes (are_equal (letters_of text s) (Some word)) (spells_decides text word s);
      free_before = λ p. yes (not (matches_before text p here)) (not_ends text p here);
      free_after = λ p. yes (not (matches_at text p here)) (not_begins text p here);
    }
