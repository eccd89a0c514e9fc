-- The line of a load.
use Rattle.std.specs.Prelude.{List, ℕ, ◌++◌, Bool, true, false, codes}
use Rattle.std.specs.Fmt.{decimal}
use Rattle.ig_load.specs.declared.summary.Summary.{Summary}

abbrev pub answer_text : Bool → List ℕ
answer_text true = codes "yes"
answer_text false = codes "no"

-- `items A nodes B ambiguous YES cyclic YES`
abbrev pub summary_text : Summary → List ℕ
summary_text summary =
    codes "items " ++ (decimal summary.items ++
    (codes " nodes " ++ (decimal summary.nodes ++
    (codes " ambiguous " ++ (answer_text summary.ambiguous ++
    (codes " cyclic " ++ (answer_text summary.cyclic ++ codes "\n")))))))
