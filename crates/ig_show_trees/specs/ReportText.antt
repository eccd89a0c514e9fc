-- How a report prints, as UTF-8: `line L, column C, expected LIST`.
use Rattle.std.specs.Prelude.{◌≡◌, ◌↔◌, ℕ, List, [], ◌∷◌, ◌++◌, Bool, true, false, Contains, flat_map, codes}
use Rattle.std.specs.Cmp.Lexicographic.{slice_cmp}
use Rattle.std.specs.Fmt.{decimal}
use Rattle.std.specs.List.Sorted.{IsStrictlySortedBy}
use Rattle.std.specs.Ordering.{nat_cmp}
use Rattle.ig_text.specs.declared.pattern.Pattern.{Pattern}
use Rattle.ig_show.specs.CanonicalText.{pattern_bytes}
use Rattle.ig_show_trees.specs.declared.report.Report.{Report}

-- the texts of the patterns, sorted by bytes, each once
pub record AreTextsOf (patterns : List Pattern) (texts : List (List ℕ)) : Type 0 where
  pub members : (text : List ℕ) →
      Contains texts text ↔ ((pattern : Pattern) × Contains patterns pattern × (pattern_bytes pattern ≡ text))
  pub order : IsStrictlySortedBy (slice_cmp nat_cmp) texts

-- what is expected beside patterns
abbrev pub end_texts : Bool → List (List ℕ)
end_texts true = codes "end of input" ∷ []
end_texts false = []

-- the texts, joined by `, `; none are `nothing`
abbrev pub list_text : List (List ℕ) → List ℕ
list_text [] = codes "nothing"
list_text (text ∷ texts) = text ++ flat_map (λ other. codes ", " ++ other) texts

-- the text of a report whose patterns have these texts
abbrev pub place_text : Report → List (List ℕ) → List ℕ
place_text report texts =
    codes "line " ++ (decimal report.line ++ (codes ", column " ++ (decimal report.column ++
    (codes ", expected " ++ list_text (texts ++ end_texts report.end)))))

-- the bytes are the text of the report
pub record IsPlace (report : Report) (bytes : List ℕ) : Type 0 where
  pub texts : List (List ℕ)
  pub sorted : AreTextsOf report.expected texts
  pub spelled : bytes ≡ place_text report texts

-- the text of the report is added
pub record AddsPlace (report : Report) (before after : List ℕ) : Type 0 where
  pub place : List ℕ
  pub is_place : IsPlace report place
  pub grown : after ≡ before ++ place
