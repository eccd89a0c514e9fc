-- The list of what is expected.
use Rattle.std.proofs.Common.{◌≡◌, ◌∙◌, ap, sym, ℕ, List, [], ◌∷◌, ◌++◌, refl, map, length, append_assoc, subst}
use Rattle.std.proofs.lemmas.Grind.{flat_map-append}
use Rattle.std.specs.Prelude.{flat_map, codes, Bool, false, ◌==◌}
use Rattle.ig_text.specs.declared.pattern.Pattern.{Pattern}
use Rattle.ig_show_trees.specs.ReportText.{AddsPlace, AreTextsOf, end_texts, list_text, place_text}
use Rattle.ig_forest_tables.specs.Forest.{Forest}
use Rattle.ig_show_trees.specs.QueryText.{ambiguous_text, node_lines}
use Rattle.ig_show_trees.specs.declared.report.Report.{Report}

abbrev pub behind_comma : List ℕ → List ℕ
behind_comma text = codes ", " ++ text

-- no texts, and maybe the end
pub none_listed : {A : Type 0} (shown : A → List ℕ) (xs : List A) (a : List ℕ) {b : List ℕ} (end : Bool) → length xs ≡ 0 →
    b ≡ a ++ list_text (end_texts end) → b ≡ a ++ list_text (map shown xs ++ end_texts end)
none_listed shown [] a end none written = written
none_listed shown (x ∷ others) a end none written = cc

-- the first text, the others and maybe the end, each behind `, `
pub all_listed : {A : Type 0} (shown : A → List ℕ) {xs others : List A} {x : A} (a : List ℕ) {b c d : List ℕ} (end : Bool) →
    xs ≡ x ∷ others → b ≡ a ++ shown x → c ≡ b ++ flat_map behind_comma (map shown others) →
    d ≡ c ++ flat_map behind_comma (end_texts end) → d ≡ a ++ list_text (map shown xs ++ end_texts end)
all_listed shown {xs = xs} {others = others} {x = x} a {b = b} {c = c} end parts first rest last =
    last ∙ ap (λ z. z ++ flat_map behind_comma (end_texts end)) rest ∙
    append_assoc b (flat_map behind_comma (map shown others)) (flat_map behind_comma (end_texts end)) ∙
    ap (λ z. b ++ z) (sym (flat_map-append behind_comma (map shown others) (end_texts end))) ∙
    ap (λ z. z ++ flat_map behind_comma (map shown others ++ end_texts end)) first ∙
    append_assoc a (shown x) (flat_map behind_comma (map shown others ++ end_texts end)) ∙
    ap (λ z. a ++ list_text (map shown z ++ end_texts end)) (sym parts)

-- the text is added
pub place_added : (report : Report) (patterns : List Pattern) (texts : List (List ℕ)) (before after : List ℕ) →
    patterns ≡ report.expected → AreTextsOf patterns texts →
    after ≡ before ++ place_text report texts → AddsPlace report before after
place_added report patterns texts before after same sorted written =
    record {
      place = place_text report texts;
      is_place = record { texts = texts; sorted = subst (λ ps. AreTextsOf ps texts) same sorted; spelled = refl };
      grown = written;
    }

-- the lines of ambiguous nodes, where there are any
pub some_ambiguous : (f : Forest) (numbers : List ℕ) (a : List ℕ) {b c : List ℕ} → (length numbers == 0) ≡ false →
    b ≡ a ++ codes "ambiguous yes\n" → c ≡ b ++ node_lines f numbers → c ≡ a ++ ambiguous_text f numbers
some_ambiguous f [] a some head lines = cc
some_ambiguous f (v ∷ vs) a some head lines =
    lines ∙ ap (λ z. z ++ node_lines f (v ∷ vs)) head ∙ append_assoc a (codes "ambiguous yes\n") (node_lines f (v ∷ vs))
