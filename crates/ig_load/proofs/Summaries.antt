-- What the forest of the permitted trees says of them.
use Rattle.std.proofs.Common.{◌≡◌, ◌↔◌, ℕ, IsTrue, length, sym, ◌∙◌, subst, Ok}
use Rattle.std.proofs.lemmas.List.{length-map}
use Rattle.ig_text.specs.Input.{Input, untabbed}
use Rattle.ig_grammar.specs.Checked.{CheckedGrammar}
use Rattle.ig_item.specs.Tables.{Tables, item_of, items_of}
use Rattle.ig_item.specs.WellKinded.{NoneTwice}
use Rattle.ig_forest_tables.specs.Forest.{Forest}
use Rattle.ig_forest_tables.specs.Unfold.{IsTrim}
use Rattle.ig_heights.specs.Heights.{Heights, AreHeights}
use Rattle.ig_query.specs.Ambiguity.{IsAmbiguous}
use Rattle.ig_parse.specs.Laws.{AmbiguityIsTwoPermitted, CyclicIsWithoutHighest}
use Rattle.ig_parse.specs.Parses.{AreReachable, IsForestOf}
use Rattle.ig_core.specs.Notation.{unchanged}
use Rattle.ig_parse.specs.Parses.{IsOver, IsParsed}
use Rattle.ig_load.specs.Grammar.{LoadGrammar}
use Rattle.ig_load.specs.Input.{LoadInput}
use Rattle.ig_load.specs.Summary.{IsSummaryOf, Loads}
use Rattle.ig_load.specs.declared.summary.Summary.{Summary}

module _ (c : CheckedGrammar) (text : Input) (f : Forest) (is : IsForestOf c text f) where
  pub summary_is : (tables : Tables) (heights : Heights) (summary : Summary) → AreReachable c text tables → NoneTwice (items_of tables) →
      IsTrim f → AmbiguityIsTwoPermitted → CyclicIsWithoutHighest → AreHeights f heights → summary.items ≡ length tables.items →
      summary.nodes ≡ length f.nodes → (IsTrue summary.ambiguous ↔ IsAmbiguous f) → summary.cyclic ≡ heights.cyclic →
      IsSummaryOf c text summary
  summary_is tables heights summary reachable once trim law unbounded are items nodes ambiguous cyclic =
      let two = law c text f trim is in
      let higher = unbounded c text f is in
      record {
        items = record {
          items = items_of tables;
          reachable = reachable;
          once = once;
          counted = items ∙ sym (length-map tables.items (item_of tables));
        };
        nodes = record { forest = f; is = is; counted = nodes };
        ambiguous = (λ h. two.0 (ambiguous.0 h), λ h. ambiguous.1 (two.1 h));
        cyclic = rw cyclic (λ h. higher.0 (are.cyclic.0 h), λ h. are.cyclic.1 (higher.1 h));
      }

-- the grammar and the input of a load
module _ (size number budget : ℕ) (c : CheckedGrammar) (text : Input) (of_grammar : c ≡ unchanged LoadGrammar)
    (of_input : text ≡ untabbed (LoadInput size number)) where
  -- what holds of the load's own grammar and input holds of them
  carried : (P : CheckedGrammar → Input → Type 0) → P (unchanged LoadGrammar) (untabbed (LoadInput size number)) → P c text
  carried P h =
      subst (λ (z : CheckedGrammar). P z text) (sym of_grammar) (subst (λ (z : Input). P (unchanged LoadGrammar) z) (sym of_input) h)

  brought : (P : CheckedGrammar → Input → Type 0) → P c text → P (unchanged LoadGrammar) (untabbed (LoadInput size number))
  brought P h = subst (λ (z : CheckedGrammar). P z (untabbed (LoadInput size number))) of_grammar (subst (λ (z : Input). P c z) of_input h)

  pub parsed : IsParsed (unchanged LoadGrammar) (untabbed (LoadInput size number)) → IsParsed c text
  parsed h = carried IsParsed h

  pub loaded : (summary : Summary) → (IsOver c text budget → ⊥) → IsSummaryOf c text summary → Loads size number budget (Ok summary)
  loaded summary few is =
      (brought (λ d w. IsOver d w budget → ⊥) few, brought (λ d w. IsSummaryOf d w summary) is)
