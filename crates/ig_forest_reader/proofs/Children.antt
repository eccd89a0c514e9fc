-- Which child a text is of.
use Rattle.std.proofs.Common.{◌≡◌, ℕ, ◌<◌, ◌++◌, List, ◌∷◌, refl, sym, ◌∙◌, arith}
use Rattle.std.specs.Prelude.{codes}
use Rattle.std.specs.Fmt.{decimal}
use Rattle.std.proofs.lemmas.List.{append_cancel_left}
use Rattle.ig_text.specs.declared.text.Span.{Span}
use Rattle.ig_text.specs.Limits.{numbers_end}
use Rattle.ig_show_texts.specs.ValueText.{span_text}
use Rattle.ig_show_texts.specs.ForestText.{child_text}
use Rattle.ig_forest_tables.specs.declared.entry.Child.{Child}
use Rattle.ig_forest_tables.specs.declared.entry.Child.TheVariants as child
use Rattle.ig_show_texts.specs.ForestText.{entry_text}
use Rattle.ig_forest_tables.specs.declared.entry.Entry.{Entry}
use Rattle.ig_forest_tables.specs.declared.entry.Entry.TheVariants.{Begin, Pass, Take}
use Rattle.ig_forest_reader.specs.Written.{IsSmallSpan, IsSmallChild, IsSmallEntry}
use Rattle.ig_forest_reader.proofs.TellingLines.{take_small, pass_joined, take_joined}
use Rattle.ig_forest_reader.proofs.Telling.{heads}

pub record IsNode (x : Child) (us rest : List ℕ) : Type 0 where
  pub number : ℕ
  pub is : x ≡ child.Node number
  pub small : number < numbers_end
  pub behind : rest ≡ decimal number ++ (10 ∷ us)

pub record IsLeaf (x : Child) (us text : List ℕ) : Type 0 where
  pub span : Span
  pub is : x ≡ child.Leaf span
  pub small : IsSmallSpan span
  pub whole : text ≡ codes "leaf " ++ (span_text span ++ (10 ∷ us))

pub node_child : (x : Child) (us rest text : List ℕ) → IsSmallChild x → text ≡ child_text x ++ (10 ∷ us) →
    text ≡ codes "node " ++ rest → IsNode x us rest
node_child (child.Node v) us rest text small e is =
    record { number = v; is = refl; small = small; behind = append_cancel_left (codes "node ") rest (decimal v ++ (10 ∷ us)) (sym is ∙ e) }
node_child (child.Leaf s) us rest text small e is =
    absurd (let h = heads 110 108 _ _ (sym is ∙ e) in omega (arith, h))

pub leaf_child : (x : Child) (us text : List ℕ) → IsSmallChild x → text ≡ child_text x ++ (10 ∷ us) →
    ((rest : List ℕ) → text ≡ codes "node " ++ rest → ⊥) → IsLeaf x us text
leaf_child (child.Node v) us text small e not = absurd (not (decimal v ++ (10 ∷ us)) e)
leaf_child (child.Leaf s) us text small e not = record { span = s; is = refl; small = small; whole = e }

-- and which entry
pub record IsPass (x : Entry) (us rest : List ℕ) : Type 0 where
  pub number : ℕ
  pub is : x ≡ Pass number
  pub small : number < numbers_end
  pub behind : rest ≡ decimal number ++ (10 ∷ us)

pub record IsTake (x : Entry) (us text : List ℕ) : Type 0 where
  pub number : ℕ
  pub taken : Child
  pub is : x ≡ Take number taken
  pub small : number < numbers_end
  pub small_child : IsSmallChild taken
  pub whole : text ≡ codes "take " ++ (decimal number ++ (32 ∷ (child_text taken ++ (10 ∷ us))))

pub pass_entry : (x : Entry) (us rest text : List ℕ) → IsSmallEntry x → text ≡ entry_text x ++ us → text ≡ codes "pass " ++ rest →
    IsPass x us rest
pass_entry Begin us rest text small e is = absurd (let h = heads 112 98 _ _ (sym is ∙ e) in omega (arith, h))
pass_entry (Pass i) us rest text small e is =
    record {
      number = i;
      is = refl;
      small = small;
      behind = append_cancel_left (codes "pass ") rest (decimal i ++ (10 ∷ us)) (sym is ∙ e ∙ pass_joined i us);
    }
pass_entry (Take i x) us rest text small e is = absurd (let h = heads 112 116 _ _ (sym is ∙ e) in omega (arith, h))

pub take_entry : (x : Entry) (us text : List ℕ) → IsSmallEntry x → text ≡ entry_text x ++ us →
    ((rest : List ℕ) → text ≡ codes "begin\n" ++ rest → ⊥) → ((rest : List ℕ) → text ≡ codes "pass " ++ rest → ⊥) → IsTake x us text
take_entry Begin us text small e no_begin no_pass = absurd (no_begin us e)
take_entry (Pass i) us text small e no_begin no_pass = absurd (no_pass (decimal i ++ (10 ∷ us)) (e ∙ pass_joined i us))
take_entry (Take i x) us text small e no_begin no_pass =
    let both = take_small i x small in
    record { number = i; taken = x; is = refl; small = both.0; small_child = both.1; whole = e ∙ take_joined i x us }

pub small_take : (i : ℕ) (x : Child) → i < numbers_end → IsSmallChild x → IsSmallEntry (Take i x)
small_take i (child.Leaf span) p q = (p, q)
small_take i (child.Node v) p q = (p, q)
