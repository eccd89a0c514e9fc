-- The text of the grammar isn't refused.
use Rattle.std.proofs.Common.{◌≡◌, ap, sym, ◌∙◌, subst}
use Rattle.ig_grammar.specs.Checked.{CheckedGrammar, rules}
use Rattle.ig_grammar.specs.WellScoped.{IsWellScoped}
use Rattle.ig_grammar.specs.declared.grammar.Grammar.{Grammar}
use Rattle.ig_core.specs.Notation.{unchanged}
use Rattle.ig_notation.specs.Outcome.{IsReadFault, ReadOrRefused}
use Rattle.ig_notation.specs.declared.fault.ReadFault.{ReadFault}
use Rattle.ig_notation.specs.declared.fault.ReadFault.TheVariants.{Memory}
use Rattle.ig_scope.specs.Told.{TellsFault}
use Rattle.ig_scope.specs.declared.fault.ScopeFault.TheVariants.{Broken}
use Rattle.ig_scope.specs.declared.cause.ScopeCause.{ScopeCause}
use Rattle.ig_grammar.specs.declared.place.Place.{Place}
use Rattle.ig_load.specs.Grammar.{LoadGrammar, load_text}
use Rattle.ig_load.specs.Laws.{LoadTextReads}

-- the reader has no fault but want of memory
pub no_read_fault : ReadOrRefused → LoadTextReads → (fault : ReadFault) → IsReadFault load_text fault → fault ≡ Memory
no_read_fault law text fault is = law load_text LoadGrammar fault text.reading is

-- neither has the check of scopes
pub not_broken : LoadTextReads → (g : Grammar) (cause : ScopeCause) (place : Place) → g ≡ LoadGrammar →
    TellsFault g (Broken cause place) → ⊥
not_broken text g cause place is first =
    subst IsWellScoped (sym is) text.scoped place _ first.there.holds

-- what it gives is the grammar as it is written
pub checked_is : (g : Grammar) (c : CheckedGrammar) → g ≡ LoadGrammar → c.grammar ≡ g → c.shapes ≡ rules g → c ≡ unchanged LoadGrammar
unfolding LoadGrammar
checked_is g c is grammar shapes =
    let e : c.grammar ≡ LoadGrammar = grammar ∙ is in
    let s : c.shapes ≡ rules LoadGrammar = shapes ∙ ap rules is in
    λ i. record { grammar = e i; shapes = s i }
