-- What the tests of a grammar text say of its bytes.
use Rattle.std.proofs.Common.{◌≡◌, ℕ, ◌∙◌, ap, sym, List, ◌++◌, subst, Err}
use Rattle.std.specs.Prelude.{IsUtf8, codes}
use Rattle.std.specs.Fmt.{decimal}
use Rattle.ig_grammar.specs.WellScoped.{IsFirst, IsWellScoped}
use Rattle.ig_grammar.specs.Checked.{CheckedGrammar, rules}
use Rattle.ig_grammar.specs.declared.grammar.Grammar.{Grammar}
use Rattle.ig_grammar.specs.declared.place.Place.{Place}
use Rattle.ig_command_sources.specs.Accepted.{IsReadIn, IsReadFaultIn}
use Rattle.ig_command.specs.declared.command.Notation.{Notation}
use Rattle.ig_notation.specs.declared.fault.Large.{Large}
use Rattle.ig_notation.specs.declared.fault.ReadFault.TheVariants as read
use Rattle.ig_scope.specs.Causes.{condition_of}
use Rattle.ig_scope.specs.declared.cause.ScopeCause.{ScopeCause}
use Rattle.ig_command_endings.specs.declared.stop.Stop.{Stop}
use Rattle.ig_command_endings.specs.declared.stop.Stop.TheVariants as halt
use Rattle.ig_command_sources.specs.Texts.{condition_text, place_text}
use Rattle.ig_command_sources.specs.Refusals.{IsRefused, not_grammar, too_large, not_scoped, large_text}
use Rattle.ig_command_endings.specs.Stops.{RefusesWith}
use Rattle.ig_command_sources.specs.Sources.{IsWrittenIn, ReadsGrammar}
use Rattle.ig_command_sources.proofs.Written.{checked_written}

-- a refusal with the text of the bytes' fault
pub refused_as : (n : Notation) (bytes text : List ℕ) (stop : Stop) → RefusesWith text stop → IsRefused n bytes text →
    ReadsGrammar n bytes (Err stop)
refused_as n bytes text (halt.Note s line) h refused =
    record { text = text; refused = refused; status_is = h.0; note_is = h.1 }
refused_as n bytes text halt.Memory h refused = tt

-- the bytes are those of the string
module _ (n : Notation) (bytes source : List ℕ) (same : source ≡ bytes) (utf8 : IsUtf8 bytes) where
  pub refused_syntax : (at : ℕ) (stop : Stop) → RefusesWith (codes "syntax at byte " ++ decimal at) stop →
      IsReadFaultIn n source (read.Syntax at) → ReadsGrammar n bytes (Err stop)
  refused_syntax at stop h fault =
      refused_as n bytes (codes "syntax at byte " ++ decimal at) stop h (not_grammar at utf8 (subst (λ (z : List ℕ). IsReadFaultIn n z (read.Syntax at)) same fault))

  pub refused_large : (which : Large) (stop : Stop) → RefusesWith (large_text which) stop →
      IsReadFaultIn n source (read.TooLarge which) → ReadsGrammar n bytes (Err stop)
  refused_large which stop h fault =
      refused_as n bytes (large_text which) stop h
      (too_large which utf8 (subst (λ (z : List ℕ). IsReadFaultIn n z (read.TooLarge which)) same fault))

  pub refused_scope : (g : Grammar) (place : Place) (cause : ScopeCause) (stop : Stop) →
      RefusesWith (condition_text (condition_of cause) ++ place_text place) stop → IsReadIn n source g →
      IsFirst g place (condition_of cause) → ReadsGrammar n bytes (Err stop)
  refused_scope g place cause stop h reading first =
      refused_as n bytes (condition_text (condition_of cause) ++ place_text place) stop h
      (not_scoped g place (condition_of cause) utf8 (subst (λ (z : List ℕ). IsReadIn n z g) same reading) first)

  -- the bytes are a text of the checked grammar
  pub written_in : (g : Grammar) (c : CheckedGrammar) → IsReadIn n source g → c.grammar ≡ g → c.shapes ≡ rules g → IsWellScoped g →
      IsWrittenIn n bytes c
  written_in g c reading e shapes scoped =
      record {
        text = record {
          utf8 = utf8;
          reading = subst (λ (z : Grammar). IsReadIn n bytes z) (sym e) (subst (λ (z : List ℕ). IsReadIn n z g) same reading);
          scoped = subst IsWellScoped (sym e) scoped;
        };
        as_it_is = checked_written c (shapes ∙ ap rules (sym e));
      }
