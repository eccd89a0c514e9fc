-- For the proof checker alone: a reader need not read this file.
-- How questions, and parses that go on, are stored.
use Rattle.std.specs.Prelude.{◌≡◌, ◌⊎◌, ℕ, List, refl}
use Rattle.std.proofs.Common.{inl, inr}
use Rattle.std.specs.Coded.{Coded, code_by, coded_ℕ, coded_list, coded×, coded⊎}
use Rattle.ig_text.specs.Input.{Input}
use Rattle.ig_text.specs.contracts.text.Text as text
use Rattle.ig_grammar.specs.contracts.grammar.Grammar as grammar
use Rattle.ig_grammar.specs.declared.grammar.Grammar.{Grammar}
use Rattle.ig_command_endings.specs.contracts.status.Status as status
use Rattle.ig_command_endings.specs.declared.status.Status.{Status}
use Rattle.ig_command_jobs.specs.Question.{Question, refused, parses}
use Rattle.ig_command_jobs.specs.Underway.{Underway, underway}

abbrev pub question_parts : Question → (Status × List ℕ) ⊎ (Grammar × (Input × ℕ))
question_parts (refused s note) = inl (s, note)
question_parts (parses g input budget) = inr (g, (input, budget))

abbrev pub question_by : (Status × List ℕ) ⊎ (Grammar × (Input × ℕ)) → Question
question_by (inl p) = refused p.0 p.1
question_by (inr p) = parses p.0 p.1.0 p.1.1

pub question_back : (q : Question) → question_by (question_parts q) ≡ q
question_back (refused s note) = refl
question_back (parses g input budget) = refl

abbrev pub question_code : Coded Question
question_code =
    code_by ((Status × List ℕ) ⊎ (Grammar × (Input × ℕ)))
    (coded⊎ (coded× status.the_row.coded (coded_list coded_ℕ))
    (coded× grammar.the_row.coded (coded× text.the_row.coded coded_ℕ)))
    question_parts question_by question_back

abbrev pub underway_code : Coded Underway
underway_code =
    code_by (Question × (ℕ × ℕ)) (coded× question_code (coded× coded_ℕ coded_ℕ)) (λ u. (u.question, (u.taken, u.left)))
    (λ p. underway p.0 p.1.0 p.1.1) (λ _. refl)
