-- For the proof checker alone: a reader need not read this file.
-- How recordings are stored.
use Rattle.std.specs.Prelude.{List, refl}
use Rattle.std.specs.Coded.{Coded, code_by, coded×}
use Rattle.ig_text.specs.Input.{Input}
use Rattle.ig_text.specs.contracts.text.Text as text
use Rattle.ig_item.specs.Recorded.{Recording, recording}
use Rattle.ig_item.specs.Tables.{Tables}
use Rattle.ig_item.specs.Ways.{WayLists}
use Rattle.ig_item.specs.declared.core_grammar.Nonterminal.{Nonterminal}

-- a recording is stored as its parts, from which it is read back
abbrev pub recording_code : Coded (List Nonterminal) → Coded Tables → Coded WayLists → Coded Recording
recording_code core tables ways =
    code_by (List Nonterminal × (Input × (Tables × WayLists)))
    (coded× core (coded× text.the_row.coded (coded× tables ways)))
    (λ r. (r.core, (r.text, (r.tables, r.ways)))) (λ p. recording p.0 p.1.0 p.1.1.0 p.1.1.1) (λ _. refl)
