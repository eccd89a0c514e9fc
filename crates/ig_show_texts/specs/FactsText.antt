-- The text of a grammar's facts, as UTF-8.
use Rattle.std.specs.Prelude.{ℕ, List, [], ◌++◌, Bool, not, Option, Some, None, codes, encode_utf8_all, if◌then◌else◌, slice_get}
use Rattle.ig_text.specs.Lines.{line_end}
use Rattle.ig_grammar.specs.declared.declaration.Decl.{Decl}
use Rattle.ig_show_texts.specs.Listed.{numbered_texts}
use Rattle.ig_analyse.specs.declared.facts.Fact.{Fact}

-- the word, where it holds
abbrev pub word_text : Bool → List ℕ → List ℕ
word_text holds word = if holds then word else []

-- the words of what holds, each behind a space
abbrev pub words_text : Fact → List ℕ
words_text fact =
    word_text fact.nullable (codes " nullable") ++
    (word_text (not fact.productive) (codes " unproductive") ++
    (word_text (not fact.reachable) (codes " unreachable") ++
    (word_text fact.left_recursive (codes " left-recursive") ++ word_text fact.cyclic (codes " cyclic"))))

abbrev pub found_text : Option Fact → List ℕ
found_text None = []
found_text (Some fact) = words_text fact

-- the name of declaration k, then the words of nonterminal k
abbrev pub declaration_text : List Fact → ℕ → Decl → List ℕ
declaration_text facts k decl = encode_utf8_all decl.name ++ (found_text (slice_get facts k) ++ line_end)

-- a line for each declaration, which are numbered from 1
abbrev pub facts_text : List Decl → List Fact → List ℕ
facts_text decls facts = numbered_texts (declaration_text facts) 1 decls
