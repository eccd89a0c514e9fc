-- The texts that say why a grammar isn't well scoped, and where.
use Rattle.std.specs.Prelude.{ℕ, List, ◌++◌, codes}
use Rattle.std.specs.Fmt.{decimal}
use Rattle.ig_grammar.specs.Condition as condition
use Rattle.ig_grammar.specs.Condition.{Condition}
use Rattle.ig_grammar.specs.declared.place.Place.{Place}

-- the text of a condition that holds somewhere
abbrev pub condition_text : Condition → List ℕ
condition_text condition.DuplicateName = codes "duplicate name"
condition_text condition.UnknownName = codes "unknown name"
condition_text condition.WrongArity = codes "wrong arity"
condition_text condition.UnknownVariable = codes "unknown variable"
condition_text condition.DuplicateVariable = codes "duplicate variable"
condition_text condition.KindMismatch = codes "kind mismatch"
condition_text condition.NoStart = codes "no start"
condition_text condition.StartHasParameters = codes "start has parameters"
condition_text condition.LayoutNotPlain = codes "layout not plain"
condition_text condition.AlignNotList = codes "align not list"
condition_text condition.MarkInLexical = codes "mark in lexical"
condition_text condition.SyntaxInLexical = codes "syntax in lexical"
condition_text (condition.TooMany condition.Nonterminals) = codes "too many nonterminals"
condition_text (condition.TooMany condition.Parameters) = codes "too many parameters"
condition_text (condition.TooMany condition.Variables) = codes "too many variables"
condition_text condition.BadTabs = codes "bad tabs"

-- the text of a place
abbrev pub place_text : Place → List ℕ
place_text place =
    codes " at declaration " ++ (decimal place.decl ++
    (codes ", alternative " ++ (decimal place.alt ++
    (codes ", symbol " ++ decimal place.symbol))))
