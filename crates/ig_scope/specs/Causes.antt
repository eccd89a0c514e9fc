-- The condition that a cause is about, and what tells which conditions hold.
use Rattle.std.specs.Prelude.{Option, Some, None}
use Rattle.ig_grammar.specs.Condition as condition
use Rattle.ig_grammar.specs.Condition.{Condition}
use Rattle.ig_grammar.specs.WellScoped.{IsLeast}
use Rattle.ig_scope.specs.declared.cause.Many.TheVariants.{Nonterminals, Parameters, Variables}
use Rattle.ig_scope.specs.declared.cause.ScopeCause.{ScopeCause}
use Rattle.ig_scope.specs.declared.cause.ScopeCause.TheVariants.{DuplicateName, UnknownName, WrongArity, UnknownVariable, DuplicateVariable, KindMismatch, NoStart, StartHasParameters, LayoutNotPlain, AlignNotList, MarkInLexical, SyntaxInLexical, TooMany, BadTabs}

abbrev pub condition_of : ScopeCause → Condition
condition_of DuplicateName = condition.DuplicateName
condition_of UnknownName = condition.UnknownName
condition_of WrongArity = condition.WrongArity
condition_of UnknownVariable = condition.UnknownVariable
condition_of DuplicateVariable = condition.DuplicateVariable
condition_of KindMismatch = condition.KindMismatch
condition_of NoStart = condition.NoStart
condition_of StartHasParameters = condition.StartHasParameters
condition_of LayoutNotPlain = condition.LayoutNotPlain
condition_of AlignNotList = condition.AlignNotList
condition_of MarkInLexical = condition.MarkInLexical
condition_of SyntaxInLexical = condition.SyntaxInLexical
condition_of (TooMany Nonterminals) = condition.TooMany condition.Nonterminals
condition_of (TooMany Parameters) = condition.TooMany condition.Parameters
condition_of (TooMany Variables) = condition.TooMany condition.Variables
condition_of BadTabs = condition.BadTabs

-- no condition holds
abbrev pub NoneHolds : (Condition → Type 0) → Type 0
NoneHolds Holds = (c : Condition) → Holds c → ⊥

-- none holds, or the cause is the first that does
abbrev pub Tells : (Condition → Type 0) → Option ScopeCause → Type 0
Tells Holds None = NoneHolds Holds
Tells Holds (Some cause) = IsLeast Holds (condition_of cause)
