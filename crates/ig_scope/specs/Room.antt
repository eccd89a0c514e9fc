-- How many labels and lets each alternative of a declaration may have.
use Rattle.std.specs.Prelude.{◌≡◌, ℕ, ◌-◌, ◌≤◌, true, Option, Some, None, if◌then◌else◌}
use Rattle.ig_grammar.specs.Name.{is_name}
use Rattle.ig_grammar.specs.Condition.{named_parameters, most_parameters, most_variables}
use Rattle.ig_grammar.specs.declared.declaration.Decl.{Decl}

-- a declaration of the notation has no more parameters than it may have
abbrev pub HasFewParameters : Decl → Type 0
HasFewParameters decl = is_name decl.name ≡ true → named_parameters decl ≤ most_parameters

-- what the parameters leave; where the declaration is one that a pass added, labels and lets aren't counted
abbrev pub room_of : Decl → Option ℕ
room_of decl = if is_name decl.name then Some (most_variables - named_parameters decl) else None
