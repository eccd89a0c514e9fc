-- Rules that make numbers of numbers: those of the alternatives of a core grammar, what is made by rules, and what a work
-- list knows of it.
use Rattle.std.specs.Prelude.{◌≡◌, ◌↔◌, ℕ, suc, ◌+◌, ◌-◌, ◌<◌, ◌≤◌, List, [], ◌∷◌, ◌++◌, length, set, get_or, slice_get, Contains, Bool, true, false, ◌&&◌, ◌==◌, if◌then◌else◌, Some}
use Rattle.std.specs.List.{flat_map}
use Rattle.ig_arena.specs.Cells.{longer_at}
use Rattle.ig_item.specs.declared.core_grammar.Nonterminal.{Nonterminal}
use Rattle.ig_item.specs.declared.core_grammar.CoreAlt.{CoreAlt}
use Rattle.ig_analyse.specs.Steps.{callees, has_terminal}
use Rattle.ig_analyse.specs.Marks.{is_marked, count_marks}
use Rattle.ig_analyse.specs.declared.rules.Rule.{Rule}
use Rattle.ig_analyse.specs.declared.making.Work.{Work}

-- the rule of an alternative of nonterminal n; where it is bare, one with a terminal has none
abbrev pub rule_of : Bool → ℕ → CoreAlt → List Rule
rule_of bare n alternative =
    if bare && has_terminal alternative.steps then [] else record { head = n; callees = callees alternative.steps } ∷ []

abbrev pub rules_of : Bool → ℕ → Nonterminal → List Rule
rules_of bare n nonterminal = flat_map (rule_of bare n) nonterminal.alternatives

-- the rules of the nonterminals, which have the numbers from n on
abbrev pub rules_from : Bool → ℕ → List Nonterminal → List Rule
rules_from bare n [] = []
rules_from bare n (x ∷ xs) = rules_of bare n x ++ rules_from bare (suc n) xs

-- the least set with the head of each rule whose callees are all in it
pub data IsDerived (rules : List Rule) : ℕ → Type 0 where
  derive : (k n : ℕ) (rule : Rule) → slice_get rules k ≡ Some rule → rule.head ≡ n →
      ((m : ℕ) → Contains rule.callees m → IsDerived rules m) → IsDerived rules n

-- how often the number is in the list
abbrev pub occurs : ℕ → List ℕ → ℕ
occurs n [] = 0
occurs n (x ∷ xs) = (if n == x then 1 else 0) + occurs n xs

-- heads and callees are below the count
pub record AreInside (count : ℕ) (rules : List Rule) : Type 0 where
  pub heads : (k : ℕ) (rule : Rule) → slice_get rules k ≡ Some rule → rule.head < count
  pub callees : (k m : ℕ) (rule : Rule) → slice_get rules k ≡ Some rule → Contains rule.callees m → m < count

-- each number has a list of the rules that call it, as often as they do
pub record AreUsers (count : ℕ) (rules : List Rule) (users : List (List ℕ)) : Type 0 where
  pub long : length users ≡ count
  pub inside : (n k : ℕ) (row : List ℕ) → slice_get users n ≡ Some row → Contains row k → k < length rules
  pub same : (n k : ℕ) (row : List ℕ) (rule : Rule) → slice_get users n ≡ Some row → slice_get rules k ≡ Some rule →
      occurs k row ≡ occurs n rule.callees

-- the number has a mark and stands in what was found, where it did before or does now
pub record Marking (n : ℕ) (old new : Work) : Type 0 where
  pub left : new.left.items ≡ old.left.items
  pub had : is_marked old.marks.items n ≡ true → (new.marks.items ≡ old.marks.items) × (new.found.items ≡ old.found.items)
  pub fresh : is_marked old.marks.items n ≡ false →
      (new.marks.items ≡ set old.marks.items n true) × (new.found.items ≡ old.found.items ++ n ∷ [])

-- one callee of rule k less is left
pub record Uses (rules : List Rule) (k : ℕ) (old new : Work) : Type 0 where
  pub rule : Rule
  pub there : slice_get rules k ≡ Some rule
  pub mid : Work
  pub less : mid.left.items ≡ set old.left.items k (get_or old.left.items k 0 - 1)
  pub marks : mid.marks.items ≡ old.marks.items
  pub found : mid.found.items ≡ old.found.items
  pub spent : get_or old.left.items k 0 - 1 ≡ 0 → Marking rule.head mid new
  pub not_spent : (get_or old.left.items k 0 - 1 ≡ 0 → ⊥) → new ≡ mid

-- what was found is marked, once, and derived
pub record AreMade (rules : List Rule) (count : ℕ) (marks : List Bool) (found : List ℕ) : Type 0 where
  pub long : length marks ≡ count
  pub same : (n : ℕ) → (is_marked marks n ≡ true) ↔ Contains found n
  pub counted : count_marks marks ≡ length found
  pub once : (n : ℕ) → occurs n found ≤ 1
  pub sound : (n : ℕ) → Contains found n → IsDerived rules n

-- of the first rules so many callees are left, where rule k was used so often; a rule of which none is left has its head
-- marked
pub record IsWork (rules : List Rule) (count to : ℕ) (work : Work) (used : ℕ → ℕ) : Type 0 where
  pub made : AreMade rules count work.marks.items work.found.items
  pub long : length work.left.items ≡ to
  pub left_is : (k : ℕ) (rule : Rule) → k < to → slice_get rules k ≡ Some rule →
      get_or work.left.items k 0 ≡ length rule.callees - used k
  pub closed : (k : ℕ) (rule : Rule) → k < to → slice_get rules k ≡ Some rule → get_or work.left.items k 0 ≡ 0 →
      is_marked work.marks.items rule.head ≡ true

-- how often the users of these numbers use rule k
abbrev pub used_by : List (List ℕ) → List ℕ → ℕ → ℕ
used_by users [] k = 0
used_by users (n ∷ ns) k = occurs k (get_or users n []) + used_by users ns k

-- the number after these is found, and of its users all but the last ones, which are left, were used
pub record IsUsing (rules : List Rule) (count : ℕ) (users : List (List ℕ)) (now : Work) (base : List ℕ) (n : ℕ) (left : List ℕ) :
    Type 0 where
  pub used : List ℕ
  pub there : slice_get users n ≡ Some (used ++ left)
  pub work : IsWork rules count (length rules) now (λ k. used_by users base k + occurs k used)
  pub behind : List ℕ
  pub parted : now.found.items ≡ base ++ n ∷ behind

-- one more rule begins, of which all callees are left
pub record Begins (rule : Rule) (old new : Work) : Type 0 where
  pub mid : Work
  pub left : mid.left.items ≡ old.left.items ++ length rule.callees ∷ []
  pub marks : mid.marks.items ≡ old.marks.items
  pub found : mid.found.items ≡ old.found.items
  pub spent : rule.callees ≡ [] → Marking rule.head mid new
  pub not_spent : (rule.callees ≡ [] → ⊥) → new ≡ mid

-- rule k is added to the lists of these numbers
abbrev pub added_users : ℕ → List (List ℕ) → List ℕ → List (List ℕ)
added_users k users [] = users
added_users k users (n ∷ ns) = added_users k (longer_at users n k) ns

-- exactly what is derived is marked
pub record MarkDerived (count : ℕ) (rules : List Rule) (marks : List Bool) : Type 0 where
  pub long : length marks ≡ count
  pub same : (n : ℕ) → (is_marked marks n ≡ true) ↔ IsDerived rules n
