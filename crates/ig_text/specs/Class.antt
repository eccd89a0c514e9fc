-- Classes of characters.
use Rattle.std.specs.Prelude.{◌≡◌, ℕ, List, Bool, true, not, if◌then◌else◌}
use Rattle.unicode_ident.specs.Ident.{is_xid_start, is_xid_continue}
use Rattle.ig_text.specs.Ranges.{is_among, IsNormalFormOf}
use Rattle.ig_text.specs.declared.class.Class.{Class}
use Rattle.ig_text.specs.declared.class.Class.TheVariants.{Ranges, XidStart, XidContinue, Any}

-- the character is in the class
abbrev pub is_in_class : Class → ℕ → Bool
is_in_class (Ranges negated ranges) c = if negated then not (is_among ranges c) else is_among ranges c
is_in_class XidStart c = is_xid_start c
is_in_class XidContinue c = is_xid_continue c
is_in_class Any c = true

-- the class has the normal form of the pairs as its ranges
abbrev pub IsClassOf : Bool → List (ℕ × ℕ) → Class → Type 0
IsClassOf negated pairs class =
    (ranges : List (ℕ × ℕ)) × (class ≡ Ranges negated ranges) × IsNormalFormOf pairs ranges
