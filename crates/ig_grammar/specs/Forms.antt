-- Which places of symbols allow what others allow. This stands here with its proofs, for what puts symbols into other ones;
-- nothing of it has to be believed.
use Rattle.ig_grammar.specs.Symbol.{Symbol, Offside, Ignore, Align, Filtered, Seq}
use Rattle.ig_grammar.specs.Regular.{MayHaveLabel, MayHaveMark, MayHaveFilters, MayHaveSign, MayBeSeparated}

-- what may have filters may have a mark
pub mark_of_filtered : (x : Symbol) → MayHaveFilters x → MayHaveMark x
mark_of_filtered (Filtered x filters) may = absurd may
mark_of_filtered x may = may

-- what may have a mark, or filters, may have a label
pub label_of_marked : (x : Symbol) → MayHaveMark x → MayHaveLabel x
label_of_marked (Offside x) may = absurd may
label_of_marked (Ignore x) may = absurd may
label_of_marked (Align x) may = absurd may
label_of_marked x may = may

pub label_of_filtered : (x : Symbol) → MayHaveFilters x → MayHaveLabel x
label_of_filtered (Filtered x filters) may = absurd may
label_of_filtered (Offside x) may = absurd may
label_of_filtered (Ignore x) may = absurd may
label_of_filtered (Align x) may = absurd may
label_of_filtered x may = may

-- and each part of a list may be what may have a label, or filters
pub separated_of_label : (x : Symbol) → MayHaveLabel x → MayBeSeparated x
separated_of_label (Seq xs) may = absurd may
separated_of_label x may = may

pub sign_of_filtered : (x : Symbol) → MayHaveFilters x → MayHaveSign x
sign_of_filtered (Seq xs) may = absurd may
sign_of_filtered x may = may
