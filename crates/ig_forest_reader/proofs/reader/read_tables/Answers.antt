use Rattle.std.proofs.Common.{◌∙◌, ◌<◌, ℕ, List, length, ap, subst, sym}
use Rattle.ig_text.specs.Limits.{numbers_end}
use Rattle.std.specs.Prelude.{Option, MatchOption}
use Rattle.ig_text.proofs.Booleans.{refuted}
use Rattle.ig_forest_tables.specs.StoredNodes.{rows_in}
use Rattle.ig_forest_tables.specs.Tables.{FitsTables, forest_by}
use Rattle.ig_item.specs.declared.core_grammar.Nonterminal.{Nonterminal}
use Rattle.ig_forest_reader.specs.Shown.{IsFirstRoot, IsIndex, NoRoot}
use Rattle.ig_forest_reader.specs.Written.{TellsNames}
use Rattle.ig_forest_reader.proofs.Composing.{read_ok, failed_on}
use Rattle.ig_forest_reader.proofs.Leading.{none_read, some_read, some_is}
use Rattle.ig_forest_reader.proofs.Whole.{names_of, no_heading, no_nodes, no_items, no_rest, no_root, nodes_long, all_fit, tables_read}
use Rattle.ig_forest_reader.proofs.reader.read_tables.Goals as goal

pub returns-in_default : goal.returns-in_default
returns-in_default c =
    no_heading c.args.core.now c.requires c.args.bytes.now
    (λ m n us p q e. none_read _ _ (c.read_heading.ensures.told m n us p q e) c.in_default.is)

pub index_names-requires : goal.index_names-requires
index_names-requires c =
    record {
      tells = subst TellsNames (sym c.as_slice.ensures) c.requires;
      few = subst (λ (z : List Nonterminal). length z < numbers_end) (sym c.as_slice.ensures) c.nonterminals-many.ensures.well_kinded.few_nonterminals;
    }

pub push_nodes-requires : goal.push_nodes-requires
push_nodes-requires c =
    record {
      tells = c.requires;
      index = subst (λ (z : List Nonterminal). IsIndex z c.in_ok-index.index) c.as_slice.ensures c.in_ok-index.ensures;
      none = c.new-nodes.ensures;
    }

pub push_items-requires : goal.push_items-requires
push_items-requires c = record { none = c.in_ok-items.ensures }

pub returns-in_err-behind : goal.returns-in_err-behind
returns-in_err-behind c =
    failed_on _ _ _ _ c.push_nodes.result c.in_err-behind.field-0.0 c.from_residual-in_err-behind.result c.push_nodes.ensures c.in_err-behind.was
    c.from_residual-in_err-behind.ensures.1
    (no_nodes c.args.core.now c.requires c.args.bytes.now c.in-Some.begun.now c.in-Some.many_nodes c.in-Some.many_items
    (λ m n us p q e. some_read _ _ _ (c.read_heading.ensures.told m n us p q e) c.in-Some.is) c.push_nodes.new.lists)

pub returns-in_err-rest : goal.returns-in_err-rest
returns-in_err-rest c =
    failed_on _ _ _ _ c.push_items.result c.in_err-rest.field-0.0 c.from_residual-in_err-rest.result
    (c.push_items.ensures.read c.args.core.now c.requires (subst (λ (z : List Nonterminal). IsIndex z c.in_ok-index.index) c.as_slice.ensures c.in_ok-index.ensures))
    c.in_err-rest.was c.from_residual-in_err-rest.ensures.1
    (no_items c.args.core.now c.requires c.args.bytes.now c.in-Some.begun.now c.in-Some.many_nodes c.in-Some.many_items
    (λ m n us p q e. some_read _ _ _ (c.read_heading.ensures.told m n us p q e) c.in-Some.is) c.push_nodes.new.lists c.in_ok-behind.behind.now
    c.push_nodes.new.nodes (read_ok _ _ _ _ c.push_nodes.ensures c.in_ok-behind.was) c.push_items.new.lists)

pub returns-then-not-is_end : goal.returns-then-not-is_end
returns-then-not-is_end c =
    let few = some_is _ _ _ c.read_heading.ensures.small c.in-Some.is in
    no_rest c.args.core.now c.requires c.args.bytes.now c.in-Some.begun.now c.in-Some.many_nodes c.in-Some.many_items
    (λ m n us p q e. some_read _ _ _ (c.read_heading.ensures.told m n us p q e) c.in-Some.is) c.push_nodes.new.lists c.in_ok-behind.behind.now
    c.push_nodes.new.nodes (read_ok _ _ _ _ c.push_nodes.ensures c.in_ok-behind.was) c.push_items.new.lists _ c.push_items.new.items c.in_ok-rest.ensures.keeps
    (read_ok _ _ _ _ (c.push_items.ensures.read c.args.core.now c.requires (subst (λ (z : List Nonterminal). IsIndex z c.in_ok-index.index) c.as_slice.ensures c.in_ok-index.ensures)) c.in_ok-rest.was)
    few.0 few.1 (refuted c.is_end.result c.is_end.ensures c.if-not-is_end.true)

pub first_root-requires : goal.first_root-requires
first_root-requires c =
    nodes_long c.args.core.now c.requires c.args.bytes.now c.in-Some.begun.now c.in-Some.many_nodes c.in-Some.many_items
    (λ m n us p q e. some_read _ _ _ (c.read_heading.ensures.told m n us p q e) c.in-Some.is) c.push_nodes.new.lists c.in_ok-behind.behind.now
    c.push_nodes.new.nodes (read_ok _ _ _ _ c.push_nodes.ensures c.in_ok-behind.was)

pub returns-in_default-first_root : goal.returns-in_default-first_root
returns-in_default-first_root c =
    no_root c.args.core.now c.requires c.args.bytes.now c.in-Some.begun.now c.in-Some.many_nodes c.in-Some.many_items
    (λ m n us p q e. some_read _ _ _ (c.read_heading.ensures.told m n us p q e) c.in-Some.is) c.push_nodes.new.lists c.in_ok-behind.behind.now
    c.push_nodes.new.nodes (read_ok _ _ _ _ c.push_nodes.ensures c.in_ok-behind.was) (subst (λ (o : Option ℕ). MatchOption o (NoRoot (rows_in c.push_nodes.new.nodes)) (IsFirstRoot (rows_in c.push_nodes.new.nodes))) c.in_default-first_root.is c.first_root.ensures)

pub of-requires : goal.of-requires
of-requires c =
    let few = some_is _ _ _ c.read_heading.ensures.small c.in-Some.is in
    subst (λ (z : List (List ℕ)). FitsTables z c.push_items.new.lists c.push_nodes.new.nodes c.push_items.new.items) (sym (c.in_ok-names.ensures ∙ ap names_of c.as_slice-2.ensures))
    (all_fit c.args.core.now c.requires c.args.bytes.now c.in-Some.begun.now c.in-Some.many_nodes c.in-Some.many_items
    (λ m n us p q e. some_read _ _ _ (c.read_heading.ensures.told m n us p q e) c.in-Some.is) c.push_nodes.new.lists c.in_ok-behind.behind.now
    c.push_nodes.new.nodes (read_ok _ _ _ _ c.push_nodes.ensures c.in_ok-behind.was) c.push_items.new.lists _ c.push_items.new.items c.in_ok-rest.ensures.keeps
    (read_ok _ _ _ _ (c.push_items.ensures.read c.args.core.now c.requires (subst (λ (z : List Nonterminal). IsIndex z c.in_ok-index.index) c.as_slice.ensures c.in_ok-index.ensures)) c.in_ok-rest.was)
    few.0 few.1)

pub returns : goal.returns
returns c =
    let few = some_is _ _ _ c.read_heading.ensures.small c.in-Some.is in
    let names = c.in_ok-names.ensures ∙ ap names_of c.as_slice-2.ensures in
    tables_read c.args.core.now c.requires c.args.bytes.now c.in-Some.begun.now c.in-Some.many_nodes c.in-Some.many_items
    (λ m n us p q e. some_read _ _ _ (c.read_heading.ensures.told m n us p q e) c.in-Some.is) c.push_nodes.new.lists c.in_ok-behind.behind.now
    c.push_nodes.new.nodes (read_ok _ _ _ _ c.push_nodes.ensures c.in_ok-behind.was) c.push_items.new.lists _ c.push_items.new.items c.in_ok-rest.ensures.keeps
    (read_ok _ _ _ _ (c.push_items.ensures.read c.args.core.now c.requires (subst (λ (z : List Nonterminal). IsIndex z c.in_ok-index.index) c.as_slice.ensures c.in_ok-index.ensures)) c.in_ok-rest.was)
    few.0 few.1
    c.in-Some-first_root.root c.of.result (some_is _ _ _ c.read_heading.ensures.exact c.in-Some.is) (c.is_end.ensures.0 c.if-not-is_end.false)
    (subst (λ (o : Option ℕ). MatchOption o (NoRoot (rows_in c.push_nodes.new.nodes)) (IsFirstRoot (rows_in c.push_nodes.new.nodes))) c.in-Some-first_root.is c.first_root.ensures)
    (c.of.ensures ∙ ap (λ (z : List (List ℕ)). forest_by c.in-Some-first_root.root z c.push_items.new.lists c.push_nodes.new.nodes c.push_items.new.items) names)
