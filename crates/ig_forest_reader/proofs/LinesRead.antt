-- The lines of nodes and of items.
use Rattle.std.proofs.Common.{◌≡◌, Result, Ok, Err, Bor, ℕ, ◌<◌, ◌++◌, List, [], ◌∷◌, Some, All, refl, sym, ap, ap₂, ◌∙◌, subst, length, drop, slice_get}
use Rattle.std.specs.Prelude.{codes, flat_map, encode_utf8_all, option_map, IfOk, OnOk}
use Rattle.std.specs.Fmt.{decimal}
use Rattle.std.specs.List.{AllByRecursion}
use Rattle.std.proofs.lemmas.List.{append_assoc}
use Rattle.std.proofs.lemmas.List.Elements.{All-from_recursion}
use Rattle.ig_text.proofs.Lists.{get_within}
use Rattle.ig_text.specs.declared.text.Span.{Span}
use Rattle.ig_expr.specs.declared.value.Value.{Value}
use Rattle.ig_item.specs.declared.core_grammar.Nonterminal.{Nonterminal}
use Rattle.ig_forest_live.specs.declared.rows.ItemRow.{ItemRow}
use Rattle.ig_show_texts.specs.Listed.{comma_separated}
use Rattle.ig_show_texts.specs.ValueText.{places_text, span_text, value_text, values_text}
use Rattle.ig_forest_tables.specs.Forest.{Node, ItemNode}
use Rattle.ig_forest_tables.specs.StoredNodes.{StoredNode}
use Rattle.ig_forest_tables.specs.StoredItems.{StoredItem}
use Rattle.ig_forest_tables.specs.declared.node_rows.NodeRow.{NodeRow}
use Rattle.ig_forest_tables.specs.declared.entry.Choice.{Choice}
use Rattle.ig_forest_tables.specs.declared.entry.Entry.{Entry}
use Rattle.ig_show_texts.specs.ForestText.{choice_text, entry_text, head_text, node_line, node_text, place_text, item_line, item_text}
use Rattle.ig_forest_reader.specs.Runs.{Stops, IsChoice, NoItem}
use Rattle.ig_forest_reader.specs.Shown.{Added, Begun, HeadRead, IsIndex, ItemLineRead, ItemRead, Keeps, NoItemLine, NoItemRead, NoNode, NoNodeLine, NoPlace, NodeLineRead, NodeRead, NoStart, PlaceRead, Reads, StartRead, lookup, place_line}
use Rattle.ig_forest_reader.specs.declared.fault.ForestFault.{ForestFault}
use Rattle.ig_forest_reader.specs.declared.names.NameTable.{NameTable}
use Rattle.ig_forest_reader.specs.declared.fault.ForestFault.TheVariants.{NotAForest, Memory}
use Rattle.ig_forest_reader.specs.Written.{TellsNames, IsNamed, IsSmall, IsSmallEntry, IsSmallSpan, IsTagOf}
use Rattle.ig_forest_reader.proofs.Telling.{head_joined, values_joined}
use Rattle.ig_forest_reader.proofs.TellingLines.{by_parts, same_name}
use Rattle.ig_forest_reader.proofs.LinesLeft.{joined_parts}
use Rattle.ig_forest_reader.proofs.TellingForests.{bound_is, bound_small, place_joined, same_item, same_node}

-- what stands after what the line is of
pub start_joined : (what : List ℕ) (k : ℕ) (name : List ℕ) (xs : List Value) (us : List ℕ) →
    what ++ (head_text k name xs ++ (32 ∷ us)) ≡
    what ++ (decimal k ++ (32 ∷ (encode_utf8_all name ++ (32 ∷ (40 ∷ (comma_separated value_text xs ++ (41 ∷ (32 ∷ us))))))))
start_joined what k name xs us =
    ap (λ (z : List ℕ). what ++ z) (head_joined (decimal k) (encode_utf8_all name) (values_text xs) (32 ∷ us) ∙
    ap (λ (z : List ℕ). decimal k ++ (32 ∷ (encode_utf8_all name ++ (32 ∷ z)))) (values_joined xs (32 ∷ us)))

-- a line
line_alone : (start head middle us : List ℕ) →
    (start ++ (head ++ (32 ∷ (middle ++ (10 ∷ []))))) ++ us ≡ start ++ (head ++ (32 ∷ (middle ++ (10 ∷ us))))
line_alone start head middle us =
    append_assoc start (head ++ (32 ∷ (middle ++ (10 ∷ [])))) us ∙
    ap (λ (z : List ℕ). start ++ z) (append_assoc head (32 ∷ (middle ++ (10 ∷ []))) us ∙
    ap (λ (z : List ℕ). head ++ (32 ∷ z)) (append_assoc middle (10 ∷ []) us))

pub node_line_joined : (k : ℕ) (x : Node) (us : List ℕ) →
    node_line k x ++ us ≡ codes "node " ++ (head_text k x.name x.values ++ (32 ∷ (span_text x.span ++ (10 ∷ us))))
node_line_joined k x us = line_alone (codes "node ") (head_text k x.name x.values) (span_text x.span) us

pub item_line_joined : (k : ℕ) (x : ItemNode) (us : List ℕ) →
    item_line k x ++ us ≡ codes "item " ++ (head_text k x.name x.values ++ (32 ∷ (place_text x ++ (10 ∷ us))))
item_line_joined k x us = line_alone (codes "item ") (head_text k x.name x.values) (place_text x) us

-- what reading a span and the end of its line says
abbrev pub SpanTold : List ℕ → List ℕ → Span → Type 0
SpanTold behind rest span =
    (s : Span) (us : List ℕ) → IsSmallSpan s → behind ≡ span_text s ++ (10 ∷ us) → (span ≡ s) × (rest ≡ us)

-- the values were added to none
pub old_is : (core : List Nonterminal) (what : List ℕ) (k : ℕ) (bytes rest : List ℕ) (old none new : List Value) (n : ℕ) → old ≡ none →
    StartRead core what k bytes rest old new n → StartRead core what k bytes rest none new n
old_is core what k bytes rest old none new n e s = subst (λ (z : List Value). StartRead core what k bytes rest z new n) e s

-- the name that the index finds is that of the nonterminal
pub head_read : (core : List Nonterminal) (index : NameTable) (what : List ℕ) (k : ℕ)
    (bytes begun behind named word second rest : List ℕ) (n : ℕ) → IsIndex core index → lookup index word ≡ Some n →
    bytes ≡ what ++ begun → begun ≡ decimal k ++ behind → behind ≡ codes " " ++ named → named ≡ word ++ second →
    second ≡ codes " (" ++ rest → HeadRead core what k bytes rest n
head_read core index what k bytes begun behind named word second rest n is found e f g h i =
    let less = is.numbers.there word n found in
    let x = get_within core n less in
    record {
      there = less;
      name = x.0.name;
      named = ap (option_map (λ (z : Nonterminal). z.name)) x.1;
      spelled =
          e ∙ ap (λ (z : List ℕ). what ++ z) (f ∙ ap (λ (z : List ℕ). decimal k ++ z) (g ∙ ap (λ (z : List ℕ). 32 ∷ z) (h ∙
          ap (λ (z : List ℕ). z ++ second) (is.numbers.names word n x.0 found x.1) ∙ ap (λ (z : List ℕ). encode_utf8_all x.0.name ++ z) i)));
    }

-- nodes
pub no_node_start : (core : List Nonterminal) (k : ℕ) (bytes : List ℕ) → NoStart core (codes "node ") k bytes → NoNodeLine core k bytes
no_node_start core k bytes none x us few of e =
    none x.nonterminal x.name x.values (span_text x.span ++ (10 ∷ us)) few of.named (by_parts IsSmall x.values of.values)
    (e ∙ node_line_joined k x us)

pub no_node_span : (core : List Nonterminal) (k : ℕ) (bytes behind : List ℕ) (old new : List Value) (n : ℕ) →
    StartRead core (codes "node ") k bytes behind old new n →
    ((s : Span) (us : List ℕ) → IsSmallSpan s → behind ≡ span_text s ++ (10 ∷ us) → ⊥) → NoNodeLine core k bytes
no_node_span core k bytes behind old new n start none x us few of e =
    none x.span us of.span
    (start.told x.nonterminal x.name x.values (span_text x.span ++ (10 ∷ us)) few of.named (by_parts IsSmall x.values of.values)
    (e ∙ node_line_joined k x us)).2

pub node_line_read : (core : List Nonterminal) (lists : List (List Value)) (k : ℕ) (bytes behind rest : List ℕ) (new shown : List Value)
    (n place : ℕ) (span : Span) → StartRead core (codes "node ") k bytes behind [] new n → shown ≡ new →
    slice_get lists place ≡ Some shown → IsSmallSpan span → behind ≡ span_text span ++ (10 ∷ rest) → SpanTold behind rest span →
    NodeLineRead core lists k bytes rest (record { start = span.begin; end = span.end; nonterminal = n; values = place })
node_line_read core lists k bytes behind rest new shown n place span start is listed small spelled told =
    record {
      values = start.values;
      small = start.small;
      listed = listed ∙ ap Some (is ∙ start.is);
      there = start.there;
      begin = small.begin;
      end = small.end;
      name = start.name;
      named = start.named;
      spelled =
          start.spelled ∙ ap (λ (z : List ℕ). codes "node " ++ (head_text k start.name start.values ++ (32 ∷ z))) spelled;
      told = λ x us few of e.
          let head = start.told x.nonterminal x.name x.values (span_text x.span ++ (10 ∷ us)) few of.named
          (by_parts IsSmall x.values of.values) (e ∙ node_line_joined k x us) in
          let last = told x.span us of.span head.2 in
          (head.0, head.1, ap (λ (s : Span). s.begin) last.0, ap (λ (s : Span). s.end) last.0, last.1);
    }

node_text_joined : (k : ℕ) (x : Node) (us : List ℕ) →
    node_text k x ++ us ≡ node_line k x ++ (flat_map (choice_text x.name) x.alternatives ++ us)
node_text_joined k x us = append_assoc (node_line k x) (flat_map (choice_text x.name) x.alternatives) us

pub no_node_line : (core : List Nonterminal) (lists : List (List Value)) (k : ℕ) (bytes : List ℕ) → NoNodeLine core k bytes →
    NoNode core lists k bytes
no_node_line core lists k bytes none x us few of stops e =
    none x (flat_map (choice_text x.name) x.alternatives ++ us) few of (e ∙ node_text_joined k x us)

-- what reading the lines of alternatives says
abbrev pub ChoicesTold : List Nonterminal → ℕ → List ℕ → List ℕ → List Choice → Type 0
ChoicesTold core n behind rest choices =
    (name : List ℕ) (xs : List Choice) (us : List ℕ) → IsNamed core n name → AllByRecursion (IsTagOf core n) xs →
    Stops IsChoice us → behind ≡ flat_map (choice_text name) xs ++ us → (rest ≡ us) × (choices ≡ xs)

pub node_read : (core : List Nonterminal) (tells : TellsNames core) (lists : List (List Value)) (k : ℕ) (bytes behind rest : List ℕ)
    (row : NodeRow) (choices shown : List Choice) (old new : List StoredNode) → NodeLineRead core lists k bytes behind row →
    ((name : List ℕ) → IsNamed core row.nonterminal name →
    Added (IsTagOf core row.nonterminal) (flat_map (choice_text name)) behind rest [] choices) →
    ChoicesTold core row.nonterminal behind rest choices → shown ≡ choices →
    new ≡ old ++ record { row = row; alternatives = shown } ∷ [] → NodeRead core lists k bytes rest old new
node_read core tells lists k bytes behind rest row choices shown old new line all_added told is pushed =
    let added = all_added line.name line.named in
    let it : Node =
    record {
      name = line.name;
      nonterminal = row.nonterminal;
      values = line.values;
      span = record { begin = row.start; end = row.end };
      alternatives = choices;
    } in
    record {
      part = record { row = row; alternatives = shown };
      it = it;
      added = pushed;
      shows = record { nonterminal = refl; values = line.listed; begin = refl; end = refl; alternatives = is };
      meant = record {
        named = line.named;
        values = All-from_recursion IsSmall line.values line.small;
        span = record { begin = line.begin; end = line.end };
        tags = subst (All (IsTagOf core row.nonterminal)) (sym added.is) (All-from_recursion (IsTagOf core row.nonterminal) added.members added.have);
      };
      spelled =
          line.spelled ∙
          ap (λ (z : List ℕ). codes "node " ++ (head_text k line.name line.values ++ (32 ∷ (places_text row.start row.end ++ (10 ∷ z)))))
          (added.spelled ∙ ap (λ (z : List Choice). flat_map (choice_text line.name) z ++ rest) (sym added.is)) ∙
          sym (node_line_joined k it (flat_map (choice_text line.name) choices ++ rest)) ∙ sym (node_text_joined k it rest);
      told = λ x us few of stops e.
          let same = line.told x (flat_map (choice_text x.name) x.alternatives ++ us) few of (e ∙ node_text_joined k x us) in
          let last = told x.name x.alternatives us (subst (λ (m : ℕ). IsNamed core m x.name) (sym same.0) of.named)
          (by_parts (IsTagOf core row.nonterminal) x.alternatives
          (subst (λ (m : ℕ). All (IsTagOf core m) x.alternatives) (sym same.0) of.tags)) stops same.4 in (
            same_node _ x (same_name core tells row.nonterminal x.nonterminal line.name x.name same.0 line.named of.named) same.0 same.1
                (λ i. record { begin = same.2 i; end = same.3 i }) last.1,
            last.0,
          );
    }

-- items
-- what stands after the opening bracket
abbrev pub place_behind : List Value → ℕ → ℕ → List ℕ → List ℕ
place_behind xs i j us = comma_separated value_text xs ++ (93 ∷ (32 ∷ (places_text i j ++ (10 ∷ us))))

pub no_item_start : (core : List Nonterminal) (k : ℕ) (bytes : List ℕ) → NoStart core (codes "item ") k bytes → NoItemLine core k bytes
no_item_start core k bytes none x us few of e =
    none x.nonterminal x.name x.values (place_text x ++ (10 ∷ us)) few of.0.named (by_parts IsSmall x.values of.0.values)
    (e ∙ item_line_joined k x us)

place_is : (x : ItemNode) (b : Begun x) (us : List ℕ) →
    place_text x ++ (10 ∷ us) ≡ place_line x.alternative x.dot b.0 x.start x.position us
place_is x b us =
    place_joined (decimal x.alternative) (decimal x.dot) (comma_separated value_text (drop (length x.values) x.env))
    (places_text x.start x.position) (10 ∷ us) ∙
    ap (λ (z : List Value). place_line x.alternative x.dot z x.start x.position us) (bound_is x b)

pub no_item_place : (core : List Nonterminal) (k : ℕ) (bytes behind : List ℕ) (old new : List Value) (n : ℕ) →
    StartRead core (codes "item ") k bytes behind old new n → NoPlace behind → NoItemLine core k bytes
no_item_place core k bytes behind old new n start none x us few of e =
    let head = start.told x.nonterminal x.name x.values (place_text x ++ (10 ∷ us)) few of.0.named
    (by_parts IsSmall x.values of.0.values) (e ∙ item_line_joined k x us) in
    none x.alternative x.dot x.start x.position of.1.0 us (of.0.alternative, of.0.dot, of.0.start, of.0.position)
    (bound_small x of.1 of.0.env) (head.2 ∙ place_is x of.1 us)

pub item_line_read : (core : List Nonterminal) (lists grown : List (List Value)) (k : ℕ) (bytes behind rest : List ℕ)
    (new shown : List Value) (n place : ℕ) (row : ItemRow) → StartRead core (codes "item ") k bytes behind [] new n → shown ≡ new →
    slice_get lists place ≡ Some shown → Keeps lists grown → PlaceRead grown behind rest new row → row.nonterminal ≡ n →
    row.values ≡ place → ItemLineRead core grown k bytes rest row
item_line_read core lists grown k bytes behind rest new shown n place row start is listed keeps read nonterminal values =
    record {
      values = start.values;
      bound = read.bound;
      small = start.small;
      bound_small = read.small;
      listed = keeps row.values start.values (ap (slice_get lists) values ∙ listed ∙ ap Some (is ∙ start.is));
      env = read.env ∙ ap (λ (z : List Value). Some (z ++ read.bound)) start.is;
      there = subst (λ (m : ℕ). m < length core) (sym nonterminal) start.there;
      start = read.start;
      alternative = read.alternative;
      dot = read.dot;
      position = read.position;
      name = start.name;
      named = subst (λ (m : ℕ). IsNamed core m start.name) (sym nonterminal) start.named;
      spelled =
          start.spelled ∙ ap (λ (z : List ℕ). codes "item " ++ (head_text k start.name start.values ++ (32 ∷ z))) read.spelled;
      told = λ x us few of e.
          let head = start.told x.nonterminal x.name x.values (place_text x ++ (10 ∷ us)) few of.0.named
          (by_parts IsSmall x.values of.0.values) (e ∙ item_line_joined k x us) in
          let last = read.told x.alternative x.dot x.start x.position of.1.0 us
          (of.0.alternative, of.0.dot, of.0.start, of.0.position) (bound_small x of.1 of.0.env) (head.2 ∙ place_is x of.1 us) in (
            record {
              nonterminal = nonterminal ∙ head.0;
              same_values = head.1;
              env = ap₂ (λ (z w : List Value). z ++ w) head.1 last.2 ∙ sym of.1.1;
              start = last.3;
              alternative = last.0;
              dot = last.1;
              position = last.4;
            },
            last.5,
          );
    }

-- what reading the rest of the line gives
pub kept_ok : {B : Type 0} (r : Result B ForestFault) (old lists grown : List (List Value)) → Keeps old lists → OnOk r (Keeps lists grown) →
    OnOk r (Keeps old grown)
kept_ok (Ok x) old lists grown f g = λ k y e. g k y (f k y e)
kept_ok (Err e) old lists grown f g = tt

pub item_line_of : (core : List Nonterminal) (lists grown : List (List Value)) (k : ℕ) (bytes behind : List ℕ) (new shown : List Value) (n place : ℕ)
    (r : Result (ItemRow × Bor (List ℕ)) ForestFault) → StartRead core (codes "item ") k bytes behind [] new n → shown ≡ new →
    slice_get lists place ≡ Some shown → OnOk r (Keeps lists grown) →
    IfOk r (λ x. (x.0.nonterminal ≡ n) × (x.0.values ≡ place)) →
    Reads (λ x. PlaceRead grown behind x.1.now new x.0) (NoPlace behind) r →
    Reads (λ x. ItemLineRead core grown k bytes x.1.now x.0) (NoItemLine core k bytes) r
item_line_of core lists grown k bytes behind new shown n place (Ok x) start is listed keeps given read =
    item_line_read core lists grown k bytes behind x.1.now new shown n place x.0 start is listed keeps read given.0 given.1
item_line_of core lists grown k bytes behind new shown n place (Err NotAForest) start is listed keeps given read =
    no_item_place core k bytes behind [] new n start read
item_line_of core lists grown k bytes behind new shown n place (Err Memory) start is listed keeps given read = tt

item_text_joined : (k : ℕ) (x : ItemNode) (us : List ℕ) →
    item_text k x ++ us ≡ item_line k x ++ (flat_map entry_text x.entries ++ us)
item_text_joined k x us = append_assoc (item_line k x) (flat_map entry_text x.entries) us

pub no_item_line : (core : List Nonterminal) (lists : List (List Value)) (k : ℕ) (bytes : List ℕ) → NoItemLine core k bytes →
    NoItemRead core lists k bytes
no_item_line core lists k bytes none x us few of stops e =
    none x (flat_map entry_text x.entries ++ us) few of (e ∙ item_text_joined k x us)

-- what reading the lines of entries says
abbrev pub EntriesTold : List ℕ → List ℕ → List Entry → Type 0
EntriesTold behind rest entries =
    (xs : List Entry) (us : List ℕ) → AllByRecursion IsSmallEntry xs → Stops NoItem us →
    behind ≡ flat_map entry_text xs ++ us → (rest ≡ us) × (entries ≡ xs)

pub item_read : (core : List Nonterminal) (tells : TellsNames core) (lists : List (List Value)) (k : ℕ) (bytes behind rest : List ℕ)
    (row : ItemRow) (entries shown : List Entry) (old new : List StoredItem) → ItemLineRead core lists k bytes behind row →
    Added IsSmallEntry (flat_map entry_text) behind rest [] entries → EntriesTold behind rest entries → shown ≡ entries →
    new ≡ old ++ record { row = row; entries = shown } ∷ [] → ItemRead core lists k bytes rest old new
item_read core tells lists k bytes behind rest row entries shown old new line added told is pushed =
    let it : ItemNode =
    record {
      name = line.name;
      nonterminal = row.nonterminal;
      values = line.values;
      start = row.start;
      alternative = row.alternative;
      dot = row.dot;
      env = line.values ++ line.bound;
      position = row.position;
      entries = entries;
    } in
    let lines : List ℕ = flat_map entry_text entries ++ rest in
    record {
      part = record { row = row; entries = shown };
      it = it;
      added = pushed;
      shows = record {
        nonterminal = refl;
        values = line.listed;
        start = refl;
        alternative = refl;
        dot = refl;
        env = line.env;
        position = refl;
        entries = is;
      };
      meant = (
        record {
          named = line.named;
          values = All-from_recursion IsSmall line.values line.small;
          env = All-from_recursion IsSmall (line.values ++ line.bound) (joined_parts IsSmall line.values line.bound line.small line.bound_small);
          start = line.start;
          alternative = line.alternative;
          dot = line.dot;
          position = line.position;
          entries = subst (All IsSmallEntry) (sym added.is) (All-from_recursion IsSmallEntry added.members added.have);
        },
        (line.bound, refl),
      );
      spelled =
          line.spelled ∙
          ap (λ (z : List ℕ). codes "item " ++ (head_text k line.name line.values ++
          (32 ∷ place_line row.alternative row.dot line.bound row.start row.position z)))
          (added.spelled ∙ ap (λ (z : List Entry). flat_map entry_text z ++ rest) (sym added.is)) ∙
          ap (λ (z : List ℕ). codes "item " ++ (head_text k line.name line.values ++ (32 ∷ z))) (sym (place_is it (line.bound, refl) lines)) ∙
          sym (item_line_joined k it lines) ∙ sym (item_text_joined k it rest);
      told = λ x us few of stops e.
          let same = line.told x (flat_map entry_text x.entries ++ us) few of (e ∙ item_text_joined k x us) in
          let last = told x.entries us (by_parts IsSmallEntry x.entries of.0.entries) stops same.1 in (
            same_item _ x (same_name core tells row.nonterminal x.nonterminal line.name x.name same.0.nonterminal line.named of.0.named)
                same.0.nonterminal same.0.same_values same.0.start same.0.alternative same.0.dot same.0.env same.0.position last.1,
            last.0,
          );
    }
