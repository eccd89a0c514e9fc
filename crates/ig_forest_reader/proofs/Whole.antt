-- Whole texts: what was read is a forest of the tables.
use Rattle.std.proofs.Common.{◌≡◌, ℕ, zero, suc, ◌<◌, ◌++◌, List, [], ◌∷◌, Some, map, refl, sym, ap, ap₂, ◌∙◌, subst, length, slice_get}
use Rattle.std.specs.Prelude.{codes}
use Rattle.std.specs.Fmt.{decimal}
use Rattle.std.specs.List.{AllByRecursion}
use Rattle.std.proofs.lemmas.List.{append-nil}
use Rattle.std.proofs.lemmas.List.Elements.{All-contains, All-from_recursion}
use Rattle.std.proofs.lemmas.Option.{same_Some, none-some, slice_get_within, get_or_from_slice_get}
use Rattle.ig_text.proofs.Lists.{all_at, mapped_at}
use Rattle.ig_text.specs.Limits.{numbers_end}
use Rattle.ig_text.proofs.Pairwise.{key_at, partner, same_length}
use Rattle.ig_text.specs.Pairwise as pairs
use Rattle.ig_text.specs.Pairwise.{Each}
use Rattle.ig_expr.specs.declared.value.Value.{Value}
use Rattle.ig_item.specs.declared.core_grammar.Nonterminal.{Nonterminal}
use Rattle.ig_show_texts.specs.Listed.{numbered_texts}
use Rattle.ig_forest_tables.specs.Forest.{Forest, Node, ItemNode, IsForest}
use Rattle.ig_forest_tables.specs.StoredNodes.{StoredNode, rows_in}
use Rattle.ig_forest_tables.specs.StoredItems.{StoredItem}
use Rattle.ig_forest_tables.specs.Tables.{FitsTables, forest_by, item_node_by, node_by}
use Rattle.ig_forest_tables.specs.declared.node_rows.NodeRow.{NodeRow}
use Rattle.ig_show_texts.specs.ForestText.{forest_text, item_text, node_text}
use Rattle.ig_verify.specs.Sound.{IsDraft}
use Rattle.ig_forest_reader.specs.Runs.{at_end}
use Rattle.ig_forest_reader.specs.Shown.{IsBegunItem, IsFirstRoot, ItemsRead, Keeps, NodesRead, NoForest, NoItems, NoNodes, NoRoot, ShowsItem, ShowsNode, TablesRead}
use Rattle.ig_forest_reader.specs.Written.{TellsNames, HasFirstRoot, IsDraftOf, IsItemOf, IsNamed, IsNodeOf}
use Rattle.ig_forest_reader.proofs.PartsRead.{each_weaker}
use Rattle.ig_forest_reader.proofs.TellingLines.{by_parts, named_there}
use Rattle.ig_forest_reader.proofs.TellingForests.{heading_joined, items_of, items_stop, same_forest, same_root}

module _ {S A : Type 0} (P : S → A → Type 0) where
  -- what the first ones have by the others
  pub each_has : (In : A → Type 0) (Q : S → Type 0) → ((x : S) (y : A) → P x y → In y → Q x) → (xs : List S) (ys : List A) →
      Each P xs ys → AllByRecursion In ys → AllByRecursion Q xs
  each_has In Q f [] [] pairs.none a = tt
  each_has In Q f [] (y ∷ ys) e a = elim e [ ]
  each_has In Q f (x ∷ xs) [] e a = elim e [ ]
  each_has In Q f (x ∷ xs) (y ∷ ys) (pairs.more _ _ _ _ p e) a = (f x y p a.0, each_has In Q f xs ys e a.1)

  pub each_map : (In : A → Type 0) (f : S → A) → ((x : S) (y : A) → P x y → In y → f x ≡ y) → (xs : List S) (ys : List A) →
      Each P xs ys → AllByRecursion In ys → map f xs ≡ ys
  each_map In f same [] [] pairs.none a = refl
  each_map In f same [] (y ∷ ys) e a = elim e [ ]
  each_map In f same (x ∷ xs) [] e a = elim e [ ]
  each_map In f same (x ∷ xs) (y ∷ ys) (pairs.more _ _ _ _ p e) a =
      ap₂ (λ (z : A) (zs : List A). z ∷ zs) (same x y p a.0) (each_map In f same xs ys e a.1)

abbrev pub names_of : List Nonterminal → List (List ℕ)
names_of core = map (λ n. n.name) core

-- the name of a nonterminal
name_at : (core : List Nonterminal) (n : ℕ) (name : List ℕ) → IsNamed core n name → slice_get (names_of core) n ≡ Some name
name_at core n name named =
    let there = named_there (slice_get core n) name named in
    mapped_at (λ (x : Nonterminal). x.name) core n there.0 there.1 ∙ ap Some there.2

within_names : (core : List Nonterminal) (n m : ℕ) (name : List ℕ) → n ≡ m → IsNamed core m name → n < length (names_of core)
within_names core n m name same named =
    subst (λ (k : ℕ). k < length (names_of core)) (sym same) (slice_get_within (names_of core) m name (name_at core m name named))

module _ (core : List Nonterminal) (lists : List (List Value)) where
  node_same : (n : StoredNode) (x : Node) → ShowsNode lists n x → IsNodeOf core x → node_by (names_of core) lists n ≡ x
  node_same n x s p =
      let name = get_or_from_slice_get (names_of core) n.row.nonterminal x.name []
      (ap (slice_get (names_of core)) s.nonterminal ∙ name_at core x.nonterminal x.name p.named) in
      let values = get_or_from_slice_get lists n.row.values x.values [] s.values in
      λ i. record {
        name = name i;
        nonterminal = s.nonterminal i;
        values = values i;
        span = record { begin = s.begin i; end = s.end i };
        alternatives = s.alternatives i;
      }

  item_same : (n : StoredItem) (x : ItemNode) → ShowsItem lists n x → IsBegunItem core x → item_node_by (names_of core) lists n ≡ x
  item_same n x s p =
      let name = get_or_from_slice_get (names_of core) n.row.nonterminal x.name []
      (ap (slice_get (names_of core)) s.nonterminal ∙ name_at core x.nonterminal x.name p.0.named) in
      let values = get_or_from_slice_get lists n.row.values x.values [] s.values in
      let env = get_or_from_slice_get lists n.row.env x.env [] s.env in
      λ i. record {
        name = name i;
        nonterminal = s.nonterminal i;
        values = values i;
        start = s.start i;
        alternative = s.alternative i;
        dot = s.dot i;
        env = env i;
        position = s.position i;
        entries = s.entries i;
      }

  pub tables_fit : (nodes : List StoredNode) (items : List StoredItem) (xs : List Node) (ys : List ItemNode) →
      Each (ShowsNode lists) nodes xs → AllByRecursion (IsNodeOf core) xs → Each (ShowsItem lists) items ys →
      AllByRecursion (IsBegunItem core) ys → length nodes < numbers_end → length items < numbers_end →
      FitsTables (names_of core) lists nodes items
  tables_fit nodes items xs ys shown p items_shown q few_nodes few_items =
      let nodes_named = All-from_recursion (λ n. n.row.nonterminal < length (names_of core)) nodes
      (each_has (ShowsNode lists) (IsNodeOf core) (λ n. n.row.nonterminal < length (names_of core))
      (λ n x s a. within_names core n.row.nonterminal x.nonterminal x.name s.nonterminal a.named) nodes xs shown p) in
      let nodes_listed = All-from_recursion (λ n. n.row.values < length lists) nodes
      (each_has (ShowsNode lists) (IsNodeOf core) (λ n. n.row.values < length lists)
      (λ n x s a. slice_get_within lists n.row.values x.values s.values) nodes xs shown p) in
      let items_named = All-from_recursion (λ n. n.row.nonterminal < length (names_of core)) items
      (each_has (ShowsItem lists) (IsBegunItem core) (λ n. n.row.nonterminal < length (names_of core))
      (λ n x s a. within_names core n.row.nonterminal x.nonterminal x.name s.nonterminal a.0.named) items ys items_shown q) in
      let items_listed = All-from_recursion (λ n. n.row.values < length lists) items
      (each_has (ShowsItem lists) (IsBegunItem core) (λ n. n.row.values < length lists)
      (λ n x s a. slice_get_within lists n.row.values x.values s.values) items ys items_shown q) in
      let envs_listed = All-from_recursion (λ n. n.row.env < length lists) items
      (each_has (ShowsItem lists) (IsBegunItem core) (λ n. n.row.env < length lists)
      (λ n x s a. slice_get_within lists n.row.env x.env s.env) items ys items_shown q) in
      record {
        nodes_named = λ n has. All-contains (λ n. n.row.nonterminal < length (names_of core)) nodes n nodes_named has;
        nodes_listed = λ n has. All-contains (λ n. n.row.values < length lists) nodes n nodes_listed has;
        items_named = λ n has. All-contains (λ n. n.row.nonterminal < length (names_of core)) items n items_named has;
        items_listed = λ n has. All-contains (λ n. n.row.values < length lists) items n items_listed has;
        envs_listed = λ n has. All-contains (λ n. n.row.env < length lists) items n envs_listed has;
        few_nodes = few_nodes;
        few_items = few_items;
      }

  pub view_is : (root : ℕ) (nodes : List StoredNode) (items : List StoredItem) (xs : List Node) (ys : List ItemNode) →
      Each (ShowsNode lists) nodes xs → AllByRecursion (IsNodeOf core) xs → Each (ShowsItem lists) items ys →
      AllByRecursion (IsBegunItem core) ys →
      forest_by root (names_of core) lists nodes items ≡ record { root = root; nodes = xs; items = ys }
  view_is root nodes items xs ys shown p items_shown q =
      let a = each_map (ShowsNode lists) (IsNodeOf core) (node_by (names_of core) lists) node_same nodes xs shown p in
      let b = each_map (ShowsItem lists) (IsBegunItem core) (item_node_by (names_of core) lists) item_same items ys items_shown q in
      λ i. record { root = root; nodes = a i; items = b i }

-- longer lists show the same
pub still_shown_node : (lists grown : List (List Value)) → Keeps lists grown → (n : StoredNode) (x : Node) → ShowsNode lists n x →
    ShowsNode grown n x
still_shown_node lists grown keeps n x s =
    record {
      nonterminal = s.nonterminal;
      values = keeps n.row.values x.values s.values;
      begin = s.begin;
      end = s.end;
      alternatives = s.alternatives;
    }

pub still_shown_item : (lists grown : List (List Value)) → Keeps lists grown → (n : StoredItem) (x : ItemNode) → ShowsItem lists n x →
    ShowsItem grown n x
still_shown_item lists grown keeps n x s =
    record {
      nonterminal = s.nonterminal;
      values = keeps n.row.values x.values s.values;
      start = s.start;
      alternative = s.alternative;
      dot = s.dot;
      env = keeps n.row.env x.env s.env;
      position = s.position;
      entries = s.entries;
    }

pub still_shown : (lists grown : List (List Value)) (nodes : List StoredNode) (xs : List Node) → Keeps lists grown →
    Each (ShowsNode lists) nodes xs → Each (ShowsNode grown) nodes xs
still_shown lists grown nodes xs keeps shown =
    each_weaker (ShowsNode lists) (ShowsNode grown) (still_shown_node lists grown keeps) nodes xs shown

-- the root
root_shown : (lists : List (List Value)) (nodes : List StoredNode) (xs : List Node) (ys : List ItemNode) (r : ℕ) →
    Each (ShowsNode lists) nodes xs → IsFirstRoot (rows_in nodes) r → HasFirstRoot (record { root = r; nodes = xs; items = ys })
root_shown lists nodes xs ys r shown is = go (row_back nodes r is.root.row is.root.there)
  where
    row_back : (ns : List StoredNode) (k : ℕ) (row : NodeRow) → slice_get (rows_in ns) k ≡ Some row →
        (n : StoredNode) × (slice_get ns k ≡ Some n) × (n.row ≡ row)
    row_back [] k row e = absurd (none-some _ e)
    row_back (n ∷ ns) zero row e = (n, refl, same_Some n.row row e)
    row_back (n ∷ ns) (suc k) row e = row_back ns k row e

    go : (n : StoredNode) × (slice_get nodes r ≡ Some n) × (n.row ≡ is.root.row) → HasFirstRoot (record { root = r; nodes = xs; items = ys })
    go (n, at, same) =
        let x = partner shown r n at in
        record {
          node = x.0;
          there = x.1;
          of_root = sym x.2.nonterminal ∙ ap (λ (z : NodeRow). z.nonterminal) same ∙ is.root.of_root;
          first = λ v other less there zero_is.
              let m = key_at shown v other there in
              is.first v less (record { row = m.0.row; there = mapped_at (λ (z : StoredNode). z.row) nodes v m.0 m.1; of_root = m.2.nonterminal ∙ zero_is });
        }

no_root_shown : (lists : List (List Value)) (nodes : List StoredNode) (xs : List Node) → Each (ShowsNode lists) nodes xs →
    NoRoot (rows_in nodes) → (v : ℕ) (x : Node) → slice_get xs v ≡ Some x → x.nonterminal ≡ 0 → ⊥
no_root_shown lists nodes xs shown none v x there zero_is =
    let m = key_at shown v x there in
    none v (record { row = m.0.row; there = mapped_at (λ (z : StoredNode). z.row) nodes v m.0 m.1; of_root = m.2.nonterminal ∙ zero_is })

-- what reading the heading says
abbrev pub HeadingTold : List ℕ → List ℕ → ℕ → ℕ → Type 0
HeadingTold bytes begun many_nodes many_items =
    (m n : ℕ) (us : List ℕ) → m < numbers_end → n < numbers_end →
    bytes ≡ codes "forest " ++ (decimal m ++ (32 ∷ (decimal n ++ (10 ∷ us)))) →
    (many_nodes ≡ m) × (many_items ≡ n) × (begun ≡ us)

abbrev pub HeadingSpelled : List ℕ → List ℕ → ℕ → ℕ → Type 0
HeadingSpelled bytes begun many_nodes many_items =
    bytes ≡ codes "forest " ++ (decimal many_nodes ++ (32 ∷ (decimal many_items ++ (10 ∷ begun))))

abbrev pub NoHeading : List ℕ → Type 0
NoHeading bytes =
    (m n : ℕ) (us : List ℕ) → m < numbers_end → n < numbers_end →
    bytes ≡ codes "forest " ++ (decimal m ++ (32 ∷ (decimal n ++ (10 ∷ us)))) → ⊥

abbrev nodes_shown : Forest → List ℕ
nodes_shown f = numbered_texts node_text 0 f.nodes

abbrev items_shown : Forest → List ℕ
items_shown f = numbered_texts item_text 0 f.items

headed : (bytes : List ℕ) (g : Forest) → bytes ≡ forest_text g →
    bytes ≡ codes "forest " ++ (decimal (length g.nodes) ++ (32 ∷ (decimal (length g.items) ++ (10 ∷ (nodes_shown g ++ items_shown g)))))
headed bytes g e = e ∙ heading_joined (decimal (length g.nodes)) (decimal (length g.items)) (nodes_shown g ++ items_shown g)

module _ (core : List Nonterminal) (tells : TellsNames core) (bytes : List ℕ) where
  pub no_heading : NoHeading bytes → NoForest core bytes
  no_heading none g of e = none (length g.nodes) (length g.items) (nodes_shown g ++ items_shown g) of.few_nodes of.few_items (headed bytes g e)

  module _ (begun : List ℕ) (many_nodes many_items : ℕ) (heading : HeadingTold bytes begun many_nodes many_items) where
    pub no_nodes : (lists : List (List Value)) → NoNodes core lists many_nodes begun → NoForest core bytes
    no_nodes lists none g of e =
        let head = heading (length g.nodes) (length g.items) (nodes_shown g ++ items_shown g) of.few_nodes of.few_items (headed bytes g e) in
        none g.nodes (items_shown g) (sym head.0) (by_parts (IsNodeOf core) g.nodes of.nodes) (items_stop 0 g.items) head.2

    module _ (lists : List (List Value)) (behind : List ℕ) (nodes : List StoredNode)
        (read : NodesRead core lists many_nodes begun behind nodes) where
      told_nodes : (g : Forest) → IsDraftOf core g → bytes ≡ forest_text g →
          (many_items ≡ length g.items) × (read.all ≡ g.nodes) × (behind ≡ items_shown g)
      told_nodes g of e =
          let head = heading (length g.nodes) (length g.items) (nodes_shown g ++ items_shown g) of.few_nodes of.few_items (headed bytes g e) in
          let told = read.told g.nodes (items_shown g) (sym head.0) (by_parts (IsNodeOf core) g.nodes of.nodes) (items_stop 0 g.items) head.2 in
          (head.1, told.0, told.1)

      pub no_items : (grown : List (List Value)) → NoItems core grown many_items behind → NoForest core bytes
      no_items grown none g of e =
          let told = told_nodes g of e in
          none g.items [] (sym told.0) (items_of core tells g of) at_end (told.2 ∙ sym (append-nil (items_shown g)))

      pub no_root : NoRoot (rows_in nodes) → NoForest core bytes
      no_root none g of e =
          let told = told_nodes g of e in
          no_root_shown lists nodes read.all read.show none g.root of.root.node
          (ap (λ (z : List Node). slice_get z g.root) told.1 ∙ of.root.there) of.root.of_root

      pub nodes_long : many_nodes ≡ length nodes
      nodes_long = sym (same_length read.show ∙ read.long)

      module _ (grown : List (List Value)) (rest : List ℕ) (items : List StoredItem) (keeps : Keeps lists grown)
          (more : ItemsRead core grown many_items behind rest items) (few_nodes : many_nodes < numbers_end)
          (few_items : many_items < numbers_end) where
        pub all_fit : FitsTables (names_of core) grown nodes items
        all_fit =
            tables_fit core grown nodes items read.all more.all (still_shown lists grown nodes read.all keeps read.show) read.meant
            more.show more.meant (subst (λ (n : ℕ). n < numbers_end) nodes_long few_nodes)
            (subst (λ (n : ℕ). n < numbers_end) (sym (same_length more.show ∙ more.long)) few_items)

        -- more stands after the last line
        pub no_rest : (rest ≡ [] → ⊥) → NoForest core bytes
        no_rest not g of e =
            let told = told_nodes g of e in
            not (more.told g.items [] (sym told.0) (items_of core tells g of) at_end (told.2 ∙ sym (append-nil (items_shown g)))).1

        text_read : (root : ℕ) → HeadingSpelled bytes begun many_nodes many_items → rest ≡ [] →
            bytes ≡ forest_text (record { root = root; nodes = read.all; items = more.all })
        text_read root head ends =
            let f : Forest = record { root = root; nodes = read.all; items = more.all } in
            let lines : begun ≡ nodes_shown f ++ items_shown f =
            read.spelled ∙ ap (λ (z : List ℕ). nodes_shown f ++ z)
            (more.spelled ∙ ap (λ (z : List ℕ). items_shown f ++ z) ends ∙ append-nil (items_shown f)) in
            head ∙ ap₂ (λ (m n : ℕ). codes "forest " ++ (decimal m ++ (32 ∷ (decimal n ++ (10 ∷ begun))))) (sym read.long) (sym more.long) ∙
            ap (λ (z : List ℕ). codes "forest " ++ (decimal (length read.all) ++ (32 ∷ (decimal (length more.all) ++ (10 ∷ z))))) lines ∙
            sym (heading_joined (decimal (length read.all)) (decimal (length more.all)) (nodes_shown f ++ items_shown f))

        pub tables_read : (root : ℕ) (f : Forest) → HeadingSpelled bytes begun many_nodes many_items → rest ≡ [] → IsFirstRoot (rows_in nodes) root →
            f ≡ forest_by root (names_of core) grown nodes items → TablesRead core bytes f
        tables_read root f head ends first is =
            let view = is ∙ view_is core grown root nodes items read.all more.all (still_shown lists grown nodes read.all keeps read.show)
            read.meant more.show more.meant in
            let root_is = root_shown lists nodes read.all more.all root read.show first in
            subst (TablesRead core bytes) (sym view)
            (record {
              few_nodes = subst (λ (n : ℕ). n < numbers_end) (sym read.long) few_nodes;
              few_items = subst (λ (n : ℕ). n < numbers_end) (sym more.long) few_items;
              nodes = read.meant;
              items = more.meant;
              root = root_is;
              spelled = text_read root head ends;
              told = λ g of e.
                  let told = told_nodes g of e in
                  let same = more.told g.items [] (sym told.0) (items_of core tells g of) at_end
                  (told.2 ∙ sym (append-nil (items_shown g))) in
                  same_forest _ g (same_root _ g root_is of.root told.1) told.1 same.0;
            })

-- the draft that was read
parts_of : (core : List Nonterminal) (xs : List ItemNode) → AllByRecursion (IsBegunItem core) xs → AllByRecursion (IsItemOf core) xs
parts_of core [] a = tt
parts_of core (x ∷ xs) a = (a.0.0, parts_of core xs a.1)

pub draft_read : (core : List Nonterminal) (bytes : List ℕ) (f : Forest) → TablesRead core bytes f → IsForest f → IsDraft f
draft_read core bytes f read is =
    record {
      forest = is;
      begins = λ k it there. (all_at (IsBegunItem core) f.items k it read.items there).1;
    }

pub draft_of_read : (core : List Nonterminal) (bytes : List ℕ) (f : Forest) → TablesRead core bytes f → IsForest f → IsDraftOf core f
draft_of_read core bytes f read is =
    record {
      draft = draft_read core bytes f read is;
      few_nodes = read.few_nodes;
      few_items = read.few_items;
      nodes = All-from_recursion (IsNodeOf core) f.nodes read.nodes;
      items = All-from_recursion (IsItemOf core) f.items (parts_of core f.items read.items);
      root = read.root;
    }

pub no_forest_read : (core : List Nonterminal) (bytes : List ℕ) (f : Forest) → TablesRead core bytes f → (IsForest f → ⊥) →
    NoForest core bytes
no_forest_read core bytes f read not g of e = not (subst IsForest (sym (read.told g of e)) of.draft.forest)
