-- The declarations of a grammar as it is written are nonterminals of its core grammar, under their numbers and names.
use Rattle.std.proofs.Common.{◌≡◌, ◌∙◌, ℕ, zero, suc, ◌+◌, List, [], ◌∷◌, ◌++◌, map, Bool, true, false, if◌then◌else◌, ℤ, Option, Some, length, slice_get, refl, sym, ap, ap₂, subst, arith}
use Rattle.std.specs.Prelude.{◌==◌, option_map}
use Rattle.std.proofs.lemmas.Option.{same_Some}
use Rattle.std.proofs.lemmas.List.{map-append, append_assoc, length-map}
use Rattle.ig_text.specs.declared.tag.Tag.{Tag}
use Rattle.ig_text.specs.declared.tag.Tag.TheVariants as tag
use Rattle.ig_grammar.specs.Checked.{CheckedGrammar}
use Rattle.ig_grammar.specs.Names.{names}
use Rattle.ig_grammar.specs.Numbering.{IsDeclaration, alternatives, as_written, tag_among, tag_of}
use Rattle.ig_grammar.specs.declared.declaration.Decl.{Decl}
use Rattle.ig_grammar.specs.declared.declaration.DeclKind.TheVariants.{Syntax}
use Rattle.ig_grammar.specs.declared.grammar.Grammar.{Grammar}
use Rattle.ig_grammar.specs.declared.place.Shape.{Shape}
use Rattle.ig_grammar.specs.declared.place.Shape.TheVariants.{Rule, Opt, Star, Plus, SepPlus, SepStar, Group, Root}
use Rattle.ig_grammar.specs.declared.symbol.Alt.{Alt}
use Rattle.ig_item.specs.Core.{IsAlternative, numbered as from_one}
use Rattle.ig_item.specs.declared.core_grammar.CoreAlt.{CoreAlt}
use Rattle.ig_item.specs.declared.core_grammar.Nonterminal.{Nonterminal}
use Rattle.ig_pass.specs.Added.{root_name}
use Rattle.ig_pass.specs.Rewriting.{rewritten_declaration}
use Rattle.ig_pass.specs.Rooted.{has_root, is_root, root_declaration, rooted, with_root}
use Rattle.ig_levels.specs.Levels.{LevelsOf, lowered_grammar as without_levels, lowered_declaration as without_levels_in, names_levelled}
use Rattle.ig_blocks_parts.specs.Blocks.{BlocksOf, lowered_of as without_blocks, declaration_by, root_by, lowered_declarations, setting_of}
use Rattle.ig_blocks_parts.specs.Setting.{Setting}
use Rattle.ig_lexical.specs.Layout.{LayoutOf, laid_of, laid_declaration}
use Rattle.ig_lexical.specs.Filters.{FiltersOf, attached, attached_of}
use Rattle.ig_ebnf_variables.specs.Lists.{ListsOf, lowered, new_declaration, all_added, decls_of, forms_of}
use Rattle.ig_core.specs.CoreOf.{Shaped, shaped, unrooted, root_of, numbered, number_of, alternatives_of, nonterminals_of, core_of}
use Rattle.ig_core.specs.Laws.{NumbersDeclarations}
use Rattle.ig_core.specs.Lowered.{BeforeLists, Lowered, CoreOf}
use Rattle.ig_core.specs.Notation.{unchanged}
use Rattle.ig_core.proofs.FormsAdded.{HasNoRule, no_rule_joined, no_rule_added}
use Rattle.ig_core.proofs.Places.{origin}

-- the declarations of the grammar stand first in the other one, as rules under their names, and none behind them is a rule
record Leads (g : Grammar) (d : CheckedGrammar) : Type 0 where
  others : List (List ℕ)
  forms : List Shape
  names_are : names d.grammar.decls ≡ names g.decls ++ others
  shapes_are : d.shapes ≡ as_written g ++ forms
  no_rule : HasNoRule forms

-- and one stands for the root
record Stands (g : Grammar) (d : CheckedGrammar) : Type 0 where
  leads : Leads g d
  has : has_root d.shapes ≡ true
  beside : length d.shapes ≡ length d.grammar.decls

-- a grammar in which one stands for the root is its own rooted one
as_rooted : (d : CheckedGrammar) → has_root d.shapes ≡ true → rooted Syntax d ≡ d
as_rooted d has = ap (λ (b : Bool). if b then d else with_root Syntax d) has

stands_rooted : (g : Grammar) (d : CheckedGrammar) → Stands g d → Stands g (rooted Syntax d)
stands_rooted g d s = subst (Stands g) (sym (as_rooted d s.has)) s

-- as it is written no declaration stands for the root, so one is added
none_written : (decls : List Decl) → has_root (map (λ decl. Rule) decls) ≡ false
none_written [] = refl
none_written (d ∷ ds) = none_written ds

root_behind : (decls : List Decl) → has_root (map (λ decl. Rule) decls ++ Root ∷ []) ≡ true
root_behind [] = refl
root_behind (d ∷ ds) = root_behind ds

as_many : (decls : List Decl) (root : Decl) → length (map (λ decl. Rule) decls ++ Root ∷ []) ≡ length (decls ++ root ∷ [])
as_many [] root = refl
as_many (d ∷ ds) root = ap suc (as_many ds root)

only_root : HasNoRule (Root ∷ [])
only_root zero s e = λ is. let same : Root ≡ s = same_Some Root s e in let never : Root ≡ Rule = same ∙ is in cc
only_root (suc k) s e = absurd (cc)

written : (g : Grammar) → Stands g (rooted Syntax (unchanged g))
written g =
    subst (Stands g) (sym (ap (λ (b : Bool). if b then unchanged g else with_root Syntax (unchanged g)) (none_written g.decls)))
    (record {
      leads = record {
        others = root_name ∷ [];
        forms = Root ∷ [];
        names_are = map-append (λ (d : Decl). d.name) g.decls (root_declaration Syntax g ∷ []);
        shapes_are = refl;
        no_rule = only_root;
      };
      has = root_behind g.decls;
      beside = as_many g.decls (root_declaration Syntax g);
    })

-- a pass keeps the shapes, and the names
kept : (g : Grammar) (d : CheckedGrammar) (start : Option (List ℕ)) (tabs : Option ℤ) (decls : List Decl) → Stands g d →
    names decls ≡ names d.grammar.decls →
    Stands g (record { grammar = record { start = start; tabs = tabs; decls = decls }; shapes = d.shapes })
kept g d start tabs decls s same =
    record {
      leads = record {
        others = s.leads.others;
        forms = s.leads.forms;
        names_are = same ∙ s.leads.names_are;
        shapes_are = s.leads.shapes_are;
        no_rule = s.leads.no_rule;
      };
      has = s.has;
      beside =
          s.beside ∙ sym (length-map d.grammar.decls (λ (z : Decl). z.name)) ∙ ap length (sym same) ∙
          length-map decls (λ (z : Decl). z.name);
    }

same_names : (f : Decl → Decl) → ((d : Decl) → (f d).name ≡ d.name) → (decls : List Decl) → names (map f decls) ≡ names decls
same_names f same [] = refl
same_names f same (d ∷ ds) = ap₂ (λ (n : List ℕ) (ns : List (List ℕ)). n ∷ ns) (same d) (same_names f same ds)

names_without_blocks : (s : Setting) (shapes : List Shape) (decls : List Decl) → length shapes ≡ length decls →
    names (lowered_declarations s shapes decls) ≡ names decls
names_without_blocks s [] [] e = refl
names_without_blocks s [] (d ∷ ds) e = absurd (omega (arith, e))
names_without_blocks s (shape ∷ shapes) [] e = refl
names_without_blocks s (shape ∷ shapes) (d ∷ ds) e =
    let rest : length shapes ≡ length ds = omega (arith, e) in
    ap₂ (λ (n : List ℕ) (ns : List (List ℕ)). n ∷ ns) (same (is_root shape)) (names_without_blocks s shapes ds rest)
  where
    same : (b : Bool) → (if b then root_by s d else declaration_by s d).name ≡ d.name
    same true = refl
    same false = refl

after_levels : (g : Grammar) (d : CheckedGrammar) → Stands g (rooted Syntax d) → Stands g (LevelsOf d)
after_levels g d s =
    let r = rooted Syntax d in
    kept g r r.grammar.start r.grammar.tabs (without_levels r.grammar).decls s
    (same_names (without_levels_in (names_levelled r.grammar.decls)) (λ decl. refl) r.grammar.decls)

after_blocks : (g : Grammar) (d : CheckedGrammar) → Stands g (rooted Syntax d) → Stands g (BlocksOf d)
after_blocks g d s =
    let r = rooted Syntax d in
    kept g r r.grammar.start r.grammar.tabs (without_blocks r).grammar.decls s
    (names_without_blocks (setting_of r.grammar.decls r.shapes) r.shapes r.grammar.decls s.beside)

after_layout : (g : Grammar) (d : CheckedGrammar) → Stands g (rooted Syntax d) → Stands g (LayoutOf d)
after_layout g d s =
    let r = rooted Syntax d in
    kept g r r.grammar.start r.grammar.tabs (laid_of r).grammar.decls s
    (same_names (laid_declaration r.grammar.decls) (λ decl. refl) r.grammar.decls)

after_filters : (g : Grammar) (d : CheckedGrammar) → Stands g (rooted Syntax d) → Stands g (FiltersOf d)
after_filters g d s =
    let r = rooted Syntax d in
    kept g r r.grammar.start r.grammar.tabs (attached_of r).grammar.decls s
    (same_names (rewritten_declaration (λ decl. attached)) (λ decl. refl) r.grammar.decls)

root_before : (shapes others : List Shape) → has_root shapes ≡ true → has_root (shapes ++ others) ≡ true
root_before [] others e = absurd (cc)
root_before (s ∷ shapes) others e = go (is_root s) (root_before shapes others) e
  where
    go : (b : Bool) → (has_root shapes ≡ true → has_root (shapes ++ others) ≡ true) →
        (if b then true else has_root shapes) ≡ true → (if b then true else has_root (shapes ++ others)) ≡ true
    go true rest e = refl
    go false rest e = rest e

-- the pass for lists adds declarations behind the others
lowered_leads : (g : Grammar) (d : CheckedGrammar) → Leads g d → Leads g (lowered d)
lowered_leads g d l =
    let made = all_added d.grammar.decls in
    record {
      others = l.others ++ names (decls_of made);
      forms = l.forms ++ forms_of made;
      names_are =
          map-append (λ (z : Decl). z.name) (map new_declaration d.grammar.decls) (decls_of made) ∙
          ap (λ (z : List (List ℕ)). z ++ names (decls_of made))
          (same_names new_declaration (λ decl. refl) d.grammar.decls ∙ l.names_are) ∙
          append_assoc (names g.decls) l.others (names (decls_of made));
      shapes_are =
          ap (λ (z : List Shape). z ++ forms_of made) l.shapes_are ∙ append_assoc (as_written g) l.forms (forms_of made);
      no_rule = no_rule_joined l.forms (forms_of made) l.no_rule (no_rule_added d.grammar.decls);
    }

after_lists : (g : Grammar) (d : CheckedGrammar) → Stands g d → Leads g (ListsOf d)
after_lists g d s =
    subst (Leads g)
    (sym (as_rooted (lowered d) (root_before d.shapes (forms_of (all_added d.grammar.decls)) s.has)))
    (lowered_leads g d s.leads)

before_lists : (g : Grammar) → Stands g (BeforeLists (unchanged g))
unfolding BeforeLists
before_lists g =
    let levels : Stands g (LevelsOf (unchanged g)) = after_levels g (unchanged g) (written g) in
    let blocks : Stands g (BlocksOf (LevelsOf (unchanged g))) =
    after_blocks g (LevelsOf (unchanged g)) (stands_rooted g (LevelsOf (unchanged g)) levels) in
    let layout : Stands g (LayoutOf (BlocksOf (LevelsOf (unchanged g)))) =
    after_layout g (BlocksOf (LevelsOf (unchanged g))) (stands_rooted g (BlocksOf (LevelsOf (unchanged g))) blocks) in
    after_filters g (LayoutOf (BlocksOf (LevelsOf (unchanged g))))
    (stands_rooted g (LayoutOf (BlocksOf (LevelsOf (unchanged g)))) layout)

lowered_in : (g : Grammar) → Leads g (Lowered (unchanged g))
unfolding Lowered
lowered_in g = after_lists g (BeforeLists (unchanged g)) (before_lists g)

abbrev row_name : Shaped → List ℕ
row_name x = x.decl.name

abbrev name_of : Nonterminal → List ℕ
name_of x = x.name

-- the first of what doesn't stand for the root are the declarations of the grammar
name_in_front : (written decls : List Decl) (forms : List Shape) (others : List (List ℕ)) → names decls ≡ names written ++ others →
    (k : ℕ) (decl : Decl) → slice_get written k ≡ Some decl →
    option_map row_name (slice_get (unrooted decls (map (λ decl. Rule) written ++ forms)) k) ≡ Some decl.name
name_in_front [] decls forms others e k decl at = absurd (cc)
name_in_front (w ∷ ws) [] forms others e k decl at = absurd (cc)
name_in_front (w ∷ ws) (d ∷ ds) forms others e zero decl at =
    let both : d.name ∷ names ds ≡ w.name ∷ (names ws ++ others) = e in
    let first : d.name ≡ w.name = cc in
    ap Some (first ∙ ap (λ (z : Decl). z.name) (same_Some w decl at))
name_in_front (w ∷ ws) (d ∷ ds) forms others e (suc k) decl at =
    let both : d.name ∷ names ds ≡ w.name ∷ (names ws ++ others) = e in
    let rest : names ds ≡ names ws ++ others = cc in
    name_in_front ws ds forms others rest k decl at

-- a row of the shape `Rule` is one of them
rule_in_front : (written decls : List Decl) (forms : List Shape) (others : List (List ℕ)) → names decls ≡ names written ++ others →
    HasNoRule forms → (k : ℕ) (row : Shaped) →
    slice_get (unrooted decls (map (λ decl. Rule) written ++ forms)) k ≡ Some row → row.shape ≡ Rule →
    (decl : Decl) × (slice_get written k ≡ Some decl)
rule_in_front [] decls forms others e none k row at rule =
    let from = origin decls forms k row at in absurd (none from.k row.shape from.shape_at rule)
rule_in_front (w ∷ ws) [] forms others e none k row at rule = absurd (cc)
rule_in_front (w ∷ ws) (d ∷ ds) forms others e none zero row at rule = (w, refl)
rule_in_front (w ∷ ws) (d ∷ ds) forms others e none (suc k) row at rule =
    let both : d.name ∷ names ds ≡ w.name ∷ (names ws ++ others) = e in
    let rest : names ds ≡ names ws ++ others = cc in
    rule_in_front ws ds forms others rest none k row at rule

name_at : (number : List ℕ → ℕ) (n : ℕ) (rows : List Shaped) (k : ℕ) →
    option_map name_of (slice_get (nonterminals_of number n rows) k) ≡ option_map row_name (slice_get rows k)
name_at number n [] k = refl
name_at number n (x ∷ rows) zero = refl
name_at number n (x ∷ rows) (suc k) = name_at number (suc n) rows k

-- the tag of an alternative is that of its row's shape and number
record TagOf (shape : Shape) (n : ℕ) (x : CoreAlt) : Type 0 where
  place : ℕ
  number : ℕ
  tagged : x.tag ≡ tag_of shape number place
  numbered_so : number ≡ n

record RowOf (rows : List Shaped) (k n : ℕ) (nonterminal : Nonterminal) : Type 0 where
  row : Shaped
  there : slice_get rows k ≡ Some row
  tags : (i : ℕ) (x : CoreAlt) → slice_get nonterminal.alternatives i ≡ Some x → TagOf row.shape n x

tag_at : (number : List ℕ → ℕ) (s : Shape) (n k : ℕ) (alts : List Alt) (i : ℕ) (x : CoreAlt) →
    slice_get (alternatives_of number s n k alts) i ≡ Some x → TagOf s n x
tag_at number s n k [] i x e = absurd (cc)
tag_at number s n k (a ∷ others) zero x e =
    record {
      place = k;
      number = n;
      tagged = ap (λ (y : CoreAlt). y.tag) (sym (same_Some _ x e));
      numbered_so = refl;
    }
tag_at number s n k (a ∷ others) (suc i) x e = tag_at number s n (suc k) others i x e

row_of : (number : List ℕ → ℕ) (n : ℕ) (rows : List Shaped) (k m : ℕ) → m ≡ n + k → (nonterminal : Nonterminal) →
    slice_get (nonterminals_of number n rows) k ≡ Some nonterminal → RowOf rows k m nonterminal
row_of number n [] k m is nonterminal e = absurd (cc)
row_of number n (x ∷ rows) zero m is nonterminal e =
    subst (RowOf (x ∷ rows) 0 m) (same_Some _ nonterminal e)
    (record {
      row = x;
      there = refl;
      tags = λ i y at.
          let t = tag_at number x.shape n 1 (alternatives x.decl.levels) i y at in
          record {
            place = t.place;
            number = t.number;
            tagged = t.tagged;
            numbered_so = let a = t.numbered_so in omega (arith, a, is);
          };
    })
row_of number n (x ∷ rows) (suc k) m is nonterminal e =
    let next : m ≡ suc n + k = omega (arith, is) in
    let r = row_of number (suc n) rows k m next nonterminal e in record { row = r.row; there = r.there; tags = r.tags }

-- only the shape `Rule` has tags of rules
never_rule : (one two : Tag) (k n a : ℕ) → (one ≡ tag.Rule n a → ⊥) → (two ≡ tag.Rule n a → ⊥) → tag_among one two k ≡ tag.Rule n a → ⊥
never_rule one two k n a first second = go (k == 1)
  where
    go : (b : Bool) → (if b then one else two) ≡ tag.Rule n a → ⊥
    go true e = first e
    go false e = second e

rule_alone : (s : Shape) (d k n a : ℕ) → tag_of s d k ≡ tag.Rule n a → (s ≡ Rule) × (d ≡ n)
rule_alone Rule d k n a e = let same : d ≡ n = cc in (refl, same)
rule_alone Opt d k n a e = absurd (never_rule tag.Absent tag.Present k n a (λ f. cc) (λ f. cc) e)
rule_alone Star d k n a e = absurd (never_rule tag.Nil tag.Snoc k n a (λ f. cc) (λ f. cc) e)
rule_alone Plus d k n a e = absurd (never_rule tag.One tag.More k n a (λ f. cc) (λ f. cc) e)
rule_alone SepPlus d k n a e = absurd (never_rule tag.One tag.More k n a (λ f. cc) (λ f. cc) e)
rule_alone SepStar d k n a e = absurd (never_rule tag.Absent tag.Present k n a (λ f. cc) (λ f. cc) e)
rule_alone Group d k n a e = absurd (cc)
rule_alone Root d k n a e = absurd (cc)

counted : (xs : List CoreAlt) (a : ℕ) (x : CoreAlt) → from_one xs a ≡ Some x → (i : ℕ) × (slice_get xs i ≡ Some x)
counted xs zero x e = absurd (cc)
counted xs (suc i) x e = (i, e)

module _ (g : Grammar) (d : CheckedGrammar) (l : Leads g d) where
  abbrev core : List Nonterminal
  core = core_of d.grammar d.shapes

  abbrev number : List ℕ → ℕ
  number = number_of d.grammar d.shapes

  named : (n : ℕ) (decl : Decl) → IsDeclaration g n decl → option_map name_of (slice_get core n) ≡ Some decl.name
  named n decl is =
      ap (λ (z : ℕ). option_map name_of (slice_get core z)) is.1 ∙ name_at number 1 (unrooted d.grammar.decls d.shapes) is.0 ∙
      ap (λ (z : List Shape). option_map row_name (slice_get (unrooted d.grammar.decls z) is.0)) l.shapes_are ∙
      name_in_front g.decls d.grammar.decls l.forms l.others l.names_are is.0 decl is.2

  -- the row of a rule's tag is a declaration of the grammar
  declared : (n : ℕ) (row : Shaped) → slice_get (numbered d.grammar d.shapes) n ≡ Some row → row.shape ≡ Rule →
      (decl : Decl) × IsDeclaration g n decl
  declared zero row at rule =
      let same : Root ≡ row.shape = ap (λ (z : Shaped). z.shape) (same_Some (shaped (root_of d.grammar d.shapes) Root) row at) in
      let never : Root ≡ Rule = same ∙ rule in absurd (cc)
  declared (suc k) row at rule =
      let found =
      rule_in_front g.decls d.grammar.decls l.forms l.others l.names_are l.no_rule k row
      (subst (λ (z : List Shape). slice_get (unrooted d.grammar.decls z) k ≡ Some row) l.shapes_are at) rule in
      (found.0, (k, refl, found.1))

  ruled : (n a m k : ℕ) (nonterminal : Nonterminal) (alternative : CoreAlt) → IsAlternative core n a nonterminal alternative →
      alternative.tag ≡ tag.Rule m k → (decl : Decl) × IsDeclaration g m decl
  ruled n a m k nonterminal alternative has tagged =
      let at = counted nonterminal.alternatives a alternative has.has in
      let same_place : n ≡ 0 + n = omega arith in
      let row = row_of number 0 (numbered d.grammar d.shapes) n n same_place nonterminal has.there in
      let t = row.tags at.0 alternative at.1 in
      let rule = rule_alone row.row.shape t.number t.place m k (sym t.tagged ∙ tagged) in
      let same : n ≡ m = sym t.numbered_so ∙ rule.1 in
      subst (λ (z : ℕ). (decl : Decl) × IsDeclaration g z decl) same (declared n row.row row.there rule.0)

pub declarations_numbered : (g : Grammar) → NumbersDeclarations g
unfolding CoreOf
declarations_numbered g =
    let leads = lowered_in g in
    record { named = named g (Lowered (unchanged g)) leads; only = ruled g (Lowered (unchanged g)) leads }
