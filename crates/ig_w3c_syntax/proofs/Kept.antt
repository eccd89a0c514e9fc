-- Tokens that keep the rules read as a grammar: each part in the own notation, by the rule of that part there.
use Rattle.std.proofs.Common.{◌≡◌, ℕ, List, [], ◌∷◌, refl, sym, subst}
use Rattle.std.specs.Prelude.{Some, None, All}
use Rattle.std.proofs.lemmas.List.Elements.{All-head, All-tail}
use Rattle.ig_text.specs.declared.pattern.Pattern.TheVariants as patterns
use Rattle.ig_notation_syntax.specs.Token as own
use Rattle.ig_notation_syntax.specs.Rules as reads
use Rattle.ig_notation_syntax.specs.Rules.{ReadsSign, ReadsFilters, ReadsAtom, ReadsSymbol, ReadsAlternative, ReadsAlternatives, ReadsDeclarations, FollowsRules, filtered}
use Rattle.ig_grammar.specs.Symbol as tree
use Rattle.ig_grammar.specs.Symbol.{Symbol, Symbols, no_symbols, next_symbol, listed, Alternatives, no_alternatives, next_alternative}
use Rattle.ig_grammar.specs.Alternative.{gathered_alternatives}
use Rattle.ig_grammar.specs.Gathered.{gathered_listed}
use Rattle.ig_grammar.specs.declared.declaration.Level.{Level}
use Rattle.ig_grammar.specs.declared.filter.Filter.{Filter}
use Rattle.ig_grammar.specs.declared.filter.Filter.TheVariants as filters
use Rattle.ig_grammar.specs.declared.symbol.Alt.{Alt}
use Rattle.ig_grammar.specs.declared.declaration.Assoc.TheVariants as assoc
use Rattle.ig_grammar.specs.declared.declaration.DeclKind.TheVariants as decls
use Rattle.ig_grammar.specs.declared.declaration.Decl.{Decl}
use Rattle.ig_grammar.specs.declared.grammar.Grammar.{Grammar}
use Rattle.ig_w3c_syntax.specs.Token.{Token, Head}
use Rattle.ig_w3c_syntax.specs.Rules.{IsSign, once, option, star, plus, IsExclusion, nothing, excluded, IsAtom, name, string, code, set, group, IsItem, item, IsAlternative, last_item, further_item, IsAlternatives, last_alternative, further_alternative, AreRules, no_rule, next_rule, KeepsRules, rules}
use Rattle.ig_w3c_syntax.specs.Reading.{within, declared, in_own_notation, ReadsAs}
use Rattle.ig_w3c_syntax.specs.RuleForms as form
use Rattle.ig_w3c_syntax.specs.RuleForms.{IsWhole}
use Rattle.ig_w3c_syntax.specs.RuleLaws.{KeptRulesRead, OneReading, DeclarationsRead, ReadsHaveForms}

pub sign_read : {s r : List Token} → IsSign s r → (x : Symbol) → (y : Symbol) × ReadsSign (within s) (within r) x y
sign_read (once r) x = (x, reads.once (within r) x)
sign_read (option r) x = (tree.Opt x, reads.option (within r) x)
sign_read (star r) x = (tree.Star x, reads.star (within r) x)
sign_read (plus r) x = (tree.Plus x, reads.plus (within r) x)

pub exclusion_read : {s r : List Token} → IsExclusion s r → (fs : List Filter) × ReadsFilters (within s) (within r) fs
exclusion_read (nothing r) = ([], reads.no_filter (within r))
exclusion_read (excluded word r) = (
  filters.Not (patterns.Literal word) ∷ [],
  reads.next_filter own.Backslash (own.Literal word) (patterns.Literal word) (filters.Not (patterns.Literal word)) (within r) (within r) []
      (reads.excluded (patterns.Literal word)) (reads.literal_pattern word) (reads.no_filter (within r)),
)

-- an item's symbol, from those of its parts
symbol_read : (s m q r : List own.Token) (x y : Symbol) (fs : List Filter) → ReadsAtom s m x → ReadsSign m q x y → ReadsFilters q r fs →
    ReadsSymbol s r (filtered y fs)
symbol_read s m q r x y fs a b c =
    reads.unlabelled s r (filtered y fs)
    (reads.unmarked s r (filtered y fs) (reads.atom s m q r x y (filtered y fs) fs a b c refl))

mutual
  pub atom_read : {s r : List Token} → IsAtom s r → (x : Symbol) × ReadsAtom (within s) (within r) x
  atom_read (name x r) = (tree.Call x [], reads.bare_call x (within r))
  atom_read (string word r) = (tree.Literal word, reads.literal word (within r))
  atom_read (code c r) = (tree.Literal (c ∷ []), reads.literal (c ∷ []) (within r))
  atom_read (set class r) = (tree.OneOf class, reads.class class (within r))
  atom_read (group s r a) = let g = alternatives_read a in (tree.Group g.0, reads.group (within s) (within r) g.0 g.1)

  pub item_read : {s r : List Token} → IsItem s r → (x : Symbol) × ReadsSymbol (within s) (within r) x
  item_read (item s m q r a b c) =
      let x = atom_read a in
      let y = sign_read b x.0 in
      let z = exclusion_read c in (
        filtered y.0 z.0,
        symbol_read (within s) (within m) (within q) (within r) x.0 y.0 z.0 x.1 y.1 z.1,
      )

  pub alternative_read : {s r : List Token} → IsAlternative s r → (xs : Symbols) × ReadsAlternative (within s) (within r) xs
  alternative_read (last_item s r i) =
      let x = item_read i in
      (next_symbol x.0 no_symbols, reads.further_symbol (within s) (within r) (within r) x.0 no_symbols x.1 (reads.no_symbol (within r)))
  alternative_read (further_item s m r i a) =
      let x = item_read i in
      let xs = alternative_read a in
      (next_symbol x.0 xs.0, reads.further_symbol (within s) (within m) (within r) x.0 xs.0 x.1 xs.1)

  pub alternatives_read : {s r : List Token} → IsAlternatives s r → (ys : Alternatives) × ReadsAlternatives (within s) (within r) ys
  alternatives_read (last_alternative s r a) =
      let xs = alternative_read a in (next_alternative xs.0 no_alternatives, reads.last_alternative (within s) (within r) xs.0 xs.1)
  alternatives_read (further_alternative s m r a b) =
      let xs = alternative_read a in
      let ys = alternatives_read b in
      (next_alternative xs.0 ys.0, reads.further_alternative (within s) (within m) (within r) xs.0 ys.0 xs.1 ys.1)

-- alternatives as they stand in a level
abbrev pub alts_of : Alternatives → List Alt
alts_of no_alternatives = []
alts_of (next_alternative xs ys) = record { symbols = listed xs } ∷ alts_of ys

pub alts_gathered : (ys : Alternatives) → ys ≡ gathered_alternatives (alts_of ys)
alts_gathered no_alternatives = refl
alts_gathered (next_alternative xs ys) = rw (gathered_listed xs, sym (alts_gathered ys)) refl

-- rules as declarations
ended : {m : List Token} → AreRules m → within m ≡ own.Semicolon ∷ declared m
ended no_rule = refl
ended (next_rule x s m a more) = refl

pub rules_read : {s : List Token} → AreRules s → (ds : List Decl) × ReadsDeclarations (declared s) ds
rules_read no_rule = ([], reads.no_declaration)
rules_read (next_rule x s m a more) =
    let ys = alternatives_read a in
    let ds = rules_read more in
    let alts = alts_of ys.0 in
    let level : Level = record { assoc = assoc.Free; alts = alts } in
    let closed : ReadsAlternatives (within s) (own.Semicolon ∷ declared m) ys.0 =
    subst (λ z. ReadsAlternatives (within s) z ys.0) (ended more) ys.1 in
    let l = reads.level (within s) (within s) (own.Semicolon ∷ declared m) assoc.Free alts ys.0 (reads.free (within s)) closed (alts_gathered ys.0) in
    let d = reads.without_parameters own.Lexical decls.Lexical x (within s) (declared m) (level ∷ []) reads.lexical
    (reads.last_level (within s) (own.Semicolon ∷ declared m) level l) in (
      record { kind = decls.Lexical; name = x; params = []; levels = level ∷ [] } ∷ ds.0,
      reads.further_declaration (declared (Head x ∷ s)) (declared m) _ ds.0 d ds.1,
    )

pub kept_rules_read : KeptRulesRead
kept_rules_read tokens (rules x s r) =
    let ds = rules_read r in (
      record { start = Some x; tabs = None; decls = ds.0 },
      record {
        keeps = rules x s r;
        reading = reads.with_start x (declared (Head x ∷ s)) None ds.0 (reads.without_tabs (declared (Head x ∷ s)) ds.0 ds.1);
      },
    )

-- the same declarations without the start line
kept_declarations : (tokens : List Token) (k : KeepsRules tokens) →
    FollowsRules (declared tokens) (record { start = None; tabs = None; decls = (kept_rules_read tokens k).0.decls })
unfolding rules_read kept_rules_read
kept_declarations _ (rules x s r) = let ds = rules_read r in reads.without_start (declared (Head x ∷ s)) None ds.0 (reads.without_tabs (declared (Head x ∷ s)) ds.0 ds.1)

pub declarations_read : OneReading → DeclarationsRead
declarations_read one tokens g r =
    let k = kept_rules_read tokens r.keeps in
    subst (λ (z : Grammar). FollowsRules (declared tokens) (record { start = None; tabs = None; decls = z.decls })) (one tokens k.0 g k.1 r)
    (kept_declarations tokens r.keeps)

-- Which forms the grammars have that tokens read as.
abbrev AreWhole : List Token → Type 0
AreWhole [] = Unit {0}
AreWhole (t ∷ ts) = IsWhole t × AreWhole ts

are_whole : (ts : List Token) → All IsWhole ts → AreWhole ts
are_whole [] h = tt
are_whole (t ∷ ts) h = (All-head IsWhole t ts h, are_whole ts (All-tail IsWhole t ts h))

sign_form : {s r : List Token} → (i : IsSign s r) → AreWhole s → (x : Symbol) → form.IsAtom x → form.IsRepeated (sign_read i x).0 × AreWhole r
unfolding sign_read
sign_form (once r) h x a = (form.once x a, h)
sign_form (option r) h x a = (form.option x a, h.1)
sign_form (star r) h x a = (form.star x a, h.1)
sign_form (plus r) h x a = (form.plus x a, h.1)

exclusion_form : {s r : List Token} → (i : IsExclusion s r) → AreWhole s → (x : Symbol) → form.IsRepeated x →
    form.IsItem (filtered x (exclusion_read i).0) × AreWhole r
unfolding exclusion_read
exclusion_form (nothing r) h x a = (form.whole x a, h)
exclusion_form (excluded word r) h x a = (form.excluding x word a h.1.0, h.1.1)

-- one more before others
more_items : (x : Symbol) {xs : Symbols} → form.IsItem x → form.IsAlternative xs → form.IsAlternative (next_symbol x xs)
more_items x h (form.last_item y i) = form.further_item x y no_symbols h (form.last_item y i)
more_items x h (form.further_item y z ys i a) = form.further_item x y (next_symbol z ys) h (form.further_item y z ys i a)

more_alternatives : (xs : Symbols) {ys : Alternatives} → form.IsAlternative xs → form.AreAlternatives ys →
    form.AreAlternatives (next_alternative xs ys)
more_alternatives xs h (form.last_alternative zs a) = form.further_alternative xs zs no_alternatives h (form.last_alternative zs a)
more_alternatives xs h (form.further_alternative zs us ys a b) =
    form.further_alternative xs zs (next_alternative us ys) h (form.further_alternative zs us ys a b)

mutual
  unfolding atom_read item_read alternative_read alternatives_read

  atom_form : {s r : List Token} → (i : IsAtom s r) → AreWhole s → form.IsAtom (atom_read i).0 × AreWhole r
  atom_form (name x r) h = (form.name x h.0, h.1)
  atom_form (string word r) h = (form.literal word (form.string word h.0), h.1)
  atom_form (code c r) h = (form.literal (c ∷ []) (form.code c h.0), h.1)
  atom_form (set class r) h = (form.set class h.0, h.1)
  atom_form (group s r a) h = let g = alternatives_form a h.1 in (form.group (alternatives_read a).0 g.0, g.1.1)

  item_form : {s r : List Token} → (i : IsItem s r) → AreWhole s → form.IsItem (item_read i).0 × AreWhole r
  item_form (item s m q r a b c) h =
      let x = atom_form a h in
      let y = sign_form b x.1 (atom_read a).0 x.0 in exclusion_form c y.1 (sign_read b (atom_read a).0).0 y.0

  alternative_form : {s r : List Token} → (i : IsAlternative s r) → AreWhole s → form.IsAlternative (alternative_read i).0 × AreWhole r
  alternative_form (last_item s r i) h = let x = item_form i h in (form.last_item (item_read i).0 x.0, x.1)
  alternative_form (further_item s m r i a) h =
      let x = item_form i h in
      let xs = alternative_form a x.1 in (more_items (item_read i).0 x.0 xs.0, xs.1)

  alternatives_form : {s r : List Token} → (i : IsAlternatives s r) → AreWhole s →
      form.AreAlternatives (alternatives_read i).0 × AreWhole r
  alternatives_form (last_alternative s r a) h =
      let xs = alternative_form a h in (form.last_alternative (alternative_read a).0 xs.0, xs.1)
  alternatives_form (further_alternative s m r a b) h =
      let xs = alternative_form a h in
      let ys = alternatives_form b xs.1.1 in (more_alternatives (alternative_read a).0 xs.0 ys.0, ys.1)

rules_form : {s : List Token} → (i : AreRules s) → AreWhole s → form.AreRules (rules_read i).0
unfolding rules_read
rules_form no_rule h = form.no_rule
rules_form (next_rule x s m a more) h =
    let ys = alternatives_form a h.1 in
    let d = form.rule x (alts_of (alternatives_read a).0) h.0 (subst form.AreAlternatives (alts_gathered (alternatives_read a).0) ys.0) in
    form.next_rule _ (rules_read more).0 d (rules_form more ys.1)

-- the first rule is the start
started : {d : Decl} {ds : List Decl} → form.AreRules (d ∷ ds) → form.IsOfRules (record { start = Some d.name; tabs = None; decls = d ∷ ds })
started {d} {ds} h = form.rules d ds h

first_rule : (x : List ℕ) (s : List Token) (r : AreRules (Head x ∷ s)) → AreWhole (Head x ∷ s) →
    form.IsOfRules (record { start = Some x; tabs = None; decls = (rules_read r).0 })
unfolding rules_read
first_rule x s (next_rule _ _ m a more) h = started (rules_form (next_rule x s m a more) h)

kept_form : (tokens : List Token) (k : KeepsRules tokens) → AreWhole tokens → form.IsOfRules (kept_rules_read tokens k).0
unfolding kept_rules_read
kept_form _ (rules x s r) h = first_rule x s r h

pub reads_have_forms : OneReading → ReadsHaveForms
reads_have_forms one tokens g r h =
    let k = kept_rules_read tokens r.keeps in
    subst form.IsOfRules (one tokens k.0 g k.1 r) (kept_form tokens r.keeps (are_whole tokens h))
