-- What the pass makes of levels, and where declarations stand.
use Rattle.std.proofs.Common.{◌≡◌, ◌∙◌, ℕ, suc, ◌+◌, List, [], ◌∷◌, ◌++◌, map, length, Some, refl, sym, ap, ap₂}
use Rattle.std.specs.Prelude.{slice_get, option_map}
use Rattle.std.proofs.lemmas.Option.{slice_get-map}
use Rattle.std.proofs.lemmas.List.{map-append, length-map}
use Rattle.ig_text.proofs.Lists.{mapped_at}
use Rattle.ig_text.proofs.Options.{mapped}
use Rattle.ig_grammar.specs.Symbol.{Symbol, listed, gathered}
use Rattle.ig_grammar.specs.Numbering.{Levelled, by_level, layout_among, name_of_layout}
use Rattle.ig_grammar.specs.Names.{names, AreDistinct}
use Rattle.ig_grammar.specs.declared.declaration.DeclKind.{DeclKind}
use Rattle.ig_grammar.specs.declared.declaration.DeclKind.TheVariants.{Syntax, Lexical, Layout, Plain}
use Rattle.ig_grammar.specs.declared.declaration.Decl.{Decl}
use Rattle.ig_grammar.specs.declared.declaration.Level.{Level}
use Rattle.ig_grammar.specs.declared.declaration.Assoc.{Assoc}
use Rattle.ig_grammar.specs.declared.symbol.Alt.{Alt}
use Rattle.ig_blocks_parts.specs.Setting.{Setting, Pair}
use Rattle.ig_blocks_parts.specs.Blocks.{alternative_by, level_by}

-- alternatives by level
abbrev pub levelled_by : Setting → Pair → Levelled → Levelled
levelled_by s p a = record { alternative = alternative_by s p a.alternative; level = a.level; assoc = a.assoc }

abbrev numbered_alt : Alt → ℕ → Assoc → Levelled
numbered_alt a n assoc = record { alternative = a; level = n; assoc = assoc }

level_map : (s : Setting) (p : Pair) (level : Level) (others : List Level) (alts : List Alt) →
    map (λ (a : Alt). numbered_alt a (length (map (level_by s p) others) + 1) level.assoc) (map (alternative_by s p) alts) ≡
    map (levelled_by s p) (map (λ (a : Alt). numbered_alt a (length others + 1) level.assoc) alts)
level_map s p level others [] = refl
level_map s p level others (a ∷ alts) =
    let n : length (map (level_by s p) others) ≡ length others = length-map others (level_by s p) in
    ap₂ (λ x y. x ∷ y) (ap (λ z. numbered_alt (alternative_by s p a) (z + 1) level.assoc) n) (level_map s p level others alts)

by_level_map : (s : Setting) (p : Pair) (levels : List Level) → by_level (map (level_by s p) levels) ≡ map (levelled_by s p) (by_level levels)
by_level_map s p [] = refl
by_level_map s p (level ∷ others) =
    ap₂ (λ x y. x ++ y) (level_map s p level others level.alts) (by_level_map s p others) ∙
    sym (map-append (levelled_by s p) (map (λ a. record { alternative = a; level = length others + 1; assoc = level.assoc }) level.alts) (by_level others))

pub alternative_forth : (s : Setting) (p : Pair) (levels : List Level) (k : ℕ) (a : Levelled) → slice_get (by_level levels) k ≡ Some a →
    slice_get (by_level (map (level_by s p) levels)) k ≡ Some (levelled_by s p a)
alternative_forth s p levels k a e =
    ap (λ z. slice_get z k) (by_level_map s p levels) ∙ slice_get-map (levelled_by s p) (by_level levels) k ∙ ap (option_map (levelled_by s p)) e

pub alternative_back : (s : Setting) (p : Pair) (levels : List Level) (k : ℕ) (b : Levelled) → slice_get (by_level (map (level_by s p) levels)) k ≡ Some b →
    (a : Levelled) × (slice_get (by_level levels) k ≡ Some a) × (levelled_by s p a ≡ b)
alternative_back s p levels k b e =
    let m = mapped (levelled_by s p) (slice_get (by_level levels) k) b
    (sym (ap (λ z. slice_get z k) (by_level_map s p levels) ∙ slice_get-map (levelled_by s p) (by_level levels) k) ∙ e) in
    (m.0, m.1, sym m.2)

-- declarations of one name are one
pub same_decl : (ds : List Decl) → AreDistinct (names ds) → (n k : ℕ) (d e : Decl) → slice_get ds n ≡ Some d → slice_get ds k ≡ Some e → d.name ≡ e.name → d ≡ e
same_decl ds distinct n k d e a b same =
    let place : n ≡ k = distinct n k d.name (mapped_at (λ (z : Decl). z.name) ds n d a) (mapped_at (λ (z : Decl). z.name) ds k e b ∙ ap Some (sym same)) in
    let both : Some d ≡ Some e = sym a ∙ ap (slice_get ds) place ∙ b in
    cc

-- the layout declaration
pub layout_at : (ds : List Decl) (name : List ℕ) → layout_among ds ≡ Some name → (n : ℕ) × (d : Decl) × (slice_get ds n ≡ Some d) × (d.name ≡ name) × (d.kind ≡ Layout)
layout_at [] name e = absurd (cc)
layout_at (d ∷ ds) name e = go d.kind refl e (λ h. layout_at ds name h)
  where
    go : (kind : DeclKind) → d.kind ≡ kind → name_of_layout d.kind d.name (layout_among ds) ≡ Some name →
        (layout_among ds ≡ Some name → (n : ℕ) × (x : Decl) × (slice_get ds n ≡ Some x) × (x.name ≡ name) × (x.kind ≡ Layout)) →
        (n : ℕ) × (x : Decl) × (slice_get (d ∷ ds) n ≡ Some x) × (x.name ≡ name) × (x.kind ≡ Layout)
    go Layout t e later =
        let is : Some d.name ≡ Some name = sym (ap (λ z. name_of_layout z d.name (layout_among ds)) t) ∙ e in
        (0, d, refl, cc, t)
    go Syntax t e later = let r = later (sym (ap (λ z. name_of_layout z d.name (layout_among ds)) t) ∙ e) in (suc r.0, r.1, r.2, r.3, r.4)
    go Lexical t e later = let r = later (sym (ap (λ z. name_of_layout z d.name (layout_among ds)) t) ∙ e) in (suc r.0, r.1, r.2, r.3, r.4)
    go Plain t e later = let r = later (sym (ap (λ z. name_of_layout z d.name (layout_among ds)) t) ∙ e) in (suc r.0, r.1, r.2, r.3, r.4)
