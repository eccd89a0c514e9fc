-- The lines of a forest tell what they are of, whatever stands after them.
use Rattle.std.proofs.Common.{◌≡◌, ℕ, suc, ◌<◌, ◌++◌, List, [], ◌∷◌, Option, Some, None, All, refl, sym, ap, ap₂, ◌∙◌, subst, length, slice_get, arith}
use Rattle.std.specs.Prelude.{codes, flat_map, encode_utf8_all, option_map}
use Rattle.std.specs.Fmt.{decimal}
use Rattle.std.proofs.lemmas.List.{append_assoc, append_cancel_left}
use Rattle.std.proofs.lemmas.List.Elements.{All-head, All-tail}
use Rattle.std.proofs.lemmas.Option.{same_Some, none-some}
use Rattle.std.specs.List.{AllByRecursion}
use Rattle.ig_text.specs.declared.tag.Tag.{Tag}
use Rattle.ig_text.specs.declared.tag.Tag.TheVariants.{Rule, Nil, Snoc, One, More, Absent, Present, GroupAlt, Root}
use Rattle.ig_text.specs.Limits.{numbers_end}
use Rattle.ig_item.specs.declared.core_grammar.Nonterminal.{Nonterminal}
use Rattle.ig_show_texts.specs.Listed.{numbered_texts}
use Rattle.ig_show_texts.specs.TagText.{tag_text}
use Rattle.ig_show_texts.specs.ForestText.{choice_text, child_text, entry_text}
use Rattle.ig_forest_tables.specs.declared.entry.Choice.{Choice}
use Rattle.ig_forest_tables.specs.declared.entry.Entry.{Entry}
use Rattle.ig_forest_tables.specs.declared.entry.Entry.TheVariants.{Begin, Pass, Take}
use Rattle.ig_forest_tables.specs.declared.entry.Child.{Child}
use Rattle.ig_forest_tables.specs.declared.entry.Child.TheVariants as child
use Rattle.ig_forest_reader.specs.Written.{TellsNames, IsSmallEntry, IsSmallChild, IsSmallTag, IsNamed, IsTagOf}
use Rattle.ig_forest_reader.specs.Runs.{Each, none, more, Stops, at, IsDigit, IsPlain}
use Rattle.ig_forest_reader.proofs.Telling.{each_join, word_told, decimal_told, places_told, stops_at, decimal_each, small_bound, heads, tail_told, same_span}

-- the list begins with a member that has it
pub record Begins (P : ℕ → Type 0) (xs : List ℕ) : Type 0 where
  pub first : ℕ
  pub rest : List ℕ
  pub is : xs ≡ first ∷ rest
  pub has : P first

no_begin : (P : ℕ → Type 0) (us : List ℕ) (c : ℕ) (cs : List ℕ) → Stops P us → P c → us ≡ c ∷ cs → ⊥
no_begin P [] c cs s p e = cc
no_begin P (u ∷ us) c cs (at _ _ not) p e =
    let same : c ≡ u = cc in not (subst P same p)

pub not_begun : (P : ℕ → Type 0) (us xs rest : List ℕ) → Stops P us → Begins P xs → us ≡ xs ++ rest → ⊥
not_begun P us xs rest s b e = no_begin P us b.first (b.rest ++ rest) s b.has (e ∙ ap (λ (z : List ℕ). z ++ rest) b.is)

-- lines that all begin with bytes of one kind end where a byte of another kind stands
module _ {A : Type 0} (P : ℕ → Type 0) (In : A → Type 0) (shown : A → List ℕ)
    (begins : (x : A) → Begins P (shown x))
    (told : (x y : A) (us vs : List ℕ) → In x → In y → shown x ++ us ≡ shown y ++ vs → (x ≡ y) × (us ≡ vs)) where
  pub lines_told : (xs ys : List A) (us vs : List ℕ) → AllByRecursion In xs → AllByRecursion In ys → Stops P us → Stops P vs →
      flat_map shown xs ++ us ≡ flat_map shown ys ++ vs → (xs ≡ ys) × (us ≡ vs)
  lines_told [] [] us vs a b s t e = (refl, e)
  lines_told [] (y ∷ ys) us vs a b s t e =
      absurd (not_begun P us (shown y) (flat_map shown ys ++ vs) s (begins y) (e ∙ append_assoc (shown y) (flat_map shown ys) vs))
  lines_told (x ∷ xs) [] us vs a b s t e =
      absurd (not_begun P vs (shown x) (flat_map shown xs ++ us) t (begins x)
      (sym e ∙ append_assoc (shown x) (flat_map shown xs) us))
  lines_told (x ∷ xs) (y ∷ ys) us vs a b s t e =
      let line = told x y _ _ a.0 b.0
      (sym (append_assoc (shown x) (flat_map shown xs) us) ∙ e ∙ append_assoc (shown y) (flat_map shown ys) vs) in
      let rest = lines_told xs ys us vs a.1 b.1 s t line.1 in
      (ap₂ (λ (z : A) (zs : List A). z ∷ zs) line.0 rest.0, rest.1)

-- numbered texts of as many members
module _ {A : Type 0} (P : ℕ → Type 0) (In : A → Type 0) (shown : ℕ → A → List ℕ)
    (stops : (k : ℕ) (x : A) (us : List ℕ) → Stops P (shown k x ++ us))
    (told : (k : ℕ) (x y : A) (us vs : List ℕ) → In x → In y → Stops P us → Stops P vs → shown k x ++ us ≡ shown k y ++ vs →
    (x ≡ y) × (us ≡ vs)) where
  pub stops_numbered : (k : ℕ) (xs : List A) (us : List ℕ) → Stops P us → Stops P (numbered_texts shown k xs ++ us)
  stops_numbered k [] us s = s
  stops_numbered k (x ∷ xs) us s =
      subst (Stops P) (sym (append_assoc (shown k x) (numbered_texts shown (suc k) xs) us)) (stops k x _)

  pub numbered_told : (k : ℕ) (xs ys : List A) (us vs : List ℕ) → length xs ≡ length ys → AllByRecursion In xs →
      AllByRecursion In ys → Stops P us → Stops P vs → numbered_texts shown k xs ++ us ≡ numbered_texts shown k ys ++ vs →
      (xs ≡ ys) × (us ≡ vs)
  numbered_told k [] [] us vs n a b s t e = (refl, e)
  numbered_told k [] (y ∷ ys) us vs n a b s t e = absurd (omega (arith, n))
  numbered_told k (x ∷ xs) [] us vs n a b s t e = absurd (omega (arith, n))
  numbered_told k (x ∷ xs) (y ∷ ys) us vs n a b s t e =
      let first = told k x y _ _ a.0 b.0 (stops_numbered (suc k) xs us s) (stops_numbered (suc k) ys vs t)
      (sym (append_assoc (shown k x) (numbered_texts shown (suc k) xs) us) ∙ e ∙
      append_assoc (shown k y) (numbered_texts shown (suc k) ys) vs) in
      let shorter : length xs ≡ length ys = omega (arith, n) in
      let rest = numbered_told (suc k) xs ys us vs shorter a.1 b.1 s t first.1 in
      (ap₂ (λ (z : A) (zs : List A). z ∷ zs) first.0 rest.0, rest.1)

-- what holds of all members, from the first on
pub by_parts : {X : Type 0} (P : X → Type 0) (xs : List X) → All P xs → AllByRecursion P xs
by_parts P [] a = tt
by_parts P (x ∷ xs) a = (All-head P x xs a, by_parts P xs (All-tail P x xs a))

pub each_of_all : (P : ℕ → Type 0) (xs : List ℕ) → All P xs → Each P xs
each_of_all P [] a = none
each_of_all P (x ∷ xs) a = more x xs (All-head P x xs a) (each_of_all P xs (All-tail P x xs a))

pub parts_behind : {X : Type 0} (P : X → Type 0) (xs ys : List X) → AllByRecursion P (xs ++ ys) → AllByRecursion P ys
parts_behind P [] ys a = a
parts_behind P (x ∷ xs) ys a = parts_behind P xs ys a.1

plain_digit : (c : ℕ) → IsDigit c → IsPlain c
plain_digit c d = omega (arith, d.0)

pub stops_plain : (cs : List ℕ) → Stops IsPlain (32 ∷ cs)
stops_plain cs = at 32 cs (λ h. omega (arith, h))

pub tag_plain : (name : List ℕ) (tag : Tag) → Each IsPlain (encode_utf8_all name) → IsSmallTag tag → Each IsPlain (tag_text name tag)
tag_plain name (Rule n k) p small =
    each_join (encode_utf8_all name) (46 ∷ decimal k) p
    (more 46 (decimal k) (omega arith) (decimal_each plain_digit k (small_bound k small)))
tag_plain name Nil p small = more 36 _ (omega arith) (more 110 _ (omega arith) (more 105 _ (omega arith) (more 108 _ (omega arith) none)))
tag_plain name Snoc p small = more 36 _ (omega arith) (more 115 _ (omega arith) (more 110 _ (omega arith) (more 111 _ (omega arith) (more 99 _ (omega arith) none))))
tag_plain name One p small = more 36 _ (omega arith) (more 111 _ (omega arith) (more 110 _ (omega arith) (more 101 _ (omega arith) none)))
tag_plain name More p small = more 36 _ (omega arith) (more 109 _ (omega arith) (more 111 _ (omega arith) (more 114 _ (omega arith) (more 101 _ (omega arith) none))))
tag_plain name Absent p small = more 36 _ (omega arith) (more 110 _ (omega arith) (more 111 _ (omega arith) (more 110 _ (omega arith) (more 101 _ (omega arith) none))))
tag_plain name Present p small = more 36 _ (omega arith) (more 115 _ (omega arith) (more 111 _ (omega arith) (more 109 _ (omega arith) (more 101 _ (omega arith) none))))
tag_plain name (GroupAlt k) p small = more 36 _ (omega arith) (more 103 _ (omega arith) (more 114 _ (omega arith) (more 111 _ (omega arith) (more 117 _ (omega arith) (more 112 _ (omega arith) (more 46 _ (omega arith) (decimal_each plain_digit k (small_bound k small))))))))
tag_plain name Root p small = more 36 _ (omega arith) (more 114 _ (omega arith) (more 111 _ (omega arith) (more 111 _ (omega arith) (more 116 _ (omega arith) none))))

-- what has a name is there
pub named_there : (o : Option Nonterminal) (name : List ℕ) → option_map (λ (x : Nonterminal). x.name) o ≡ Some name →
    (x : Nonterminal) × (o ≡ Some x) × (x.name ≡ name)
named_there None name e = absurd (none-some _ e)
named_there (Some x) name e = (x, refl, same_Some _ _ e)

module _ (core : List Nonterminal) (tells : TellsNames core) where
  pub name_plain : (n : ℕ) (name : List ℕ) → IsNamed core n name → Each IsPlain (encode_utf8_all name)
  name_plain n name named =
      let there = named_there (slice_get core n) name named in
      each_of_all IsPlain (encode_utf8_all name)
      (subst (λ (z : List ℕ). All IsPlain (encode_utf8_all z)) there.2 (tells.plain n there.0 there.1))

  pub nonterminal_told : (m n : ℕ) (name other : List ℕ) → IsNamed core m name → IsNamed core n other →
      encode_utf8_all name ≡ encode_utf8_all other → m ≡ n
  nonterminal_told m n name other p q e =
      let a = named_there (slice_get core m) name p in
      let b = named_there (slice_get core n) other q in
      tells.differ m n a.0 b.0 a.1 b.1 (ap encode_utf8_all a.2 ∙ e ∙ sym (ap encode_utf8_all b.2))

  pub same_name : (m n : ℕ) (name other : List ℕ) → m ≡ n → IsNamed core m name → IsNamed core n other → name ≡ other
  same_name m n name other e p q =
      same_Some name other (sym p ∙ ap (λ (z : ℕ). option_map (λ (x : Nonterminal). x.name) (slice_get core z)) e ∙ q)

  -- a tag ends at a blank
  tag_told : (n : ℕ) (name : List ℕ) → IsNamed core n name → (c d : Choice) → IsTagOf core n c → IsTagOf core n d →
      tag_text name c.tag ≡ tag_text name d.tag → c.tag ≡ d.tag
  tag_told n name named c d p q e =
      let there = named_there (slice_get core n) name named in
      let here : p.nonterminal.name ≡ name =
      ap (λ (z : Nonterminal). z.name) (same_Some p.nonterminal there.0 (sym p.has.there ∙ there.1)) ∙ there.2 in
      p.tag ∙ tells.tags n p.a q.a p.nonterminal q.nonterminal p.alternative q.alternative p.has q.has
      (ap₂ (λ (m : List ℕ) (t : Tag). tag_text m t) here (sym p.tag) ∙ e ∙
      ap₂ (λ (m : List ℕ) (t : Tag). tag_text m t) (sym here) q.tag) ∙ sym q.tag

  pub choice_joined : (name : List ℕ) (c : Choice) (us : List ℕ) →
      choice_text name c ++ us ≡ codes "alt " ++ (tag_text name c.tag ++ (32 ∷ (decimal c.item ++ (10 ∷ us))))
  choice_joined name c us =
      ap (λ (z : List ℕ). codes "alt " ++ z) (append_assoc (tag_text name c.tag) (32 ∷ (decimal c.item ++ (10 ∷ []))) us ∙
      ap (λ (z : List ℕ). tag_text name c.tag ++ (32 ∷ z)) (append_assoc (decimal c.item) (10 ∷ []) us))

  pub same_choice : (c d : Choice) → c.tag ≡ d.tag → c.item ≡ d.item → c ≡ d
  same_choice c d p q = λ i. record { tag = p i; item = q i }

  -- the line of an alternative
  pub choice_told : (n : ℕ) (name : List ℕ) → IsNamed core n name → (c d : Choice) (us vs : List ℕ) → IsTagOf core n c →
      IsTagOf core n d → choice_text name c ++ us ≡ choice_text name d ++ vs → (c ≡ d) × (us ≡ vs)
  choice_told n name named c d us vs p q e =
      let line = append_cancel_left (codes "alt ") _ _ (sym (choice_joined name c us) ∙ e ∙ choice_joined name d vs) in
      let word = word_told IsPlain (tag_text name c.tag) (tag_text name d.tag) _ _
      (tag_plain name c.tag (name_plain n name named) p.small) (tag_plain name d.tag (name_plain n name named) q.small)
      (stops_plain _) (stops_plain _) line in
      let number = decimal_told c.item d.item _ _ (small_bound c.item p.item) (small_bound d.item q.item)
      (stops_at 10 us (omega arith)) (stops_at 10 vs (omega arith)) (tail_told 32 _ _ word.1) in
      (same_choice c d (tag_told n name named c d p q word.0) number.0, tail_told 10 us vs number.1)

-- the lines of entries
pub take_small : (i : ℕ) (x : Child) → IsSmallEntry (Take i x) → (i < numbers_end) × IsSmallChild x
take_small i (child.Leaf span) p = p
take_small i (child.Node v) p = p

child_told : (x y : Child) (us vs : List ℕ) → IsSmallChild x → IsSmallChild y →
    child_text x ++ (10 ∷ us) ≡ child_text y ++ (10 ∷ vs) → (x ≡ y) × (us ≡ vs)
child_told (child.Node v) (child.Node w) us vs p q e =
    let number = decimal_told v w _ _ (small_bound v p) (small_bound w q) (stops_at 10 us (omega arith))
    (stops_at 10 vs (omega arith)) (append_cancel_left (codes "node ") _ _ e) in
    (ap child.Node number.0, tail_told 10 us vs number.1)
child_told (child.Node v) (child.Leaf s) us vs p q e = absurd (let h = heads 110 108 _ _ e in omega (arith, h))
child_told (child.Leaf s) (child.Node v) us vs p q e = absurd (let h = heads 108 110 _ _ e in omega (arith, h))
child_told (child.Leaf s) (child.Leaf t) us vs p q e =
    let places = places_told s.begin s.end t.begin t.end _ _ (small_bound _ p.begin) (small_bound _ p.end) (small_bound _ q.begin)
    (small_bound _ q.end) (stops_at 10 us (omega arith)) (stops_at 10 vs (omega arith))
    (append_cancel_left (codes "leaf ") _ _ e) in
    (ap child.Leaf (same_span s t places.0 places.1), tail_told 10 us vs places.2)

pub pass_joined : (i : ℕ) (us : List ℕ) → entry_text (Pass i) ++ us ≡ codes "pass " ++ (decimal i ++ (10 ∷ us))
pass_joined i us = ap (λ (z : List ℕ). codes "pass " ++ z) (append_assoc (decimal i) (10 ∷ []) us)

pub take_joined : (i : ℕ) (x : Child) (us : List ℕ) →
    entry_text (Take i x) ++ us ≡ codes "take " ++ (decimal i ++ (32 ∷ (child_text x ++ (10 ∷ us))))
take_joined i x us =
    ap (λ (z : List ℕ). codes "take " ++ z) (append_assoc (decimal i) (32 ∷ (child_text x ++ (10 ∷ []))) us ∙
    ap (λ (z : List ℕ). decimal i ++ (32 ∷ z)) (append_assoc (child_text x) (10 ∷ []) us))

pub entry_told : (x y : Entry) (us vs : List ℕ) → IsSmallEntry x → IsSmallEntry y → entry_text x ++ us ≡ entry_text y ++ vs →
    (x ≡ y) × (us ≡ vs)
entry_told Begin Begin us vs p q e = (refl, append_cancel_left (codes "begin\n") us vs e)
entry_told Begin (Pass j) us vs p q e = absurd (let h = heads 98 112 _ _ e in omega (arith, h))
entry_told Begin (Take j y) us vs p q e = absurd (let h = heads 98 116 _ _ e in omega (arith, h))
entry_told (Pass i) Begin us vs p q e = absurd (let h = heads 112 98 _ _ e in omega (arith, h))
entry_told (Pass i) (Take j y) us vs p q e = absurd (let h = heads 112 116 _ _ e in omega (arith, h))
entry_told (Take i x) Begin us vs p q e = absurd (let h = heads 116 98 _ _ e in omega (arith, h))
entry_told (Take i x) (Pass j) us vs p q e = absurd (let h = heads 116 112 _ _ e in omega (arith, h))
entry_told (Pass i) (Pass j) us vs p q e =
    let line = append_cancel_left (codes "pass ") _ _ (sym (pass_joined i us) ∙ e ∙ pass_joined j vs) in
    let number = decimal_told i j _ _ (small_bound i p) (small_bound j q) (stops_at 10 us (omega arith))
    (stops_at 10 vs (omega arith)) line in
    (ap Pass number.0, tail_told 10 us vs number.1)
entry_told (Take i x) (Take j y) us vs p q e =
    let a = take_small i x p in
    let b = take_small j y q in
    let line = append_cancel_left (codes "take ") _ _ (sym (take_joined i x us) ∙ e ∙ take_joined j y vs) in
    let number = decimal_told i j _ _ (small_bound i a.0) (small_bound j b.0) (stops_at 32 _ (omega arith))
    (stops_at 32 _ (omega arith)) line in
    let taken = child_told x y us vs a.1 b.1 (tail_told 32 _ _ number.1) in
    (ap₂ Take number.0 taken.0, taken.1)
