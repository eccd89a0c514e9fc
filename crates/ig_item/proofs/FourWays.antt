-- The ways in which the items of one letter come about.
use Rattle.std.proofs.Common.{◌≡◌, ℕ, zero, suc, List, [], Some, None, refl, sym, ap, ◌∙◌, subst, subst₂, arith, lit≤, inl, inr, ◌⊎◌}
use Rattle.std.specs.Prelude.{slice_get, codes}
use Rattle.std.proofs.lemmas.Option.{same_Some}
use Rattle.std.proofs.lemmas.List.Elements.{All-nil}
use Rattle.ig_text.specs.Input.{Input, untabbed}
use Rattle.ig_text.specs.Pattern.{Matches}
use Rattle.ig_text.specs.Place.{Spells}
use Rattle.ig_text.specs.declared.pattern.Pattern.{Pattern}
use Rattle.ig_text.specs.declared.pattern.Pattern.TheVariants.{Literal}
use Rattle.ig_text.proofs.Lists.{contains_from_at, at_from_contains, none_in_nil}
use Rattle.ig_item.specs.Items.{Item, IsComplete, Reachable, past, span_of}
use Rattle.ig_item.specs.Gives as given
use Rattle.ig_item.specs.Gives.{NodeKey, Taken, Completes, Gives, tree}
use Rattle.ig_item.specs.Ways as ways
use Rattle.ig_item.specs.Ways.{WayTo, Says, IsEnd, IsFirstEnd, IsFurtherEnd, IsWay, CameBy, AreWaysOf, AreEnds}
use Rattle.ig_item.specs.Examples.{one_letter, start, letter, plain_item, four_items, four_ways, FourItemsHaveWays}
use Rattle.ig_item.specs.declared.ways.Way.{Way}
use Rattle.ig_item.specs.declared.ways.Way.TheVariants.{Begin, Leaf, Node}
use Rattle.ig_item.proofs.FourItems.{Known, known, steps_of, ends, test_never, bind_never, terminal_at, call_at, letter_ends, calls_start, four_items_are_reachable}

abbrev text : Input
text = untabbed (codes "a")

abbrev reached : Item → Type 0
reached = Reachable one_letter text

known_of : (x : Item) → reached x → Known x
known_of x r = known x ((four_items_are_reachable x).0 r)

reach : (k : ℕ) (x : Item) → slice_get four_items k ≡ Some x → reached x
reach k x at = (four_items_are_reachable x).1 (contains_from_at four_items k x at)

-- an item that is at dot 0 isn't complete
at_start : (x like : Item) → x ≡ like → steps_of like ≡ Some 1 → like.dot ≡ 0 → IsComplete one_letter x → ⊥
at_start x like e one zero_dot c =
    let h : Some 1 ≡ Some x.dot = sym one ∙ sym (ap steps_of e) ∙ ends x c in
    let g : 1 ≡ 0 = same_Some _ _ h ∙ ap (λ (y : Item). y.dot) e ∙ zero_dot in
    absurd (omega (arith, g))

abbrev letter_key : NodeKey
letter_key = record { instance = (plain_item 1 1 1).instance; end = 1 }

read_completes : Completes one_letter (plain_item 1 1 1) letter_key
read_completes =
    record {
      complete =
          record { nonterminal = start letter; alternative = letter; has = record { there = refl; has = refl }; last = refl };
      instance = refl;
      end = refl;
    }

abbrev IsLetterEnd : NodeKey → ℕ → Type 0
IsLetterEnd key d = IsEnd one_letter reached four_items key d

-- the ends are the items 2 and 3, and of one instance only one
place : (d : ℕ) (x : Item) → slice_get four_items d ≡ Some x → IsComplete one_letter x → (d ≡ 2) ⊎ (d ≡ 3)
place zero x at c = absurd (at_start x (plain_item 0 0 0) (sym (same_Some _ x at)) refl refl c)
place (suc zero) x at c = absurd (at_start x (plain_item 1 0 0) (sym (same_Some _ x at)) refl refl c)
place (suc (suc zero)) x at c = inl refl
place (suc (suc (suc zero))) x at c = inr refl
place (suc (suc (suc (suc k)))) x at c = cc

instance_at : (d : ℕ) (x : Item) → slice_get four_items d ≡ Some x → (d ≡ 2 → x.instance.nonterminal ≡ 1) × (d ≡ 3 → x.instance.nonterminal ≡ 0)
instance_at d x at = (
  λ e. ap (λ (y : Item). y.instance.nonterminal) (sym (same_Some (plain_item 1 1 1) x (subst (λ (k : ℕ). slice_get four_items k ≡ Some x) e at))),
  λ e. ap (λ (y : Item). y.instance.nonterminal) (sym (same_Some (plain_item 0 1 1) x (subst (λ (k : ℕ). slice_get four_items k ≡ Some x) e at))),
)

both : {c d m n : ℕ} → m ≡ n → (c ≡ 2 → m ≡ 1) × (c ≡ 3 → m ≡ 0) → (d ≡ 2 → n ≡ 1) × (d ≡ 3 → n ≡ 0) → (c ≡ 2) ⊎ (c ≡ 3) →
    (d ≡ 2) ⊎ (d ≡ 3) → c ≡ d
both e l r (inl x) (inl y) = x ∙ sym y
both e l r (inl x) (inr y) = let g : 1 ≡ 0 = sym (l.0 x) ∙ e ∙ r.1 y in absurd (omega (arith, g))
both e l r (inr x) (inl y) = let g : 0 ≡ 1 = sym (l.1 x) ∙ e ∙ r.0 y in absurd (omega (arith, g))
both e l r (inr x) (inr y) = x ∙ sym y

-- two ends of one key are one
one_end : (key : NodeKey) (c d : ℕ) → IsLetterEnd key c → IsLetterEnd key d → c ≡ d
one_end key c d a b =
    let same : a.item.instance.nonterminal ≡ b.item.instance.nonterminal =
    ap (λ i. i.nonterminal) (a.completes.instance ∙ sym b.completes.instance) in
    let left = instance_at c a.item a.there in
    let right = instance_at d b.item b.there in
    both same left right (place c a.item a.there a.completes.complete) (place d b.item b.there b.completes.complete)

first_of : (key : NodeKey) (d : ℕ) → IsLetterEnd key d → IsFirstEnd one_letter reached four_items key d
first_of key d e = record { end = e; least = λ c other. let h = one_end key d c e other in omega (arith, h) }

end_of : (k : ℕ) (x : Item) (key : NodeKey) → slice_get four_items k ≡ Some x → Completes one_letter x key → IsLetterEnd key k
end_of k x key at c = record { item = x; there = at; is_known = reach k x at; completes = c }

letter_first : IsFirstEnd one_letter reached four_items letter_key 2
letter_first = first_of letter_key 2 (end_of 2 (plain_item 1 1 1) letter_key refl read_completes)

by_letter : Gives one_letter text reached (plain_item 1 0 0) (given.leaf (record { begin = 0; end = 1 })) (plain_item 1 1 1)
by_letter =
    given.terminal (plain_item 1 0 0) [] (Literal (codes "a")) None [] 1 _ _ (reach 1 _ refl)
    (record {
      nonterminal = start letter;
      alternative = letter;
      has = record { there = refl; has = refl };
      next = refl;
      visible = refl;
    })
    (record { onward = lit≤ tt; within = lit≤ tt; letters = refl }) (All-nil _) refl refl

by_node : Gives one_letter text reached (plain_item 0 0 0) (tree letter_key) (plain_item 0 1 1)
by_node =
    given.return (plain_item 0 0 0) (plain_item 1 1 1) None [] letter_key _ (reach 0 _ refl) (reach 2 _ refl) calls_start
    read_completes (All-nil _) refl

abbrev IsLetterWay : Item → Way → Type 0
IsLetterWay x way = IsWay one_letter text reached four_items x way

first_way : (k : ℕ) (x : Item) (way : Way) → slice_get four_items k ≡ Some x → slice_get four_ways.firsts k ≡ Some way → IsLetterWay x way
first_way zero x way at e = subst₂ IsLetterWay (same_Some (plain_item 0 0 0) x at) (same_Some Begin way e) (ways.begin refl)
first_way (suc zero) x way at e = subst₂ IsLetterWay (same_Some (plain_item 1 0 0) x at) (same_Some Begin way e) (ways.begin refl)
first_way (suc (suc zero)) x way at e =
    subst₂ IsLetterWay (same_Some (plain_item 1 1 1) x at) (same_Some (Leaf 1) way e)
    (ways.comes (Leaf 1) (plain_item 1 0 0) _ (ways.leaf 1 (plain_item 1 0 0) _ refl refl) by_letter)
first_way (suc (suc (suc zero))) x way at e =
    subst₂ IsLetterWay (same_Some (plain_item 0 1 1) x at) (same_Some (Node 0 2) way e)
    (ways.comes (Node 0 2) (plain_item 0 0 0) _ (ways.node 0 2 (plain_item 0 0 0) letter_key refl letter_first) by_node)
first_way (suc (suc (suc (suc k)))) x way at e = cc

sound : (k : ℕ) (x : Item) (way : Way) → slice_get four_items k ≡ Some x → WayTo four_ways k way → IsLetterWay x way
sound k x way at (ways.found e) = first_way k x way at e
sound k x way at (ways.again more c is e) = absurd (none_in_nil _ c)

-- the number of an item is told by its dot and its nonterminal
number_of : (k : ℕ) (x : Item) → slice_get four_items k ≡ Some x → (n : ℕ) → x ≡ plain_item n 1 1 → (n ≡ 1 → k ≡ 2) × (n ≡ 0 → k ≡ 3)
number_of zero x at n e = let h : 0 ≡ 1 = ap (λ (y : Item). y.dot) (same_Some (plain_item 0 0 0) x at ∙ e) in absurd (omega (arith, h))
number_of (suc zero) x at n e = let h : 0 ≡ 1 = ap (λ (y : Item). y.dot) (same_Some (plain_item 1 0 0) x at ∙ e) in absurd (omega (arith, h))
number_of (suc (suc zero)) x at n e =
    let h : 1 ≡ n = ap (λ (y : Item). y.instance.nonterminal) (same_Some (plain_item 1 1 1) x at ∙ e) in
    (λ i. refl, λ i. absurd (omega (arith, h, i)))
number_of (suc (suc (suc zero))) x at n e =
    let h : 0 ≡ n = ap (λ (y : Item). y.instance.nonterminal) (same_Some (plain_item 0 1 1) x at ∙ e) in
    (λ i. absurd (omega (arith, h, i)), λ i. refl)
number_of (suc (suc (suc (suc k)))) x at n e = cc

is_two : {m n : ℕ} → (m ≡ 2) ⊎ (m ≡ 3) → n ≡ 1 → (m ≡ 2 → n ≡ 1) × (m ≡ 3 → n ≡ 0) → m ≡ 2
is_two (inl e) one of = e
is_two (inr e) one of = let g : 1 ≡ 0 = sym one ∙ of.1 e in absurd (omega (arith, g))

abbrev Came : ℕ → Item → Item → Taken → Type 0
Came k x prev taken = CameBy one_letter text reached four_items four_ways k x prev taken

complete : (k : ℕ) (x prev : Item) (taken : Taken) → slice_get four_items k ≡ Some x → Gives one_letter text reached prev taken x →
    Came k x prev taken
complete k x _ _ at (given.test prev names e _ r before holds is) = absurd (test_never prev names e (known_of prev r) before)
complete k x _ _ at (given.bind prev names name e v _ r before has is) =
    absurd (bind_never prev names name e (known_of prev r) before)
complete k x _ _ at (given.terminal prev names what label excluded j taken _ r before matches free t is) =
    let stands = terminal_at prev names what label excluded (known_of prev r) before in
    let spells : Spells text (codes "a") 0 j =
    subst (λ (i : ℕ). Matches text (Literal (codes "a")) i j) (ap (λ (y : Item). y.position) stands.is)
    (subst (λ (p : Pattern). Matches text p prev.position j) (sym stands.what_is) matches) in
    let end = letter_ends j spells in
    let like : x ≡ plain_item 1 1 1 =
    is ∙ (λ i. past (stands.is i) (span_of (stands.label_is i) (stands.is i).position (end i)) (end i)) in
    let two = (number_of k x at 1 like).0 refl in
    record {
      way = Leaf 1;
      to = ways.found (subst (λ (n : ℕ). slice_get four_ways.firsts n ≡ Some (Leaf 1)) (sym two) refl);
      says =
          ways.leaf 1 prev taken (ap Some (sym stands.is))
          (subst (λ (n : ℕ). taken ≡ given.leaf (record { begin = prev.position; end = n }))
          (sym (ap (λ (y : Item). y.position) is)) t);
    }
complete k x _ _ at (given.return prev done label excluded key _ r d calls c free is) =
    let stands = call_at prev calls.names key.instance.nonterminal calls.arguments label excluded (known_of prev r) calls.before in
    let done_at = at_from_contains four_items done ((four_items_are_reachable done).0 d) in
    let place_of = place done_at.0 done done_at.1 c.complete in
    let callee : done.instance.nonterminal ≡ 1 = ap (λ i. i.nonterminal) c.instance ∙ stands.callee_is in
    let at_two : done_at.0 ≡ 2 = is_two place_of callee (instance_at done_at.0 done done_at.1) in
    let read_is : plain_item 1 1 1 ≡ done =
    same_Some _ _ (subst (λ (n : ℕ). slice_get four_items n ≡ Some done) at_two done_at.1) in
    let end : key.end ≡ 1 = sym c.end ∙ sym (ap (λ (y : Item). y.position) read_is) in
    let like : x ≡ plain_item 0 1 1 =
    is ∙ (λ i. past (stands.is i) (span_of (stands.label_is i) (stands.is i).position (end i)) (end i)) in
    let three = (number_of k x at 0 like).1 refl in
    record {
      way = Node 0 2;
      to = ways.found (subst (λ (n : ℕ). slice_get four_ways.firsts n ≡ Some (Node 0 2)) (sym three) refl);
      says =
          ways.node 0 2 prev key (ap Some (sym stands.is))
          (first_of key 2 (end_of 2 done key (ap Some read_is) c));
    }

pub four_items_have_ways : FourItemsHaveWays
four_items_have_ways =
    record {
      ways =
          record {
            number = refl;
            sound = sound;
            complete = complete;
            there = λ more c. absurd (none_in_nil _ c);
          };
      ends =
          record {
            first = λ x key r c.
                let at = at_from_contains four_items x ((four_items_are_reachable x).0 r) in
                (at.0, first_of key at.0 (end_of at.0 x key at.1 c));
            exact = λ e. (
              λ c. absurd (none_in_nil _ c),
              λ f. absurd (f.other (one_end f.key e.item e.first f.further f.first.end)),
            );
          };
    }
