-- Which items of one letter are reachable.
use Rattle.std.proofs.Common.{◌≡◌, ℕ, zero, suc, ◌≤◌, List, [], ◌∷◌, Option, Some, None, Contains, length, take, map, refl, sym, ap, ◌∙◌, subst, arith, lit≤}
use Rattle.std.specs.Prelude.{slice_get, option_and_then, codes}
use Rattle.std.proofs.lemmas.Option.{same_Some}
use Rattle.std.proofs.lemmas.List.Elements.{All-nil}
use Rattle.ig_text.specs.Input.{untabbed}
use Rattle.ig_text.specs.Pattern.{Matches}
use Rattle.ig_text.specs.Place.{Spells}
use Rattle.ig_text.specs.declared.pattern.Pattern.{Pattern}
use Rattle.ig_text.specs.declared.pattern.Pattern.TheVariants.{Literal}
use Rattle.ig_text.proofs.Lists.{at_from_contains, contains_from_at}
use Rattle.ig_expr.specs.Expression.{Expression}
use Rattle.ig_expr.specs.declared.value.Value.{Value}
use Rattle.ig_item.specs.Step.{Step, Test, Bind, Term, Call}
use Rattle.ig_item.specs.Core.{IsAlternative, alternative_at, numbered}
use Rattle.ig_item.specs.Items as items
use Rattle.ig_item.specs.Items.{Item, Follows, StandsBefore, IsComplete, Calls, IsDerivation, Reachable, first, past, root_instance, span_of}
use Rattle.ig_item.specs.Examples.{one_letter, root, start, letter, root_alternative, plain_item, four_items, plain_call, FourItemsAreReachable}
use Rattle.ig_item.specs.declared.core_grammar.Nonterminal.{Nonterminal}
use Rattle.ig_item.specs.declared.core_grammar.CoreAlt.{CoreAlt}
use Rattle.ig_item.specs.declared.items.Instance.{Instance}
use Rattle.ig_item.specs.Induction.{kept}
use Rattle.ig_item.proofs.Dots.{alone}

-- which of the four an item is
pub data Known (it : Item) : Type 0 where
  calling : it ≡ plain_item 0 0 0 → Known it
  reading : it ≡ plain_item 1 0 0 → Known it
  read : it ≡ plain_item 1 1 1 → Known it
  called : it ≡ plain_item 0 1 1 → Known it

known_at : (k : ℕ) (it : Item) → slice_get four_items k ≡ Some it → Known it
known_at zero it e = calling (sym (same_Some _ it e))
known_at (suc zero) it e = reading (sym (same_Some _ it e))
known_at (suc (suc zero)) it e = read (sym (same_Some _ it e))
known_at (suc (suc (suc zero))) it e = called (sym (same_Some _ it e))
known_at (suc (suc (suc (suc k)))) it e = cc

pub known : (it : Item) → Contains four_items it → Known it
known it c = let at = at_from_contains four_items it c in known_at at.0 it at.1

-- the step before which an item stands
abbrev step_at : Item → Option Step
step_at it =
    option_and_then (λ (a : CoreAlt). slice_get a.steps it.dot) (alternative_at one_letter it.instance.nonterminal it.alternative)

abbrev pub steps_of : Item → Option ℕ
steps_of it =
    option_and_then (λ (a : CoreAlt). Some (length a.steps)) (alternative_at one_letter it.instance.nonterminal it.alternative)

alternative_is : (n a : ℕ) (nonterminal : Nonterminal) (alternative : CoreAlt) →
    IsAlternative one_letter n a nonterminal alternative → alternative_at one_letter n a ≡ Some alternative
alternative_is n a nonterminal alternative i =
    ap (option_and_then (λ (m : Nonterminal). numbered m.alternatives a)) i.there ∙ i.has

stands : (it : Item) (names : List (List ℕ)) (step : Step) → StandsBefore one_letter it names step → step_at it ≡ Some step
stands it names step s =
    ap (option_and_then (λ (a : CoreAlt). slice_get a.steps it.dot))
    (alternative_is it.instance.nonterminal it.alternative s.nonterminal s.alternative s.has) ∙ s.next

pub ends : (it : Item) → IsComplete one_letter it → steps_of it ≡ Some it.dot
ends it c =
    ap (option_and_then (λ (a : CoreAlt). Some (length a.steps)))
    (alternative_is it.instance.nonterminal it.alternative c.nonterminal c.alternative c.has) ∙ ap Some (sym c.last)

-- the step is the one that an item equal to this one stands before
step_of : (it like : Item) (names : List (List ℕ)) (step : Step) → it ≡ like → StandsBefore one_letter it names step →
    step_at like ≡ Some step
step_of it like names step e s = ap step_at (sym e) ∙ stands it names step s

in_four : (k : ℕ) (x like : Item) → slice_get four_items k ≡ Some like → x ≡ like → Contains four_items x
in_four k x like at e = contains_from_at four_items k x (at ∙ ap Some (sym e))

pub test_never : (it : Item) (names : List (List ℕ)) (c : Expression) → Known it → StandsBefore one_letter it names (Test c) → ⊥
test_never it names c (calling e) s =
    let h : Some (plain_call 1 []) ≡ Some (Test c) = step_of it (plain_item 0 0 0) names (Test c) e s in cc
test_never it names c (reading e) s =
    let h : Some (Term (Literal (codes "a")) None []) ≡ Some (Test c) = step_of it (plain_item 1 0 0) names (Test c) e s in cc
test_never it names c (read e) s =
    let h : None ≡ Some (Test c) = step_of it (plain_item 1 1 1) names (Test c) e s in cc
test_never it names c (called e) s =
    let h : None ≡ Some (Test c) = step_of it (plain_item 0 1 1) names (Test c) e s in cc

pub bind_never : (it : Item) (names : List (List ℕ)) (name : List ℕ) (c : Expression) → Known it →
    StandsBefore one_letter it names (Bind name c) → ⊥
bind_never it names name c (calling e) s =
    let h : Some (plain_call 1 []) ≡ Some (Bind name c) = step_of it (plain_item 0 0 0) names (Bind name c) e s in cc
bind_never it names name c (reading e) s =
    let h : Some (Term (Literal (codes "a")) None []) ≡ Some (Bind name c) =
    step_of it (plain_item 1 0 0) names (Bind name c) e s in
    cc
bind_never it names name c (read e) s =
    let h : None ≡ Some (Bind name c) = step_of it (plain_item 1 1 1) names (Bind name c) e s in cc
bind_never it names name c (called e) s =
    let h : None ≡ Some (Bind name c) = step_of it (plain_item 0 1 1) names (Bind name c) e s in cc

pub record ReadsLetter (it : Item) (what : Pattern) (label : Option (List ℕ)) : Type 0 where
  pub is : it ≡ plain_item 1 0 0
  pub what_is : Literal (codes "a") ≡ what
  pub label_is : label ≡ None

pub terminal_at : (it : Item) (names : List (List ℕ)) (what : Pattern) (label : Option (List ℕ)) (excluded : List Pattern) →
    Known it → StandsBefore one_letter it names (Term what label excluded) → ReadsLetter it what label
terminal_at it names what label excluded (calling e) s =
    let h : Some (plain_call 1 []) ≡ Some (Term what label excluded) =
    step_of it (plain_item 0 0 0) names (Term what label excluded) e s in
    cc
terminal_at it names what label excluded (reading e) s =
    let h : Some (Term (Literal (codes "a")) None []) ≡ Some (Term what label excluded) =
    step_of it (plain_item 1 0 0) names (Term what label excluded) e s in
    let g : Term (Literal (codes "a")) None [] ≡ Term what label excluded = same_Some _ _ h in
    record { is = e; what_is = cc; label_is = cc }
terminal_at it names what label excluded (read e) s =
    let h : None ≡ Some (Term what label excluded) =
    step_of it (plain_item 1 1 1) names (Term what label excluded) e s in
    cc
terminal_at it names what label excluded (called e) s =
    let h : None ≡ Some (Term what label excluded) =
    step_of it (plain_item 0 1 1) names (Term what label excluded) e s in
    cc

pub record CallsStart (it : Item) (callee : ℕ) (arguments : List Expression) (label : Option (List ℕ)) : Type 0 where
  pub is : it ≡ plain_item 0 0 0
  pub callee_is : callee ≡ 1
  pub arguments_are : arguments ≡ []
  pub label_is : label ≡ None

pub call_at : (it : Item) (names : List (List ℕ)) (callee : ℕ) (arguments : List Expression) (label : Option (List ℕ))
    (excluded : List Pattern) → Known it → StandsBefore one_letter it names (Call callee arguments label excluded) →
    CallsStart it callee arguments label
call_at it names callee arguments label excluded (calling e) s =
    let h : Some (plain_call 1 []) ≡ Some (Call callee arguments label excluded) =
    step_of it (plain_item 0 0 0) names (Call callee arguments label excluded) e s in
    let g : Call 1 [] None [] ≡ Call callee arguments label excluded = same_Some _ _ h in
    record { is = e; callee_is = cc; arguments_are = cc; label_is = cc }
call_at it names callee arguments label excluded (reading e) s =
    let h : Some (Term (Literal (codes "a")) None []) ≡ Some (Call callee arguments label excluded) =
    step_of it (plain_item 1 0 0) names (Call callee arguments label excluded) e s in
    cc
call_at it names callee arguments label excluded (read e) s =
    let h : None ≡ Some (Call callee arguments label excluded) =
    step_of it (plain_item 1 1 1) names (Call callee arguments label excluded) e s in
    cc
call_at it names callee arguments label excluded (called e) s =
    let h : None ≡ Some (Call callee arguments label excluded) =
    step_of it (plain_item 0 1 1) names (Call callee arguments label excluded) e s in
    cc

pub letter_ends : (j : ℕ) → Spells (untabbed (codes "a")) (codes "a") 0 j → j ≡ 1
letter_ends zero s = let h : [] ≡ codes "a" = s.letters in cc
letter_ends (suc zero) s = refl
letter_ends (suc (suc k)) s = let h : suc (suc k) ≤ 1 = s.within in absurd (omega arith)

pub no_values : (vs : List Value) → [] ≡ map Some vs → vs ≡ []
no_values [] e = refl
no_values (v ∷ vs) e = cc

after_terminal : (it : Item) (names : List (List ℕ)) (what : Pattern) (label : Option (List ℕ)) (excluded : List Pattern)
    (j : ℕ) (x : Item) → Contains four_items it → StandsBefore one_letter it names (Term what label excluded) →
    Matches (untabbed (codes "a")) what it.position j → x ≡ past it (span_of label it.position j) j → Contains four_items x
after_terminal it names what label excluded j x k before matches e =
    let at = terminal_at it names what label excluded (known it k) before in
    let spells : Spells (untabbed (codes "a")) (codes "a") 0 j =
    subst (λ (i : ℕ). Matches (untabbed (codes "a")) (Literal (codes "a")) i j) (ap (λ (y : Item). y.position) at.is)
    (subst (λ (p : Pattern). Matches (untabbed (codes "a")) p it.position j) (sym at.what_is) matches) in
    let end = letter_ends j spells in
    in_four 2 x (plain_item 1 1 1) refl
    (e ∙ (λ i. past (at.is i) (span_of (at.label_is i) (at.is i).position (end i)) (end i)))

after_call : (it : Item) (callee : Instance) (label : Option (List ℕ)) (excluded : List Pattern) (nonterminal : Nonterminal)
    (a : ℕ) (alternative : CoreAlt) (x : Item) → Contains four_items it →
    Calls one_letter (untabbed (codes "a")) it callee label excluded → IsAlternative one_letter callee.nonterminal a nonterminal alternative →
    x ≡ first callee a → Contains four_items x
after_call it callee label excluded nonterminal a alternative x k calls chosen e =
    let at = call_at it calls.names callee.nonterminal calls.arguments label excluded (known it k) calls.before in
    let values : callee.values ≡ [] =
    no_values callee.values (sym (ap (map _) at.arguments_are) ∙ calls.values) in
    let here : callee.start ≡ 0 = calls.here ∙ ap (λ (y : Item). y.position) at.is in
    let start_is : start letter ≡ nonterminal =
    same_Some (start letter) nonterminal (sym (ap (slice_get one_letter) at.callee_is) ∙ chosen.there) in
    let one : a ≡ 1 =
    alone letter alternative a (ap (λ (n : Nonterminal). numbered n.alternatives a) start_is ∙ chosen.has) in
    in_four 1 x (plain_item 1 0 0) refl
    (e ∙ (λ i. first (record { nonterminal = at.callee_is i; values = values i; start = here i }) (one i)))

after_return : (it done : Item) (label : Option (List ℕ)) (excluded : List Pattern) (x : Item) → Contains four_items it →
    Known done → Calls one_letter (untabbed (codes "a")) it done.instance label excluded → IsComplete one_letter done →
    x ≡ past it (span_of label it.position done.position) done.position → Contains four_items x
after_return it done label excluded x k (calling e) calls complete is =
    let h : Some 1 ≡ Some done.dot = sym (ap steps_of e) ∙ ends done complete in
    let g : 1 ≡ 0 = same_Some _ _ h ∙ ap (λ (y : Item). y.dot) e in
    absurd (omega (arith, g))
after_return it done label excluded x k (reading e) calls complete is =
    let h : Some 1 ≡ Some done.dot = sym (ap steps_of e) ∙ ends done complete in
    let g : 1 ≡ 0 = same_Some _ _ h ∙ ap (λ (y : Item). y.dot) e in
    absurd (omega (arith, g))
after_return it done label excluded x k (read e) calls complete is =
    let at = call_at it calls.names done.instance.nonterminal calls.arguments label excluded (known it k) calls.before in
    in_four 3 x (plain_item 0 1 1) refl
    (is ∙ (λ i. past (at.is i) (span_of (at.label_is i) (at.is i).position (e i).position) (e i).position))
after_return it done label excluded x k (called e) calls complete is =
    let at = call_at it calls.names done.instance.nonterminal calls.arguments label excluded (known it k) calls.before in
    let g : 0 ≡ 1 = sym (ap (λ (y : Item). y.instance.nonterminal) e) ∙ at.callee_is in
    absurd (omega (arith, g))

rule : (x : Item) → Follows one_letter (untabbed (codes "a")) (Contains four_items) x → Contains four_items x
rule _ (items.root x e) = in_four 0 x (plain_item 0 0 0) refl e
rule _ (items.test it names c x k before holds e) = absurd (test_never it names c (known it k) before)
rule _ (items.bind it names name c v x k before has e) = absurd (bind_never it names name c (known it k) before)
rule _ (items.terminal it names what label excluded j x k before matches free e) =
    after_terminal it names what label excluded j x k before matches e
rule _ (items.call it callee label excluded nonterminal a alternative x k calls chosen e) =
    after_call it callee label excluded nonterminal a alternative x k calls chosen e
rule _ (items.return it done label excluded x k l calls complete free e) =
    after_return it done label excluded x k (known done l) calls complete e

pub calls_start : Calls one_letter (untabbed (codes "a")) (plain_item 0 0 0) (plain_item 1 0 0).instance None []
calls_start =
    record {
      names = [];
      arguments = [];
      before =
          record {
            nonterminal = root;
            alternative = root_alternative;
            has = record { there = refl; has = refl };
            next = refl;
            visible = refl;
          };
      values = refl;
      here = refl;
    }

-- each of the four follows from those before it
in_turn : IsDerivation one_letter (untabbed (codes "a")) four_items
in_turn zero x e = items.root x (sym (same_Some (plain_item 0 0 0) x e))
in_turn (suc zero) x e =
    items.call (plain_item 0 0 0) (plain_item 1 0 0).instance None [] (start letter) 1 letter x
    (contains_from_at (take 1 four_items) 0 (plain_item 0 0 0) refl) calls_start (record { there = refl; has = refl })
    (sym (same_Some (plain_item 1 0 0) x e))
in_turn (suc (suc zero)) x e =
    items.terminal (plain_item 1 0 0) [] (Literal (codes "a")) None [] 1 x
    (contains_from_at (take 2 four_items) 1 (plain_item 1 0 0) refl)
    (record {
      nonterminal = start letter;
      alternative = letter;
      has = record { there = refl; has = refl };
      next = refl;
      visible = refl;
    })
    (record { onward = lit≤ tt; within = lit≤ tt; letters = refl }) (All-nil _) (sym (same_Some (plain_item 1 1 1) x e))
in_turn (suc (suc (suc zero))) x e =
    items.return (plain_item 0 0 0) (plain_item 1 1 1) None [] x
    (contains_from_at (take 3 four_items) 0 (plain_item 0 0 0) refl)
    (contains_from_at (take 3 four_items) 2 (plain_item 1 1 1) refl) calls_start
    (record { nonterminal = start letter; alternative = letter; has = record { there = refl; has = refl }; last = refl })
    (All-nil _) (sym (same_Some (plain_item 0 1 1) x e))
in_turn (suc (suc (suc (suc k)))) x e = cc

pub four_items_are_reachable : FourItemsAreReachable
four_items_are_reachable x = (
  kept one_letter (untabbed (codes "a")) (Contains four_items) rule x,
  λ c. record { items = four_items; derivation = in_turn; among = c },
)
