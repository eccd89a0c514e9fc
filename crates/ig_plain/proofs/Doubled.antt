-- For n letters at least n (n + 1) / 2 items of `S = S S | "a"` are reachable: those behind the first of the two calls.
use Rattle.std.proofs.Common.{◌≡◌, ℕ, zero, suc, ◌+◌, ◌*◌, ◌-◌, ◌<◌, ◌≤◌, List, [], Some, None, map, take, drop, replicate, slice_get, sym, ap, ◌∙◌, refl, subst, arith}
use Rattle.std.specs.Prelude.{codes}
use Rattle.std.proofs.lemmas.List.{length-map, length-replicate, drop-replicate, take-replicate}
use Rattle.std.proofs.lemmas.List.Elements.{All-nil}
use Rattle.ig_text.specs.Input.{Input, untabbed}
use Rattle.ig_text.specs.Place.{Spells}
use Rattle.ig_text.specs.declared.pattern.Pattern.TheVariants.{Literal}
use Rattle.ig_text.proofs.Lists.{unmapped_in, at_from_contains}
use Rattle.ig_item.specs.Items as items
use Rattle.ig_item.specs.Items.{Item, Reachable, Calls, IsComplete, StandsBefore, MoreThan}
use Rattle.ig_item.specs.Visible.{names_at}
use Rattle.ig_item.specs.Laws.{ReachableIsClosed}
use Rattle.ig_item.specs.Examples.{plain_call, root, root_alternative}
use Rattle.ig_item.specs.declared.items.Instance.{Instance}
use Rattle.ig_plain.specs.Examples.{both, letter, start, doubled, DoubledNeedsBudgets}
use Rattle.ig_plain.proofs.Distinct.{once_mapped}
use Rattle.ig_plain.proofs.PlainItems.{dot_at, plain_item}
use Rattle.ig_plain.proofs.Triangle.{Stretch, stretch, stretches, length-stretches, within_stretches, once_stretches}

-- an item of `S`, by its alternative and dot, its start and its position
abbrev item : ℕ → ℕ → ℕ → ℕ → Item
item a dot i j = plain_item (dot_at 1 a dot) (stretch j i)

abbrev from : ℕ → Instance
from i = record { nonterminal = 1; values = []; start = i }

-- the letter at i
one_letter : (n i : ℕ) → i < n → Spells (untabbed (replicate n 97)) (codes "a") i (suc i)
one_letter n i lt =
    let one : suc i - i ≡ 1 = omega arith in
    record {
      onward = omega arith;
      within = omega (arith, lt, length-replicate {A = ℕ} n 97);
      letters =
          ap (λ (k : ℕ). take k (drop i (replicate n 97))) one ∙ ap (λ (cs : List ℕ). take 1 cs) (drop-replicate i n 97) ∙
          take-replicate 1 (n - i) 97 (omega (arith, lt));
    }

module _ (closed : ReachableIsClosed) (n : ℕ) where
  abbrev text : Input
  text = untabbed (replicate n 97)

  abbrev Is : Item → Type 0
  Is x = Reachable doubled text x

  -- where `S` is called, both of its alternatives begin
  called : (it : Item) (i : ℕ) → Is it → Calls doubled text it (from i) None [] → (Is (item 1 0 i i)) × (Is (item 2 0 i i))
  called it i h calls = (
    closed doubled text (item 1 0 i i)
        (items.call it (from i) None [] start 1 both (item 1 0 i i) h calls (record { there = refl; has = refl }) refl),
    closed doubled text (item 2 0 i i)
        (items.call it (from i) None [] start 2 letter (item 2 0 i i) h calls (record { there = refl; has = refl }) refl),
  )

  root_calls : Calls doubled text (plain_item (dot_at 0 1 0) (stretch 0 0)) (from 0) None []
  root_calls =
      record {
        names = [];
        arguments = [];
        before =
            record {
              nonterminal = root;
              alternative = root_alternative;
              has = record { there = refl; has = refl };
              next = refl;
              visible = refl;
            };
        values = refl;
        here = refl;
      }

  -- before either call of `S S`
  call_in_both : (dot i j : ℕ) → slice_get both.steps dot ≡ Some (plain_call 1 []) →
      Calls doubled text (item 1 dot i j) (from j) None []
  call_in_both dot i j e =
      record {
        names = names_at start both dot;
        arguments = [];
        before =
            record {
              nonterminal = start;
              alternative = both;
              has = record { there = refl; has = refl };
              next = e;
              visible = refl;
            };
        values = refl;
        here = refl;
      }

  -- a complete item of `S` from i to j is reachable
  record Done (i j : ℕ) : Type 0 where
    alternative : ℕ
    dot : ℕ
    reached : Is (item alternative dot i j)
    complete : IsComplete doubled (item alternative dot i j)

  -- behind them
  behind_first : (i j : ℕ) → Is (item 1 0 i i) → Done i j → Is (item 1 1 i j)
  behind_first i j h done =
      closed doubled text (item 1 1 i j)
      (items.return (item 1 0 i i) (item done.alternative done.dot i j) None [] (item 1 1 i j) h done.reached (call_in_both 0 i i refl)
      done.complete (All-nil _) refl)

  behind_second : (i j k : ℕ) → Is (item 1 1 i j) → Done j k → Is (item 1 2 i k)
  behind_second i j k h done =
      closed doubled text (item 1 2 i k)
      (items.return (item 1 1 i j) (item done.alternative done.dot j k) None [] (item 1 2 i k) h done.reached (call_in_both 1 i j refl)
      done.complete (All-nil _) refl)

  behind_letter : (i : ℕ) → i < n → Is (item 2 0 i i) → Done i (suc i)
  behind_letter i lt h =
      record {
        alternative = 2;
        dot = 1;
        reached =
            closed doubled text (item 2 1 i (suc i))
            (items.terminal (item 2 0 i i) [] (Literal (codes "a")) None [] (suc i) (item 2 1 i (suc i)) h
            (record {
              nonterminal = start;
              alternative = letter;
              has = record { there = refl; has = refl };
              next = refl;
              visible = refl;
            })
            (one_letter n i lt) (All-nil _) refl);
        complete = record { nonterminal = start; alternative = letter; has = record { there = refl; has = refl }; last = refl };
      }

  -- `S` is called at each position
  begins : (i : ℕ) → i ≤ n → (Is (item 1 0 i i)) × (Is (item 2 0 i i))
  begins zero le =
      called (plain_item (dot_at 0 1 0) (stretch 0 0)) 0
      (closed doubled text (plain_item (dot_at 0 1 0) (stretch 0 0)) (items.root (plain_item (dot_at 0 1 0) (stretch 0 0)) refl))
      root_calls
  begins (suc i) le =
      let h = begins i (omega (arith, le)) in
      let done = behind_letter i (omega (arith, le)) h.1 in
      called (item 1 1 i (suc i)) (suc i) (behind_first i (suc i) h.0 done) (call_in_both 1 i (suc i) refl)

  -- it is over one letter, or one and then more
  covers : (d i j : ℕ) → j ≡ suc (i + d) → j ≤ n → Done i j
  covers zero i j e le =
      let one : suc i ≡ j = omega (arith, e) in
      subst (λ (k : ℕ). Done i k) one (behind_letter i (omega (arith, e, le)) (begins i (omega (arith, e, le))).1)
  covers (suc d) i j e le =
      let h = begins i (omega (arith, e, le)) in
      let one = behind_first i (suc i) h.0 (behind_letter i (omega (arith, e, le)) h.1) in
      let others = covers d (suc i) j (omega (arith, e)) le in
      record {
        alternative = 1;
        dot = 2;
        reached = behind_second i (suc i) j one others;
        complete = record { nonterminal = start; alternative = both; has = record { there = refl; has = refl }; last = refl };
      }

  -- so over any letters the item behind the first call is reachable
  behind_call : (i j : ℕ) → i < j → j ≤ n → Is (item 1 1 i j)
  behind_call i j lt le =
      let d : suc (i + (j - suc i)) ≡ j = omega (arith, lt) in
      behind_first i j (begins i (omega (arith, lt, le))).0 (covers (j - suc i) i j (sym d) le)

-- the item behind the first call over that stretch and one letter more
abbrev over : Stretch → Item
over s = item 1 1 s.start (suc s.end)

-- which tells stretches apart
same_over : (s t : Stretch) → over s ≡ over t → s ≡ t
same_over s t e =
    let first : s.start ≡ t.start = ap (λ (x : Item). x.instance.start) e in
    let last : suc s.end ≡ suc t.end = ap (λ (x : Item). x.position) e in
    let end : s.end ≡ t.end = omega (arith, last) in
    λ i. record { start = first i; end = end i }

pub many_reachable : ReachableIsClosed → DoubledNeedsBudgets
many_reachable closed n budget few =
    record {
      items = map over (stretches n);
      different = once_mapped over (stretches n) (once_stretches n) (λ s t c d e. same_over s t e);
      reachable =
          λ x c.
          let from_stretch = unmapped_in over (stretches n) x c in
          let at = at_from_contains (stretches n) from_stretch.0 from_stretch.1 in
          let within = within_stretches n at.0 from_stretch.0 at.1 in
          let s = from_stretch.0 in
          subst (λ (y : Item). Reachable doubled (untabbed (replicate n 97)) y) from_stretch.2
          (behind_call closed n s.start (suc s.end) (omega (arith, within.onward)) (omega (arith, within.inside)));
      more =
          let long = length-map (stretches n) over in
          let all = length-stretches n in
          let next : suc n ≡ n + 1 = omega arith in
          let same = ap (λ (m : ℕ). n * m) next in omega (arith, few, long, all, same);
    }
