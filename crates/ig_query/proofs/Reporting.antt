-- The report, from what was found among the reachable items.
use Rattle.std.proofs.Common.{◌≡◌, ◌↔◌, ⊎_elim, inl, inr, ℕ, ◌≤◌, List, Option, Some, None, Bool, true, false, if◌then◌else◌, IsTrue, length, Contains, refl, sym, ap, ◌∙◌, subst, arith}
use Rattle.std.specs.List.{filter_map}
use Rattle.std.specs.Prelude.{ℤ, pos, nat_le}
use Rattle.std.proofs.lemmas.Bool.Decides.{nat_tests}
use Rattle.std.proofs.lemmas.Option.{same_Some}
use Rattle.ig_text.specs.Input.{Input}
use Rattle.ig_text.specs.Lines.{line_at, line_of, column_at, column_of}
use Rattle.ig_text.specs.declared.pattern.Pattern.{Pattern}
use Rattle.ig_item.specs.Items.{Item}
use Rattle.ig_item.specs.Laws.{BehindIsLookedUp, ItemsAreInText}
use Rattle.ig_item.specs.Report.{IsFurthest, IsExpected, EndIsExpected}
use Rattle.ig_item.specs.declared.core_grammar.Nonterminal.{Nonterminal}
use Rattle.ig_show_trees.specs.declared.report.Report.{Report}
use Rattle.ig_query.specs.CodeReport.{AreDotsAt, AreReachable, EndsAt, IsFurthestAmong, pattern_at}
use Rattle.ig_query.specs.Report.{IsReport}
use Rattle.ig_query.specs.declared.dots.Dot.{Dot}
use Rattle.ig_query.proofs.LookedUp.{expects_found}
use Rattle.ig_query.proofs.Through.{from_filter_map, to_filter_map}

module _ (core : List Nonterminal) (text : Input) (items : List Item) (are : AreReachable core text items) where
  furthest_reached : (p : ℕ) → IsFurthestAmong core items p → IsFurthest core text p
  furthest_reached p among =
      record {
        greatest = λ x c. among.greatest x ((are x).1 c.reachable) c.reports;
        reached =
            ⊎_elim (λ r. inl (r.0, record { reachable = (are r.0).0 r.1; reports = r.2 }, r.3))
            (λ n. inr (λ x c. n.0 x ((are x).1 c.reachable) c.reports, n.1)) among.reached;
      }

  expected_there : BehindIsLookedUp → (p : ℕ) (dots : List Dot) → AreDotsAt items p dots → (what : Pattern) →
      Contains (filter_map (pattern_at core) dots) what ↔ IsExpected core text p what
  expected_there law p dots at what = (
    λ c.
        let (d, among, found) = from_filter_map (pattern_at core) dots what c in
        let (x, inside, there, is) = (at d).0 among in
        record {
          item = x;
          reachable = (are x).0 inside;
          expects = (expects_found law core x what).1 (ap (pattern_at core) is ∙ found);
          there = there;
        },
    λ e.
        to_filter_map (pattern_at core) dots _ what ((at _).1 (e.item, (are e.item).1 e.reachable, e.there, refl))
        ((expects_found law core e.item what).0 e.expects),
  )

  end_there : (p : ℕ) (end : Bool) → IsTrue end ↔ EndsAt core items p → IsTrue end ↔ EndIsExpected core text p
  end_there p end is = (
    λ t. let e = is.0 t in record { item = e.0; reachable = (are e.0).0 e.1; complete = e.3; there = e.2 },
    λ e. is.1 (e.item, (are e.item).1 e.reachable, e.there, e.complete),
  )

  pub is_report : BehindIsLookedUp → (report : Report) (dots : List Dot) → IsFurthestAmong core items report.position →
      report.line ≡ line_of text report.position → report.column ≡ column_of text report.position → AreDotsAt items report.position dots →
      report.expected ≡ filter_map (pattern_at core) dots → IsTrue report.end ↔ EndsAt core items report.position →
      IsReport core text report
  is_report law report dots furthest line column at expected end =
      record {
        furthest = furthest_reached report.position furthest;
        line = line;
        column = column;
        expected = λ what.
            let p = expected_there law report.position dots at what in
            (λ c. p.0 (subst (λ v. Contains v what) expected c), λ e. subst (λ v. Contains v what) (sym expected) (p.1 e));
        end = end_there report.position report.end end;
      }

  -- the furthest position is in the text
  pub furthest_within : ItemsAreInText → (p : ℕ) → IsFurthestAmong core items p → p ≤ length text.characters
  furthest_within law p among =
      ⊎_elim
      (λ r.
      let within = (law core text r.0 ((are r.0).0 r.1)).within in
      let there = r.3 in
      omega (arith, within, there))
      (λ n. let zero_is = n.1 in omega (arith, zero_is)) among.reached

-- a position within the text has a line, which is the one that is read
pub line_there : (text : Input) (p : ℕ) (o : Option ℕ) → p ≤ length text.characters → o ≡ line_at text p → o ≡ None → ⊥
line_there text p o within read none = by (nat_le p (length text.characters)) refl (sym read ∙ none)
  where
    by : (b : Bool) → nat_le p (length text.characters) ≡ b → (if b then Some (line_of text p) else None) ≡ None → ⊥
    by true e same = cc
    by false e same = grind (arith, nat_tests)

pub line_number : (text : Input) (p line : ℕ) (o : Option ℕ) → o ≡ line_at text p → o ≡ Some line → line ≡ line_of text p
line_number text p line o read some = by (nat_le p (length text.characters)) (sym read ∙ some)
  where
    by : (b : Bool) → (if b then Some (line_of text p) else None) ≡ Some line → line ≡ line_of text p
    by true e = sym (same_Some _ line e)
    by false e = cc

-- the column that is read
pub column_number : (text : Input) (p : ℕ) (z column : ℤ) (o : Option ℤ) → z ≡ pos p → o ≡ column_at text z → o ≡ Some column →
    column ≡ pos (column_of text p)
column_number text p z column o is read some =
    by (nat_le p (length text.characters)) (ap (column_at text) (sym is) ∙ sym read ∙ some)
  where
    by : (b : Bool) → (if b then Some (pos (column_of text p)) else None) ≡ Some column → column ≡ pos (column_of text p)
    by true e = sym (same_Some _ column e)
    by false e = cc
