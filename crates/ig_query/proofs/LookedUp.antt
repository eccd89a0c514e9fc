-- What the step behind an item's dot says of it.
use Rattle.std.proofs.Common.{◌≡◌, ◌↔◌, inl, ℕ, List, Some, None, Option, Bool, Bor, true, false, IsTrue, sym, ap, ◌∙◌, subst}
use Rattle.std.specs.Prelude.{is_some}
use Rattle.std.specs.Option.{option_copied}
use Rattle.ig_text.specs.declared.pattern.Pattern.{Pattern}
use Rattle.ig_item.specs.Behind.{Behind, Next, End, behind_at, behind_item}
use Rattle.ig_item.specs.Items.{Item, IsCompleteRoot, root_instance}
use Rattle.ig_item.specs.Laws.{BehindIsLookedUp}
use Rattle.ig_item.specs.Report.{Expects}
use Rattle.ig_item.specs.Step.{Test, Bind, Term, Call}
use Rattle.ig_item.specs.declared.core_grammar.Nonterminal.{Nonterminal}
use Rattle.ig_query.specs.declared.dots.Dot.{Dot}
use Rattle.ig_query.specs.CodeReport.{pattern_of, pattern_at, dot_of, Reports}

-- the terminal of that pattern
record IsTerm (b : Option Behind) (what : Pattern) : Type 0 where
  label : Option (List ℕ)
  excluded : List Pattern
  is : b ≡ Some (Next (Term what label excluded))

is_term : (b : Option Behind) (what : Pattern) → pattern_of b ≡ Some what → IsTerm b what
is_term None what e = cc
is_term (Some End) what e = cc
is_term (Some (Next (Test condition))) what e = cc
is_term (Some (Next (Bind name value))) what e = cc
is_term (Some (Next (Call callee arguments label excluded))) what e = cc
is_term (Some (Next (Term pattern label excluded))) what e =
    record { label = label; excluded = excluded; is = ap (λ (p : Option Pattern). Some (Next (Term (option_or p) label excluded))) e }
  where
    option_or : Option Pattern → Pattern
    option_or (Some p) = p
    option_or None = pattern

module _ (law : BehindIsLookedUp) (core : List Nonterminal) (x : Item) where
  -- the item stands before a terminal of the pattern that is found behind its dot
  pub expects_found : (what : Pattern) → Expects core x what ↔ (pattern_at core (dot_of x) ≡ Some what)
  expects_found what = (
    λ e. ap pattern_of (((law core x).next (Term what e.label e.excluded)).0 (e.names, e.before)),
    λ found.
        let t = is_term (behind_item core x) what found in
        let s = ((law core x).next (Term what t.label t.excluded)).1 t.is in
        record { names = s.0; label = t.label; excluded = t.excluded; before = s.1 },
  )

  pub complete_root_found : IsCompleteRoot core x ↔ ((x.instance ≡ root_instance) × (behind_item core x ≡ Some End))
  complete_root_found = (
    λ r. (r.of_root, (law core x).end.0 r.complete),
    λ p. record { of_root = p.0; complete = (law core x).end.1 p.1 },
  )

  pub complete_root_by : (d : Dot) → d ≡ dot_of x → (b : Bool) →
      IsTrue b ↔ (behind_at core d.nonterminal d.alternative d.dot ≡ Some End) → x.instance ≡ root_instance → IsTrue b ↔ IsCompleteRoot core x
  complete_root_by d same b is root =
      let here : IsTrue b ↔ (behind_item core x ≡ Some End) =
      subst (λ (z : Dot). IsTrue b ↔ (behind_at core z.nonterminal z.alternative z.dot ≡ Some End)) same is in (
        λ t. complete_root_found.1 (root, here.0 t),
        λ h. here.1 (complete_root_found.0 h).1,
      )

  pub reports_some : (d : Dot) → d ≡ dot_of x → (o : Option (Bor Pattern)) → option_copied o ≡ pattern_at core d → is_some o ≡ true → Reports core x
  reports_some d same None found some = cc
  reports_some d same (Some p) found some =
      inl (p.now, (expects_found p.now).1 (ap (pattern_at core) (sym same) ∙ sym found))

  pub never_expects : (d : Dot) → d ≡ dot_of x → (o : Option (Bor Pattern)) → option_copied o ≡ pattern_at core d → is_some o ≡ false →
      (what : Pattern) → Expects core x what → ⊥
  never_expects d same None found none what e =
      let at : pattern_at core (dot_of x) ≡ Some what = (expects_found what).0 e in
      let no : None ≡ Some what = found ∙ ap (pattern_at core) same ∙ at in cc
  never_expects d same (Some p) found none what e = cc
