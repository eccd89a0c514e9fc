-- The facts that marks say, and what they tell of trees.
use Rattle.std.proofs.Common.{◌≡◌, ◌↔◌, inl, inr, ◌∙◌, ℕ, ◌+◌, ◌<◌, List, [], ◌∷◌, ◌++◌, Some, Bool, true, false, length, get_or, slice_get, sym, ap, subst, arith}
use Rattle.std.proofs.lemmas.Option.{slice_get_within}
use Rattle.std.proofs.lemmas.List.{length_push, get_or_default}
use Rattle.ig_text.proofs.Lists.{get_within, place_cases}
use Rattle.ig_item.specs.declared.core_grammar.Nonterminal.{Nonterminal}
use Rattle.ig_analyse.specs.declared.facts.Fact.{Fact}
use Rattle.ig_analyse.specs.Marks.{MarkExactly, is_marked}
use Rattle.ig_analyse.specs.Told.{SaysOf, AreFactsOf, TellOfTrees}
use Rattle.ig_analyse.specs.Facts.{LeadsAlone, Onward, one, further, IsCircular}
use Rattle.ig_analyse.specs.Laws.{UnproductiveHaveNoTree, OthersHaveNoEmptyTree, HeightsAreBounded}

-- the facts of the first nonterminals
pub record AreFactsTo (core : List Nonterminal) (facts : List Fact) (to : ℕ) : Type 0 where
  pub counted : length facts ≡ to
  pub each : (n : ℕ) (fact : Fact) → slice_get facts n ≡ Some fact → SaysOf core n fact

pub read_mark : {P : ℕ → Type 0} (core : List Nonterminal) (marks : List Bool) (n : ℕ) (b : Bool) → MarkExactly core P marks →
    n < length core → b ≡ get_or marks n b → (b ≡ true) ↔ P n
read_mark core marks n b exact within read =
    let l = exact.long in
    let e : b ≡ is_marked marks n = read ∙ get_or_default marks n b false (omega (arith, within, l)) in
    (λ h. (exact.same n).0 (sym e ∙ h), λ p. e ∙ (exact.same n).1 p)

not_both : (b : Bool) → b ≡ true → b ≡ false → ⊥
not_both b t f = cc

-- who leads somewhere is there
starts : (core : List Nonterminal) (n m : ℕ) → Onward (LeadsAlone core) n m → (x : Nonterminal) × (slice_get core n ≡ Some x)
starts core n m (one _ l) = (l.call.nonterminal, l.call.has.there)
starts core n m (further k _ o l) = starts core n k o

fact_of : (core : List Nonterminal) (facts : List Fact) (n : ℕ) → AreFactsOf core facts → IsCircular core n →
    (fact : Fact) × (slice_get facts n ≡ Some fact)
fact_of core facts n are round =
    let at = starts core n n round in
    let w = slice_get_within core n at.0 at.1 in
    let l = are.counted in get_within facts n (omega (arith, w, l))

pub none_told : (core : List Nonterminal) (facts : List Fact) → facts ≡ [] → AreFactsTo core facts 0
none_told core facts e =
    record { counted = ap length e; each = λ n fact there. let at = ap (λ z. slice_get z n) (sym e) ∙ there in absurd (cc) }

pub one_more_told : (core : List Nonterminal) (facts next : List Fact) (at : ℕ) (fact : Fact) → AreFactsTo core facts at →
    next ≡ facts ++ fact ∷ [] → SaysOf core at fact → AreFactsTo core next (at + 1)
one_more_told core facts next at fact are e says =
    record {
      counted = ap length e ∙ length_push facts fact ∙ ap (λ z. z + 1) are.counted;
      each = λ n x there. elim (place_cases facts fact x n (sym (ap (λ z. slice_get z n) e) ∙ there)) [
        | inl old ↦ are.each n x old
        | inr new ↦ subst (λ z. SaysOf core z x) (sym (new.0 ∙ are.counted)) (subst (SaysOf core at) new.1 says)
      ];
    }

pub all_told : (core : List Nonterminal) (facts : List Fact) (to : ℕ) → AreFactsTo core facts to → to ≡ length core → AreFactsOf core facts
all_told core facts to are e = record { counted = are.counted ∙ e; each = are.each }

pub tell : (core : List Nonterminal) (facts : List Fact) → UnproductiveHaveNoTree → OthersHaveNoEmptyTree → HeightsAreBounded →
    AreFactsOf core facts → TellOfTrees core facts
tell core facts barren full bounded are =
    record {
      unproductive = λ n fact there e text vs i j t.
          barren core n (λ p. not_both fact.productive (((are.each n fact there).productive).1 p) e) text vs i j t;
      not_nullable = λ regular n fact there e text vs i t.
          full core n regular (λ p. not_both fact.nullable (((are.each n fact there).nullable).1 p) e) text vs i t;
      bounded = λ regular none text t tree.
          bounded core regular
          (λ n round made reached. let at = fact_of core facts n are round in
          none n at.0 at.1 (((are.each n at.0 at.1).cyclic).1 round) (((are.each n at.0 at.1).productive).1 made)
          (((are.each n at.0 at.1).reachable).1 reached))
          text t tree;
    }
