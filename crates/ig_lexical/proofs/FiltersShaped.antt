-- The shapes of a grammar fit it after the filters pass.
use Rattle.std.proofs.Common.{ℕ, List, sym, subst}
use Rattle.std.specs.Prelude.{All}
use Rattle.std.proofs.lemmas.List.Elements.{All-map}
use Rattle.ig_grammar.specs.Symbol.{Symbol, Call, Seq, listed}
use Rattle.ig_grammar.specs.Regular.{AlternativesHaveNoMark, OfEachLevel}
use Rattle.ig_grammar.specs.Checked.{FitShapes, IsCall, IsOfCalls}
use Rattle.ig_grammar.specs.declared.grammar.Grammar.{Grammar}
use Rattle.ig_grammar.specs.declared.place.Shape.{Shape}
use Rattle.ig_pass.specs.Rewriting.{rewritten, rewritten_grammar}
use Rattle.ig_lexical.specs.Filters.{attached}
use Rattle.ig_lexical.proofs.AttachingPlaced.{attached_placed}
use Rattle.ig_lexical.proofs.FiltersScoped.{same_kinds}
use Rattle.ig_lexical.proofs.Keeping.{Keeps}
use Rattle.ig_lexical.proofs.RewrittenShaped.{IsUncalled, heads, listed_rewritten, turned_fits}

attached_uncalled : (name : List ℕ) → Keeps (IsUncalled name) (heads name) attached
attached_uncalled name =
    attached_placed (IsUncalled name) (λ v xs arguments f. cc) (λ v x fs arguments f. cc) (λ v e t arguments f. cc) (λ l x y v u arguments f. cc)

pub attached_call : (x : Symbol) → IsCall x → IsCall (rewritten attached x)
attached_call (Call name arguments) c = tt
attached_call x c = absurd c

attached_of_calls : (x : Symbol) → IsOfCalls x → IsOfCalls (rewritten attached x)
attached_of_calls (Call name arguments) c = tt
attached_of_calls (Seq xs) c =
    subst (All IsCall) (sym (listed_rewritten attached xs)) (All-map IsCall (rewritten attached) (listed xs) (λ k d l. attached_call _ (c k d l)))
attached_of_calls x c = absurd c

pub attached_fits : (g : Grammar) (shapes : List Shape) → OfEachLevel AlternativesHaveNoMark g → FitShapes g shapes →
    FitShapes (rewritten_grammar (λ decl. attached) g) shapes
attached_fits g shapes none fit =
    turned_fits (λ kind. kind) (λ decl. attached) same_kinds g shapes none fit
    (λ before decl at rooted root. record {
      uncalled = λ other. attached_uncalled decl.name;
      calls = λ a m. All-map IsOfCalls (rewritten attached) a.symbols (λ k d l. attached_of_calls _ (root.calls a m k d l));
    })
