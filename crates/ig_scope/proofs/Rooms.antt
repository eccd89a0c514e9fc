-- What is left of a room after labels and lets.
use Rattle.std.proofs.Common.{◌≡◌, ℕ, ◌<◌, ◌+◌, List, [], ◌∷◌, ◌++◌, Option, Some, None, cond, sym, ◌∙◌, ap, subst, arith}
use Rattle.std.proofs.lemmas.List.Sums.{sum_by-append}
use Rattle.ig_grammar.specs.Symbol.{Symbol}
use Rattle.ig_grammar.specs.Visible.{Visible, Occurrence, at, inside}
use Rattle.ig_grammar.specs.Condition.{binds_name}
use Rattle.ig_scope.specs.Binders.{Leaves, binders}
use Rattle.ig_scope.specs.AlternativesTold.{from}

pub binders_append : (xs ys : List Occurrence) → binders (xs ++ ys) ≡ binders xs + binders ys
binders_append xs ys = sum_by-append (λ (o : Occurrence). cond (binds_name o.symbol) 1 0) xs ys

pub leaves_then : (room left n m k : ℕ) (r : Option ℕ) → Leaves room n (Some left) → Leaves left m r → k ≡ n + m → Leaves room k r
leaves_then room left n m k None g h e = omega arith
leaves_then room left n m k (Some z) g h e = omega arith

pub leaves_none : (room n m k : ℕ) (r : Option ℕ) → r ≡ None → Leaves room n None → k ≡ n + m → Leaves room k r
leaves_none room n m k r p g e = subst (Leaves room k) (sym p) (let z : room < k = omega arith in z)

-- a symbol itself, and then those inside it
pub leaves_form : (v : Visible) (room left : ℕ) (s y : Symbol) (os : List Occurrence) (r : Option ℕ) → s ≡ y → inside v y ≡ os →
    Leaves room (binders (at v s ∷ [])) (Some left) → Leaves left (binders os) r → Leaves room (binders (from v s)) r
leaves_form v room left s y os r e i g h =
    leaves_then room left (binders (at v s ∷ [])) (binders os) (binders (from v s)) r g h
    (binders_append (at v s ∷ []) (inside v s) ∙ ap (λ z. binders (at v s ∷ []) + binders z) (ap (inside v) e ∙ i))

pub leaves_itself_none : (v : Visible) (room : ℕ) (s : Symbol) (r : Option ℕ) → r ≡ None →
    Leaves room (binders (at v s ∷ [])) None → Leaves room (binders (from v s)) r
leaves_itself_none v room s r e g =
    leaves_none room (binders (at v s ∷ [])) (binders (inside v s)) (binders (from v s)) r e g (binders_append (at v s ∷ []) (inside v s))

pub leaves_form_none : (v : Visible) (room left : ℕ) (s y : Symbol) (os others : List Occurrence) (r : Option ℕ) → r ≡ None → s ≡ y → inside v y ≡ os ++ others →
    Leaves room (binders (at v s ∷ [])) (Some left) → Leaves left (binders os) None → Leaves room (binders (from v s)) r
leaves_form_none v room left s y os others r p e i g h =
    leaves_form v room left s y (os ++ others) r e i g (leaves_none left (binders os) (binders others) (binders (os ++ others)) r p h (binders_append os others))

pub leaves_pair : (room left : ℕ) (xs ys : List Occurrence) (r : Option ℕ) → Leaves room (binders xs) (Some left) → Leaves left (binders ys) r → Leaves room (binders (xs ++ ys)) r
leaves_pair room left xs ys r g h = leaves_then room left (binders xs) (binders ys) (binders (xs ++ ys)) r g h (binders_append xs ys)

pub leaves_more : (room left : ℕ) (xs ys zs : List Occurrence) (r : Option ℕ) → zs ≡ xs ++ ys → Leaves room (binders xs) (Some left) → Leaves left (binders ys) r → Leaves room (binders zs) r
leaves_more room left xs ys zs r e g h = subst (λ z. Leaves room (binders z) r) (sym e) (leaves_pair room left xs ys r g h)

pub leaves_past : (room left : ℕ) (xs ys rest zs : List Occurrence) (r : Option ℕ) → r ≡ None → zs ≡ (xs ++ ys) ++ rest → Leaves room (binders xs) (Some left) → Leaves left (binders ys) None → Leaves room (binders zs) r
leaves_past room left xs ys rest zs r p e g h =
    leaves_none room (binders (xs ++ ys)) (binders rest) (binders zs) r p (leaves_pair room left xs ys None g h) (ap binders e ∙ binders_append (xs ++ ys) rest)
