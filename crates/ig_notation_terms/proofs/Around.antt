-- The parts of the rules, put together of what is read one behind the other: what stands around symbols.
use Rattle.std.proofs.Common.{◌≡◌, ◌≢◌, ℕ, ◌+◌, ◌≤◌, List, [], ◌∷◌, ◌++◌, length, drop, refl, sym, ap, ◌∙◌, subst, Bool, false}
use Rattle.std.specs.Prelude.{Option, Some, None, is_some, ◌&&◌, if◌then◌else◌}
use Rattle.ig_text.specs.declared.pattern.Pattern.{Pattern}
use Rattle.ig_expr.specs.Expression.{Expression}
use Rattle.ig_notation_syntax.specs.Token as token
use Rattle.ig_notation_syntax.specs.Token.{Token, Name, Head, Colon, Open, Close, Equals, When, OpenBrace, CloseBrace}
use Rattle.ig_grammar.specs.Symbol as tree
use Rattle.ig_grammar.specs.Symbol.{Symbol, Alternatives}
use Rattle.ig_grammar.specs.declared.filter.Filter.{Filter}
use Rattle.ig_notation_syntax.specs.Rules as rule
use Rattle.ig_notation_syntax.specs.Rules.{IsPattern, ReadsExpression, ReadsArguments, ReadsFilters, ReadsSign, ReadsSymbol, ReadsPost, ReadsAtom, filtered}
use Rattle.ig_notation_syntax.specs.Machine as want
use Rattle.ig_notation_syntax.specs.Machine.{Want, after, before, run, after_symbol, after_atom, arguments_wants}
use Rattle.ig_notation_syntax.specs.Reading.{Goes}
use Rattle.ig_notation_terms.specs.declared.fault.RuleFault.{RuleFault}
use Rattle.ig_notation_terms.specs.declared.fault.RuleFault.TheVariants.{Unexpected, Memory}
use Rattle.ig_notation_terms.specs.declared.repetitions.Repetition.{Repetition}
use Rattle.ig_notation_terms.specs.declared.repetitions.Repetition.TheVariants as repetitions
use Rattle.ig_notation_terms.specs.declared.repetitions.ListSign.{ListSign}
use Rattle.ig_notation_terms.specs.declared.repetitions.ListSign.TheVariants as lists
use Rattle.ig_notation_terms.specs.Readers.{Stands, Takes, Misses, at_end, at_token, MissesAt, StopsAt, Runs, Behind, Closed, After}
use Rattle.ig_notation_terms.specs.Repetitions.{repetition_token, repeated_of, list_token, separated_of}
use Rattle.ig_notation_terms.specs.declared.parts.BlockMark.{BlockMark}
use Rattle.ig_notation_terms.specs.Parts.{marked_of, is_opening, IsPlain, ReadsRepetition, symbol_with, ReadsFiltered, ReadsAtomEnd, ReadsGroupEnd, ReadsClosing, ReadsListEnd, terminal_of}
use Rattle.ig_notation_terms.specs.Parts as parts
use Rattle.ig_notation_terms.specs.Steps.{taken, passed, stop_later, stop_first, stop_past, by_token, by_itself, in_turn, nothing, ReadsToken, the_token, alike_at, rows_alike, rows_same, relay, reread, token_then, sign_then}

-- guards and lets
pub guard : (T : List Token) (i j k : ℕ) (e : Expression) → Takes Open T i j →
    Goes Expression (Closed ReadsExpression) (want.expression ∷ want.close_bracket ∷ []) [] T j k e →
    Goes Symbol (Behind When ReadsSymbol) (want.open_bracket ∷ want.expression ∷ want.close_bracket ∷ []) [] T i k (tree.Guard e)
guard T i j k e h g =
    reread (Behind When ReadsSymbol) (After Open (Closed ReadsExpression)) (want.open_bracket ∷ want.expression ∷ want.close_bracket ∷ []) [] T i k (tree.Guard e) e
    (sign_then (Closed ReadsExpression) want.open_bracket Open (want.expression ∷ want.close_bracket ∷ []) [] T i j k e refl h g)
    (λ s r v. subst (λ z. ReadsSymbol (When ∷ z) r (tree.Guard e)) (sym v.is) (rule.guard v.middle r e v.part))

let_read : (x : List ℕ) (e : Expression) (s r : List Token) → After (Name x) (After Equals (After Open (Closed ReadsExpression))) s r e →
    ReadsSymbol (token.Let ∷ s) r (tree.Let x e)
let_read x e s r v =
    subst (λ z. ReadsSymbol (token.Let ∷ z) r (tree.Let x e))
    (sym (v.is ∙ ap (λ z. Name x ∷ z) (v.part.is ∙ ap (λ z. Equals ∷ z) v.part.part.is))) (rule.let_be x v.part.part.middle r e v.part.part.part)

pub let_be : (T : List Token) (i j k l : ℕ) (x y : List ℕ) (e : Expression) → Stands T i (Name x) → Takes Equals T (i + 1) j → Takes Open T j k →
    Goes Expression (Closed ReadsExpression) (want.expression ∷ want.close_bracket ∷ []) [] T k l e → y ≡ x →
    Goes Symbol (Behind token.Let ReadsSymbol) (want.name ∷ want.equals ∷ want.open_bracket ∷ want.expression ∷ want.close_bracket ∷ []) [] T i l (tree.Let y e)
let_be T i j k l x y e n q o g f =
    subst (λ z. Goes Symbol (Behind token.Let ReadsSymbol) (want.name ∷ want.equals ∷ want.open_bracket ∷ want.expression ∷ want.close_bracket ∷ []) [] T i l (tree.Let z e)) (sym f)
    (reread (Behind token.Let ReadsSymbol) (After (Name x) (After Equals (After Open (Closed ReadsExpression))))
    (want.name ∷ want.equals ∷ want.open_bracket ∷ want.expression ∷ want.close_bracket ∷ []) [] T i l (tree.Let x e) e
    (token_then (After Equals (After Open (Closed ReadsExpression))) want.name (Name x)
    (want.equals ∷ want.open_bracket ∷ want.expression ∷ want.close_bracket ∷ []) [] T i l e refl n
    (sign_then (After Open (Closed ReadsExpression)) want.equals Equals (want.open_bracket ∷ want.expression ∷ want.close_bracket ∷ []) [] T (i + 1) j l e refl q
    (sign_then (Closed ReadsExpression) want.open_bracket Open (want.expression ∷ want.close_bracket ∷ []) [] T j k l e refl o g)))
    (let_read x e))

-- how symbols begin
none_before : (o : Option (List Want)) → is_some o ≡ false → before (want.alternative ∷ []) o ≡ None
none_before None e = refl
none_before (Some row) e = absurd (cc)

pub no_alternative : (t : Token) → is_some (after_symbol t) ≡ false → after want.alternative t ≡ None
no_alternative t e = none_before (after_symbol t) e

-- two wants that may not lack, where the tokens end
end_alike : (b c : Bool) (n : ℕ) (k l : List Want) → b ≡ false → c ≡ false →
    (if b && want.all_may_lack k then None else Some n) ≡ (if c && want.all_may_lack l then None else Some n)
end_alike b c n k l e f = rw (e, f) refl

pub both_end : (w v : Want) (a b : List Want) (T : List Token) (i : ℕ) → want.may_lack w ≡ false → want.may_lack v ≡ false → drop i T ≡ [] →
    Runs (w ∷ a) (v ∷ b) T i i
both_end w v a b T i f g e =
    record {
      go_on = λ behind. subst (λ z. run i (w ∷ (a ++ behind)) z ≡ run i (v ∷ (b ++ behind)) z) (sym e)
          (end_alike (want.may_lack w) (want.may_lack v) i (a ++ behind) (b ++ behind) f g);
    }

no_colon : (t : Token) (behind : List Want) (n : ℕ) (u : List Token) → want.after_colon t ≡ None →
    run n (want.name_rest ∷ behind) (t ∷ u) ≡ run n (want.sign ∷ want.filters ∷ behind) (t ∷ u)
no_colon Colon behind n u e = cc
no_colon t behind n u e = refl

name_alone : (T : List Token) (i : ℕ) → Misses want.colon T i → Runs (want.name_rest ∷ []) (want.sign ∷ want.filters ∷ []) T i i
name_alone T i (at_end e) =
    record { go_on = λ behind. subst (λ z. run i (want.name_rest ∷ behind) z ≡ run i (want.sign ∷ want.filters ∷ behind) z) (sym e) refl }
name_alone T i (at_token t h e) =
    alike_at (want.name_rest ∷ []) (want.sign ∷ want.filters ∷ []) t T i h (λ n behind u. no_colon t behind n u e)

-- a name without a colon behind it
pub name_first : (T : List Token) (i : ℕ) (x : List ℕ) → Stands T i (Name x) → Misses want.colon T (i + 1) → Runs (want.symbol ∷ []) (want.marked ∷ []) T i i
name_first T i x h m =
    record {
      go_on = λ behind.
          (taken want.symbol (want.name_rest ∷ []) (Name x) T i h refl).go_on behind ∙ (name_alone T (i + 1) m).go_on behind ∙
          sym ((taken want.marked (want.sign ∷ want.filters ∷ []) (Name x) T i h refl).go_on behind);
    }

pub marked_first : (T : List Token) (i : ℕ) (t : Token) → Stands T i t → after want.symbol t ≡ after want.marked t → Runs (want.symbol ∷ []) (want.marked ∷ []) T i i
marked_first T i t h e = rows_same want.symbol want.marked t T i refl e h

-- marks
pub with_mark : (m k : BlockMark) (x y : Symbol) → m ≡ k → y ≡ x → marked_of k y ≡ marked_of m x
with_mark m k x y e f = ap (marked_of k) f ∙ sym (ap (λ z. marked_of z x) e)

pub post_first : (T : List Token) (i : ℕ) (t : Token) → Stands T i t → after want.marked t ≡ after want.post t → Runs (want.marked ∷ []) (want.post ∷ []) T i i
post_first T i t h e = rows_same want.marked want.post t T i refl e h

-- what stands behind symbols
sign_row : (s : Repetition) → after want.sign (repetition_token s) ≡ Some []
sign_row repetitions.Opt = refl
sign_row repetitions.Star = refl
sign_row repetitions.Plus = refl

sign_read : (o : Option Repetition) (s r : List Token) (x : Symbol) → ReadsRepetition s r o → ReadsSign s r x (symbol_with o x)
sign_read None s r x e = subst (λ z. ReadsSign z r x x) (sym e) (rule.once r x)
sign_read (Some repetitions.Opt) s r x e = subst (λ z. ReadsSign z r x (tree.Opt x)) (sym e) (rule.option r x)
sign_read (Some repetitions.Star) s r x e = subst (λ z. ReadsSign z r x (tree.Star x)) (sym e) (rule.star r x)
sign_read (Some repetitions.Plus) s r x e = subst (λ z. ReadsSign z r x (tree.Plus x)) (sym e) (rule.plus r x)

pub a_sign : (T : List Token) (i j : ℕ) (s : Repetition) → Stands T i (repetition_token s) → j ≡ i + 1 →
    Goes (Option Repetition) ReadsRepetition (want.sign ∷ []) [] T i j (Some s)
a_sign T i j s h e =
    subst (λ z. Goes (Option Repetition) ReadsRepetition (want.sign ∷ []) [] T i z (Some s)) (sym e)
    (by_itself ReadsRepetition want.sign [] (repetition_token s) T i (Some s) h (sign_row s) (λ r. refl))

pub no_sign : (T : List Token) (i : ℕ) → i ≤ length T → Misses want.sign T i → Goes (Option Repetition) ReadsRepetition (want.sign ∷ []) [] T i i None
no_sign T i l m = nothing ReadsRepetition (want.sign ∷ []) [] T i None l (λ s. refl) (passed want.sign T i refl m)

pub with_sign : (o : Option Repetition) (s : Repetition) (x a y : Symbol) → o ≡ Some s → a ≡ x → y ≡ repeated_of s a → y ≡ symbol_with o x
with_sign o s x a y d e f = f ∙ ap (repeated_of s) e ∙ sym (ap (λ z. symbol_with z x) d)

pub without_sign : (o : Option Repetition) (x : Symbol) → o ≡ None → x ≡ symbol_with o x
without_sign o x d = sym (ap (λ z. symbol_with z x) d)

pub with_filters : (T : List Token) (i j : ℕ) (x y : Symbol) (fs : List Filter) → Goes (List Filter) ReadsFilters (want.filters ∷ []) [] T i j fs →
    y ≡ filtered x fs → Goes Symbol (ReadsFiltered x) (want.filters ∷ []) [] T i j y
with_filters T i j x y fs g e =
    reread (ReadsFiltered x) ReadsFilters (want.filters ∷ []) [] T i j y fs g (λ s r h. record { filters = fs; reading = h; is = e })

pub atom_end : (T : List Token) (i j k : ℕ) (a x y : Symbol) (o : Option Repetition) →
    Goes (Option Repetition) ReadsRepetition (want.sign ∷ []) [] T i j o → x ≡ symbol_with o a →
    Goes Symbol (ReadsFiltered x) (want.filters ∷ []) [] T j k y → Goes Symbol (ReadsAtomEnd a) (want.sign ∷ want.filters ∷ []) [] T i k y
atom_end T i j k a x y o g e h =
    in_turn ReadsRepetition (ReadsFiltered (symbol_with o a)) (ReadsAtomEnd a) (want.sign ∷ []) (want.filters ∷ []) [] T i j k o y y g
    (subst (λ z. Goes Symbol (ReadsFiltered z) (want.filters ∷ []) [] T j k y) e h)
    (λ s m r u v. record { middle = m; symbol = symbol_with o a; sign = sign_read o s m a u; behind = v })

pub group_end : (T : List Token) (i j k : ℕ) (ys : Alternatives) (y : Symbol) → Takes Close T i j →
    Goes Symbol (ReadsAtomEnd (tree.Group ys)) (want.sign ∷ want.filters ∷ []) [] T j k y →
    Goes Symbol (ReadsGroupEnd ys) (want.close_bracket ∷ want.sign ∷ want.filters ∷ []) [] T i k y
group_end T i j k ys y h g =
    sign_then (ReadsAtomEnd (tree.Group ys)) want.close_bracket Close (want.sign ∷ want.filters ∷ []) [] T i j k y refl h g

list_row : (s : ListSign) → after want.list_sign (list_token s) ≡ Some []
list_row lists.Star = refl
list_row lists.Plus = refl

pub closing : (T : List Token) (i j : ℕ) (s : ListSign) → Takes CloseBrace T i j → Stands T j (list_token s) →
    Goes ListSign ReadsClosing (want.close_brace ∷ want.list_sign ∷ []) [] T i (j + 1) s
closing T i j s c h =
    reread ReadsClosing (After CloseBrace ReadsToken) (want.close_brace ∷ want.list_sign ∷ []) [] T i (j + 1) s (list_token s)
    (sign_then ReadsToken want.close_brace CloseBrace (want.list_sign ∷ []) [] T i j (j + 1) (list_token s) refl c
    (the_token want.list_sign (list_token s) T j h (list_row s)))
    (λ from r v. v.is ∙ ap (λ z. CloseBrace ∷ z) v.part)

pub takes_no_memory : (w : Want) (T : List Token) (i : ℕ) (e : RuleFault) → MissesAt w T i e → e ≢ Memory
takes_no_memory w T i e m = λ f. let z : Unexpected i ≡ Memory = sym m.is_fault ∙ f in cc

pub list_of : (s : ListSign) (x sep a b y : Symbol) → a ≡ x → b ≡ sep → y ≡ separated_of s a b → y ≡ separated_of s x sep
list_of s x sep a b y d e f = f ∙ ap (λ z. separated_of s z b) d ∙ ap (separated_of s x) e

pub list_end : (T : List Token) (i j k : ℕ) (s : ListSign) (x sep l y : Symbol) →
    Goes ListSign ReadsClosing (want.close_brace ∷ want.list_sign ∷ []) [] T i j s → l ≡ separated_of s x sep →
    Goes Symbol (ReadsFiltered l) (want.filters ∷ []) [] T j k y →
    Goes Symbol (ReadsListEnd x sep) (want.close_brace ∷ want.list_sign ∷ want.filters ∷ []) [] T i k y
list_end T i j k s x sep l y g e h =
    in_turn ReadsClosing (ReadsFiltered (separated_of s x sep)) (ReadsListEnd x sep) (want.close_brace ∷ want.list_sign ∷ []) (want.filters ∷ []) [] T i j k s y y g
    (subst (λ z. Goes Symbol (ReadsFiltered z) (want.filters ∷ []) [] T j k y) e h)
    (λ from m r u v. record { middle = m; sign = s; closing = u; behind = v })

-- symbols that begin with neither
not_opening : (t : Token) → is_opening t ≡ false → after want.post t ≡ before (want.sign ∷ want.filters ∷ []) (after want.atom t)
not_opening OpenBrace e = absurd (cc)
not_opening t e = refl

atom_first : (T : List Token) (i : ℕ) → IsPlain T i → Runs (want.post ∷ []) (want.atom ∷ want.sign ∷ want.filters ∷ []) T i i
atom_first T i (parts.at_end e) = both_end want.post want.atom [] (want.sign ∷ want.filters ∷ []) T i refl refl e
atom_first T i (parts.at_token t h e) = rows_alike want.post want.atom (want.sign ∷ want.filters ∷ []) t T i refl refl (not_opening t e) h

pub plain : (T : List Token) (i j k : ℕ) (x y : Symbol) → IsPlain T i → Goes Symbol ReadsAtom (want.atom ∷ []) [] T i j x →
    Goes Symbol (ReadsAtomEnd x) (want.sign ∷ want.filters ∷ []) [] T j k y → Goes Symbol ReadsPost (want.post ∷ []) [] T i k y
plain T i j k x y p g h =
    relay ReadsPost (want.post ∷ []) (want.atom ∷ want.sign ∷ want.filters ∷ []) [] T i k y (atom_first T i p)
    (in_turn ReadsAtom (ReadsAtomEnd x) ReadsPost (want.atom ∷ []) (want.sign ∷ want.filters ∷ []) [] T i j k x y y g h
    (λ s m r u v. rule.atom s m v.middle r x v.symbol y v.behind.filters u v.sign v.behind.reading v.behind.is))

pub leaf_stops : (T : List Token) (i : ℕ) (e : RuleFault) → IsPlain T i → StopsAt (want.atom ∷ []) T i e → StopsAt (want.post ∷ []) T i e
leaf_stops T i e p s =
    stop_later (want.post ∷ []) (want.atom ∷ want.sign ∷ want.filters ∷ []) T i i e (atom_first T i p)
    (stop_first (want.atom ∷ []) (want.sign ∷ want.filters ∷ []) T i e s)

pub end_stops : (T : List Token) (i j : ℕ) (x : Symbol) (e : RuleFault) → IsPlain T i → Goes Symbol ReadsAtom (want.atom ∷ []) [] T i j x →
    StopsAt (want.sign ∷ want.filters ∷ []) T j e → StopsAt (want.post ∷ []) T i e
end_stops T i j x e p g s =
    stop_later (want.post ∷ []) (want.atom ∷ want.sign ∷ want.filters ∷ []) T i i e (atom_first T i p)
    (stop_past ReadsAtom (want.atom ∷ []) (want.sign ∷ want.filters ∷ []) T i j x e g s)

-- atoms
pub bare_call : (T : List Token) (i : ℕ) (x y : List ℕ) (es : List Expression) → Stands T i (Name x) → y ≡ x → es ≡ [] →
    Goes Symbol ReadsAtom (want.atom ∷ []) [] T i (i + 1) (tree.Call y es)
bare_call T i x y es h e f =
    subst (λ z. Goes Symbol ReadsAtom (want.atom ∷ []) [] T i (i + 1) (tree.Call z es)) (sym e)
    (subst (λ z. Goes Symbol ReadsAtom (want.atom ∷ []) [] T i (i + 1) (tree.Call x z)) (sym f)
    (by_itself ReadsAtom want.atom [] (Name x) T i (tree.Call x []) h refl (λ r. rule.bare_call x r)))

pub call : (T : List Token) (i j : ℕ) (x y : List ℕ) (es : List Expression) → Stands T i (Head x) →
    Goes (List Expression) (Closed ReadsArguments) (arguments_wants ++ want.close_bracket ∷ []) [] T (i + 1) j es → y ≡ x →
    Goes Symbol ReadsAtom (want.atom ∷ []) [] T i j (tree.Call y es)
call T i j x y es h g e =
    subst (λ z. Goes Symbol ReadsAtom (want.atom ∷ []) [] T i j (tree.Call z es)) (sym e)
    (by_token ReadsAtom (Closed ReadsArguments) want.atom (arguments_wants ++ want.close_bracket ∷ []) [] (Head x) T i j (tree.Call x es) es h refl
    (λ s r v. rule.call x s r es v) g)

terminal_row : (t : Token) (p : Pattern) → IsPattern t p → after_atom t ≡ Some []
terminal_row t p (rule.literal_pattern word) = refl
terminal_row t p (rule.class_pattern c) = refl

terminal_read : (t : Token) (p : Pattern) (r : List Token) → IsPattern t p → ReadsAtom (t ∷ r) r (terminal_of p)
terminal_read t p r (rule.literal_pattern word) = rule.literal word r
terminal_read t p r (rule.class_pattern c) = rule.class c r

pub terminal : (T : List Token) (i : ℕ) (t : Token) (p : Pattern) (x : Symbol) → Stands T i t → IsPattern t p → x ≡ terminal_of p →
    Goes Symbol ReadsAtom (want.atom ∷ []) [] T i (i + 1) x
terminal T i t p x h is e =
    subst (λ z. Goes Symbol ReadsAtom (want.atom ∷ []) [] T i (i + 1) z) (sym e)
    (by_itself ReadsAtom want.atom [] t T i (terminal_of p) h (terminal_row t p is) (λ r. terminal_read t p r is))
