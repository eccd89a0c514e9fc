-- The parts of the rules, put together of what is read one behind the other: symbols.
use Rattle.std.proofs.Common.{◌≡◌, ℕ, suc, ◌+◌, ◌≤◌, ◌<◌, List, [], ◌∷◌, ◌++◌, drop, refl, sym, subst, true, false, arith}
use Rattle.std.specs.Prelude.{Result, Ok, Err, IfOk, Option, Some, None, is_some}
use Rattle.ig_notation_syntax.specs.Token.{Token, Name, Colon, Open, Bar, OpenBrace}
use Rattle.ig_grammar.specs.Symbol as tree
use Rattle.ig_grammar.specs.Symbol.{Symbol, Symbols, Alternatives, gathered}
use Rattle.ig_grammar.specs.Alternative.{gathered_alternatives}
use Rattle.ig_grammar.specs.declared.symbol.Alt.{Alt}
use Rattle.ig_notation_syntax.specs.Rules as rule
use Rattle.ig_notation_syntax.specs.Rules.{IsSeparated, ReadsSymbol, ReadsMarked, ReadsPost, ReadsAlternative, ReadsAlternatives}
use Rattle.ig_notation_syntax.specs.Machine as want
use Rattle.ig_notation_syntax.specs.Machine.{Want, after, before, run, after_symbol, alternatives_wants}
use Rattle.ig_notation_syntax.specs.Reading.{Goes}
use Rattle.ig_notation_terms.specs.declared.fault.RuleFault.{RuleFault}
use Rattle.ig_notation_terms.specs.declared.repetitions.ListSign.{ListSign}
use Rattle.ig_notation_terms.specs.declared.repetitions.ListSign.TheVariants as lists
use Rattle.ig_notation_terms.specs.Readers.{Stands, Misses, StopsAt, Runs, Finds, Behind, Front, After}
use Rattle.ig_notation_terms.specs.Repetitions.{list_token, separated_of}
use Rattle.ig_notation_terms.specs.declared.parts.BlockMark.{BlockMark}
use Rattle.ig_notation_terms.specs.declared.parts.BlockMark.TheVariants as marks
use Rattle.ig_notation_terms.specs.Parts.{IsLabel, mark_token, marked_of, ReadsGroupEnd, ReadsListEnd}
use Rattle.ig_notation_terms.specs.Lists.{one_more, the_last, finish, snoc}
use Rattle.ig_notation_terms.specs.Steps.{passed, joined, in_row, stop_later, stop_first, stop_token, stop_past, runs_of, by_token, in_turn, otherwise, the_same, alike_at, reread, row_more}

-- alternatives
abbrev pub ReadsAlt : List Token → List Token → Alt → Type 0
ReadsAlt from rest alt = ReadsAlternative from rest (gathered alt.symbols)

abbrev pub ReadsAlts : List Token → List Token → List Alt → Type 0
ReadsAlts from rest alts = ReadsAlternatives from rest (gathered_alternatives alts)

as_alt : (T : List Token) (i j : ℕ) (xs : List Symbol) → Goes Symbols ReadsAlternative (want.alternative ∷ []) [] T i j (gathered xs) →
    Goes Alt ReadsAlt (want.alternative ∷ []) [] T i j (record { symbols = xs })
as_alt T i j xs g = reread ReadsAlt ReadsAlternative (want.alternative ∷ []) [] T i j (record { symbols = xs }) (gathered xs) g (λ s r h. h)

pub more_alternatives : (T : List Token) (i j k : ℕ) (us vs : List Alt) (xs : List Symbol) →
    Goes (List Alt) (Front ReadsAlts) alternatives_wants alternatives_wants T i j us →
    Goes Symbols ReadsAlternative (want.alternative ∷ []) [] T j k (gathered xs) → Stands T k Bar → vs ≡ us ++ record { symbols = xs } ∷ [] →
    Goes (List Alt) (Front ReadsAlts) alternatives_wants alternatives_wants T i (k + 1) vs
more_alternatives T i j k us vs xs g h c e =
    one_more ReadsAlt ReadsAlts (want.alternative ∷ []) want.alternatives_rest Bar T i j k us vs (record { symbols = xs }) refl
    (λ s m r z zs x y. rule.further_alternative s m r (gathered z.symbols) (gathered_alternatives zs) x y) g (as_alt T j k xs h) c e

pub all_alternatives : (T : List Token) (i j k : ℕ) (us vs : List Alt) (xs : List Symbol) →
    Goes (List Alt) (Front ReadsAlts) alternatives_wants alternatives_wants T i j us →
    Goes Symbols ReadsAlternative (want.alternative ∷ []) [] T j k (gathered xs) → Misses want.alternatives_rest T k → vs ≡ us ++ record { symbols = xs } ∷ [] →
    Goes Alternatives ReadsAlternatives alternatives_wants [] T i k (gathered_alternatives vs)
all_alternatives T i j k us vs xs g h c e =
    reread ReadsAlternatives ReadsAlts alternatives_wants [] T i k (gathered_alternatives vs) vs
    (the_last ReadsAlt ReadsAlts (want.alternative ∷ []) want.alternatives_rest T i j k us vs (record { symbols = xs }) refl
    (λ s r z x. rule.last_alternative s r (gathered z.symbols) x) g (as_alt T j k xs h) c e)
    (λ s r x. x)

-- symbols of an alternative
abbrev pub ReadsSequence : List Token → List Token → List Symbol → Type 0
ReadsSequence from rest xs = ReadsAlternative from rest (gathered xs)

begun : (o : Option (List Want)) (behind : List Want) (past other : Option (List Want)) (n : ℕ) (u : List Token) → is_some o ≡ true →
    want.go n (λ next. run (suc n) next u) (want.chosen (before (want.alternative ∷ []) o) true behind past) ≡
    want.go n (λ next. run (suc n) next u) (want.chosen o false (want.alternative ∷ behind) other)
begun None behind past other n u e = absurd (cc)
begun (Some row) behind past other n u e = row_more (want.alternative ∷ []) behind row (suc n) u

symbol_first : (T : List Token) (i : ℕ) (t : Token) → Stands T i t → is_some (after_symbol t) ≡ true →
    Runs (want.alternative ∷ []) (want.symbol ∷ want.alternative ∷ []) T i i
symbol_first T i t h e =
    alike_at (want.alternative ∷ []) (want.symbol ∷ want.alternative ∷ []) t T i h
    (λ n behind u. begun (after_symbol t) behind (want.step behind t) (want.step (want.alternative ∷ behind) t) n u e)

pub more_symbols : (T : List Token) (i j k : ℕ) (xs ys : List Symbol) (x : Symbol) →
    Goes (List Symbol) (Front ReadsSequence) (want.alternative ∷ []) (want.alternative ∷ []) T i j xs →
    Finds (λ t. is_some (after_symbol t) ≡ true) T j → Goes Symbol ReadsSymbol (want.symbol ∷ []) [] T j k x → ys ≡ xs ++ x ∷ [] →
    Goes (List Symbol) (Front ReadsSequence) (want.alternative ∷ []) (want.alternative ∷ []) T i k ys
more_symbols T i j k xs ys x g f h e =
    let l : i ≤ j = g.onward in
    let m : j ≤ k = h.onward in
    record {
      reading = λ end more r. subst (ReadsSequence (drop i T) end) (snoc xs ys more x e)
          (g.reading end (x ∷ more) (rule.further_symbol (drop j T) (drop k T) end x (gathered more) h.reading r));
      within = h.within;
      onward = omega arith;
      runs = (joined (want.alternative ∷ []) (want.alternative ∷ []) (want.alternative ∷ []) T i j k
          (runs_of (Front ReadsSequence) (want.alternative ∷ []) (want.alternative ∷ []) T i j xs g)
          (joined (want.alternative ∷ []) (want.symbol ∷ want.alternative ∷ []) (want.alternative ∷ []) T j j k (symbol_first T j f.found f.stands f.fits)
          (in_row (want.symbol ∷ []) (want.alternative ∷ []) (want.alternative ∷ []) T j k k (runs_of ReadsSymbol (want.symbol ∷ []) [] T j k x h)
          (the_same (want.alternative ∷ []) T k)))).go_on;
    }

pub symbol_stops : (T : List Token) (i j : ℕ) (xs : List Symbol) (e : RuleFault) →
    Goes (List Symbol) (Front ReadsSequence) (want.alternative ∷ []) (want.alternative ∷ []) T i j xs →
    Finds (λ t. is_some (after_symbol t) ≡ true) T j → StopsAt (want.symbol ∷ []) T j e → StopsAt (want.alternative ∷ []) T i e
symbol_stops T i j xs e g f h =
    stop_later (want.alternative ∷ []) (want.alternative ∷ []) T i j e
    (runs_of (Front ReadsSequence) (want.alternative ∷ []) (want.alternative ∷ []) T i j xs g)
    (stop_later (want.alternative ∷ []) (want.symbol ∷ want.alternative ∷ []) T j j e (symbol_first T j f.found f.stands f.fits)
    (stop_first (want.symbol ∷ []) (want.alternative ∷ []) T j e h))

pub all_symbols : (T : List Token) (i j : ℕ) (xs : List Symbol) →
    Goes (List Symbol) (Front ReadsSequence) (want.alternative ∷ []) (want.alternative ∷ []) T i j xs → Misses want.alternative T j →
    Goes Symbols ReadsAlternative (want.alternative ∷ []) [] T i j (gathered xs)
all_symbols T i j xs g m =
    reread ReadsAlternative ReadsSequence (want.alternative ∷ []) [] T i j (gathered xs) xs
    (finish ReadsSequence (want.alternative ∷ []) T i j xs xs (λ r. rule.no_symbol r) g (passed want.alternative T j refl m) refl)
    (λ s r x. x)

-- a symbol
pub unlabelled : (T : List Token) (i j : ℕ) (x : Symbol) → Runs (want.symbol ∷ []) (want.marked ∷ []) T i i → Goes Symbol ReadsMarked (want.marked ∷ []) [] T i j x →
    Goes Symbol ReadsSymbol (want.symbol ∷ []) [] T i j x
unlabelled T i j x r g =
    otherwise ReadsSymbol ReadsMarked (want.symbol ∷ []) (want.marked ∷ []) [] [] T i j x x r (the_same [] T j) g (λ s m h. rule.unlabelled s m x h)

labelled_at : (T : List Token) (i j : ℕ) (n : List ℕ) (x : Symbol) → Stands T i (Name n) → Stands T (i + 1) Colon →
    Goes Symbol ReadsMarked (want.marked ∷ []) [] T (i + 1 + 1) j x → Goes Symbol ReadsSymbol (want.symbol ∷ []) [] T i j (tree.Label n x)
labelled_at T i j n x h c g =
    by_token ReadsSymbol (After Colon ReadsMarked) want.symbol (want.name_rest ∷ []) [] (Name n) T i j (tree.Label n x) x h refl
    (λ s r v. subst (λ z. ReadsSymbol (Name n ∷ z) r (tree.Label n x)) (sym v.is) (rule.labelled n v.middle r x v.part))
    (by_token (After Colon ReadsMarked) ReadsMarked want.name_rest (want.marked ∷ []) [] Colon T (i + 1) j x x c refl
    (λ s r v. record { middle = s; is = refl; part = v }) g)

at_once : (P : ℕ → Symbol → Type 0) (j k : ℕ) (x y : Symbol) → k ≡ j → y ≡ x → P j x → P k y
at_once P j k x y e f p = subst (λ z. P z y) (sym e) (subst (P j) (sym f) p)

pub labelled : (T : List Token) (i j k : ℕ) (n : List ℕ) (x y : Symbol) → IsLabel n T i → Goes Symbol ReadsMarked (want.marked ∷ []) [] T (i + 2) j x →
    y ≡ tree.Label n x → k ≡ j → Goes Symbol ReadsSymbol (want.symbol ∷ []) [] T i k y
labelled T i j k n x y l g e f =
    at_once (Goes Symbol ReadsSymbol (want.symbol ∷ []) [] T i) j k (tree.Label n x) y f e
    (labelled_at T i j n x l.word l.colon (subst (λ z. Goes Symbol ReadsMarked (want.marked ∷ []) [] T z j x) (omega arith) g))

pub labelled_stops : (T : List Token) (i : ℕ) (n : List ℕ) (e : RuleFault) → IsLabel n T i → StopsAt (want.marked ∷ []) T (i + 2) e →
    StopsAt (want.symbol ∷ []) T i e
labelled_stops T i n e l s =
    let k : i + 2 ≡ i + 1 + 1 = omega arith in
    stop_token want.symbol (want.name_rest ∷ []) (Name n) T i e l.word refl
    (stop_token want.name_rest (want.marked ∷ []) Colon T (i + 1) e l.colon refl (subst (λ z. StopsAt (want.marked ∷ []) T z e) k s))

-- marks
pub mark_row : (m : BlockMark) → after want.marked (mark_token m) ≡ Some (want.post ∷ [])
mark_row marks.Offside = refl
mark_row marks.Ignore = refl
mark_row marks.Align = refl

mark_read : (m : BlockMark) (s r : List Token) (x : Symbol) → ReadsPost s r x → ReadsMarked (mark_token m ∷ s) r (marked_of m x)
mark_read marks.Offside s r x h = rule.offside s r x h
mark_read marks.Ignore s r x h = rule.ignore s r x h
mark_read marks.Align s r x h = rule.align s r x h

pub marked : (T : List Token) (i j k : ℕ) (m : BlockMark) (x y : Symbol) → Stands T i (mark_token m) → Goes Symbol ReadsPost (want.post ∷ []) [] T (i + 1) j x →
    y ≡ marked_of m x → k ≡ j → Goes Symbol ReadsMarked (want.marked ∷ []) [] T i k y
marked T i j k m x y h g e f =
    at_once (Goes Symbol ReadsMarked (want.marked ∷ []) [] T i) j k (marked_of m x) y f e
    (by_token ReadsMarked ReadsPost want.marked (want.post ∷ []) [] (mark_token m) T i j (marked_of m x) x h (mark_row m) (λ s r v. mark_read m s r x v) g)

pub unmarked : (T : List Token) (i j : ℕ) (x : Symbol) → Runs (want.marked ∷ []) (want.post ∷ []) T i i → Goes Symbol ReadsPost (want.post ∷ []) [] T i j x →
    Goes Symbol ReadsMarked (want.marked ∷ []) [] T i j x
unmarked T i j x r g =
    otherwise ReadsMarked ReadsPost (want.marked ∷ []) (want.post ∷ []) [] [] T i j x x r (the_same [] T j) g (λ s m h. rule.unmarked s m x h)

-- separated lists and groups
list_read : (s : ListSign) (x separator : Symbol) → IsSeparated (list_token s) x separator (separated_of s x separator)
list_read lists.Star x separator = rule.separated_star x separator
list_read lists.Plus x separator = rule.separated_plus x separator

-- a list behind its `{`, once its item is read
abbrev pub Continues : Symbol → List Token → List Token → Symbol → Type 0
Continues x from rest y = (start : List Token) → ReadsMarked start from x → ReadsPost (OpenBrace ∷ start) rest y

continues : (x sep y : Symbol) (s m r : List Token) → ReadsMarked s m sep → ReadsListEnd x sep m r y → Continues x s r y
continues x sep y s m r u v =
    λ start w. rule.separated (list_token v.sign) start s v.middle r x sep (separated_of v.sign x sep) y v.behind.filters w
    (subst (λ z. ReadsMarked s z sep) v.closing u) (list_read v.sign x sep) v.behind.reading v.behind.is

pub in_braces : (T : List Token) (i j k l : ℕ) (x sep y : Symbol) → Stands T i OpenBrace → Goes Symbol ReadsMarked (want.marked ∷ []) [] T (i + 1) j x →
    Goes Symbol ReadsMarked (want.marked ∷ []) [] T j k sep →
    Goes Symbol (ReadsListEnd x sep) (want.close_brace ∷ want.list_sign ∷ want.filters ∷ []) [] T k l y →
    Goes Symbol ReadsPost (want.post ∷ []) [] T i l y
in_braces T i j k l x sep y h g u v =
    by_token ReadsPost (Behind OpenBrace ReadsPost) want.post (want.marked ∷ want.marked ∷ want.close_brace ∷ want.list_sign ∷ want.filters ∷ []) []
    OpenBrace T i l y y h refl (λ s r z. z)
    (in_turn ReadsMarked (Continues x) (Behind OpenBrace ReadsPost) (want.marked ∷ []) (want.marked ∷ want.close_brace ∷ want.list_sign ∷ want.filters ∷ []) []
    T (i + 1) j l x y y g
    (in_turn ReadsMarked (ReadsListEnd x sep) (Continues x) (want.marked ∷ []) (want.close_brace ∷ want.list_sign ∷ want.filters ∷ []) [] T j k l sep y y u v
    (λ s m r a b. continues x sep y s m r a b))
    (λ s m r a b. b s a))

pub item_stops : (T : List Token) (i : ℕ) (e : RuleFault) → Stands T i OpenBrace → StopsAt (want.marked ∷ []) T (i + 1) e → StopsAt (want.post ∷ []) T i e
item_stops T i e h s =
    stop_token want.post (want.marked ∷ want.marked ∷ want.close_brace ∷ want.list_sign ∷ want.filters ∷ []) OpenBrace T i e h refl
    (stop_first (want.marked ∷ []) (want.marked ∷ want.close_brace ∷ want.list_sign ∷ want.filters ∷ []) T (i + 1) e s)

behind_item : (T : List Token) (i j : ℕ) (x : Symbol) (e : RuleFault) → Stands T i OpenBrace → Goes Symbol ReadsMarked (want.marked ∷ []) [] T (i + 1) j x →
    StopsAt (want.marked ∷ want.close_brace ∷ want.list_sign ∷ want.filters ∷ []) T j e → StopsAt (want.post ∷ []) T i e
behind_item T i j x e h g s =
    stop_token want.post (want.marked ∷ want.marked ∷ want.close_brace ∷ want.list_sign ∷ want.filters ∷ []) OpenBrace T i e h refl
    (stop_past ReadsMarked (want.marked ∷ []) (want.marked ∷ want.close_brace ∷ want.list_sign ∷ want.filters ∷ []) T (i + 1) j x e g s)

pub separator_stops : (T : List Token) (i j : ℕ) (x : Symbol) (e : RuleFault) → Stands T i OpenBrace →
    Goes Symbol ReadsMarked (want.marked ∷ []) [] T (i + 1) j x → StopsAt (want.marked ∷ []) T j e → StopsAt (want.post ∷ []) T i e
separator_stops T i j x e h g s =
    behind_item T i j x e h g (stop_first (want.marked ∷ []) (want.close_brace ∷ want.list_sign ∷ want.filters ∷ []) T j e s)

pub list_stops : (T : List Token) (i j k : ℕ) (x sep : Symbol) (e : RuleFault) → Stands T i OpenBrace →
    Goes Symbol ReadsMarked (want.marked ∷ []) [] T (i + 1) j x → Goes Symbol ReadsMarked (want.marked ∷ []) [] T j k sep →
    StopsAt (want.close_brace ∷ want.list_sign ∷ want.filters ∷ []) T k e → StopsAt (want.post ∷ []) T i e
list_stops T i j k x sep e h g u s =
    behind_item T i j x e h g (stop_past ReadsMarked (want.marked ∷ []) (want.close_brace ∷ want.list_sign ∷ want.filters ∷ []) T j k sep e u s)

grouped : (ys : Alternatives) (y : Symbol) (s m r : List Token) → ReadsAlternatives s m ys → ReadsGroupEnd ys m r y → ReadsPost (Open ∷ s) r y
grouped ys y s m r u v =
    let w = v.part in
    rule.atom (Open ∷ s) v.middle w.middle r (tree.Group ys) w.symbol y w.behind.filters
    (rule.group s v.middle ys (subst (λ z. ReadsAlternatives s z ys) v.is u)) w.sign w.behind.reading w.behind.is

pub in_brackets : (T : List Token) (i j k : ℕ) (ys : Alternatives) (y : Symbol) → Stands T i Open →
    Goes Alternatives ReadsAlternatives alternatives_wants [] T (i + 1) j ys →
    Goes Symbol (ReadsGroupEnd ys) (want.close_bracket ∷ want.sign ∷ want.filters ∷ []) [] T j k y → Goes Symbol ReadsPost (want.post ∷ []) [] T i k y
in_brackets T i j k ys y h g u =
    by_token ReadsPost (Behind Open ReadsPost) want.post (alternatives_wants ++ want.close_bracket ∷ want.sign ∷ want.filters ∷ []) [] Open T i k y y h refl
    (λ s r z. z)
    (in_turn ReadsAlternatives (ReadsGroupEnd ys) (Behind Open ReadsPost) alternatives_wants (want.close_bracket ∷ want.sign ∷ want.filters ∷ []) []
    T (i + 1) j k ys y y g u (λ s m r a b. grouped ys y s m r a b))

pub alternatives_stop : (T : List Token) (i : ℕ) (e : RuleFault) → Stands T i Open → StopsAt alternatives_wants T (i + 1) e → StopsAt (want.post ∷ []) T i e
alternatives_stop T i e h s =
    stop_token want.post (alternatives_wants ++ want.close_bracket ∷ want.sign ∷ want.filters ∷ []) Open T i e h refl
    (stop_first alternatives_wants (want.close_bracket ∷ want.sign ∷ want.filters ∷ []) T (i + 1) e s)

pub group_stops : (T : List Token) (i j : ℕ) (ys : Alternatives) (e : RuleFault) → Stands T i Open →
    Goes Alternatives ReadsAlternatives alternatives_wants [] T (i + 1) j ys →
    StopsAt (want.close_bracket ∷ want.sign ∷ want.filters ∷ []) T j e → StopsAt (want.post ∷ []) T i e
group_stops T i j ys e h g s =
    stop_token want.post (alternatives_wants ++ want.close_bracket ∷ want.sign ∷ want.filters ∷ []) Open T i e h refl
    (stop_past ReadsAlternatives alternatives_wants (want.close_bracket ∷ want.sign ∷ want.filters ∷ []) T (i + 1) j ys e g s)

pub label_passed : (i j k : ℕ) → i + 2 < j → k ≡ j → i < k
label_passed i j k l e = omega arith

pub mark_passed : (i j k : ℕ) → i + 1 < j → k ≡ j → i < k
mark_passed i j k l e = omega arith

-- two facts of one result
pub both_ok : {X E : Type 0} (r : Result X E) (P Q R : X → Type 0) → ((x : X) → P x → Q x → R x) → IfOk r P → IfOk r Q → IfOk r R
both_ok (Ok x) P Q R f p q = f x p q
both_ok (Err e) P Q R f p q = tt

pub later : (i j k : ℕ) → i + 1 < j → j < k → i < k
later i j k l m = omega arith
