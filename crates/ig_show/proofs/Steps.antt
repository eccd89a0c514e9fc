-- How what several calls add makes up what a function adds.
use Rattle.std.proofs.Common.{◌≡◌, ◌∙◌, ap, sym, subst, ℕ, ◌+◌, ◌<◌, ◌≤◌, List, [], ◌∷◌, ◌++◌, false, ◌==◌, refl, length, map, drop}
use Rattle.std.specs.Prelude.{chars, IsUtf8}
use Rattle.std.proofs.lemmas.Str.{chars-nil}
use Rattle.std.proofs.lemmas.List.{append-nil, at_drop_more, drop_all}
use Rattle.std.proofs.Math.ListN.{get_or}
use Rattle.ig_expr.specs.declared.expression.Expr.{Expr}
use Rattle.ig_expr.specs.View.{expression_of}
use Rattle.ig_grammar.specs.declared.declaration.Param.{Param}
use Rattle.ig_notation_syntax.specs.Token.{Head, Close}
use Rattle.ig_show.specs.Pieces.{Piece, text, token}
use Rattle.ig_show.specs.Appending.{Appends, Adds}
use Rattle.ig_show.specs.CanonicalText.{joined, comma, call_pieces, expression_pieces, parameter_pieces, head_pieces}
use Rattle.ig_show.specs.Writing.{AddsBehind, AddsBefore, IsText}

-- a word before pieces, and behind them
pub adds_behind : {a b c w : List ℕ} {f : List Piece → List Piece} → Appends a b w → Adds b c f → AddsBehind a c w f
adds_behind {a} {b} {c} {w} {f} p q = record { grown = λ ps. q.grown ps ∙ p.grown (text (f ps)) }

pub adds_before : {a b c w : List ℕ} {f : List Piece → List Piece} → Adds a b f → Appends b c w → AddsBefore a c w f
adds_before {a} {b} {c} {w} {f} p q =
    record { grown = λ ps qs e. q.grown (text ps) ∙ ap (λ z. chars b ++ z) (sym e) ∙ p.grown qs }

-- where the word is the text of pieces
pub says_behind : {a b w : List ℕ} (f : List Piece → List Piece) {g : List Piece → List Piece} → AddsBehind a b w g →
    ((ps : List Piece) → text (f ps) ≡ w ++ text ps) → Adds a b (λ ps. f (g ps))
says_behind {a} {b} {w} f {g} p e = record { grown = λ ps. p.grown ps ∙ ap (λ z. chars a ++ z) (sym (e (g ps))) }

pub says_before : {a b w : List ℕ} (f : List Piece → List Piece) {g : List Piece → List Piece} → AddsBefore a b w g →
    ((ps : List Piece) → text (f ps) ≡ w ++ text ps) → Adds a b (λ ps. g (f ps))
says_before f p e = record { grown = λ ps. p.grown ps (f ps) (e ps) }

-- in a loop, the pieces are written but for what is left
pub record Ahead (a b : List ℕ) (shown left : List Piece → List Piece) : Type 0 where
  pub kept : (ps : List Piece) → chars b ++ text (left ps) ≡ chars a ++ text (shown ps)

pub all_ahead : {a : List ℕ} (shown : List Piece → List Piece) → Ahead a a shown shown
all_ahead shown = record { kept = λ ps. refl }

pub first_written : {a b : List ℕ} {f : List Piece → List Piece} (g : List Piece → List Piece) → Adds a b f → Ahead a b (λ ps. f (g ps)) g
first_written g p = record { kept = λ ps. p.grown (g ps) }

-- the pieces of what is left of a list
pub less_ahead : {X : Type 0} {a b c : List ℕ} {shown f : List Piece → List Piece} (left : List X → List Piece → List Piece) (xs : List X) (i : ℕ) (d x : X) →
    x ≡ get_or xs i d → i < length xs → Ahead a b shown (left (drop i xs)) → Adds b c f →
    ((ps : List Piece) → left (x ∷ drop (i + 1) xs) ps ≡ f (left (drop (i + 1) xs) ps)) →
    Ahead a c shown (left (drop (i + 1) xs))
less_ahead {X} {a} {b} {c} {shown} {f} left xs i d x same h l p e =
    let here : left (drop i xs) ≡ left (x ∷ drop (i + 1) xs) =
    at_drop_more left xs i d h ∙ ap (λ z. left (z ∷ drop (i + 1) xs)) (sym same) in
    record {
      kept = λ ps.
          p.grown (left (drop (i + 1) xs) ps) ∙
          ap (λ z. chars b ++ text z) (sym (e ps) ∙ ap (λ z. z ps) (sym here)) ∙ l.kept ps;
    }

pub none_ahead : {X : Type 0} {a b : List ℕ} {shown : List Piece → List Piece} (left : List X → List Piece → List Piece) (xs : List X) (i : ℕ) →
    length xs ≤ i → ((ps : List Piece) → left [] ps ≡ ps) → Ahead a b shown (left (drop i xs)) → Adds a b shown
none_ahead {X} {a} {b} left xs i h e l =
    record { grown = λ ps. ap (λ z. chars b ++ text z) (sym (e ps) ∙ ap (λ z. left z ps) (sym (drop_all i xs h))) ∙ l.kept ps }

-- the pieces of one of two equal things
pub shown_as : {A : Type 0} {a b : List ℕ} (f : A → List Piece → List Piece) {x y : A} → x ≡ y → Adds a b (f x) → Adds a b (f y)
shown_as {A} {a} {b} f e p = subst (λ z. Adds a b (f z)) e p

pub call_shown : (name : List ℕ) (es : List Expr) → (length es == 0) ≡ false →
    (λ (ps : List Piece). token (Head name) ∷ joined comma expression_pieces (map expression_of es) (token Close ∷ ps)) ≡ call_pieces name (map expression_of es)
call_shown name [] e = absurd (cc)
call_shown name (x ∷ es) e = refl

pub head_shown : (name : List ℕ) (params : List Param) → (length params == 0) ≡ false →
    (λ (ps : List Piece). token (Head name) ∷ joined comma parameter_pieces params (token Close ∷ ps)) ≡ head_pieces name params
head_shown name [] e = absurd (cc)
head_shown name (p ∷ params) e = refl

-- a text that was written from nothing on
pub written : {a b : List ℕ} {f : List Piece → List Piece} → a ≡ [] → IsUtf8 b → Adds a b f → IsText b (text (f []))
written {a} {b} {f} e u p =
    record {
      utf8 = u;
      spelled = sym (append-nil (chars b)) ∙ p.grown [] ∙ ap (λ z. chars z ++ text (f [])) e ∙ ap (λ z. z ++ text (f [])) chars-nil;
    }
