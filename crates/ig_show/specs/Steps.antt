-- How what calls add makes up what a function adds, here and in crates above. A clause ranges over no functions on pieces, so
-- these facts stand here with their proofs, and not as laws; nothing of this file has to be believed.
use Rattle.std.proofs.Common.{◌≡◌, ◌∙◌, refl, sym, ap, subst, List, [], ◌++◌, ℕ, ◌+◌, ◌<◌, ◌≤◌, length, drop, append_assoc}
use Rattle.std.specs.Prelude.{OnOk, Ok, Err, Result, chars, flat_map}
use Rattle.std.proofs.lemmas.List.{at_drop_more, drop_all}
use Rattle.std.proofs.Math.ListN.{get_or}
use Rattle.ig_show.specs.Pieces.{Piece, text}
use Rattle.ig_show.specs.Appending.{Appends, Adds}

pub if_ok : {T E : Type 0} {P Q : Type 0} (r : Result T E) → OnOk r P → (P → Q) → OnOk r Q
if_ok (Ok v) p f = f p
if_ok (Err e) p f = tt

-- one after the other
pub adds : {a b c : List ℕ} {f g : List Piece → List Piece} → Adds a b f → Adds b c g → Adds a c (λ ps. f (g ps))
adds {a} {b} {c} {f} {g} p q = record { grown = λ ps. q.grown ps ∙ p.grown (g ps) }

-- a word that is the text of pieces
pub says : {a b w : List ℕ} (f : List Piece → List Piece) → Appends a b w → ((ps : List Piece) → text (f ps) ≡ w ++ text ps) → Adds a b f
says f p e = record { grown = λ ps. p.grown (text ps) ∙ (rw (e ps) refl) }

-- words, one after the other; none
pub appends : {a b c u v : List ℕ} → Appends a b u → Appends b c v → Appends a c (u ++ v)
appends {a} {b} {c} {u} {v} p q = record { grown = λ s. q.grown s ∙ p.grown (v ++ s) ∙ (rw append_assoc refl) }

pub nothing_appended : {a : List ℕ} → Appends a a []
nothing_appended = record { grown = λ s. refl }

-- in a loop, the word is written but for what is left
pub record Left (a b word left : List ℕ) : Type 0 where
  pub kept : (s : List ℕ) → chars b ++ (left ++ s) ≡ chars a ++ (word ++ s)

pub all_left : {a : List ℕ} (word : List ℕ) → Left a a word word
all_left word = record { kept = λ s. refl }

pub less_left : {X : Type 0} {a b c word : List ℕ} (f : X → List ℕ) (xs : List X) (i : ℕ) (d x : X) → x ≡ get_or xs i d → i < length xs →
    Left a b word (flat_map f (drop i xs)) → Appends b c (f x) → Left a c word (flat_map f (drop (i + 1) xs))
less_left {X} {a} {b} {c} {word} f xs i d x e h l q =
    let p : Appends b c (f (get_or xs i d)) = subst (λ z. Appends b c (f z)) e q in
    let rest : List ℕ = flat_map f (drop (i + 1) xs) in
    let here : flat_map f (drop i xs) ≡ f (get_or xs i d) ++ rest = at_drop_more (flat_map f) xs i d h in
    record {
      kept = λ s.
          p.grown (rest ++ s) ∙
          ap (λ z. chars b ++ z) (sym (append_assoc (f (get_or xs i d)) rest s) ∙ ap (λ z. z ++ s) (sym here)) ∙ l.kept s;
    }

pub none_left : {X : Type 0} {a b word : List ℕ} (f : X → List ℕ) (xs : List X) (i : ℕ) → length xs ≤ i →
    Left a b word (flat_map f (drop i xs)) → Appends a b word
none_left f xs i h l = record { grown = λ s. (rw (drop_all i xs h) at l.kept s) }
