-- The first places of words in a list, and of the words of members as the list grows: what a table of them keeps.
use Rattle.std.proofs.Common.{◌≡◌, ◌∙◌, ℕ, zero, suc, ◌+◌, ◌<◌, List, [], ◌∷◌, Option, Some, None, Bool, cond, true, false, refl, sym, ap, subst, arith, length, map, take, get_or}
use Rattle.std.specs.Prelude.{is_some, position, Contains, IsTrue, ◌↔◌}
use Rattle.std.specs.Cmp.Lexicographic.{bytes_decides}
use Rattle.ig_text.specs.Words.{is_word}
use Rattle.ig_text.proofs.Positions.{position-cons, place_behind, or_last, last_kept, last_grown, position-next}
use Rattle.ig_text.proofs.Lists.{contains_later}

module _ {X : Type 0} (word_of : X → List ℕ) (xs : List X) where
  -- the first place of a member with that word, among the first n members
  abbrev pub place_before : ℕ → List ℕ → Option ℕ
  place_before n name = position (λ z. is_word z name) (map word_of (take n xs))

  module _ (i : ℕ) (x : X) (word : List ℕ) (within : i < length xs) (member : x ≡ get_or xs i x) (its : word ≡ word_of x) where
    -- one member more
    one_further : (name : List ℕ) → or_last (place_before i name) (is_word word name) i ≡ place_before (i + 1) name
    one_further name =
        ap (λ z. or_last (place_before i name) (is_word z name) i) its ∙
        sym (position-next word_of (λ z. is_word z name) xs i x within member)

    module _ (found : List ℕ → Option ℕ) (places : (name : List ℕ) → found name ≡ place_before i name) where
      -- the word has a place wherever an equal one has
      same_place : (name : List ℕ) → is_word word name ≡ true → is_some (place_before i name) ≡ is_some (found word)
      same_place name t =
          let same : word ≡ name = (bytes_decides word name).0 t in
          ap is_some (ap (place_before i) (sym same) ∙ sym (places word))

      -- a word that has a place keeps it
      pub place_kept : is_some (found word) ≡ true → (name : List ℕ) → found name ≡ place_before (i + 1) name
      place_kept known name =
          places name ∙ last_kept (place_before i name) (is_word word name) i (λ t. same_place name t ∙ known) ∙ one_further name

      -- a new word gets its place
      pub place_grown : is_some (found word) ≡ false → (name : List ℕ) →
          cond (is_word word name) (Some i) (found name) ≡ place_before (i + 1) name
      place_grown new name =
          ap (λ z. cond (is_word word name) (Some i) z) (places name) ∙
          last_grown (place_before i name) (is_word word name) i (λ t. same_place name t ∙ new) ∙ one_further name

-- the first place of a word
abbrev pub word_place : List (List ℕ) → List ℕ → Option ℕ
word_place words word = position (λ w. is_word w word) words

-- in a list with one more at its head
pub word_place-cons : (w : List ℕ) (words : List (List ℕ)) (word : List ℕ) →
    word_place (w ∷ words) word ≡ place_behind (is_word w word) (word_place words word)
word_place-cons w words word = position-cons (λ z. is_word z word) w words

found : (b : Bool) (r : Option ℕ) → is_some r ≡ true → is_some (place_behind b r) ≡ true
found true r e = refl
found false None e = cc
found false (Some k) e = refl

missed : (r : Option ℕ) → is_some (place_behind false r) ≡ true → is_some r ≡ true
missed None e = e
missed (Some k) e = refl

placed_contained : (words : List (List ℕ)) (word : List ℕ) → is_some (word_place words word) ≡ true → Contains words word
placed_contained [] word e = cc
placed_contained (w ∷ words) word e =
    go (is_word w word) refl (ap is_some (sym (word_place-cons w words word)) ∙ e) (placed_contained words word)
  where
    go : (b : Bool) → is_word w word ≡ b → is_some (place_behind (is_word w word) (word_place words word)) ≡ true →
        (is_some (word_place words word) ≡ true → Contains words word) → Contains (w ∷ words) word
    go true e t h = (0, omega arith, (bytes_decides w word).0 e)
    go false e t h =
        contains_later w words word
        (h (missed (word_place words word) (subst (λ z. is_some (place_behind z (word_place words word)) ≡ true) e t)))

contained_placed : (words : List (List ℕ)) (word : List ℕ) → Contains words word → is_some (word_place words word) ≡ true
contained_placed [] word h = let f : ⊥ = (let l = h.1 in omega arith) in absurd f
contained_placed (w ∷ words) word h =
    ap is_some (word_place-cons w words word) ∙ at h.0 h.1 h.2 (contained_placed words word)
  where
    at : (i : ℕ) → i < length (w ∷ words) → get_or (w ∷ words) i word ≡ word →
        (Contains words word → is_some (word_place words word) ≡ true) →
        is_some (place_behind (is_word w word) (word_place words word)) ≡ true
    at zero l e r = let t : is_word w word ≡ true = (bytes_decides w word).1 e in rw t refl
    at (suc i) l e r = found (is_word w word) (word_place words word) (r (i, omega arith, e))

-- a word has a place exactly where it is in the list
pub placed_where_contained : (words : List (List ℕ)) (word : List ℕ) (b : Bool) → is_some (word_place words word) ≡ b →
    IsTrue b ↔ Contains words word
placed_where_contained words word b e = ((λ t. placed_contained words word (e ∙ t)), (λ h. sym e ∙ contained_placed words word h))
