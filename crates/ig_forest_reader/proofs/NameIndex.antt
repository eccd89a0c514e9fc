-- The index of names, as it is made.
use Rattle.std.proofs.Common.{◌≡◌, ◌⊎◌, inl, inr, ℕ, ◌+◌, ◌<◌, ◌≤◌, List, [], Some, None, Bool, true, false, cond, refl, sym, ap, ◌∙◌, length, slice_get, arith}
use Rattle.std.specs.Prelude.{bytes_eq, encode_utf8_all}
use Rattle.std.specs.Cmp.Lexicographic.{slice_cmp}
use Rattle.std.specs.Ordering.{nat_cmp}
use Rattle.std.specs.BTreeMap as tree
use Rattle.std.specs.BTreeMap.{BTreeMap}
use denote.Ref.{Bor}
use Rattle.std.proofs.lemmas.Slice.Eq.{bytes_eq-Decides}
use Rattle.std.proofs.lemmas.Map.Text.{btree_map_updates_str}
use Rattle.std.proofs.lemmas.Option.{same_Some, none-some, slice_get_within}
use Rattle.ig_item.specs.declared.core_grammar.Nonterminal.{Nonterminal}
use Rattle.ig_forest_reader.specs.Shown.{FindsNames, IsIndex, lookup, number_at}
use Rattle.ig_forest_reader.specs.declared.names.NameTable.{NameTable}
use Rattle.ig_forest_reader.specs.Written.{IsNamed, TellsNames}
use Rattle.ig_forest_reader.proofs.TellingLines.{named_there}

-- the index has the nonterminals with smaller numbers
pub record IndexBelow (core : List Nonterminal) (n : ℕ) (index : BTreeMap (Bor (List ℕ)) ℕ) : Type 0 where
  pub finds : (m : ℕ) (x : Nonterminal) → m < n → slice_get core m ≡ Some x → number_at index (encode_utf8_all x.name) ≡ Some m
  pub there : (bytes : List ℕ) (m : ℕ) → number_at index bytes ≡ Some m → m < n
  pub names : (bytes : List ℕ) (m : ℕ) (x : Nonterminal) → number_at index bytes ≡ Some m → slice_get core m ≡ Some x →
      bytes ≡ encode_utf8_all x.name

pub index_begins : (core : List Nonterminal) (index : BTreeMap (Bor (List ℕ)) ℕ) → index.entries ≡ [] → IndexBelow core 0 index
index_begins core index empty =
    let none : (bytes : List ℕ) → number_at index bytes ≡ None = λ bytes. rw empty refl in
    record {
      finds = λ m x less there. absurd (omega (arith, less));
      there = λ bytes m e. absurd (none-some _ (sym (none bytes) ∙ e));
      names = λ bytes m x e there. absurd (none-some _ (sym (none bytes) ∙ e));
    }

below_next : (m n : ℕ) → m < n + 1 → (m < n) ⊎ (m ≡ n)
below_next m n lt = grind arith

pub index_grows : (core : List Nonterminal) (n : ℕ) (x : Nonterminal) (m t : BTreeMap (Bor (List ℕ)) ℕ) (bytes : List ℕ) →
    TellsNames core → slice_get core n ≡ Some x → bytes ≡ encode_utf8_all x.name → IndexBelow core n m →
    tree.UpdatesBy (λ x y. slice_cmp nat_cmp x.now y.now) (λ k. slice_cmp nat_cmp bytes k.now) m t (Some n) →
    IndexBelow core (n + 1) t
index_grows core n x m t bytes tells at is below u =
    record {
      finds = λ k y less there.
          elim (below_next k n less) [
            | inl before ↦ other k y (encode_utf8_all y.name)
                (λ same. (let e = tells.differ n k x y at there (sym is ∙ same) in omega (arith, e, before)))
                (below.finds k y before there) (bytes_eq bytes (encode_utf8_all y.name)) refl (updated (encode_utf8_all y.name))
            | inr same ↦
                let one : x ≡ y = same_Some x y (sym at ∙ ap (slice_get core) (sym same) ∙ there) in
                here k (encode_utf8_all y.name) (is ∙ ap (λ (z : Nonterminal). encode_utf8_all z.name) one) same
                (bytes_eq bytes (encode_utf8_all y.name)) refl (updated (encode_utf8_all y.name))
          ];
      there = λ key k e. within key k e (bytes_eq bytes key) (updated key);
      names = λ key k y e there. named key k y e there (bytes_eq bytes key) refl (updated key);
    }
  where
    updated : (key : List ℕ) → number_at t key ≡ cond (bytes_eq bytes key) (Some n) (number_at m key)
    updated key = btree_map_updates_str bytes m t (Some n) u key

    other : (k : ℕ) (y : Nonterminal) (key : List ℕ) → (bytes ≡ key → ⊥) → number_at m key ≡ Some k → (b : Bool) →
        bytes_eq bytes key ≡ b → number_at t key ≡ cond (bytes_eq bytes key) (Some n) (number_at m key) → number_at t key ≡ Some k
    other k y key differs found true q e = absurd (differs ((bytes_eq-Decides bytes key).0 q))
    other k y key differs found false q e = e ∙ ap (λ (b : Bool). cond b (Some n) (number_at m key)) q ∙ found

    here : (k : ℕ) (key : List ℕ) → bytes ≡ key → k ≡ n → (b : Bool) → bytes_eq bytes key ≡ b →
        number_at t key ≡ cond (bytes_eq bytes key) (Some n) (number_at m key) → number_at t key ≡ Some k
    here k key same place b q e =
        e ∙ ap (λ (z : Bool). cond z (Some n) (number_at m key)) ((bytes_eq-Decides bytes key).1 same) ∙ ap Some (sym place)

    within : (key : List ℕ) (k : ℕ) → number_at t key ≡ Some k → (b : Bool) →
        number_at t key ≡ cond b (Some n) (number_at m key) → k < n + 1
    within key k found true e = let same = same_Some n k (sym e ∙ found) in omega (arith, same)
    within key k found false e = let less = below.there key k (sym e ∙ found) in omega (arith, less)

    named : (key : List ℕ) (k : ℕ) (y : Nonterminal) → number_at t key ≡ Some k → slice_get core k ≡ Some y → (b : Bool) →
        bytes_eq bytes key ≡ b → number_at t key ≡ cond b (Some n) (number_at m key) → key ≡ encode_utf8_all y.name
    named key k y found there true q e =
        let same : n ≡ k = same_Some n k (sym e ∙ found) in
        let one : x ≡ y = same_Some x y (sym at ∙ ap (slice_get core) same ∙ there) in
        sym ((bytes_eq-Decides bytes key).0 q) ∙ is ∙ ap (λ (z : Nonterminal). encode_utf8_all z.name) one
    named key k y found there false q e = below.names key k y (sym e ∙ found) there

pub index_whole : (core : List Nonterminal) (n : ℕ) (index : BTreeMap (Bor (List ℕ)) ℕ) → length core ≤ n → n ≤ length core →
    IndexBelow core n index → FindsNames core index
index_whole core n index past upto below =
    record {
      finds = λ m x at. (let within = slice_get_within core m x at in below.finds m x (omega (arith, within, past)) at);
      there = λ bytes m e. (let less = below.there bytes m e in omega (arith, less, upto));
      names = below.names;
    }

pub found_name : (core : List Nonterminal) (index : NameTable) (n : ℕ) (name word : List ℕ) → IsIndex core index →
    IsNamed core n name → word ≡ encode_utf8_all name → lookup index word ≡ Some n
found_name core index n name word is named same =
    let x = named_there (slice_get core n) name named in
    ap (lookup index) (same ∙ ap encode_utf8_all (sym x.2)) ∙ is.numbers.finds n x.0 x.1

-- a name that was guessed is the one that is found
pub guessed_name : (core : List Nonterminal) (index : NameTable) (n : ℕ) (x : Nonterminal) (word : List ℕ) → IsIndex core index →
    slice_get index.nonterminals.now n ≡ Some x → word ≡ encode_utf8_all x.name → Some n ≡ lookup index word
guessed_name core index n x word is at same =
    sym (ap (lookup index) same ∙ is.numbers.finds n x (ap (λ (z : List Nonterminal). slice_get z n) (sym is.same) ∙ at))
