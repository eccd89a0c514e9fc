-- A word matches at a place exactly where the rest of the text from there begins with the word; how far matches go.
use Rattle.std.proofs.Common.{◌≡◌, ℕ, ◌+◌, ◌-◌, ◌<◌, ◌≤◌, List, ◌++◌, length, take, drop, Bool, true, sym, ◌∙◌, ap, subst, arith, length-drop, length-append}
use Rattle.std.specs.Prelude.{nat_eq}
use Rattle.std.specs.List.{starts_with}
use Rattle.std.proofs.Math.ListN.{length-take}
use Rattle.std.proofs.Math.Seq.{take-append_seam}
use Rattle.std.proofs.lemmas.List.{take-append-drop}
use Rattle.std.proofs.lemmas.Slice.Eq.{starts_is}
use Rattle.std.proofs.lemmas.Bool.Decides.{Decides-eqb}
use Rattle.std.proofs.lemmas.Option.{slice_get_within}
use Rattle.ig_text.specs.Input.{Input}
use Rattle.ig_text.specs.Pattern.{Matches}
use Rattle.ig_text.specs.Place.{Spells}
use Rattle.ig_text.specs.declared.pattern.Pattern.{Pattern}
use Rattle.ig_text.specs.declared.pattern.Pattern.TheVariants.{Literal, OneOf}

begins : (word rest : List ℕ) (r : Bool) → r ≡ starts_with nat_eq rest word → r ≡ true →
    rest ≡ word ++ drop (length word) rest
begins word rest r e t = (starts_is Decides-eqb rest word r e).0 t

cut : (word rest more : List ℕ) (n : ℕ) → n ≡ length word → rest ≡ word ++ more → take n rest ≡ word
cut word rest more n e h = rw (e, h) (take-append_seam word more)

-- a word with which the rest of the text begins is spelled there
pub spells_by_start : (text : Input) (word rest : List ℕ) (i : ℕ) (r : Bool) → rest ≡ drop i text.characters → i ≤ length text.characters →
    r ≡ starts_with nat_eq rest word → r ≡ true → Spells text word i (i + length word)
spells_by_start text word rest i r e h s t =
    let b = begins word rest r s t in
    let len : length rest ≡ length word + length (drop (length word) rest) =
    ap length b ∙ length-append word (drop (length word) rest) in
    let whole : length rest ≡ length text.characters - i = ap length e ∙ length-drop i text.characters in
    record {
      onward = omega arith;
      within = omega (arith, len, whole);
      letters =
          subst (λ (z : List ℕ). take (i + length word - i) z ≡ word) e
          (cut word rest (drop (length word) rest) (i + length word - i) (omega arith) b);
    }

-- the rest of the text begins with a word that is spelled there
pub start_by_spells : (text : Input) (word rest : List ℕ) (i j : ℕ) (r : Bool) → rest ≡ drop i text.characters →
    r ≡ starts_with nat_eq rest word → Spells text word i j → r ≡ true
start_by_spells text word rest i j r e s sp =
    (starts_is Decides-eqb rest word r s).1 (drop (j - i) rest)
    (sym (take-append-drop (j - i) rest) ∙ ap (λ (z : List ℕ). z ++ drop (j - i) rest) (rw e sp.letters))

-- a word ends as many characters behind its begin as it has
pub spelled_width : (text : Input) (word : List ℕ) (i j : ℕ) → Spells text word i j → j ≡ i + length word
spelled_width text word i j s =
    let len : length (take (j - i) (drop i text.characters)) ≡ length word = ap length s.letters in
    let onward = s.onward in
    let within = s.within in
    omega (arith, len, length-take (j - i) (drop i text.characters), length-drop i text.characters)

-- a match goes onward, within the text
pub match_goes : (text : Input) (pattern : Pattern) (i j : ℕ) → Matches text pattern i j → (i ≤ j) × (j ≤ length text.characters)
match_goes text (Literal word) i j m = (m.onward, m.within)
match_goes text (OneOf class) i j m =
    let here : i < length text.characters = slice_get_within text.characters i m.character m.there in
    let next : j ≡ i + 1 = m.next in (omega (arith, next), omega (arith, next, here))

-- a pattern matches from a place to one place alone
pub one_end : (text : Input) (pattern : Pattern) (i j k : ℕ) → Matches text pattern i j → Matches text pattern i k → j ≡ k
one_end text (Literal word) i j k m n = spelled_width text word i j m ∙ sym (spelled_width text word i k n)
one_end text (OneOf class) i j k m n = m.next ∙ sym n.next

-- and from one place alone to a place
pub one_begin : (text : Input) (pattern : Pattern) (i k j : ℕ) → Matches text pattern i j → Matches text pattern k j → i ≡ k
one_begin text (Literal word) i k j m n = omega (arith, spelled_width text word i j m, spelled_width text word k j n)
one_begin text (OneOf class) i k j m n =
    let a : j ≡ i + 1 = m.next in let b : j ≡ k + 1 = n.next in omega (arith, a, b)
