-- A text that is read from its front.
use Rattle.std.proofs.Common.{◌≡◌, ◌∙◌, ℕ, ◌+◌, ◌-◌, ◌<◌, List, [], ◌∷◌, ◌++◌, Bool, true, false, cond, not, ◌&&◌, ◌==◌, Option, Some, None, option_map, length, IsUtf8, IsCharBoundary, chars, encode_utf8, encode_utf8_all, refl, sym, ap, subst, arith, append_assoc, append-nil, length-append}
use Rattle.std.proofs.lemmas.List.{append_cancel_right}
use Rattle.std.proofs.lemmas.Str.{chars-append, encodes-chars, encodes-append, chars_past_char, IsUtf8-past_char, IsCharBoundary-at_seam}
use Rattle.ig_notation_syntax.specs.Scanner.{run, past, body, with_first}
use Rattle.ig_notation_syntax.specs.Steps.{Begins, IsSplit, IsBehind, IsCut, belongs}
use Rattle.ig_notation_syntax.specs.declared.characters.Run.{Run}

pub begins : (text : List ℕ) (c : ℕ) (rest : List ℕ) → IsUtf8 text → text ≡ encode_utf8 c ++ rest → Begins text c rest
begins text c rest u e =
    record {
      bytes = e;
      whole = IsUtf8-past_char text rest c u e;
      spelled = chars_past_char text rest c u e;
    }

pub shorter : (text : List ℕ) (c : ℕ) (rest : List ℕ) → Begins text c rest → length (chars rest) < length (chars text)
shorter text c rest b = rw b.spelled (omega arith)

-- where the characters are a front and those of the rest, so are the bytes
pub behind : (text rest front : List ℕ) → IsUtf8 text → IsUtf8 rest → chars text ≡ front ++ chars rest → IsBehind text rest
behind text rest front u v e =
    record {
      front = encode_utf8_all front;
      parts =
          sym (encodes-chars text u) ∙ ap encode_utf8_all e ∙ encodes-append front (chars rest) ∙
          ap (λ (z : List ℕ). encode_utf8_all front ++ z) (encodes-chars rest v);
      whole = v;
    }

pub boundary : (text rest : List ℕ) (n : ℕ) → IsBehind text rest → n ≡ length text - length rest → IsCharBoundary text n
boundary text rest n b e =
    let l : length text ≡ length b.front + length rest = ap length b.parts ∙ length-append b.front rest in
    let m : length b.front ≡ n = omega arith in
    subst (IsCharBoundary text) m (IsCharBoundary-at_seam text b.front rest b.parts b.whole)

-- a run and what stands behind it are the text
pub run_past : (p : ℕ → Bool) (cs : List ℕ) → run p cs ++ past p cs ≡ cs
run_past p [] = refl
run_past p (c ∷ cs) =
    (elim (p c) as (λ v. cond v (c ∷ run p cs) [] ++ cond v (past p cs) (c ∷ cs) ≡ c ∷ cs) [
      | true ↦ ap (λ (z : List ℕ). c ∷ z) (run_past p cs)
      | false ↦ refl
    ])

pub past_more : (p : ℕ → Bool) (text after : List ℕ) (c : ℕ) → text ≡ c ∷ after → p c ≡ true → past p text ≡ past p after
past_more p text after c e t = rw (e, t) refl

pub past_stops : (p : ℕ → Bool) (text after : List ℕ) (c : ℕ) → text ≡ c ∷ after → p c ≡ false → past p text ≡ text
past_stops p text after c e t = rw (e, t) refl

pub past_ends : (p : ℕ → Bool) (text : List ℕ) → text ≡ [] → past p text ≡ text
past_ends p text e = rw e refl

pub run_behind : (p : ℕ → Bool) (text rest : List ℕ) → IsUtf8 text → IsUtf8 rest → past p (chars text) ≡ chars rest →
    IsBehind text rest
run_behind p text rest u v e =
    behind text rest (run p (chars text)) u v
    (sym (run_past p (chars text)) ∙ ap (λ (z : List ℕ). run p (chars text) ++ z) e)

pub split_is : (kind : Run) (text front rest : List ℕ) → IsUtf8 front → IsUtf8 rest → text ≡ front ++ rest →
    past (belongs kind) (chars text) ≡ chars rest → IsSplit kind text front rest
split_is kind text front rest u v e h =
    let p = belongs kind in
    let whole : run p (chars text) ++ chars rest ≡ chars front ++ chars rest =
    ap (λ (z : List ℕ). run p (chars text) ++ z) (sym h) ∙ run_past p (chars text) ∙ ap chars e ∙ chars-append front rest u in
    record {
      whole_front = u;
      whole_rest = v;
      front_is = sym (append_cancel_right (run p (chars text)) (chars front) (chars rest) whole);
      rest_is = sym h;
    }

-- what stands before the rest belongs to the body, which goes on in the rest
abbrev pub after_front : List ℕ → List ℕ × List ℕ → List ℕ × List ℕ
after_front front parts = (front ++ parts.0, parts.1)

pub record IsOpen (stop : ℕ) (text rest : List ℕ) (is_escaped : Bool) : Type 0 where
  pub front : List ℕ
  pub parts : chars text ≡ front ++ chars rest
  pub goes_on : body stop false (chars text) ≡ option_map (after_front front) (body stop is_escaped (chars rest))

same_body : (r : Option (List ℕ × List ℕ)) → r ≡ option_map (after_front []) r
same_body None = refl
same_body (Some parts) = refl

pub open_begin : (stop : ℕ) (text : List ℕ) → IsOpen stop text text false
open_begin stop text = record { front = []; parts = refl; goes_on = same_body (body stop false (chars text)) }

one_further : (front : List ℕ) (c : ℕ) (r : Option (List ℕ × List ℕ)) →
    option_map (after_front front) (option_map (with_first c) r) ≡ option_map (after_front (front ++ c ∷ [])) r
one_further front c None = refl
one_further front c (Some parts) =
    ap (λ (z : List ℕ). Some (z, parts.1)) (sym (append_assoc front (c ∷ []) parts.0))

pub open_more : (stop : ℕ) (text rest after : List ℕ) (c : ℕ) (is_escaped closes opens : Bool) → IsOpen stop text rest is_escaped →
    Begins rest c after → closes ≡ (not is_escaped && (c == stop)) → closes ≡ false →
    opens ≡ (not is_escaped && (c == 92)) → IsOpen stop text after opens
open_more stop text rest after c is_escaped closes opens o b e f g =
    record {
      front = o.front ++ c ∷ [];
      parts =
          o.parts ∙ ap (λ (z : List ℕ). o.front ++ z) b.spelled ∙
          sym (append_assoc o.front (c ∷ []) (chars after));
      goes_on =
          let h : (not is_escaped && (c == stop)) ≡ false = sym e ∙ f in
          let step : body stop is_escaped (chars rest) ≡ option_map (with_first c) (body stop opens (chars after)) =
          rw (b.spelled, h, g) refl in
          o.goes_on ∙ ap (option_map (after_front o.front)) step ∙
          one_further o.front c (body stop opens (chars after));
    }

pub open_behind : (stop : ℕ) (text rest : List ℕ) (is_escaped : Bool) → IsUtf8 text → IsUtf8 rest →
    IsOpen stop text rest is_escaped → IsBehind text rest
open_behind stop text rest is_escaped u v o = behind text rest o.front u v o.parts

pub cut_here : (stop : ℕ) (text rest inside after : List ℕ) (c : ℕ) (is_escaped closes : Bool) →
    IsOpen stop text rest is_escaped → Begins rest c after → closes ≡ (not is_escaped && (c == stop)) → closes ≡ true →
    IsUtf8 inside → text ≡ inside ++ rest → IsCut stop text inside after
cut_here stop text rest inside after c is_escaped closes o b e t u p =
    let h : (not is_escaped && (c == stop)) ≡ true = sym e ∙ t in
    let step : body stop is_escaped (chars rest) ≡ Some ([], chars after) = rw (b.spelled, h) refl in
    let front : o.front ≡ chars inside =
    append_cancel_right o.front (chars inside) (chars rest) (sym o.parts ∙ ap chars p ∙ chars-append inside rest u) in
    record {
      whole_inside = u;
      whole_rest = b.whole;
      cut =
          o.goes_on ∙ ap (option_map (after_front o.front)) step ∙
          ap (λ (z : List ℕ). Some (z, chars after)) (append-nil o.front ∙ front);
    }

pub cut_never : (stop : ℕ) (text rest : List ℕ) (is_escaped : Bool) → IsOpen stop text rest is_escaped → chars rest ≡ [] →
    body stop false (chars text) ≡ None
cut_never stop text rest is_escaped o e =
    o.goes_on ∙ ap (λ (z : List ℕ). option_map (after_front o.front) (body stop is_escaped z)) e
