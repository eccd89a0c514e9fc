-- Names that passes add are no names of the notation, and tell their declarations and their numbers.
use Rattle.std.proofs.Common.{◌≡◌, ◌∙◌, ℕ, zero, suc, ◌<◌, List, [], ◌∷◌, ◌++◌, Bool, true, false, refl, sym, ap, subst, arith, lit<, length, get_or}
use Rattle.std.specs.Prelude.{codes, decimal, Contains}
use Rattle.std.specs.List.{list_all}
use Rattle.std.proofs.lemmas.Fmt.{decimal_injective}
use Rattle.std.proofs.lemmas.List.Elements.{Contains-append_right}
use Rattle.std.proofs.lemmas.Bool.{and_right, and_left}
use Rattle.std.proofs.Math.Bool.{and-false}
use Rattle.unicode_ident.specs.Ident.{is_xid_start, is_xid_continue}
use Rattle.unicode_ident.proofs.IdentLemmas.{is_xid_start-ascii, is_xid_continue-ascii}
use Rattle.ig_text.proofs.Lists.{none_in_nil, contains_later, contains_first}
use Rattle.ig_grammar.specs.Name.{is_name, is_identifier}
use Rattle.ig_grammar.specs.Names.{names}
use Rattle.ig_grammar.specs.declared.grammar.Grammar.{Grammar}
use Rattle.ig_pass.specs.Added.{root_name, dot, number_sign, added_name, IsFresh, HasNoSign, numbers_bound, AddedNamesAreNew}

no_start : (c : ℕ) (cs : List ℕ) → is_xid_start c ≡ false → is_name (c ∷ cs) ≡ false
no_start c cs e = rw e refl

all_refused : (p : ℕ → Bool) (xs ys : List ℕ) (c : ℕ) → p c ≡ false → list_all p (xs ++ c ∷ ys) ≡ false
all_refused p [] ys c e = rw e refl
all_refused p (x ∷ xs) ys c e = rw (all_refused p xs ys c e) (and-false (p x))

-- where a character stands with which no name begins or goes on
no_name : (before after : List ℕ) (c : ℕ) → is_xid_start c ≡ false → is_xid_continue c ≡ false → is_name (before ++ c ∷ after) ≡ false
no_name [] after c s e = no_start c after s
no_name (b ∷ before) after c s e =
    and_left (is_identifier (b ∷ (before ++ c ∷ after))) _
    (and_right (is_xid_start b) (list_all is_xid_continue (before ++ c ∷ after)) (all_refused is_xid_continue before after c e))

pub root_is_no_name : is_name root_name ≡ false
root_is_no_name = no_start 36 (codes "root") (is_xid_start-ascii 36 (lit< tt))

dotted_is_no_name : (before after : List ℕ) → is_name (before ++ dot ∷ after) ≡ false
dotted_is_no_name before after = no_name before after 46 (is_xid_start-ascii 46 (lit< tt)) (is_xid_continue-ascii 46 (lit< tt))

signed_is_no_name : (before after : List ℕ) → is_name (before ++ number_sign ∷ after) ≡ false
signed_is_no_name before after = no_name before after 35 (is_xid_start-ascii 35 (lit< tt)) (is_xid_continue-ascii 35 (lit< tt))

is_fresh : (g : Grammar) (name : List ℕ) → ((declared : List ℕ) → Contains (names g.decls) declared → is_name declared ≡ true) →
    is_name name ≡ false → IsFresh g name
is_fresh g name each none declared = let e : true ≡ false = sym (each name declared) ∙ none in cc

-- where a member stands, it has a beginning before it
parted : (xs : List ℕ) (x k : ℕ) → k < length xs → get_or xs k x ≡ x → (before : List ℕ) × (after : List ℕ) × (xs ≡ before ++ x ∷ after)
parted [] x k l e = absurd (omega (arith, l))
parted (y ∷ ys) x zero l e = ([], ys, ap (λ z. z ∷ ys) e)
parted (y ∷ ys) x (suc k) l e = let r = parted ys x k (omega (arith, l)) e in (y ∷ r.0, r.1, ap (λ zs. y ∷ zs) r.2)

unsigned : (name : List ℕ) → is_name name ≡ true → HasNoSign name
unsigned name e m =
    let p = parted name number_sign m.0 m.1 m.2 in
    let f : true ≡ false = sym e ∙ ap is_name p.2 ∙ signed_is_no_name p.0 p.1 in cc

another : (c : ℕ) (cs : List ℕ) → (c ≡ number_sign → ⊥) → HasNoSign cs → HasNoSign (c ∷ cs)
another c cs n rest (zero, l, e) = n e
another c cs n rest (suc k, l, e) = rest (k, omega (arith, l), e)

root_unsigned : HasNoSign root_name
root_unsigned =
    another 36 (114 ∷ 111 ∷ 111 ∷ 116 ∷ []) (λ e. omega (arith, e))
    (another 114 (111 ∷ 111 ∷ 116 ∷ []) (λ e. omega (arith, e))
    (another 111 (111 ∷ 116 ∷ []) (λ e. omega (arith, e))
    (another 111 (116 ∷ []) (λ e. omega (arith, e))
    (another 116 [] (λ e. omega (arith, e)) (none_in_nil number_sign)))))

-- what stands before the sign, and what behind it
sides_of_sign : (a b us vs : List ℕ) → HasNoSign a → HasNoSign b → a ++ number_sign ∷ us ≡ b ++ number_sign ∷ vs → (a ≡ b) × (us ≡ vs)
sides_of_sign [] [] us vs n m e = (refl, cc)
sides_of_sign [] (c ∷ b) us vs n m e = absurd (m (let f : 35 ≡ c = cc in subst (λ z. Contains (z ∷ b) number_sign) f (contains_first number_sign b)))
sides_of_sign (c ∷ a) [] us vs n m e = absurd (n (let f : 35 ≡ c = cc in subst (λ z. Contains (z ∷ a) number_sign) f (contains_first number_sign a)))
sides_of_sign (c ∷ a) (d ∷ b) us vs n m e =
    let r = sides_of_sign a b us vs (λ h. n (contains_later c a number_sign h)) (λ h. m (contains_later d b number_sign h)) (cc) in
    let f : c ≡ d = cc in
    (ap (λ z. c ∷ z) r.0 ∙ ap (λ z. z ∷ b) f, r.1)

apart : (a b : List ℕ) (j k : ℕ) → HasNoSign a → HasNoSign b → j < numbers_bound → k < numbers_bound →
    added_name a j ≡ added_name b k → (a ≡ b) × (j ≡ k)
apart a b j k n m l h e = let r = sides_of_sign a b (decimal j) (decimal k) n m e in (r.0, decimal_injective j k l h r.1)

signed : (a b : List ℕ) (k : ℕ) → HasNoSign a → a ≡ added_name b k → ⊥
signed a b k n e =
    n (subst (λ z. Contains z number_sign) (sym e) (Contains-append_right b (number_sign ∷ decimal k) number_sign (contains_first number_sign (decimal k))))

pub added_names : AddedNamesAreNew
added_names =
    record {
      root = root_is_no_name;
      dotted = dotted_is_no_name;
      numbered = λ name k. signed_is_no_name name (decimal k);
      fresh = is_fresh;
      unsigned = unsigned;
      root_unsigned = root_unsigned;
      apart = apart;
      signed = signed;
    }
