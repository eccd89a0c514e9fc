-- So many parts, one after another.
use Rattle.std.proofs.Common.{◌≡◌, ℕ, suc, ◌+◌, ◌<◌, ◌++◌, List, [], ◌∷◌, refl, sym, ap, ◌∙◌, subst, length, arith}
use Rattle.std.specs.List.{AllByRecursion}
use Rattle.std.proofs.lemmas.List.{append_assoc, append-nil, length-append}
use Rattle.ig_text.specs.Limits.{numbers_end}
use Rattle.ig_text.specs.Pairwise as pairs
use Rattle.ig_text.specs.Pairwise.{Each}
use Rattle.ig_show_texts.specs.Listed.{numbered_texts}
use Rattle.ig_forest_reader.specs.Runs.{Stops}
use Rattle.ig_forest_reader.specs.Shown.{PartRead, PartsRead, NoPart, NoParts}
use Rattle.ig_forest_reader.proofs.LinesLeft.{joined_parts}

-- one more pair
each_more : {S A : Type 0} (P : S → A → Type 0) (xs : List S) (ys : List A) (x : S) (y : A) → Each P xs ys → P x y →
    Each P (xs ++ x ∷ []) (ys ++ y ∷ [])
each_more P [] [] x y pairs.none p = pairs.more x y [] [] p pairs.none
each_more P [] (b ∷ ys) x y e p = elim e [ ]
each_more P (a ∷ xs) [] x y e p = elim e [ ]
each_more P (a ∷ xs) (b ∷ ys) x y (pairs.more _ _ _ _ q e) p =
    pairs.more a b (xs ++ x ∷ []) (ys ++ y ∷ []) q (each_more P xs ys x y e p)

pub each_weaker : {S A : Type 0} (P Q : S → A → Type 0) → ((x : S) (y : A) → P x y → Q x y) → (xs : List S) (ys : List A) → Each P xs ys →
    Each Q xs ys
each_weaker P Q f [] [] pairs.none = pairs.none
each_weaker P Q f [] (y ∷ ys) e = elim e [ ]
each_weaker P Q f (x ∷ xs) [] e = elim e [ ]
each_weaker P Q f (x ∷ xs) (y ∷ ys) (pairs.more _ _ _ _ p e) = pairs.more x y xs ys (f x y p) (each_weaker P Q f xs ys e)

pub none_paired : {S A : Type 0} (P : S → A → Type 0) (xs : List S) → xs ≡ [] → Each P xs []
none_paired P [] e = pairs.none
none_paired P (x ∷ xs) e = absurd (cc)

-- numbered texts, and one more
numbered_more : {A : Type 0} (shown : ℕ → A → List ℕ) (k : ℕ) (xs : List A) (x : A) (us : List ℕ) (m : ℕ) → m ≡ k + length xs →
    numbered_texts shown k (xs ++ x ∷ []) ++ us ≡ numbered_texts shown k xs ++ (shown m x ++ us)
numbered_more shown k [] x us m e =
    let same : k ≡ m = omega (arith, e) in
    append_assoc (shown k x) [] us ∙ ap (λ (n : ℕ). shown n x ++ us) same
numbered_more shown k (y ∷ xs) x us m e =
    append_assoc (shown k y) (numbered_texts shown (suc k) (xs ++ x ∷ [])) us ∙
    ap (λ (z : List ℕ). shown k y ++ z) (numbered_more shown (suc k) xs x us m (omega (arith, e))) ∙
    sym (append_assoc (shown k y) (numbered_texts shown (suc k) xs) (shown m x ++ us))

module _ {A : Type 0} (In : A → Type 0) (shown : ℕ → A → List ℕ) where
  -- what is left to be read
  pub record Remains (n : ℕ) (us rest : List ℕ) (all whole : List A) : Type 0 where
    pub others : List A
    pub meant : AllByRecursion In others
    pub sum : all ++ others ≡ whole
    pub here : rest ≡ numbered_texts shown n others ++ us

module _ {S A : Type 0} (Shows : S → A → Type 0) (In : A → Type 0) (shown : ℕ → A → List ℕ) (Goes : ℕ → Type 0) where
  -- so many were read, of a larger number
  pub record SoFar (n many : ℕ) (bytes rest : List ℕ) (parts : List S) : Type 0 where
    pub all : List A
    pub show : Each Shows parts all
    pub meant : AllByRecursion In all
    pub long : length all ≡ n
    pub spelled : bytes ≡ numbered_texts shown 0 all ++ rest
    pub told : (xs : List A) (us : List ℕ) → length xs ≡ many → AllByRecursion In xs → Stops Goes us →
        bytes ≡ numbered_texts shown 0 xs ++ us → Remains In shown n us rest all xs

  pub none_so_far : (many : ℕ) (bytes : List ℕ) (parts : List S) → parts ≡ [] → SoFar 0 many bytes bytes parts
  none_so_far many bytes parts none =
      record {
        all = [];
        show = none_paired Shows parts none;
        meant = tt;
        long = refl;
        spelled = refl;
        told = λ xs us long small stops e. record { others = xs; meant = small; sum = refl; here = e };
      }

  ended : (n : ℕ) (us rest : List ℕ) (all whole others : List A) → length all ≡ n → length whole ≡ n →
      all ++ others ≡ whole → rest ≡ numbered_texts shown n others ++ us → (all ≡ whole) × (rest ≡ us)
  ended n us rest all whole [] long full sum here = (sym (append-nil all) ∙ sum, here)
  ended n us rest all whole (y ∷ others) long full sum here =
      let e = sym (length-append all (y ∷ others)) ∙ ap length sum in
      absurd (omega (arith, e, long, full))

  pub all_read : (many n : ℕ) (bytes rest : List ℕ) (parts : List S) → n ≡ many → SoFar n many bytes rest parts →
      PartsRead Shows In shown Goes many bytes rest parts
  all_read many n bytes rest parts same s =
      record {
        all = s.all;
        show = s.show;
        meant = s.meant;
        long = s.long ∙ same;
        spelled = s.spelled;
        told = λ xs us long small stops e.
            let left = s.told xs us long small stops e in
            ended n us rest s.all xs left.others s.long (long ∙ sym same) left.sum left.here;
      }

  -- at the next part, where there are more
  pub record Next (n : ℕ) (us rest : List ℕ) (all whole : List A) : Type 0 where
    pub first : A
    pub others : List A
    pub meant : In first
    pub others_meant : AllByRecursion In others
    pub sum : all ++ (first ∷ others) ≡ whole
    pub here : rest ≡ shown n first ++ (numbered_texts shown (suc n) others ++ us)

  next_of : (n many : ℕ) (us rest : List ℕ) (all whole others : List A) → length all ≡ n → length whole ≡ many → n < many →
      AllByRecursion In others → all ++ others ≡ whole → rest ≡ numbered_texts shown n others ++ us → Next n us rest all whole
  next_of n many us rest all whole [] long full less small sum here =
      let e = ap length (append-nil all) ∙ long in
      let f = ap length sum ∙ full in
      absurd (omega (arith, e, f, less))
  next_of n many us rest all whole (y ∷ others) long full less small sum here =
      record {
        first = y;
        others = others;
        meant = small.0;
        others_meant = small.1;
        sum = sum;
        here = here ∙ append_assoc (shown n y) (numbered_texts shown (suc n) others) us;
      }

  module _ (stops : (k : ℕ) (x : A) (us : List ℕ) → Stops Goes (shown k x ++ us)) where
    others_stop : (k : ℕ) (xs : List A) (us : List ℕ) → Stops Goes us → Stops Goes (numbered_texts shown k xs ++ us)
    others_stop k [] us s = s
    others_stop k (x ∷ xs) us s =
        subst (Stops Goes) (sym (append_assoc (shown k x) (numbered_texts shown (suc k) xs) us)) (stops k x _)

    pub no_more : (n many : ℕ) (bytes rest : List ℕ) (parts : List S) → n < many → many < numbers_end →
        SoFar n many bytes rest parts → NoPart Shows In shown Goes n rest → NoParts Shows In shown Goes many bytes
    no_more n many bytes rest parts less few s none xs us long small end e =
        let left = s.told xs us long small end e in
        let x = next_of n many us rest s.all xs left.others s.long long less left.meant left.sum left.here in
        none x.first (numbered_texts shown (suc n) x.others ++ us) (omega (arith, less, few)) x.meant
        (others_stop (suc n) x.others us end) x.here

    pub one_more : (n many : ℕ) (bytes rest after : List ℕ) (parts new : List S) → n < many → many < numbers_end →
        SoFar n many bytes rest parts → PartRead Shows In shown Goes n rest after parts new → SoFar (n + 1) many bytes after new
    one_more n many bytes rest after parts new less few s read =
        record {
          all = s.all ++ read.it ∷ [];
          show = subst (λ (z : List S). Each Shows z (s.all ++ read.it ∷ [])) (sym read.added)
              (each_more Shows parts s.all read.part read.it s.show read.shows);
          meant = joined_parts In s.all (read.it ∷ []) s.meant (read.meant, tt);
          long = length-append s.all (read.it ∷ []) ∙ ap (λ (m : ℕ). m + 1) s.long;
          spelled =
              s.spelled ∙ ap (λ (z : List ℕ). numbered_texts shown 0 s.all ++ z) read.spelled ∙
              sym (numbered_more shown 0 s.all read.it after n (let long = s.long in omega (arith, long)));
          told = λ xs us long small end e.
              let left = s.told xs us long small end e in
              let x = next_of n many us rest s.all xs left.others s.long long less left.meant left.sum left.here in
              let same = read.told x.first (numbered_texts shown (suc n) x.others ++ us) (omega (arith, less, few)) x.meant
              (others_stop (suc n) x.others us end) x.here in
              let next : suc n ≡ n + 1 = omega arith in
              record {
                others = x.others;
                meant = x.others_meant;
                sum = append_assoc s.all (read.it ∷ []) x.others ∙ ap (λ (z : A). s.all ++ (z ∷ x.others)) same.0 ∙ x.sum;
                here = same.1 ∙ ap (λ (m : ℕ). numbered_texts shown m x.others ++ us) next;
              };
        }

-- what shows parts may change, where it shows the same
pub so_far_kept : {S A : Type 0} (Shows Still : S → A → Type 0) (In : A → Type 0) (shown : ℕ → A → List ℕ) (Goes : ℕ → Type 0)
    (n many : ℕ) (bytes rest : List ℕ) (parts : List S) → ((x : S) (y : A) → Shows x y → Still x y) →
    SoFar Shows In shown Goes n many bytes rest parts → SoFar Still In shown Goes n many bytes rest parts
so_far_kept Shows Still In shown Goes n many bytes rest parts still s =
    record { all = s.all; show = each_weaker Shows Still still parts s.all s.show; meant = s.meant; long = s.long; spelled = s.spelled; told = s.told }
